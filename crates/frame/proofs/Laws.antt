-- What is left of a walk over the frame, in the order of specs/Frames. `Over F s at whole` says that what F makes of the frame from `at` on is the whole's; one step
-- of `apart` (`parted`) gives the ways out of a turn, and each loop has such an F: what was gathered with the rest (`Looking`), the place of a number (`Going`).
-- Assumes nothing.
use Prim.Native.Nat.{ℕ, zero, suc, pred, ◌+◌, ◌-◌, ◌/◌, ◌%◌, ◌≤◌, ◌<◌}
use mathlib.Core.Path.{◌≡◌, refl, sym, ◌∙◌, ap}
use mathlib.Core.List.{List, [], ◌∷◌}
use mathlib.Core.Bool.{Bool, true, false, false≢true, cond, not, ◌&&◌, ◌||◌}
use lib.Dec.{ltb, leb, eqb}
use lib.ListN.{length, get_or}
use native.Mathlib.Nat.{zero-add}
use native.Mathlib.Omega.{arith}
use borrow.Author.Tests.{eq-eqb, ne_eqb, le-leb, lt-leb, ltb-true, ltb-false, leb-true, eqb-true, eqb-false, not-true, not-false}
use Rattle.std.specs.Prelude.{Option, None, Some}
use Rattle.std.specs.Option.{option_or}
use Rattle.octets.specs.Octets.{octet_of, be16}
use Rattle.subobject.specs.Layout.{kind_of}
use Rattle.octets.proofs.Said.{both_true, or_assoc, or_none}
use Rattle.objects.specs.Objects.{header, unit, class_place, type_place, length_place, type_worth, object_type}
use Rattle.frame.specs.declared.gathering.Facts.{Facts}
use Rattle.frame.specs.Frames.{class_of, headed, fits_in, Apart, ended, unfilled, from, apart, apart_of, kind_at, any_is, other_than, mixed_at}
use Rattle.frame.specs.Gathered.{Found, Placed, PlacedIn, place_of, gathered, found_of, no_facts, seen_of, facts_in, facts_of}

-- the header ---------------------------------------------------------------------------------------------------

-- What a sound header says of the octets' number.
pub record SoundLength (s : List ℕ) : Type 0 where
  pub low : header ≤ length s
  pub four : length s % unit ≡ 0
  pub read : be16 s length_place ≡ length s

pub headed_sized : (ero : Bool) (s : List ℕ) → headed s ero ≡ true → SoundLength s
unfolding headed
headed_sized ero s e =
    let a = both_true (not (ltb (length s) header)) _ e in
    let b = both_true (eqb (octet_of s class_place) (class_of ero)) _ a.1 in
    let c = both_true (eqb (octet_of s type_place / type_worth) object_type) _ b.1 in
    let d = both_true (eqb (be16 s length_place) (length s)) _ c.1 in
    record { low = ltb-false (length s) header (not-true _ a.0); four = eqb-true _ _ d.1; read = eqb-true _ _ d.0 }

-- one subobject ------------------------------------------------------------------------------------------------

-- A subobject that doesn't fit: too long for what is left, no multiple of 4.
pub over_room : (len room : ℕ) → room < len → false ≡ fits_in len room
unfolding fits_in
over_room len room h = go (not (ltb len unit)) (eqb (len % unit) 0)
  where
    go : (a b : Bool) → false ≡ (a && (b && leb len room))
    go true true = sym (lt-leb len room h)
    go true false = refl
    go false b = refl

pub no_multiple : (len room : ℕ) → (len % unit ≡ 0 → ⊥) → false ≡ fits_in len room
unfolding fits_in
no_multiple len room n = rw (ne_eqb (len % unit) 0 n) (go (not (ltb len unit)))
  where
    go : (a : Bool) → false ≡ (a && false)
    go true = refl
    go false = refl

-- and one that fits if it is long enough.
pub long_enough : (len room : ℕ) → len ≤ room → len % unit ≡ 0 → leb unit len ≡ fits_in len room
unfolding fits_in
long_enough len room h e = rw (le-leb len room h, eq-eqb (len % unit) 0 e) (go (ltb len unit) refl)
  where
    go : (b : Bool) → ltb len unit ≡ b → leb unit len ≡ (not b && true)
    go true q = lt-leb unit len (ltb-true len unit q)
    go false q = le-leb unit len (ltb-false len unit q)

pub fits_true : (len room : ℕ) → fits_in len room ≡ true → (unit ≤ len) × (len % unit ≡ 0) × (len ≤ room)
unfolding fits_in
fits_true len room e =
    let h = both_true (not (ltb len unit)) (eqb (len % unit) 0 && leb len room) e in
    let g = both_true (eqb (len % unit) 0) (leb len room) h.1 in
    (ltb-false len unit (not-true _ h.0), eqb-true (len % unit) 0 g.0, leb-true len room g.1)

pub fits_made : (len room : ℕ) → unit ≤ len → len % unit ≡ 0 → len ≤ room → fits_in len room ≡ true
fits_made len room l f r = sym (long_enough len room r f) ∙ le-leb unit len l

-- the frame from a place on ------------------------------------------------------------------------------------

pub parted : (f : ℕ) (s : List ℕ) (at : ℕ) → 0 < f
    → apart s at f ≡ cond (eqb at (length s)) ended (cond (fits_in (octet_of s (at + 1)) (length s - at)) (from at (apart s (at + octet_of s (at + 1)) (pred f))) unfilled)
unfolding apart
parted zero s at h = absurd (omega arith)
parted (suc f) s at h = refl

-- What F makes of the frame from `at` on is `whole`.
pub record Over {A : Type 0} (F : Apart → A) (s : List ℕ) (at : ℕ) (whole : A) : Type 0 where
  pub fuel : ℕ
  pub enough : length s - at < fuel
  pub same : F (apart s at fuel) ≡ whole

pub over_starts : {A : Type 0} (F : Apart → A) (s : List ℕ) → Over F s header (F (apart_of s))
unfolding apart_of
over_starts F s = record { fuel = suc (length s); enough = omega arith; same = refl }

module _ {A : Type 0} {F : Apart → A} {s : List ℕ} {at : ℕ} {whole : A} where
  pub over_ends : Over F s at whole → at ≡ length s → F ended ≡ whole
  over_ends l e = sym (rw (parted l.fuel s at (omega arith), eq-eqb at (length s) e)) ∙ l.same

  pub over_cut : Over F s at whole → (at ≡ length s → ⊥) → fits_in (octet_of s (at + 1)) (length s - at) ≡ false → F unfilled ≡ whole
  over_cut l n h = sym (rw (parted l.fuel s at (omega arith), ne_eqb at (length s) n, h)) ∙ l.same

  pub over_next : Over F s at whole → at < length s → fits_in (octet_of s (at + 1)) (length s - at) ≡ true
      → Over (λ a. F (from at a)) s (at + octet_of s (at + 1)) whole
  over_next l n h = record {
    fuel = pred l.fuel;
    enough = omega (arith, fits_true (octet_of s (at + 1)) (length s - at) h);
    same = sym (rw (parted l.fuel s at (omega arith), ne_eqb at (length s) (omega arith), h)) ∙ l.same;
  }

  pub over_as : Over F s at whole → (G : Apart → A) → ((a : Apart) → F a ≡ G a) → Over G s at whole
  over_as l G e = record { fuel = l.fuel; enough = l.enough; same = sym (e (apart s at l.fuel)) ∙ l.same }

-- A whole frame,
pub sound_starts : (s : List ℕ) → (apart_of s).whole ≡ true → Over (λ a. a.whole) s header true
sound_starts s e = let l = over_starts (λ a. a.whole) s in record { fuel = l.fuel; enough = l.enough; same = l.same ∙ e }

-- in which each subobject fits.
pub sound_fits : {s : List ℕ} {at : ℕ} → Over (λ a. a.whole) s at true → (at ≡ length s → ⊥) → fits_in (octet_of s (at + 1)) (length s - at) ≡ true
sound_fits {s} {at} l n = go (fits_in (octet_of s (at + 1)) (length s - at)) refl
  where
    go : (b : Bool) → fits_in (octet_of s (at + 1)) (length s - at) ≡ b → fits_in (octet_of s (at + 1)) (length s - at) ≡ true
    go true e = e
    go false e = e ∙ over_cut l n e

pub sound_room : {s : List ℕ} {at : ℕ} → Over (λ a. a.whole) s at true → (at ≡ length s → ⊥)
    → (unit ≤ get_or s (at + 1) 0) × (get_or s (at + 1) 0 % unit ≡ 0) × (get_or s (at + 1) 0 ≤ length s - at)
unfolding octet_of
sound_room {s} {at} l n = fits_true (octet_of s (at + 1)) (length s - at) (sound_fits l n)

-- The walk goes on by the length that was read.
pub sound_next : {s : List ℕ} {at len : ℕ} → Over (λ a. a.whole) s at true → at < length s → len ≡ get_or s (at + 1) 0
    → Over (λ a. a.whole) s (at + len) true
unfolding octet_of
sound_next l n e = rw e (over_next l n (sound_fits l (omega arith)))

pub next_by : {A : Type 0} {F : Apart → A} {s : List ℕ} {at len : ℕ} {whole : A} → Over (λ a. a.whole) s at true → Over F s at whole → at < length s
    → len ≡ get_or s (at + 1) 0 → Over (λ a. F (from at a)) s (at + len) whole
unfolding octet_of
next_by g l n e = rw e (over_next l n (sound_fits g (omega arith)))

-- one pass over the frame --------------------------------------------------------------------------------------

-- Whether the type is present among those that are not the first one's.
abbrev pub any_other : (ℕ → ℕ) → ℕ → ℕ → List ℕ → Bool
any_other kinds kind first [] = false
any_other kinds kind first (p ∷ ps) = cond (eqb (kinds p) first) (any_other kinds kind first ps) (eqb (kinds p) kind || any_other kinds kind first ps)

-- The facts gathered, with those of the places that are left.
abbrev pub joined : (ℕ → ℕ) → ℕ → ℕ → Found → List ℕ → Found
joined kinds kind first g ps =
    record {
      whole = g.whole;
      count = g.count + length ps;
      any = g.any || any_other kinds kind first ps;
      other = cond (eqb g.other 0) (other_than kinds ps first) g.other;
    }

abbrev pub look_rest : (ℕ → ℕ) → ℕ → ℕ → Found → Apart → Found
look_rest kinds kind first g a = cond a.whole (joined kinds kind first g a.places) (no_facts false)

first_mixed : (kinds : ℕ → ℕ) (f : ℕ) (s : List ℕ) (at : ℕ) → other_than kinds (apart s at f).places (kinds at) ≡ mixed_at kinds (apart s at f).places
unfolding apart
first_mixed kinds zero s at = refl
first_mixed kinds (suc f) s at = go (eqb at (length s)) (fits_in (octet_of s (at + 1)) (length s - at))
  where
    go : (x y : Bool) → other_than kinds (cond x ended (cond y (from at (apart s (at + octet_of s (at + 1)) f)) unfilled)).places (kinds at)
        ≡ mixed_at kinds (cond x ended (cond y (from at (apart s (at + octet_of s (at + 1)) f)) unfilled)).places
    go true y = refl
    go false false = refl
    go false true = rw (eq-eqb (kinds at) (kinds at) refl)

-- The first one's type is looked for once.
unlike : (kinds : ℕ → ℕ) (kind first : ℕ) (ps : List ℕ) → eqb first kind ≡ false → any_other kinds kind first ps ≡ any_is kinds ps kind
unlike kinds kind first [] e = refl
unlike kinds kind first (p ∷ ps) e = go (eqb (kinds p) first) refl (unlike kinds kind first ps e)
  where
    go : (b : Bool) → eqb (kinds p) first ≡ b → any_other kinds kind first ps ≡ any_is kinds ps kind
        → cond b (any_other kinds kind first ps) (eqb (kinds p) kind || any_other kinds kind first ps) ≡ (eqb (kinds p) kind || any_is kinds ps kind)
    go true q r = rw (eqb-true (kinds p) first q, e) r
    go false q r = rw r

first_once : (kinds : ℕ → ℕ) (kind first : ℕ) (ps : List ℕ) → (eqb first kind || any_other kinds kind first ps) ≡ (eqb first kind || any_is kinds ps kind)
first_once kinds kind first ps = go (eqb first kind) refl
  where
    go : (b : Bool) → eqb first kind ≡ b → (b || any_other kinds kind first ps) ≡ (b || any_is kinds ps kind)
    go true e = refl
    go false e = unlike kinds kind first ps e

-- The facts before the first subobject.
abbrev pub start_facts : List ℕ → ℕ → ℕ → Found
start_facts s kind first = record { whole = true; count = 0; any = not (eqb (length s) header) && eqb first kind; other = 0 }

first_any : (kinds : ℕ → ℕ) (kind f : ℕ) (s : List ℕ) → (apart s header f).whole ≡ true
    → ((not (eqb (length s) header) && eqb (kinds header) kind) || any_other kinds kind (kinds header) (apart s header f).places)
    ≡ any_is kinds (apart s header f).places kind
unfolding apart
first_any kinds kind zero s w = absurd (let z : ◌≡◌ {A = ℕ} 0 1 = cc in omega arith)
first_any kinds kind (suc f) s w = go (eqb header (length s)) refl (fits_in (octet_of s (header + 1)) (length s - header)) w
  where
    go : (x : Bool) → eqb header (length s) ≡ x → (y : Bool) → (cond x ended (cond y (from header (apart s (header + octet_of s (header + 1)) f)) unfilled)).whole ≡ true
        → ((not (eqb (length s) header) && eqb (kinds header) kind)
        || any_other kinds kind (kinds header) (cond x ended (cond y (from header (apart s (header + octet_of s (header + 1)) f)) unfilled)).places)
        ≡ any_is kinds (cond x ended (cond y (from header (apart s (header + octet_of s (header + 1)) f)) unfilled)).places kind
    go true e y v = rw (eq-eqb (length s) header (sym (eqb-true header (length s) e)))
    go false e false v = absurd (let z : ◌≡◌ {A = ℕ} 0 1 = cc in omega arith)
    go false e true v =
        rw (ne_eqb (length s) header (λ q. eqb-false header (length s) e (sym q)), eq-eqb (kinds header) (kinds header) refl)
        (first_once kinds kind (kinds header) (apart s (header + octet_of s (header + 1)) f).places)

rest_starts : (s : List ℕ) (ero : Bool) (kind first : ℕ) → first ≡ kind_at s ero header
    → Over (look_rest (kind_at s ero) kind first (start_facts s kind first)) s header (facts_of s ero kind)
unfolding facts_of apart_of
rest_starts s ero kind first e = record { fuel = suc (length s); enough = omega arith; same = go (apart s header (suc (length s))).whole refl }
  where
    go : (b : Bool) → (apart s header (suc (length s))).whole ≡ b
        → look_rest (kind_at s ero) kind first (start_facts s kind first) (apart s header (suc (length s))) ≡ facts_in (kind_at s ero) (apart s header (suc (length s))) kind
    go false w = rw w
    go true w =
        let ps : List ℕ = (apart s header (suc (length s))).places in
        let o : other_than (kind_at s ero) ps first ≡ mixed_at (kind_at s ero) ps = rw e (first_mixed (kind_at s ero) (suc (length s)) s header) in
        let a : ((not (eqb (length s) header) && eqb first kind) || any_other (kind_at s ero) kind first ps) ≡ any_is (kind_at s ero) ps kind =
        rw e (first_any (kind_at s ero) kind (suc (length s)) s w) in
        rw w (λ i. record { whole = true; count = zero-add (length ps) i; any = a i; other = o i })

zero_self : (n : ℕ) → cond (eqb n 0) 0 n ≡ n
zero_self n = go (eqb n 0) refl
  where
    go : (b : Bool) → eqb n 0 ≡ b → cond b 0 n ≡ n
    go true e = sym (eqb-true n 0 e)
    go false e = refl

found_next : (o p rest : ℕ) → 0 < p → cond (eqb o 0) p o ≡ cond (eqb (cond (eqb o 0) p o) 0) rest (cond (eqb o 0) p o)
found_next o p rest h = go (eqb o 0) refl
  where
    go : (x : Bool) → eqb o 0 ≡ x → cond x p o ≡ cond (eqb (cond x p o) 0) rest (cond x p o)
    go true e = rw (ne_eqb p 0 (omega arith))
    go false e = rw e

-- A place less to come, and its subobject seen.
joined_next : (kinds : ℕ → ℕ) (kind first p : ℕ) (g : Found) (ps : List ℕ) → 0 < p
    → joined kinds kind first g (p ∷ ps) ≡ joined kinds kind first (seen_of g (kinds p) kind first p) ps
unfolding seen_of
joined_next kinds kind first p g ps h = go (eqb (kinds p) first)
  where
    n : g.count + suc (length ps) ≡ g.count + 1 + length ps
    n = omega arith

    a : (g.any || (eqb (kinds p) kind || any_other kinds kind first ps)) ≡ ((g.any || eqb (kinds p) kind) || any_other kinds kind first ps)
    a = sym (or_assoc g.any (eqb (kinds p) kind) (any_other kinds kind first ps))

    o : cond (eqb g.other 0) p g.other ≡ cond (eqb (cond (eqb g.other 0) p g.other) 0) (other_than kinds ps first) (cond (eqb g.other 0) p g.other)
    o = found_next g.other p (other_than kinds ps first) h

    go : (y : Bool) → ◌≡◌ {A = Found}
        (record {
          whole = g.whole;
          count = g.count + suc (length ps);
          any = g.any || cond y (any_other kinds kind first ps) (eqb (kinds p) kind || any_other kinds kind first ps);
          other = cond (eqb g.other 0) (cond y (other_than kinds ps first) p) g.other;
        })
        (joined kinds kind first
        (cond y (record { whole = g.whole; count = g.count + 1; any = g.any; other = g.other })
        (record { whole = g.whole; count = g.count + 1; any = g.any || eqb (kinds p) kind; other = cond (eqb g.other 0) p g.other })) ps)
    go true =
        λ i.
        record {
          whole = g.whole;
          count = n i;
          any = g.any || any_other kinds kind first ps;
          other = cond (eqb g.other 0) (other_than kinds ps first) g.other;
        }
    go false = λ i. record { whole = g.whole; count = n i; any = a i; other = o i }

joined_all : (kinds : ℕ → ℕ) (kind first : ℕ) (g : Found) → joined kinds kind first g [] ≡ g
joined_all kinds kind first g =
    let n : g.count + 0 ≡ g.count = omega arith in
    let a = or_none g.any in
    let o = zero_self g.other in
    λ i. record { whole = g.whole; count = n i; any = a i; other = o i }

-- The pass has come to `at` with the facts g.
pub record Looking (s : List ℕ) (ero : Bool) (kind first at : ℕ) (g whole : Found) : Type 0 where
  pub rest : Over (look_rest (kind_at s ero) kind first g) s at whole

pub look_starts : (s : List ℕ) (ero : Bool) (kind first : ℕ) (any : Bool) → any ≡ (not (eqb (length s) header) && eqb first kind) → first ≡ kind_at s ero header
    → Looking s ero kind first header (record { whole = true; count = 0; any = any; other = 0 }) (facts_of s ero kind)
look_starts s ero kind first any q e = rw q (record { rest = rest_starts s ero kind first e })

module _ {s : List ℕ} {ero : Bool} {kind first at : ℕ} {g whole : Found} (l : Looking s ero kind first at g whole) where
  pub look_ends : at ≡ length s → g ≡ whole
  look_ends e = sym (joined_all (kind_at s ero) kind first g) ∙ over_ends l.rest e

  pub look_cut : {len : ℕ} {r : Bool} → (at ≡ length s → ⊥) → len ≡ get_or s (at + 1) 0 → r ≡ fits_in len (length s - at) → not r ≡ true
      → no_facts false ≡ whole
  unfolding octet_of
  look_cut {r = r} n e f t = over_cut l.rest n (rw e at (sym f ∙ not-true r t))

  pub look_next : {len x k : ℕ} {r : Bool} {g' : Found} → 0 < at → at < length s → len ≡ get_or s (at + 1) 0 → r ≡ fits_in len (length s - at) → not r ≡ false
      → x ≡ get_or s at 0 → k ≡ kind_of x ero → g' ≡ seen_of g k kind first at → Looking s ero kind first (at + len) g' whole
  unfolding octet_of
  look_next {r = r} h n e f t ex ek eg =
      rw (eg, ek, ex, e)
      (record {
        rest =
            over_as (over_next l.rest n (rw e at (sym f ∙ not-false r t))) (look_rest (kind_at s ero) kind first (seen_of g (kind_at s ero at) kind first at))
            (λ a. rw (joined_next (kind_at s ero) kind first at g a.places h));
      })

pub now_fits : (len room : ℕ) (r : Bool) → r ≡ fits_in len room → not r ≡ false → (unit ≤ len) × (len % unit ≡ 0) × (len ≤ room)
now_fits len room r e n = fits_true len room (sym e ∙ not-false r n)

pub seen_count : (g g' : Found) (at k kind first : ℕ) → g' ≡ seen_of g k kind first at → g'.count ≡ g.count + 1
unfolding seen_of
seen_count g g' at k kind first e = ap (λ (x : Found). x.count) e ∙ go (eqb k first)
  where
    go : (b : Bool) → (cond {A = Found} b (record { whole = g.whole; count = g.count + 1; any = g.any; other = g.other })
        (record { whole = g.whole; count = g.count + 1; any = g.any || eqb k kind; other = cond (eqb g.other 0) at g.other })).count
        ≡ g.count + 1
    go true = refl
    go false = refl

-- A subobject of another type than the first one's more, as the code looks at it.
or_place : (o r : Option ℕ) (at : ℕ) → Placed o → r ≡ option_or o (Some at) → place_of r ≡ cond (eqb (place_of o) 0) at (place_of o)
or_place None r at p e = rw e
or_place (Some x) r at p e = rw (e, ne_eqb x 0 (λ z. omega arith))

pub seen_more : (g : Facts) (k kind first at : ℕ) (any : Bool) (other : Option ℕ) → (k ≡ first → ⊥) → any ≡ (g.any || eqb k kind) → Placed g.other
    → other ≡ option_or g.other (Some at) → gathered (record { count = g.count + 1; any = any; other = other }) ≡ seen_of (gathered g) k kind first at
unfolding seen_of
seen_more g k kind first at any other n ea p eo =
    let o = or_place g.other other at p eo in rw (ne_eqb k first n) (λ i. record { whole = true; count = g.count + 1; any = ea i; other = o i })

-- What was gathered is determined by what the frame holds.
place_once : (o p : Option ℕ) → Placed o → Placed p → place_of o ≡ place_of p → o ≡ p
place_once None None x y e = refl
place_once None (Some p) x y e = absurd (omega arith)
place_once (Some o) None x y e = absurd (omega arith)
place_once (Some o) (Some p) x y e = ap (λ (z : ℕ). Some z) e

pub found_once : (a b : Option Facts) → PlacedIn a → PlacedIn b → found_of a ≡ found_of b → a ≡ b
found_once None None x y e = refl
found_once None (Some h) x y e = absurd (false≢true (ap (λ (f : Found). f.whole) e))
found_once (Some g) None x y e = absurd (false≢true (sym (ap (λ (f : Found). f.whole) e)))
found_once (Some g) (Some h) x y e =
    let n = ap (λ (f : Found). f.count) e in
    let a = ap (λ (f : Found). f.any) e in
    let o = place_once g.other h.other x y (ap (λ (f : Found). f.other) e) in λ i. Some (record { count = n i; any = a i; other = o i })

-- the place of a subobject -------------------------------------------------------------------------------------

pub record Going (s : List ℕ) (at left whole : ℕ) : Type 0 where
  pub good : Over (λ a. a.whole) s at true
  pub rest : Over (λ a. get_or a.places left 0) s at whole

pub going_starts : (s : List ℕ) (i : ℕ) → (apart_of s).whole ≡ true → Going s header i (get_or (apart_of s).places i 0)
going_starts s i e = record { good = sound_starts s e; rest = over_starts (λ a. get_or a.places i 0) s }

module _ {s : List ℕ} {at left whole : ℕ} (l : Going s at left whole) where
  pub going_ends : at ≡ length s → 0 ≡ whole
  going_ends e = over_ends l.rest e

  pub going_room : (at ≡ length s → ⊥) → (unit ≤ get_or s (at + 1) 0) × (get_or s (at + 1) 0 % unit ≡ 0) × (get_or s (at + 1) 0 ≤ length s - at)
  going_room n = sound_room l.good n

  pub going_here : at < length s → left ≡ 0 → at ≡ whole
  going_here n e = (over_next (over_as l.rest (λ a. get_or a.places 0 0) (λ a. rw e)) n (sound_fits l.good (omega arith))).same

  pub going_on : {x : ℕ} → at < length s → (left ≡ 0 → ⊥) → x ≡ get_or s (at + 1) 0 → Going s (at + x) (left - 1) whole
  going_on n z e =
      let q : left ≡ suc (left - 1) = omega arith in
      record {
        good = sound_next l.good n e;
        rest = over_as (next_by l.good l.rest n e) (λ a. get_or a.places (left - 1) 0) (λ a. ap (λ (y : ℕ). get_or (at ∷ a.places) y 0) q);
      }
