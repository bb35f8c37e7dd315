-- The pass: the places that it has gone over, the last first, with the frame from `at` on behind them, are the whole frame; each of them is a subobject of the
-- form's type that breaks no rule. At the object's end that settles the rules on the frame and those of the subobjects. Assumes nothing.
use Prim.Native.Nat.{ℕ, ◌+◌, ◌-◌, ◌*◌, ◌/◌, ◌%◌, ◌≤◌, ◌<◌}
use mathlib.Core.Path.{◌≡◌, refl, sym, ◌∙◌, ap, subst}
use mathlib.Core.List.{List, [], ◌∷◌}
use mathlib.Core.Bool.{Bool, true, false}
use lib.ListN.{length}
use native.Mathlib.Omega.{arith}
use borrow.Author.Tests.{ne_eqb}
use Rattle.answers.specs.Verdicts.{accepted_with, carrying_both}
use Rattle.octets.specs.Octets.{octet_of}
use Rattle.objects.specs.Objects.{header}
use Rattle.forms.specs.declared.Form.{Form}
use Rattle.subobject.specs.declared.head.Head.{Head}
use Rattle.subobject.specs.Layout.{head_of, head_at, sid_place}
use Rattle.subobject.specs.Rules.{rule7, rule8, rule9, rule10, rule11, rule29, rule30, bits_at, label_at, time_at, rules, subject_by}
use Rattle.subobject_strays.specs.Strays.{strays_by, strays_at, stray_one, stray_in}
use Rattle.frame.specs.Frames.{Apart, ended, headed, fits_in, apart_of, places_of, kind_at, rule4, rule5}
use Rattle.frame.specs.Gathered.{frame_of}
use Rattle.frame.proofs.Checks.{None, none_first, none_append, unbroken_none}
use Rattle.frame.proofs.Laws.{Over, over_starts, over_ends, over_next}
use Rattle.frame.proofs.OneKind.{AllKind, none, next, kinds_unmixed, kinds_present}
use Rattle.frame.specs.RuleChecks.{checks_by}
use Rattle.route_walk.specs.Walk.{checks_at, subobject_checks, walk_of}
use Rattle.route_pass.specs.Settled.{Settled, SettledBy, stray_worth}

-- The places gone over, turned round, before others.
abbrev pub turned : List ℕ → List ℕ → List ℕ
turned [] xs = xs
turned (p ∷ ps) xs = turned ps (p ∷ xs)

abbrev pub behind : List ℕ → Apart → Apart
behind ps a = record { whole = a.whole; places = turned ps a.places }

-- A subobject of the form's type that breaks no rule.
pub record Good (form : Form) (s : List ℕ) (ero n : Bool) (p : ℕ) : Type 0 where
  pub kind : kind_at s ero p ≡ form.kind
  pub rules : None (checks_at form s ero n p)

abbrev pub AllGood : Form → List ℕ → Bool → Bool → List ℕ → Type 0
AllGood form s ero n [] = Unit {0}
AllGood form s ero n (p ∷ ps) = Good form s ero n p × AllGood form s ero n ps

pub record Gone (form : Form) (s : List ℕ) (ero n : Bool) (at count stray : ℕ) : Type 0 where
  pub places : List ℕ
  pub rest : Over (behind places) s at (apart_of s)
  pub good : AllGood form s ero n places
  pub many : length places ≡ count
  pub strays : stray_in form s ero places ≡ stray

pub gone_starts : (form : Form) (s : List ℕ) (ero n : Bool) → Gone form s ero n header 0 0
gone_starts form s ero n = record { places = []; rest = over_starts (behind []) s; good = tt; many = refl; strays = refl }

-- A pass that settled nothing says nothing.
pub unsettled : {form : Form} {s : List ℕ} {ero n : Bool} → SettledBy form s ero n 0
unsettled h = absurd (omega (arith, h))

-- one subobject more -------------------------------------------------------------------------------------------

head_kind : (form : Form) (s : List ℕ) (ero : Bool) (at : ℕ) → kind_at s ero at ≡ (head_at form s ero at).kind
unfolding head_at head_of
head_kind form s ero at = refl

pub good_made : (form : Form) (s : List ℕ) (ero n : Bool) (at : ℕ) (h : Head) → h ≡ head_at form s ero at → h.kind ≡ form.kind → rule8 form h ≡ false → rule9 h ≡ false
    → rule7 form h ≡ false → rule10 h ero n ≡ false → rule11 h (bits_at form h s at) ≡ false → rule29 h (label_at s (sid_place form at)) ≡ false
    → rule30 h (time_at s (sid_place form at)) ≡ false → Good form s ero n at
good_made form s ero n at h e k a b c d f g i =
    record {
      kind = head_kind form s ero at ∙ ap (λ (x : Head). x.kind) (sym e) ∙ k;
      rules = subst (λ (x : Head). None (checks_by rules (subject_by form x s ero n at) at)) e
          (unbroken_none s ero n at (record { r8 = a; r9 = b; r7 = c; r11 = f; r29 = g; r30 = i }) d);
    }

pub gone_on : {form : Form} {s : List ℕ} {ero n : Bool} {at count stray : ℕ} → Gone form s ero n at count stray → (h : Head) (one : ℕ) → at < length s
    → h ≡ head_at form s ero at → fits_in h.size (length s - at) ≡ true → Good form s ero n at → one ≡ stray_one (strays_by form h s at)
    → Gone form s ero n (at + h.size) (count + 1) (stray + one)
unfolding head_at head_of strays_at
gone_on {form} {s} {ero} {n} {at} {count} {stray} g h one l e f good eo =
    let size : h.size ≡ octet_of s (at + 1) = ap (λ (x : Head). x.size) e in
    let q : one ≡ stray_one (strays_at form s ero at) = rw e at eo in
    record {
      places = at ∷ g.places;
      rest = rw size (over_next g.rest l (rw size at f));
      good = (good, g.good);
      many = let m = g.many in omega arith;
      strays = let m = g.strays in omega (arith, q);
    }

-- at the end ---------------------------------------------------------------------------------------------------

module _ (form : Form) (s : List ℕ) (ero n : Bool) where
  all_turned : (ps xs : List ℕ) → AllGood form s ero n ps → AllGood form s ero n xs → AllGood form s ero n (turned ps xs)
  all_turned [] xs a b = b
  all_turned (p ∷ ps) xs a b = all_turned ps (p ∷ xs) a.1 (a.0, b)

  length_turned : (ps xs : List ℕ) → length (turned ps xs) ≡ length ps + length xs
  length_turned [] xs = omega arith
  length_turned (p ∷ ps) xs = let r = length_turned ps (p ∷ xs) in omega arith

  stray_turned : (ps xs : List ℕ) → stray_in form s ero (turned ps xs) ≡ stray_in form s ero ps + stray_in form s ero xs
  stray_turned [] xs = omega arith
  stray_turned (p ∷ ps) xs = let r = stray_turned ps (p ∷ xs) in omega arith

  -- All of one type.
  kind_good : (ps : List ℕ) → AllGood form s ero n ps → AllKind (kind_at s ero) form.kind ps
  kind_good [] a = none
  kind_good (p ∷ ps) a = next a.0.kind (kind_good ps a.1)

  none_good : (ps : List ℕ) → AllGood form s ero n ps → None (subobject_checks form s ero n ps)
  none_good [] a = tt
  none_good (p ∷ ps) a = none_append (checks_at form s ero n p) (subobject_checks form s ero n ps) a.0.rules (none_good ps a.1)

  -- A whole frame of such subobjects.
  frame_good : AllGood form s ero n (places_of s) → 0 < length (places_of s) → headed s ero ≡ true → (apart_of s).whole ≡ true
      → frame_of s ero form.kind ≡ accepted_with (length (places_of s))
  unfolding frame_of rule4 rule5
  frame_good a h d e =
      let k = kind_good (places_of s) a in
      rw (e, d, ne_eqb (length (places_of s)) 0 (omega arith), kinds_unmixed s ero k, kinds_present s ero k h)

  walk_good : (count : ℕ) → AllGood form s ero n (places_of s) → walk_of form s ero n count ≡ carrying_both count (stray_in form s ero (places_of s))
  unfolding walk_of
  walk_good count a = none_first (subobject_checks form s ero n (places_of s)) _ (none_good (places_of s) a)

  pub settled : {at count stray : ℕ} → Gone form s ero n at count stray → at ≡ length s → headed s ero ≡ true → 0 < count
      → Settled form s ero n count stray
  settled {at} {count} {stray} g e d h =
      let whole : behind g.places ended ≡ apart_of s = over_ends g.rest e in
      let same : turned g.places [] ≡ places_of s = ap (λ (a : Apart). a.places) whole in
      let good : AllGood form s ero n (places_of s) = subst (λ (x : List ℕ). AllGood form s ero n x) same (all_turned g.places [] g.good tt) in
      let many : length (places_of s) ≡ count =
      ap (λ (x : List ℕ). length x) (sym same) ∙ length_turned g.places [] ∙ (let m = g.many in omega arith) in
      let strays : stray_in form s ero (places_of s) ≡ stray =
      ap (λ (x : List ℕ). stray_in form s ero x) (sym same) ∙ stray_turned g.places [] ∙ (let m = g.strays in omega arith) in
      record {
        frame = frame_good good (omega (arith, many)) d (ap (λ (a : Apart). a.whole) (sym whole)) ∙ ap (λ (x : ℕ). accepted_with x) many;
        walk = walk_good count good ∙ ap (λ (x : ℕ). carrying_both count x) strays;
      }

  -- The same, of one number.
  pub settled_by : {at count stray : ℕ} → Gone form s ero n at count stray → at ≡ length s → headed s ero ≡ true → count < 65536 → stray ≤ count
      → SettledBy form s ero n (count + stray_worth * stray)
  settled_by {at} {count} {stray} g e d few less h =
      let low : (count + 65536 * stray) % 65536 ≡ count = omega (arith, few) in
      let high : (count + 65536 * stray) / 65536 ≡ stray = omega (arith, few) in
      rw (low, high) (settled g e d (omega (arith, h, less)))
