-- One type for all: in a frame whose places are a chain, the form's type is present and the types are not mixed exactly if every place has that type. Assumes nothing.
use Prim.Native.Nat.{ℕ, zero, suc, ◌<◌}
use mathlib.Core.Path.{◌≡◌, refl, sym, ◌∙◌}
use mathlib.Core.Bool.{Bool, true, false, false≢true, cond, ◌&&◌, ◌||◌}
use mathlib.Core.List.{List, [], ◌∷◌}
use lib.Dec.{eqb}
use lib.ListN.{length, get_or}
use native.Mathlib.Omega.{arith}
use borrow.Author.Tests.{eq-eqb, eqb-true, not-false}
use Rattle.frame.specs.Fills.{FillsFrom, stop, link}
use Rattle.frame.specs.Frames.{apart_of, places_of, kind_at, any_is, other_than, mixed_at, rule6, rule6_place, rule14}
use Rattle.frame.proofs.Fills.{whole_fills}

-- Every place has the type.
pub data AllKind (kinds : ℕ → ℕ) (kind : ℕ) : List ℕ → Type 0 where
  none : AllKind kinds kind []
  next : {p : ℕ} {ps : List ℕ} → kinds p ≡ kind → AllKind kinds kind ps → AllKind kinds kind (p ∷ ps)

pub kind_there : {kinds : ℕ → ℕ} {kind : ℕ} {ps : List ℕ} → AllKind kinds kind ps → (j : ℕ) → j < length ps → kinds (get_or ps j 0) ≡ kind
kind_there none j h = absurd (omega arith)
kind_there (next e a) zero h = e
kind_there (next e a) (suc j) h = kind_there a j (omega arith)

-- A type that is present is that one.
pub kind_present : {kinds : ℕ → ℕ} {kind : ℕ} {ps : List ℕ} → AllKind kinds kind ps → (want : ℕ) → any_is kinds ps want ≡ true → kind ≡ want
kind_present none want e = absurd (false≢true e)
kind_present {kinds} {kind} (next {p} {ps} q a) want e = go (eqb (kinds p) want) refl e (λ r. kind_present a want r)
  where
    go : (x : Bool) → eqb (kinds p) want ≡ x → (x || any_is kinds ps want) ≡ true → (any_is kinds ps want ≡ true → kind ≡ want) → kind ≡ want
    go true ex r rest = sym q ∙ eqb-true (kinds p) want ex
    go false ex r rest = rest r

-- present and not mixed: all are of the type -------------------------------------------------------------------

-- No place of a chain behind octet 0 is of another type: all are of this one.
no_other : (kinds : ℕ → ℕ) (kind : ℕ) {s : List ℕ} {at : ℕ} {ps : List ℕ} → FillsFrom s at ps → 0 < at → other_than kinds ps kind ≡ 0 → AllKind kinds kind ps
no_other kinds kind (stop e) h o = none
no_other kinds kind {at = at} (link {ps = ps} n d c) h o = go (eqb (kinds at) kind) refl o (λ r. no_other kinds kind c (omega arith) r)
  where
    go : (x : Bool) → eqb (kinds at) kind ≡ x → cond x (other_than kinds ps kind) at ≡ 0 → (other_than kinds ps kind ≡ 0 → AllKind kinds kind ps) → AllKind kinds kind (at ∷ ps)
    go true ex r rest = next (eqb-true (kinds at) kind ex) (rest r)
    go false ex r rest = absurd (omega arith)

pub all_kind : (kinds : ℕ → ℕ) (kind : ℕ) {s : List ℕ} {at : ℕ} {ps : List ℕ} → FillsFrom s at ps → 0 < at → any_is kinds ps kind ≡ true → mixed_at kinds ps ≡ 0
    → AllKind kinds kind ps
all_kind kinds kind (stop e) h y m = none
all_kind kinds kind {at = at} (link {ps = ps} n d c) h y m =
    let a : AllKind kinds (kinds at) (at ∷ ps) = next refl (no_other kinds (kinds at) c (omega arith) m) in
    rw (kind_present a kind y) at a

-- A whole frame that breaks neither 6 nor 14.
pub frame_kinds : (s : List ℕ) (ero : Bool) (kind : ℕ) → (apart_of s).whole ≡ true → rule6 s ero kind ≡ false → rule14 s ero kind ≡ false
    → AllKind (kind_at s ero) kind (places_of s)
unfolding rule6 rule6_place rule14
frame_kinds s ero kind w r6 r14 =
    let y : any_is (kind_at s ero) (places_of s) kind ≡ true = not-false _ r14 in
    all_kind (kind_at s ero) kind (whole_fills s w) (omega arith) y (eqb-true _ 0 (not-false _ (rw y at r6)))

-- all are of the type: it is present and they are not mixed ----------------------------------------------------

any_there : {kinds : ℕ → ℕ} {kind : ℕ} {ps : List ℕ} → AllKind kinds kind ps → 0 < length ps → any_is kinds ps kind ≡ true
any_there none h = absurd (omega arith)
any_there {kinds} {kind} (next {p} e a) h = rw (eq-eqb (kinds p) kind e)

others_none : {kinds : ℕ → ℕ} {kind : ℕ} {ps : List ℕ} → AllKind kinds kind ps → other_than kinds ps kind ≡ 0
others_none none = refl
others_none {kinds} {kind} (next {p} e a) = rw (eq-eqb (kinds p) kind e) (others_none a)

mixed_none : {kinds : ℕ → ℕ} {kind : ℕ} {ps : List ℕ} → AllKind kinds kind ps → mixed_at kinds ps ≡ 0
mixed_none none = refl
mixed_none (next e a) = rw e (others_none a)

-- Such a frame breaks neither 6 nor 14.
module _ (s : List ℕ) (ero : Bool) {kind : ℕ} (a : AllKind (kind_at s ero) kind (places_of s)) where
  pub kinds_unmixed : rule6 s ero kind ≡ false
  unfolding rule6 rule6_place
  kinds_unmixed = rw (mixed_none a) (go (any_is (kind_at s ero) (places_of s) kind))
    where
      go : (b : Bool) → (b && false) ≡ false
      go true = refl
      go false = refl

  pub kinds_present : 0 < length (places_of s) → rule14 s ero kind ≡ false
  unfolding rule14
  kinds_present h = rw (any_there a h)
