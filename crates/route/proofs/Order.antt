-- Document 01's order of checks is the order of the list. A check's rank is how many stand before it; an earlier check has a lower rank and every rank
-- below the list's length is that of a check, so that what holds of the list by rank holds of document 01's order. Assumes nothing.
use Prim.Native.Nat.{ℕ, zero, suc, ◌+◌, ◌*◌, ◌/◌, ◌%◌, ◌<◌}
use mathlib.Core.Path.{◌≡◌, refl, ◌∙◌, ap}
use mathlib.Core.List.{List, [], ◌∷◌, ◌++◌}
use mathlib.Core.Bool.{Bool, true, false}
use mathlib.Core.Logic.{◌⊎◌, inl, inr}
use lib.Dec.{ltb, eqb}
use lib.ListN.{length, get_or}
use native.Mathlib.Omega.{arith}
use borrow.Author.Tests.{ltb-true, ltb-false, eqb-true, eqb-false}
use Rattle.forms.specs.declared.Form.{Form}
use Rattle.session.specs.declared.Session.{Session}
use Rattle.frame.specs.Checks.{Check, check}
use Rattle.frame.specs.Frames.{places_of}
use Rattle.frame.proofs.Checks.{check_of}
use Rattle.subobject.specs.Rules.{rule_count}
use Rattle.route_walk.specs.Walk.{checks_at, subobject_checks}
use Rattle.route.specs.Routes.{last_checks, checks_of, count_of}
use Rattle.route.specs.Order.{Where, whole, inside, last, whole_count, Among, Before, check_at}

-- ranks --------------------------------------------------------------------------------------------------------

-- How many checks stand before this one in a route of n subobjects.
abbrev pub rank : ℕ → Where → ℕ
rank n (whole k) = k
rank n (inside i k) = suc (suc (suc (suc (suc (rule_count * i + k)))))
rank n last = suc (suc (suc (suc (suc (rule_count * n)))))

pub rank_within : (n : ℕ) (w : Where) → Among w n → rank n w < suc whole_count + rule_count * n
rank_within n (whole k) h = omega arith
rank_within n (inside i k) h = omega (arith, h.0, h.1)
rank_within n last h = omega arith

pub before_lower : (n : ℕ) (v w : Where) → Among v n → Among w n → Before v w → rank n v < rank n w
before_lower n (whole j) (whole k) h g b = b
before_lower n (whole j) (inside i k) h g b = omega arith
before_lower n (whole j) last h g b = omega arith
before_lower n (inside i j) (whole k) h g b = absurd b
before_lower n (inside i j) (inside l k) h g (inl a) = omega (arith, h.1)
before_lower n (inside i j) (inside l k) h g (inr a) = omega (arith, a.0, a.1)
before_lower n (inside i j) last h g b = omega (arith, h.0, h.1)
before_lower n last w h g b = absurd b

pub lower_before : (n : ℕ) (v w : Where) → Among v n → Among w n → rank n v < rank n w → Before v w
lower_before n (whole j) (whole k) h g l = l
lower_before n (whole j) (inside i k) h g l = tt
lower_before n (whole j) last h g l = tt
lower_before n (inside i j) (whole k) h g l = absurd (omega arith)
lower_before n (inside i j) (inside m k) h g l = go (ltb i m) refl
  where
    go : (b : Bool) → ltb i m ≡ b → (i < m) ⊎ ((i ≡ m) × (j < k))
    go true e = inl (ltb-true i m e)
    go false e =
        let o = ltb-false i m e in
        let q : i ≡ m = omega (arith, h.1, g.1) in
        inr (q, omega arith)
lower_before n (inside i j) last h g l = tt
lower_before n last (whole k) h g l = absurd (omega arith)
lower_before n last (inside i k) h g l = absurd (omega (arith, g.0, g.1))
lower_before n last last h g l = absurd (omega arith)

-- Every rank is that of a check.
pub record Standing (n r : ℕ) : Type 0 where
  pub stands : Where
  pub among : Among stands n
  pub ranked : rank n stands ≡ r

pub standing : (n r : ℕ) → r < suc whole_count + rule_count * n → Standing n r
standing n zero h = record { stands = whole 0; among = omega arith; ranked = refl }
standing n (suc zero) h = record { stands = whole 1; among = omega arith; ranked = refl }
standing n (suc (suc zero)) h = record { stands = whole 2; among = omega arith; ranked = refl }
standing n (suc (suc (suc zero))) h = record { stands = whole 3; among = omega arith; ranked = refl }
standing n (suc (suc (suc (suc zero)))) h = record { stands = whole 4; among = omega arith; ranked = refl }
standing n (suc (suc (suc (suc (suc m))))) h = go (eqb m (rule_count * n)) refl
  where
    go : (b : Bool) → eqb m (rule_count * n) ≡ b → Standing n (suc (suc (suc (suc (suc m)))))
    go true e = record { stands = last; among = tt; ranked = let q = eqb-true m (rule_count * n) e in omega arith }
    go false e =
        let q = eqb-false m (rule_count * n) e in
        let l : m < rule_count * n = omega (arith, q) in
        record { stands = inside (m / rule_count) (m % rule_count); among = (omega arith, omega arith); ranked = omega arith }

-- the checks by rank -------------------------------------------------------------------------------------------

sub_rank : (form : Form) (s : List ℕ) (ero n : Bool) (ps : List ℕ) (rest : List Check) (i k : ℕ) → i < length ps → k < rule_count
    → check_of (subobject_checks form s ero n ps ++ rest) (rule_count * i + k) ≡ check_of (checks_at form s ero n (get_or ps i 0)) k
sub_rank form s ero n [] rest i k h l = absurd (omega arith)
sub_rank form s ero n (p ∷ ps) rest zero k h l =
    let q : rule_count * 0 + k ≡ k = omega arith in
    ap (λ (x : ℕ). check_of (subobject_checks form s ero n (p ∷ ps) ++ rest) x) q ∙ go k l
  where
    go : (k : ℕ) → k < rule_count → check_of (subobject_checks form s ero n (p ∷ ps) ++ rest) k ≡ check_of (checks_at form s ero n p) k
    go zero l = refl
    go (suc zero) l = refl
    go (suc (suc zero)) l = refl
    go (suc (suc (suc zero))) l = refl
    go (suc (suc (suc (suc zero)))) l = refl
    go (suc (suc (suc (suc (suc zero))))) l = refl
    go (suc (suc (suc (suc (suc (suc zero)))))) l = refl
    go (suc (suc (suc (suc (suc (suc (suc k))))))) l = absurd (omega arith)
sub_rank form s ero n (p ∷ ps) rest (suc i) k h l =
    let q : rule_count * suc i + k ≡ suc (suc (suc (suc (suc (suc (suc (rule_count * i + k))))))) = omega arith in
    ap (λ (x : ℕ). check_of (subobject_checks form s ero n (p ∷ ps) ++ rest) x) q ∙ sub_rank form s ero n ps rest i k (omega arith) l

last_rank : (form : Form) (s : List ℕ) (ero n : Bool) (ps : List ℕ) (c : Check) → check_of (subobject_checks form s ero n ps ++ c ∷ []) (rule_count * length ps) ≡ c
last_rank form s ero n [] c = refl
last_rank form s ero n (p ∷ ps) c =
    let q : rule_count * suc (length ps) ≡ suc (suc (suc (suc (suc (suc (suc (rule_count * length ps))))))) = omega arith in
    ap (λ (x : ℕ). check_of (subobject_checks form s ero n (p ∷ ps) ++ c ∷ []) x) q ∙ last_rank form s ero n ps c

sub_length : (form : Form) (s : List ℕ) (ero n : Bool) (ps : List ℕ) (c : Check) → length (subobject_checks form s ero n ps ++ c ∷ []) ≡ rule_count * length ps + 1
sub_length form s ero n [] c = refl
sub_length form s ero n (p ∷ ps) c =
    let q = sub_length form s ero n ps c in
    omega arith

module _ (form : Form) (s : List ℕ) (ero : Bool) (session : Session) (pst : ℕ) where
  pub checks_length : length (checks_of form s ero session pst) ≡ suc whole_count + rule_count * count_of s
  checks_length =
      let q = sub_length form s ero session.n (places_of s) (get_or (last_checks (places_of s) ero session.limit (count_of s)) 0 (check 0 0 false)) in
      omega arith

  pub rank_check : (w : Where) → Among w (count_of s) → check_of (checks_of form s ero session pst) (rank (count_of s) w) ≡ check_at form s ero session pst w
  rank_check (whole k) h = go k h
    where
      go : (k : ℕ) → k < whole_count → check_of (checks_of form s ero session pst) k ≡ check_at form s ero session pst (whole k)
      go zero l = refl
      go (suc zero) l = refl
      go (suc (suc zero)) l = refl
      go (suc (suc (suc zero))) l = refl
      go (suc (suc (suc (suc zero)))) l = refl
      go (suc (suc (suc (suc (suc k))))) l = absurd (omega arith)
  rank_check (inside i k) h =
      sub_rank form s ero session.n (places_of s) (last_checks (places_of s) ero session.limit (count_of s)) i k h.0 h.1
  rank_check last h =
      last_rank form s ero session.n (places_of s) (get_or (last_checks (places_of s) ero session.limit (count_of s)) 0 (check 0 0 false))
