-- The laws of octets as words, in the order of the definitions. A digit lies in one of three ranges, and the tests for the others are decided by arithmetic; a word of even length is all
-- pairs if it is all digits (`pairs_even`), so that the code may look at them one by one.
use Prim.Native.Nat.{ℕ, zero, suc, ◌+◌, ◌-◌, ◌*◌, ◌/◌, ◌%◌, ◌≤◌, ◌<◌}
use mathlib.Core.Path.{◌≡◌, refl, ap}
use mathlib.Core.List.{List, [], ◌∷◌}
use mathlib.Core.Bool.{Bool, true, false, cond, not, ◌&&◌}
use lib.Dec.{eqb}
use lib.ListN.{length, get_or}
use lib.Seq.{take_all}
use native.Mathlib.Omega.{arith}
use borrow.Author.Tests.{ne_eqb, le-leb, lt-leb}
use Rattle.octets.proofs.Laws.{copied}
use Rattle.octets.specs.Octets.{over}
use Rattle.std.specs.Prelude.{Option, Some, None}
use Rattle.std.specs.Option.{is_some, unwrap_or}
use Rattle.std.specs.List.{list_all}
use Rattle.std.proofs.lemmas.Grind.{common_steps}
use Rattle.std.proofs.lemmas.Bool.Decides.{nat_tests}
use Rattle.words.specs.Words.{digit_zero, digit_nine, upper_a, upper_f, lower_a, lower_f, upper_above, lower_above}
use Rattle.hexadecimal.specs.Hexadecimal.{hex_code, is_hex, digit_value, all_pairs, pair_of, octets_of}

-- ## A digit

module _ (c : ℕ) where
  pub hex_figure : digit_zero ≤ c → c ≤ digit_nine → c - digit_zero ≡ hex_code c
  unfolding hex_code
  hex_figure h k = rw (le-leb digit_zero c h, le-leb c digit_nine k)

  pub hex_upper : upper_a ≤ c → c ≤ upper_f → c - upper_above ≡ hex_code c
  unfolding hex_code
  hex_upper h k = simp (le-leb digit_zero c (omega arith), lt-leb c digit_nine (omega arith), le-leb upper_a c h, le-leb c upper_f k)

  pub hex_lower : lower_a ≤ c → c ≤ lower_f → c - lower_above ≡ hex_code c
  unfolding hex_code
  hex_lower h k = simp (le-leb digit_zero c (omega arith), lt-leb c digit_nine (omega arith), le-leb upper_a c (omega arith), lt-leb c upper_f (omega arith), le-leb lower_a c h, le-leb c lower_f k)

  pub hex_before : c < digit_zero → 16 ≡ hex_code c
  unfolding hex_code
  hex_before h = simp (lt-leb digit_zero c h, lt-leb upper_a c (omega arith), lt-leb lower_a c (omega arith))

  pub hex_between : digit_nine < c → c < upper_a → 16 ≡ hex_code c
  unfolding hex_code
  hex_between h k = simp (le-leb digit_zero c (omega arith), lt-leb c digit_nine h, lt-leb upper_a c k, lt-leb lower_a c (omega arith))

  pub hex_amid : upper_f < c → c < lower_a → 16 ≡ hex_code c
  unfolding hex_code
  hex_amid h k = simp (le-leb digit_zero c (omega arith), lt-leb c digit_nine (omega arith), le-leb upper_a c (omega arith), lt-leb c upper_f h, lt-leb lower_a c k)

  pub hex_behind : lower_f < c → 16 ≡ hex_code c
  unfolding hex_code
  hex_behind h =
      simp
      (le-leb digit_zero c (omega arith), lt-leb c digit_nine (omega arith), le-leb upper_a c (omega arith), lt-leb c upper_f (omega arith), le-leb lower_a c (omega arith), lt-leb c lower_f h)

-- ## A digit as an option

hex_least : (c : ℕ) → hex_code c ≤ 16
unfolding hex_code
hex_least c = grind (arith, common_steps, nat_tests)

module _ (c : ℕ) where
  pub value_some : (d : ℕ) → d ≡ hex_code c → d < 16 → Some d ≡ digit_value c
  unfolding digit_value is_hex
  value_some d e h = rw (← e, ne_eqb d 16 (λ (k : d ≡ 16). omega arith))

  pub value_none : 16 ≡ hex_code c → None ≡ digit_value c
  unfolding digit_value is_hex
  value_none e = rw (← e)

  pub worth_digit : (o : Option ℕ) → o ≡ digit_value c → unwrap_or o 0 ≡ hex_code c % 16
  unfolding digit_value is_hex
  worth_digit o e = go (hex_code c) (hex_least c) e where
    go : (h : ℕ) → h ≤ 16 → o ≡ cond (not (eqb h 16)) (Some h) None → unwrap_or o 0 ≡ h % 16
    go h l e = rw e (by (eqb h 16) refl) where
      by : (b : Bool) → eqb h 16 ≡ b → unwrap_or (cond (not b) (Some h) None) 0 ≡ h % 16
      by true q = let n : h ≡ 16 = grind (arith, common_steps) in rw n
      by false q = let n : h < 16 = grind (arith, common_steps) in omega arith

  pub hex_digit : (o : Option ℕ) → o ≡ digit_value c → is_some o ≡ is_hex c
  unfolding digit_value
  hex_digit o e = rw e (go (is_hex c)) where
    go : (b : Bool) → is_some (cond b (Some (hex_code c)) None) ≡ b
    go true = refl
    go false = refl

-- ## Pairs of digits

pub pairs_even : (w : List ℕ) → length w % 2 ≡ 0 → all_pairs w ≡ list_all is_hex w
unfolding all_pairs
pairs_even [] h = refl
pairs_even (a ∷ []) h = absurd (omega arith)
pairs_even (a ∷ b ∷ r) h = ap (λ (t : Bool). is_hex a && (is_hex b && t)) (pairs_even r (omega arith))

pub pairs_odd : (w : List ℕ) → (length w % 2 ≡ 0 → ⊥) → all_pairs w ≡ false
unfolding all_pairs
pairs_odd [] h = absurd (h refl)
pairs_odd (a ∷ []) h = refl
pairs_odd (a ∷ b ∷ r) h = go (is_hex a) (is_hex b) (pairs_odd r (λ e. h (omega arith))) where
  go : (x y : Bool) → all_pairs r ≡ false → (x && (y && all_pairs r)) ≡ false
  go true true e = e
  go true false e = refl
  go false y e = refl

-- ## The octets

pub length_octets : (w : List ℕ) → length (octets_of w) ≡ length w / 2
unfolding octets_of
length_octets [] = refl
length_octets (a ∷ []) = refl
length_octets (a ∷ b ∷ r) = let h = length_octets r in omega arith

pub octets_at : (w : List ℕ) (n : ℕ) → n < length w / 2 → get_or (octets_of w) n 0 ≡ pair_of (get_or w (n * 2) 0) (get_or w (n * 2 + 1) 0)
unfolding octets_of
octets_at [] n h = absurd (omega arith)
octets_at (a ∷ []) n h = absurd (omega arith)
octets_at (a ∷ b ∷ r) zero h = refl
octets_at (a ∷ b ∷ r) (suc n) h =
    let e : suc n * 2 ≡ suc (suc (n * 2)) = omega arith in
    let f : suc (suc (n * 2)) + 1 ≡ suc (suc (n * 2 + 1)) = omega arith in
    rw (e, f) (octets_at r n (omega arith))

-- A copy that has come to the end lies over the start.
pub copied_all : (d s : List ℕ) (n : ℕ) → n ≡ length s → copied d s n ≡ over s d
unfolding over
copied_all d s n e = rw (e, take_all (length s) s (omega arith))
