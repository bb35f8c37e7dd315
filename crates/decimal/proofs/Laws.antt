-- The laws of numbers as words, in the order of the definitions. `Reading` says that what is left of the word, behind digits worth v, gives the whole answer; one law for each way out of a
-- turn. Digits never make a value smaller (`worth_least`), so that a value past the largest refuses the word at once.
use Prim.Native.Nat.{ℕ, suc, ◌+◌, ◌-◌, ◌*◌, ◌≤◌, ◌<◌}
use mathlib.Core.Path.{◌≡◌, refl, sym, ap, ◌∙◌}
use mathlib.Core.List.{List, [], ◌∷◌}
use mathlib.Core.Bool.{Bool, true, false, cond}
use lib.Dec.{leb}
use lib.ListN.{length, get_or, drop, drop_of_length-le}
use lib.Seq.{drop-cons}
use native.Mathlib.Omega.{arith}
use native.Mathlib.Numerals.{add-one}
use borrow.Author.Tests.{lt-ltb, le-ltb, le-leb, lt-leb}
use Rattle.octets.proofs.Said.{and_false}
use Rattle.std.specs.Prelude.{Option, Some, None}
use Rattle.std.specs.Option.{is_some, unwrap_or, MatchOption}
use Rattle.words.specs.Words.{digit_zero, digit_nine}
use Rattle.decimal.specs.Decimal.{is_digit, all_digits, worth, number_range, is_empty, is_number, decimal_value, number_of, digit_value, said, Number, is_at_most}

-- A reading under way: the digits before i are worth v.
pub record Reading (w : List ℕ) (v i : ℕ) : Type 0 where
  pub within : i ≤ length w
  pub some : is_empty w ≡ false
  pub digits : all_digits (drop i w) ≡ all_digits w
  pub same : worth (drop i w) v ≡ worth w 0
  pub fits : v < number_range

pub digit_in : (c : ℕ) → digit_zero ≤ c → c ≤ digit_nine → Some (c - digit_zero) ≡ digit_value c
unfolding digit_value is_digit
digit_in c h k = rw (le-leb digit_zero c h, le-leb c digit_nine k)

pub digit_low : (c : ℕ) → c < digit_zero → None ≡ digit_value c
unfolding digit_value is_digit
digit_low c h = rw (lt-leb digit_zero c h)

pub digit_high : (c : ℕ) → digit_nine < c → None ≡ digit_value c
unfolding digit_value is_digit
digit_high c h = rw (le-leb digit_zero c (omega arith), lt-leb c digit_nine h)

pub digit_none : (c : ℕ) → None ≡ digit_value c → is_digit c ≡ false
unfolding digit_value
digit_none c = go (is_digit c) where
  go : (b : Bool) → None ≡ cond b (Some (c - digit_zero)) None → b ≡ false
  go true e = cc
  go false e = refl

pub digit_some : (c d : ℕ) → Some d ≡ digit_value c → (is_digit c ≡ true) × (d ≡ c - digit_zero)
unfolding digit_value
digit_some c d = go (is_digit c) where
  go : (b : Bool) → Some d ≡ cond b (Some (c - digit_zero)) None → (b ≡ true) × (d ≡ c - digit_zero)
  go true e = (refl, cc)
  go false e = cc

-- Digits never make a value smaller.
pub worth_least : (v : ℕ) (w : List ℕ) → v ≤ worth w v
unfolding worth
worth_least v [] = omega arith
worth_least v (c ∷ cs) = let h = worth_least (v * 10 + (c - digit_zero)) cs in omega arith

empty_none : (w : List ℕ) → length w ≡ 0 → is_empty w ≡ true
empty_none [] h = refl
empty_none (c ∷ cs) h = absurd (omega arith)

pub some_there : (w : List ℕ) → (length w ≡ 0 → ⊥) → is_empty w ≡ false
some_there [] h = absurd (h refl)
some_there (c ∷ cs) h = refl

refuse : (w : List ℕ) → is_number w ≡ false → said None ≡ number_of w
unfolding number_of decimal_value said
refuse w e = rw e

pub empty_refused : (w : List ℕ) → length w ≡ 0 → said None ≡ number_of w
unfolding is_number
empty_refused w h = refuse w (rw (empty_none w h))

module _ {w : List ℕ} {v i : ℕ} (r : Reading w v i) where
  -- what is no digit
  pub nondigit_refused : i < length w → is_digit (get_or w i 0) ≡ false → said None ≡ number_of w
  unfolding is_number all_digits
  nondigit_refused h e =
      let d : all_digits w ≡ false = sym r.digits ∙ rw (drop-cons w i 0 h, e) in
      refuse w (rw (r.some, d))

  -- a value past the largest
  pub overflow_refused : i < length w → is_digit (get_or w i 0) ≡ true → number_range ≤ v * 10 + (get_or w i 0 - digit_zero) → said None ≡ number_of w
  unfolding is_number worth
  overflow_refused h e k =
      let s : worth (drop (suc i) w) (v * 10 + (get_or w i 0 - digit_zero)) ≡ worth w 0 = rw (drop-cons w i 0 h) at r.same in
      let g : number_range ≤ worth w 0 = omega (arith, worth_least (v * 10 + (get_or w i 0 - digit_zero)) (drop (suc i) w)) in
      refuse w (rw (r.some, le-ltb (worth w 0) number_range g) (and_false (all_digits w)))

  pub one_more : i < length w → is_digit (get_or w i 0) ≡ true → v * 10 + (get_or w i 0 - digit_zero) < number_range → Reading w (v * 10 + (get_or w i 0 - digit_zero)) (i + 1)
  unfolding all_digits worth
  one_more h e k = record {
    within = omega arith;
    some = r.some;
    digits = rw (add-one i) (sym (rw (drop-cons w i 0 h, e)) ∙ r.digits);
    same = rw (add-one i) (sym (rw (drop-cons w i 0 h)) ∙ r.same);
    fits = k;
  }

  pub all_read : length w ≤ i → said (Some v) ≡ number_of w
  unfolding number_of decimal_value is_number all_digits worth said
  all_read h =
      let d : all_digits w ≡ true = sym r.digits ∙ rw (drop_of_length-le w h) in
      let s : worth w 0 ≡ v = sym r.same ∙ rw (drop_of_length-le w h) in
      rw (r.some, d, s, lt-ltb v number_range r.fits)

-- What the questions ask of a number: whether there is one, which, and whether it is small.
module _ (w : List ℕ) where
  pub some_number : (o : Option ℕ) → said o ≡ number_of w → is_some o ≡ is_number w
  unfolding said number_of
  some_number None e = ap (λ (n : Number). n.good) e
  some_number (Some n) e = ap (λ (n : Number). n.good) e

  pub which_number : (o : Option ℕ) → said o ≡ number_of w → unwrap_or o 0 ≡ decimal_value w
  unfolding said number_of
  which_number None e = ap (λ (n : Number). n.value) e
  which_number (Some n) e = ap (λ (n : Number). n.value) e

  pub small_number : (o : Option ℕ) (most : ℕ) (r : Bool) → said o ≡ number_of w → MatchOption o (r ≡ false) (λ n. r ≡ leb n most) → r ≡ is_at_most w most
  unfolding said number_of is_at_most
  small_number None most r e h = rw (← some_number None e) h
  small_number (Some n) most r e h = rw (← some_number (Some n) e, ← which_number (Some n) e) h
