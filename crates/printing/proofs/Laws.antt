-- The laws of text, in the order of the definitions. The library's digits are those of `spell` (`digits_spell`, by induction on their number), and 20 are enough (`fewest_20`); texts of octets
-- and lists grow by one element at a time (`hex_more`, `further_more`), and texts laid one behind the other are joined by `then`.
use Prim.Native.Nat.{ℕ, zero, suc, ◌+◌, ◌-◌, ◌*◌, ◌/◌, ◌%◌, ◌^◌, ◌≤◌, ◌<◌}
use mathlib.Core.Path.{◌≡◌, refl, sym, ◌∙◌, ap, subst}
use mathlib.Core.Bool.{Bool, true, false, cond}
use mathlib.Core.List.{List, [], ◌∷◌, ◌++◌, append_assoc, append-nil}
use lib.Dec.{ltb, leb}
use lib.ListN.{length, get_or, take, drop, length-append}
use lib.Seq.{take_at, length-take-le, take-suc}
use native.Mathlib.Omega.{arith}
use native.Mathlib.Numerals.{add-one}
use native.Mathlib.Nat.{pow-succ', pow-le-pow_right}
use borrow.Author.Tests.{lt-ltb, le-ltb, leb-true, leb-false}
use Rattle.io.specs.Digits.{last_digits, IsDigitCount}
use Rattle.octets.specs.Octets.{placed, over}
use Rattle.octets.proofs.Laws.{length_placed}
use Rattle.printing.specs.Text.{spell, decimal_of, glyph_of, hex_of, octets_text, further_text, list_text, Behind}

-- ## Numbers

-- k digits, the first of them not 0 unless it is the only one
pub digits_spell : (k n : ℕ) → n < 10 ^ suc k → (0 < k → 10 ^ k ≤ n) → last_digits 10 (suc k) n ≡ spell (suc k) n
unfolding spell
digits_spell zero n h g =
    let e : n % 10 ≡ n = omega arith in
    rw (lt-ltb n 10 (omega arith), e, lt-ltb n 10 (omega arith))
digits_spell (suc k) n h g =
    let p : 10 ^ suc (suc k) ≡ 10 * 10 ^ suc k = pow-succ' 10 (suc k) in
    let q : 10 ^ suc k ≡ 10 * 10 ^ k = pow-succ' 10 k in
    let o : 1 ≤ 10 ^ k = pow-le-pow_right {n = 10} (omega arith) {i = 0} {j = k} (omega arith) in
    let l : 10 ^ suc k ≤ n = g (omega arith) in
    let m : n % 10 < 10 = omega arith in
    rw (le-ltb n 10 (omega arith), lt-ltb (n % 10) 10 m, digits_spell k (n / 10) (omega arith) (λ z. omega arith))

-- More room for digits changes nothing.
pub spell_more : (k n : ℕ) → n < 10 ^ suc k → spell (suc k) n ≡ spell (suc (suc k)) n
unfolding spell
spell_more zero n h = rw (lt-ltb n 10 (omega arith))
spell_more (suc k) n h =
    let p : 10 ^ suc (suc k) ≡ 10 * 10 ^ suc k = pow-succ' 10 (suc k) in
    ap (λ (t : List ℕ). cond (ltb n 10) ((48 + n) ∷ []) (t ++ ((48 + n % 10) ∷ []))) (spell_more k (n / 10) (omega arith))

spell_by : (j k n : ℕ) → n < 10 ^ suc k → spell (suc k) n ≡ spell (suc (k + j)) n
spell_by zero k n h = let e : k + 0 ≡ k = omega arith in rw e
spell_by (suc j) k n h =
    let e : k + suc j ≡ suc (k + j) = omega arith in
    let f : 10 ^ suc k ≤ 10 ^ suc (k + j) = pow-le-pow_right {n = 10} (omega arith) {i = suc k} {j = suc (k + j)} (omega arith) in
    spell_by j k n h ∙ rw e (spell_more (k + j) n (omega arith))

pub digits_decimal : (k n : ℕ) → k ≤ 20 → IsDigitCount 10 1 n k → last_digits 10 k n ≡ decimal_of n
unfolding decimal_of
digits_decimal zero n h f = absurd (omega arith)
digits_decimal (suc k) n h f =
    let e : k + (19 - k) ≡ 19 = omega arith in
    let d : suc k - 1 ≡ k = omega arith in
    digits_spell k n f.1 (λ z. rw d at (f.2 (omega arith))) ∙ rw e at (spell_by (19 - k) k n f.1)

-- A number below 2^64 has at most 20 digits.
pub fewest_20 : (n k : ℕ) → n < 18446744073709551616 → IsDigitCount 10 1 n k → k ≤ 20
fewest_20 n k h f = go (leb k 20) refl where
  go : (b : Bool) → leb k 20 ≡ b → k ≤ 20
  go true e = leb-true k 20 e
  go false e =
      let l : 20 < k = leb-false k 20 e in
      let p : 10 ^ 20 ≤ 10 ^ (k - 1) = pow-le-pow_right {n = 10} (omega arith) {i = 20} {j = k - 1} (omega arith) in
      let q : 10 ^ (k - 1) ≤ n = f.2 (omega arith) in
      absurd (omega arith)

-- ## Octets

pub hex_append : (a b : List ℕ) → hex_of (a ++ b) ≡ hex_of a ++ hex_of b
unfolding hex_of
hex_append [] b = refl
hex_append (x ∷ xs) b = ap (λ (t : List ℕ). glyph_of (x / 16) ∷ glyph_of (x % 16) ∷ t) (hex_append xs b)

pub hex_more : (s : List ℕ) (i : ℕ) → i < length s → hex_of (take i s) ++ (glyph_of (get_or s i 0 / 16) ∷ glyph_of (get_or s i 0 % 16) ∷ []) ≡ hex_of (take (i + 1) s)
unfolding hex_of
hex_more s i h = sym (rw (add-one, take-suc s i 0 h) (hex_append (take i s) (get_or s i 0 ∷ [])))

pub hex_length : (s : List ℕ) → length (hex_of s) ≡ 2 * length s
unfolding hex_of
hex_length [] = refl
hex_length (x ∷ xs) = let h = hex_length xs in omega arith

-- ## Lists

pub further_append : (a b : List ℕ) → further_text (a ++ b) ≡ further_text a ++ further_text b
unfolding further_text
further_append [] b = refl
further_append (x ∷ xs) b = ap (λ (t : List ℕ). (44 ∷ decimal_of x) ++ t) (further_append xs b) ∙ sym (append_assoc (44 ∷ decimal_of x) (further_text xs) (further_text b))

pub further_more : (s : List ℕ) (i x : ℕ) → i < length s → x ≡ get_or s i 0 → further_text (take i s) ++ ((44 ∷ []) ++ decimal_of x) ≡ further_text (take (i + 1) s)
unfolding further_text
further_more s i x h e =
    sym (rw (add-one, take-suc s i 0 h, ← e) (further_append (take i s) (x ∷ []) ∙ ap (λ (t : List ℕ). further_text (take i s) ++ t) (append-nil (44 ∷ decimal_of x))))

pub list_none : (s : List ℕ) → length s ≡ 0 → list_text s ≡ 45 ∷ []
unfolding list_text
list_none [] h = refl
list_none (x ∷ xs) h = absurd (omega arith)

pub list_some : (s : List ℕ) (x : ℕ) → (length s ≡ 0 → ⊥) → x ≡ get_or s 0 0 → list_text s ≡ decimal_of x ++ further_text (drop 1 s)
unfolding list_text
list_some [] x h e = absurd (h refl)
list_some (y ∷ ys) x h e = rw e

-- ## Lines

pub behind_placed : (b w : List ℕ) (at : ℕ) → at + length w ≤ length b → Behind b (placed b at w) at (at + length w) w
unfolding placed over
behind_placed b w at h = record {
  ends = refl;
  text = rw (← append_assoc (take at b) w (drop (length w) (drop at b)))
      (take_at (take at b ++ w) (drop (length w) (drop at b)) (at + length w) (simp (length-append, length-take-le at b (omega arith))));
  room = length_placed b at w h;
}

pub behind_none : (b : List ℕ) (at : ℕ) → Behind b b at at []
behind_none b at = record { ends = omega arith; text = sym (append-nil (take at b)); room = refl }

pub then : {b c d x y : List ℕ} {at e f : ℕ} → Behind b c at e x → Behind c d e f y → Behind b d at f (x ++ y)
then {b = b} {x = x} {y = y} {at = at} p q = record {
  ends = omega (arith, length-append x y);
  text = q.text ∙ rw p.text (append_assoc (take at b) x y);
  room = q.room ∙ p.room;
}

-- The line of a row, or of whatever else it hangs on.
pub behind_by : {A : Type 0} (f : A → List ℕ) {row x : A} {before after : List ℕ} {r : ℕ} → row ≡ x → Behind before after 0 r (f x) → Behind before after 0 r (f row)
behind_by {A} f {before = before} {after} {r} p b = subst (λ (y : A). Behind before after 0 r (f y)) (sym p) b

-- none, or digits
pub dash_for_none : (s : List ℕ) → length s ≡ 0 → octets_text s ≡ 45 ∷ []
unfolding octets_text
dash_for_none [] h = refl
dash_for_none (x ∷ xs) h = absurd (omega arith)

pub digits_for_some : (s : List ℕ) → (length s ≡ 0 → ⊥) → octets_text s ≡ hex_of s
unfolding octets_text
digits_for_some [] h = absurd (h refl)
digits_for_some (x ∷ xs) h = refl
