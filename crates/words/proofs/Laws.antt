-- The laws of words, in the order of the definitions. The code walks by places, the definitions by what is left of the line: each law says what one more octet at a place does to what is
-- left from there (`drop-cons`), and a word's end is the length of what lies before the next mark.
use Prim.Native.Nat.{ℕ, zero, suc, ◌+◌, ◌-◌, ◌≤◌, ◌<◌}
use mathlib.Core.Path.{◌≡◌, refl, sym, ◌∙◌, ap}
use mathlib.Core.List.{List, [], ◌∷◌}
use mathlib.Core.Bool.{Bool, true, false, cond}
use lib.ListN.{length, get_or, take, drop, drop_of_length-le, length-drop}
use lib.Seq.{take_all}
use lib.Dec.{eqb}
use native.Mathlib.Omega.{arith}
use native.Mathlib.Numerals.{add-one}
use Rattle.std.specs.List.{count_by, position, position_or_len}
use Rattle.std.specs.Prelude.{Some, None}
use Rattle.std.proofs.lemmas.Grind.{common_steps}
use Rattle.std.proofs.lemmas.List.Recursion.{is_position_or_len}
use Rattle.std.proofs.lemmas.List.Sums.{sum_by-cons}
use Rattle.words.specs.Words.{word_of, words_in, until_mark, behind_mark}

-- ## Before the first mark

pub take_until : (m : ℕ) (l : List ℕ) → take (length (until_mark l m)) l ≡ until_mark l m
unfolding until_mark
take_until m [] = refl
take_until m (c ∷ cs) = go (eqb c m) (take_until m cs) where
  go : (b : Bool) → take (length (until_mark cs m)) cs ≡ until_mark cs m → take (length (cond b [] (c ∷ until_mark cs m))) (c ∷ cs) ≡ cond b [] (c ∷ until_mark cs m)
  go true e = refl
  go false e = ap (λ (t : List ℕ). c ∷ t) e

until_step : (m x : ℕ) (xs : List ℕ) → length (until_mark (x ∷ xs) m) ≡ cond (eqb x m) 0 (1 + length (until_mark xs m))
unfolding until_mark
until_step m x xs = go (eqb x m) where
  go : (b : Bool) → length (cond b [] (x ∷ until_mark xs m)) ≡ cond b 0 (1 + length (until_mark xs m))
  go true = refl
  go false = omega arith

until_none : (m : ℕ) → length (until_mark [] m) ≡ 0
unfolding until_mark
until_none m = refl

-- The place of the first mark, or the line's end.
pub until_length : (m : ℕ) (l : List ℕ) → length (until_mark l m) ≡ position_or_len (λ c. eqb c m) l
until_length m l = is_position_or_len (λ t. length (until_mark t m)) (λ c. eqb c m) (until_none m) (until_step m) l

until_within : (m : ℕ) (l : List ℕ) → length (until_mark l m) ≤ length l
unfolding until_mark
until_within m [] = omega arith
until_within m (c ∷ cs) = go (eqb c m) (until_within m cs) where
  go : (b : Bool) → length (until_mark cs m) ≤ length cs → length (cond b [] (c ∷ until_mark cs m)) ≤ suc (length cs)
  go true h = omega arith
  go false h = omega arith

module _ (m : ℕ) (l : List ℕ) where
  some_length : (e : ℕ) → position (λ c. eqb c m) l ≡ Some e → length (until_mark l m) ≡ e
  some_length e h =
      let at : position_or_len (λ c. eqb c m) l ≡ e = grind (arith, common_steps) in
      until_length m l ∙ at

  none_length : position (λ c. eqb c m) l ≡ None → length (until_mark l m) ≡ length l
  none_length h =
      let at : length l ≤ position_or_len (λ c. eqb c m) l = grind (arith, common_steps) in
      omega (arith, until_length m l, until_within m l)

  pub before_some : (e : ℕ) → position (λ c. eqb c m) l ≡ Some e → take e l ≡ until_mark l m
  before_some e h = rw (some_length e h) at (take_until m l)

  pub before_none : position (λ c. eqb c m) l ≡ None → l ≡ until_mark l m
  before_none h = sym (take_all (length l) l (omega arith)) ∙ rw (none_length h) at (take_until m l)

-- ## Behind the first mark

pub behind_drop : (m : ℕ) (l : List ℕ) → behind_mark l m ≡ drop (suc (length (until_mark l m))) l
unfolding until_mark behind_mark
behind_drop m [] = refl
behind_drop m (c ∷ cs) = go (eqb c m) (behind_drop m cs) where
  go : (b : Bool) → behind_mark cs m ≡ drop (suc (length (until_mark cs m))) cs → cond b cs (behind_mark cs m) ≡ drop (suc (length (cond b [] (c ∷ until_mark cs m)))) (c ∷ cs)
  go true e = refl
  go false e = e

pub take_rest : (l : List ℕ) (i : ℕ) → take (length l - i) (drop i l) ≡ drop i l
take_rest l i = take_all (length l - i) (drop i l) (omega (arith, length-drop i l))

module _ (m : ℕ) (l : List ℕ) where
  pub behind_some : (e : ℕ) → position (λ c. eqb c m) l ≡ Some e → drop (e + 1) l ≡ behind_mark l m
  behind_some e h = rw (add-one, ← some_length m l e h) (sym (behind_drop m l))

  pub behind_none : position (λ c. eqb c m) l ≡ None → [] ≡ behind_mark l m
  behind_none h =
      let n : length l ≤ suc (length (until_mark l m)) = omega (arith, none_length m l h) in
      sym (behind_drop m l ∙ drop_of_length-le l n)

-- ## Words

pub word_none : (m i : ℕ) → word_of [] m i ≡ []
unfolding word_of until_mark behind_mark
word_none m zero = refl
word_none m (suc i) = word_none m i

-- where nothing is left, that is the word
pub word_ended : (m : ℕ) (l : List ℕ) (i : ℕ) → length l ≡ 0 → l ≡ word_of l m i
word_ended m [] i h = sym (word_none m i)
word_ended m (c ∷ cs) i h = absurd (omega arith)

pub word_next : (m : ℕ) (l : List ℕ) (i : ℕ) → 0 < i → word_of (behind_mark l m) m (i - 1) ≡ word_of l m i
unfolding word_of
word_next m l zero h = absurd (omega arith)
word_next m l (suc i) h = let n : suc i - 1 ≡ i = omega arith in rw n

pub word_first : (m : ℕ) (l : List ℕ) → until_mark l m ≡ word_of l m 0
unfolding word_of
word_first m l = refl

-- ## How many words

pub words_count : (m : ℕ) (l : List ℕ) → words_in l m ≡ 1 + count_by (λ c. eqb c m) l
unfolding words_in
words_count m [] = refl
words_count m (c ∷ cs) =
    let h = go (eqb c m) (words_in cs m) (count_by (λ x. eqb x m) cs) (words_count m cs) in
    h ∙ ap (λ (n : ℕ). 1 + n) (sym (sum_by-cons (λ x. cond (eqb x m) 1 0) c cs))
  where
    go : (b : Bool) (w n : ℕ) → w ≡ 1 + n → cond b (suc w) w ≡ 1 + (cond b 1 0 + n)
    go true w n e = omega arith
    go false w n e = omega arith

-- ## All words

-- the words behind the first, one behind each mark
unfoldable pub later_words : ℕ → List ℕ → List (List ℕ)
later_words m [] = []
later_words m (c ∷ cs) = cond (eqb c m) (until_mark cs m ∷ later_words m cs) (later_words m cs)

abbrev pub all_words : ℕ → List ℕ → List (List ℕ)
all_words m l = until_mark l m ∷ later_words m l

later_word : (m : ℕ) (l : List ℕ) (i : ℕ) → get_or (later_words m l) i [] ≡ word_of (behind_mark l m) m i
unfolding later_words behind_mark word_of
later_word m [] i = sym (word_none m i)
later_word m (c ∷ cs) i = go (eqb c m) i (λ k. later_word m cs k) where
  go : (b : Bool) (i : ℕ) → ((k : ℕ) → get_or (later_words m cs) k [] ≡ word_of (behind_mark cs m) m k)
      → get_or (cond b (until_mark cs m ∷ later_words m cs) (later_words m cs)) i [] ≡ word_of (cond b cs (behind_mark cs m)) m i
  go true zero h = refl
  go true (suc i) h = h i
  go false i h = h i

pub all_word : (m : ℕ) (l : List ℕ) (i : ℕ) → get_or (all_words m l) i [] ≡ word_of l m i
unfolding word_of
all_word m l zero = refl
all_word m l (suc i) = later_word m l i

pub all_count : (m : ℕ) (l : List ℕ) → length (all_words m l) ≡ words_in l m
unfolding later_words words_in
all_count m [] = refl
all_count m (c ∷ cs) = go (eqb c m) (all_count m cs) where
  go : (b : Bool) → suc (length (later_words m cs)) ≡ words_in cs m
      → suc (length (cond b (until_mark cs m ∷ later_words m cs) (later_words m cs))) ≡ cond b (suc (words_in cs m)) (words_in cs m)
  go true e = ap suc e
  go false e = e
