-- In whatever portions the input is read, the console hears and says the same.
use Prim.Native.Nat.{ℕ}
use mathlib.Core.Path.{◌≡◌, refl, ap}
use mathlib.Core.Bool.{Bool, true, false}
use mathlib.Core.List.{List, [], ◌∷◌, ◌++◌, append_assoc}
use lib.Dec.{eqb}
use Rattle.words.specs.Words.{newline}
use Rattle.console_dialogue.specs.Input.{Dialogue, heard_at_start, turn_now, line_ended, longer, hear_all, say_all, say_whole}

pub hear_append : (g : Dialogue) (xs ys : List ℕ) → hear_all (hear_all g xs) ys ≡ hear_all g (xs ++ ys)
unfolding hear_all
hear_append g [] ys = refl
hear_append g (x ∷ xs) ys = go (eqb x newline) refl (hear_append (line_ended g) xs ys) (hear_append (longer g (x ∷ [])) xs ys) where
  go : (t : Bool) → eqb x newline ≡ t
      → hear_all (hear_all (line_ended g) xs) ys ≡ hear_all (line_ended g) (xs ++ ys)
      → hear_all (hear_all (longer g (x ∷ [])) xs) ys ≡ hear_all (longer g (x ∷ [])) (xs ++ ys)
      → hear_all (hear_all g (x ∷ xs)) ys ≡ hear_all g (x ∷ xs ++ ys)
  go true e p q = rw e p
  go false e p q = rw e q

pub say_append : (g : Dialogue) (xs ys : List ℕ) → say_all g xs ++ say_all (hear_all g xs) ys ≡ say_all g (xs ++ ys)
unfolding hear_all say_all
say_append g [] ys = refl
say_append g (x ∷ xs) ys = go (eqb x newline) refl (say_append (line_ended g) xs ys) (say_append (longer g (x ∷ [])) xs ys) where
  go : (t : Bool) → eqb x newline ≡ t
      → say_all (line_ended g) xs ++ say_all (hear_all (line_ended g) xs) ys ≡ say_all (line_ended g) (xs ++ ys)
      → say_all (longer g (x ∷ [])) xs ++ say_all (hear_all (longer g (x ∷ [])) xs) ys ≡ say_all (longer g (x ∷ [])) (xs ++ ys)
      → say_all g (x ∷ xs) ++ say_all (hear_all g (x ∷ xs)) ys ≡ say_all g (x ∷ xs ++ ys)
  go true e p q = rw (e, append_assoc) (ap (λ (t : List ℕ). (turn_now g).answer ++ t) p)
  go false e p q = rw e q

-- What was said to the portions before, to the last one and to the last line is all that is said.
pub say_whole_lem : (xs ys : List ℕ) → say_all heard_at_start xs ++ (say_all (hear_all heard_at_start xs) ys ++ (turn_now (hear_all (hear_all heard_at_start xs) ys)).answer) ≡ say_whole (xs ++ ys)
unfolding say_whole
say_whole_lem xs ys = rw (← append_assoc, say_append, hear_append)
