-- Lists, counts, largest values and looks over numbers below n.
use Rattle.std.specs.Prelude.{ℕ, zero, suc, max, Bool, false, cond, ◌||◌, List, [], ◌∷◌, ◌++◌}

-- f 0, f 1, .. , f (n - 1)
unfoldable pub row : (ℕ → ℕ) → ℕ → List ℕ
row f zero = []
row f (suc n) = row f n ++ (f n ∷ [])

-- how many of the numbers below n pass
unfoldable pub count_below : (ℕ → Bool) → ℕ → ℕ
count_below t zero = 0
count_below t (suc n) = cond (t n) (suc (count_below t n)) (count_below t n)

-- the largest of f 0, .. , f (n - 1); 0 where there is none
unfoldable pub max_below : (ℕ → ℕ) → ℕ → ℕ
max_below f zero = 0
max_below f (suc n) = max (max_below f n) (f n)

-- some number below n passes
unfoldable pub any_below : (ℕ → Bool) → ℕ → Bool
any_below t zero = false
any_below t (suc n) = any_below t n || t n
