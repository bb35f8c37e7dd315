-- What is asked of the list of setup types is said of it by its definitions.
use Rattle.std.specs.List.{list_any}
use Prim.Native.Nat.{ℕ}
use mathlib.Core.Path.{◌≡◌, refl}
use mathlib.Core.List.{List, [], ◌∷◌}
use mathlib.Core.Bool.{Bool}
use lib.ListN.{take, drop}
use lib.Dec.{eqb}
use Rattle.answers.proofs.Determined.{determined}
use Rattle.octets.specs.Octets.{part}
use Rattle.setup_types.specs.SetupTypes.{types_at, type_count, has_of, list_size, lists_type}

-- setup types --------------------------------------------------------------------------------------------------

pub any_has : (l : List ℕ) (x : ℕ) → list_any (λ y. eqb y x) l ≡ has_of l x
any_has [] x = refl
any_has (y ∷ ys) x = rw (any_has ys x)

-- The octets lent to the search are those that the count asks for.
pub listed_lent : (kind : ℕ) (v : List ℕ) (n : ℕ) {found : Bool} → found ≡ has_of (take n (drop types_at v)) kind → n ≡ type_count v → found ≡ lists_type v kind
unfolding lists_type part
listed_lent kind v n e h = rw (← h) e

-- Any two answers that fit the contract of a call are equal ----------------------------------------------------

pub list_size_determined : (v : List ℕ) {x y : ℕ} → x ≡ list_size v → y ≡ list_size v → x ≡ y
list_size_determined v = determined

pub lists_determined : (kind : ℕ) (v : List ℕ) {x y : Bool} → x ≡ lists_type v kind → y ≡ lists_type v kind → x ≡ y
lists_determined kind v = determined
