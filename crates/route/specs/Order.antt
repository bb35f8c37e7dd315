-- Where a check stands in document 01's order, and which stand before it: an earlier check on the whole, an earlier subobject,
-- or an earlier check in the same one.
use Rattle.std.specs.Prelude.{ℕ, ◌<◌, ◌≡◌, List, ◌⊎◌, Bool, true, false, get_or}
use Rattle.forms.specs.declared.Form.{Form}
use Rattle.session.specs.declared.Session.{Session}
use Rattle.frame.specs.Checks.{Check, check}
use Rattle.frame.specs.Frames.{places_of}
use Rattle.subobject.specs.Rules.{rule_count}
use Rattle.route_walk.specs.Walk.{checks_at}
use Rattle.route.specs.Routes.{whole_checks, last_checks, count_of}

-- The k-th check on the whole (4, 5, 6, 14, 13), the k-th check of subobject i (8, 9, 7, 10, 11, 29, 30), or 12; k and i from 0.
pub data Where : Type 0 where
  whole : ℕ → Where
  inside : ℕ → ℕ → Where
  last : Where

-- How many checks there are on the whole.
abbrev pub whole_count : ℕ
whole_count = 5

-- The checks that a route of n subobjects has.
abbrev pub Among : Where → ℕ → Type 0
Among (whole k) n = k < whole_count
Among (inside i k) n = (i < n) × (k < rule_count)
Among last n = Unit {0}

abbrev pub Before : Where → Where → Type 0
Before (whole j) (whole k) = j < k
Before (whole j) (inside i k) = Unit {0}
Before (whole j) last = Unit {0}
Before (inside i j) (whole k) = ⊥
Before (inside i j) (inside l k) = (i < l) ⊎ ((i ≡ l) × (j < k))
Before (inside i j) last = Unit {0}
Before last w = ⊥

-- The check that stands there: its number, its place, and whether it is broken.
abbrev pub check_at : Form → List ℕ → Bool → Session → ℕ → Where → Check
check_at form s ero session pst (whole k) = get_or (whole_checks form s ero session pst) k (check 0 0 false)
check_at form s ero session pst (inside i k) =
    get_or (checks_at form s ero session.n (get_or (places_of s) i 0)) k (check 0 0 false)
check_at form s ero session pst last = get_or (last_checks (places_of s) ero session.limit (count_of s)) 0 (check 0 0 false)

-- A rule of this number is broken at this place, and nothing before it in document 01's order is.
pub record FirstBroken (form : Form) (s : List ℕ) (ero : Bool) (session : Session) (pst number place : ℕ) : Type 0 where
  pub stands : Where
  pub among : Among stands (count_of s)
  pub numbered : (check_at form s ero session pst stands).number ≡ number
  pub placed : (check_at form s ero session pst stands).place ≡ place
  pub broken : (check_at form s ero session pst stands).broken ≡ true
  pub nothing : (w : Where) → Among w (count_of s) → Before w stands → (check_at form s ero session pst w).broken ≡ false
