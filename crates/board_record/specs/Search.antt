-- The places that the calls look for (document 01, "The board"). Each is said in the paper's words by a record; beside it stands the
-- function that names the place, which answers 128 where there is none. proofs/Search.antt shows that the function's place is the one of the
-- record, and that a record has one place only.
use Rattle.std.specs.Prelude.{ℕ, zero, suc, ◌<◌, ◌≤◌, ◌≡◌, Bool, not, cond, ◌&&◌, ◌||◌, List, get_or, eqb, ltb, leb}
use Rattle.board_record.specs.Sizes.{places}
use Rattle.board_record.specs.Lists.{any_below}
use Rattle.board_record.specs.Table.{Table, key_at, version_at, length_at, Empty, Used, RemovalAt, PathAt, New, removal_b}

-- the first number below n that passes the test; n where none does
unfoldable pub first_where : (ℕ → Bool) → ℕ → ℕ
first_where t zero = 0
first_where t (suc n) = cond (ltb (first_where t n) n) (first_where t n) (cond (t n) n (suc n))

-- of the numbers below n that pass the test, that of the smallest value, and of equal ones the first; 128 where none passes
unfoldable pub least_where : (ℕ → Bool) → (ℕ → ℕ) → ℕ → ℕ
least_where t v zero = places
least_where t v (suc n) = cond (t n && not (ltb (least_where t v n) places && leb (v (least_where t v n)) (v n))) n (least_where t v n)

-- ---- the place of a key
pub record KeyPlace (b : Table) (k i : ℕ) : Type 0 where
  pub here : i < places
  pub key : key_at b i ≡ k

-- the first place of a list of keys that has k
unfoldable pub place_in : List ℕ → ℕ → ℕ
place_in keys k = first_where (λ i. eqb (get_or keys i 0) k) places

abbrev pub place_of : Table → ℕ → ℕ
place_of b k = place_in b.keys k

-- ---- "the lowest empty place"
pub record LowestEmpty (b : Table) (i : ℕ) : Type 0 where
  pub here : i < places
  pub empty : Empty b i
  pub lowest : (j : ℕ) → j < i → Empty b j → ⊥

abbrev pub empty_of : Table → ℕ
empty_of b = place_in b.keys 0

-- ---- "the oldest removal"
pub record OldestRemoval (b : Table) (i : ℕ) : Type 0 where
  pub here : i < places
  pub removal : RemovalAt b i
  pub oldest : (j : ℕ) → j < places → RemovalAt b j → version_at b i ≤ version_at b j

unfoldable pub oldest_of : Table → ℕ
oldest_of b = least_where (removal_b b) (version_at b) places

-- ---- where a report goes: "A key on the table, path or removal, keeps its place"; "A new key takes the lowest empty place; with none, that of
-- the oldest removal"
pub data ReportPlace (b : Table) (k i : ℕ) : Type 0 where
  keeps : KeyPlace b k i → ReportPlace b k i
  takes : New b k → LowestEmpty b i → ReportPlace b k i
  drops : New b k → ((j : ℕ) → j < places → Used b j) → OldestRemoval b i → ReportPlace b k i

unfoldable pub target_of : Table → ℕ → ℕ
target_of b k = cond (ltb (place_of b k) places) (place_of b k) (cond (ltb (empty_of b) places) (empty_of b) (oldest_of b))

-- "with none, that of the oldest removal, and the floor rises to that removal's version": the floor after a report of key k at place i, which
-- drops a removal exactly where the place has another key
unfoldable pub floor_after : Table → ℕ → ℕ → ℕ
floor_after b k i = cond (eqb (key_at b i) 0) b.floor (cond (eqb (key_at b i) k) b.floor (version_at b i))

-- ---- "the change of smallest version above w that is a path, or is a removal above s"
pub data Wanted (b : Table) (s w i : ℕ) : Type 0 where
  path : PathAt b i → w < version_at b i → Wanted b s w i
  removal : RemovalAt b i → w < version_at b i → s < version_at b i → Wanted b s w i

pub record NextChange (b : Table) (s w i : ℕ) : Type 0 where
  pub here : i < places
  pub wanted : Wanted b s w i
  pub smallest : (j : ℕ) → j < places → Wanted b s w j → version_at b i ≤ version_at b j

unfoldable pub wanted_b : Table → ℕ → ℕ → ℕ → Bool
wanted_b b s w i = not (eqb (key_at b i) 0) && ltb w (version_at b i) && (not (eqb (length_at b i) 0) || ltb s (version_at b i))

unfoldable pub next_of : Table → ℕ → ℕ → ℕ
next_of b s w = least_where (wanted_b b s w) (version_at b) places

-- ---- "any key from a to b changed after version v" (document 02): a used place with such a key and a higher version
pub record MovedAt (b : Table) (from to v i : ℕ) : Type 0 where
  pub here : i < places
  pub used : Used b i
  pub least : from ≤ key_at b i
  pub most : key_at b i ≤ to
  pub after : v < version_at b i

unfoldable pub moved_b : List ℕ → List ℕ → ℕ → ℕ → ℕ → ℕ → Bool
moved_b keys versions from to v i = not (eqb (get_or keys i 0) 0) && leb from (get_or keys i 0) && leb (get_or keys i 0) to && ltb v (get_or versions i 0)

-- "a look at all 128 places"
unfoldable pub moved_in : List ℕ → List ℕ → ℕ → ℕ → ℕ → Bool
moved_in keys versions from to v = any_below (moved_b keys versions from to v) places
