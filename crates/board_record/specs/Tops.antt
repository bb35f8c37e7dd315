-- The largest version of each 8 places (document 02: "Keep, for each 8 places, the largest version among them, as a part of check 17"). Group g is the places
-- 8 g to 8 g + 7. An empty place of a proper table has version 0, so a group of empty places has 0.
use Rattle.std.specs.Prelude.{ℕ, ◌+◌, ◌*◌, ◌<◌, ◌≤◌, ◌≡◌, Bool, List, ◌⊎◌, get_or, eqb}
use Rattle.board_record.specs.Sizes.{group, groups}
use Rattle.board_record.specs.Lists.{row, max_below}
use Rattle.board_record.specs.Proper.{all_below}

-- the version of place j of group g
abbrev pub in_group : List ℕ → ℕ → ℕ → ℕ
in_group versions g j = get_or versions (group * g + j) 0

-- m is the largest version of group g: none is above it, and one is it, or it is 0
pub record Top (versions : List ℕ) (g m : ℕ) : Type 0 where
  pub most : (j : ℕ) → j < group → in_group versions g j ≤ m
  pub is : (m ≡ 0) ⊎ ((j : ℕ) × (j < group) × (in_group versions g j ≡ m))

-- ---- the same as a function; proofs/ shows that its number is that of the record, and no other is
unfoldable pub top_of : List ℕ → ℕ → ℕ
top_of versions g = max_below (in_group versions g) group

unfoldable pub tops_of : List ℕ → List ℕ
tops_of versions = row (top_of versions) groups

-- that numbers are the largest versions of the groups, as a test
unfoldable pub in_tops : List ℕ → List ℕ → Bool
in_tops versions tops = all_below (λ g. eqb (get_or tops g 0) (top_of versions g)) groups
