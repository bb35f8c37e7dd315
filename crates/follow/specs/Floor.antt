-- The floor of a story: no removal at or below it is kept.
--
-- "The floor becomes c if that is higher" at a compaction. A report raises it where its key is new and 128 keys stand on the table: the new key
-- takes the place "of the oldest removal, and the floor rises to that removal's version". (Were all 128 paths, the report was refused, 21.)
use Rattle.std.specs.Prelude.{ℕ, zero, suc, max, Bool, true, false, not, cond, ◌&&◌, ◌||◌, eqb, ltb, leb}
use Rattle.std.proofs.Math.Option.{Option, none, some}
use Rattle.board_record.specs.Sizes.{places, key_most}
use Rattle.board_record.specs.Lists.{count_below}
use Rattle.follow.specs.Story.{HeldPath, sets, clears, Story, begun, did, compacted_to, held, last}

-- the smaller of two numbers, where 0 stands for none
abbrev pub lesser : ℕ → ℕ → ℕ
lesser a b = cond (eqb a 0) b (cond (leb a b) a b)

-- the least value of those below n that pass; 0 where none does
unfoldable pub least_value : (ℕ → Bool) → (ℕ → ℕ) → ℕ → ℕ
least_value t v zero = 0
least_value t v (suc n) = cond (t n) (lesser (least_value t v n) (v n)) (least_value t v n)

abbrev pub is_some : Option HeldPath → Bool
is_some none = false
is_some (some path) = true

-- key k stands on the table with floor f: it has a path, or a removal above f
unfoldable pub standing : Story → ℕ → ℕ → Bool
standing h f k = is_some (held h k) || ltb f (last h k)

-- all keys are below this
abbrev pub key_end : ℕ
key_end = suc key_most

-- the version of the oldest removal that stands
abbrev pub oldest_removal : Story → ℕ → ℕ
oldest_removal h f = least_value (λ j. standing h f j && not (is_some (held h j))) (last h) key_end

-- the floor after an accepted report of key k
unfoldable pub floor_put : Story → ℕ → ℕ → ℕ
floor_put h f k = cond (standing h f k) f (cond (ltb (count_below (standing h f) key_end) places) f (oldest_removal h f))

unfoldable pub floor_of : Story → ℕ
floor_of (begun o) = o.floor
floor_of (did (sets k path) h) = floor_put h (floor_of h) k
floor_of (did (clears k) h) = floor_of h
floor_of (compacted_to c h) = max (floor_of h) c
