-- As many keys stand on the table as places are used. Assumes nothing.
use Prim.Native.Nat.{ℕ, ◌≤◌}
use native.Mathlib.Omega.{arith}
use mathlib.Core.Path.{◌≡◌}
use mathlib.Core.Bool.{Bool}
use Rattle.board_record.specs.Sizes.{places}
use Rattle.board_record.specs.Lists.{count_below}
use Rattle.board_record.specs.Table.{Table, key_at, used_b}
use Rattle.board_record.specs.Proper.{Proper}
use Rattle.board_record.proofs.Lists.{hits, count_hits}
use Rattle.board_record.proofs.Search.{used_is}
use Rattle.board_record.proofs.Proper.{proper_sound}
use Rattle.follow.specs.Floor.{key_end}

-- key k stands at one of the first n places
abbrev pub has : Table → ℕ → ℕ → Bool
has b n k = hits (used_b b) (key_at b) n k

pub keys_count : (b : Table) → Proper b → (n : ℕ) → n ≤ places → count_below (has b n) key_end ≡ count_below (used_b b) n
keys_count b p n l =
    count_hits (used_b b) (key_at b) n key_end (λ j m e. omega (arith, (proper_sound b p j (omega arith)).key))
    (λ i j m k e f. p.keys_distinct i j (omega arith) (omega arith) (used_is b i e))
