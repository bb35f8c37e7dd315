-- What a pass over the pairs also tells its caller. No promise rests on it: a contract of an inner function cites it, and proofs take it apart.
use Rattle.std.specs.Prelude.{ℕ, ◌≡◌, List, Option, None, Some, cond, ltb}
use Rattle.msd.specs.Msd.{Pair, max_segments_left, max_h_encaps, smallest_of}

-- v and m are the smallest values of H.Encaps and of Segments Left.
abbrev pub Stands : List Pair → Option ℕ → Option ℕ → Type 0
Stands ps v m = (v ≡ smallest_of ps max_h_encaps) × (m ≡ smallest_of ps max_segments_left)

-- The number that the pass keeps of a type, as the value met: 256 stands for none.
unfoldable pub met : ℕ → Option ℕ
met n = cond (ltb n 256) (Some n) None
