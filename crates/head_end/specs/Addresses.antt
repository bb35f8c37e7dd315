-- "a lent list of the head end's addresses" (document 02, C-15): 16 octets to an address, one behind the other.
use Rattle.std.specs.Prelude.{ℕ, zero, suc, ◌*◌, ◌/◌, ◌%◌, List, Bool, false, ◌||◌, length, eqb}
use Rattle.octets.specs.Octets.{part}
use Rattle.same_octets.specs.Same.{same_octets}

abbrev pub address_size : ℕ
address_size = 16

-- 28: "address list not a multiple of 16 octets"; that it is one.
unfoldable pub usable_list : List ℕ → Bool
usable_list list = eqb (length list % address_size) 0

-- Address k of a list, from 0.
abbrev pub address_at : List ℕ → ℕ → List ℕ
address_at list k = part list (address_size * k) address_size

-- One of the first n addresses is x.
abbrev pub among_first : List ℕ → List ℕ → ℕ → Bool
among_first list x zero = false
among_first list x (suc n) = same_octets (address_at list n) x || among_first list x n

-- One of the addresses is x.
unfoldable pub has_address : List ℕ → List ℕ → Bool
has_address list x = among_first list x (length list / address_size)
