-- No promise rests on this file: it serves the contracts of the pass's inner functions.
--
-- Buckets of a hash over a list of keys, 0 standing for none: where in the list the keys with one hash stand, the last one first. The list of heads has for each
-- hash 1 more than the last place below i with it, the list of links for each place 1 more than the place before it in its bucket; 0 ends a bucket.
use Rattle.std.specs.Prelude.{◌≡◌, ℕ, ◌-◌, ◌*◌, ◌/◌, ◌%◌, ◌<◌, ◌≤◌, List, length, ◌≢◌, slice_index, slice_index_or}
use Rattle.board_record.specs.Sizes.{places}
use Rattle.board_record.specs.Lists.{row}
use Rattle.board_record.specs.Order.{place_on}

-- the keys of the places that an order names, in that order
unfoldable pub along : List ℕ → List ℕ → List ℕ
along keys order = row (λ j. slice_index keys (place_on order j)) places

-- the hashes are below 1,024
abbrev pub slots : ℕ
slots = 1024

-- the low 32 bits of a number, what they are multiplied by, and the worth of the lowest of the ten bits of the product that are the hash
abbrev pub low : ℕ
low = 4294967296

abbrev pub mix : ℕ
mix = 2654435761

abbrev pub lowest_worth : ℕ
lowest_worth = 4194304

-- the hash of a number
unfoldable pub slot_of : ℕ → ℕ
slot_of k = k % low * mix / lowest_worth % slots

-- place x holds a number with the hash h
pub record Node (xs : List ℕ) (h x : ℕ) : Type 0 where
  pub slotted : slot_of (slice_index xs x) ≡ h
  pub used : slice_index_or xs x 0 ≡ 0 → ⊥

pub record Heads (xs hs : List ℕ) (i : ℕ) : Type 0 where
  pub size : length hs ≡ slots
  pub low : (h : ℕ) → slice_index hs h ≤ i
  pub node : (h : ℕ) → 0 < slice_index hs h → Node xs h (slice_index hs h - 1)
  pub all : (j : ℕ) → j < i → (slice_index xs j ≢ 0) → j < slice_index hs (slot_of (slice_index xs j))

pub record Links (xs ns : List ℕ) (i : ℕ) : Type 0 where
  pub size : length ns ≡ places
  pub low : (x : ℕ) → slice_index ns x ≤ x
  pub node : (x : ℕ) → x < i → (slice_index xs x ≢ 0) → 0 < slice_index ns x → Node xs (slot_of (slice_index xs x)) (slice_index ns x - 1)
  pub all : (x j : ℕ) → x < i → j < x → (slice_index xs x ≢ 0) → (slice_index xs j ≢ 0) → slot_of (slice_index xs j) ≡ slot_of (slice_index xs x) → j < slice_index ns x

-- a walk of k's bucket has come to p: no place from p on has k
pub record Walking (xs : List ℕ) (i k p : ℕ) : Type 0 where
  pub used : k ≡ 0 → ⊥
  pub low : p ≤ i
  pub node : 0 < p → Node xs (slot_of k) (p - 1)
  pub past : (j : ℕ) → j < i → p ≤ j → slice_index xs j ≢ k
