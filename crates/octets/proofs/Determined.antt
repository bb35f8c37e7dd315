-- Any two answers that fit the contract of a function of this crate are equal; of `copy` and `lay` what the buffer holds afterwards.
use Prim.Native.Nat.{ℕ}
use mathlib.Core.Path.{◌≡◌}
use mathlib.Core.List.{List}
use Rattle.answers.proofs.Determined.{determined}
use Rattle.octets.specs.Octets.{octet_of, be16, pad4, over, placed, part_of}

pub octet_determined : (s : List ℕ) (at : ℕ) {x y : ℕ} → x ≡ (octet_of s at) → y ≡ (octet_of s at) → x ≡ y
octet_determined s at = determined

pub read16_determined : (s : List ℕ) (at : ℕ) {x y : ℕ} → x ≡ (be16 s at) → y ≡ (be16 s at) → x ≡ y
read16_determined s at = determined

pub padded_determined : (n : ℕ) {x y : ℕ} → x ≡ (pad4 n) → y ≡ (pad4 n) → x ≡ y
padded_determined n = determined

pub part_determined : (s : List ℕ) (at n m : ℕ) {x y : List ℕ} → x ≡ (part_of s at n m) → y ≡ (part_of s at n m) → x ≡ y
part_determined s at n m = determined

pub copy_determined : (out src : List ℕ) {x y : List ℕ} → x ≡ (over src out) → y ≡ (over src out) → x ≡ y
copy_determined out src = determined

pub lay_determined : (out : List ℕ) (at : ℕ) (src : List ℕ) {x y : List ℕ} → x ≡ (placed out at src) → y ≡ (placed out at src) → x ≡ y
lay_determined out at src = determined
