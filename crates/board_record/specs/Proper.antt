-- When a table is a board's (document 01, "The board": "Proper: keys of used places in range and distinct, their versions distinct, from 1 to
-- the board's version; removals above the floor; floor at most the version, that at most 2^64-2; path lengths multiples of 4 from 24 to 384;
-- removals' lengths and all numbers of empty places 0"). A removal's length is 0 by what the table calls a removal. Document 02 lets a path have one of two
-- forms: its setup type; MPLS's bodies are from 8 octets. A removal and an empty place have none: 0.
use Rattle.std.specs.Prelude.{ℕ, zero, suc, ◌<◌, ◌≤◌, ◌%◌, ◌≡◌, Bool, true, not, cond, ◌&&◌, ◌||◌, List, ◌⊎◌, get_or, eqb, ltb, leb}
use Rattle.objects.specs.Objects.{unit, srv6_setup, mpls_setup}
use Rattle.board_record.specs.Sizes.{places, room, key_least, key_most, version_most, body_least}
use Rattle.board_record.specs.Table.{Table, Entry, key_at, version_at, length_at, form_at, entry_at, Empty, Used, RemovalAt, PathAt}

-- a form is SRv6's or MPLS's
abbrev pub IsForm : ℕ → Type 0
IsForm form = (form ≡ srv6_setup) ⊎ (form ≡ mpls_setup)

-- the parts by name; of two places with one key or one version it is enough to say that they are the same place
pub record Proper (b : Table) : Type 0 where
  pub least_key : (i : ℕ) → i < places → Used b i → key_least ≤ key_at b i
  pub most_key : (i : ℕ) → i < places → Used b i → key_at b i ≤ key_most
  pub keys_distinct : (i j : ℕ) → i < places → j < places → Used b i → key_at b i ≡ key_at b j → i ≡ j
  pub versions_distinct : (i j : ℕ) → i < places → j < places → Used b i → version_at b i ≡ version_at b j → i ≡ j
  pub least_version : (i : ℕ) → i < places → Used b i → 1 ≤ version_at b i
  pub most_version : (i : ℕ) → i < places → Used b i → version_at b i ≤ b.version
  pub removal_above : (i : ℕ) → i < places → RemovalAt b i → b.floor < version_at b i
  pub floor_in : b.floor ≤ b.version
  pub version_in : b.version ≤ version_most
  pub length_unit : (i : ℕ) → i < places → PathAt b i → length_at b i % unit ≡ 0
  pub length_least : (i : ℕ) → i < places → PathAt b i → body_least (form_at b i) ≤ length_at b i
  pub length_most : (i : ℕ) → i < places → PathAt b i → length_at b i ≤ room
  pub empty_version : (i : ℕ) → i < places → Empty b i → version_at b i ≡ 0
  pub empty_length : (i : ℕ) → i < places → Empty b i → length_at b i ≡ 0
  pub path_form : (i : ℕ) → i < places → PathAt b i → IsForm (form_at b i)
  pub removal_form : (i : ℕ) → i < places → RemovalAt b i → form_at b i ≡ 0
  pub empty_form : (i : ℕ) → i < places → Empty b i → form_at b i ≡ 0

-- ---- the same as a test; proofs/Proper.antt shows it equal to the record, both ways
-- every number below n passes
unfoldable pub all_below : (ℕ → Bool) → ℕ → Bool
all_below t zero = true
all_below t (suc n) = all_below t n && t n

-- a path by itself
unfoldable pub path_ok : ℕ → ℕ → Bool
path_ok length form = eqb (length % unit) 0 && (eqb form srv6_setup || eqb form mpls_setup) && leb (body_least form) length && leb length room

-- one place by itself: what it holds, under a board's version and floor
unfoldable pub place_ok : Entry → ℕ → ℕ → Bool
place_ok e version floor =
    cond (eqb e.key 0) (eqb e.length 0 && eqb e.version 0 && eqb e.form 0)
    (leb e.key key_most && leb 1 e.version && leb e.version version
    && cond (eqb e.length 0) (eqb e.form 0 && ltb floor e.version) (path_ok e.length e.form))

unfoldable pub sound_b : Table → ℕ → Bool
sound_b b i = place_ok (entry_at b i) b.version b.floor

-- none of the first i numbers is k
unfoldable pub fresh_b : List ℕ → ℕ → ℕ → Bool
fresh_b xs i k = all_below (λ j. not (eqb (get_or xs j 0) k)) i

-- number i is 0 or is none of the lower ones
unfoldable pub new_b : List ℕ → ℕ → Bool
new_b xs i = eqb (get_or xs i 0) 0 || fresh_b xs i (get_or xs i 0)

-- the numbers of the places that are not 0 are distinct
unfoldable pub distinct_b : List ℕ → Bool
distinct_b xs = all_below (new_b xs) places

unfoldable pub proper_b : Table → Bool
proper_b b = leb b.floor b.version && leb b.version version_most && all_below (sound_b b) places && distinct_b b.keys && distinct_b b.versions
