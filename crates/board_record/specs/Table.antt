-- The table of paths in force (document 01, "The board"), as the specification speaks of it. Each of its places holds a key, a version and either a
-- path body or the mark of a removal. Place i is its i-th key, version, length and form: key 0 is an empty place, a key with length 0 the mark of a
-- removal, and a key with another length a path whose body has that many octets; its form is the setup type that it was reported under. What the code keeps beside it is not part of it (Record.antt).
use Rattle.std.specs.Prelude.{ℕ, ◌+◌, ◌<◌, ◌≡◌, Bool, not, ◌&&◌, List, length, get_or, set, replicate, eqb}
use Rattle.board_record.specs.Sizes.{places}

pub record Table : Type 0 where
  pub keys : List ℕ
  pub versions : List ℕ
  pub lengths : List ℕ
  pub version : ℕ
  pub floor : ℕ
  pub forms : List ℕ

-- the table, of its parts
abbrev pub table_of : List ℕ → List ℕ → List ℕ → ℕ → ℕ → List ℕ → Table
table_of keys versions lengths version floor forms =
    record { keys = keys; versions = versions; lengths = lengths; version = version; floor = floor; forms = forms }

-- "128 places, all empty at the start"; "Version and floor start at 0"
abbrev pub empty_table : Table
empty_table = table_of (replicate places 0) (replicate places 0) (replicate places 0) 0 0 (replicate places 0)

-- its lists have a number for each place; the types of the code say so
pub record ListsWhole (b : Table) : Type 0 where
  pub keys : length b.keys ≡ places
  pub versions : length b.versions ≡ places
  pub lengths : length b.lengths ≡ places
  pub forms : length b.forms ≡ places

-- ---- what a place holds
pub record Entry : Type 0 where
  pub key : ℕ
  pub version : ℕ
  pub length : ℕ
  pub form : ℕ

abbrev pub key_at : Table → ℕ → ℕ
key_at b i = get_or b.keys i 0

abbrev pub version_at : Table → ℕ → ℕ
version_at b i = get_or b.versions i 0

abbrev pub length_at : Table → ℕ → ℕ
length_at b i = get_or b.lengths i 0

abbrev pub form_at : Table → ℕ → ℕ
form_at b i = get_or b.forms i 0

abbrev pub entry_at : Table → ℕ → Entry
entry_at b i = record { key = key_at b i; version = version_at b i; length = length_at b i; form = form_at b i }

abbrev pub Empty : Table → ℕ → Type 0
Empty b i = key_at b i ≡ 0

abbrev pub Used : Table → ℕ → Type 0
Used b i = Empty b i → ⊥

pub record RemovalAt (b : Table) (i : ℕ) : Type 0 where
  pub used : Used b i
  pub bare : length_at b i ≡ 0

pub record PathAt (b : Table) (i : ℕ) : Type 0 where
  pub used : Used b i
  pub body : length_at b i ≡ 0 → ⊥

-- no place has the key
abbrev pub New : Table → ℕ → Type 0
New b k = (j : ℕ) → j < places → key_at b j ≡ k → ⊥

-- that a place is used, and that it is a removal, as tests
unfoldable pub used_b : Table → ℕ → Bool
used_b b i = not (eqb (key_at b i) 0)

unfoldable pub removal_b : Table → ℕ → Bool
removal_b b i = not (eqb (key_at b i) 0) && eqb (length_at b i) 0

-- ---- what a change leaves

-- the table with an entry at place i
abbrev pub put : Table → ℕ → Entry → Table
put b i e =
    table_of (set b.keys i e.key) (set b.versions i e.version) (set b.lengths i e.length) b.version b.floor (set b.forms i e.form)

-- the table with another version and floor
abbrev pub stamped : Table → ℕ → ℕ → Table
stamped b version floor = table_of b.keys b.versions b.lengths version floor b.forms

-- "raises the version by 1 and the change bears that": the entry of the next change, of key k to a body of n octets in a form, or to the mark of a
-- removal where n and the form are 0
abbrev pub bearing : Table → ℕ → ℕ → ℕ → Entry
bearing b k n form = record { key = k; version = b.version + 1; length = n; form = form }

-- the table after the change of place i to the entry e, whose version is the table's from then on, with its floor
abbrev pub changed : Table → ℕ → Entry → ℕ → Table
changed b i e floor = stamped (put b i e) e.version floor
