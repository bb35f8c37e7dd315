-- How the lines of an OPEN and of a segment end (console.md, the table's last column).
use Rattle.std.specs.Prelude.{ℕ, ◌+◌, ◌*◌, Bool, List, [], ◌∷◌, Option, None, Some}
-- "0 or 1"
pub use Rattle.octets.specs.Octets.{bit}
use Rattle.words.specs.Words.{dash}
use Rattle.session.specs.Opened.{Opened}
use Rattle.subobject_strays.specs.declared.Strays.{Strays}
use Rattle.printing.specs.Text.{decimal_of, field_size}

-- "a number or `-`"
abbrev pub limit_text : Option ℕ → List ℕ
limit_text None = dash ∷ []
limit_text (Some n) = decimal_of n

abbrev pub depth_text : Option ℕ → List ℕ
depth_text None = dash ∷ []
depth_text (Some v) = decimal_of v

-- `MPLS MN MLIMIT`: "MPLS, its N and its limit behind"
abbrev pub mpls_words : Opened → List (List ℕ)
mpls_words o = decimal_of (bit o.mpls) ∷ decimal_of (bit o.mplsn) ∷ limit_text o.mplslimit ∷ []

-- the octets that these words take at most, each behind a space, with the newline
abbrev pub mpls_end_size : ℕ
mpls_end_size = 3 * field_size + 1

-- `A R V M`, "V and M numbers or `-`", and what is behind them
abbrev pub flag_words : Opened → List (List ℕ)
flag_words o = decimal_of (bit o.a) ∷ decimal_of (bit o.r) ∷ depth_text o.v ∷ depth_text o.m ∷ mpls_words o

abbrev pub flags_end_size : ℕ
flags_end_size = 4 * field_size + mpls_end_size

-- `FLAGS SFLAGS RESERVED`: "the 12 flag bits with the assigned ones 0, .. the structure's flag octet or 0, .. 1 if a reserved octet was not 0, else 0"
abbrev pub stray_words : Strays → List (List ℕ)
stray_words x = decimal_of x.flags ∷ decimal_of x.structure ∷ decimal_of (bit x.reserved) ∷ []

abbrev pub strays_end_size : ℕ
strays_end_size = 3 * field_size + 1

-- `M C FLAGS SFLAGS RESERVED`
abbrev pub label_words : Bool → Bool → Strays → List (List ℕ)
label_words m c x = decimal_of (bit m) ∷ decimal_of (bit c) ∷ stray_words x

abbrev pub labels_end_size : ℕ
labels_end_size = 2 * field_size + strays_end_size
