-- The numbers that objects have in common (document 01, "The OPEN object" and "The route object"), by the names that the code uses.
use Rattle.std.specs.Prelude.{ℕ, ◌/◌, List}
use Rattle.octets.specs.Octets.{octet_of, be16}

-- "An object starts with class (1 octet), type in the high 4 bits of the next octet (the low 4 are ignored), and a 2-octet length that counts
-- the 4 header octets."
abbrev pub header : ℕ
header = 4

abbrev pub class_place : ℕ
class_place = 0

abbrev pub type_place : ℕ
type_place = 1

abbrev pub length_place : ℕ
length_place = 2

-- What the lowest bit of the type is worth in its octet.
abbrev pub type_worth : ℕ
type_worth = 16

abbrev pub object_class : List ℕ → ℕ
object_class s = octet_of s class_place

abbrev pub object_kind : List ℕ → ℕ
object_kind s = octet_of s type_place / type_worth

abbrev pub object_length : List ℕ → ℕ
object_length s = be16 s length_place

-- Lengths of objects, and of what lies in them, are multiples of this.
abbrev pub unit : ℕ
unit = 4

-- "OPEN is class 1, type 1"; "ERO is class 7, RRO class 8, both type 1".
abbrev pub open_class : ℕ
open_class = 1

abbrev pub ero_class : ℕ
ero_class = 7

abbrev pub rro_class : ℕ
rro_class = 8

abbrev pub object_type : ℕ
object_type = 1

-- The setup type of an SRv6 path: "type 3", "PST 3".
abbrev pub srv6_setup : ℕ
srv6_setup = 3

-- The setup type of an MPLS path: "type 1", "PST 1".
abbrev pub mpls_setup : ℕ
mpls_setup = 1

-- The octets that a segment keeps for a SID, and for an NAI.
abbrev pub sid_size : ℕ
sid_size = 16

abbrev pub nai_size : ℕ
nai_size = 40
