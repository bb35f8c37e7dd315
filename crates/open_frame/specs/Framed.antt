-- The frame of an OPEN object (document 01, "The OPEN object").
use Rattle.std.specs.Prelude.{ℕ, ◌/◌, ◌%◌, List, Bool, ◌&&◌, length, eqb, leb}
use Rattle.octets.specs.Octets.{octet_of}
use Rattle.objects.specs.Objects.{header, unit, open_class, object_type, object_class, object_kind, object_length}

-- "OPEN is class 1, type 1; its body is an octet whose top 3 bits are the version, which must be 1, .."
abbrev pub open_version : ℕ
open_version = 1

abbrev pub version_place : ℕ
version_place = header

-- What the lowest bit of the version is worth in its octet.
abbrev pub version_worth : ℕ
version_worth = 32

abbrev pub version_of : List ℕ → ℕ
version_of s = octet_of s version_place / version_worth

-- ".. then keepalive, dead timer, session number, then TLVs."
abbrev pub tlvs_at : ℕ
tlvs_at = 8

-- "Class, type and version as above;"
abbrev pub open_headed : List ℕ → Bool
open_headed s = (eqb (object_class s) open_class && eqb (object_kind s) object_type) && eqb (version_of s) open_version

-- "object length must equal the octets given, be a multiple of 4 and at least 8;"
abbrev pub measured : List ℕ → Bool
measured s = (eqb (object_length s) (length s) && eqb (length s % unit) 0) && leb tlvs_at (length s)

unfoldable pub framed : List ℕ → Bool
framed s = open_headed s && measured s
