-- A subobject in octets (document 01, "The route object"; for MPLS document 02, C-16): its parts, its head, and its expected length, for any form.
-- Arguments here and in the crates above stand in one order: form, what was read of the octets, the octets, ERO or RRO, session, PST, the head end's addresses, numbers
-- (what is sought, then places).
use Rattle.std.specs.Prelude.{ℕ, ◌+◌, ◌/◌, ◌%◌, Bool, cond, ◌&&◌, List, eqb}
use Rattle.octets.specs.Octets.{octet_of}
pub use Rattle.objects.specs.Objects.{sid_size, nai_size}
use Rattle.forms.specs.declared.Form.{Form}
use Rattle.forms.specs.Forms.{flag_in, nai_length}
use Rattle.subobject.specs.declared.head.Head.{Head}

-- "1 length", "2-3: NT (4 bits), 12 flags", the lower eight of them in octet 3.
abbrev pub size_place : ℕ
size_place = 1

abbrev pub flags_place : ℕ
flags_place = 2

abbrev pub low_flags_place : ℕ
low_flags_place = 3

-- "6-7 endpoint behaviour", where the form has one.
abbrev pub behaviour_place : ℕ
behaviour_place = 6

-- "SID, .. if S is 0."
abbrev pub sid_length : Form → ℕ → ℕ
sid_length form s = cond (eqb s 0) form.sid 0

-- "SID structure, 8, if T is 1 and S is 0: four bit lengths, .." "T is ignored where S is 1."
abbrev pub structure_size : ℕ
structure_size = 8

abbrev pub bit_lengths : ℕ
bit_lengths = 4

abbrev pub structure_there : ℕ → ℕ → Bool
structure_there s t = eqb s 0 && eqb t 1

abbrev pub structure_length : ℕ → ℕ → ℕ
structure_length s t = cond (structure_there s t) structure_size 0

-- "The expected length is 8 plus the parts present"; for MPLS 4 plus these.
unfoldable pub expected_length : Form → ℕ → ℕ → ℕ → ℕ
expected_length form nt s t = form.fixed + sid_length form s + nai_length form nt + structure_length s t

-- where the parts begin in a subobject at a place
abbrev pub sid_place : Form → ℕ → ℕ
sid_place form at = at + form.fixed

abbrev pub nai_place : Form → ℕ → ℕ → ℕ
nai_place form s at = at + form.fixed + sid_length form s

abbrev pub structure_place : Form → ℕ → ℕ → ℕ
structure_place form nt at = at + form.fixed + form.sid + nai_length form nt

-- What the lowest bits of L and NT are worth in their octets.
abbrev pub worth_l : ℕ
worth_l = 128

abbrev pub worth_nt : ℕ
worth_nt = 16

-- "Top bit L, low 7 bits type"; "in RRO all 8 bits of the first octet are the type".
unfoldable pub kind_of : ℕ → Bool → ℕ
kind_of x ero = cond ero (x % worth_l) x

-- The head: NT, and the form's flags. In RRO "V is ignored (both flags read as 0)": the flags L and V.
unfoldable pub head_of : Form → ℕ → ℕ → ℕ → ℕ → Bool → Head
head_of form o0 o1 o2 o3 ero =
    record {
      kind = kind_of o0 ero;
      size = o1;
      nt = o2 / worth_nt;
      s = flag_in o3 form.s;
      f = flag_in o3 form.f;
      t = flag_in o3 form.t;
      v = cond ero (flag_in o3 form.v) 0;
      l = cond ero (o0 / worth_l) 0;
      c = flag_in o3 form.c;
      m = flag_in o3 form.m;
    }

-- The length that the subobject at a place says it has.
abbrev pub size_at : List ℕ → ℕ → ℕ
size_at s at = octet_of s (at + size_place)

-- The head of the subobject at a place.
unfoldable pub head_at : Form → List ℕ → Bool → ℕ → Head
head_at form s ero at = head_of form (octet_of s at) (size_at s at) (octet_of s (at + flags_place)) (octet_of s (at + low_flags_place)) ero

-- The expected length of the subobject at a place.
unfoldable pub expected_at : Form → List ℕ → Bool → ℕ → ℕ
expected_at form s ero at = expected_length form (head_at form s ero at).nt (head_at form s ero at).s (head_at form s ero at).t
