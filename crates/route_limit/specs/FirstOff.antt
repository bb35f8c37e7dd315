-- "If both ends set R, or both set A and the ERO's first segment has NT 4 or 6 with its local address in a lent list of the head end's addresses,
-- then H.Encaps v permits v + 1; Segments Left is untouched" (document 02, C-15).
--
-- All of it is defined for any octets: of an object that is refused before the limit is asked for, no answer shows which limit it was.
use Rattle.std.specs.Prelude.{ℕ, List, Bool, true, cond, ◌&&◌, ◌||◌, eqb, Option}
use Rattle.octets.specs.Octets.{part}
use Rattle.objects.specs.Objects.{header}
use Rattle.session.specs.declared.Session.{Session}
use Rattle.msd_limit.specs.Limits.{one_more_by}
use Rattle.forms.specs.Forms.{adjacency, link_local, srv6_form}
use Rattle.subobject.specs.declared.head.Head.{Head}
use Rattle.subobject.specs.Layout.{nai_place, head_at}
use Rattle.head_end.specs.Addresses.{address_size, has_address}

-- "has NT 4 or 6"
unfoldable pub is_adjacency : ℕ → Bool
is_adjacency nt = eqb nt adjacency || eqb nt link_local

-- The head of the first segment of an ERO. Only SRv6's session has A and R (session/specs/Sessions), so it is read in SRv6's form.
abbrev pub first_head : List ℕ → Head
first_head s = head_at srv6_form s true header

-- "its local address": the first 16 octets of the NAI, behind the SID if there is one.
abbrev pub local_address : List ℕ → List ℕ
local_address s = part s (nai_place srv6_form (first_head s).s header) address_size

-- "the ERO's first segment has NT 4 or 6 with its local address in a lent list of the head end's addresses"
unfoldable pub own_adjacency : List ℕ → List ℕ → Bool
own_adjacency s addresses = is_adjacency (first_head s).nt && has_address addresses (local_address s)

-- "If both ends set R, or both set A and .."
unfoldable pub stays_off : List ℕ → Bool → Session → List ℕ → Bool
stays_off s ero session addresses = ero && (session.r || (session.a && own_adjacency s addresses))

-- "then H.Encaps v permits v + 1; Segments Left is untouched"
abbrev pub with_one_more : Session → Option ℕ
with_one_more session = one_more_by session.limit session.v session.m

unfoldable pub limit_for : List ℕ → Bool → Session → List ℕ → Option ℕ
limit_for s ero session addresses = cond (stays_off s ero session addresses) (with_one_more session) session.limit

-- The session with another limit.
abbrev pub under_limit : Session → Option ℕ → Session
under_limit session limit =
    record { agreed = session.agreed; n = session.n; limit = limit; a = session.a; r = session.r; v = session.v; m = session.m }

unfoldable pub session_for : List ℕ → Bool → Session → List ℕ → Session
session_for s ero session addresses = under_limit session (limit_for s ero session addresses)
