-- The two forms, side by side as the papers have them, and what a form says of a flag and of an NT.
use Rattle.std.specs.Prelude.{ℕ, ◌+◌, ◌*◌, ◌/◌, ◌%◌, Bool, true, false, cond, not, ◌||◌, eqb}
use Rattle.objects.specs.Objects.{mpls_setup, srv6_setup, sid_size, nai_size}
use Rattle.forms.specs.declared.Form.{Form}

-- Values of NT: no NAI; a node of IPv4 and of IPv6; an adjacency of either; an unnumbered adjacency; a link-local adjacency (RFC 8664, 4.3.1).
abbrev pub no_nai : ℕ
no_nai = 0

abbrev pub ipv4_node : ℕ
ipv4_node = 1

abbrev pub node : ℕ
node = 2

abbrev pub ipv4_adjacency : ℕ
ipv4_adjacency = 3

abbrev pub adjacency : ℕ
adjacency = 4

abbrev pub unnumbered : ℕ
unnumbered = 5

abbrev pub link_local : ℕ
link_local = 6

-- The octets of these NAIs (RFC 8664, 4.3.2).
abbrev pub ipv4_node_size : ℕ
ipv4_node_size = 4

abbrev pub node_size : ℕ
node_size = 16

abbrev pub ipv4_adjacency_size : ℕ
ipv4_adjacency_size = 8

abbrev pub adjacency_size : ℕ
adjacency_size = 32

abbrev pub unnumbered_size : ℕ
unnumbered_size = 16

-- the longest, for which a segment has room
abbrev pub link_local_size : ℕ
link_local_size = nai_size

-- The lengths of the NAIs for NT 1 to 6 are one number, with an octet for each: what that octet is worth.
abbrev pub nt1 : ℕ
nt1 = 256

abbrev pub nt2 : ℕ
nt2 = 65536

abbrev pub nt3 : ℕ
nt3 = 16777216

abbrev pub nt4 : ℕ
nt4 = 4294967296

abbrev pub nt5 : ℕ
nt5 = 1099511627776

abbrev pub nt6 : ℕ
nt6 = 281474976710656

-- Document 000, 4.3.1: type 40; "NT (4 bits), 12 flags; the last four are V, T, F, S, with S lowest"; NAI for NT 2, 4 and 6.
abbrev pub srv6_form : Form
srv6_form =
    record {
      setup = srv6_setup;
      kind = 40;
      fixed = 8;
      sid = sid_size;
      v = 8;
      t = 4;
      f = 2;
      s = 1;
      c = 0;
      m = 0;
      free = 16;
      behaves = true;
      nais = node_size * nt2 + adjacency_size * nt4 + link_local_size * nt6;
    }

-- The octets of a label stack entry, which the SID of MPLS has.
abbrev pub entry_size : ℕ
entry_size = 4

-- RFC 8664, 4.3.1: type 36; the last four flags are F, S, C, M, with M lowest, and V stands before them (document 003); NAI for NT 1 to 6.
abbrev pub mpls_form : Form
mpls_form =
    record {
      setup = mpls_setup;
      kind = 36;
      fixed = 4;
      sid = entry_size;
      v = 16;
      t = 0;
      f = 8;
      s = 4;
      c = 2;
      m = 1;
      free = 32;
      behaves = false;
      nais =
          ipv4_node_size * nt1 + node_size * nt2 + ipv4_adjacency_size * nt3 + adjacency_size * nt4 + unnumbered_size * nt5 + link_local_size * nt6;
    }

-- "The form that the PST names, SRv6's if it names none."
abbrev pub form_of : ℕ → Form
form_of pst = cond (eqb pst mpls_form.setup) mpls_form srv6_form

-- The flag that is worth w in an octet; 0 where the form has no such flag.
unfoldable pub flag_in : ℕ → ℕ → ℕ
flag_in octet w = cond (eqb w 0) 0 (octet / w % 2)

-- The octet that is worth w in a number.
abbrev pub octet_at : ℕ → ℕ → ℕ
octet_at n w = n / w % 256

-- The octets of the NAI for an NT.
unfoldable pub nai_length : Form → ℕ → ℕ
nai_length form nt =
    cond (eqb nt ipv4_node) (octet_at form.nais nt1)
    (cond (eqb nt node) (octet_at form.nais nt2)
    (cond (eqb nt ipv4_adjacency) (octet_at form.nais nt3)
    (cond (eqb nt adjacency) (octet_at form.nais nt4)
    (cond (eqb nt unnumbered) (octet_at form.nais nt5)
    (cond (eqb nt link_local) (octet_at form.nais nt6) 0)))))

-- The same in the papers' words, one for each form: "NAI: NT 0 none, 2 node 16, 4 adjacency 32, 6 link-local adjacency 40" (document 01),
abbrev pub srv6_nai : ℕ → ℕ
srv6_nai nt = cond (eqb nt node) node_size (cond (eqb nt adjacency) adjacency_size (cond (eqb nt link_local) link_local_size 0))

-- and NT 1 and 2, a node of IPv4 and of IPv6; 3 and 4, an adjacency of either; 5, an unnumbered adjacency; 6, a link-local adjacency (RFC 8664, 4.3.1 and 4.3.2).
abbrev pub mpls_nai : ℕ → ℕ
mpls_nai nt =
    cond (eqb nt ipv4_node) ipv4_node_size
    (cond (eqb nt node) node_size
    (cond (eqb nt ipv4_adjacency) ipv4_adjacency_size
    (cond (eqb nt adjacency) adjacency_size (cond (eqb nt unnumbered) unnumbered_size (cond (eqb nt link_local) link_local_size 0)))))

-- Whether the form knows an NT.
unfoldable pub knows : Form → ℕ → Bool
knows form nt = eqb nt no_nai || not (eqb (nai_length form nt) 0)
