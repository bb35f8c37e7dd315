-- Labels alone. No promise rests on it: contracts of inner functions cite it, and proofs put it together to route_pass/specs/Settled.
use Rattle.std.specs.Prelude.{ℕ, zero, suc, ◌+◌, ◌*◌, ◌≤◌, ◌≡◌, List, false, not, ◌&&◌, eqb, ltb, length}
use Rattle.octets.specs.Octets.{octet_of}
use Rattle.objects.specs.Objects.{header}
use Rattle.forms.specs.Forms.{no_nai, mpls_form}
use Rattle.subobject.specs.Layout.{flags_place, low_flags_place, size_at, sid_place}
use Rattle.subobject.specs.Rules.{label_at, first_free, good_label}

-- The octets of a label alone.
abbrev pub label_size : ℕ
label_size = mpls_form.fixed + mpls_form.sid

-- A subobject of MPLS's type with as many octets, NT 0, F and M, and a label that may stand in a route.
pub record LabelAlone (s : List ℕ) (at : ℕ) : Type 0 where
  pub kind : octet_of s at ≡ mpls_form.kind
  pub size : size_at s at ≡ label_size
  pub high : octet_of s (at + flags_place) ≡ no_nai
  pub low : octet_of s (at + low_flags_place) ≡ mpls_form.f + mpls_form.m
  pub label : (ltb (label_at s (sid_place mpls_form at)) first_free && not (eqb (label_at s (sid_place mpls_form at)) good_label)) ≡ false

-- Each of the `count` subobjects of so many octets behind the header is one.
abbrev pub EachAlone : List ℕ → ℕ → Type 0
EachAlone s zero = Unit {0}
EachAlone s (suc i) = LabelAlone s (header + label_size * i) × EachAlone s i

-- A route begins with `count` of them.
pub record AloneTo (s : List ℕ) (count : ℕ) : Type 0 where
  pub room : header + label_size * count ≤ length s
  pub each : EachAlone s count
