-- What the test of an MPLS subobject's shape says. No promise rests on it: contracts of inner functions cite it, and proofs put it together to subobject/specs/Rules.
use Rattle.std.specs.Prelude.{ℕ, ◌≡◌, Bool, false, cond, ◌&&◌, eqb}
use Rattle.forms.specs.Forms.{mpls_form}
use Rattle.subobject.specs.declared.head.Head.{Head}
use Rattle.subobject.specs.Rules.{rule7, rule8, rule9}

-- 8, 9 and 7 are kept, and there is a SID where one is needed.
pub record Fitting (h : Head) (needed : Bool) : Type 0 where
  pub eight : rule8 mpls_form h ≡ false
  pub nine : rule9 h ≡ false
  pub seven : rule7 mpls_form h ≡ false
  pub sid : (needed && eqb h.s 1) ≡ false

-- Two bits for each of the 16 ways in which F, S, C and M are set: 1 where they go with NT 0, 2 where with NT 1 to 6, 0 where with none.
abbrev pub ways : ℕ
ways = 4522634

-- The same where a SID is needed: without S.
abbrev pub ways_with_sid : ℕ
ways_with_sid = 4522122

abbrev pub allowed_by : Bool → ℕ
allowed_by needed = cond needed ways_with_sid ways
