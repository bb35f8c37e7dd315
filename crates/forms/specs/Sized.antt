-- What a description must keep so that its parts fit into a segment: what inner functions require of it. No promise rests on it: both forms keep it
-- (proofs/Laws), and every call takes one of the two.
use Rattle.std.specs.Prelude.{ℕ, ◌≤◌, ◌<◌, ◌≡◌, cond}
use Rattle.objects.specs.Objects.{sid_size, nai_size}
use Rattle.forms.specs.declared.Form.{Form}
use Rattle.forms.specs.Forms.{srv6_form, mpls_form, nai_length}

pub record Sized (form : Form) : Type 0 where
  pub fixed : form.fixed ≡ cond form.behaves srv6_form.fixed mpls_form.fixed
  pub sid : form.sid ≤ sid_size
  pub nai : (nt : ℕ) → nai_length form nt ≤ nai_size
  pub free : 0 < form.free

-- The least that stands behind the fixed part of a subobject with a SID or an NAI.
pub record Shortest (form : Form) (l : ℕ) : Type 0 where
  pub sid : l ≤ form.sid
  pub nai : (nt : ℕ) → 0 < nai_length form nt → l ≤ nai_length form nt
