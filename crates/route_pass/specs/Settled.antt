-- What one pass settles. No promise rests on it: contracts of inner functions cite it, and proofs put it together to route/specs/Routes.
use Rattle.std.specs.Prelude.{ℕ, ◌+◌, ◌*◌, ◌/◌, ◌%◌, ◌≤◌, ◌<◌, ◌≡◌, List, Bool, length}
use Rattle.octets.specs.Octets.{end16}
use Rattle.answers.specs.Verdicts.{accepted_with, carrying_both}
use Rattle.objects.specs.Objects.{header}
use Rattle.forms.specs.declared.Form.{Form}
use Rattle.forms.specs.Forms.{mpls_form}
use Rattle.label_run.specs.Alone.{label_size, AloneTo}
use Rattle.frame.specs.Gathered.{frame_of}
use Rattle.route_walk.specs.Walk.{walk_of}

-- The rules on the frame are kept, with `count` subobjects, and so are those of the subobjects, of which `stray` are stray.
pub record Settled (form : Form) (s : List ℕ) (ero n : Bool) (count stray : ℕ) : Type 0 where
  pub frame : frame_of s ero form.kind ≡ accepted_with count
  pub walk : walk_of form s ero n count ≡ carrying_both count stray

-- What a pass hands back is one number: the segments, and those that are stray times this. A route of fewer octets has fewer of both.
abbrev pub stray_worth : ℕ
stray_worth = end16

-- What such a number settles; 0 settles nothing.
abbrev pub SettledBy : Form → List ℕ → Bool → Bool → ℕ → Type 0
SettledBy form s ero n x = 0 < x → Settled form s ero n (x % stray_worth) (x / stray_worth)

-- A pass begins behind so many labels alone, which none but MPLS's routes have.
pub record Begun (form : Form) (s : List ℕ) (count : ℕ) : Type 0 where
  pub room : header + label_size * count ≤ length s
  pub alone : 0 < count → (form ≡ mpls_form) × AloneTo s count
