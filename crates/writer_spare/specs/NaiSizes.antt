-- Which forms there are, and how many octets an NAI of theirs may have. No promise rests on it: inner functions ask for it, and proofs show it.
use Rattle.std.specs.Prelude.{ℕ, ◌≡◌}
use Rattle.forms.specs.declared.Form.{Form}
use Rattle.forms.specs.Forms.{form_of}

-- A form that its setup type names.
abbrev pub Known : Form → Type 0
Known form = form_of form.setup ≡ form

pub data NaiOctets : ℕ → Type 0 where
  none : NaiOctets 0
  four : NaiOctets 4
  eight : NaiOctets 8
  node : NaiOctets 16
  adjacency : NaiOctets 32
  local_link : NaiOctets 40
