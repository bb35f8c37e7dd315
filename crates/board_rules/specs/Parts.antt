-- Where the path at a place lies, and its form, as body and next name it.
use Rattle.std.specs.Prelude.{ℕ}
use Rattle.board_record.specs.Table.{Table, length_at, form_at}
use Rattle.board_rules.specs.declared.answer.Octets.{Octets}

abbrev pub path_at : Table → ℕ → Octets
path_at b i = record { place = i; length = length_at b i; form = form_at b i }
