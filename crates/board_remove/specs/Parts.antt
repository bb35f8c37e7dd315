-- The record that parts lent to a removal make up; and that the same parts are lent, whatever stands in them.
use Rattle.std.specs.Prelude.{◌≡◌}
use Rattle.board_record.specs.declared.record.Board.{Board}
use Rattle.board_record.specs.Record.{board_of}
use Rattle.board_remove.specs.declared.parts.Parts.{Parts}

abbrev pub board_in : Parts → Board
board_in b = board_of b.keys.now b.versions.now b.lengths.now b.version.now b.floor b.order.now b.tops.now b.forms.now

abbrev pub SameParts : Parts → Parts → Type 0
SameParts b d =
    (b.keys.now ≡ d.keys.now)
    × (b.floor ≡ d.floor)
    × (b.versions.ghost_name ≡ d.versions.ghost_name)
    × (b.lengths.ghost_name ≡ d.lengths.ghost_name)
    × (b.version.ghost_name ≡ d.version.ghost_name)
    × (b.order.ghost_name ≡ d.order.ghost_name)
    × (b.tops.ghost_name ≡ d.tops.ghost_name)
    × (b.forms.ghost_name ≡ d.forms.ghost_name)
