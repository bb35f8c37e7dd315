-- The record that parts lent to a compaction make up; and that the same parts are lent, whatever stands in them.
use Rattle.std.specs.Prelude.{◌≡◌}
use Rattle.board_record.specs.declared.record.Board.{Board}
use Rattle.board_record.specs.Record.{board_of}
use Rattle.board_compact.specs.declared.parts.Parts.{Parts}

abbrev pub board_in : Parts → Board
board_in b = board_of b.keys.now b.versions.now b.lengths.now b.version b.floor.now b.order.now b.tops.now b.forms.now

abbrev pub SameParts : Parts → Parts → Type 0
SameParts b d =
    (b.lengths.now ≡ d.lengths.now)
    × (b.version ≡ d.version)
    × (b.forms.now ≡ d.forms.now)
    × (b.keys.ghost_name ≡ d.keys.ghost_name)
    × (b.versions.ghost_name ≡ d.versions.ghost_name)
    × (b.floor.ghost_name ≡ d.floor.ghost_name)
    × (b.order.ghost_name ≡ d.order.ghost_name)
    × (b.tops.ghost_name ≡ d.tops.ghost_name)
