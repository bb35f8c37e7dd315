-- What looking at the board hands back beside a verdict (include/strundevi.h).
use Rattle.std.specs.Prelude.{ℕ, ◌*◌, List}
use Rattle.answers.specs.Verdicts.{kept}
use Rattle.board_record.specs.Sizes.{room}
use Rattle.board_record.specs.declared.record.Board.{Board}
use Rattle.board_record.specs.Record.{table_in}
use Rattle.board_record.specs.Table.{length_at, form_at}
use Rattle.board_record.specs.Search.{place_of}
use Rattle.board_rules.specs.OnRecord.{body_number_on}
use Rattle.border_looks.specs.declared.PartRecord.{PartRecord}
use Rattle.border_looks.specs.declared.MarkRecord.{MarkRecord}

-- Where the octets of a key's path lie: "place i, from 0, starts at 384 times i"; and the path's form. A refusal names none.
unfoldable pub part_out : Board → List ℕ → ℕ → PartRecord
part_out b store k =
    record {
      number = (body_number_on b store k).number;
      start = kept (body_number_on b store k).number 0 (room * place_of (table_in b) k);
      length = kept (body_number_on b store k).number 0 (length_at (table_in b) (place_of (table_in b) k));
      form = kept (body_number_on b store k).number 0 (form_at (table_in b) (place_of (table_in b) k));
    }

-- "A fresh mark is the board's version for s and 0 for w."
abbrev pub fresh_out : ℕ → MarkRecord
fresh_out version = record { s = version; w = 0 }
