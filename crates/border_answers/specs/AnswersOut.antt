-- The writer's small state, and what writing and next hand back (include/strundevi.h).
use Rattle.std.specs.Prelude.{ℕ}
use Rattle.writer_state.specs.declared.Writer.{Writer}
use Rattle.writer_state.specs.Written.{Written}
use Rattle.board_rules.specs.Handed.{Handed, Refused, Path, Removed, Level}
use Rattle.border_records.specs.Records.{is_yes, bit, verdict_out}
use Rattle.border_answers.specs.declared.writing.WriterRecord.{WriterRecord}
use Rattle.border_answers.specs.declared.writing.WrittenRecord.{WrittenRecord}
use Rattle.border_answers.specs.declared.change.ChangeRecord.{ChangeRecord}

abbrev pub writer_in : WriterRecord → Writer
writer_in w = record { ero = is_yes w.ero; at = w.at; form = w.form }

abbrev pub writer_out : Writer → WriterRecord
writer_out w = record { ero = bit w.ero; form = w.form; at = w.at }

abbrev pub written_out : Written → WrittenRecord
written_out w = record { verdict = verdict_out w.verdict; writer = writer_out w.writer }

-- kinds of what next hands out
abbrev pub refused_kind : ℕ
refused_kind = 0

abbrev pub path_kind : ℕ
path_kind = 1

abbrev pub removed_kind : ℕ
removed_kind = 2

abbrev pub level_kind : ℕ
level_kind = 3

-- Its kind, then what comes with it. A path alone has a form.
abbrev pub change_out : Handed → ChangeRecord
change_out (Refused v) = record { number = v.number; kind = refused_kind; key = 0; version = 0; place = 0; length = 0; form = 0 }
change_out (Path c o) = record { number = 0; kind = path_kind; key = c.key; version = c.version; place = o.place; length = o.length; form = o.form }
change_out (Removed c) = record { number = 0; kind = removed_kind; key = c.key; version = c.version; place = 0; length = 0; form = 0 }
change_out (Level v) = record { number = 0; kind = level_kind; key = 0; version = v; place = 0; length = 0; form = 0 }
