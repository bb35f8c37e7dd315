-- Which command a row is; no promise rests on this file.
use Rattle.command_forms.specs.declared.verb.Verb.{Verb}
use Rattle.command_forms.specs.declared.verb.Verb.TheVariants as v
use Rattle.command_rows.specs.declared.Asking.{Asking}
use Rattle.command_rows.specs.declared.Asking.TheVariants as a
use Rattle.command_rows.specs.declared.Setting.{Setting}
use Rattle.command_rows.specs.declared.Setting.TheVariants as s
use Rattle.command_rows.specs.declared.Writing.{Writing}
use Rattle.command_rows.specs.declared.Writing.TheVariants as w
use Rattle.command_rows.specs.declared.Changing.{Changing}
use Rattle.command_rows.specs.declared.Changing.TheVariants as c
use Rattle.command_rows.specs.declared.Looking.{Looking}
use Rattle.command_rows.specs.declared.Looking.TheVariants as l
use Rattle.command_rows.specs.declared.Row.{Row}
use Rattle.command_rows.specs.declared.Row.TheVariants as r

abbrev pub asked : Asking → Verb
asked a.Ero = v.Ero
asked a.Rro = v.Rro
asked a.EroSegment = v.EroSegment
asked a.RroSegment = v.RroSegment

abbrev pub set : Setting → Verb
set s.Pcc = v.Pcc
set s.Pce = v.Pce
set s.Positions = v.Positions
set s.Addresses = v.Addresses

abbrev pub written : Writing → Verb
written w.Begin = v.Begin
written w.Add = v.Add
written w.Finish = v.Finish
written w.Lent = v.Lent

abbrev pub changes : Changing → Verb
changes c.Report = v.Report
changes c.Remove = v.Remove
changes c.Compact = v.Compact

abbrev pub looked : Looking → Verb
looked l.Body = v.Body
looked l.Next = v.Next
looked l.Moved = v.Moved
looked l.Mark = v.Mark
looked l.Board = v.Board
looked l.Chain = v.Chain

abbrev pub row_verb : Row → Verb
row_verb r.Skip = v.Skip
row_verb r.Bad = v.Bad
row_verb (r.Asks a) = asked a
row_verb (r.Sets s) = set s
row_verb (r.Writes w) = written w
row_verb (r.Changes c) = changes c
row_verb (r.Looks l) = looked l
