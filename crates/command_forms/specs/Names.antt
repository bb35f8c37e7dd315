-- No promise rests on this file: the names of the table, by their commands.
use Rattle.std.specs.Prelude.{ℕ, List, []}
use Rattle.words.specs.Words.{ascii}
use Rattle.command_forms.specs.declared.verb.Verb.{Verb}
use Rattle.command_forms.specs.declared.verb.Verb.TheVariants as v

abbrev pub name_of : Verb → List ℕ
name_of v.Skip = []
name_of v.Bad = []
name_of v.Pcc = ascii "pcc"
name_of v.Pce = ascii "pce"
name_of v.Ero = ascii "ero"
name_of v.Rro = ascii "rro"
name_of v.EroSegment = ascii "ero-segment"
name_of v.RroSegment = ascii "rro-segment"
name_of v.Begin = ascii "begin"
name_of v.Add = ascii "add"
name_of v.Finish = ascii "finish"
name_of v.Lent = ascii "lent"
name_of v.Report = ascii "report"
name_of v.Remove = ascii "remove"
name_of v.Compact = ascii "compact"
name_of v.Body = ascii "body"
name_of v.Next = ascii "next"
name_of v.Mark = ascii "mark"
name_of v.Board = ascii "board"
name_of v.Chain = ascii "chain"
name_of v.Positions = ascii "positions"
name_of v.Addresses = ascii "addresses"
name_of v.Moved = ascii "moved"
