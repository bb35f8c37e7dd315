-- The commands of the console: their names, and the form of the words behind them (console.md, the table of commands).
use Rattle.std.specs.Prelude.{ℕ, suc, Bool, true, cond, ◌&&◌, ◌||◌, List, [], ◌∷◌, eqb, length}
use Rattle.words.specs.Words.{space, ascii, word_of, words_in}
use Rattle.same_octets.specs.Same.{same_octets}
use Rattle.decimal.specs.Decimal.{most_octet, most_two_octets, is_number, is_at_most, is_structure}
use Rattle.hexadecimal.specs.Hexadecimal.{is_octets, is_sid, is_nai}
use Rattle.command_forms.specs.declared.kind.Kind.{Kind}
use Rattle.command_forms.specs.declared.kind.Kind.TheVariants as k
use Rattle.command_forms.specs.declared.verb.Verb.{Verb}
use Rattle.command_forms.specs.declared.verb.Verb.TheVariants as v

-- ## Names

-- a name and the command that it stands for
pub record CommandRow : Type 0 where
  pub name : List ℕ
  pub verb : Verb

abbrev pub rows : List CommandRow
rows =
    record { name = ascii "pcc"; verb = v.Pcc } ∷
    record { name = ascii "pce"; verb = v.Pce } ∷
    record { name = ascii "ero"; verb = v.Ero } ∷
    record { name = ascii "rro"; verb = v.Rro } ∷
    record { name = ascii "ero-segment"; verb = v.EroSegment } ∷
    record { name = ascii "rro-segment"; verb = v.RroSegment } ∷
    record { name = ascii "begin"; verb = v.Begin } ∷
    record { name = ascii "add"; verb = v.Add } ∷
    record { name = ascii "finish"; verb = v.Finish } ∷
    record { name = ascii "lent"; verb = v.Lent } ∷
    record { name = ascii "report"; verb = v.Report } ∷
    record { name = ascii "remove"; verb = v.Remove } ∷
    record { name = ascii "compact"; verb = v.Compact } ∷
    record { name = ascii "body"; verb = v.Body } ∷
    record { name = ascii "next"; verb = v.Next } ∷
    record { name = ascii "mark"; verb = v.Mark } ∷
    record { name = ascii "board"; verb = v.Board } ∷
    record { name = ascii "chain"; verb = v.Chain } ∷
    record { name = ascii "positions"; verb = v.Positions } ∷
    record { name = ascii "addresses"; verb = v.Addresses } ∷
    record { name = ascii "moved"; verb = v.Moved } ∷
    []

-- The command of the first row that has this name; `Bad` where none has it.
unfoldable pub verb_named : List CommandRow → List ℕ → Verb
verb_named [] w = v.Bad
verb_named (r ∷ rs) w = cond (same_octets w r.name) r.verb (verb_named rs w)

unfoldable pub verb_of : List ℕ → Verb
verb_of w = verb_named rows w

-- ## Forms

-- `ero`
abbrev pub the_ero : List ℕ
the_ero = ascii "ero"

-- `rro`
abbrev pub the_rro : List ℕ
the_rro = ascii "rro"

-- the most octets of a buffer
abbrev pub most_size : ℕ
most_size = 65536

-- Is a word of this kind?
abbrev pub fits : List ℕ → Kind → Bool
fits w k.Number = is_number w
fits w k.Bit = is_at_most w 1
fits w k.Octet = is_at_most w most_octet
fits w k.TwoOctets = is_at_most w most_two_octets
fits w k.Size = is_at_most w most_size
fits w k.Octets = is_octets w
fits w k.Side = same_octets w the_ero || same_octets w the_rro
fits w k.Sid = is_sid w
fits w k.Nai = is_nai w
fits w k.Structure = is_structure w

-- `pcc OCTETS`, `ero PST OCTETS`, and so on, line by line of the table
abbrev pub kinds_of : Verb → List Kind
kinds_of v.Skip = []
kinds_of v.Bad = []
kinds_of v.Pcc = k.Octets ∷ []
kinds_of v.Pce = k.Octets ∷ []
kinds_of v.Ero = k.Number ∷ k.Octets ∷ []
kinds_of v.Rro = k.Number ∷ k.Octets ∷ []
kinds_of v.EroSegment = k.Number ∷ k.Number ∷ k.Octets ∷ []
kinds_of v.RroSegment = k.Number ∷ k.Number ∷ k.Octets ∷ []
kinds_of v.Begin = k.Side ∷ k.Number ∷ k.Size ∷ []
kinds_of v.Add = k.Bit ∷ k.Bit ∷ k.Octet ∷ k.TwoOctets ∷ k.Sid ∷ k.Nai ∷ k.Structure ∷ k.Bit ∷ k.Bit ∷ []
kinds_of v.Finish = []
kinds_of v.Lent = []
kinds_of v.Report = k.Number ∷ k.Number ∷ k.Octets ∷ []
kinds_of v.Remove = k.Number ∷ []
kinds_of v.Compact = k.Number ∷ []
kinds_of v.Body = k.Number ∷ []
kinds_of v.Next = k.Number ∷ k.Number ∷ []
kinds_of v.Mark = []
kinds_of v.Board = []
kinds_of v.Chain = []
kinds_of v.Positions = k.Number ∷ k.Number ∷ []
kinds_of v.Addresses = k.Octets ∷ []
kinds_of v.Moved = k.Number ∷ k.Number ∷ k.Number ∷ []

-- Words i, i + 1, .. are of these kinds.
abbrev pub fit_from : List Kind → List ℕ → ℕ → Bool
fit_from [] line i = true
fit_from (x ∷ xs) line i = fits (word_of line space i) x && fit_from xs line (suc i)

-- There are as many words as the form has, and each is of its kind.
unfoldable pub formed : List Kind → List ℕ → Bool
formed ks line = eqb (words_in line space) (suc (length ks)) && fit_from ks line 1
