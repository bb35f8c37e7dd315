-- What next answers: a refusal, or what it hands out, which is a path, a removal, or the word that the follower is level with the board's version.
use Rattle.std.specs.Prelude.{ℕ, Result, Ok, Err}
use Rattle.answers.specs.declared.verdict.Verdict.{Verdict}
use Rattle.answers.specs.declared.refusal.Refusal.{Refusal}
use Rattle.answers.specs.Verdicts.{refusal_of}
use Rattle.board_rules.specs.declared.answer.Change.{Change}
use Rattle.board_rules.specs.declared.answer.Octets.{Octets}
use Rattle.board_rules.specs.declared.answer.Handed as code
use Rattle.board_rules.specs.declared.answer.Handed.TheVariants as out

pub data Handed : Type 0 where
  Refused : Verdict → Handed
  Path : Change → Octets → Handed
  Removed : Change → Handed
  Level : ℕ → Handed

-- a call's result, as that answer
abbrev pub handed_of : Result code.Handed Refusal → Handed
handed_of (Ok (out.Path c o)) = Path c o
handed_of (Ok (out.Removed c)) = Removed c
handed_of (Ok (out.Level v)) = Level v
handed_of (Err e) = Refused (refusal_of e)
