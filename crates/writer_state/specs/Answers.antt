-- What the calls of writing answer (document 01, "Writing a route").
use Rattle.std.specs.Prelude.{ℕ}
use Rattle.answers.specs.Verdicts.{refused_by, accepted_with, kept}
use Rattle.writer_state.specs.declared.Writer.{Writer}
use Rattle.writer_state.specs.Written.{Written}

-- A refusal has its number and place 0, and hands the state back as it was.
abbrev pub refused_as : ℕ → Writer → Written
refused_as number old = record { verdict = refused_by number 0; writer = old }

-- An acceptance hands on the state that follows.
abbrev pub accepted_as : Writer → Written
accepted_as new = record { verdict = accepted_with 0; writer = new }

abbrev pub answered : ℕ → Writer → Writer → Written
answered number old new = kept number (refused_as number old) (accepted_as new)
