-- What a command answers by, from the verdict of its call (console.md).
use Rattle.std.specs.Prelude.{ℕ, cond, List, eqb}
use Rattle.answers.specs.declared.verdict.Verdict.{Verdict}
use Rattle.console_lines.specs.Lines.{refusal_line, two_line, done_line}

-- "Every refusal is answered `NUMBER PLACE`, by document 01, and nothing else stands on its line."
unfoldable pub answer_line : Verdict → List ℕ → List ℕ
answer_line v accepted = cond (eqb v.number 0) accepted (refusal_line v.number v.place)

-- `0 0 COUNT STRAY` when accepted
unfoldable pub count_line : Verdict → List ℕ
count_line v = answer_line v (two_line v.count v.stray)

-- `0 0` when accepted
unfoldable pub plain_line : Verdict → List ℕ
plain_line v = answer_line v done_line
