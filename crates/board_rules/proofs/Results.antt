-- A result of next and of moved is determined by what it is as the paper's answer. Assumes nothing.
use mathlib.Core.Path.{◌≡◌, refl}
use mathlib.Core.Bool.{Bool, true, false}
use lib.Dec.{eqb}
use Rattle.std.proofs.Common.{Result, Ok}
use Rattle.answers.specs.declared.verdict.Verdict.{Verdict}
use Rattle.answers.specs.declared.refusal.Refusal.{Refusal}
use Rattle.answers.specs.Verdicts.{accepted_with}
use Rattle.answers.proofs.Results.{view_back}
use Rattle.board_rules.specs.declared.answer.Handed as code
use Rattle.board_rules.specs.declared.answer.Handed.TheVariants as out
use Rattle.board_rules.specs.Handed.{Handed, Refused, Path, Removed, Level, handed_of}
use Rattle.board_rules.specs.Moved.{told_of}

abbrev verdict_in : Handed → Verdict
verdict_in (Refused v) = v
verdict_in (Path c o) = accepted_with 0
verdict_in (Removed c) = accepted_with 0
verdict_in (Level v) = accepted_with 0

abbrev inside : Handed → code.Handed
inside (Refused v) = out.Level 0
inside (Path c o) = out.Path c o
inside (Removed c) = out.Removed c
inside (Level v) = out.Level v

accepts : (h : code.Handed) → (verdict_in (handed_of (Ok h))).number ≡ 0
accepts (out.Path c o) = refl
accepts (out.Removed c) = refl
accepts (out.Level v) = refl

had : (h : code.Handed) → inside (handed_of (Ok h)) ≡ h
had (out.Path c o) = refl
had (out.Removed c) = refl
had (out.Level v) = refl

pub handed_back : (x y : Result code.Handed Refusal) → handed_of x ≡ handed_of y → x ≡ y
handed_back = view_back handed_of verdict_in inside accepts (λ _. refl) had

told : (yes : Bool) → eqb ((told_of (Ok yes)).count) 1 ≡ yes
told true = refl
told false = refl

pub told_back : (x y : Result Bool Refusal) → told_of x ≡ told_of y → x ≡ y
told_back = view_back told_of (λ v. v) (λ v. eqb v.count 1) (λ _. refl) (λ _. refl) told
