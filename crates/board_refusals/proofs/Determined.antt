-- Of any two answers that fit a contract, equality; the place that an acceptance carries is the one that was handed in. Assumes nothing.
use Prim.Native.Nat.{ℕ}
use mathlib.Core.Path.{◌≡◌, refl, sym, ap, ◌∙◌}
use mathlib.Core.Bool.{true, cond}
use Rattle.std.proofs.Common.{Option, Some, Result}
use Rattle.std.specs.Prelude.{IfOk, is_some}
use Rattle.std.specs.Option.{unwrap_or}
use Rattle.answers.specs.declared.verdict.Verdict.{Verdict}
use Rattle.answers.specs.declared.refusal.Refusal.{Refusal}
use Rattle.answers.specs.declared.refusal.Counts.{Counts}
use Rattle.answers.specs.Verdicts.{carrying_both, answer_of, passed_of, verdict_of}
use Rattle.answers.proofs.Results.{view_back_if, passed_back}
use Rattle.board_record.specs.Sizes.{places}
use Rattle.board_rules.specs.Report.{report_rules}
use Rattle.board_rules.specs.Remove.{remove_rules}
use Rattle.board_rules.specs.Compact.{compact_rules}
use Rattle.board_rules.specs.Body.{body_rules}
use Rattle.board_rules.specs.Next.{next_rules}
use Rattle.board_rules.specs.Moved.{moved_rules}

-- what an acceptance of a report's rules is by its counts
abbrev pub stored_of : Result (ℕ × Counts) Refusal → Verdict
stored_of x = answer_of (λ (a : ℕ × Counts). carrying_both a.1.count a.1.stray) x

pub report_rules_determined : (k : ℕ) (route : Result Counts Refusal) (n version : ℕ) (target : Option ℕ) (x y : Result (ℕ × Counts) Refusal)
    → stored_of x ≡ report_rules true k (verdict_of route) n version (cond (is_some target) 0 places) → IfOk x (λ a. target ≡ Some a.0)
    → stored_of y ≡ report_rules true k (verdict_of route) n version (cond (is_some target) 0 places) → IfOk y (λ a. target ≡ Some a.0) → x ≡ y
report_rules_determined k route n version target x y p h q g =
    view_back_if stored_of (λ v. v) (λ v. (unwrap_or target 0, record { count = v.count; stray = v.stray })) (λ (a : ℕ × Counts). target ≡ Some a.0) (λ _. refl) (λ _. refl)
    (λ a e. let at : unwrap_or target 0 ≡ a.0 = ap (λ (o : Option ℕ). unwrap_or o 0) e in λ i. (at i, a.1)) x y h g (p ∙ sym q)

-- a place that was handed in, and is carried
placed_back : (path : Option ℕ) (x y : Result ℕ Refusal) → passed_of x ≡ passed_of y → IfOk x (λ at. path ≡ Some at) → IfOk y (λ at. path ≡ Some at) → x ≡ y
placed_back path x y p h g =
    view_back_if passed_of (λ v. v) (λ _. unwrap_or path 0) (λ (at : ℕ). path ≡ Some at) (λ _. refl) (λ _. refl) (λ at e. ap (λ (o : Option ℕ). unwrap_or o 0) e) x y h g p

pub remove_rules_determined : (k : ℕ) (path : Option ℕ) (version : ℕ) (x y : Result ℕ Refusal)
    → passed_of x ≡ remove_rules true k (is_some path) version → IfOk x (λ at. path ≡ Some at)
    → passed_of y ≡ remove_rules true k (is_some path) version → IfOk y (λ at. path ≡ Some at) → x ≡ y
remove_rules_determined k path version x y p h q g = placed_back path x y (p ∙ sym q) h g

pub body_rules_determined : (k : ℕ) (path : Option ℕ) (x y : Result ℕ Refusal) → passed_of x ≡ body_rules true k (is_some path) → IfOk x (λ at. path ≡ Some at)
    → passed_of y ≡ body_rules true k (is_some path) → IfOk y (λ at. path ≡ Some at) → x ≡ y
body_rules_determined k path x y p h q g = placed_back path x y (p ∙ sym q) h g

pub compact_rules_determined : (c version : ℕ) (x y : Result (Unit {0}) Refusal) → passed_of x ≡ compact_rules true c version → passed_of y ≡ compact_rules true c version → x ≡ y
compact_rules_determined c version x y p q = passed_back x y (p ∙ sym q)

pub next_rules_determined : (s w version floor : ℕ) (x y : Result (Unit {0}) Refusal) → passed_of x ≡ next_rules true s w version floor
    → passed_of y ≡ next_rules true s w version floor → x ≡ y
next_rules_determined s w version floor x y p q = passed_back x y (p ∙ sym q)

pub moved_rules_determined : (v version floor : ℕ) (x y : Result (Unit {0}) Refusal) → passed_of x ≡ moved_rules true v version floor
    → passed_of y ≡ moved_rules true v version floor → x ≡ y
moved_rules_determined v version floor x y p q = passed_back x y (p ∙ sym q)
