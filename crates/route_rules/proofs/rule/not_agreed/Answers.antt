use native.Mathlib.Omega.{arith}
use mathlib.Core.Path.{◌≡◌, ap, ◌∙◌}
use mathlib.Core.Bool.{not, ◌&&◌}
use lib.Dec.{eqb}
use borrow.Author.Tests.{eq-eqb, ne_eqb}
use Rattle.route_rules.specs.SessionRules.{rule13}
use Rattle.route_rules.proofs.rule.not_agreed.Goals.{then-pst-from, else-pst-from}
use Rattle.route_rules.proofs.rule.not_agreed.Goals as goal

pub returns : goal.returns
unfolding rule13
returns c =
    let args = c.args in
    let same : c.from.result ≡ args.form.setup = omega arith in
    let both : c.if-pst-from.result ≡ (eqb args.pst args.form.setup && args.agreed) = elim c.if-pst-from.branch [
      | then-pst-from w ↦ let q : args.pst ≡ args.form.setup = omega arith in rw (eq-eqb args.pst args.form.setup q) w.result-is
      | else-pst-from w ↦ rw (ne_eqb args.pst args.form.setup (λ e. w.if-pst-from.false (omega arith))) (w.result-is ∙ ne_eqb args.pst c.from.result w.if-pst-from.false)
    ] in
    record { broken = ap not both }
