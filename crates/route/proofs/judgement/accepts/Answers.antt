use mathlib.Core.Path.{sym, ◌∙◌, ap}
use mathlib.Core.Bool.{false≢true}
use borrow.Author.Tests.{leb-true, le-ltb}
use Rattle.forms.specs.declared.Form.{Form}
use Rattle.route_rules.specs.SessionRules.{rule13}
use Rattle.route.proofs.judgement.accepts.Goals as goal

pub returns-then-not_agreed : goal.returns-then-not_agreed
returns-then-not_agreed c = record { accepts = λ e. absurd (false≢true e) }

pub returns-in-None : goal.returns-in-None
returns-in-None c = let args = c.args in
    let agreed = ap (λ (x : Form). rule13 x args.agreed args.pst) (sym c.named.ensures.form) ∙ sym c.not_agreed.ensures.broken ∙ c.if-not_agreed.false in
    record { accepts = λ e. (agreed, rw c.in-None.is) }

pub returns-in-Some : goal.returns-in-Some
returns-in-Some c = let args = c.args in
    let agreed = ap (λ (x : Form). rule13 x args.agreed args.pst) (sym c.named.ensures.form) ∙ sym c.not_agreed.ensures.broken ∙ c.if-not_agreed.false in
    record { accepts = λ e. (agreed, rw c.in-Some.is (le-ltb _ _ (leb-true _ _ e))) }
