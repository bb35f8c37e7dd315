use mathlib.Core.Path.{sym, ◌∙◌, ap}
use Rattle.forms.specs.declared.Form.{Form}
use Rattle.subobject.specs.Layout.{head_at}
use Rattle.route_step_tests.proofs.Laws.{inside}
use Rattle.route_step_rules.proofs.Laws.{room, size_room, stops_15, stops_4, goes_on}
use Rattle.route_step_rules.proofs.rules.verdict.Goals as goal

pub returns-then-is_outside : goal.returns-then-is_outside
returns-then-is_outside g c = record { verdict = stops_15 _ _ _ _ (sym c.is_outside.ensures.outside ∙ c.if-is_outside.true) c.refused.ensures.refused }

pub is_unfit-requires : goal.is_unfit-requires
is_unfit-requires g c = (inside _ _ (sym c.is_outside.ensures.outside ∙ c.if-is_outside.false)).2

pub returns-then-is_unfit : goal.returns-then-is_unfit
returns-then-is_unfit g c =
    record {
      verdict = stops_4 _ _ _ _ (sym c.is_outside.ensures.outside ∙ c.if-is_outside.false)
          (sym c.is_unfit.ensures.unfit ∙ c.if-is_unfit.true) c.refused-then-is_unfit.ensures.refused;
    }

pub head_at-requires : goal.head_at-requires
head_at-requires g c =
    let args = c.args in
    room c.form.result args.s.now args.ero args.at (sym c.is_outside.ensures.outside ∙ c.if-is_outside.false)
    (sym c.is_unfit.ensures.unfit ∙ c.if-is_unfit.false)

pub rules_at-requires : goal.rules_at-requires
rules_at-requires g c =
    let there = sym c.is_outside.ensures.outside ∙ c.if-is_outside.false in
    let fits = sym c.is_unfit.ensures.unfit ∙ c.if-is_unfit.false in
    let size = size_room c.form.result c.args.s.now c.args.ero c.args.at there fits c.head_at.result c.head_at.ensures.read in
    ((inside _ _ there).2, size)

pub returns : goal.returns
returns g c =
    record {
      verdict = goes_on _ _ _ _ (sym c.is_outside.ensures.outside ∙ c.if-is_outside.false)
          (sym c.is_unfit.ensures.unfit ∙ c.if-is_unfit.false) (c.head_at.ensures.read ∙ ap (λ (f : Form). head_at f c.args.s.now c.args.ero c.args.at) c.form.ensures.form) c.rules_at.ensures.verdict;
    }
