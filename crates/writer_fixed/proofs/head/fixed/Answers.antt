use mathlib.Core.Path.{sym, ◌∙◌, ap}
use native.Mathlib.Omega.{arith}
use Rattle.forms.specs.declared.Form.{Form}
use Rattle.writer_fixed.proofs.Laws.{laid_eight, laid_four}
use Rattle.forms.proofs.Laws.{fixed_least, fixed_eight}
use Rattle.writer_fixed.proofs.head.fixed.Goals as goal

pub four-requires : goal.four-requires
four-requires g c = (c.requires.0, c.requires.2, c.requires.3, omega (arith, fixed_least c.form-form.ensures.sized, c.requires.1))

pub four_more-requires : goal.four_more-requires
four_more-requires g c =
    let b = ap (λ (f : Form). f.behaves) (sym c.form-form.ensures.form) ∙ c.if-form.true in
    omega (arith, fixed_eight c.form-form.ensures.sized b, c.requires.1, c.four.auto.out)

pub returns-then-form : goal.returns-then-form
returns-then-form g c =
    let a = c.args in let form = g.L.Layout.layout in
    let b = ap (λ (f : Form). f.behaves) (sym c.form-form.ensures.form) ∙ c.if-form.true in record {
      fixed = laid_eight form a.h a.behaviour a.out.now _ _ b (omega (arith, fixed_eight c.form-form.ensures.sized b, c.requires.1)) c.four.ensures.four c.four_more.ensures.four;
    }

pub returns-else-form : goal.returns-else-form
returns-else-form g c =
    let b = ap (λ (f : Form). f.behaves) (sym c.form-form.ensures.form) ∙ c.if-form.false in
    record { fixed = laid_four g.L.Layout.layout c.args.h c.args.behaviour c.args.out.now _ b c.four.ensures.four }
