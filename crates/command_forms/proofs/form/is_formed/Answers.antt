use Rattle.command_forms.proofs.Laws.{other_number, fitting_start, fitting_miss, fitting_hit, fitting_end}
use Rattle.command_forms.specs.declared.kind.Kind.TheVariants as k
use mathlib.Core.Path.{sym, ◌∙◌}
use Rattle.command_forms.proofs.form.is_formed.Goals as goal

pub returns-then-count-kinds : goal.returns-then-count-kinds
returns-then-count-kinds c =
    record { formed = rw (← c.kinds-kinds.ensures.kinds) (other_number _ c.args.line.now (λ h. c.if-count-kinds.true (c.count.ensures.count ∙ h))) }

pub loop-i-init : goal.loop-i-init
loop-i-init c = fitting_start _ c.args.line.now (sym c.count.ensures.count ∙ c.if-count-kinds.false)

pub returns-then-not-fits : goal.returns-then-not-fits
returns-then-not-fits c =
    let l = c.loop-i in
    let e = rw c.word.ensures.word.0 at c.fits.ensures.fits in
    record { formed = rw (← c.kinds-kinds.ensures.kinds) (fitting_miss _ c.args.line.now l.i _ l.invariant c.loop-i-test.true (sym e ∙ c.if-not-fits.true)) }

pub loop-i-preserved : goal.loop-i-preserved
loop-i-preserved c =
    let l = c.loop-i in
    let e = rw c.word.ensures.word.0 at c.fits.ensures.fits in
    fitting_hit _ c.args.line.now l.i _ l.invariant c.loop-i-test.true (sym e ∙ c.if-not-fits.false)

pub returns : goal.returns
returns c = let l = c.loop-i in record { formed = rw (← c.kinds-kinds.ensures.kinds) (fitting_end _ c.args.line.now l.i k.Number l.invariant c.loop-i-test.false) }
