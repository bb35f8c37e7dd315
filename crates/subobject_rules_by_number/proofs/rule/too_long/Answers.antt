use mathlib.Core.Path.{sym, ◌∙◌}
use native.Mathlib.Omega.{arith}
use Rattle.forms.proofs.Laws.{fixed_most, nai_most}
use Rattle.subobject.specs.Rules.{rule11}
use Rattle.subobject_rules_by_number.proofs.Laws.{eleven_made}
use Rattle.subobject_rules_by_number.proofs.rule.too_long.Goals as goal

pub sum_at-requires : goal.sum_at-requires
sum_at-requires c =
    omega (
      arith,
      fixed_most c.requires.1,
      c.requires.1.sid,
      nai_most c.requires.1 c.args.h.nt,
      c.from-fixed.ensures,
      c.from-sid.ensures,
      c.nai_length-nai.ensures.length.0,
    )

pub returns-then-structured : goal.returns-then-structured
returns-then-structured c =
    record {
      broken = eleven_made c.args.form c.args.h c.args.s.now c.args.at _ _ _ _ _ c.from-fixed.ensures
          c.from-sid.ensures c.nai_length-nai.ensures.length.0 c.sum_at.ensures.sum.0 c.eleven.ensures.broken;
    }

pub returns : goal.returns
unfolding rule11
returns c = record { broken = rw (sym c.structured.ensures.structured ∙ c.if-structured.false) }
