use native.Mathlib.Omega.{arith}
use Rattle.subobject.proofs.Laws.{bit_most, outlined}
use Rattle.subobject.proofs.head.head_of.Goals as goal

pub returns-clause-head : goal.returns-clause-head
returns-clause-head c =
    outlined c.args.form c.args.o _ _ _ _ _ _ _ _ _ _ c.from.ensures c.from-nt.ensures c.from-s.ensures c.from-t.ensures c.expected.ensures.length.0 c.from-2.ensures c.from-3.ensures
    c.from-4.ensures c.from-5.ensures c.from-6.ensures

pub returns-clause-bits : goal.returns-clause-bits
returns-clause-bits c =
    omega (
      arith,
      bit_most _ c.from-s.ensures,
      bit_most _ c.from-t.ensures,
      bit_most _ c.from-2.ensures,
      bit_most _ c.from-3.ensures,
      bit_most _ c.from-4.ensures,
      bit_most _ c.from-5.ensures,
      bit_most _ c.from-6.ensures,
    )
