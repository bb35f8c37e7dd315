-- What is read lies inside the expected length. With a structure the last four of its octets are taken to the strays, without one the flags and the two reserved octets are.
use Prim.Native.Nat.{◌+◌}
use mathlib.Core.Path.{sym, ◌∙◌}
use native.Mathlib.Omega.{arith}
use Rattle.forms.proofs.Laws.{fixed_least}
use Rattle.subobject_strays.proofs.Laws.{fixed_expected, structure_end, strays_structured, strays_plain}
use Rattle.subobject_strays.proofs.strays_at.Goals as goal

pub stray_flags-flags-requires : goal.stray_flags-flags-requires
stray_flags-flags-requires c = (
  omega (
    arith,
    fixed_least c.requires.1,
    fixed_expected c.args.form c.args.h.nt c.args.h.s c.args.h.t,
    c.requires.0,
  ),
  c.requires.1,
)

pub reserved_two-fixed-requires : goal.reserved_two-fixed-requires
reserved_two-fixed-requires c = (
  omega (
    arith,
    fixed_expected c.args.form c.args.h.nt c.args.h.s
        c.args.h.t,
    c.requires.0,
  ),
  c.requires.1,
)

pub with_structure-requires : goal.with_structure-requires
with_structure-requires c = (
  structure_end c.args.form c.args.h c.args.at _ _ _ _ _ c.structured.ensures.structured
      c.if-structured.true c.requires.0 c.from.ensures c.from-then-structured.ensures c.nai_length-nai.ensures.length.0,
  c.stray_flags-flags.ensures.flags.1,
)

pub returns-then-structured : goal.returns-then-structured
returns-then-structured c =
    let flags = c.stray_flags-flags.ensures.flags.0 in let fixed = c.reserved_two-fixed.ensures.two in let a = c.from.ensures in
    let b = c.from-then-structured.ensures in let n = c.nai_length-nai.ensures.length.0 in record {
      strays = c.with_structure.ensures.strays
          ∙ strays_structured c.args.form c.args.h c.args.s.now c.args.at _ _ flags fixed _ (λ i. c.args.at + a i + b i + n i + 4)
          (sym c.structured.ensures.structured ∙ c.if-structured.true);
    }

pub returns : goal.returns
returns c =
    record {
      strays = strays_plain c.args.form c.args.h c.args.s.now c.args.at _ _ c.stray_flags-flags.ensures.flags.0
          c.reserved_two-fixed.ensures.two (sym c.structured.ensures.structured ∙ c.if-structured.false);
    }
