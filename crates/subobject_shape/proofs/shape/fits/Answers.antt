use native.Mathlib.Omega.{arith}
use mathlib.Core.Bool.{false≢true}
use borrow.Author.Tests.{eqb-true}
use Rattle.subobject_shape.proofs.Shapes.{within, fitting, together_by}
use Rattle.subobject_shape.proofs.shape.fits.Goals as goal

pub returns-then-allowed-flags : goal.returns-then-allowed-flags
returns-then-allowed-flags c = record { fits = λ e. absurd (false≢true e) }

pub overflow_shr-result : goal.overflow_shr-result
overflow_shr-result c =
    let args = c.args in
    let most = within args.needed args.low args.high c.requires.1 (together_by args.needed _ args.low args.high c.allowed.ensures.allowed c.if-allowed-flags.false) in
    omega (arith, most)

pub returns : goal.returns
returns c =
    let args = c.args in record {
      fits = λ e. fitting args.needed args.size args.high args.low c.requires.1 (together_by args.needed _ args.low args.high c.allowed.ensures.allowed c.if-allowed-flags.false)
          (eqb-true _ _ e);
    }
