use Prim.Native.Nat.{◌-◌}
use native.Mathlib.Omega.{arith}
use mathlib.Core.Path.{◌≡◌, refl, sym, ap, ◌∙◌}
use mathlib.Core.Bool.{false}
use Rattle.board_record.specs.Sizes.{group}
use Rattle.board_record.specs.Lists.{any_below}
use Rattle.board_record.proofs.Looks.{any_none, any_more, any_of}
use Rattle.board_moved.proofs.Ranges.{place_moved}
use Rattle.board_moved.proofs.range.in_group.Goals as goal

pub loop-j-init : goal.loop-j-init
loop-j-init c = (c.requires, omega arith, any_none _)

pub returns-then-is_moved : goal.returns-then-is_moved
returns-then-is_moved c =
    let a = c.args in record {
      moved = sym (any_of _ group _ c.loop-j-test.true
          (sym (place_moved a.b.keys.now a.b.versions.now a.from a.to a.v _ _ _ _ refl refl c.is_moved.ensures.moved) ∙ c.if-is_moved.true));
    }

pub loop-j-preserved : goal.loop-j-preserved
loop-j-preserved c =
    let a = c.args in
    let loop = c.loop-j in (
      loop.invariant.0,
      omega (arith, c.loop-j-test.true),
      any_more _ _ loop.invariant.2
          (sym (place_moved a.b.keys.now a.b.versions.now a.from a.to a.v _ _ _ _ refl refl c.is_moved.ensures.moved) ∙ c.if-is_moved.false),
    )

pub returns : goal.returns
returns c = let loop = c.loop-j in let e : loop.j ≡ group = omega (arith, loop.invariant.1, c.loop-j-test.false) in record { moved = sym (ap (any_below _) (sym e) ∙ loop.invariant.2) }
