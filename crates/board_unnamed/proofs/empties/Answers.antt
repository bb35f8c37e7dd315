use Prim.Native.Nat.{ℕ, ◌+◌, ◌-◌}
use mathlib.Core.Path.{ap, ◌∙◌}
use mathlib.Core.Bool.{Bool}
use Rattle.std.proofs.Common.{rules}
use Rattle.board_record.specs.Sizes.{places}
use Rattle.board_unnamed.specs.Rest.{empty_b}
use Rattle.board_extent.proofs.Loops.{count_rest}
use Rattle.board_unnamed.proofs.Rests.{place_none}
use Rattle.board_unnamed.proofs.empties.Goals as goal

pub returns : goal.returns
unfolding empty_b
returns c =
    let b = c.args.b in
    let t : ℕ → Bool = empty_b b.keys.now b.lengths.now b.forms.now in record {
      count = ap (λ (x : ℕ). x + (places - c.args.m)) (c.count.ensures.count t (λ i r l p. search rules))
          ∙ count_rest t _ _ c.requires.0 (place_none b.keys.now b.lengths.now b.forms.now _ c.requires.1 c.requires.2 c.requires.3);
    }
