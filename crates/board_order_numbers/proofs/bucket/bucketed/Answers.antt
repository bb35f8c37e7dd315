use Rattle.std.proofs.Common.{refl, sym, arith}
use Rattle.board_record.proofs.Logic.{true≢false}
use Rattle.board_order_numbers.specs.Buckets.{along}
use Rattle.board_order_numbers.proofs.Laws.{walk_from, joined, no_key, key_before, key_new}
use mathlib.Core.Path.{ap}
use mathlib.Core.Bool.{not}
use Rattle.board_order_numbers.proofs.bucket.bucketed.Goals as goal

pub returns-then-k-eq0 : goal.returns-then-k-eq0
returns-then-k-eq0 c = record { new = no_key _ _ c.if-k-eq0.true; joins = λ e. absurd (true≢false (sym e)) }

pub fresh-requires : goal.fresh-requires
fresh-requires c =
    let xs = along c.args.b.keys.now c.args.b.order.now in (
      omega (arith, c.requires.0),
      c.requires.2,
      c.requires.4,
      walk_from xs c.args.heads.now _ _ _ _ _ c.requires.3 c.if-k-eq0.false c.from.ensures c.slot-h.ensures.slot.0 refl,
    )

pub returns-then-not-fresh : goal.returns-then-not-fresh
returns-then-not-fresh c = record { new = key_before c.args.k _ _ c.fresh.ensures.fresh (ap not c.if-not-fresh.true); joins = λ e. absurd (true≢false (sym e)) }

pub returns : goal.returns
returns c =
    let xs = along c.args.b.keys.now c.args.b.order.now in let used = c.if-k-eq0.false in record {
      new = key_new c.args.k _ _ used c.fresh.ensures.fresh (ap not c.if-not-fresh.false);
      joins = λ e. joined xs c.args.heads.now c.args.nexts.now _ _ _ _ c.requires.3 c.requires.4 c.requires.0 c.requires.1 used c.from.ensures
          c.slot-h.ensures.slot.0 c.slot-h.ensures.slot.1;
    }
