use mathlib.Core.Path.{◌∙◌}
use Rattle.board_record.specs.Table.{table_of}
use Rattle.board_record.proofs.Proper.{proper_is}
use Rattle.board_order_moves.proofs.Moves.{moved_order, order_is_chained, new_spot, old_spot}
use Rattle.board_order_moves.proofs.moving.move_last.Goals as goal

pub overflow_sub-used : goal.overflow_sub-used
overflow_sub-used c =
    let t = table_of c.args.keys.now c.args.versions.now c.args.lengths.now c.args.version c.args.floor c.args.forms.now in
    let spot =
    old_spot t c.args.order.now c.args.at c.requires.0 c.requires.1 c.requires.2 _ _ (c.unwrap_or-used.ensures ∙ c.found_in.ensures.found)
    c.in-Some.ensures.found c.in-Some.ensures.within
    in
    spot.0

pub shift-requires : goal.shift-requires
shift-requires c =
    let t = table_of c.args.keys.now c.args.versions.now c.args.lengths.now c.args.version c.args.floor c.args.forms.now in
    let spot =
    old_spot t c.args.order.now c.args.at c.requires.0 c.requires.1 c.requires.2 _ _ (c.unwrap_or-used.ensures ∙ c.found_in.ensures.found)
    c.in-Some.ensures.found c.in-Some.ensures.within
    in
    (spot.1.from_to, spot.1.here)

pub shift-requires-in-None : goal.shift-requires-in-None
shift-requires-in-None c =
    let t = table_of c.args.keys.now c.args.versions.now c.args.lengths.now c.args.version c.args.floor c.args.forms.now in
    let spot =
    new_spot t c.args.order.now c.args.at c.requires.0 c.requires.1 c.requires.2 _ (c.unwrap_or-used.ensures ∙ c.found_in.ensures.found)
    c.in-None.ensures.found
    in
    (spot.from_to, spot.here)

pub returns-in-Some : goal.returns-in-Some
returns-in-Some c =
    let t = table_of c.args.keys.now c.args.versions.now c.args.lengths.now c.args.version c.args.floor c.args.forms.now in
    let spot =
    old_spot t c.args.order.now c.args.at c.requires.0 c.requires.1 c.requires.2 _ _ (c.unwrap_or-used.ensures ∙ c.found_in.ensures.found)
    c.in-Some.ensures.found c.in-Some.ensures.within
    in record {
      order = moved_order t c.args.order.now _ _ _ _ c.told-keys c.told-versions (proper_is t c.requires.0)
          (order_is_chained t c.args.order.now c.args.at c.requires.0 c.requires.1 c.requires.2) c.requires.2 spot.1 c.shift.ensures.shifted;
    }

pub returns-in-None : goal.returns-in-None
returns-in-None c =
    let t = table_of c.args.keys.now c.args.versions.now c.args.lengths.now c.args.version c.args.floor c.args.forms.now in
    let spot =
    new_spot t c.args.order.now c.args.at c.requires.0 c.requires.1 c.requires.2 _ (c.unwrap_or-used.ensures ∙ c.found_in.ensures.found)
    c.in-None.ensures.found
    in record {
      order = moved_order t c.args.order.now _ _ _ _ c.told-keys c.told-versions (proper_is t c.requires.0)
          (order_is_chained t c.args.order.now c.args.at c.requires.0 c.requires.1 c.requires.2) c.requires.2 spot c.shift-in-None.ensures.shifted;
    }
