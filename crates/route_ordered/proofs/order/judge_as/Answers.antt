use mathlib.Core.Path.{sym, ◌∙◌, ap}
use native.Mathlib.Omega.{arith}
use Rattle.answers.specs.Verdicts.{refusal_of}
use Rattle.route_rules.proofs.Laws.{handed_on}
use Rattle.route_ordered.proofs.Ordered.{frame_refused, frame_passed, frame_bounds, agreed_stops, walk_then_limit}
use Rattle.route_ordered.proofs.order.judge_as.Goals as goal

pub returns-in_err-count : goal.returns-in_err-count
returns-in_err-count c = let args = c.args in
    let e = c.in_err-count.field-0.0 in
    let framed = rw c.from.ensures at c.framed.ensures.framed in
    record { judged = handed_on _ c.from_residual.result e c.from_residual.ensures.1 ∙ frame_refused args.form args.s.now args.ero args.session args.pst _ framed e c.in_err-count.was }

pub returns-then-not_agreed : goal.returns-then-not_agreed
returns-then-not_agreed c =
    let args = c.args in
    let framed = rw c.from.ensures at c.framed.ensures.framed in
    let passed = frame_passed args.form args.s.now args.ero args.session args.pst _ framed _ c.in_ok-count.was in
    record {
      judged = ap refusal_of c.into.ensures
          ∙ agreed_stops args.form args.s.now args.ero args.session args.pst passed.0 (sym c.not_agreed.ensures.broken ∙ c.if-not_agreed.true);
    }

pub walk-w-requires : goal.walk-w-requires
walk-w-requires c =
    let args = c.args in
    let framed = rw c.from.ensures at c.framed.ensures.framed in
    let passed = frame_passed args.form args.s.now args.ero args.session args.pst _ framed _ c.in_ok-count.was in
    let known = c.shared_slice_known-1.given in
    (c.requires, frame_bounds args.ero args.s.now passed.0.0 (omega (arith, known 2)) (omega (arith, known 3)))

pub limited-requires : goal.limited-requires
limited-requires c =
    let args = c.args in
    let framed = rw c.from.ensures at c.framed.ensures.framed in
    let passed = frame_passed args.form args.s.now args.ero args.session args.pst _ framed _ c.in_ok-count.was in
    let known = c.shared_slice_known-1.given in
    frame_bounds args.ero args.s.now passed.0.0 (omega (arith, known 2)) (omega (arith, known 3))

pub returns : goal.returns
returns c =
    let args = c.args in
    let framed = rw c.from.ensures at c.framed.ensures.framed in
    let passed = frame_passed args.form args.s.now args.ero args.session args.pst _ framed _ c.in_ok-count.was in
    record {
      judged = walk_then_limit args.form args.s.now args.ero args.session args.pst passed.0 _ _ _
          (sym c.not_agreed.ensures.broken ∙ c.if-not_agreed.false) c.walk-w.ensures.walked passed.1 c.limited.ensures.limited;
    }
