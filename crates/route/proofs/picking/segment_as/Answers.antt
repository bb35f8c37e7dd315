-- The judgement's refusal, then 15; else the subobject reader's answer is taken apart. After an acceptance it is no refusal (`picked_whole`).
use mathlib.Core.Path.{◌≡◌, refl, sym, ◌∙◌, ap}
use Prim.Native.Nat.{◌<◌}
use Rattle.answers.specs.declared.verdict.Verdict.{Verdict}
use Rattle.answers.specs.Verdicts.{verdict_of, refusal_of}
use Rattle.answers.proofs.Results.{refused_numbered}
use Rattle.forms.specs.declared.Form.{Form}
use Rattle.subobject_read.specs.Reader.{reading_of}
use Rattle.route.specs.Parts.{picked_of}
use Rattle.route.specs.Routes.{judge_as, judge_of, count_of}
use native.Mathlib.Omega.{arith}
use Rattle.route.proofs.Answer.{frame_bounds, accepted_none, accepted_lying, pick_stops, pick_count, pick_beyond, pick_there, picked_whole}
use Rattle.route.proofs.Answer.{whole_not_refused, whole_same, err_is}
use Rattle.route.proofs.picking.segment_as.Goals as goal
use Rattle.route.proofs.picking.segment_as.Goals.{After-judge}

-- The verdict is that of the form.
judged : (c : After-judge)
    → (let args = c.args in verdict_of c.judge.result ≡ judge_as args.form args.s.now args.ero args.session args.pst)
unfolding judge_of
judged c =
    let args = c.args in
    c.judge.ensures.judged ∙ ap (λ (x : Form). judge_as x args.s.now args.ero args.session args.pst) (sym c.requires.1)

pub returns-in_err-counts : goal.returns-in_err-counts
returns-in_err-counts c =
    let args = c.args in
    let e = c.in_err-counts.field-0.0 in
    let v = rw c.in_err-counts.was at (judged (goal.at.returns-in_err-counts c).After-judge) in
    let same = err_is c.from_residual.result e c.from_residual.ensures.1 in
    record { picked = pick_stops args.form args.s.now args.ero args.session args.pst args.i (refusal_of e) v (refused_numbered e) (ap picked_of same) }

pub returns-then-i-counts : goal.returns-then-i-counts
returns-then-i-counts c =
    let args = c.args in
    let v = rw c.in_ok-counts.was at (judged (goal.at.returns-then-i-counts c).After-judge) in
    record {
      picked = pick_beyond args.form args.s.now args.ero args.session args.pst args.i _ v refl c.if-i-counts.true (ap refusal_of c.into.ensures) refl;
    }

pub nth-at-requires : goal.nth-at-requires
nth-at-requires c =
    let args = c.args in
    let v = rw c.in_ok-counts.was at (judged (goal.at.nth-at-requires c).After-judge) in
    let z = ap (λ (x : Verdict). x.number) (sym v) in
    frame_bounds args.ero args.s.now (accepted_none args.form args.s.now args.ero args.session args.pst z).0
    (omega (arith, c.type_inv.s 2))
    (omega (arith, c.type_inv.s 3))

pub read_at-requires : goal.read_at-requires
read_at-requires c =
    let args = c.args in
    let v = rw c.in_ok-counts.was at (judged (goal.at.read_at-requires c).After-judge) in
    let z = ap (λ (x : Verdict). x.number) (sym v) in
    let n = pick_count args.form args.s.now args.ero args.session args.pst args.i _ v refl in
    let l : args.i < count_of args.s.now = omega (arith, n, c.if-i-counts.false) in
    let lies = (accepted_lying args.form args.s.now args.ero args.session args.pst args.i z l).inside in
    (omega (arith, c.nth-at.ensures.place), c.requires.0)

pub returns-in_err-strays : goal.returns-in_err-strays
returns-in_err-strays c =
    let args = c.args in
    let v = rw c.in_ok-counts.was at (judged (goal.at.returns-in_err-strays c).After-judge) in
    let z = ap (λ (x : Verdict). x.number) (sym v) in
    let n = pick_count args.form args.s.now args.ero args.session args.pst args.i _ v refl in
    let l : args.i < count_of args.s.now = omega (arith, n, c.if-i-counts.false) in
    let whole = picked_whole args.form args.s.now args.ero args.session args.pst args.i _ _ z l c.nth-at.ensures.place c.read_at.ensures.answer in
    record { picked = absurd (whole_not_refused (sym whole ∙ ap reading_of c.in_err-strays.was)) }

pub segment_at-segment-requires : goal.segment_at-segment-requires
segment_at-segment-requires c =
    let args = c.args in
    let v = rw c.in_ok-counts.was at (judged (goal.at.segment_at-segment-requires c).After-judge) in
    let z = ap (λ (x : Verdict). x.number) (sym v) in
    let n = pick_count args.form args.s.now args.ero args.session args.pst args.i _ v refl in
    let l : args.i < count_of args.s.now = omega (arith, n, c.if-i-counts.false) in
    let lies = (accepted_lying args.form args.s.now args.ero args.session args.pst args.i z l).inside in
    (rw c.nth-at.ensures.place lies, c.requires.0)

pub returns : goal.returns
returns c =
    let args = c.args in
    let v = rw c.in_ok-counts.was at (judged (goal.at.returns c).After-judge) in
    let z = ap (λ (x : Verdict). x.number) (sym v) in
    let n = pick_count args.form args.s.now args.ero args.session args.pst args.i _ v refl in
    let l : args.i < count_of args.s.now = omega (arith, n, c.if-i-counts.false) in
    let whole = picked_whole args.form args.s.now args.ero args.session args.pst args.i _ _ z l c.nth-at.ensures.place c.read_at.ensures.answer in
    record {
      picked = pick_there args.form args.s.now args.ero args.session args.pst args.i _ v refl c.if-i-counts.false c.nth-at.ensures.place
          c.segment_at-segment.ensures.segment (whole_same (sym (ap reading_of c.in_ok-strays.was) ∙ whole));
    }
