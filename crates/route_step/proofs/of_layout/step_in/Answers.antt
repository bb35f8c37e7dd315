-- The verdict's acceptance or refusal is the step's; the head read is that of the layout's form.
use mathlib.Core.Path.{refl, ◌∙◌, ap}
use native.Mathlib.Omega.{arith}
use Rattle.answers.specs.Verdicts.{accepted_with, refusal_of}
use Rattle.answers.proofs.Results.{refused_numbered}
use Rattle.forms.specs.declared.Form.{Form}
use Rattle.subobject.specs.Layout.{head_at}
use Rattle.route_step.proofs.Laws.{step_refused, head_four, head_lies, head_behind, head_stepped}
use Rattle.route_step.proofs.of_layout.step_in.Goals as goal

pub returns-in-Err : goal.returns-in-Err
returns-in-Err g c =
    let args = c.args in
    let e = c.in-Err.refusal in
    let v = rw c.in-Err.is at c.verdict.ensures.verdict in
    record { stepped = step_refused g.L.Layout.layout args.s.now args.ero args.at (refusal_of e) v (refused_numbered e) c.no_segment.ensures.zeros }

pub head_at-h-requires : goal.head_at-h-requires
head_at-h-requires g c =
    let args = c.args in
    let v = rw c.in-Ok.is at c.verdict.ensures.verdict in
    head_four g.L.Layout.layout args.s.now args.ero args.at (accepted_with 0) v refl

pub segment-requires : goal.segment-requires
segment-requires g c =
    let args = c.args in
    let v = rw c.in-Ok.is at c.verdict.ensures.verdict in
    let h = c.head_at-h.ensures.read ∙ ap (λ (x : Form). head_at x args.s.now args.ero args.at) c.form.ensures.form in
    (head_lies g.L.Layout.layout args.s.now args.ero args.at (accepted_with 0) v _ h refl, c.head_at-h.ensures.small.1)

pub overflow_add-result : goal.overflow_add-result
overflow_add-result g c =
    let args = c.args in
    let v = rw c.in-Ok.is at c.verdict.ensures.verdict in
    let h = c.head_at-h.ensures.read ∙ ap (λ (x : Form). head_at x args.s.now args.ero args.at) c.form.ensures.form in
    omega (arith, head_behind g.L.Layout.layout args.s.now args.ero args.at (accepted_with 0) v _ h refl)

pub returns-in-Ok : goal.returns-in-Ok
returns-in-Ok g c =
    let args = c.args in
    let v = rw c.in-Ok.is at c.verdict.ensures.verdict in
    let h = c.head_at-h.ensures.read ∙ ap (λ (x : Form). head_at x args.s.now args.ero args.at) c.form.ensures.form in
    record { stepped = head_stepped g.L.Layout.layout args.s.now args.ero args.at (accepted_with 0) v _ h refl c.segment.ensures.segment }
