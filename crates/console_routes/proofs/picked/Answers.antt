use mathlib.Core.Path.{refl}
use Rattle.answers.specs.Verdicts.{refusal_of, carrying_both}
use Rattle.answers.proofs.Results.{refused_numbered}
use Rattle.console_routes.specs.RouteLines.{picked_line, segment_answer}
use Rattle.console_routes.proofs.Laws.{picked_told}
use Rattle.console_state.proofs.Laws.{spelled, told_refused, told_accepted}
use Rattle.forms.specs.Forms.{form_of}
use Rattle.subobject.specs.Segments.{no_segment}
use Rattle.subobject_strays.specs.Strays.{no_strays}
use Rattle.console_fields.specs.Shown.{segment_line}
use Rattle.console_routes.proofs.picked.Goals as goal

pub returns-in-Err : goal.returns-in-Err
unfolding segment_answer picked_line
returns-in-Err c =
    let r = c.args.r in
    let k = r.line.command in
    let e = picked_told c.args.ero r.sessions k.one r.addresses.now k.two (spelled _ _ c.octets_at-n.ensures.octets) c.segment.ensures.picked in
    let q = rw c.in-Err.is at e in
    let x = c.in-Err.refusal in
    let told = rw c.number.ensures.number at c.refusal.ensures.told in
    record { told = rw (← q) (told_refused (refusal_of x) (segment_line (form_of k.one) no_segment no_strays) (refused_numbered x) told) }

pub shown-requires : goal.shown-requires
shown-requires c = c.requires.1

pub returns-in-Ok : goal.returns-in-Ok
unfolding segment_answer picked_line
returns-in-Ok c =
    let r = c.args.r in
    let k = r.line.command in
    let e = picked_told c.args.ero r.sessions k.one r.addresses.now k.two (spelled _ _ c.octets_at-n.ensures.octets) c.segment.ensures.picked in
    let q = rw c.in-Ok.is at e in
    let p = c.in-Ok.p in
    record { told = rw (← q) (told_accepted (carrying_both p.counts.count p.counts.stray) (segment_line (form_of k.one) p.segment p.strays) refl c.shown.ensures.told) }
