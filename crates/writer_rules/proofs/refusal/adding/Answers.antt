-- Each return rewrites `add_number` by the tests made before it; the head is the one that the segment is written with. What the tests find is what the rules say (`seven`, `eleven`);
-- the octets found are those of the subobject where the segment is not unfit (`fits`).
use mathlib.Core.Path.{◌≡◌, refl, sym, ◌∙◌, ap}
use mathlib.Core.Bool.{cond}
use Rattle.answers.specs.Reasons.{number_of}
use Rattle.answers.specs.declared.reason.Reason.TheVariants.{LengthWrong}
use Rattle.answers.proofs.Results.{numbered}
use Rattle.forms.specs.declared.Form.{Form}
use Rattle.forms.specs.Forms.{nai_length}
use Rattle.subobject.specs.declared.head.Head.{Head}
use Rattle.subobject.specs.Layout.{structure_size}
use Rattle.subobject.specs.Rules.{rule8, rule9, rule11}
use Rattle.subobject.specs.Segments.{head_of_outline, bits_of}
use Rattle.writer_spare.specs.Lending.{lent_of}
use Rattle.writer_front.specs.Front.{barred, lead}
use Rattle.writer_rules.specs.Refusals.{add_number, no_room}
use Rattle.writer_rules.proofs.Laws.{found_head, some_front, no_front, none_err, err_number, nameless_first, nameless_none, barred_unfit, misfit_unfit, looking, fits_by, overlong_eleven}
use Rattle.writer_rules.proofs.refusal.adding.Goals as goal

pub returns-in_err-nameless-clause-number : goal.returns-in_err-nameless-clause-number
unfolding add_number
returns-in_err-nameless-clause-number g c =
    let x = lent_of c.args.x in
    let form = g.L.Layout.layout in
    let h = c.head_of-head.result in
    let eh = found_head c.args.x c.head_of-head.ensures.head c.form.ensures.form in
    let e = c.in_err-nameless.field-0.0 in
    err_number c.from_residual.result e c.from_residual.ensures.1 ∙ rw (← eh) (nameless_first (rule8 form h) (rule9 h) (number_of e) _ c.in_err-nameless.ensures.number (numbered e))

pub returns-in_err-front-clause-number : goal.returns-in_err-front-clause-number
unfolding add_number
returns-in_err-front-clause-number g c =
    let x = lent_of c.args.x in
    let form = g.L.Layout.layout in
    let h = c.head_of-head.result in
    let eh = found_head c.args.x c.head_of-head.ensures.head c.form.ensures.form in
    let n = nameless_none (rule8 form h) (rule9 h) 0 c.in_ok-nameless.ensures.number refl in
    let b = no_front (barred form c.args.x.outline c.args.x.sid.now) (lead form c.args.x.outline) (sym c.in_err-front.ensures.ok_part ∙ c.front.ensures.front) in
    let e = c.in_err-front.field-0.0 in
    err_number c.from_residual-in_err-front.result e c.from_residual-in_err-front.ensures.1
    ∙ none_err c.front.result e LengthWrong c.in_err-front.ensures.value c.in_err-front.ensures.ok_part
    ∙ simp (← eh, n.0, n.1, barred_unfit form x c.args.ero c.args.x.typed b)

pub returns-then-misfit_of_nt-clause-number : goal.returns-then-misfit_of_nt-clause-number
unfolding add_number
returns-then-misfit_of_nt-clause-number g c =
    let x = lent_of c.args.x in
    let form = g.L.Layout.layout in
    let h = c.head_of-head.result in
    let eh = found_head c.args.x c.head_of-head.ensures.head c.form.ensures.form in
    let n = nameless_none (rule8 form h) (rule9 h) 0 c.in_ok-nameless.ensures.number refl in
    let head = c.head_of-head.ensures.head ∙ ap (λ (f : Form). head_of_outline f c.args.x.outline) c.form.ensures.form in
    let front = some_front (barred form c.args.x.outline c.args.x.sid.now) (lead form c.args.x.outline) c.in_ok-front.front (sym c.in_ok-front.ensures.ok_part ∙ c.front.ensures.front) in
    let nai = c.nai_octets-nai.ensures.octets.0 ∙ ap (λ (h : Head). nai_length form h.nt) head in
    let seven = misfit_unfit form x c.args.ero c.misfit_of_nt.result (nai_length form x.nt) c.args.x.typed front.0 refl c.misfit_of_nt.ensures.misfit in
    simp (← eh, n.0, n.1, sym seven ∙ c.if-misfit_of_nt.true)

pub returns-then-overlong-clause-number : goal.returns-then-overlong-clause-number
unfolding add_number
returns-then-overlong-clause-number g c =
    let x = lent_of c.args.x in
    let form = g.L.Layout.layout in
    let h = c.head_of-head.result in
    let eh = found_head c.args.x c.head_of-head.ensures.head c.form.ensures.form in
    let n = nameless_none (rule8 form h) (rule9 h) 0 c.in_ok-nameless.ensures.number refl in
    let head = c.head_of-head.ensures.head ∙ ap (λ (f : Form). head_of_outline f c.args.x.outline) c.form.ensures.form in
    let front = some_front (barred form c.args.x.outline c.args.x.sid.now) (lead form c.args.x.outline) c.in_ok-front.front (sym c.in_ok-front.ensures.ok_part ∙ c.front.ensures.front) in
    let nai = c.nai_octets-nai.ensures.octets.0 ∙ ap (λ (h : Head). nai_length form h.nt) head in
    let seven = misfit_unfit form x c.args.ero c.misfit_of_nt.result (nai_length form x.nt) c.args.x.typed front.0 refl c.misfit_of_nt.ensures.misfit in
    let fit = sym seven ∙ c.if-misfit_of_nt.false in
    let k = looking form c.args.x h c.in_ok-front.front c.nai_octets-nai.result (cond c.args.x.outline.structured structure_size 0) c.form.ensures.sized c.requires
    head front.0 front.1 c.nai_octets-nai.ensures.octets.0 refl in
    let fits = fits_by k c.args.ero fit in
    let eleven : c.overlong.result ≡ rule11 h (bits_of x) = overlong_eleven form x c.overlong.result fits.there c.overlong.ensures.overlong ∙ rw eh in
    simp (← eh, n.0, n.1, fit, sym eleven ∙ c.if-overlong.true)

pub returns-then-label_bad-clause-number : goal.returns-then-label_bad-clause-number
unfolding add_number
returns-then-label_bad-clause-number g c =
    let x = lent_of c.args.x in
    let form = g.L.Layout.layout in
    let h = c.head_of-head.result in
    let eh = found_head c.args.x c.head_of-head.ensures.head c.form.ensures.form in
    let n = nameless_none (rule8 form h) (rule9 h) 0 c.in_ok-nameless.ensures.number refl in
    let head = c.head_of-head.ensures.head ∙ ap (λ (f : Form). head_of_outline f c.args.x.outline) c.form.ensures.form in
    let front = some_front (barred form c.args.x.outline c.args.x.sid.now) (lead form c.args.x.outline) c.in_ok-front.front (sym c.in_ok-front.ensures.ok_part ∙ c.front.ensures.front) in
    let nai = c.nai_octets-nai.ensures.octets.0 ∙ ap (λ (h : Head). nai_length form h.nt) head in
    let seven = misfit_unfit form x c.args.ero c.misfit_of_nt.result (nai_length form x.nt) c.args.x.typed front.0 refl c.misfit_of_nt.ensures.misfit in
    let fit = sym seven ∙ c.if-misfit_of_nt.false in
    let k = looking form c.args.x h c.in_ok-front.front c.nai_octets-nai.result (cond c.args.x.outline.structured structure_size 0) c.form.ensures.sized c.requires
    head front.0 front.1 c.nai_octets-nai.ensures.octets.0 refl in
    let fits = fits_by k c.args.ero fit in
    let eleven : c.overlong.result ≡ rule11 h (bits_of x) = overlong_eleven form x c.overlong.result fits.there c.overlong.ensures.overlong ∙ rw eh in
    simp (← eh, n.0, n.1, fit, sym eleven ∙ c.if-overlong.false, sym c.label_bad.ensures.bad ∙ c.if-label_bad.true)

pub returns-then-time_bad-clause-number : goal.returns-then-time_bad-clause-number
unfolding add_number
returns-then-time_bad-clause-number g c =
    let x = lent_of c.args.x in
    let form = g.L.Layout.layout in
    let h = c.head_of-head.result in
    let eh = found_head c.args.x c.head_of-head.ensures.head c.form.ensures.form in
    let n = nameless_none (rule8 form h) (rule9 h) 0 c.in_ok-nameless.ensures.number refl in
    let head = c.head_of-head.ensures.head ∙ ap (λ (f : Form). head_of_outline f c.args.x.outline) c.form.ensures.form in
    let front = some_front (barred form c.args.x.outline c.args.x.sid.now) (lead form c.args.x.outline) c.in_ok-front.front (sym c.in_ok-front.ensures.ok_part ∙ c.front.ensures.front) in
    let nai = c.nai_octets-nai.ensures.octets.0 ∙ ap (λ (h : Head). nai_length form h.nt) head in
    let seven = misfit_unfit form x c.args.ero c.misfit_of_nt.result (nai_length form x.nt) c.args.x.typed front.0 refl c.misfit_of_nt.ensures.misfit in
    let fit = sym seven ∙ c.if-misfit_of_nt.false in
    let k = looking form c.args.x h c.in_ok-front.front c.nai_octets-nai.result (cond c.args.x.outline.structured structure_size 0) c.form.ensures.sized c.requires
    head front.0 front.1 c.nai_octets-nai.ensures.octets.0 refl in
    let fits = fits_by k c.args.ero fit in
    let eleven : c.overlong.result ≡ rule11 h (bits_of x) = overlong_eleven form x c.overlong.result fits.there c.overlong.ensures.overlong ∙ rw eh in
    simp (← eh, n.0, n.1, fit, sym eleven ∙ c.if-overlong.false, sym c.label_bad.ensures.bad ∙ c.if-label_bad.false, sym c.time_bad.ensures.bad ∙ c.if-time_bad.true)

pub returns-then-crowded-clause-number : goal.returns-then-crowded-clause-number
unfolding add_number no_room
returns-then-crowded-clause-number g c =
    let x = lent_of c.args.x in
    let form = g.L.Layout.layout in
    let h = c.head_of-head.result in
    let eh = found_head c.args.x c.head_of-head.ensures.head c.form.ensures.form in
    let n = nameless_none (rule8 form h) (rule9 h) 0 c.in_ok-nameless.ensures.number refl in
    let head = c.head_of-head.ensures.head ∙ ap (λ (f : Form). head_of_outline f c.args.x.outline) c.form.ensures.form in
    let front = some_front (barred form c.args.x.outline c.args.x.sid.now) (lead form c.args.x.outline) c.in_ok-front.front (sym c.in_ok-front.ensures.ok_part ∙ c.front.ensures.front) in
    let nai = c.nai_octets-nai.ensures.octets.0 ∙ ap (λ (h : Head). nai_length form h.nt) head in
    let seven = misfit_unfit form x c.args.ero c.misfit_of_nt.result (nai_length form x.nt) c.args.x.typed front.0 refl c.misfit_of_nt.ensures.misfit in
    let fit = sym seven ∙ c.if-misfit_of_nt.false in
    let k = looking form c.args.x h c.in_ok-front.front c.nai_octets-nai.result c.ending.result c.form.ensures.sized c.requires
    head front.0 front.1 c.nai_octets-nai.ensures.octets.0 c.ending.ensures.ending in
    let fits = fits_by k c.args.ero fit in
    let eleven : c.overlong.result ≡ rule11 h (bits_of x) = overlong_eleven form x c.overlong.result fits.there c.overlong.ensures.overlong ∙ rw eh in
    simp (
      sym fits.all,
      ← eh,
      n.0,
      n.1,
      fit,
      sym eleven ∙ c.if-overlong.false,
      sym c.label_bad.ensures.bad ∙ c.if-label_bad.false,
      sym c.time_bad.ensures.bad ∙ c.if-time_bad.false,
      sym c.crowded.ensures.crowded ∙ c.if-crowded.true,
    )

pub returns-clause-number : goal.returns-clause-number
unfolding add_number no_room
returns-clause-number g c =
    let x = lent_of c.args.x in
    let form = g.L.Layout.layout in
    let h = c.head_of-head.result in
    let eh = found_head c.args.x c.head_of-head.ensures.head c.form.ensures.form in
    let n = nameless_none (rule8 form h) (rule9 h) 0 c.in_ok-nameless.ensures.number refl in
    let head = c.head_of-head.ensures.head ∙ ap (λ (f : Form). head_of_outline f c.args.x.outline) c.form.ensures.form in
    let front = some_front (barred form c.args.x.outline c.args.x.sid.now) (lead form c.args.x.outline) c.in_ok-front.front (sym c.in_ok-front.ensures.ok_part ∙ c.front.ensures.front) in
    let nai = c.nai_octets-nai.ensures.octets.0 ∙ ap (λ (h : Head). nai_length form h.nt) head in
    let seven = misfit_unfit form x c.args.ero c.misfit_of_nt.result (nai_length form x.nt) c.args.x.typed front.0 refl c.misfit_of_nt.ensures.misfit in
    let fit = sym seven ∙ c.if-misfit_of_nt.false in
    let k = looking form c.args.x h c.in_ok-front.front c.nai_octets-nai.result c.ending.result c.form.ensures.sized c.requires
    head front.0 front.1 c.nai_octets-nai.ensures.octets.0 c.ending.ensures.ending in
    let fits = fits_by k c.args.ero fit in
    let eleven : c.overlong.result ≡ rule11 h (bits_of x) = overlong_eleven form x c.overlong.result fits.there c.overlong.ensures.overlong ∙ rw eh in
    simp (
      sym fits.all,
      ← eh,
      n.0,
      n.1,
      fit,
      sym eleven ∙ c.if-overlong.false,
      sym c.label_bad.ensures.bad ∙ c.if-label_bad.false,
      sym c.time_bad.ensures.bad ∙ c.if-time_bad.false,
      sym c.crowded.ensures.crowded ∙ c.if-crowded.false,
    )

pub returns-clause-piece : goal.returns-clause-piece
returns-clause-piece g c =
    let x = lent_of c.args.x in
    let form = g.L.Layout.layout in
    let h = c.head_of-head.result in
    let eh = found_head c.args.x c.head_of-head.ensures.head c.form.ensures.form in
    let head = c.head_of-head.ensures.head ∙ ap (λ (f : Form). head_of_outline f c.args.x.outline) c.form.ensures.form in
    let front = some_front (barred form c.args.x.outline c.args.x.sid.now) (lead form c.args.x.outline) c.in_ok-front.front (sym c.in_ok-front.ensures.ok_part ∙ c.front.ensures.front) in (
      refl,
      looking form c.args.x h c.in_ok-front.front c.nai_octets-nai.result c.ending.result c.form.ensures.sized c.requires
          head front.0 front.1 c.nai_octets-nai.ensures.octets.0 c.ending.ensures.ending,
    )
