-- Each way out has the tests that were passed before it, in the order of the rules, and the one that failed: a law of `Laws` for each says that its
-- check is the first broken one; the form read is the layout's (`told_of`). Where a label is read the length has been found right, so that its octets are there (`sid_room`).
use mathlib.Core.Path.{refl, sym, ◌∙◌}
use Rattle.route_step_rules.proofs.Laws.{sid_room, told_of, other_kind, stops_8, stops_9, stops_7, stops_11, stops_29, stops_30, unbroken}
use Rattle.route_step_rules.proofs.rules.rules_at.Goals as goal

pub returns-then-h-from : goal.returns-then-h-from
returns-then-h-from g c = record { verdict = told_of c.form-form.ensures.form _ _ _ (other_kind _ _ _ _ c.from.ensures c.if-h-from.true c.refused.ensures.refused) }

pub returns-then-eight : goal.returns-then-eight
returns-then-eight g c = record {
  verdict = told_of c.form-form.ensures.form _ _ _ (stops_8 _ _ _ _ c.from.ensures c.if-h-from.false
      (sym c.eight.ensures.broken ∙ c.if-eight.true) c.refused-then-eight.ensures.refused);
}

pub returns-then-nine : goal.returns-then-nine
returns-then-nine g c = record {
  verdict = told_of c.form-form.ensures.form _ _ _ (stops_9 _ _ _ _ c.from.ensures c.if-h-from.false (sym c.eight.ensures.broken ∙ c.if-eight.false) (sym c.nine.ensures.broken ∙ c.if-nine.true)
      c.refused-then-nine.ensures.refused);
}

pub returns-then-seven : goal.returns-then-seven
returns-then-seven g c =
    record {
      verdict = told_of c.form-form.ensures.form _ _ _ (stops_7 _ _ _ _ c.from.ensures c.if-h-from.false (sym c.eight.ensures.broken ∙ c.if-eight.false)
          (sym c.nine.ensures.broken ∙ c.if-nine.false) (sym c.seven.ensures.broken ∙ c.if-seven.true)
          c.refused-then-seven.ensures.refused);
    }

pub too_long-requires : goal.too_long-requires
too_long-requires g c = (c.requires.0, rw c.form-form.ensures.form c.form-form.ensures.sized)

pub returns-then-too_long : goal.returns-then-too_long
returns-then-too_long g c =
    record {
      verdict = told_of c.form-form.ensures.form _ _ _ (stops_11 _ _ _ _ c.from.ensures c.if-h-from.false
          (sym c.eight.ensures.broken ∙ c.if-eight.false) (sym c.nine.ensures.broken ∙ c.if-nine.false)
          (sym c.seven.ensures.broken ∙ c.if-seven.false) (sym c.too_long.ensures.broken ∙ c.if-too_long.true)
          c.refused-then-too_long.ensures.refused);
    }

pub bad_label-requires : goal.bad_label-requires
bad_label-requires g c =
    let sound = sym c.seven.ensures.broken ∙ c.if-seven.false in
    (sid_room c.form-form.result c.args.s.now c.args.at c.args.h sound c.requires.1, rw c.form-form.ensures.form c.form-form.ensures.entry)

pub returns-then-bad_label : goal.returns-then-bad_label
returns-then-bad_label g c =
    record {
      verdict = told_of c.form-form.ensures.form _ _ _ (stops_29 _ _ _ _ c.from.ensures c.if-h-from.false
          (sym c.eight.ensures.broken ∙ c.if-eight.false) (sym c.nine.ensures.broken ∙ c.if-nine.false)
          (sym c.seven.ensures.broken ∙ c.if-seven.false) (sym c.too_long.ensures.broken ∙ c.if-too_long.false)
          (sym c.bad_label.ensures.broken ∙ c.if-bad_label.true) c.refused-then-bad_label.ensures.refused);
    }

pub bad_format-requires : goal.bad_format-requires
bad_format-requires g c =
    let sound = sym c.seven.ensures.broken ∙ c.if-seven.false in
    (sid_room c.form-form.result c.args.s.now c.args.at c.args.h sound c.requires.1, rw c.form-form.ensures.form c.form-form.ensures.entry)

pub returns-then-bad_format : goal.returns-then-bad_format
returns-then-bad_format g c =
    record {
      verdict = told_of c.form-form.ensures.form _ _ _ (stops_30 _ _ _ _ c.from.ensures c.if-h-from.false
          (sym c.eight.ensures.broken ∙ c.if-eight.false) (sym c.nine.ensures.broken ∙ c.if-nine.false)
          (sym c.seven.ensures.broken ∙ c.if-seven.false) (sym c.too_long.ensures.broken ∙ c.if-too_long.false)
          (sym c.bad_label.ensures.broken ∙ c.if-bad_label.false) (sym c.bad_format.ensures.broken ∙ c.if-bad_format.true)
          c.refused-then-bad_format.ensures.refused);
    }

pub returns : goal.returns
returns g c =
    record {
      verdict = told_of c.form-form.ensures.form _ _ _ (unbroken _ _ _ _ c.from.ensures c.if-h-from.false
          (sym c.eight.ensures.broken ∙ c.if-eight.false) (sym c.nine.ensures.broken ∙ c.if-nine.false)
          (sym c.seven.ensures.broken ∙ c.if-seven.false) (sym c.too_long.ensures.broken ∙ c.if-too_long.false)
          (sym c.bad_label.ensures.broken ∙ c.if-bad_label.false) (sym c.bad_format.ensures.broken ∙ c.if-bad_format.false)
          refl);
    }
