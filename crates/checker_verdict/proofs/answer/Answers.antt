-- Three returns, one law each (`pcc_refusal_is`, `pce_refusal_is`, `ero_result_is`). What `first` and `rest` ensure is carried along the objects by `ap`, and an
-- OPEN that was read by `opened_told`.
use Rattle.checker_verdict.proofs.Laws.{opened_told, pcc_refusal_is, pce_refusal_is, ero_result_is}
use Rattle.cut_objects.specs.Cutting.{first_object, rest_objects}
use mathlib.Core.Path.{◌∙◌, ap}
use Rattle.checker_verdict.proofs.answer.Goals as goal

pub returns-in_err-pcc : goal.returns-in_err-pcc
returns-in_err-pcc c =
    record {
      checked = pcc_refusal_is c.args.s.now c.from_residual.result c.in_err-pcc.field-0.0 c.from_residual.ensures.1
          (opened_told c.first_two-p.ensures.first c.first.ensures.first c.in_err-pcc.ensures.read);
    }

pub returns-in_err-pce : goal.returns-in_err-pce
returns-in_err-pce c =
    let two = c.first_two-p.ensures.first in record {
      checked = pce_refusal_is c.args.s.now c.from_residual-in_err-pce.result _ c.in_err-pce.field-0.0 c.from_residual-in_err-pce.ensures.1
          (opened_told two c.first.ensures.first c.in_ok-pcc.ensures.read)
          (opened_told two (c.first-2.ensures.first ∙ ap first_object c.rest-behind.ensures.rest) c.in_err-pce.ensures.read);
    }

pub returns : goal.returns
returns c =
    let two = c.first_two-p.ensures.first in let behind = c.rest-behind.ensures.rest in record {
      checked = ero_result_is c.args.s.now c.judge.result _ _ _ _
          (opened_told two c.first.ensures.first c.in_ok-pcc.ensures.read)
          (opened_told two (c.first-2.ensures.first ∙ ap first_object behind) c.in_ok-pce.ensures.read)
          c.agree-session.ensures.sessions
          (c.first-3.ensures.first ∙ ap first_object (c.rest.ensures.rest ∙ ap rest_objects behind))
          c.judge.ensures.judged;
    }
