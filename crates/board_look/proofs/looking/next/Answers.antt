-- One law for each way out: no board, a refused mark, level, a removal, a path.
use native.Mathlib.Omega.{arith}
use mathlib.Core.Path.{◌≡◌, ap, ◌∙◌}
use Rattle.std.proofs.lemmas.Grind.{common_steps}
use Rattle.answers.specs.declared.refusal.Refusal.{Refusal}
use Rattle.answers.specs.Verdicts.{refusal_of}
use Rattle.board_record.specs.Lent.{board_lent}
use Rattle.board_rules.specs.Handed.{Handed, Refused, Path, Removed, handed_of}
use Rattle.board_look.proofs.Looks.{searched, next_none, next_refused, next_level_on, next_removed, next_path}
use Rattle.board_look.proofs.looking.next.Goals as goal

pub returns-then-not-is_board : goal.returns-then-not-is_board
returns-then-not-is_board c =
    record { next = ap (λ (e : Refusal). Refused (refusal_of e)) c.into.ensures ∙ next_none (board_lent c.args.b) c.args.store.now c.args.s c.args.w c.if-not-is_board.ensures.board }

pub next_place-requires : goal.next_place-requires
next_place-requires c = searched (board_lent c.args.b) _ c.if-not-is_board.ensures.board

pub returns-in_err-next_rules : goal.returns-in_err-next_rules
returns-in_err-next_rules c =
    let r = c.in_err-next_rules.field-0.0 in
    let e : handed_of c.from_residual.result ≡ Refused (refusal_of r) = grind (arith, common_steps) in
    record { next = e ∙ next_refused (board_lent c.args.b) c.args.store.now c.args.s c.args.w c.if-not-is_board.ensures.board r c.in_err-next_rules.ensures.first }

pub returns-in_default : goal.returns-in_default
returns-in_default c =
    record { next = next_level_on (board_lent c.args.b) c.args.store.now c.args.s c.args.w c.if-not-is_board.ensures.board c.in_ok-next_rules.ensures.first c.in_default.ensures.next }

pub returns-then-b-at-eq0 : goal.returns-then-b-at-eq0
returns-then-b-at-eq0 c =
    rw c.from.ensures
    (record {
      next = next_removed (board_lent c.args.b) c.args.store.now c.args.s c.args.w c.if-not-is_board.ensures.board c.in_ok-next_rules.ensures.first
          _ c.in-Some.ensures.next c.in-Some.ensures.within c.if-b-at-eq0.true;
    })

pub returns : goal.returns
returns c =
    rw (c.from.ensures, c.path_at.ensures.path)
    (record {
      next = next_path (board_lent c.args.b) c.args.store.now c.args.s c.args.w c.if-not-is_board.ensures.board c.in_ok-next_rules.ensures.first
          _ c.in-Some.ensures.next c.in-Some.ensures.within c.if-b-at-eq0.false;
    })
