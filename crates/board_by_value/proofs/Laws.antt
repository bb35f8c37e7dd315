-- The record that a call hands back, from what the call on its lent parts leaves in them: a refusal leaves all of it. Assumes nothing.
use Prim.Native.Nat.{ℕ}
use mathlib.Core.Path.{◌≡◌, sym, ap, ◌∙◌}
use mathlib.Core.List.{List}
use Rattle.std.proofs.Common.{Err}
use Rattle.answers.specs.declared.verdict.Verdict.{Verdict}
use Rattle.answers.specs.declared.refusal.Refusal.{Refusal}
use Rattle.answers.specs.Verdicts.{refusal_of, accepted_with}
use Rattle.answers.proofs.Kept.{kept_old}
use Rattle.answers.proofs.Results.{refused_numbered}
use Rattle.board_record.specs.declared.record.Board.{Board}
use Rattle.board_record.specs.Record.{table_in, record_of}
use Rattle.board_rules.specs.Rules.{Outcome}
use Rattle.board_rules.specs.Remove.{remove_answer}
use Rattle.board_rules.specs.Compact.{compact_answer}
use Rattle.board_rules.specs.OnRecord as lent
use Rattle.board_by_value.specs.Back.{Answer, back_of}
use Rattle.board_by_value.specs.ByValue.{answer_of, remove_by_value, compact_by_value}

pub refused_keeps : (b : Board) (o : Outcome) (e : Refusal) → refusal_of e ≡ (lent.result_on b o).verdict → (lent.result_on b o).board ≡ b
unfolding lent.result_on
refused_keeps b o e q =
    kept_old (lent.verdict_on b o.verdict).number b (record_of o.table) (λ z. refused_numbered e (ap (λ (v : Verdict). v.number) q ∙ z))

-- a call's answer on a refusal, whatever its lent parts hold
pub kept_back : (b d : Board) (o : Outcome) (e : Refusal) → lent.result_of (refusal_of e) d ≡ lent.result_on b o
    → back_of b (Err e) ≡ answer_of (lent.result_on b o)
kept_back b d o e q =
    let v : refusal_of e ≡ (lent.result_on b o).verdict = ap (λ (x : lent.Result). x.verdict) q in
    let w : b ≡ (lent.result_on b o).board = sym (refused_keeps b o e v) in
    λ i. record { verdict = v i; board = w i }

module _ (b : Board) (store : List ℕ) (d : Board) where
  pub remove_back : (k : ℕ) → lent.result_of (accepted_with 0) d ≡ lent.remove_on b store k → answer_of (lent.result_of (accepted_with 0) d) ≡ remove_by_value b store k
  unfolding remove_by_value
  remove_back k e = ap answer_of e

  pub remove_kept : (k : ℕ) (e : Refusal) → lent.result_of (refusal_of e) d ≡ lent.remove_on b store k → back_of b (Err e) ≡ remove_by_value b store k
  unfolding remove_by_value
  remove_kept k e q = kept_back b d (remove_answer (table_in b) store k) e q

  pub compact_back : (m : ℕ) → lent.result_of (accepted_with 0) d ≡ lent.compact_on b store m → answer_of (lent.result_of (accepted_with 0) d) ≡ compact_by_value b store m
  unfolding compact_by_value
  compact_back m e = ap answer_of e

  pub compact_kept : (m : ℕ) (e : Refusal) → lent.result_of (refusal_of e) d ≡ lent.compact_on b store m → back_of b (Err e) ≡ compact_by_value b store m
  unfolding compact_by_value
  compact_kept m e q = kept_back b d (compact_answer (table_in b) store m) e q
