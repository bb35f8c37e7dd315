-- What remove answers is what the definitions say, rule by rule. Assumes nothing.
use Prim.Native.Nat.{ℕ, ◌+◌, ◌<◌}
use native.Mathlib.Omega.{arith}
use mathlib.Core.Path.{◌≡◌, refl, sym, ap, ◌∙◌}
use mathlib.Core.Bool.{Bool, true, false, not}
use mathlib.Core.List.{List, []}
use lib.ListN.{length, get_or, set}
use lib.Seq.{set-get_or}
use Rattle.answers.specs.declared.verdict.Verdict.{Verdict}
use Rattle.answers.specs.Numbers.{not_a_board}
use Rattle.answers.specs.declared.refusal.Refusal.{Refusal}
use Rattle.answers.specs.Verdicts.{refused_by, accepted_with, refusal_of}
use Rattle.answers.proofs.Results.{refused_numbered}
use Rattle.answers.proofs.Kept.{kept_old, kept_new}
use Rattle.board_record.specs.Sizes.{places}
use Rattle.board_record.specs.declared.record.Board.{Board}
use Rattle.board_record.specs.Record.{table_in, with_rows, tidy}
use Rattle.board_record.specs.Tops.{tops_of}
use Rattle.board_record.specs.Table.{Table, table_of, Entry, bearing, changed}
use Rattle.board_record.specs.Search.{place_of}
use Rattle.board_record.specs.Order.{order_of}
use Rattle.board_record.proofs.Search.{key_place_is}
use Rattle.board_rules.specs.Rules.{is_board, in_range, has_path, outcome_of}
use Rattle.board_rules.specs.Remove.{remove_rules, remove_verdict, removed, remove_answer}
use Rattle.board_rules.specs.OnRecord.{is_record, result_of, remove_on}
use Rattle.board_rules.proofs.Told.{board_not}
use Rattle.board_rules.proofs.OnRecord.{record_is, result_not, result_refused, result_accepted}
use Rattle.board_rules.proofs.Verdicts.{rule_passed, range_passed}

-- ---- remove
module _ (b : Table) (store : List ℕ) (k : ℕ) where
  pub remove_not_board : (r : Bool) (v : Verdict) → r ≡ is_board b (length store) → not r ≡ true → v ≡ refused_by not_a_board 0 → outcome_of v b ≡ remove_answer b store k
  unfolding remove_answer remove_verdict remove_rules
  remove_not_board r v e t q = rw (q, board_not b (length store) r e t)

  pub remove_verdict_lem : (path : Bool) (v : Verdict) → is_board b (length store) ≡ true → path ≡ has_path b k → v ≡ remove_rules true k path b.version → v ≡ remove_verdict b store k
  unfolding remove_verdict
  remove_verdict_lem path v e f q = rw (e, ← f) q

  pub remove_refused : (v : Verdict) → v ≡ remove_verdict b store k → (v.number ≡ 0 → ⊥) → outcome_of v b ≡ remove_answer b store k
  unfolding remove_answer
  remove_refused v e d = rw (← e, kept_old v.number b (removed b k) d)

  -- the key keeps its place
  same_keys : (at : ℕ) → at ≡ place_of b k → at < places → set b.keys at k ≡ b.keys
  same_keys at e l =
      let q : get_or b.keys at 0 ≡ k = rw (← e) at (key_place_is b k (omega arith)).key in
      ap (λ (x : ℕ). set b.keys at x) (sym q) ∙ set-get_or b.keys at 0

  removed_is : (at : ℕ)
      → at ≡ place_of b k
      → at < places
      → table_of b.keys (set b.versions at (b.version + 1)) (set b.lengths at 0) (b.version + 1) b.floor
      (set b.forms at 0)
      ≡ removed b k
  unfolding removed
  removed_is at e l = rw (← e, same_keys at e l)

  pub remove_accepted : (at : ℕ) (v : Verdict) → v ≡ remove_verdict b store k → v.number ≡ 0 → at ≡ place_of b k → at < places
      → outcome_of v (table_of b.keys (set b.versions at (b.version + 1)) (set b.lengths at 0) (b.version + 1) b.floor (set b.forms at 0)) ≡ remove_answer b store k
  unfolding remove_answer
  remove_accepted at v e z p l = rw (← e, kept_new v.number b (removed b k) z, removed_is at p l)

-- ---- the order that it leaves
pub remove_key : (k : ℕ) (path : Bool) (version : ℕ) (v : Verdict) → v ≡ remove_rules true k path version → v.number ≡ 0 → k ≡ 0 → ⊥
unfolding remove_rules
remove_key k path version v e z q =
    let h = rule_passed (not (in_range k)) 17 0 _ (ap (λ (y : Verdict). y.number) (sym e) ∙ z) in
    omega (arith, (range_passed k h.0).0)

pub remove_order : (b : Table) (k at : ℕ) (order : List ℕ) → at ≡ place_of b k → at < places → (k ≡ 0 → ⊥)
    → ((e : Entry) (f : ℕ) → (e.key ≡ 0 → ⊥) → b.version < e.version → order ≡ order_of (changed b at e f))
    → order ≡ order_of (table_of b.keys (set b.versions at (b.version + 1)) (set b.lengths at 0) (b.version + 1) b.floor (set b.forms at 0))
remove_order b k at order p l u f =
    f (bearing b k 0 0) b.floor u (omega arith)
    ∙ ap (λ (x : List ℕ). order_of (table_of x (set b.versions at (b.version + 1)) (set b.lengths at 0) (b.version + 1) b.floor (set b.forms at 0))) (same_keys b [] k at p l)

-- ---- on a record, from what the code knows of the record that it lends again
module _ (b l : Board) (same : l ≡ b) (store : List ℕ) (k : ℕ) where
  pub remove_none : false ≡ is_record l (length store) → result_of (refused_by not_a_board 0) b ≡ remove_on b store k
  remove_none e =
      result_not b (refused_by not_a_board 0) (remove_answer (table_in b) store k) (length store) false (rw same at e) refl refl
      (λ h. remove_not_board (table_in b) store k false _ (sym h) refl refl)

  module _ (e : true ≡ is_record l (length store)) where
    pub remove_board : (is_board (table_in b) (length store) ≡ true) × (tidy b ≡ true)
    remove_board = record_is b (length store) true (rw same at e) refl

    module _ (path : Bool) (f : path ≡ has_path (table_in l) k) where
      verdict_is : (v : Verdict) → v ≡ remove_rules true k path b.version → v ≡ remove_verdict (table_in b) store k
      verdict_is v q = remove_verdict_lem (table_in b) store k path v remove_board.0 (rw same at f) q

      pub remove_refusal : (r : Refusal) → refusal_of r ≡ remove_rules true k path b.version → result_of (refusal_of r) b ≡ remove_on b store k
      remove_refusal r q =
          result_refused b _ _ remove_board.1 (remove_refused (table_in b) store k _ (verdict_is _ q) (refused_numbered r)) (refused_numbered r)

      pub remove_done : (at : ℕ) (order tops : List ℕ) → accepted_with 0 ≡ remove_rules true k path b.version → at ≡ place_of (table_in l) k → at < places
          → ((e : Entry) (f : ℕ) → (e.key ≡ 0 → ⊥) → b.version < e.version → order ≡ order_of (changed (table_in b) at e f))
          → tops ≡ tops_of (set b.versions at (b.version + 1))
          → result_of (accepted_with 0) (with_rows (table_of b.keys (set b.versions at (b.version + 1)) (set b.lengths at 0) (b.version + 1) b.floor (set b.forms at 0)) order tops)
          ≡ remove_on b store k
      remove_done at order tops q p m g t =
          let p2 = rw same at p in
          result_accepted b _ _ _ _ _ remove_board.1 (remove_accepted (table_in b) store k at _ (verdict_is _ q) refl p2 m) refl
          (remove_order (table_in b) k at order p2 m (remove_key k path b.version _ q refl) g) t
