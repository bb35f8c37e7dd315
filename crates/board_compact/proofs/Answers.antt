-- What compact answers is what the definitions say, rule by rule. Assumes nothing.
use Prim.Native.Nat.{ℕ, ◌<◌}
use native.Mathlib.Omega.{arith}
use mathlib.Core.Path.{◌≡◌, refl, sym, ◌∙◌}
use mathlib.Core.Bool.{Bool, true, false, not}
use mathlib.Core.List.{List}
use lib.ListN.{length}
use Rattle.answers.specs.declared.verdict.Verdict.{Verdict}
use Rattle.answers.specs.Numbers.{not_a_board}
use Rattle.answers.specs.declared.refusal.Refusal.{Refusal}
use Rattle.answers.specs.Verdicts.{refused_by, accepted_with, refusal_of}
use Rattle.answers.proofs.Results.{refused_numbered}
use Rattle.answers.proofs.Kept.{kept_old, kept_new}
use Rattle.board_record.specs.Sizes.{places}
use Rattle.board_record.specs.declared.record.Board.{Board}
use Rattle.board_record.specs.Record.{table_in, with_rows}
use Rattle.board_record.specs.Tops.{tops_of, in_tops}
use Rattle.board_record.specs.Table.{Table, table_of, version_at, Used}
use Rattle.board_record.specs.Proper.{proper_b}
use Rattle.board_record.specs.Order.{place_on, Chained, order_of, in_order}
use Rattle.board_record.proofs.Proper.{proper_is}
use Rattle.board_rules.specs.Rules.{is_board, outcome_of}
use Rattle.board_order_drops.specs.Loose.{Loose}
use Rattle.board_order.proofs.Chains.{proper_apart, chained_in, in_chained}
use Rattle.board_rules.specs.Compact.{compact_rules, compact_verdict, dropped, compacted, compact_answer}
use Rattle.board_rules.proofs.Keeps.{compacted_key, compacted_version}
use Rattle.board_rules.specs.OnRecord.{is_record, result_of, compact_on}
use Rattle.board_rules.proofs.Told.{board_not, board_is, board_proper}
use Rattle.board_rules.proofs.OnRecord.{record_is, tidy_order, tidy_tops, result_not, result_refused, result_accepted}

-- ---- compact
module _ (b : Table) (store : List ℕ) (m : ℕ) where
  pub compact_not_board : (r : Bool) (v : Verdict) → r ≡ is_board b (length store) → not r ≡ true → v ≡ refused_by not_a_board 0 → outcome_of v b ≡ compact_answer b store m
  unfolding compact_answer compact_verdict compact_rules
  compact_not_board r v e t q = rw (q, board_not b (length store) r e t)

  pub compact_verdict_lem : (r : Bool) (v : Verdict) → r ≡ is_board b (length store) → not r ≡ false → v ≡ compact_rules true m b.version → v ≡ compact_verdict b store m
  unfolding compact_verdict
  compact_verdict_lem r v e t q = rw (board_is b (length store) r e t) q

  pub compact_refused : (v : Verdict) → v ≡ compact_verdict b store m → (v.number ≡ 0 → ⊥) → outcome_of v b ≡ compact_answer b store m
  unfolding compact_answer
  compact_refused v e d = rw (← e, kept_old v.number b (compacted b m) d)

  pub compact_accepted : (v : Verdict) (d : Table) → v ≡ compact_verdict b store m → v.number ≡ 0 → d ≡ compacted b m → outcome_of v d ≡ compact_answer b store m
  unfolding compact_answer
  compact_accepted v d e z q = rw (← e, kept_new v.number b (compacted b m) z, q)

-- ---- the order that it leaves
module _ (b : Table) (m : ℕ) where
  -- a place that a compaction leaves used is as it was
  left_used : (p : ℕ) → p < places → Used (compacted b m) p → Used b p × (version_at (compacted b m) p ≡ version_at b p)
  left_used p l u = go (dropped b m p) refl
    where
      go : (x : Bool) → dropped b m p ≡ x → Used b p × (version_at (compacted b m) p ≡ version_at b p)
      go true e = absurd (u (compacted_key b m p l ∙ rw e))
      go false e = (λ z. u (compacted_key b m p l ∙ rw e z), compacted_version b m p l ∙ rw e)

  pub compact_loose : (order : List ℕ) → Chained b order → Loose (compacted b m) order
  compact_loose order x =
      record {
        all = λ p l u. x.all p l (left_used p l u).0;
        rises = λ i j k l g h u v.
            omega (arith, (x.rises i j k l h).1, (left_used (place_on order i) g u).1, (left_used (place_on order j) h v).1);
      }

  pub compact_loose_at : (order : List ℕ) (d : Table) → proper_b b ≡ true → in_order b order ≡ true → d ≡ compacted b m → Loose d order
  compact_loose_at order d p o e = rw e (compact_loose order (in_chained b order (proper_apart b (proper_is b p)) o))

-- where nothing was dropped, the order is that of the table still
pub compact_still : (b : Table) (order xs ys : List ℕ) (f : ℕ) → proper_b b ≡ true → in_order b order ≡ true → xs ≡ b.keys → ys ≡ b.versions
    → in_order (table_of xs ys b.lengths b.version f b.forms) order ≡ true
compact_still b order xs ys f p o e g =
    let x = in_chained b order (proper_apart b (proper_is b p)) o in
    rw (e, g) (chained_in (table_of b.keys b.versions b.lengths b.version f b.forms) order (record { used = x.used; all = x.all; rises = x.rises; rest = x.rest }))

-- ---- on a record, from what the code knows of the record that it lends again
module _ (b l : Board) (same : l ≡ b) (store : List ℕ) (m : ℕ) where
  pub compact_none : false ≡ is_record l (length store) → result_of (refused_by not_a_board 0) b ≡ compact_on b store m
  compact_none e =
      result_not b (refused_by not_a_board 0) (compact_answer (table_in b) store m) (length store) false (rw same at e) refl refl
      (λ h. compact_not_board (table_in b) store m false _ (sym h) refl refl)

  module _ (e : true ≡ is_record l (length store)) where
    pub compact_board : (proper_b (table_in b) ≡ true) × (in_order (table_in b) b.order ≡ true) × (in_tops b.versions b.tops ≡ true)
    compact_board =
        let h = record_is b (length store) true (rw same at e) refl in
        (board_proper (table_in b) (length store) h.0, tidy_order b h.1, tidy_tops b h.1)

    verdict_is : (v : Verdict) → v ≡ compact_rules true m b.version → v ≡ compact_verdict (table_in b) store m
    verdict_is v q = compact_verdict_lem (table_in b) store m true v (sym (record_is b (length store) true (rw same at e) refl).0) refl q

    pub compact_refusal : (r : Refusal) → refusal_of r ≡ compact_rules true m b.version → result_of (refusal_of r) b ≡ compact_on b store m
    compact_refusal r q =
        result_refused b _ _ (record_is b (length store) true (rw same at e) refl).1
        (compact_refused (table_in b) store m _ (verdict_is _ q) (refused_numbered r)) (refused_numbered r)

    pub compact_done : (d : Table) (order tops : List ℕ) → accepted_with 0 ≡ compact_rules true m b.version → d ≡ compacted (table_in b) m → order ≡ order_of d → tops ≡ tops_of d.versions
        → result_of (accepted_with 0) (with_rows d order tops) ≡ compact_on b store m
    compact_done d order tops q p f t =
        result_accepted b _ _ d order tops (record_is b (length store) true (rw same at e) refl).1
        (compact_accepted (table_in b) store m _ d (verdict_is _ q) refl p) refl f t
