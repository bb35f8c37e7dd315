-- The calls on the record, from those on its table. 17 is answered exactly if the store is short, the table not proper, the order not its chain or a number of a group not its
-- largest version; else a refusal leaves the record as it was, and what an accepted call leaves is the table's record. All by cases on whether the rows are the table's (`no_record`).
-- Assumes nothing.
use Prim.Native.Nat.{ℕ, ◌<◌}
use mathlib.Core.Path.{◌≡◌, refl, sym, ap, ◌∙◌}
use mathlib.Core.Bool.{Bool, true, false, not, cond, ◌&&◌}
use mathlib.Core.List.{List}
use lib.ListN.{length, get_or}
use borrow.Author.Tests.{not-true, not-false}
use native.Mathlib.Omega.{arith}
use Rattle.answers.specs.declared.verdict.Verdict.{Verdict}
use Rattle.answers.specs.Numbers.{not_a_board}
use Rattle.answers.specs.Verdicts.{refused_by, kept}
use Rattle.answers.proofs.Kept.{kept_old, kept_new}
use Rattle.session.specs.declared.Session.{Session}
use Rattle.board_record.specs.declared.record.Board.{Board}
use Rattle.board_record.specs.Table.{Table}
use Rattle.board_record.specs.Sizes.{groups}
use Rattle.board_record.specs.Order.{Chained, order_of, in_order}
use Rattle.board_record.specs.Tops.{Top, tops_of, in_tops}
use Rattle.board_record.specs.Record.{table_in, with_rows, record_of, tidy}
use Rattle.octets.proofs.Said.{both_true}
use Rattle.board_record.proofs.Logic.{true≢false}
use Rattle.board_record.proofs.Tops.{top_of_lem, top_one, top_tops, tops_top}
use Rattle.board_order.proofs.Chains.{proper_apart, chained_in, in_chained}
use Rattle.board_rules.specs.Handed.{Handed, Refused}
use Rattle.board_rules.specs.Rules.{Outcome, is_board, outcome_of}
use Rattle.board_rules.specs.Report.{report_answer, report_store}
use Rattle.board_rules.specs.Remove.{remove_answer}
use Rattle.board_rules.specs.Compact.{compact_answer}
use Rattle.board_rules.specs.Body.{body_number}
use Rattle.board_rules.specs.Next.{next_answer, number_in}
use Rattle.board_rules.specs.Moved.{moved_answer}
use Rattle.board_rules.specs.OnRecord.{is_record, verdict_on, Result, result_of, result_on, report_on, report_store_on, remove_on, compact_on, body_number_on, next_on, moved_on}
use Rattle.board_rules.proofs.Verdicts.{IsBoard, board_whole, whole_board}
use Rattle.board_rules.proofs.Inside.{next_number}
use Rattle.board_rules.proofs.Exact.{NoBoard, report_17_then, report_17_only, remove_17_then, remove_17_only, body_17_then, body_17_only}
use Rattle.board_rules.proofs.Moves.{moved_17_then, moved_17_only}
use Rattle.board_rules.proofs.Exact.{compact_17_then, compact_17_only, next_17_then, next_17_only}

-- ---- a call that asked whether it has a record
pub record_is : (b : Board) (n : ℕ) (r : Bool) → r ≡ is_record b n → not r ≡ false → (is_board (table_in b) n ≡ true) × (tidy b ≡ true)
unfolding is_record
record_is b n r e t = both_true (is_board (table_in b) n) (tidy b) (sym e ∙ not-false r t)

-- its rows
pub tidy_order : (b : Board) → tidy b ≡ true → in_order (table_in b) b.order ≡ true
tidy_order b e = (both_true (in_order (table_in b) b.order) _ e).0

pub tidy_tops : (b : Board) → tidy b ≡ true → in_tops b.versions b.tops ≡ true
tidy_tops b e = (both_true (in_order (table_in b) b.order) _ e).1

-- by cases on the rows
no_record : (b : Board) (n : ℕ) (r : Bool) (P : Bool → Type 0) → r ≡ is_record b n → not r ≡ true → P false → (is_board (table_in b) n ≡ false → P true) → P (tidy b)
unfolding is_record
no_record b n r P e t f g = go (tidy b) refl (is_board (table_in b) n) refl (sym e ∙ not-true r t)
  where
    go : (x : Bool) → tidy b ≡ x → (y : Bool) → is_board (table_in b) n ≡ y → (is_board (table_in b) n && tidy b) ≡ false → P x
    go false p y q h = f
    go true p false q h = g q
    go true p true q h = let z : (is_board (table_in b) n && tidy b) ≡ true = rw (p, q) in absurd (true≢false (sym z ∙ h))

-- ---- report, remove and compact
module _ (b : Board) (v : Verdict) (o : Outcome) where
  pub result_not : (n : ℕ) (r : Bool) → r ≡ is_record b n → not r ≡ true → v ≡ refused_by not_a_board 0 → (is_board (table_in b) n ≡ false → outcome_of v (table_in b) ≡ o)
      → result_of v b ≡ result_on b o
  unfolding result_on
  result_not n r e t q f =
      no_record b n r (λ x. result_of v b ≡ result_of (cond x o.verdict (refused_by not_a_board 0)) (kept (cond x o.verdict (refused_by not_a_board 0)).number b (record_of o.table)))
      e t (ap (λ (w : Verdict). result_of w b) q)
      (λ h. let p : o.verdict ≡ refused_by not_a_board 0 = ap (λ (x : Outcome). x.verdict) (sym (f h)) ∙ q in rw (p, q))

  pub result_refused : tidy b ≡ true → outcome_of v (table_in b) ≡ o → (v.number ≡ 0 → ⊥) → result_of v b ≡ result_on b o
  unfolding result_on
  result_refused e q d = rw (← q, e, kept_old v.number b (record_of (table_in b)) d)

  pub result_accepted : (t : Table) (order tops : List ℕ) → tidy b ≡ true → outcome_of v t ≡ o → v.number ≡ 0 → order ≡ order_of t → tops ≡ tops_of t.versions
      → result_of v (with_rows t order tops) ≡ result_on b o
  unfolding result_on
  result_accepted t order tops e q z f g = rw (← q, e, kept_new v.number b (record_of t) z, f, g)

-- two answers that fit are equal
pub results_same : (a : Result) (v w : Verdict) (c d : Board) → result_of v c ≡ a → result_of w d ≡ a → (v ≡ w) × (c ≡ d)
results_same a v w c d p q = (ap (λ (x : Result). x.verdict) (p ∙ sym q), ap (λ (x : Result). x.board) (p ∙ sym q))

-- ---- the store
module _ (b : Board) (store : List ℕ) (k : ℕ) (octets : List ℕ) (session : Session) (pst : ℕ) where
  pub store_not : (n : ℕ) (r : Bool) → r ≡ is_record b n → not r ≡ true → (is_board (table_in b) n ≡ false → store ≡ report_store (table_in b) store k octets session pst)
      → store ≡ report_store_on b store k octets session pst
  unfolding report_store_on
  store_not n r e t f = no_record b n r (λ x. store ≡ cond x (report_store (table_in b) store k octets session pst) store) e t refl f

  pub store_on : (after : List ℕ) → tidy b ≡ true → after ≡ report_store (table_in b) store k octets session pst → after ≡ report_store_on b store k octets session pst
  unfolding report_store_on
  store_on after e q = rw e q

-- ---- body
module _ (b : Board) (store : List ℕ) (k : ℕ) where
  pub number_not : (n : ℕ) (r : Bool) (v : Verdict) → r ≡ is_record b n → not r ≡ true → v ≡ refused_by not_a_board 0 → (is_board (table_in b) n ≡ false → v ≡ body_number (table_in b) store k)
      → v ≡ body_number_on b store k
  unfolding body_number_on
  number_not n r v e t q f = no_record b n r (λ x. v ≡ cond x (body_number (table_in b) store k) (refused_by not_a_board 0)) e t q f

  pub number_on : (v : Verdict) → tidy b ≡ true → v ≡ body_number (table_in b) store k → v ≡ body_number_on b store k
  unfolding body_number_on
  number_on v e q = rw e q

  -- a refusal hands back nothing; an acceptance says that the order is sound
  pub number_order : (body_number_on b store k).number ≡ 0 → tidy b ≡ true
  unfolding body_number_on
  number_order z = go (tidy b) refl z
    where
      go : (x : Bool) → tidy b ≡ x → (cond x (body_number (table_in b) store k) (refused_by not_a_board 0)).number ≡ 0 → tidy b ≡ true
      go true e h = e
      go false e h = absurd (omega arith)

-- ---- next
module _ (b : Board) (store : List ℕ) (s w : ℕ) where
  pub next_not : (n : ℕ) (r : Bool) (h : Handed) → r ≡ is_record b n → not r ≡ true → h ≡ Refused (refused_by not_a_board 0) →
      (is_board (table_in b) n ≡ false → h ≡ next_answer (table_in b) store s w)
      → h ≡ next_on b store s w
  unfolding next_on
  next_not n r h e t q f = no_record b n r (λ x. h ≡ cond x (next_answer (table_in b) store s w) (Refused (refused_by not_a_board 0))) e t q f

  pub next_on_lem : (h : Handed) → tidy b ≡ true → h ≡ next_answer (table_in b) store s w → h ≡ next_on b store s w
  unfolding next_on
  next_on_lem h e q = rw e q

-- ---- moved
module _ (b : Board) (store : List ℕ) (from to v : ℕ) where
  pub moved_not : (n : ℕ) (r : Bool) (h : Verdict) → r ≡ is_record b n → not r ≡ true → h ≡ refused_by not_a_board 0 → (is_board (table_in b) n ≡ false → h ≡ moved_answer (table_in b) store from to v)
      → h ≡ moved_on b store from to v
  unfolding moved_on
  moved_not n r h e t q f = no_record b n r (λ x. h ≡ cond x (moved_answer (table_in b) store from to v) (refused_by not_a_board 0)) e t q f

  pub moved_on_lem : (h : Verdict) → tidy b ≡ true → h ≡ moved_answer (table_in b) store from to v → h ≡ moved_on b store from to v
  unfolding moved_on
  moved_on_lem h e q = rw e q

-- ---- 17 on a record: exactly if the store is shorter than 49,152 octets, or the table isn't proper, or the order isn't its chain, or a group's number isn't its largest version
pub record WholeOn (b : Board) (n : ℕ) : Type 0 where
  pub whole : IsBoard (table_in b) n
  pub chained : Chained (table_in b) b.order
  pub topped : (g : ℕ) → g < groups → Top b.versions g (get_or b.tops g 0)

abbrev pub NoRecord : Board → ℕ → Type 0
NoRecord b n = WholeOn b n → ⊥

module _ (b : Board) (n : ℕ) where
  tidy_whole : IsBoard (table_in b) n → tidy b ≡ true → WholeOn b n
  tidy_whole w e =
      record {
        whole = w;
        chained = in_chained (table_in b) b.order (proper_apart (table_in b) w.proper) (tidy_order b e);
        topped = λ g l. let z = tops_top b.versions b.tops (tidy_tops b e) g l in rw z (top_of_lem b.versions g);
      }

  whole_tidy : WholeOn b n → tidy b ≡ true
  whole_tidy w =
      rw (chained_in (table_in b) b.order w.chained, top_tops b.versions b.tops (λ g l. top_one b.versions g (get_or b.tops g 0) (w.topped g l)))

  pub record_whole : is_record b n ≡ true → WholeOn b n
  unfolding is_record
  record_whole e =
      let t = both_true (is_board (table_in b) n) (tidy b) e in
      tidy_whole (board_whole (table_in b) n t.0) t.1

  pub whole_record : WholeOn b n → is_record b n ≡ true
  unfolding is_record
  whole_record w = rw (whole_board (table_in b) n w.whole) (whole_tidy w)

  -- a verdict that is 17 exactly without a table
  then_17 : (v : Verdict) → (NoBoard (table_in b) n → v ≡ refused_by not_a_board 0) → NoRecord b n → verdict_on b v ≡ refused_by not_a_board 0
  then_17 v f g = go (tidy b) refl
    where
      go : (x : Bool) → tidy b ≡ x → cond x v (refused_by not_a_board 0) ≡ refused_by not_a_board 0
      go true e = f (λ w. g (tidy_whole w e))
      go false e = refl

  only_17 : (v : Verdict) → (v.number ≡ not_a_board → NoBoard (table_in b) n) → (verdict_on b v).number ≡ not_a_board → NoRecord b n
  only_17 v f e w = f (rw (whole_tidy w) at e) w.whole

module _ (b : Board) (store : List ℕ) where
  pub report_17_on : (k : ℕ) (octets : List ℕ) (session : Session) (pst : ℕ)
      → (NoRecord b (length store) → (report_on b store k octets session pst).verdict ≡ refused_by not_a_board 0)
      × ((report_on b store k octets session pst).verdict.number ≡ not_a_board → NoRecord b (length store))
  unfolding result_on
  report_17_on k octets session pst = (
    then_17 b (length store) _ (report_17_then (table_in b) store k octets session pst),
    only_17 b (length store) (report_answer (table_in b) store k octets session pst).verdict (report_17_only (table_in b) store k octets session pst),
  )

  pub remove_17_on : (k : ℕ) → (NoRecord b (length store) → (remove_on b store k).verdict ≡ refused_by not_a_board 0)
      × ((remove_on b store k).verdict.number ≡ not_a_board → NoRecord b (length store))
  unfolding result_on
  remove_17_on k = (
    then_17 b (length store) _ (remove_17_then (table_in b) store k),
    only_17 b (length store) (remove_answer (table_in b) store k).verdict (remove_17_only (table_in b) store k),
  )

  pub compact_17_on : (m : ℕ) → (NoRecord b (length store) → (compact_on b store m).verdict ≡ refused_by not_a_board 0)
      × ((compact_on b store m).verdict.number ≡ not_a_board → NoRecord b (length store))
  unfolding result_on
  compact_17_on m = (
    then_17 b (length store) _ (compact_17_then (table_in b) store m),
    only_17 b (length store) (compact_answer (table_in b) store m).verdict (compact_17_only (table_in b) store m),
  )

  pub body_17_on : (k : ℕ) → (NoRecord b (length store) → body_number_on b store k ≡ refused_by not_a_board 0)
      × ((body_number_on b store k).number ≡ not_a_board → NoRecord b (length store))
  unfolding body_number_on
  body_17_on k = (
    then_17 b (length store) _ (body_17_then (table_in b) store k),
    only_17 b (length store) (body_number (table_in b) store k) (body_17_only (table_in b) store k),
  )

  pub next_17_on : (s w : ℕ) → (NoRecord b (length store) → next_on b store s w ≡ Refused (refused_by not_a_board 0))
      × (number_in (next_on b store s w) ≡ not_a_board → NoRecord b (length store))
  unfolding next_on
  next_17_on s w = (λ g. then_on g (tidy b) refl, λ e h. only_on e h)
    where
      then_on : NoRecord b (length store) → (x : Bool) → tidy b ≡ x → cond x (next_answer (table_in b) store s w) (Refused (refused_by not_a_board 0)) ≡ Refused (refused_by not_a_board 0)
      then_on g true e = next_17_then (table_in b) store s w (λ h. g (tidy_whole b (length store) h e))
      then_on g false e = refl

      only_on : number_in (next_on b store s w) ≡ not_a_board → WholeOn b (length store) → ⊥
      only_on e h =
          let z : number_in (next_answer (table_in b) store s w) ≡ not_a_board = rw (whole_tidy b (length store) h) at e in
          next_17_only (table_in b) store s w (sym (next_number (table_in b) store s w) ∙ z) h.whole

  pub moved_17_on : (from to v : ℕ) → (NoRecord b (length store) → moved_on b store from to v ≡ refused_by not_a_board 0)
      × ((moved_on b store from to v).number ≡ not_a_board → NoRecord b (length store))
  unfolding moved_on
  moved_17_on from to v = (
    then_17 b (length store) _ (moved_17_then (table_in b) store from to v),
    only_17 b (length store) (moved_answer (table_in b) store from to v) (moved_17_only (table_in b) store from to v),
  )
