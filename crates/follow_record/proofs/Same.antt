-- A call on the record of a proper table answers as on the table, and leaves the record of what it leaves there. So by the calls before it the record is always that of the
-- table, which stays proper, and its rows are sound. Assumes nothing.
use Prim.Native.Nat.{ℕ}
use mathlib.Core.Path.{◌≡◌, refl, sym, ap, ◌∙◌}
use mathlib.Core.Bool.{Bool, true, false, cond}
use mathlib.Core.List.{List, [], ◌∷◌}
use mathlib.Core.Logic.{◌⊎◌, inl, ⊎_elim}
use native.Mathlib.Omega.{arith}
use Prim.Native.Nat.{◌+◌, ◌*◌, ◌<◌}
use lib.ListN.{get_or, replicate, length-replicate, get_or-replicate}
use Rattle.session.specs.declared.Session.{Session}
use Rattle.session.specs.declared.Sessions.{Sessions}
use Rattle.session.specs.Sessions.{session_under}
use Rattle.board_record.specs.declared.record.Board.{Board}
use Rattle.board_record.specs.Sizes.{places}
use Rattle.board_record.specs.Table.{Table, empty_table, ListsWhole}
use Rattle.board_record.specs.Proper.{Proper}
use Rattle.board_record.specs.Order.{place_on, Chained, order_of}
use Rattle.board_record.specs.Tops.{tops_of}
use Rattle.board_record.specs.Record.{with_rows, record_of, tidy, empty_board}
use Rattle.board_record.proofs.Logic.{same?}
use Rattle.board_record.proofs.Lists.{zeros}
use Rattle.board_record.proofs.Proper.{empty_sized, empty_proper}
use Rattle.board_record.proofs.Tops.{top_one, tops_are, tops_in}
use Rattle.board_order.proofs.Names.{named_none}
use Rattle.board_order.proofs.Chains.{proper_apart, in_order_lem, order_is}
use Rattle.answers.specs.Numbers.{not_usable}
use Rattle.answers.specs.Verdicts.{refused_by}
use Rattle.answers.proofs.Kept.{kept_old, kept_new}
use Rattle.route_limit.specs.FirstOff.{session_for}
use Rattle.route_call.specs.Called.{rule28}
use Rattle.board_report_call.specs.Reported.{report_for, report_store_for, report_for_on, report_store_for_on}
use Rattle.board_rules.specs.Rules.{Outcome, outcome_of}
use Rattle.board_rules.specs.Report.{report_answer}
use Rattle.board_rules.specs.Remove.{remove_answer}
use Rattle.board_rules.specs.Compact.{compact_answer}
use Rattle.board_rules.specs.Body.{body_number, body_of, body_form}
use Rattle.board_rules.specs.Next.{next_answer}
use Rattle.board_rules.specs.Moved.{moved_answer}
use Rattle.board_rules.specs.OnRecord.{Result, result_of, result_on, report_on, report_store_on, remove_on, compact_on, body_number_on, body_on, body_form_on, next_on, moved_on}
use Rattle.board_rules.proofs.Keeps.{report_proper, remove_proper, compact_proper, report_refused_keeps, remove_refused_keeps, compact_refused_keeps}
use Rattle.board_rules.proofs.Stores.{report_sized, remove_sized, compact_sized}
use Rattle.follow_record.specs.Calls.{Call, report, remove, compact, body, next, moved, fresh, verdict, handed}
use Rattle.follow_record.specs.Calls.{OnTable, reply_of, left_of, replies_of, OnRecord, reply_on, left_on, replies_on, AnswersAsTheTable}

-- ---- the empty record is that of the empty table
no_places : (i : ℕ) → i < places → place_on (replicate 128 0) i ≡ places
no_places i l = named_none (get_or {A = ℕ} (replicate 128 0) i 0) (zeros 128 i)

empty_chained : Chained empty_table (replicate 128 0)
empty_chained =
    record {
      used = λ i l h. absurd (omega (arith, no_places i l));
      all = λ p l u. absurd (u (zeros 128 p));
      rises = λ i j k l h. absurd (omega (arith, no_places j l));
      rest = λ i l h. zeros 128 i;
    }

empty_tops : replicate {A = ℕ} 16 0 ≡ tops_of (replicate 128 0)
empty_tops =
    tops_are (replicate 128 0) (replicate 16 0) (length-replicate {A = ℕ} 16 0)
    (λ g l. top_one (replicate 128 0) g (get_or {A = ℕ} (replicate 16 0) g 0)
    (record { most = λ j k. omega (arith, zeros 128 (8 * g + j)); is = inl (get_or-replicate 16 g 0 0 l) }))

pub empty_record : empty_board ≡ record_of empty_table
empty_record =
    ap (λ (o : List ℕ). with_rows empty_table o (replicate 16 0)) (order_is empty_table (replicate 128 0) (length-replicate {A = ℕ} 128 0) empty_chained)
    ∙ ap (with_rows empty_table (order_of empty_table)) empty_tops

-- ---- one call
module _ (t : Table) (p : Proper t) where
  pub sound : tidy (record_of t) ≡ true
  sound = rw (in_order_lem t (proper_apart t p), tops_in t.versions)

  result_is : (o : Outcome) → ((o.verdict.number ≡ 0 → ⊥) → o.table ≡ t) → result_on (record_of t) o ≡ result_of o.verdict (record_of o.table)
  unfolding result_on
  result_is o f =
      rw sound
      (⊎_elim (λ z. ap (result_of o.verdict) (kept_new o.verdict.number (record_of t) (record_of o.table) z))
      (λ d. ap (result_of o.verdict) (kept_old o.verdict.number (record_of t) (record_of o.table) d ∙ ap record_of (sym (f d)))) (same? o.verdict.number 0))

  report_is : (store : List ℕ) (k : ℕ) (octets : List ℕ) (session : Session) (pst : ℕ) →
      let o = report_answer t store k octets session pst in report_on (record_of t) store k octets session pst ≡ result_of o.verdict (record_of o.table)
  report_is store k octets session pst = result_is (report_answer t store k octets session pst) (report_refused_keeps t store k octets session pst)

  pub report_for_is : (store : List ℕ) (k : ℕ) (octets : List ℕ) (sessions : Sessions) (pst : ℕ) (addresses : List ℕ) →
      let o = report_for t store k octets sessions pst addresses in report_for_on (record_of t) store k octets sessions pst addresses ≡ result_of o.verdict (record_of o.table)
  unfolding report_for report_for_on
  report_for_is store k octets sessions pst addresses = go (rule28 addresses)
    where
      go : (b : Bool) →
          let under = session_for octets true (session_under sessions pst) addresses in
          let o = cond b (outcome_of (refused_by not_usable 0) t) (report_answer t store k octets under pst) in
          cond b (result_of (refused_by not_usable 0) (record_of t)) (report_on (record_of t) store k octets under pst) ≡ result_of o.verdict (record_of o.table)
      go true = refl
      go false = report_is store k octets (session_for octets true (session_under sessions pst) addresses) pst

  pub store_for_is : (store : List ℕ) (k : ℕ) (octets : List ℕ) (sessions : Sessions) (pst : ℕ) (addresses : List ℕ)
      → report_store_for_on (record_of t) store k octets sessions pst addresses ≡ report_store_for t store k octets sessions pst addresses
  unfolding report_store_on report_store_for report_store_for_on
  store_for_is store k octets sessions pst addresses = rw sound

  pub remove_is : (store : List ℕ) (k : ℕ) → let o = remove_answer t store k in remove_on (record_of t) store k ≡ result_of o.verdict (record_of o.table)
  remove_is store k = result_is (remove_answer t store k) (remove_refused_keeps t store k)

  pub compact_is : (store : List ℕ) (c : ℕ) → let o = compact_answer t store c in compact_on (record_of t) store c ≡ result_of o.verdict (record_of o.table)
  compact_is store c = result_is (compact_answer t store c) (compact_refused_keeps t store c)

  pub number_is : (store : List ℕ) (k : ℕ) → body_number_on (record_of t) store k ≡ body_number t store k
  unfolding body_number_on
  number_is store k = rw sound

  pub body_is : (store : List ℕ) (k : ℕ) → body_on (record_of t) store k ≡ body_of t store k
  unfolding body_on
  body_is store k = rw sound

  pub form_is : (store : List ℕ) (k : ℕ) → body_form_on (record_of t) store k ≡ body_form t store k
  unfolding body_form_on
  form_is store k = rw sound

  pub next_is : (store : List ℕ) (s w : ℕ) → next_on (record_of t) store s w ≡ next_answer t store s w
  unfolding next_on
  next_is store s w = rw sound

  pub moved_is : (store : List ℕ) (from to v : ℕ) → moved_on (record_of t) store from to v ≡ moved_answer t store from to v
  unfolding moved_on
  moved_is store from to v = rw sound

-- ---- what a report leaves
pub for_proper : (t : Table) → ListsWhole t → Proper t → (store : List ℕ) (k : ℕ) (octets : List ℕ) (sessions : Sessions) (pst : ℕ) (addresses : List ℕ) →
    let o = report_for t store k octets sessions pst addresses in ListsWhole o.table × Proper o.table
unfolding report_for
for_proper t s p store k octets sessions pst addresses = go (rule28 addresses)
  where
    go : (b : Bool) →
        let o = cond b (outcome_of (refused_by not_usable 0) t) (report_answer t store k octets (session_for octets true (session_under sessions pst) addresses) pst) in
        ListsWhole o.table × Proper o.table
    go true = (s, p)
    go false =
        let under = session_for octets true (session_under sessions pst) addresses in
        (report_sized t store k octets under pst s, report_proper t store k octets under pst s p)

-- ---- call for call
abbrev recorded : OnTable → OnRecord
recorded x = record { board = record_of x.table; store = x.store }

reply_same : (x : OnTable) → Proper x.table → (c : Call) → reply_on (recorded x) c ≡ reply_of x c
unfolding reply_on reply_of
reply_same x p (report k octets sessions pst addresses) = ap (λ (a : Result). verdict a.verdict) (report_for_is x.table p x.store k octets sessions pst addresses)
reply_same x p (remove k) = ap (λ (a : Result). verdict a.verdict) (remove_is x.table p x.store k)
reply_same x p (compact c) = ap (λ (a : Result). verdict a.verdict) (compact_is x.table p x.store c)
reply_same x p (body k) = rw (number_is x.table p x.store k, form_is x.table p x.store k, body_is x.table p x.store k)
reply_same x p (next s w) = ap handed (next_is x.table p x.store s w)
reply_same x p (moved a b v) = ap verdict (moved_is x.table p x.store a b v)
reply_same x p fresh = refl

left_same : (x : OnTable) → Proper x.table → (c : Call) → left_on (recorded x) c ≡ recorded (left_of x c)
unfolding left_on left_of
left_same x p (report k octets sessions pst addresses) =
    rw (report_for_is x.table p x.store k octets sessions pst addresses, store_for_is x.table p x.store k octets sessions pst addresses)
left_same x p (remove k) = ap (λ (a : Result). record { board = a.board; store = x.store }) (remove_is x.table p x.store k)
left_same x p (compact c) = ap (λ (a : Result). record { board = a.board; store = x.store }) (compact_is x.table p x.store c)
left_same x p (body k) = refl
left_same x p (next s w) = refl
left_same x p (moved a b v) = refl
left_same x p fresh = refl

left_proper : (x : OnTable) → ListsWhole x.table → Proper x.table → (c : Call) → ListsWhole (left_of x c).table × Proper (left_of x c).table
unfolding left_of
left_proper x s p (report k octets sessions pst addresses) = for_proper x.table s p x.store k octets sessions pst addresses
left_proper x s p (remove k) = (remove_sized x.table x.store k s, remove_proper x.table x.store k s p)
left_proper x s p (compact c) = (compact_sized x.table x.store c s, compact_proper x.table x.store c p)
left_proper x s p (body k) = (s, p)
left_proper x s p (next a w) = (s, p)
left_proper x s p (moved a b v) = (s, p)
left_proper x s p fresh = (s, p)

pub replies_same : (x : OnTable) → ListsWhole x.table → Proper x.table → (calls : List Call) → replies_on (recorded x) calls ≡ replies_of x calls
unfolding replies_on replies_of
replies_same x s p [] = refl
replies_same x s p (c ∷ calls) =
    let g = left_proper x s p c in
    rw (reply_same x p c, left_same x p c, replies_same (left_of x c) g.0 g.1 calls)

pub answers_as_the_table : AnswersAsTheTable
answers_as_the_table store calls =
    ap (λ (b : Board). replies_on (record { board = b; store = store }) calls) empty_record
    ∙ replies_same (record { table = empty_table; store = store }) empty_sized empty_proper calls
