-- No follower of a record is fooled. A record that 17 passes is that of its table (`ready_record`), so the run on it is the run on the table, act by act, with the record of its table (`same`),
-- and what was shown of that run carries over. Assumes nothing.
use Prim.Native.Nat.{ℕ, ◌≤◌}
use mathlib.Core.Path.{◌≡◌, refl, sym, ap, ◌∙◌, subst}
use mathlib.Core.Bool.{true}
use mathlib.Core.List.{List, [], ◌∷◌}
use lib.ListN.{length, length-replicate}
use Rattle.board_record.specs.declared.record.Board.{Board}
use Rattle.board_record.specs.Sizes.{store_size}
use Rattle.board_record.specs.Table.{empty_table, ListsWhole}
use Rattle.board_record.specs.Proper.{Proper}
use Rattle.board_record.specs.Order.{order_of}
use Rattle.board_record.specs.Record.{table_in, with_rows, record_of, tidy, empty_board}
use Rattle.board_record.proofs.Tops.{tops_are, tops_top}
use Rattle.board_record.proofs.Proper.{empty_sized, empty_proper}
use Rattle.answers.specs.declared.verdict.Verdict.{Verdict}
use Rattle.board_order.proofs.Chains.{in_order_is}
use Rattle.board_rules.specs.Rules.{is_board}
use Rattle.board_rules.specs.OnRecord.{is_record, Result, body_number_on, body_on, body_form_on, moved_on}
use Rattle.board_rules.proofs.Verdicts.{board_whole, whole_board}
use Rattle.board_rules.proofs.OnRecord.{record_is, tidy_order, tidy_tops}
use Rattle.board_rules.proofs.Keeps.{remove_proper, compact_proper}
use Rattle.board_rules.proofs.Stores.{remove_sized, compact_sized}
use Rattle.follow.specs.Story.{clears, beginning, begun, did, compacted_to, version}
use Rattle.follow.specs.Follower.{Follower}
use Rattle.follow.specs.Heard.{Heard, heard_in, does, cut_off}
use Rattle.follow.specs.Run.{World, Act, report, remove, compact, begin, ask, ask_cut, told, answer_to, step, run, start, all_fresh}
use Rattle.follow.specs.Floor.{floor_of}
use Rattle.follow.specs.Promise.{Answered, KeptBy, BodyGiven, Ready}
use Rattle.follow.specs.Moved.{MovedSaid}
use Rattle.follow.proofs.Theorem.{no_follower_is_fooled, fresh_kept, numbers_are_the_storys}
use Rattle.follow.proofs.Bodies.{bodies_are_those_held}
use Rattle.follow.proofs.Accepts.{verdicts_are_the_storys}
use Rattle.follow.proofs.Moved.{moved_is_the_storys}
use Rattle.follow_record.specs.Followers.{WorldOn, answer_to_on, following_on, step_on, run_on, ReadyOn, start_on}
use Rattle.follow_record.specs.Followers.{NoFollowerOfARecordIsFooled, BodiesOfARecordAreThoseHeld, VerdictsOfRecord, VerdictsOfARecordAreTheStorys, NumbersOfARecordAreTheStorys}
use Rattle.follow_record.specs.Moved.{MovedOnARecordIsTheStorys}
use Rattle.follow_record.proofs.Same.{empty_record, sound, report_for_is, store_for_is, for_proper, remove_is, compact_is, number_is, body_is, form_is, next_is, moved_is}

abbrev recorded_world : World → WorldOn
recorded_world x = record { board = record_of x.table; store = x.store; story = x.story; followers = x.followers }

answer_same : (x : World) → Proper x.table → (n : ℕ) → answer_to_on (recorded_world x) n ≡ answer_to x n
answer_same x p n = ap (heard_in x.store) (next_is x.table p x.store (x.followers n).s (x.followers n).w)

step_same : (x : World) → Proper x.table → (a : Act) → step_on (recorded_world x) a ≡ recorded_world (step x a)
unfolding step_on step
step_same x p (report k octets sessions pst addresses) =
    rw (report_for_is x.table p x.store k octets sessions pst addresses, store_for_is x.table p x.store k octets sessions pst addresses)
step_same x p (remove k) =
    ap (λ (a : Result). record { board = a.board; store = x.store; story = told a.verdict (did (clears k) x.story) x.story; followers = x.followers })
    (remove_is x.table p x.store k)
step_same x p (compact c) =
    ap (λ (a : Result). record { board = a.board; store = x.store; story = told a.verdict (compacted_to c x.story) x.story; followers = x.followers })
    (compact_is x.table p x.store c)
step_same x p (begin n) = refl
step_same x p (ask n updates) = ap (λ (h : Heard). following_on (recorded_world x) n (does (x.followers n) updates h)) (answer_same x p n)
step_same x p (ask_cut n) = ap (λ (h : Heard). following_on (recorded_world x) n (cut_off (x.followers n) h)) (answer_same x p n)

step_proper : (x : World) → ListsWhole x.table → Proper x.table → (a : Act) → ListsWhole (step x a).table × Proper (step x a).table
unfolding step
step_proper x s p (report k octets sessions pst addresses) = for_proper x.table s p x.store k octets sessions pst addresses
step_proper x s p (remove k) = (remove_sized x.table x.store k s, remove_proper x.table x.store k s p)
step_proper x s p (compact c) = (compact_sized x.table x.store c s, compact_proper x.table x.store c p)
step_proper x s p (begin n) = (s, p)
step_proper x s p (ask n updates) = (s, p)
step_proper x s p (ask_cut n) = (s, p)

pub run_same : (x : World) → ListsWhole x.table → Proper x.table → (acts : List Act) → run_on (recorded_world x) acts ≡ recorded_world (run x acts)
unfolding run_on run
run_same x s p [] = refl
run_same x s p (a ∷ acts) =
    let g = step_proper x s p a in
    ap (λ (y : WorldOn). run_on y acts) (step_same x p a) ∙ run_same (step x a) g.0 g.1 acts

run_proper : (x : World) → ListsWhole x.table → Proper x.table → (acts : List Act) → Proper (run x acts).table
unfolding run
run_proper x s p [] = p
run_proper x s p (a ∷ acts) = let g = step_proper x s p a in run_proper (step x a) g.0 g.1 acts

-- ---- a record that 17 passes is that of its table
ready_whole : (b : Board) (store : List ℕ) → ReadyOn b store → (is_board (table_in b) (length store) ≡ true) × (tidy b ≡ true)
ready_whole b store r = record_is b (length store) true (sym r.board) refl

pub ready_table : (b : Board) (store : List ℕ) → ReadyOn b store → Ready (table_in b) store
ready_table b store r =
    let w = board_whole (table_in b) (length store) (ready_whole b store r).0 in
    record { sized = r.sized; proper = w.proper; enough = w.store }

ready_record : (b : Board) (store : List ℕ) → ReadyOn b store → b ≡ record_of (table_in b)
ready_record b store r =
    let t = (ready_whole b store r).1 in
    ap (λ (o : List ℕ). with_rows (table_in b) o b.tops) (in_order_is (table_in b) b.order r.order (tidy_order b t))
    ∙ ap (with_rows (table_in b) (order_of (table_in b))) (tops_are b.versions b.tops r.tops (tops_top b.versions b.tops (tidy_tops b t)))

-- the empty record is ready
pub empty_ready : (store : List ℕ) → store_size ≤ length store → ReadyOn empty_board store
unfolding is_record
empty_ready store e =
    record {
      sized = empty_sized;
      order = length-replicate {A = ℕ} 128 0;
      tops = length-replicate {A = ℕ} 16 0;
      board = rw (whole_board empty_table (length store) (record { store = e; proper = empty_proper })) (ap (λ (c : Board). tidy c) empty_record ∙ sound empty_table empty_proper);
    }

-- fresh followers hold what their marks say
pub fresh_kept_on : (b : Board) (store : List ℕ) → ReadyOn b store → KeptBy (table_in b) store (all_fresh (table_in b))
fresh_kept_on b store r = fresh_kept (table_in b) store (ready_table b store r)

-- ---- the theorems
module _ (b : Board) (store : List ℕ) (followers : ℕ → Follower) (r : ReadyOn b store) (acts : List Act) where
  abbrev on_table : World
  on_table = run (start (table_in b) store followers) acts

  -- the run is that on the table, with the record of its table, and proper
  same : run_on (start_on b store followers) acts ≡ recorded_world on_table
  same =
      let g = ready_table b store r in
      ap (λ (c : Board). run_on (record { board = c; store = store; story = begun (beginning (table_in b) store); followers = followers }) acts) (ready_record b store r)
      ∙ run_same (start (table_in b) store followers) g.sized g.proper acts

  proper : Proper on_table.table
  proper = let g = ready_table b store r in run_proper (start (table_in b) store followers) g.sized g.proper acts

pub no_follower_of_a_record_is_fooled : NoFollowerOfARecordIsFooled
no_follower_of_a_record_is_fooled b store followers r k acts n =
    let x = on_table b store followers r acts in
    subst (λ (y : WorldOn). Answered y.story (y.followers n) (answer_to_on y n)) (sym (same b store followers r acts))
    (subst (λ (h : Heard). Answered x.story (x.followers n) h) (sym (answer_same x (proper b store followers r acts) n))
    (no_follower_is_fooled (table_in b) store followers (ready_table b store r) k acts n))

-- and whoever asks a record whether a range moved is told by the story
pub moved_on_a_record_is_the_storys : MovedOnARecordIsTheStorys
moved_on_a_record_is_the_storys b store followers r acts from to v =
    let x = on_table b store followers r acts in
    subst (λ (z : WorldOn). MovedSaid z.story from to v (moved_on z.board z.store from to v)) (sym (same b store followers r acts))
    (subst (λ (a : Verdict). MovedSaid x.story from to v a) (sym (moved_is x.table (proper b store followers r acts) x.store from to v))
    (moved_is_the_storys (table_in b) store followers (ready_table b store r) acts from to v))

-- so is one who asks for a key's path
pub bodies_of_a_record_are_those_held : BodiesOfARecordAreThoseHeld
bodies_of_a_record_are_those_held b store followers r acts k =
    let x = on_table b store followers r acts in
    let p = proper b store followers r acts in
    subst (λ (z : WorldOn). BodyGiven z.story k (body_number_on z.board z.store k) (body_on z.board z.store k) (body_form_on z.board z.store k))
    (sym (same b store followers r acts))
    (rw (number_is x.table p x.store k, body_is x.table p x.store k, form_is x.table p x.store k)
    (bodies_are_those_held (table_in b) store followers (ready_table b store r) acts k))

-- and its own version and floor are the story's
pub numbers_of_a_record_are_the_storys : NumbersOfARecordAreTheStorys
numbers_of_a_record_are_the_storys b store followers r acts =
    subst (λ (z : WorldOn). ((table_in z.board).version ≡ version z.story) × ((table_in z.board).floor ≡ floor_of z.story)) (sym (same b store followers r acts))
    (numbers_are_the_storys (table_in b) store followers (ready_table b store r) acts)

-- and so it is said which calls are accepted
pub verdicts_of_a_record_are_the_storys : VerdictsOfARecordAreTheStorys
verdicts_of_a_record_are_the_storys b store followers r acts =
    let x = on_table b store followers r acts in
    let p = proper b store followers r acts in
    let v = verdicts_are_the_storys (table_in b) store followers (ready_table b store r) acts in
    subst (λ (z : WorldOn). VerdictsOfRecord z.story z.board z.store) (sym (same b store followers r acts))
    (record {
      report = λ k octets sessions pst addresses.
          ap (λ (a : Result). a.verdict) (report_for_is x.table p x.store k octets sessions pst addresses) ∙ v.report k octets sessions pst addresses;
      remove = λ k. ap (λ (a : Result). a.verdict) (remove_is x.table p x.store k) ∙ v.remove k;
      compact = λ c. ap (λ (a : Result). a.verdict) (compact_is x.table p x.store c) ∙ v.compact c;
    })

-- ---- from the empty record, with every follower fresh
pub from_the_empty_record : (store : List ℕ) → store_size ≤ length store → (acts : List Act) (n : ℕ) →
    let x = run_on (start_on empty_board store (all_fresh empty_table)) acts in Answered x.story (x.followers n) (answer_to_on x n)
from_the_empty_record store e acts n =
    let r = empty_ready store e in no_follower_of_a_record_is_fooled empty_board store (all_fresh empty_table) r (fresh_kept_on empty_board store r) acts n
