-- "The body is written at the place's start, and no call here writes other octets of the store." Assumes nothing.
use Prim.Native.Nat.{ℕ, ◌+◌, ◌*◌, ◌<◌, ◌≤◌}
use native.Mathlib.Omega.{arith}
use mathlib.Core.Path.{◌≡◌, ap, ◌∙◌}
use mathlib.Core.Bool.{true}
use mathlib.Core.List.{List}
use mathlib.Core.Logic.{◌⊎◌, ⊎_elim}
use lib.ListN.{length, get_or}
use Rattle.answers.proofs.Kept.{kept_old, kept_new}
use Rattle.octets.specs.Octets.{part, placed}
use Rattle.octets.proofs.Laws.{length_placed, get_d_before, get_d_behind, part_placed_same}
use Rattle.session.specs.declared.Session.{Session}
use Rattle.route.specs.Routes.{judge_of}
use Rattle.board_record.specs.Sizes.{room}
use Rattle.board_record.specs.Table.{Table, ListsWhole, bearing}
use Rattle.board_record.specs.Search.{target_of, place_of, floor_after}
use Rattle.board_record.proofs.Logic.{same?}
use Rattle.board_record.proofs.Changed.{changed_sized}
use Rattle.board_record.proofs.Lists.{length_row}
use Rattle.board_rules.specs.Report.{body_in, report_verdict, reported, report_with, store_with, report_answer, report_store}
use Rattle.board_rules.specs.Remove.{remove_verdict, removed, remove_answer}
use Rattle.board_rules.specs.Compact.{compact_verdict, compacted, compact_answer}
use Rattle.board_rules.proofs.Verdicts.{report_passed}

module _ (b : Table) (store : List ℕ) (k : ℕ) (octets : List ℕ) (session : Session) (pst : ℕ) where
  pub report_refused_writes_nothing : ((report_answer b store k octets session pst).verdict.number ≡ 0 → ⊥) → report_store b store k octets session pst ≡ store
  unfolding report_answer report_with report_store store_with
  report_refused_writes_nothing d = kept_old (report_verdict b store k octets (judge_of octets true session pst)).number store (placed store (room * target_of b k) (body_in octets)) d

  pub report_writes : (report_answer b store k octets session pst).verdict.number ≡ 0 → report_store b store k octets session pst ≡ placed store (room * target_of b k) (body_in octets)
  unfolding report_answer report_with report_store store_with
  report_writes z = kept_new (report_verdict b store k octets (judge_of octets true session pst)).number store (placed store (room * target_of b k) (body_in octets)) z

  report_fits : (report_answer b store k octets session pst).verdict.number ≡ 0 → room * target_of b k + length (body_in octets) ≤ length store
  unfolding report_answer report_with
  report_fits z = let g = report_passed b store k octets (judge_of octets true session pst) z in omega (arith, g.size, g.place, g.whole.store)

  pub report_store_length : length (report_store b store k octets session pst) ≡ length store
  report_store_length =
      ⊎_elim (λ z. ap length (report_writes z) ∙ length_placed store (room * target_of b k) (body_in octets) (report_fits z)) (λ d. ap length (report_refused_writes_nothing d))
      (same? (report_answer b store k octets session pst).verdict.number 0)

  pub report_body_written : (report_answer b store k octets session pst).verdict.number ≡ 0
      → part (report_store b store k octets session pst) (room * target_of b k) (length (body_in octets)) ≡ body_in octets
  report_body_written z = rw (report_writes z) (part_placed_same store (room * target_of b k) (body_in octets) (report_fits z))

  pub report_others_stay : (m : ℕ) → (m < room * target_of b k) ⊎ (room * target_of b k + length (body_in octets) ≤ m) → get_or (report_store b store k octets session pst) m 0 ≡ get_or store m 0
  report_others_stay m o =
      ⊎_elim
      (λ z. rw (report_writes z)
      (⊎_elim (λ l. get_d_before store (room * target_of b k) (body_in octets) m (report_fits z) l) (λ l. get_d_behind store (room * target_of b k) (body_in octets) m (report_fits z) l) o))
      (λ d. ap (λ (s : List ℕ). get_or s m 0) (report_refused_writes_nothing d)) (same? (report_answer b store k octets session pst).verdict.number 0)

  -- ---- and the record keeps its size
  pub report_sized : ListsWhole b → ListsWhole (report_answer b store k octets session pst).table
  unfolding report_answer report_with reported
  report_sized s =
      ⊎_elim
      (λ z. rw (kept_new (report_verdict b store k octets (judge_of octets true session pst)).number b (reported b k octets pst) z)
      (changed_sized b (target_of b k) (bearing b k (length (body_in octets)) pst) (floor_after b k (target_of b k)) s))
      (λ d. rw (kept_old (report_verdict b store k octets (judge_of octets true session pst)).number b (reported b k octets pst) d) s)
      (same? (report_verdict b store k octets (judge_of octets true session pst)).number 0)

pub remove_sized : (b : Table) (store : List ℕ) (k : ℕ) → ListsWhole b → ListsWhole (remove_answer b store k).table
unfolding remove_answer removed
remove_sized b store k s =
    ⊎_elim (λ z. rw (kept_new (remove_verdict b store k).number b (removed b k) z) (changed_sized b (place_of b k) (bearing b k 0 0) b.floor s))
    (λ d. rw (kept_old (remove_verdict b store k).number b (removed b k) d) s) (same? (remove_verdict b store k).number 0)

pub compact_sized : (b : Table) (store : List ℕ) (m : ℕ) → ListsWhole b → ListsWhole (compact_answer b store m).table
unfolding compact_answer compacted
compact_sized b store m s =
    ⊎_elim (λ z. rw (kept_new (compact_verdict b store m).number b (compacted b m) z) (record { keys = length_row _ 128; versions = length_row _ 128; lengths = s.lengths; forms = s.forms }))
    (λ d. rw (kept_old (compact_verdict b store m).number b (compacted b m) d) s) (same? (compact_verdict b store m).number 0)
