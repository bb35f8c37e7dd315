-- What next hands out, and what moved says, is what the definitions say: one law for each way out of the code, whose premises are the code's own tests. Assumes
-- nothing.
use Prim.Native.Nat.{ℕ, ◌<◌, ◌≤◌}
use mathlib.Core.Path.{◌≡◌, refl, sym, ap, ◌∙◌}
use mathlib.Core.Bool.{Bool, true, false, cond}
use mathlib.Core.List.{List}
use lib.ListN.{length}
use borrow.Author.Tests.{eq-eqb, ne_eqb, lt-ltb, le-ltb}
use Rattle.answers.specs.declared.refusal.Refusal.{Refusal}
use Rattle.answers.specs.declared.verdict.Verdict.{Verdict}
use Rattle.answers.specs.Numbers.{not_a_board}
use Rattle.answers.specs.Verdicts.{refused_by, accepted_with, refusal_of}
use Rattle.answers.proofs.Results.{refused_numbered}
use Rattle.board_record.specs.Sizes.{places}
use Rattle.board_record.specs.declared.record.Board.{Board}
use Rattle.board_record.specs.Record.{table_in}
use Rattle.board_record.specs.Table.{Table, key_at, version_at, length_at}
use Rattle.board_record.specs.Search.{next_of, moved_in}
use Rattle.board_record.specs.Proper.{proper_b}
use Rattle.board_record.specs.Order.{in_order}
use Rattle.board_record.specs.Tops.{in_tops}
use Rattle.board_rules.specs.Handed.{Handed, Refused, Path, Removed, Level}
use Rattle.board_rules.specs.Parts.{path_at}
use Rattle.board_rules.specs.Next.{next_rules, next_verdict, change_at, handed_at, next_answer}
use Rattle.board_rules.specs.Moved.{moved_rules}
use Rattle.board_rules.specs.OnRecord.{is_record, next_on, moved_on}
use Rattle.board_rules.proofs.Told.{board_proper}
use Rattle.board_rules.proofs.OnRecord.{record_is, tidy_order, tidy_tops, next_not, next_on_lem, moved_not, moved_on_lem}
use Rattle.board_rules.proofs.Moves.{moved_is_17, moved_refused, moved_told}

-- what a board's searches ask
module _ (b : Board) (n : ℕ) (e : true ≡ is_record b n) where
  pub searched : (proper_b (table_in b) ≡ true) × (in_order (table_in b) b.order ≡ true)
  searched = let h = record_is b n true e refl in (board_proper (table_in b) n h.0, tidy_order b h.1)

  pub topped : in_tops b.versions b.tops ≡ true
  topped = tidy_tops b (record_is b n true e refl).1

-- ---- next
-- of any table: level with its version, where no change is wanted
pub next_level : (b : Table) (store : List ℕ) (s w : ℕ) (v : Verdict) (at : ℕ) → v ≡ next_verdict b store s w → v.number ≡ 0 → at ≡ next_of b s w → places ≤ at
    → Level b.version ≡ next_answer b store s w
unfolding next_answer handed_at
next_level b store s w v at e z p l = rw (← e, eq-eqb v.number 0 z, handed_at, ← p, le-ltb at 128 l)

module _ (b : Board) (store : List ℕ) (s w : ℕ) where
  pub next_none : false ≡ is_record b (length store) → Refused (refused_by not_a_board 0) ≡ next_on b store s w
  unfolding next_answer next_verdict next_rules
  next_none e = next_not b store s w (length store) false _ e refl refl (λ h. rw h)

  module _ (e : true ≡ is_record b (length store)) where
    pub next_refused : (r : Refusal) → refusal_of r ≡ next_rules true s w b.version b.floor → Refused (refusal_of r) ≡ next_on b store s w
    unfolding next_answer next_verdict
    next_refused r q =
        let h = record_is b (length store) true e refl in
        next_on_lem b store s w _ h.1 (rw (h.0, ← q, ne_eqb (refusal_of r).number 0 (refused_numbered r)))

    module _ (q : accepted_with 0 ≡ next_rules true s w b.version b.floor) where
      handed : handed_at (table_in b) (next_of (table_in b) s w) ≡ next_on b store s w
      unfolding next_answer next_verdict
      handed = let h = record_is b (length store) true e refl in next_on_lem b store s w _ h.1 (rw (h.0, ← q))

      pub next_level_on : places ≡ next_of (table_in b) s w → Level b.version ≡ next_on b store s w
      unfolding handed_at
      next_level_on p = rw (← p) at handed

      module _ (at : ℕ) (p : at ≡ next_of (table_in b) s w) (l : at < places) where
        changed : change_at (table_in b) at ≡ next_on b store s w
        unfolding handed_at
        changed = rw (← p, lt-ltb at 128 l) at handed

        pub next_removed : length_at (table_in b) at ≡ 0 → Removed (record { key = key_at (table_in b) at; version = version_at (table_in b) at }) ≡ next_on b store s w
        unfolding change_at
        next_removed z = rw (eq-eqb (length_at (table_in b) at) 0 z) at changed

        pub next_path : (length_at (table_in b) at ≡ 0 → ⊥)
            → Path (record { key = key_at (table_in b) at; version = version_at (table_in b) at }) (path_at (table_in b) at) ≡ next_on b store s w
        unfolding change_at
        next_path d = rw (ne_eqb (length_at (table_in b) at) 0 d) at changed

-- ---- moved
module _ (b : Board) (store : List ℕ) (from to v : ℕ) where
  pub moved_none : false ≡ is_record b (length store) → refused_by not_a_board 0 ≡ moved_on b store from to v
  moved_none e =
      moved_not b store from to v (length store) false _ e refl refl (λ h. moved_is_17 (table_in b) store from to v _ h refl)

  pub moved_refusal : (r : Refusal) → true ≡ is_record b (length store) → refusal_of r ≡ moved_rules true v b.version b.floor → refusal_of r ≡ moved_on b store from to v
  moved_refusal r e q =
      let h = record_is b (length store) true e refl in
      moved_on_lem b store from to v _ h.1 (moved_refused (table_in b) store from to v _ h.0 q (refused_numbered r))

  pub moved_said : (any : Bool) → true ≡ is_record b (length store) → accepted_with 0 ≡ moved_rules true v b.version b.floor → any ≡ moved_in b.keys b.versions from to v
      → accepted_with (cond any 1 0) ≡ moved_on b store from to v
  moved_said any e q y =
      let h = record_is b (length store) true e refl in
      moved_on_lem b store from to v _ h.1 (moved_told (table_in b) store from to v _ _ any h.0 q refl y refl)
