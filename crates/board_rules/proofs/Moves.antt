-- Moved: 17, 24 and 23 exactly where document 02 has them; then yes exactly if there is such a place, and no where a is above b. On a board the answer is that of two tests and
-- a look at all places (`rest`): each law says how the tests come out, and the last ones what the look finds. Assumes nothing.
use Prim.Native.Nat.{ℕ, ◌<◌, ◌≤◌}
use native.Mathlib.Omega.{arith}
use mathlib.Core.Path.{◌≡◌, refl, sym, ap, ◌∙◌}
use mathlib.Core.Bool.{Bool, true, false, cond}
use mathlib.Core.List.{List}
use lib.ListN.{length}
use lib.Dec.{ltb}
use borrow.Author.Tests.{lt-ltb, le-ltb}
use Rattle.answers.specs.declared.verdict.Verdict.{Verdict}
use Rattle.answers.specs.Numbers.{not_a_board, mark_too_old, mark_ahead}
use Rattle.answers.specs.Verdicts.{refused_by, accepted_with, kept}
use Rattle.answers.proofs.Kept.{kept_old}
use Rattle.board_record.specs.Table.{Table}
use Rattle.board_record.specs.Search.{MovedAt, moved_in}
use Rattle.board_record.proofs.Ranges.{moved_where, where_moved, none_between}
use Rattle.board_rules.specs.Rules.{is_board}
use Rattle.board_rules.specs.Moved.{moved_rules, moved_verdict, moved_answer}
use Rattle.board_rules.proofs.Verdicts.{IsBoard, whole_board}
use Rattle.board_rules.proofs.Exact.{NoBoard, no_board}

-- yes and no, as verdicts
abbrev pub yes : Verdict
yes = accepted_with 1

abbrev pub no : Verdict
no = accepted_with 0

module _ (b : Table) (store : List ℕ) (from to v : ℕ) where
  pub moved_17_then : NoBoard b (length store) → moved_answer b store from to v ≡ refused_by not_a_board 0
  unfolding moved_answer moved_verdict moved_rules
  moved_17_then f = rw (no_board b (length store) f)

  -- on a board: 24, 23, then the look
  rest : IsBoard b (length store) → moved_answer b store from to v
      ≡ cond (ltb b.version v) (refused_by mark_ahead 0)
      (cond (ltb v b.floor) (refused_by mark_too_old 0) (accepted_with (cond (moved_in b.keys b.versions from to v) 1 0)))
  unfolding moved_answer moved_verdict moved_rules
  rest w = rw (whole_board b (length store) w) (go (ltb b.version v) (ltb v b.floor))
    where
      go : (x y : Bool)
          → kept (cond x (refused_by mark_ahead 0) (cond y (refused_by mark_too_old 0) (accepted_with 0))).number
          (cond x (refused_by mark_ahead 0) (cond y (refused_by mark_too_old 0) (accepted_with 0))) (accepted_with (cond (moved_in b.keys b.versions from to v) 1 0))
          ≡ cond x (refused_by mark_ahead 0) (cond y (refused_by mark_too_old 0) (accepted_with (cond (moved_in b.keys b.versions from to v) 1 0)))
      go true y = refl
      go false true = refl
      go false false = refl

  pub moved_17_only : (moved_answer b store from to v).number ≡ not_a_board → NoBoard b (length store)
  moved_17_only e w = go (ltb b.version v) (ltb v b.floor) (ap (λ (y : Verdict). y.number) (sym (rest w)) ∙ e)
    where
      go : (x y : Bool)
          → (cond x (refused_by mark_ahead 0) (cond y (refused_by mark_too_old 0) (accepted_with (cond (moved_in b.keys b.versions from to v) 1 0)))).number ≡ not_a_board → ⊥
      go true y z = omega arith
      go false true z = omega arith
      go false false z = omega arith

  module _ (w : IsBoard b (length store)) where
    -- "24 if v is above the version"
    pub moved_ahead : b.version < v → moved_answer b store from to v ≡ refused_by mark_ahead 0
    moved_ahead l = rest w ∙ rw (lt-ltb b.version v l)

    -- "23 if the floor is above v"; at the floor itself it is not
    pub moved_too_old : v ≤ b.version → v < b.floor → moved_answer b store from to v ≡ refused_by mark_too_old 0
    moved_too_old l f = rest w ∙ rw (le-ltb b.version v l, lt-ltb v b.floor f)

    looked : v ≤ b.version → b.floor ≤ v → moved_answer b store from to v ≡ accepted_with (cond (moved_in b.keys b.versions from to v) 1 0)
    looked l f = rest w ∙ rw (le-ltb b.version v l, le-ltb v b.floor f)

    -- yes exactly if there is such a place, else no
    pub moved_yes : v ≤ b.version → b.floor ≤ v → (i : ℕ) → MovedAt b from to v i → moved_answer b store from to v ≡ yes
    moved_yes l f i m = looked l f ∙ rw (where_moved b from to v i m)

    pub yes_moved : v ≤ b.version → b.floor ≤ v → moved_answer b store from to v ≡ yes → (i : ℕ) × MovedAt b from to v i
    yes_moved l f e = go (moved_in b.keys b.versions from to v) refl (ap (λ (y : Verdict). y.count) (sym (looked l f) ∙ e))
      where
        go : (x : Bool) → moved_in b.keys b.versions from to v ≡ x → ◌≡◌ {A = ℕ} (cond x 1 0) 1 → (i : ℕ) × MovedAt b from to v i
        go true q z = moved_where b from to v q
        go false q z = absurd (omega arith)

    pub moved_no : v ≤ b.version → b.floor ≤ v → ((i : ℕ) → MovedAt b from to v i → ⊥) → moved_answer b store from to v ≡ no
    moved_no l f h = looked l f ∙ go (moved_in b.keys b.versions from to v) refl
      where
        go : (x : Bool) → moved_in b.keys b.versions from to v ≡ x → accepted_with (cond x 1 0) ≡ no
        go true q = let y = moved_where b from to v q in absurd (h y.0 y.1)
        go false q = refl

    -- "a above b is "no" after these"
    pub none_from_above : v ≤ b.version → b.floor ≤ v → to < from → moved_answer b store from to v ≡ no
    none_from_above l f h = looked l f ∙ rw (none_between b from to v h)

  -- the answer, from what the code has
  pub moved_is_17 : (h : Verdict) → is_board b (length store) ≡ false → h ≡ refused_by not_a_board 0 → h ≡ moved_answer b store from to v
  unfolding moved_answer moved_verdict moved_rules
  moved_is_17 h e q = q ∙ rw e

  pub moved_refused : (h : Verdict) → is_board b (length store) ≡ true → h ≡ moved_rules true v b.version b.floor → (h.number ≡ 0 → ⊥) → h ≡ moved_answer b store from to v
  unfolding moved_answer moved_verdict
  moved_refused h e q d = rw (e, ← q) (sym (kept_old h.number h (accepted_with (cond (moved_in b.keys b.versions from to v) 1 0)) d))

  pub moved_told : (h r : Verdict) (x : Bool) → is_board b (length store) ≡ true → h ≡ moved_rules true v b.version b.floor → h.number ≡ 0
      → x ≡ moved_in b.keys b.versions from to v → r ≡ accepted_with (cond x 1 0) → r ≡ moved_answer b store from to v
  unfolding moved_answer moved_verdict
  moved_told h r x e q z y p = rw (e, ← q, z, ← y) p
