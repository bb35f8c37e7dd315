-- 17 is answered exactly if the store is shorter than 49,152 octets or the record isn't proper, by every call, before any other number: it is the
-- first rule of each, and no later rule, nor any route check, answers it. Assumes nothing.
use Prim.Native.Nat.{ℕ, max}
use native.Mathlib.Omega.{arith}
use mathlib.Core.Path.{◌≡◌, refl}
use mathlib.Core.Bool.{Bool, true, false, not, cond}
use mathlib.Core.List.{List}
use mathlib.Core.Logic.{inl, inr}
use lib.ListN.{length}
use lib.Dec.{eqb, ltb, leb}
use Rattle.answers.specs.declared.verdict.Verdict.{Verdict}
use Rattle.answers.specs.Numbers.{not_a_board}
use Rattle.answers.specs.Verdicts.{refused_by, accepted_with}
use Rattle.session.specs.declared.Session.{Session}
use Rattle.route.specs.Routes.{judge_of}
use Rattle.route.proofs.Numbers.{OtherNumber}
use Rattle.route.proofs.Setups.{judge_low}
use Rattle.board_record.specs.Sizes.{places, room, version_most}
use Rattle.board_record.specs.Table.{Table}
use Rattle.board_record.specs.Search.{target_of}
use Rattle.board_rules.specs.Handed.{Refused}
use Rattle.board_rules.specs.Rules.{is_board, in_range, has_path}
use Rattle.board_rules.specs.Report.{body_in, report_rules, report_verdict, report_with, report_answer}
use Rattle.board_rules.specs.Remove.{remove_rules, remove_verdict, remove_answer}
use Rattle.board_rules.specs.Compact.{compact_rules, compact_verdict, compact_answer}
use Rattle.board_rules.specs.Body.{body_rules, body_number}
use Rattle.board_rules.specs.Next.{next_rules, next_verdict, next_answer}
use Rattle.board_rules.proofs.Verdicts.{IsBoard, board_whole, whole_board}

-- no board: the store is short or the record not proper
abbrev pub NoBoard : Table → ℕ → Type 0
NoBoard b n = IsBoard b n → ⊥

pub no_board : (b : Table) (n : ℕ) → NoBoard b n → is_board b n ≡ false
no_board b n f = go (is_board b n) refl
  where
    go : (x : Bool) → is_board b n ≡ x → is_board b n ≡ false
    go true e = absurd (f (board_whole b n e))
    go false e = e

-- a rule of another number does not answer 17
other : (t : Bool) (n : ℕ) (x : Verdict) → (n ≡ not_a_board → ⊥) → (x.number ≡ not_a_board → ⊥) → (cond t (refused_by n 0) x).number ≡ not_a_board → ⊥
other true n x f g e = f e
other false n x f g e = g e

-- ---- report
module _ (b : Table) (store : List ℕ) (k : ℕ) (octets : List ℕ) (session : Session) (pst : ℕ) where
  pub report_17_then : NoBoard b (length store) → (report_answer b store k octets session pst).verdict ≡ refused_by not_a_board 0
  unfolding report_answer report_with report_verdict report_rules
  report_17_then f = rw (no_board b (length store) f)

  pub report_17_only : (report_answer b store k octets session pst).verdict.number ≡ not_a_board → NoBoard b (length store)
  unfolding report_answer report_with report_verdict report_rules
  report_17_only e w = rest (judge_of octets true session pst) (judge_low octets true session pst) (rw (whole_board b (length store) w) at e)
    where
      rest : (route : Verdict) → OtherNumber route.number
          → (cond (not (in_range k)) (refused_by 18 0)
          (cond (not (eqb route.number 0)) route
          (cond (ltb room (length (body_in octets))) (refused_by 19 0)
          (cond (eqb b.version version_most) (refused_by 20 0) (cond (leb places (target_of b k)) (refused_by 21 0) route))))
          ).number ≡ not_a_board
          → ⊥
      rest route l =
          other (not (in_range k)) 18 _ (λ z. omega arith)
          (λ z. check (not (eqb route.number 0)) z)
        where
          not_17 : OtherNumber route.number → route.number ≡ not_a_board → ⊥
          not_17 (inl y) z = omega arith
          not_17 (inr y) z = omega arith

          check : (t : Bool)
              → (cond t route
              (cond (ltb room (length (body_in octets))) (refused_by 19 0)
              (cond (eqb b.version version_most) (refused_by 20 0) (cond (leb places (target_of b k)) (refused_by 21 0) route)))
              ).number ≡ not_a_board
              → ⊥
          check true z = not_17 l z
          check false z =
              other (ltb room (length (body_in octets))) 19 _ (λ y. omega arith)
              (other (eqb b.version version_most) 20 _ (λ y. omega arith) (other (leb places (target_of b k)) 21 route (λ y. omega arith) (not_17 l))) z

-- ---- remove
module _ (b : Table) (store : List ℕ) (k : ℕ) where
  pub remove_17_then : NoBoard b (length store) → (remove_answer b store k).verdict ≡ refused_by not_a_board 0
  unfolding remove_answer remove_verdict remove_rules
  remove_17_then f = rw (no_board b (length store) f)

  pub remove_17_only : (remove_answer b store k).verdict.number ≡ not_a_board → NoBoard b (length store)
  unfolding remove_answer remove_verdict remove_rules
  remove_17_only e w =
      other (not (in_range k)) 18 _ (λ y. omega arith)
      (other (not (has_path b k)) 22 _ (λ y. omega arith) (other (eqb b.version version_most) 20 (accepted_with 0) (λ y. omega arith) (λ y. omega arith)))
      (rw (whole_board b (length store) w) at e)

  -- ---- body
  pub body_17_then : NoBoard b (length store) → body_number b store k ≡ refused_by not_a_board 0
  unfolding body_number body_rules
  body_17_then f = rw (no_board b (length store) f)

  pub body_17_only : (body_number b store k).number ≡ not_a_board → NoBoard b (length store)
  unfolding body_number body_rules
  body_17_only e w =
      other (not (in_range k)) 18 _ (λ y. omega arith) (other (not (has_path b k)) 22 (accepted_with 0) (λ y. omega arith) (λ y. omega arith))
      (rw (whole_board b (length store) w) at e)

-- ---- compact
module _ (b : Table) (store : List ℕ) (m : ℕ) where
  pub compact_17_then : NoBoard b (length store) → (compact_answer b store m).verdict ≡ refused_by not_a_board 0
  unfolding compact_answer compact_verdict compact_rules
  compact_17_then f = rw (no_board b (length store) f)

  pub compact_17_only : (compact_answer b store m).verdict.number ≡ not_a_board → NoBoard b (length store)
  unfolding compact_answer compact_verdict compact_rules
  compact_17_only e w = other (ltb b.version m) 24 (accepted_with 0) (λ y. omega arith) (λ y. omega arith) (rw (whole_board b (length store) w) at e)

-- ---- next
module _ (b : Table) (store : List ℕ) (s w : ℕ) where
  pub next_17_then : NoBoard b (length store) → next_answer b store s w ≡ Refused (refused_by not_a_board 0)
  unfolding next_answer next_verdict next_rules
  next_17_then f = rw (no_board b (length store) f)

  pub next_17_only : (next_verdict b store s w).number ≡ not_a_board → NoBoard b (length store)
  unfolding next_verdict next_rules
  next_17_only e h =
      other (ltb b.version s) 24 _ (λ y. omega arith)
      (other (ltb b.version w) 24 _ (λ y. omega arith) (other (ltb (max s w) b.floor) 23 (accepted_with 0) (λ y. omega arith) (λ y. omega arith)))
      (rw (whole_board b (length store) h) at e)
