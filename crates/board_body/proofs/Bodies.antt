-- What body hands out is what the definitions say: one law for each way out of the code, whose premises are the code's own tests. Assumes
-- nothing.
use Prim.Native.Nat.{ℕ, ◌+◌, ◌-◌, ◌*◌, ◌<◌, ◌≤◌}
use native.Mathlib.Omega.{arith}
use mathlib.Core.Path.{◌≡◌, refl, sym, ap, ◌∙◌}
use mathlib.Core.Bool.{Bool, true, false, not, cond, ◌&&◌}
use mathlib.Core.List.{List, []}
use lib.ListN.{length, take, drop}
use lib.Dec.{eqb, ltb}
use borrow.Author.Tests.{ltb-true, not-false}
use Rattle.answers.specs.declared.verdict.Verdict.{Verdict}
use Rattle.answers.specs.Numbers.{not_a_board}
use Rattle.answers.specs.Verdicts.{refused_by, accepted_with}
use Rattle.answers.proofs.Kept.{kept_old, kept_new}
use Rattle.octets.specs.Octets.{part}
use Rattle.board_record.specs.Sizes.{places, room, store_size}
use Rattle.board_record.specs.declared.record.Board.{Board}
use Rattle.board_record.specs.Record.{table_in, tidy}
use Rattle.board_record.specs.Table.{Table, length_at, form_at}
use Rattle.board_record.specs.Search.{place_of}
use Rattle.octets.proofs.Said.{both_true}
use Rattle.board_record.proofs.Proper.{proper_b_sound}
use Rattle.board_rules.specs.declared.answer.Octets.{Octets}
use Rattle.board_rules.specs.Rules.{is_board, in_range, has_path}
use Rattle.board_rules.specs.Parts.{path_at}
use Rattle.board_rules.specs.Body.{body_rules, body_number, octets_at, body_of, body_form}
use Rattle.board_rules.specs.OnRecord.{is_record, body_number_on, body_on, body_form_on}
use Rattle.board_rules.proofs.OnRecord.{record_is, number_not, number_on, number_order}
use Rattle.board_rules.proofs.Verdicts.{rule_passed}
use Rattle.board_rules.proofs.Told.{board_room, board_proper}

-- ---- the number of a body, where there is no board, and where there is one
module _ (b : Board) (store : List ℕ) (k : ℕ) where
  pub number_none : false ≡ is_record b (length store) → refused_by not_a_board 0 ≡ body_number_on b store k
  unfolding body_number body_rules
  number_none e =
      number_not b store k (length store) false (refused_by not_a_board 0) e refl refl (λ h. rw h)

  pub number_said : (path : Bool) → true ≡ is_record b (length store) → path ≡ has_path (table_in b) k → body_rules true k path ≡ body_number_on b store k
  unfolding body_number
  number_said path e f =
      let h = record_is b (length store) true e refl in
      number_on b store k (body_rules true k path) h.1 (rw (h.0, f))

  -- a path of a board lies in the store
  pub path_room : (at : ℕ) → true ≡ is_record b (length store) → at < places → room * at + length_at (table_in b) at ≤ length store
  path_room at e l =
      let h = record_is b (length store) true e refl in
      let g = board_room (table_in b) (length store) h.0 in
      let p = (proper_b_sound (table_in b) (board_proper (table_in b) (length store) h.0) at l).size.most in
      omega arith

module _ (b : Table) (store : List ℕ) (k : ℕ) where
  -- ---- the body
  pub body_none : (v : Verdict) → v ≡ body_number b store k → (v.number ≡ 0 → ⊥) → [] ≡ body_of b store k
  unfolding body_of
  body_none v e d = rw (← e, kept_old v.number [] (octets_at b store (place_of b k)) d)

  whole : (v : Verdict) → v ≡ body_number b store k → v.number ≡ 0 → is_board b (length store) ≡ true
  unfolding body_number body_rules
  whole v e z = not-false (is_board b (length store)) (rule_passed (not (is_board b (length store))) 16 0 _ (ap (λ (y : Verdict). y.number) (sym e) ∙ z)).0

  pub body_here : (v : Verdict) → v ≡ body_number b store k → v.number ≡ 0 → place_of b k < places
  unfolding body_number body_rules has_path
  body_here v e z =
      let h = rule_passed (not (is_board b (length store))) 16 0 _ (ap (λ (y : Verdict). y.number) (sym e) ∙ z) in
      let g = rule_passed (not (in_range k)) 17 0 _ h.1 in
      let f = rule_passed (not (ltb (place_of b k) places && not (eqb (length_at b (place_of b k)) 0))) 21 0 _ g.1 in
      ltb-true (place_of b k) places (both_true (ltb (place_of b k) places) _ (not-false (ltb (place_of b k) places && not (eqb (length_at b (place_of b k)) 0)) f.0)).0

  pub body_is : (v : Verdict) (at from : ℕ) → v ≡ body_number b store k → v.number ≡ 0 → at ≡ place_of b k → from ≡ room * at
      → take (from + length_at b at - from) (drop from store) ≡ body_of b store k
  unfolding body_of octets_at part
  body_is v at from e z p g =
      let d : from + length_at b at - from ≡ length_at b at = omega arith in
      rw (d, ← e, kept_new v.number [] (octets_at b store (place_of b k)) z, octets_at, ← p, g)

  pub form_is : (v : Verdict) → v ≡ body_number b store k → v.number ≡ 0 → form_at b (place_of b k) ≡ body_form b store k
  unfolding body_form
  form_is v e z = rw (← e, kept_new v.number 0 (form_at b (place_of b k)) z)

  pub form_none : (v : Verdict) → v ≡ body_number b store k → (v.number ≡ 0 → ⊥) → 0 ≡ body_form b store k
  unfolding body_form
  form_none v e d = rw (← e, kept_old v.number 0 (form_at b (place_of b k)) d)

-- ---- on a record: what the calls know of its table
module _ (b : Board) (store : List ℕ) (k : ℕ) where
  pub body_none_on : (v : Verdict) → v ≡ body_number_on b store k → (v.number ≡ 0 → ⊥) → [] ≡ body_on b store k
  unfolding body_number_on body_on
  body_none_on v e d = go (tidy b) e
    where
      go : (x : Bool) → v ≡ cond x (body_number (table_in b) store k) (refused_by not_a_board 0) → [] ≡ cond x (body_of (table_in b) store k) []
      go true q = body_none (table_in b) store k v q d
      go false q = refl

  pub body_taken : (v : Verdict) → v ≡ body_number_on b store k → v.number ≡ 0 → (tidy b ≡ true) × (v ≡ body_number (table_in b) store k)
  unfolding body_number_on
  body_taken v e z =
      let h = number_order b store k (ap (λ (y : Verdict). y.number) (sym e) ∙ z) in
      (h, rw h at e)

  pub body_on_lem : (octets : List ℕ) → tidy b ≡ true → octets ≡ body_of (table_in b) store k → octets ≡ body_on b store k
  unfolding body_on
  body_on_lem octets h e = rw h e

  pub form_none_on : (v : Verdict) → v ≡ body_number_on b store k → (v.number ≡ 0 → ⊥) → 0 ≡ body_form_on b store k
  unfolding body_number_on body_form_on
  form_none_on v e d = go (tidy b) e
    where
      go : (x : Bool) → v ≡ cond x (body_number (table_in b) store k) (refused_by not_a_board 0) → 0 ≡ cond x (body_form (table_in b) store k) 0
      go true q = form_none (table_in b) store k v q d
      go false q = refl

  pub form_on : (form : ℕ) → tidy b ≡ true → form ≡ body_form (table_in b) store k → form ≡ body_form_on b store k
  unfolding body_form_on
  form_on form h e = rw h e

  -- what the call for the path knows of an accepted one
  pub body_handed : (o : Octets) (from : ℕ) → accepted_with 0 ≡ body_number_on b store k → o ≡ path_at (table_in b) (place_of (table_in b) k) → from ≡ room * o.place
      → take (from + o.length - from) (drop from store) ≡ body_on b store k
  body_handed o from e q f =
      let t = body_taken (accepted_with 0) e refl in
      let g : from ≡ room * place_of (table_in b) k = f ∙ ap (λ (x : Octets). room * x.place) q in
      ap (λ (x : Octets). take (from + x.length - from) (drop from store)) q
      ∙ body_on_lem _ t.0 (body_is (table_in b) store k (accepted_with 0) (place_of (table_in b) k) from t.1 refl refl g)

  pub form_handed : (o : Octets) → accepted_with 0 ≡ body_number_on b store k → o ≡ path_at (table_in b) (place_of (table_in b) k) → o.form ≡ body_form_on b store k
  form_handed o e q =
      let t = body_taken (accepted_with 0) e refl in
      ap (λ (x : Octets). x.form) q ∙ form_on _ t.0 (form_is (table_in b) store k (accepted_with 0) t.1 refl)
