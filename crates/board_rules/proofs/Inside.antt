-- The octets that body and next name lie in the store; the number that next's answer stands for is that of its first broken rule. Assumes nothing.
use Prim.Native.Nat.{ℕ, zero, suc, ◌+◌, ◌*◌, ◌≤◌, ◌<◌}
use mathlib.Core.Path.{◌≡◌, refl, sym, ◌∙◌}
use mathlib.Core.Bool.{Bool, true, false, cond, not}
use mathlib.Core.List.{List, []}
use lib.Dec.{eqb, ltb}
use lib.ListN.{length, length-take, length-drop}
use native.Mathlib.Omega.{arith}
use borrow.Author.Tests.{eqb-true, ltb-true, not-false}
use Rattle.answers.specs.declared.verdict.Verdict.{Verdict}
use Rattle.answers.specs.Verdicts.{kept}
use Rattle.octets.specs.Octets.{part}
use Rattle.board_record.specs.Sizes.{places, room}
use Rattle.board_record.specs.Table.{Table, length_at, form_at}
use Rattle.board_record.specs.Search.{place_of, next_of}
use Rattle.board_record.proofs.Proper.{proper_sound}
use Rattle.board_rules.specs.declared.answer.Change.{Change}
use Rattle.board_rules.specs.declared.answer.Octets.{Octets}
use Rattle.board_rules.specs.Handed.{Handed, Refused, Path, Removed, Level}
use Rattle.board_rules.specs.Rules.{is_board}
use Rattle.board_rules.specs.Body.{body_number, body_of, octets_at}
use Rattle.board_rules.specs.Next.{next_rules, next_verdict, next_answer, handed_at, change_at, number_in}
use Rattle.board_rules.proofs.Verdicts.{IsBoard, board_whole, rule_passed}

-- ---- body

pub length_part_most : (s : List ℕ) (at n : ℕ) → length (part s at n) ≤ length s
unfolding part
length_part_most s at n = simp (length-take, length-drop) (omega arith)

kept_most : (n : ℕ) (x : List ℕ) (m : ℕ) → length x ≤ m → length (kept n [] x) ≤ m
kept_most zero x m h = h
kept_most (suc n) x m h = omega arith

pub body_inside : (b : Table) (store : List ℕ) (k : ℕ) → length (body_of b store k) ≤ length store
unfolding body_of octets_at
body_inside b store k =
    kept_most (body_number b store k).number _ (length store) (length_part_most store (room * place_of b k) (length_at b (place_of b k)))

-- ---- next

-- octets are those of a place
record Placed (b : Table) (i : ℕ) (path : Octets) : Type 0 where
  pub here : i < places
  pub same : path ≡ record { place = i; length = length_at b i; form = form_at b i }

module _ {change : Change} {path : Octets} where
  no_refusal : (v : Verdict) → Refused v ≡ Path change path → ⊥
  no_refusal v e = let z : ◌≡◌ {A = ℕ} 0 1 = cc in omega arith

  no_level : (n : ℕ) → Level n ≡ Path change path → ⊥
  no_level n e = let z : ◌≡◌ {A = ℕ} 0 1 = cc in omega arith

  chosen : (t : Bool) (x y : Handed) → (y ≡ Path change path → ⊥) → cond t x y ≡ Path change path → (t ≡ true) × (x ≡ Path change path)
  chosen true x y h e = (refl, e)
  chosen false x y h e = absurd (h e)

  told_path : (t : Bool) (c : Change) (p : Octets) → cond t (Removed c) (Path c p) ≡ Path change path → path ≡ p
  told_path true c p e = absurd (let z : ◌≡◌ {A = ℕ} 0 1 = cc in omega arith)
  told_path false c p e = cc

  placed : (b : Table) (i : ℕ) → handed_at b i ≡ Path change path → Placed b i path
  unfolding handed_at change_at
  placed b i e =
      let p = chosen (ltb i places) _ (Level b.version) (no_level b.version) e in
      record { here = ltb-true i places p.0; same = told_path (eqb (length_at b i) 0) _ _ p.1 }

next_whole : (b : Table) (store : List ℕ) (s w : ℕ) → (next_verdict b store s w).number ≡ 0 → IsBoard b (length store)
unfolding next_verdict next_rules
next_whole b store s w e = board_whole b (length store) (not-false _ (rule_passed (not (is_board b (length store))) 16 0 _ e).0)

pub path_inside : (b : Table) (store : List ℕ) (s w : ℕ) {change : Change} {path : Octets} → next_answer b store s w ≡ Path change path
    → room * path.place + path.length ≤ length store
unfolding next_answer
path_inside b store s w e =
    let p = chosen (eqb (next_verdict b store s w).number 0) (handed_at b (next_of b s w)) _ (no_refusal (next_verdict b store s w)) e in
    let o = next_whole b store s w (eqb-true _ 0 p.0) in
    let q = placed b (next_of b s w) p.1 in
    let m = (proper_sound b o.proper (next_of b s w) q.here).size.most in
    rw q.same (omega (arith, o.store))

-- ---- the number of an answer

number_chosen : (t : Bool) (x y : Handed) (n : ℕ) → (t ≡ true → number_in x ≡ n) → (t ≡ false → number_in y ≡ n) → number_in (cond t x y) ≡ n
number_chosen true x y n f g = f refl
number_chosen false x y n f g = g refl

handed_number : (b : Table) (i : ℕ) → number_in (handed_at b i) ≡ 0
unfolding handed_at change_at
handed_number b i =
    number_chosen (ltb i places) _ (Level b.version) 0 (λ t. number_chosen (eqb (length_at b i) 0) _ _ 0 (λ u. refl) (λ u. refl)) (λ t. refl)

-- the number that next's answer stands for is that of its first broken rule, 0 for none
pub next_number : (b : Table) (store : List ℕ) (s w : ℕ) → number_in (next_answer b store s w) ≡ (next_verdict b store s w).number
unfolding next_answer
next_number b store s w =
    let v = next_verdict b store s w in
    number_chosen (eqb v.number 0) (handed_at b (next_of b s w)) (Refused v) v.number
    (λ t. handed_number b (next_of b s w) ∙ sym (eqb-true v.number 0 t)) (λ t. refl)
