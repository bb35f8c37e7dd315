-- Of any two answers that fit a call's contract, equality. Assumes nothing.
use Prim.Native.Nat.{ℕ}
use mathlib.Core.Path.{◌≡◌, refl, sym, ◌∙◌}
use mathlib.Core.List.{List}
use Rattle.std.proofs.Common.{Result}
use Rattle.std.specs.Prelude.{IfOk}
use Rattle.answers.specs.declared.refusal.Refusal.{Refusal}
use Rattle.answers.specs.Verdicts.{passed_of}
use Rattle.answers.proofs.Results.{view_back_if, passed_back}
use Rattle.board_record.specs.declared.record.Board.{Board}
use Rattle.board_record.specs.Record.{table_in}
use Rattle.board_record.specs.Search.{place_of}
use Rattle.board_rules.specs.declared.answer.Octets.{Octets}
use Rattle.board_rules.specs.Parts.{path_at}
use Rattle.board_rules.specs.OnRecord.{body_number_on, body_on, body_form_on}

pub path_determined : (b : Board) (store : List ℕ) (k : ℕ) (x y : Result Octets Refusal)
    → passed_of x ≡ body_number_on b store k → IfOk x (λ o. o ≡ path_at (table_in b) (place_of (table_in b) k))
    → passed_of y ≡ body_number_on b store k → IfOk y (λ o. o ≡ path_at (table_in b) (place_of (table_in b) k)) → x ≡ y
path_determined b store k x y p h q g =
    let there = path_at (table_in b) (place_of (table_in b) k) in
    view_back_if passed_of (λ v. v) (λ _. there) (λ (o : Octets). o ≡ there) (λ _. refl) (λ _. refl) (λ o e. sym e) x y h g (p ∙ sym q)

pub body_number_determined : (b : Board) (store : List ℕ) (k : ℕ) (x y : Result (Unit {0}) Refusal) → passed_of x ≡ body_number_on b store k
    → passed_of y ≡ body_number_on b store k → x ≡ y
body_number_determined b store k x y p q = passed_back x y (p ∙ sym q)

pub body_determined : (b : Board) (store : List ℕ) (k : ℕ) (x y : List ℕ) → x ≡ body_on b store k → y ≡ body_on b store k → x ≡ y
body_determined b store k x y p q = p ∙ sym q

pub body_form_determined : (b : Board) (store : List ℕ) (k x y : ℕ) → x ≡ body_form_on b store k → y ≡ body_form_on b store k → x ≡ y
body_form_determined b store k x y p q = p ∙ sym q
