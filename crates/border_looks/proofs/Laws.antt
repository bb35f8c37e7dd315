-- A path lies where the board's own call takes its octets from. Assumes nothing.
use Prim.Native.Nat.{ℕ, ◌*◌}
use mathlib.Core.Path.{◌≡◌, sym, ◌∙◌}
use mathlib.Core.List.{List}
use Rattle.answers.specs.declared.verdict.Verdict.{Verdict}
use Rattle.answers.specs.Verdicts.{accepted_with}
use Rattle.answers.proofs.Kept.{kept_old}
use Rattle.octets.specs.Octets.{part}
use Rattle.octets.proofs.Laws as laws
use Rattle.board_record.specs.declared.record.Board.{Board}
use Rattle.board_record.specs.Record.{table_in}
use Rattle.board_record.specs.Sizes.{room}
use Rattle.board_record.specs.Table.{length_at, form_at}
use Rattle.board_record.specs.Search.{place_of}
use Rattle.board_rules.specs.declared.answer.Octets.{Octets}
use Rattle.board_rules.specs.Parts.{path_at}
use Rattle.board_rules.specs.OnRecord.{body_number_on, body_on, body_form_on}
use Rattle.board_body.proofs.Bodies.{body_none_on, body_handed, form_none_on, form_handed}
use Rattle.border_looks.specs.Looks.{part_out}

-- ---- the body: it lies where the board's own call takes it from
module _ (b : Board) (store : List ℕ) (k : ℕ) where
  pub part_none : (v : Verdict) → v ≡ body_number_on b store k → (v.number ≡ 0 → ⊥)
      → (record { number = v.number; start = 0; length = 0; form = 0 } ≡ part_out b store k) × ((part store 0 0 ≡ body_on b store k) × (0 ≡ body_form_on b store k))
  unfolding part_out
  part_none v e d = (
    rw (
      ← e,
      kept_old v.number 0 (room * place_of (table_in b) k) d,
      kept_old v.number 0 (length_at (table_in b) (place_of (table_in b) k)) d,
      kept_old v.number 0 (form_at (table_in b) (place_of (table_in b) k)) d,
    ),
    (laws.part_none store 0 ∙ body_none_on b store k v e d, form_none_on b store k v e d),
  )

  pub part_here : (o : Octets) (from : ℕ) → accepted_with 0 ≡ body_number_on b store k → o ≡ path_at (table_in b) (place_of (table_in b) k) → from ≡ room * o.place
      → (record { number = 0; start = from; length = o.length; form = o.form } ≡ part_out b store k)
      × ((part store from o.length ≡ body_on b store k) × (o.form ≡ body_form_on b store k))
  unfolding part_out
  part_here o from e q f = (
    rw (f, q, ← e),
    (sym (laws.part_lent store from o.length) ∙ body_handed b store k o from e q f, form_handed b store k o e q),
  )
