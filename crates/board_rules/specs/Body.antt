-- Body (document 01, "The board": "Body (key): 17, 18, 22. The path's octets are handed back as a part of the lent store; a refusal hands back an
-- empty part, and its number is had by a call of its own."). The path's form is handed out too (document 02, C-16).
use Rattle.std.specs.Prelude.{ℕ, ◌*◌, Bool, not, cond, List, [], length}
use Rattle.answers.specs.declared.verdict.Verdict.{Verdict}
use Rattle.answers.specs.Numbers.{not_a_board, key_out_of_range, no_path}
use Rattle.answers.specs.Verdicts.{refused_by, accepted_with, kept}
use Rattle.octets.specs.Octets.{part}
use Rattle.board_record.specs.Sizes.{room}
use Rattle.board_record.specs.Table.{Table, length_at, form_at}
use Rattle.board_record.specs.Search.{place_of}
use Rattle.board_rules.specs.Rules.{is_board, in_range, has_path}

-- The first broken rule. `whole`: it is a board; `path`: the key has a path.
unfoldable pub body_rules : Bool → ℕ → Bool → Verdict
body_rules whole k path =
    cond (not whole) (refused_by not_a_board 0)
    (cond (not (in_range k)) (refused_by key_out_of_range 0)
    (cond (not path) (refused_by no_path 0)
    (accepted_with 0)))

-- what the call for the number answers
unfoldable pub body_number : Table → List ℕ → ℕ → Verdict
body_number b store k = body_rules (is_board b (length store)) k (has_path b k)

-- the octets of place i
unfoldable pub octets_at : Table → List ℕ → ℕ → List ℕ
octets_at b store i = part store (room * i) (length_at b i)

unfoldable pub body_of : Table → List ℕ → ℕ → List ℕ
body_of b store k = kept (body_number b store k).number [] (octets_at b store (place_of b k))

-- the form of the path; a refusal has none
unfoldable pub body_form : Table → List ℕ → ℕ → ℕ
body_form b store k = kept (body_number b store k).number 0 (form_at b (place_of b k))
