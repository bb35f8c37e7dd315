-- Next (document 01, "The board": "Next (mark s, w): 17; 24 if s or w is above the version; 23 exactly if the floor is above the larger of s and w.
-- Otherwise the change of smallest version above w that is a path, or is a removal above s; or "level" with the board's version. It comes with its
-- key and version; a path's octets are named by place and length."), and the path's form comes with them (document 02, C-16).
--
-- A history: report A (1), report B (2), remove A (3). Mark (1, 1) is handed B at 2, then, as (1, 2), A removed at 3, then, as (1, 3), level with 3.
-- After compact 3 the floor is 3: a mark (2, 2) is below it, 23; a mark (3, 3) at the floor is not, and is level; the fresh mark (3, 0) is handed B
-- at 2, and then is level.
use Rattle.std.specs.Prelude.{ℕ, max, Bool, not, cond, List, length, eqb, ltb}
use Rattle.answers.specs.declared.verdict.Verdict.{Verdict}
use Rattle.answers.specs.Numbers.{not_a_board, mark_too_old, mark_ahead}
use Rattle.answers.specs.Verdicts.{refused_by, accepted_with}
use Rattle.board_record.specs.Sizes.{places}
use Rattle.board_record.specs.Table.{Table, key_at, version_at, length_at, form_at}
use Rattle.board_record.specs.Search.{next_of}
use Rattle.board_rules.specs.declared.answer.Mark.{Mark}
use Rattle.board_rules.specs.Handed.{Handed, Refused, Path, Removed, Level}
use Rattle.board_rules.specs.Rules.{is_board}

-- The first broken rule. `whole`: it is a board; `version` and `floor` are the board's.
unfoldable pub next_rules : Bool → ℕ → ℕ → ℕ → ℕ → Verdict
next_rules whole s w version floor =
    cond (not whole) (refused_by not_a_board 0)
    (cond (ltb version s) (refused_by mark_ahead 0)
    (cond (ltb version w) (refused_by mark_ahead 0)
    (cond (ltb (max s w) floor) (refused_by mark_too_old 0)
    (accepted_with 0))))

unfoldable pub next_verdict : Table → List ℕ → ℕ → ℕ → Verdict
next_verdict b store s w = next_rules (is_board b (length store)) s w b.version b.floor

-- the change at place i: key and version, and a path's octets by place and length, with its form
unfoldable pub change_at : Table → ℕ → Handed
change_at b i =
    cond (eqb (length_at b i) 0) (Removed (record { key = key_at b i; version = version_at b i }))
    (Path (record { key = key_at b i; version = version_at b i }) (record { place = i; length = length_at b i; form = form_at b i }))

-- the change at the place found, or level where there is none
unfoldable pub handed_at : Table → ℕ → Handed
handed_at b i = cond (ltb i places) (change_at b i) (Level b.version)

unfoldable pub next_answer : Table → List ℕ → ℕ → ℕ → Handed
next_answer b store s w = cond (eqb (next_verdict b store s w).number 0) (handed_at b (next_of b s w)) (Refused (next_verdict b store s w))

-- the verdict that an answer of next stands for
abbrev pub verdict_in : Handed → Verdict
verdict_in (Refused v) = v
verdict_in (Path c o) = accepted_with 0
verdict_in (Removed c) = accepted_with 0
verdict_in (Level v) = accepted_with 0

-- the number that an answer stands for
abbrev pub number_in : Handed → ℕ
number_in h = (verdict_in h).number

-- "A fresh mark is the board's version for s and 0 for w, with the follower empty."
abbrev pub fresh_mark : Table → Mark
fresh_mark b = record { s = b.version; w = 0 }
