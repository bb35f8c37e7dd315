-- Moved (document 02: "Say if any key from a to b changed after version v. .. The yes must be that of a look at all 128 places. Refusals: 17, 24 if v is above the version,
-- 23 if the floor is above v; a above b is "no" after these."). The count of the verdict is 1 for yes and 0 for no. Any numbers may be given.
--
-- A history: report 10 (1), report 20 (2), remove 10 (3). Keys 10 to 19 after 1: yes, the removal. Keys 20 to 29 after 1: yes; after 2: no, a change is not after itself.
-- After compact 3 the floor is 3: after 2 is 23; after 3 is not, and no.
use Rattle.std.specs.Prelude.{ℕ, Bool, not, cond, List, length, ltb, Result}
use Rattle.answers.specs.declared.verdict.Verdict.{Verdict}
use Rattle.answers.specs.Numbers.{not_a_board, mark_too_old, mark_ahead}
use Rattle.answers.specs.declared.refusal.Refusal.{Refusal}
use Rattle.answers.specs.Verdicts.{refused_by, accepted_with, kept, answer_of}
use Rattle.board_record.specs.Table.{Table}
use Rattle.board_record.specs.Search.{moved_in}
use Rattle.board_rules.specs.Rules.{is_board}

-- The first broken rule. `whole`: it is a board; `version` and `floor` are the board's.
unfoldable pub moved_rules : Bool → ℕ → ℕ → ℕ → Verdict
moved_rules whole v version floor =
    cond (not whole) (refused_by not_a_board 0)
    (cond (ltb version v) (refused_by mark_ahead 0)
    (cond (ltb v floor) (refused_by mark_too_old 0)
    (accepted_with 0)))

unfoldable pub moved_verdict : Table → List ℕ → ℕ → Verdict
moved_verdict b store v = moved_rules (is_board b (length store)) v b.version b.floor

unfoldable pub moved_answer : Table → List ℕ → ℕ → ℕ → ℕ → Verdict
moved_answer b store from to v =
    kept (moved_verdict b store v).number (moved_verdict b store v) (accepted_with (cond (moved_in b.keys b.versions from to v) 1 0))

-- a call's result, as that verdict
abbrev pub told_of : Result Bool Refusal → Verdict
told_of r = answer_of (λ (yes : Bool). accepted_with (cond yes 1 0)) r
