-- Report (document 01, "The board": "Report (key, ERO, session, PST): 17, 18, the route checks, 19, 20, 21").
use Rattle.std.specs.Prelude.{ℕ, ◌*◌, Bool, true, not, cond, List, length, drop, eqb, ltb, leb}
use Rattle.answers.specs.declared.verdict.Verdict.{Verdict}
use Rattle.answers.specs.Numbers.{not_a_board, key_out_of_range, body_too_long, versions_used_up, all_paths}
use Rattle.answers.specs.Verdicts.{refused_by, kept}
use Rattle.octets.specs.Octets.{placed}
use Rattle.session.specs.declared.Session.{Session}
use Rattle.route.specs.Routes.{judge_of}
use Rattle.objects.specs.Objects.{header}
use Rattle.board_record.specs.Sizes.{places, room, version_most}
use Rattle.board_record.specs.Table.{Table, bearing, changed}
use Rattle.board_record.specs.Search.{target_of, floor_after}
use Rattle.board_rules.specs.Rules.{Outcome, is_board, in_range}

-- "a path body (the ERO after its header)"
abbrev pub body_in : List ℕ → List ℕ
body_in octets = drop header octets

-- The first broken rule. `whole`: it is a board; `route`: what the route checks answer, with their place; `n`: octets of the body; `version`: the
-- board's; `target`: the place that the report takes, 128 for none. "Acceptance carries the number of segments", as that of the route does.
unfoldable pub report_rules : Bool → ℕ → Verdict → ℕ → ℕ → ℕ → Verdict
report_rules whole k route n version target =
    cond (not whole) (refused_by not_a_board 0)
    (cond (not (in_range k)) (refused_by key_out_of_range 0)
    (cond (not (eqb route.number 0)) route
    (cond (ltb room n) (refused_by body_too_long 0)
    (cond (eqb version version_most) (refused_by versions_used_up 0)
    (cond (leb places target) (refused_by all_paths 0)
    route)))))

unfoldable pub report_verdict : Table → List ℕ → ℕ → List ℕ → Verdict → Verdict
report_verdict b store k octets route = report_rules (is_board b (length store)) k route (length (body_in octets)) b.version (target_of b k)

-- the table after an accepted report: "each accepted report .. raises the version by 1 and the change bears that"; the path's form is the PST (document 02,
-- C-16)
unfoldable pub reported : Table → ℕ → List ℕ → ℕ → Table
reported b k octets pst = changed b (target_of b k) (bearing b k (length (body_in octets)) pst) (floor_after b k (target_of b k))

-- the answer to a report whose route checks answer `route`; "Every refusal returns its number and place and no other content; board .. as they were"
unfoldable pub report_with : Table → List ℕ → ℕ → List ℕ → Verdict → ℕ → Outcome
report_with b store k octets route pst =
    record { verdict = report_verdict b store k octets route; table = kept (report_verdict b store k octets route).number b (reported b k octets pst) }

-- the store after it: "the body is written at the place's start, and no call here writes other octets of the store"
unfoldable pub store_with : Table → List ℕ → ℕ → List ℕ → Verdict → List ℕ
store_with b store k octets route =
    kept (report_verdict b store k octets route).number store (placed store (room * target_of b k) (body_in octets))

-- "Report (key, ERO, session, PST)": the route checks are those of an ERO under the session and the PST
unfoldable pub report_answer : Table → List ℕ → ℕ → List ℕ → Session → ℕ → Outcome
report_answer b store k octets session pst = report_with b store k octets (judge_of octets true session pst) pst

unfoldable pub report_store : Table → List ℕ → ℕ → List ℕ → Session → ℕ → List ℕ
report_store b store k octets session pst = store_with b store k octets (judge_of octets true session pst)
