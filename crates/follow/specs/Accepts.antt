-- Which calls are accepted, by the story: what a report, a removal and a compaction answer after any acts, with no table in sight. So a board that refuses reports for
-- no reason, or takes one too many, has no such story.
use Rattle.std.specs.Prelude.{ℕ, ◌≡◌, Bool, true, not, cond, ◌&&◌, List, length, eqb, ltb, leb}
use Rattle.answers.specs.declared.verdict.Verdict.{Verdict}
use Rattle.answers.specs.Numbers.{key_out_of_range, body_too_long, versions_used_up, all_paths, no_path, mark_ahead, not_usable}
use Rattle.answers.specs.Verdicts.{refused_by, accepted_with}
use Rattle.session.specs.declared.Sessions.{Sessions}
use Rattle.session.specs.Sessions.{session_under}
use Rattle.route.specs.Routes.{judge_of}
use Rattle.route_limit.specs.FirstOff.{session_for}
use Rattle.route_call.specs.Called.{rule28}
use Rattle.board_record.specs.Sizes.{places, room, version_most}
use Rattle.board_record.specs.Lists.{count_below}
use Rattle.board_record.specs.Table.{Table}
use Rattle.board_rules.specs.Rules.{in_range}
use Rattle.board_rules.specs.Report.{body_in}
use Rattle.board_rules.specs.Remove.{remove_answer}
use Rattle.board_rules.specs.Compact.{compact_answer}
use Rattle.board_report_call.specs.Reported.{report_for}
use Rattle.follow.specs.Story.{Story, version, held}
use Rattle.follow.specs.Floor.{is_some, key_end}
use Rattle.follow.specs.Follower.{Follower}
use Rattle.follow.specs.Run.{Act, start, run}
use Rattle.follow.specs.Promise.{Ready}

-- how many keys have a path
unfoldable pub held_count : Story → ℕ
held_count h = count_below (λ k. is_some (held h k)) key_end

-- "21 exactly if the key is new and all 128 hold paths": the key has no path, and 128 others have one
unfoldable pub all_taken : Story → ℕ → Bool
all_taken h k = not (is_some (held h k)) && leb places (held_count h)

-- a report: 28, 18, the route checks, 19, 20, 21
abbrev pub report_said : Story → ℕ → List ℕ → Sessions → ℕ → List ℕ → Verdict
report_said h k octets sessions pst addresses =
    let route = judge_of octets true (session_for octets true (session_under sessions pst) addresses) pst in
    cond (rule28 addresses) (refused_by not_usable 0)
    (cond (not (in_range k)) (refused_by key_out_of_range 0)
    (cond (not (eqb route.number 0)) route
    (cond (ltb room (length (body_in octets))) (refused_by body_too_long 0)
    (cond (eqb (version h) version_most) (refused_by versions_used_up 0)
    (cond (all_taken h k) (refused_by all_paths 0)
    route)))))

-- a removal: 18, 22, 20
abbrev pub remove_said : Story → ℕ → Verdict
remove_said h k =
    cond (not (in_range k)) (refused_by key_out_of_range 0)
    (cond (not (is_some (held h k))) (refused_by no_path 0)
    (cond (eqb (version h) version_most) (refused_by versions_used_up 0)
    (accepted_with 0)))

-- a compaction: 24
abbrev pub compact_said : Story → ℕ → Verdict
compact_said h c = cond (ltb (version h) c) (refused_by mark_ahead 0) (accepted_with 0)

-- After any acts of anyone; 17 never comes.
pub record VerdictsOf (h : Story) (b : Table) (store : List ℕ) : Type 0 where
  pub report : (k : ℕ) (octets : List ℕ) (sessions : Sessions) (pst : ℕ) (addresses : List ℕ) →
      (report_for b store k octets sessions pst addresses).verdict ≡ report_said h k octets sessions pst addresses
  pub remove : (k : ℕ) → (remove_answer b store k).verdict ≡ remove_said h k
  pub compact : (c : ℕ) → (compact_answer b store c).verdict ≡ compact_said h c

abbrev pub VerdictsAreTheStorys : Type 0
VerdictsAreTheStorys = (b : Table) (store : List ℕ) (followers : ℕ → Follower) → Ready b store → (acts : List Act) →
    let x = run (start b store followers) acts in VerdictsOf x.story x.table x.store
