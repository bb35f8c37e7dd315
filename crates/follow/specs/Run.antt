-- A run: one table with its store, the story so far, and its followers, one for each number; and the acts that drive it on.
--
-- A call gets any arguments and is accepted or refused by what the board's own definitions answer; it gets the table and the whole store as the last
-- one left them. Of a record with its rows, by the definitions that the contracts of the calls cite: follow_record/specs/Followers. A follower that is cut off makes no act, for as long as it
-- likes; an answer that was lost on the line was no act of the follower; one that is cut off between making a change and keeping its mark has an
-- act of its own; and a run may end anywhere.
use Rattle.std.specs.Prelude.{ℕ, Bool, cond, List, [], ◌∷◌, eqb}
use Rattle.answers.specs.declared.verdict.Verdict.{Verdict}
use Rattle.board_record.specs.Table.{Table}
use Rattle.board_rules.specs.Report.{body_in}
use Rattle.board_report_call.specs.Reported.{report_for, report_store_for}
use Rattle.board_rules.specs.Remove.{remove_answer}
use Rattle.board_rules.specs.Compact.{compact_answer}
use Rattle.board_rules.specs.Next.{next_answer}
use Rattle.session.specs.declared.Sessions.{Sessions}
use Rattle.follow.specs.Story.{HeldPath, sets, clears, Story, beginning, begun, did, compacted_to}
use Rattle.follow.specs.Follower.{Follower, fresh}
use Rattle.follow.specs.Heard.{Heard, heard_in, does, cut_off}

pub record World : Type 0 where
  pub table : Table
  pub store : List ℕ
  pub story : Story
  pub followers : ℕ → Follower

-- ---- the acts

-- Anyone reports (key, ERO, the two sessions, PST, addresses), removes (key) or compacts (c); follower n starts afresh; follower n asks for the next change; follower n
-- asks and is cut off once it has made the change.
pub data Act : Type 0 where
  report : ℕ → List ℕ → Sessions → ℕ → List ℕ → Act
  remove : ℕ → Act
  compact : ℕ → Act
  begin : ℕ → Act
  ask : ℕ → Bool → Act
  ask_cut : ℕ → Act

-- the path of a report: its form is the PST
abbrev pub reported_path : List ℕ → ℕ → HeldPath
reported_path octets pst = record { form = pst; octets = body_in octets }

-- the story goes on where the call was accepted
abbrev pub told : Verdict → Story → Story → Story
told v more h = cond (eqb v.number 0) more h

-- what follower n hears if it asks
abbrev pub answer_to : World → ℕ → Heard
answer_to x n = heard_in x.store (next_answer x.table x.store (x.followers n).s (x.followers n).w)

-- follower n is f from here on; nothing else is touched
abbrev pub following : World → ℕ → Follower → World
following x n f = record { table = x.table; store = x.store; story = x.story; followers = λ m. cond (eqb m n) f (x.followers m) }

unfoldable pub step : World → Act → World
step x (report k octets sessions pst addresses) =
    let a = report_for x.table x.store k octets sessions pst addresses in
    record {
      table = a.table;
      store = report_store_for x.table x.store k octets sessions pst addresses;
      story = told a.verdict (did (sets k (reported_path octets pst)) x.story) x.story;
      followers = x.followers;
    }
step x (remove k) =
    let a = remove_answer x.table x.store k in
    record { table = a.table; store = x.store; story = told a.verdict (did (clears k) x.story) x.story; followers = x.followers }
step x (compact c) =
    let a = compact_answer x.table x.store c in
    record { table = a.table; store = x.store; story = told a.verdict (compacted_to c x.story) x.story; followers = x.followers }
step x (begin n) = following x n (fresh x.table)
step x (ask n updates) = following x n (does (x.followers n) updates (answer_to x n))
step x (ask_cut n) = following x n (cut_off (x.followers n) (answer_to x n))

unfoldable pub run : World → List Act → World
run x [] = x
run x (a ∷ acts) = run (step x a) acts

-- the start: a table with its store, and the followers that there are
abbrev pub start : Table → List ℕ → (ℕ → Follower) → World
start b store followers = record { table = b; store = store; story = begun (beginning b store); followers = followers }

-- every follower fresh; one that comes later begins then
abbrev pub all_fresh : Table → ℕ → Follower
all_fresh b n = fresh b
