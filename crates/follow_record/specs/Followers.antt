-- A run on a record that keeps its places in order: as the run of the crate follow, where the calls are made on the record and the followers ask it. No follower of a record
-- is fooled.
use Rattle.std.specs.Prelude.{ℕ, ◌≡◌, true, cond, List, [], ◌∷◌, length, eqb}
use Rattle.session.specs.declared.Sessions.{Sessions}
use Rattle.board_record.specs.declared.record.Board.{Board}
use Rattle.board_record.specs.Sizes.{places, groups}
use Rattle.board_record.specs.Table.{ListsWhole}
use Rattle.board_record.specs.Record.{table_in}
use Rattle.board_rules.specs.OnRecord.{is_record, remove_on, compact_on, body_number_on, body_on, body_form_on, next_on}
use Rattle.board_report_call.specs.Reported.{report_for_on, report_store_for_on}
use Rattle.follow.specs.Story.{sets, clears, Story, beginning, begun, did, compacted_to, version}
use Rattle.follow.specs.Follower.{Follower, fresh}
use Rattle.follow.specs.Heard.{Heard, heard_in, does, cut_off}
use Rattle.follow.specs.Run.{Act, reported_path, report, remove, compact, begin, ask, ask_cut, told}
use Rattle.follow.specs.Floor.{floor_of}
use Rattle.follow.specs.Promise.{Answered, KeptBy, BodyGiven}
use Rattle.follow.specs.Accepts.{report_said, remove_said, compact_said}

pub record WorldOn : Type 0 where
  pub board : Board
  pub store : List ℕ
  pub story : Story
  pub followers : ℕ → Follower

-- what follower n hears if it asks
abbrev pub answer_to_on : WorldOn → ℕ → Heard
answer_to_on x n = heard_in x.store (next_on x.board x.store (x.followers n).s (x.followers n).w)

abbrev pub following_on : WorldOn → ℕ → Follower → WorldOn
following_on x n f = record { board = x.board; store = x.store; story = x.story; followers = λ m. cond (eqb m n) f (x.followers m) }

unfoldable pub step_on : WorldOn → Act → WorldOn
step_on x (report k octets sessions pst addresses) =
    let a = report_for_on x.board x.store k octets sessions pst addresses in
    record {
      board = a.board;
      store = report_store_for_on x.board x.store k octets sessions pst addresses;
      story = told a.verdict (did (sets k (reported_path octets pst)) x.story) x.story;
      followers = x.followers;
    }
step_on x (remove k) =
    let a = remove_on x.board x.store k in
    record { board = a.board; store = x.store; story = told a.verdict (did (clears k) x.story) x.story; followers = x.followers }
step_on x (compact c) =
    let a = compact_on x.board x.store c in
    record { board = a.board; store = x.store; story = told a.verdict (compacted_to c x.story) x.story; followers = x.followers }
step_on x (begin n) = following_on x n (fresh (table_in x.board))
step_on x (ask n updates) = following_on x n (does (x.followers n) updates (answer_to_on x n))
step_on x (ask_cut n) = following_on x n (cut_off (x.followers n) (answer_to_on x n))

unfoldable pub run_on : WorldOn → List Act → WorldOn
run_on x [] = x
run_on x (a ∷ acts) = run_on (step_on x a) acts

-- a record and a store to begin with: the lists and rows whole, as the types of the code say, and 17 isn't answered
pub record ReadyOn (b : Board) (store : List ℕ) : Type 0 where
  pub sized : ListsWhole (table_in b)
  pub order : length b.order ≡ places
  pub tops : length b.tops ≡ groups
  pub board : is_record b (length store) ≡ true

-- the start: a record with its store, and the followers that there are
abbrev pub start_on : Board → List ℕ → (ℕ → Follower) → WorldOn
start_on b store followers = record { board = b; store = store; story = begun (beginning (table_in b) store); followers = followers }

-- After any acts of anyone, each follower that asks the record is answered as the story says.
abbrev pub NoFollowerOfARecordIsFooled : Type 0
NoFollowerOfARecordIsFooled = (b : Board) (store : List ℕ) (followers : ℕ → Follower) → ReadyOn b store → KeptBy (table_in b) store followers
    → (acts : List Act) (n : ℕ) →
    let x = run_on (start_on b store followers) acts in Answered x.story (x.followers n) (answer_to_on x n)

-- ---- beside it: whoever asks the record itself

-- the body call answers as the story does
abbrev pub BodiesOfARecordAreThoseHeld : Type 0
BodiesOfARecordAreThoseHeld = (b : Board) (store : List ℕ) (followers : ℕ → Follower) → ReadyOn b store → (acts : List Act) (k : ℕ) →
    let x = run_on (start_on b store followers) acts in
    BodyGiven x.story k (body_number_on x.board x.store k) (body_on x.board x.store k) (body_form_on x.board x.store k)

-- report, remove and compact are accepted and refused as the story says
pub record VerdictsOfRecord (h : Story) (b : Board) (store : List ℕ) : Type 0 where
  pub report : (k : ℕ) (octets : List ℕ) (sessions : Sessions) (pst : ℕ) (addresses : List ℕ) →
      (report_for_on b store k octets sessions pst addresses).verdict ≡ report_said h k octets sessions pst addresses
  pub remove : (k : ℕ) → (remove_on b store k).verdict ≡ remove_said h k
  pub compact : (c : ℕ) → (compact_on b store c).verdict ≡ compact_said h c

abbrev pub VerdictsOfARecordAreTheStorys : Type 0
VerdictsOfARecordAreTheStorys = (b : Board) (store : List ℕ) (followers : ℕ → Follower) → ReadyOn b store → (acts : List Act) →
    let x = run_on (start_on b store followers) acts in VerdictsOfRecord x.story x.board x.store

-- its own numbers are the story's
abbrev pub NumbersOfARecordAreTheStorys : Type 0
NumbersOfARecordAreTheStorys = (b : Board) (store : List ℕ) (followers : ℕ → Follower) → ReadyOn b store → (acts : List Act) →
    let x = run_on (start_on b store followers) acts in ((table_in x.board).version ≡ version x.story) × ((table_in x.board).floor ≡ floor_of x.story)
