-- Did anything move in my range, asked of a record with its rows: told by the story, as of the table.
use Rattle.std.specs.Prelude.{ℕ, List}
use Rattle.board_record.specs.declared.record.Board.{Board}
use Rattle.board_rules.specs.OnRecord.{moved_on}
use Rattle.follow.specs.Follower.{Follower}
use Rattle.follow.specs.Run.{Act}
use Rattle.follow.specs.Moved.{MovedSaid}
use Rattle.follow_record.specs.Followers.{ReadyOn, run_on, start_on}

-- After any acts of anyone.
abbrev pub MovedOnARecordIsTheStorys : Type 0
MovedOnARecordIsTheStorys = (b : Board) (store : List ℕ) (followers : ℕ → Follower) → ReadyOn b store → (acts : List Act) (from to v : ℕ) →
    let x = run_on (start_on b store followers) acts in MovedSaid x.story from to v (moved_on x.board x.store from to v)
