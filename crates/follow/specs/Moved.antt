-- Did anything move in my range? (document 02.) Whoever asks the board is told by its story: yes exactly if some key from a to b had its last change after version v. A path
-- reported, reported again or removed has changed; a removal that was dropped since has changed too, but then the floor is at or above it, so that v is, or the answer is 23.
use Rattle.std.specs.Prelude.{ℕ, ◌≤◌, ◌<◌, ◌≡◌, List, ◌↔◌}
use Rattle.answers.specs.declared.verdict.Verdict.{Verdict}
use Rattle.answers.specs.Numbers.{mark_too_old, mark_ahead}
use Rattle.answers.specs.Verdicts.{refused_by, accepted_with}
use Rattle.board_record.specs.Table.{Table}
use Rattle.board_rules.specs.Moved.{moved_answer}
use Rattle.follow.specs.Story.{Story, version, last}
use Rattle.follow.specs.Floor.{floor_of}
use Rattle.follow.specs.Follower.{Follower}
use Rattle.follow.specs.Run.{Act, start, run}
use Rattle.follow.specs.Promise.{Ready}

-- a key of the range whose last change came after v
pub record Changed (h : Story) (from to v : ℕ) : Type 0 where
  pub key : ℕ
  pub least : from ≤ key
  pub most : key ≤ to
  pub after : v < last h key

-- the answer a, where the story is h
pub record MovedSaid (h : Story) (from to v : ℕ) (a : Verdict) : Type 0 where
  -- 24 exactly if v is above the version
  pub ahead : (a ≡ refused_by mark_ahead 0) ↔ (version h < v)
  -- 23 exactly if it is not, and the floor is above v
  pub too_old : (a ≡ refused_by mark_too_old 0) ↔ ((v ≤ version h) × (v < floor_of h))
  -- else yes exactly if such a key changed after v
  pub yes : (a ≡ accepted_with 1) ↔ ((v ≤ version h) × (floor_of h ≤ v) × Changed h from to v)
  -- and no exactly if none did
  pub no : (a ≡ accepted_with 0) ↔ ((v ≤ version h) × (floor_of h ≤ v) × (Changed h from to v → ⊥))

-- After any acts of anyone.
abbrev pub MovedIsTheStorys : Type 0
MovedIsTheStorys = (b : Table) (store : List ℕ) (followers : ℕ → Follower) → Ready b store → (acts : List Act) (from to v : ℕ) →
    let x = run (start b store followers) acts in MovedSaid x.story from to v (moved_answer x.table x.store from to v)
