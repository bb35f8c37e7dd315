-- No follower is fooled.
--
-- A follower asks. It is refused as too old exactly if its mark lies below the floor of the story, and never with another number. Else it is
-- handed the oldest change that it lacks, with its key, its version, its form and its octets; or it is told that it is level, exactly if it lacks none;
-- and told so, it holds exactly the paths last reported and not removed since, in their form and octet for octet, for every key.
use Rattle.std.specs.Prelude.{ℕ, ◌≤◌, ◌<◌, max, ◌≡◌, List, [], ◌↔◌, length}
use Rattle.std.proofs.Math.Option.{none, some}
use Rattle.answers.specs.declared.verdict.Verdict.{Verdict}
use Rattle.answers.specs.Numbers.{key_out_of_range, no_path, mark_too_old}
use Rattle.answers.specs.Verdicts.{refused_by, accepted_with}
use Rattle.board_record.specs.Sizes.{store_size, key_least, key_most}
use Rattle.board_record.specs.Table.{Table, ListsWhole}
use Rattle.board_record.specs.Proper.{Proper}
use Rattle.board_rules.specs.Body.{body_number, body_of, body_form}
use Rattle.follow.specs.Story.{HeldPath, Deed, Story, key_of, leaves, beginning, begun, version, held}
use Rattle.follow.specs.Floor.{floor_of}
use Rattle.follow.specs.Follower.{Follower, Keeps, Lacks, Oldest}
use Rattle.follow.specs.Heard.{Heard, refusal, change, level}
use Rattle.follow.specs.Run.{Act, start, run, answer_to}

-- a follower f that hears a, where the story is h; what it hears is a refusal, a change or that it is level, so these are all cases
pub record Answered (h : Story) (f : Follower) (a : Heard) : Type 0 where
  -- too old exactly if the mark, the larger of s and w, lies below the floor; 23 exactly
  pub too_old : (a ≡ refusal mark_too_old) ↔ (max f.s f.w < floor_of h)
  -- no refusal has another number
  pub no_other : (n : ℕ) → a ≡ refusal n → n ≡ mark_too_old
  -- a change handed out is the oldest that it lacks, with that change's key, version, form and octets
  pub handed : (c : Deed) (v : ℕ) → a ≡ change c v → Oldest h f.s f.w (key_of c) v × (leaves c ≡ held h (key_of c))
  -- level exactly if it is not too old and lacks none, with the story's version
  pub level_if : (v : ℕ) → (a ≡ level v) ↔ ((v ≡ version h) × (floor_of h ≤ max f.s f.w) × ((k : ℕ) → Lacks h f.s f.w k → ⊥))
  -- and told so, it holds what was last reported and not removed since, for every key
  pub holds_all : (v : ℕ) → a ≡ level v → (k : ℕ) → f.holds k ≡ held h k

-- a table and a store to begin with: the lists whole, the table proper, the store long enough
pub record Ready (b : Table) (store : List ℕ) : Type 0 where
  pub sized : ListsWhole b
  pub proper : Proper b
  pub enough : store_size ≤ length store

-- the followers at the start: each holds what its mark says; fresh ones do
abbrev pub KeptBy : Table → List ℕ → (ℕ → Follower) → Type 0
KeptBy b store followers = (n : ℕ) → Keeps (begun (beginning b store)) (followers n)

-- After any acts of anyone, each follower that asks is so answered.
abbrev pub NoFollowerIsFooled : Type 0
NoFollowerIsFooled = (b : Table) (store : List ℕ) (followers : ℕ → Follower) → Ready b store → KeptBy b store followers → (acts : List Act) (n : ℕ) →
    let x = run (start b store followers) acts in Answered x.story (x.followers n) (answer_to x n)

-- ---- beside it: whoever asks the board itself

-- what the body call answers of a key is as the story says: a key that is held gives its path, another key in range gives 22, one out of range 18; a refusal has no octets and
-- no form
pub record BodyGiven (h : Story) (k : ℕ) (number : Verdict) (octets : List ℕ) (form : ℕ) : Type 0 where
  pub path : (path : HeldPath) → held h k ≡ some path → (number ≡ accepted_with 0) × (octets ≡ path.octets) × (form ≡ path.form)
  pub without_path : held h k ≡ none → key_least ≤ k → k ≤ key_most → (number ≡ refused_by no_path 0) × (octets ≡ []) × (form ≡ 0)
  pub no_key : (key_least ≤ k → k ≤ key_most → ⊥) → (number ≡ refused_by key_out_of_range 0) × (octets ≡ []) × (form ≡ 0)

abbrev pub BodiesAreThoseHeld : Type 0
BodiesAreThoseHeld = (b : Table) (store : List ℕ) (followers : ℕ → Follower) → Ready b store → (acts : List Act) (k : ℕ) →
    let x = run (start b store followers) acts in
    BodyGiven x.story k (body_number x.table x.store k) (body_of x.table x.store k) (body_form x.table x.store k)

-- the board's own numbers are the story's
abbrev pub NumbersAreTheStorys : Type 0
NumbersAreTheStorys = (b : Table) (store : List ℕ) (followers : ℕ → Follower) → Ready b store → (acts : List Act) →
    let x = run (start b store followers) acts in (x.table.version ≡ version x.story) × (x.table.floor ≡ floor_of x.story)
