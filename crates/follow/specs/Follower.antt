-- A follower: its mark (s, w), and the paths that it holds.
use Rattle.std.specs.Prelude.{ℕ, ◌≤◌, ◌<◌, ◌≡◌, cond, eqb}
use Rattle.std.proofs.Math.Option.{Option, none, some}
use Rattle.board_record.specs.Table.{Table}
use Rattle.board_rules.specs.Next.{fresh_mark}
use Rattle.follow.specs.Story.{HeldPath, Deed, sets, clears, Story, version, held, last}

pub record Follower : Type 0 where
  pub s : ℕ
  pub w : ℕ
  pub holds : ℕ → Option HeldPath

-- ---- what it does

-- "A fresh mark is the board's version for s and 0 for w, with the follower empty."
abbrev pub fresh : Table → Follower
fresh b = record { s = (fresh_mark b).s; w = (fresh_mark b).w; holds = λ k. none }

-- what it holds once a change is made: a report's path stands under its key; a removal leaves none there
abbrev pub made : Deed → (ℕ → Option HeldPath) → ℕ → Option HeldPath
made (sets k path) holds j = cond (eqb k j) (some path) (holds j)
made (clears k) holds j = cond (eqb k j) none (holds j)

-- handed a change of version v, it makes it, and "then sets w to that version"
abbrev pub makes : Follower → Deed → ℕ → Follower
makes f c v = record { s = f.s; w = v; holds = made c f.holds }

-- "when level it may set both to the version answered"
abbrev pub levels : Follower → ℕ → Follower
levels f v = record { s = v; w = v; holds = f.holds }

-- ---- what it holds

-- A follower holds what its mark says. Of a key whose last change is not newer than w: what the story holds. Of a key whose last change is a
-- removal newer than w but not newer than s: nothing. And its mark is not ahead.
pub record Keeps (h : Story) (f : Follower) : Type 0 where
  pub old : (k : ℕ) → last h k ≤ f.w → f.holds k ≡ held h k
  pub away : (k : ℕ) → f.w < last h k → held h k ≡ none → last h k ≤ f.s → f.holds k ≡ none
  pub s_in : f.s ≤ version h
  pub w_in : f.w ≤ version h

-- ---- what it lacks

-- A follower at mark (s, w) lacks the last change of key k: the change is newer than w and, where it is a removal, newer than s too.
-- (A removal up to s is nothing to it: at version s it was fresh, and so empty, or level, and so had made it.)
pub record Lacks (h : Story) (s w k : ℕ) : Type 0 where
  pub newer : w < last h k
  pub needed : held h k ≡ none → s < last h k

-- The last change of key k is the oldest that it lacks, and bears the version v.
pub record Oldest (h : Story) (s w k v : ℕ) : Type 0 where
  pub lacked : Lacks h s w k
  pub first : (j : ℕ) → Lacks h s w j → last h k ≤ last h j
  pub bears : last h k ≡ v
