-- A beginning in order. Only laws on the way to the promises cite it; no promise rests on it: that of every proper table is (proofs/Begun).
use Rattle.std.specs.Prelude.{ℕ, ◌≤◌, ◌<◌, ◌≡◌}
use Rattle.std.proofs.Math.Option.{none}
use Rattle.follow.specs.Story.{Beginning, Story, begun, did, compacted_to}

-- a beginning in order: no last change is above the version, no two keys share one, and a key without one has no path
pub record Ordered (o : Beginning) : Type 0 where
  pub last_most : (k : ℕ) → o.last k ≤ o.version
  pub last_apart : (j k : ℕ) → o.last j ≡ o.last k → 0 < o.last j → j ≡ k
  pub none_held : (k : ℕ) → o.last k ≤ 0 → o.held k ≡ none

-- what a story began with
abbrev pub beginning_of : Story → Beginning
beginning_of (begun o) = o
beginning_of (did c h) = beginning_of h
beginning_of (compacted_to c h) = beginning_of h
