-- The story of a board: what stood at its beginning, then its accepted calls, the newest outermost.
--
-- Only accepted calls are in it, each as the caller made it: a key and a path, a key, or the number c of a compaction. What is
-- defined here is read off these calls and the beginning alone: no later table is looked at, and an empty first table says nothing.
-- "Each accepted report or removal raises the version by 1 and the change bears that": no versions are written beside the deeds.
use Rattle.std.specs.Prelude.{ℕ, suc, cond, List, eqb, ltb}
use Rattle.std.proofs.Math.Option.{Option, none, some}
use Rattle.board_record.specs.Sizes.{places}
use Rattle.board_record.specs.Table.{Table, version_at, form_at}
use Rattle.board_record.specs.Search.{place_of}
use Rattle.board_rules.specs.Rules.{has_path}
use Rattle.board_rules.specs.Body.{octets_at}

-- ---- the calls

-- a path: its form, by the setup type that it was reported under, and its octets, "a path body (the ERO after its header)"
pub record HeldPath : Type 0 where
  pub form : ℕ
  pub octets : List ℕ

-- an accepted report of a key with its path, or an accepted removal of a key
pub data Deed : Type 0 where
  sets : ℕ → HeldPath → Deed
  clears : ℕ → Deed

abbrev pub key_of : Deed → ℕ
key_of (sets k path) = k
key_of (clears k) = k

-- what it leaves under its key
abbrev pub leaves : Deed → Option HeldPath
leaves (sets k path) = some path
leaves (clears k) = none

-- ---- the beginning

-- the version and the floor; for each key the path in force, and the version of its last change, 0 where it has none
pub record Beginning : Type 0 where
  pub version : ℕ
  pub floor : ℕ
  pub held : ℕ → Option HeldPath
  pub last : ℕ → ℕ

-- the path of a place
abbrev pub path_at : Table → List ℕ → ℕ → HeldPath
path_at b store i = record { form = form_at b i; octets = octets_at b store i }

-- what a table with its store begins a story with; its paths count as last reported there
abbrev pub beginning : Table → List ℕ → Beginning
beginning b store = record {
  version = b.version;
  floor = b.floor;
  held = λ k. cond (has_path b k) (some (path_at b store (place_of b k))) none;
  last = λ k. cond (ltb (place_of b k) places) (version_at b (place_of b k)) 0;
}

-- ---- the story

-- begun; then, the last first, accepted reports and removals, and accepted compactions (c)
pub data Story : Type 0 where
  begun : Beginning → Story
  did : Deed → Story → Story
  compacted_to : ℕ → Story → Story

-- the board's version: that of the last change; a compaction bears none
abbrev pub version : Story → ℕ
version (begun o) = o.version
version (did c h) = suc (version h)
version (compacted_to c h) = version h

-- the path last reported under a key and not removed since
unfoldable pub held : Story → ℕ → Option HeldPath
held (begun o) k = o.held k
held (did c h) k = cond (eqb (key_of c) k) (leaves c) (held h k)
held (compacted_to c h) k = held h k

-- the version of a key's last change; 0 where it has none
unfoldable pub last : Story → ℕ → ℕ
last (begun o) k = o.last k
last (did c h) k = cond (eqb (key_of c) k) (suc (version h)) (last h k)
last (compacted_to c h) k = last h k
