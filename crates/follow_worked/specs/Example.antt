-- The worked history of document 01: report A, report B, remove A; later compact 3. A has SRv6's form and B that of MPLS (document 02, C-16). What
-- each mark then hears, and what a follower holds after each answer, is computed from the definitions in proofs/Worked.antt.
use Rattle.std.specs.Prelude.{ℕ, ◌≡◌, true, false, cond, List, [], ◌∷◌, ◌++◌, replicate, eqb, None, Some}
use Rattle.std.proofs.Math.Option.{Option, none, some}
use Rattle.answers.specs.Numbers.{mark_too_old}
use Rattle.board_record.specs.Sizes.{store_size}
use Rattle.board_record.specs.Table.{empty_table}
use Rattle.board_rules.specs.Next.{next_answer}
use Rattle.session.specs.declared.Session.{Session}
use Rattle.session.specs.declared.Sessions.{Sessions}
use Rattle.objects.specs.Objects.{srv6_setup, mpls_setup}
use Rattle.follow.specs.Story.{HeldPath, sets, clears}
use Rattle.follow.specs.Follower.{Follower, fresh}
use Rattle.follow.specs.Heard.{Heard, refusal, change, level, heard_in, does}
use Rattle.follow.specs.Run.{World, Act, report, remove, compact, start, all_fresh, run}

-- A's path, reported under setup type 3: the body of object E of document 01, with another SID
abbrev pub first_body : List ℕ
first_body =
    0x28 ∷ 0x18 ∷ 0x00 ∷ 0x02 ∷ 0x00 ∷ 0x00 ∷ 0x00 ∷ 0x01
    ∷ 0x20 ∷ 0x01 ∷ 0x0D ∷ 0xB8 ∷ 0x00 ∷ 0x00 ∷ 0x00 ∷ 0x01 ∷ 0x00 ∷ 0x00 ∷ 0x00 ∷ 0x00 ∷ 0x00 ∷ 0x00 ∷ 0x00 ∷ 0x01 ∷ []

abbrev pub path_a : HeldPath
path_a = record { form = srv6_setup; octets = first_body }

-- B's path, under setup type 1: one segment without an NAI, with M and label 16, as routers send it
abbrev pub second_body : List ℕ
second_body = 0x24 ∷ 0x08 ∷ 0x00 ∷ 0x09 ∷ 0x00 ∷ 0x01 ∷ 0x01 ∷ 0x00 ∷ []

abbrev pub path_b : HeldPath
path_b = record { form = mpls_setup; octets = second_body }

-- the objects
abbrev pub object_a : List ℕ
object_a = 0x07 ∷ 0x10 ∷ 0x00 ∷ 0x1C ∷ first_body

abbrev pub object_b : List ℕ
object_b = 0x07 ∷ 0x10 ∷ 0x00 ∷ 0x0C ∷ second_body

-- the session of O and O: SRv6 agreed, N 0, limit 4 by H.Encaps, neither flag
abbrev pub agreed : Session
agreed = record { agreed = true; n = false; limit = Some 4; a = false; r = false; v = Some 4; m = None }

-- and of two that agree on MPLS, with a depth of 2
abbrev pub mpls_agreed : Session
mpls_agreed = record { agreed = true; n = false; limit = Some 2; a = false; r = false; v = None; m = None }

abbrev pub sessions : Sessions
sessions = record { srv6 = agreed; mpls = mpls_agreed }

-- keys A and B
abbrev pub key_a : ℕ
key_a = 7

abbrev pub key_b : ℕ
key_b = 9

abbrev pub calls : List Act
calls = report key_a object_a sessions srv6_setup [] ∷ report key_b object_b sessions mpls_setup [] ∷ remove key_a ∷ []

-- the empty table with a store of 49,152 octets, every follower fresh
abbrev pub dawn : World
dawn = start empty_table (replicate store_size 0) (all_fresh empty_table)

-- after the three calls, and after the compaction
abbrev pub noon : World
noon = run dawn calls

abbrev pub dusk : World
dusk = run dawn (calls ++ (compact 3 ∷ []))

-- what a mark hears
abbrev pub hears : World → ℕ → ℕ → Heard
hears x s w = heard_in x.store (next_answer x.table x.store s w)

-- "Mark (1, 1): B at 2, A removed at 3, level. Compact 3: (2, 2) is 23, (3, 3) level, fresh (3, 0): B, level."
abbrev pub WhatIsHeard : Type 0
WhatIsHeard =
    (hears noon 1 1 ≡ change (sets key_b path_b) 2)
    × (hears noon 1 2 ≡ change (clears key_a) 3)
    × (hears noon 1 3 ≡ level 3)
    × (hears dusk 2 2 ≡ refusal mark_too_old)
    × (hears dusk 3 3 ≡ level 3)
    × (hears dusk 3 0 ≡ change (sets key_b path_b) 2)
    × (hears dusk 3 2 ≡ level 3)

-- ---- what a follower holds after each answer

-- it asks, and does what it does
abbrev pub asks : World → Follower → Follower
asks x f = does f true (hears x f.s f.w)

-- the follower that was level after the first report
abbrev pub early : Follower
early = record { s = 1; w = 1; holds = λ k. cond (eqb k key_a) (some path_a) none }

-- a follower with mark (s, w) that holds a under A and b under B
pub record Has (f : Follower) (s w : ℕ) (a b : Option HeldPath) : Type 0 where
  pub s_is : f.s ≡ s
  pub w_is : f.w ≡ w
  pub holds_a : f.holds key_a ≡ a
  pub holds_b : f.holds key_b ≡ b

-- at noon: A; A and B; B; B, level, with the mark at 3
abbrev pub HeldAtNoon : Type 0
HeldAtNoon =
    Has early 1 1 (some path_a) none
    × Has (asks noon early) 1 2 (some path_a) (some path_b)
    × Has (asks noon (asks noon early)) 1 3 none (some path_b)
    × Has (asks noon (asks noon (asks noon early))) 3 3 none (some path_b)

-- at dusk one begins: nothing; B; B, level. The one that was level stays so.
abbrev pub HeldAtDusk : Type 0
HeldAtDusk =
    Has (fresh dusk.table) 3 0 none none
    × Has (asks dusk (fresh dusk.table)) 3 2 none (some path_b)
    × Has (asks dusk (asks dusk (fresh dusk.table))) 3 3 none (some path_b)
    × Has (asks dusk (asks noon (asks noon (asks noon early)))) 3 3 none (some path_b)
