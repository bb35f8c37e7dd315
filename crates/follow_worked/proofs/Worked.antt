-- The worked history, computed on the table, the store and the story: each call on the table that the last one left, then each ask, then what a
-- follower that asks holds. Assumes nothing.
use Prim.Native.Nat.{ℕ}
use native.Mathlib.Omega.{arith}
use mathlib.Core.Path.{◌≡◌, refl, sym, ap, ◌∙◌}
use mathlib.Core.Bool.{true}
use mathlib.Core.List.{List, [], ◌∷◌, ◌++◌}
use mathlib.Core.Option.{Option, none, some}
use lib.ListN.{replicate}
use Rattle.answers.specs.Numbers.{mark_too_old}
use Rattle.answers.specs.Verdicts.{accepted_with}
use Rattle.octets.specs.Octets.{octet_of, be16, part, placed, over}
use Rattle.objects.specs.Objects.{srv6_setup, mpls_setup}
use Rattle.session.specs.Sessions.{session_under}
use Rattle.forms.specs.Forms.{flag_in, nai_length, knows}
use Rattle.subobject.specs.Layout.{expected_length, kind_of, head_of, head_at}
use Rattle.subobject.specs.Rules.{rule7, rule8, rule9, malformed, rule10, rule11, has_structure, has_label, label_at, time_at, rule29, rule30, sum_at}
use Rattle.subobject_strays.specs.Strays.{stray_flags, structure_flags, reserved_octets, strays_at}
use Rattle.frame.specs.Frames.{headed, fits_in, apart, apart_of, rule4, rule5, rule6_place, rule6, rule14}
use Rattle.route.specs.Routes.{rule13, rule12, judge_as, judge_of}
use Rattle.head_end.specs.Addresses.{usable_list}
use Rattle.route_limit.specs.FirstOff.{under_limit, session_for}
use Rattle.route_limit.proofs.Laws.{no_address}
use Rattle.route_call.specs.Called.{rule28}
use Rattle.board_report_call.specs.Reported.{report_for, report_store_for}
use Rattle.board_record.specs.Sizes.{store_size, body_least}
use Rattle.board_record.specs.Table.{Table, table_of, empty_table, removal_b}
use Rattle.board_record.specs.Search.{first_where, least_where, place_in, oldest_of, target_of, floor_after, wanted_b, next_of}
use Rattle.board_record.specs.Proper.{all_below, path_ok, place_ok, sound_b, fresh_b, new_b, distinct_b, proper_b}
use Rattle.board_record.proofs.Proper.{empty_sized, empty_proper}
use Rattle.board_rules.specs.Rules.{is_board, in_range, has_path}
use Rattle.board_rules.specs.Report.{report_rules, report_verdict, reported, report_with, store_with, report_answer, report_store}
use Rattle.board_rules.specs.Remove.{remove_rules, remove_verdict, removed, remove_answer}
use Rattle.board_record.specs.Lists.{row}
use Rattle.board_rules.specs.Compact.{compact_rules, compact_verdict, dropped, compacted, compact_answer}
use Rattle.board_rules.specs.Next.{next_rules, next_verdict, change_at, handed_at, next_answer}
use Rattle.follow.specs.Story.{HeldPath, sets, clears, did, compacted_to, version, held, last}
use Rattle.follow.specs.Follower.{Follower, fresh, makes, levels}
use Rattle.follow.specs.Floor.{floor_of}
use Rattle.follow.specs.Heard.{Heard, heard_in, refusal, change, level, does}
use Rattle.follow.specs.Run.{World, report, remove, compact, step, run, all_fresh}
use Rattle.follow.specs.Promise.{Ready}
use Rattle.follow.proofs.Theorem.{numbers_are_the_storys}
use Rattle.follow_worked.specs.Example.{
  first_body,
  second_body,
  path_a,
  path_b,
  object_a,
  object_b,
  agreed,
  mpls_agreed,
  sessions,
  key_a,
  key_b,
  calls,
  dawn,
  noon,
  dusk,
  hears,
  WhatIsHeard,
  asks,
  early,
  Has,
  HeldAtNoon,
  HeldAtDusk,
}

-- ---- the record and the store after each call

abbrev table1 : Table
table1 = table_of (7 ∷ replicate 127 0) (1 ∷ replicate 127 0) (24 ∷ replicate 127 0) 1 0 (3 ∷ replicate 127 0)

abbrev table2 : Table
table2 = table_of (7 ∷ 9 ∷ replicate 126 0) (1 ∷ 2 ∷ replicate 126 0) (24 ∷ 8 ∷ replicate 126 0) 2 0 (3 ∷ 1 ∷ replicate 126 0)

abbrev table3 : Table
table3 = table_of (7 ∷ 9 ∷ replicate 126 0) (3 ∷ 2 ∷ replicate 126 0) (0 ∷ 8 ∷ replicate 126 0) 3 0 (0 ∷ 1 ∷ replicate 126 0)

abbrev table4 : Table
table4 = table_of (0 ∷ 9 ∷ replicate 126 0) (0 ∷ 2 ∷ replicate 126 0) (0 ∷ 8 ∷ replicate 126 0) 3 3 (0 ∷ 1 ∷ replicate 126 0)

abbrev store1 : List ℕ
store1 = first_body ++ replicate 49128 0

abbrev store2 : List ℕ
store2 = first_body ++ (replicate 360 0 ++ (second_body ++ replicate 48760 0))

-- ---- what each call answers

-- neither flag is agreed, and no address given
own_limit_a : session_for object_a true (session_under sessions srv6_setup) [] ≡ agreed
unfolding session_for session_under
own_limit_a = ap (under_limit agreed) (no_address object_a true agreed [] refl)

own_limit_b : session_for object_b true (session_under sessions mpls_setup) [] ≡ mpls_agreed
unfolding session_for session_under
own_limit_b = ap (under_limit mpls_agreed) (no_address object_b true mpls_agreed [] refl)

judged_a : judge_of object_a true agreed srv6_setup ≡ accepted_with 1
unfolding judge_of judge_as rule4 headed fits_in apart apart_of rule5 rule6_place rule6 rule14 rule13 rule12 rule7 rule8 rule9 malformed rule10 rule11 has_structure has_label label_at time_at rule29
    rule30 sum_at flag_in nai_length knows expected_length kind_of head_of head_at octet_of be16 stray_flags structure_flags reserved_octets strays_at
judged_a = refl

judged_b : judge_of object_b true mpls_agreed mpls_setup ≡ accepted_with 1
unfolding judge_of judge_as rule4 headed fits_in apart apart_of rule5 rule6_place rule6 rule14 rule13 rule12 rule7 rule8 rule9 malformed rule10 rule11 has_structure has_label label_at time_at rule29
    rule30 sum_at flag_in nai_length knows expected_length kind_of head_of head_at octet_of be16 stray_flags structure_flags reserved_octets strays_at
judged_b = refl

report1 : report_with empty_table (replicate store_size 0) key_a object_a (accepted_with 1) srv6_setup ≡ record { verdict = accepted_with 1; table = table1 }
unfolding report_with report_verdict report_rules reported is_board in_range proper_b sound_b place_ok path_ok body_least distinct_b new_b fresh_b all_below
    target_of place_in oldest_of first_where least_where floor_after removal_b
report1 = refl

stored1 : store_with empty_table (replicate store_size 0) key_a object_a (accepted_with 1) ≡ store1
unfolding store_with report_verdict report_rules is_board in_range proper_b sound_b place_ok path_ok body_least distinct_b new_b fresh_b all_below target_of place_in
    oldest_of first_where least_where removal_b placed over
stored1 = refl

report2 : report_with table1 store1 key_b object_b (accepted_with 1) mpls_setup ≡ record { verdict = accepted_with 1; table = table2 }
unfolding report_with report_verdict report_rules reported is_board in_range proper_b sound_b place_ok path_ok body_least distinct_b new_b fresh_b all_below
    target_of place_in oldest_of first_where least_where floor_after removal_b
report2 = refl

stored2 : store_with table1 store1 key_b object_b (accepted_with 1) ≡ store2
unfolding store_with report_verdict report_rules is_board in_range proper_b sound_b place_ok path_ok body_least distinct_b new_b fresh_b all_below target_of place_in
    oldest_of first_where least_where removal_b placed over
stored2 = refl

remove3 : remove_answer table2 store2 key_a ≡ record { verdict = accepted_with 0; table = table3 }
unfolding remove_answer remove_verdict remove_rules removed is_board in_range has_path proper_b sound_b place_ok path_ok body_least distinct_b new_b fresh_b all_below place_in first_where
remove3 = refl

compact4 : compact_answer table3 store2 3 ≡ record { verdict = accepted_with 0; table = table4 }
unfolding compact_answer compact_verdict compact_rules compacted dropped row is_board proper_b sound_b place_ok path_ok body_least distinct_b new_b fresh_b all_below removal_b
compact4 = refl

-- ---- the worlds

abbrev at1 : World
at1 = record { table = table1; store = store1; story = did (sets key_a path_a) dawn.story; followers = dawn.followers }

abbrev at2 : World
at2 = record { table = table2; store = store2; story = did (sets key_b path_b) at1.story; followers = dawn.followers }

abbrev at3 : World
at3 = record { table = table3; store = store2; story = did (clears key_a) at2.story; followers = dawn.followers }

abbrev at4 : World
at4 = record { table = table4; store = store2; story = compacted_to 3 at3.story; followers = dawn.followers }

step1 : step dawn (report key_a object_a sessions srv6_setup []) ≡ at1
unfolding step report_for report_store_for rule28 usable_list report_answer report_store
step1 = rw (own_limit_a, judged_a, report1, stored1)

step2 : step at1 (report key_b object_b sessions mpls_setup []) ≡ at2
unfolding step report_for report_store_for rule28 usable_list report_answer report_store
step2 = rw (own_limit_b, judged_b, report2, stored2)

step3 : step at2 (remove key_a) ≡ at3
unfolding step
step3 = rw remove3

step4 : step at3 (compact 3) ≡ at4
unfolding step
step4 = rw compact4

noon_is : noon ≡ at3
unfolding run
noon_is = rw (step1, step2, step3)

dusk_is : dusk ≡ at4
unfolding run
dusk_is = rw (step1, step2, step3, step4)

-- ---- what each mark hears

heard3 : (heard_in store2 (next_answer table3 store2 1 1) ≡ change (sets key_b path_b) 2)
    × (heard_in store2 (next_answer table3 store2 1 2) ≡ change (clears key_a) 3)
    × (heard_in store2 (next_answer table3 store2 1 3) ≡ level 3)
unfolding next_answer next_verdict next_rules handed_at change_at next_of least_where wanted_b is_board proper_b sound_b place_ok path_ok body_least distinct_b new_b fresh_b all_below part
heard3 = (refl, refl, refl)

heard4 : (heard_in store2 (next_answer table4 store2 2 2) ≡ refusal mark_too_old) × (heard_in store2 (next_answer table4 store2 3 3) ≡ level 3)
    × (heard_in store2 (next_answer table4 store2 3 0) ≡ change (sets key_b path_b) 2) × (heard_in store2 (next_answer table4 store2 3 2) ≡ level 3)
unfolding next_answer next_verdict next_rules handed_at change_at next_of least_where wanted_b is_board proper_b sound_b place_ok path_ok body_least distinct_b new_b fresh_b all_below part
heard4 = (refl, refl, refl, refl)

pub worked : WhatIsHeard
worked = (
  ap (λ (x : World). hears x 1 1) noon_is ∙ heard3.0,
  ap (λ (x : World). hears x 1 2) noon_is ∙ heard3.1,
  ap (λ (x : World). hears x 1 3) noon_is ∙ heard3.2,
  ap (λ (x : World). hears x 2 2) dusk_is ∙ heard4.0,
  ap (λ (x : World). hears x 3 3) dusk_is ∙ heard4.1,
  ap (λ (x : World). hears x 3 0) dusk_is ∙ heard4.2,
  ap (λ (x : World). hears x 3 2) dusk_is ∙ heard4.3,
)

-- ---- what a follower holds after each answer

-- what it does, by what it hears
asked : (x : World) (f : Follower) (a : Heard) → hears x f.s f.w ≡ a → asks x f ≡ does f true a
asked x f a e = rw e

-- the early one after its first, second and third ask
abbrev second : Follower
second = makes early (sets key_b path_b) 2

abbrev third : Follower
third = makes second (clears key_a) 3

first_ask : asks noon early ≡ second
first_ask = asked noon early _ worked.0

second_ask : asks noon (asks noon early) ≡ third
second_ask = ap (asks noon) first_ask ∙ asked noon second _ worked.1

third_ask : asks noon (asks noon (asks noon early)) ≡ levels third 3
third_ask = ap (asks noon) second_ask ∙ asked noon third _ worked.2

has : (f g : Follower) (s w : ℕ) (a b : Option HeldPath) → f ≡ g → Has g s w a b → Has f s w a b
has f g s w a b e h = rw e h

pub held_at_noon : HeldAtNoon
held_at_noon = (
  record { s_is = refl; w_is = refl; holds_a = refl; holds_b = refl },
  has _ _ _ _ _ _ first_ask (record { s_is = refl; w_is = refl; holds_a = refl; holds_b = refl }),
  has _ _ _ _ _ _ second_ask (record { s_is = refl; w_is = refl; holds_a = refl; holds_b = refl }),
  has _ _ _ _ _ _ third_ask (record { s_is = refl; w_is = refl; holds_a = refl; holds_b = refl }),
)

-- one that begins at dusk, and after its first ask
abbrev late : Follower
late = record { s = 3; w = 0; holds = λ k. none }

abbrev later : Follower
later = makes late (sets key_b path_b) 2

late_is : fresh dusk.table ≡ late
late_is = ap (λ (x : World). fresh x.table) dusk_is

late_ask : asks dusk (fresh dusk.table) ≡ later
late_ask = ap (asks dusk) late_is ∙ asked dusk late _ worked.5

later_ask : asks dusk (asks dusk (fresh dusk.table)) ≡ levels later 3
later_ask = ap (asks dusk) late_ask ∙ asked dusk later _ worked.6

last_ask : asks dusk (asks noon (asks noon (asks noon early))) ≡ levels third 3
last_ask = ap (asks dusk) third_ask ∙ asked dusk (levels third 3) _ worked.4

pub held_at_dusk : HeldAtDusk
held_at_dusk = (
  has _ _ _ _ _ _ late_is (record { s_is = refl; w_is = refl; holds_a = refl; holds_b = refl }),
  has _ _ _ _ _ _ late_ask (record { s_is = refl; w_is = refl; holds_a = refl; holds_b = refl }),
  has _ _ _ _ _ _ later_ask (record { s_is = refl; w_is = refl; holds_a = refl; holds_b = refl }),
  has _ _ _ _ _ _ last_ask (record { s_is = refl; w_is = refl; holds_a = refl; holds_b = refl }),
)

-- ---- what the story says

-- A is held by nobody and B's path is in force; A's last change is 3 and B's is 2
pub told_at_noon :
    (version noon.story ≡ 3)
    × (held noon.story key_a ≡ none)
    × (held noon.story key_b ≡ some path_b)
    × (last noon.story key_a ≡ 3)
    × (last noon.story key_b ≡ 2)
unfolding held last
told_at_noon = rw noon_is (refl, refl, refl, refl, refl)

-- the floor is 0, and 3 after the compaction
pub floors : (floor_of noon.story ≡ 0) × (floor_of dusk.story ≡ 3)
floors =
    let g : Ready empty_table (replicate store_size 0) = record { sized = empty_sized; proper = empty_proper; enough = omega arith } in (
      sym (numbers_are_the_storys empty_table (replicate store_size 0) (all_fresh empty_table) g calls).1 ∙ ap (λ (x : World). x.table.floor) noon_is,
      sym (numbers_are_the_storys empty_table (replicate store_size 0) (all_fresh empty_table) g (calls ++ (compact 3 ∷ []))).1
          ∙ ap (λ (x : World). x.table.floor) dusk_is,
    )
