-- Which calls are accepted is the story's to say: a key has a path on the table exactly if the story holds one, so as many keys are held as places have paths, and a report finds
-- no place exactly if its key has none and all 128 places have paths. Assumes nothing.
use Prim.Native.Nat.{ℕ, ◌≤◌, ◌<◌}
use native.Mathlib.Omega.{arith}
use mathlib.Core.Path.{◌≡◌, refl, sym, ap, ◌∙◌}
use mathlib.Core.Bool.{Bool, true, false, not, cond, ◌&&◌}
use mathlib.Core.List.{List}
use mathlib.Core.Option.{Option, none, some}
use lib.ListN.{length}
use lib.Dec.{eqb, ltb, leb}
use borrow.Author.Tests.{ne_eqb, eqb-false, le-leb, leb-true, lt-ltb, not-true}
use Rattle.answers.specs.declared.verdict.Verdict.{Verdict}
use Rattle.answers.specs.Numbers.{key_out_of_range, body_too_long, versions_used_up, all_paths, not_usable}
use Rattle.answers.specs.Verdicts.{refused_by}
use Rattle.octets.proofs.Said.{both_true}
use Rattle.session.specs.declared.Sessions.{Sessions}
use Rattle.session.specs.Sessions.{session_under}
use Rattle.route.specs.Routes.{judge_of}
use Rattle.route_limit.specs.FirstOff.{session_for}
use Rattle.route_call.specs.Called.{rule28}
use Rattle.board_record.specs.Sizes.{places, room, key_least, version_most}
use Rattle.board_record.specs.Lists.{count_below}
use Rattle.board_record.specs.Table.{Table, key_at, length_at, Used}
use Rattle.board_record.specs.Search.{place_of, target_of}
use Rattle.board_record.proofs.Logic.{true≢false, test_is}
use Rattle.board_record.proofs.Lists.{count_same, count_full, count_less, hits, hits_at, hits_where, count_hits}
use Rattle.board_record.proofs.Proper.{proper_sound}
use Rattle.board_record.proofs.Search.{Full, full_is, is_full, key_place_is}
use Rattle.board_rules.specs.Rules.{outcome_of, in_range, has_path}
use Rattle.board_rules.proofs.Verdicts.{range_passed}
use Rattle.board_rules.specs.Report.{body_in, report_rules, report_verdict, report_with, report_answer}
use Rattle.board_rules.specs.Remove.{remove_rules, remove_verdict, remove_answer}
use Rattle.board_rules.specs.Compact.{compact_rules, compact_verdict, compact_answer}
use Rattle.board_report_call.specs.Reported.{report_for}
use Rattle.follow.specs.Story.{HeldPath, Story, version, held}
use Rattle.follow.specs.Floor.{is_some, key_end}
use Rattle.follow.specs.Run.{World, start, run}
use Rattle.follow.specs.Accepts.{held_count, all_taken, report_said, remove_said, compact_said, VerdictsAreTheStorys}
use Rattle.follow.proofs.Begun.{path_there}
use Rattle.follow.proofs.Table.{StandsFor}
use Rattle.follow.proofs.Theorem.{Good, is_board_lem, good_run, good_start}
use Rattle.follow.proofs.Bodies.{kept_at, without_path}

module _ (b : Table) (store : List ℕ) (h : Story) (r : StandsFor b store h) where
  -- a place has a path
  abbrev full? : ℕ → Bool
  full? i = not (eqb (length_at b i) 0)

  full_length : (i : ℕ) → full? i ≡ true → length_at b i ≡ 0 → ⊥
  full_length i e = eqb-false (length_at b i) 0 (not-true (eqb (length_at b i) 0) e)

  full_used : (i : ℕ) → i < places → full? i ≡ true → Used b i
  full_used i l e z = full_length i e ((proper_sound b r.proper i l).none z).1

  -- its key is held
  full_held : (i : ℕ) → i < places → full? i ≡ true → is_some (held h (key_at b i)) ≡ true
  full_held i l e = ap is_some ((r.here i l (full_used i l e)).1 ∙ path_there b store i (full_length i e))

  -- a key is held exactly if a place has its path
  held_has : (k : ℕ) → is_some (held h k) ≡ hits full? (key_at b) places k
  held_has k = test_is (is_some (held h k)) (hits full? (key_at b) places k) (λ e. go (held h k) refl e)
      (λ e. let y = hits_where full? (key_at b) places k e in ap (λ (j : ℕ). is_some (held h j)) (sym y.is) ∙ full_held y.at y.here y.passes)
    where
      go : (o : Option HeldPath) → held h k ≡ o → is_some (held h k) ≡ true → hits full? (key_at b) places k ≡ true
      go none q e = absurd (true≢false (sym e ∙ ap is_some q))
      go (some path) q e =
          let y = kept_at b store h k path r q in
          hits_at full? (key_at b) places k
          (record { at = place_of b k; here = y.place; passes = rw (ne_eqb (length_at b (place_of b k)) 0 y.long); is = (key_place_is b k y.place).key })

  -- as many keys are held as places have paths
  held_count_lem : held_count h ≡ count_below full? places
  unfolding held_count
  held_count_lem =
      count_same (hits full? (key_at b) places) (λ k. is_some (held h k)) key_end (λ k l. held_has k)
      ∙ count_hits full? (key_at b) places key_end (λ j l e. omega (arith, (proper_sound b r.proper j l).key))
      (λ i j l m e f. r.proper.keys_distinct i j l m (full_used i l e))

  -- 22: the key has no path
  path_told : (k : ℕ) → key_least ≤ k → has_path b k ≡ is_some (held h k)
  unfolding has_path
  path_told k low = go (held h k) refl
    where
      go : (o : Option HeldPath) → held h k ≡ o → has_path b k ≡ is_some o
      go none q = without_path b store h k r low q
      go (some path) q = let y = kept_at b store h k path r q in rw (lt-ltb (place_of b k) places y.place, ne_eqb (length_at b (place_of b k)) 0 y.long)

  -- 21: it has none, and every place has one
  full_told : (k : ℕ) → key_least ≤ k → leb places (target_of b k) ≡ all_taken h k
  unfolding all_taken
  full_told k low = test_is (leb places (target_of b k)) (not (is_some (held h k)) && leb places (held_count h)) taken full
    where
      taken : leb places (target_of b k) ≡ true → not (is_some (held h k)) && leb places (held_count h) ≡ true
      taken e =
          let f = full_is b k (leb-true places (target_of b k) e) in
          let c = count_full full? places (λ j l. rw (ne_eqb (length_at b j) 0 (f.paths j l).body)) in
          go f (held h k) refl (le-leb places (held_count h) (omega (arith, held_count_lem)))
        where
          go : Full b k → (o : Option HeldPath) → held h k ≡ o → leb places (held_count h) ≡ true → not (is_some o) && leb places (held_count h) ≡ true
          go f none q m = m
          go f (some path) q m = let y = kept_at b store h k path r q in absurd (f.new (place_of b k) y.place (key_place_is b k y.place).key)

      full : not (is_some (held h k)) && leb places (held_count h) ≡ true → leb places (target_of b k) ≡ true
      full e =
          let t = both_true (not (is_some (held h k))) (leb places (held_count h)) e in
          let c = leb-true places (held_count h) t.1 in
          let paths : (j : ℕ) → j < places → full? j ≡ true = λ j l. all_full j l (full? j) refl c in
          le-leb places (target_of b k)
          (is_full b k
          (record {
            new = λ j l q. true≢false (sym (ap (λ (i : ℕ). is_some (held h i)) (sym q) ∙ full_held j l (paths j l)) ∙ not-true (is_some (held h k)) t.0);
            paths = λ j l. record { used = full_used j l (paths j l); body = full_length j (paths j l) };
          }))
        where
          all_full : (j : ℕ) → j < places → (y : Bool) → full? j ≡ y → places ≤ held_count h → full? j ≡ true
          all_full j l true q c = q
          all_full j l false q c = absurd (omega (arith, held_count_lem, count_less full? places j l q))

-- ---- the calls

-- two chains of rules that are the same for a key in range, behind 18
ranged_same : (k : ℕ) (out a c : Verdict) → (key_least ≤ k → a ≡ c) → cond (not (in_range k)) out a ≡ cond (not (in_range k)) out c
ranged_same k out a c f = go (in_range k) refl
  where
    go : (t : Bool) → in_range k ≡ t → cond (not t) out a ≡ cond (not t) out c
    go true e = f (range_passed k (ap not e)).0
    go false e = refl

module _ (x : World) (g : Good x) where
  report_told : (k : ℕ) (octets : List ℕ) (sessions : Sessions) (pst : ℕ) (addresses : List ℕ)
      → (report_for x.table x.store k octets sessions pst addresses).verdict ≡ report_said x.story k octets sessions pst addresses
  unfolding report_for report_answer report_with report_verdict report_rules
  report_told k octets sessions pst addresses = go (rule28 addresses)
    where
      go : (t : Bool)
          → (let under = session_for octets true (session_under sessions pst) addresses in
          let route = judge_of octets true under pst in
          (cond t (outcome_of (refused_by not_usable 0) x.table) (report_answer x.table x.store k octets under pst)).verdict
          ≡ cond t (refused_by not_usable 0)
          (cond (not (in_range k)) (refused_by key_out_of_range 0)
          (cond (not (eqb route.number 0)) route
          (cond (ltb room (length (body_in octets))) (refused_by body_too_long 0)
          (cond (eqb (version x.story) version_most) (refused_by versions_used_up 0)
          (cond (all_taken x.story k) (refused_by all_paths 0)
          route))))))
      go true = refl
      go false =
          rw (is_board_lem x g, ← g.stands.version_is)
          (ranged_same k (refused_by key_out_of_range 0) _ _ (λ low. rw (full_told x.table x.store x.story g.stands k low)))

  remove_told : (k : ℕ) → (remove_answer x.table x.store k).verdict ≡ remove_said x.story k
  unfolding remove_answer remove_verdict remove_rules
  remove_told k =
      rw (is_board_lem x g, ← g.stands.version_is)
      (ranged_same k (refused_by key_out_of_range 0) _ _ (λ low. rw (path_told x.table x.store x.story g.stands k low)))

  compact_told : (c : ℕ) → (compact_answer x.table x.store c).verdict ≡ compact_said x.story c
  unfolding compact_answer compact_verdict compact_rules
  compact_told c = rw (is_board_lem x g, ← g.stands.version_is)

pub verdicts_are_the_storys : VerdictsAreTheStorys
verdicts_are_the_storys b store followers g acts =
    let y = run (start b store followers) acts in
    let p = good_run (start b store followers) acts (good_start b store followers g) in
    record { report = report_told y p; remove = remove_told y p; compact = compact_told y p }
