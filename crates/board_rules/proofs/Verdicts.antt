-- When a call answers which number: the passed rules of an acceptance, and the numbers that 01 gives exactly. A call's rules are a chain of tests, so an
-- acceptance says that each was passed (`rule_passed`), and a number that all rules before it let pass is answered exactly if its own test says so.
-- Assumes nothing.
use Prim.Native.Nat.{ℕ, suc, ◌<◌, ◌≤◌, max}
use native.Mathlib.Omega.{arith}
use mathlib.Core.Path.{◌≡◌, refl, sym, ap, ◌∙◌}
use mathlib.Core.Bool.{Bool, true, false, not, cond, ◌&&◌}
use mathlib.Core.List.{List}
use mathlib.Core.Logic.{◌⊎◌, ⊎_elim}
use lib.ListN.{length}
use lib.Dec.{eqb, ltb, leb}
use borrow.Author.Tests.{eq-eqb, ne_eqb, eqb-true, eqb-false, lt-ltb, le-ltb, ltb-true, ltb-false, le-leb, lt-leb, leb-true, leb-false, not-true, not-false}
use Rattle.answers.specs.declared.verdict.Verdict.{Verdict}
use Rattle.answers.specs.Numbers.{all_paths, mark_too_old}
use Rattle.answers.specs.Verdicts.{refused_by, accepted_with}
use Rattle.board_record.specs.Sizes.{places, room, store_size, key_least, key_most, version_most}
use Rattle.board_record.specs.Table.{Table, length_at, PathAt}
use Rattle.board_record.specs.Search.{place_of, KeyPlace, target_of}
use Rattle.board_record.specs.Proper.{Proper, proper_b}
use Rattle.octets.proofs.Said.{both_true}
use Rattle.board_record.proofs.Logic.{from?}
use Rattle.board_record.proofs.Search.{key_place_is, key_place_found, Full, full_is, is_full}
use Rattle.board_record.proofs.Proper.{proper_is, is_proper}
use Rattle.board_rules.specs.Rules.{is_board, in_range, has_path}
use Rattle.board_rules.specs.Report.{body_in, report_rules, report_verdict}
use Rattle.board_rules.specs.Remove.{remove_rules, remove_verdict}
use Rattle.board_rules.specs.Compact.{compact_rules, compact_verdict}
use Rattle.board_rules.specs.Next.{next_rules, next_verdict}

-- ---- a rule that was passed
pub rule_passed : (t : Bool) (n p : ℕ) (x : Verdict) → (cond t (refused_by (suc n) p) x).number ≡ 0 → (t ≡ false) × (x.number ≡ 0)
rule_passed true n p x e = absurd (omega arith)
rule_passed false n p x e = (refl, e)

pub route_passed : (route x : Verdict) → (cond (not (eqb route.number 0)) route x).number ≡ 0 → (route.number ≡ 0) × (x.number ≡ 0)
route_passed route x e = go (eqb route.number 0) refl e
  where
    go : (t : Bool) → eqb route.number 0 ≡ t → (cond (not t) route x).number ≡ 0 → (route.number ≡ 0) × (x.number ≡ 0)
    go true q h = (eqb-true route.number 0 q, h)
    go false q h = absurd (eqb-false route.number 0 q h)

pub range_is : (k : ℕ) → key_least ≤ k → k ≤ key_most → in_range k ≡ true
unfolding in_range
range_is k l m = rw (le-leb key_least k l, le-leb k key_most m)

pub range_passed : (k : ℕ) → not (in_range k) ≡ false → (key_least ≤ k) × (k ≤ key_most)
unfolding in_range
range_passed k e =
    let p = both_true (leb key_least k) (leb k key_most) (not-false (leb key_least k && leb k key_most) e) in
    (leb-true key_least k p.0, leb-true k key_most p.1)

-- ---- 17: "exactly if the store is shorter than 49,152 octets or the record isn't proper"
pub record IsBoard (b : Table) (n : ℕ) : Type 0 where
  pub store : store_size ≤ n
  pub proper : Proper b

pub board_whole : (b : Table) (n : ℕ) → is_board b n ≡ true → IsBoard b n
unfolding is_board
board_whole b n e =
    let p = both_true (leb store_size n) (proper_b b) e in
    record { store = leb-true store_size n p.0; proper = proper_is b p.1 }

pub whole_board : (b : Table) (n : ℕ) → IsBoard b n → is_board b n ≡ true
unfolding is_board
whole_board b n w = rw (le-leb store_size n w.store, is_proper b w.proper)

-- ---- report
pub record ReportPassed (b : Table) (store : List ℕ) (k : ℕ) (octets : List ℕ) (route : Verdict) : Type 0 where
  pub whole : IsBoard b (length store)
  pub least_key : key_least ≤ k
  pub most_key : k ≤ key_most
  pub route_taken : route.number ≡ 0
  pub size : length (body_in octets) ≤ room
  pub versions_left : b.version ≡ version_most → ⊥
  pub place : target_of b k < places

pub report_passed : (b : Table) (store : List ℕ) (k : ℕ) (octets : List ℕ) (route : Verdict) → (report_verdict b store k octets route).number ≡ 0 → ReportPassed b store k octets route
unfolding report_verdict report_rules
report_passed b store k octets route z =
    let w = rule_passed (not (is_board b (length store))) 16 0 _ z in
    let a = rule_passed (not (in_range k)) 17 0 _ w.1 in
    let r = route_passed route _ a.1 in
    let c = rule_passed (ltb room (length (body_in octets))) 18 0 _ r.1 in
    let d = rule_passed (eqb b.version version_most) 19 0 _ c.1 in
    let f = rule_passed (leb places (target_of b k)) 20 0 _ d.1 in
    record {
      whole = board_whole b (length store) (not-false (is_board b (length store)) w.0);
      least_key = (range_passed k a.0).0;
      most_key = (range_passed k a.0).1;
      route_taken = r.0;
      size = ltb-false room (length (body_in octets)) c.0;
      versions_left = eqb-false b.version version_most d.0;
      place = leb-false places (target_of b k) f.0;
    }

-- a report that every rule before 21 lets pass
pub record OnlyFullLeft (b : Table) (store : List ℕ) (k : ℕ) (octets : List ℕ) (route : Verdict) : Type 0 where
  pub board : is_board b (length store) ≡ true
  pub key : in_range k ≡ true
  pub route_taken : route.number ≡ 0
  pub size : length (body_in octets) ≤ room
  pub versions_left : b.version ≡ version_most → ⊥

reached_rest : (b : Table) (store : List ℕ) (k : ℕ) (octets : List ℕ) (route : Verdict) → OnlyFullLeft b store k octets route
    → report_verdict b store k octets route ≡ cond (leb places (target_of b k)) (refused_by all_paths 0) route
unfolding report_verdict report_rules
reached_rest b store k octets route r =
    rw (r.board, r.key, eq-eqb route.number 0 r.route_taken, le-ltb room (length (body_in octets)) r.size, ne_eqb b.version version_most r.versions_left)

-- "21 exactly if the key is new and all 128 hold paths"
pub all_paths_then : (b : Table) (store : List ℕ) (k : ℕ) (octets : List ℕ) (route : Verdict) → OnlyFullLeft b store k octets route → Full b k
    → report_verdict b store k octets route ≡ refused_by all_paths 0
all_paths_then b store k octets route r f = reached_rest b store k octets route r ∙ rw (le-leb places (target_of b k) (is_full b k f))

pub all_paths_only : (b : Table) (store : List ℕ) (k : ℕ) (octets : List ℕ) (route : Verdict) → OnlyFullLeft b store k octets route →
    (report_verdict b store k octets route).number ≡ all_paths → Full b k
all_paths_only b store k octets route r e = ⊎_elim (λ l. full_is b k l) (λ l. absurd (omega (arith, free l, r.route_taken))) (from? 128 (target_of b k))
  where
    free : target_of b k < 128 → route.number ≡ all_paths
    free l =
        let q : report_verdict b store k octets route ≡ route = reached_rest b store k octets route r ∙ rw (lt-leb 128 (target_of b k) l) in
        sym (ap (λ (y : Verdict). y.number) q) ∙ e

-- and every other report that got that far is accepted, with the number of segments
pub reported_otherwise : (b : Table) (store : List ℕ) (k : ℕ) (octets : List ℕ) (route : Verdict) → OnlyFullLeft b store k octets route → (Full b k → ⊥) → report_verdict b store k octets route ≡ route
reported_otherwise b store k octets route r n =
    ⊎_elim (λ l. absurd (n (full_is b k l))) (λ l. reached_rest b store k octets route r ∙ rw (lt-leb 128 (target_of b k) l)) (from? 128 (target_of b k))

-- ---- remove
pub record RemovePassed (b : Table) (store : List ℕ) (k : ℕ) : Type 0 where
  pub whole : IsBoard b (length store)
  pub least_key : key_least ≤ k
  pub most_key : k ≤ key_most
  pub place : KeyPlace b k (place_of b k)
  pub body : length_at b (place_of b k) ≡ 0 → ⊥
  pub versions_left : b.version ≡ version_most → ⊥

pub path_there : (b : Table) (k : ℕ) → not (has_path b k) ≡ false → KeyPlace b k (place_of b k) × (length_at b (place_of b k) ≡ 0 → ⊥)
unfolding has_path
path_there b k e =
    let p = both_true (ltb (place_of b k) places) (not (eqb (length_at b (place_of b k)) 0)) (not-false (ltb (place_of b k) places && not (eqb (length_at b (place_of b k)) 0)) e) in
    (key_place_is b k (ltb-true (place_of b k) places p.0), eqb-false (length_at b (place_of b k)) 0 (not-true (eqb (length_at b (place_of b k)) 0) p.1))

-- and a path of the key is the one that the search finds
pub path_has : (b : Table) → Proper b → (k i : ℕ) → (k ≡ 0 → ⊥) → KeyPlace b k i → PathAt b i → has_path b k ≡ true
unfolding has_path
path_has b p k i z x y = rw (key_place_found b p k i z x, lt-ltb i 128 x.here, ne_eqb (length_at b i) 0 y.body)

pub remove_passed : (b : Table) (store : List ℕ) (k : ℕ) → (remove_verdict b store k).number ≡ 0 → RemovePassed b store k
unfolding remove_verdict remove_rules
remove_passed b store k z =
    let w = rule_passed (not (is_board b (length store))) 16 0 _ z in
    let a = rule_passed (not (in_range k)) 17 0 _ w.1 in
    let c = rule_passed (not (has_path b k)) 21 0 _ a.1 in
    let d = rule_passed (eqb b.version version_most) 19 0 _ c.1 in
    record {
      whole = board_whole b (length store) (not-false (is_board b (length store)) w.0);
      least_key = (range_passed k a.0).0;
      most_key = (range_passed k a.0).1;
      place = (path_there b k c.0).0;
      body = (path_there b k c.0).1;
      versions_left = eqb-false b.version version_most d.0;
    }

-- ---- compact
pub record CompactPassed (b : Table) (store : List ℕ) (m : ℕ) : Type 0 where
  pub whole : IsBoard b (length store)
  pub reached : m ≤ b.version

pub compact_passed : (b : Table) (store : List ℕ) (m : ℕ) → (compact_verdict b store m).number ≡ 0 → CompactPassed b store m
unfolding compact_verdict compact_rules
compact_passed b store m z =
    let w = rule_passed (not (is_board b (length store))) 16 0 _ z in
    let a = rule_passed (ltb b.version m) 23 0 _ w.1 in
    record { whole = board_whole b (length store) (not-false (is_board b (length store)) w.0); reached = ltb-false b.version m a.0 }

-- ---- next: "23 exactly if the floor is above the larger of s and w", among marks that are not ahead
pub record MarkReached (b : Table) (store : List ℕ) (s w : ℕ) : Type 0 where
  pub board : is_board b (length store) ≡ true
  pub s_in : s ≤ b.version
  pub w_in : w ≤ b.version

mark_rest : (b : Table) (store : List ℕ) (s w : ℕ) → MarkReached b store s w → next_verdict b store s w ≡ cond (ltb (max s w) b.floor) (refused_by mark_too_old 0) (accepted_with 0)
unfolding next_verdict next_rules
mark_rest b store s w r = rw (r.board, le-ltb b.version s r.s_in, le-ltb b.version w r.w_in)

pub too_old_then : (b : Table) (store : List ℕ) (s w : ℕ) → MarkReached b store s w → max s w < b.floor → next_verdict b store s w ≡ refused_by mark_too_old 0
too_old_then b store s w r l = mark_rest b store s w r ∙ rw (lt-ltb (max s w) b.floor l)

pub not_too_old : (b : Table) (store : List ℕ) (s w : ℕ) → MarkReached b store s w → b.floor ≤ max s w → next_verdict b store s w ≡ accepted_with 0
not_too_old b store s w r l = mark_rest b store s w r ∙ rw (le-ltb (max s w) b.floor l)

pub too_old_only : (b : Table) (store : List ℕ) (s w : ℕ) → MarkReached b store s w → (next_verdict b store s w).number ≡ mark_too_old → max s w < b.floor
too_old_only b store s w r e =
    ⊎_elim (λ l. absurd (omega (arith, sym (ap (λ (y : Verdict). y.number) (not_too_old b store s w r l)) ∙ e))) (λ l. l) (from? b.floor (max s w))
