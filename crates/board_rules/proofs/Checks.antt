-- Every call answers by the first broken check of its list, in the paper's order (specs/Checks): it refuses with n at p exactly if a check of that number and place is broken and
-- none before it is, and accepts exactly if none is broken. One law over any list says so (`by_first` in frame/proofs/Checks), from the equality of the answer and the list's. That equality mostly
-- computes, the definition being the list taken apart; but a report has the route's own list in its midst, whose answer counts only where one of its checks is broken (`followed`),
-- 22 is a search where the list looks at all places (`no_path_test`), and on a record 17 has one part more (`with_rows`). Assumes nothing.
use Prim.Native.Nat.{ℕ, ◌<◌, ◌≤◌, max}
use native.Mathlib.Omega.{arith}
use mathlib.Core.Path.{◌≡◌, refl, sym, ap, ◌∙◌}
use mathlib.Core.Bool.{Bool, true, false, not, cond, ◌&&◌, ◌||◌}
use mathlib.Core.List.{List, [], ◌∷◌, ◌++◌}
use lib.ListN.{length, get_or}
use lib.Dec.{eqb, ltb, leb}
use borrow.Author.Tests.{eq-eqb, ne_eqb, eqb-true, eqb-false, le-leb, leb-true, not-true}
use Rattle.answers.specs.declared.verdict.Verdict.{Verdict}
use Rattle.answers.specs.Numbers.{not_a_board, key_out_of_range, body_too_long, versions_used_up, all_paths, no_path, mark_too_old, mark_ahead}
use Rattle.answers.specs.Verdicts.{refused_by, accepted_with, kept}
use Rattle.octets.proofs.Said.{both_true}
use Rattle.session.specs.declared.Session.{Session}
use Rattle.forms.specs.Forms.{form_of}
use Rattle.frame.specs.Checks.{Check, check, first_broken}
use Rattle.frame.proofs.Checks.{first_append, None, AllNumbered, none_first, numbered_append, first_none, first_some, ByFirst, by_first}
use Rattle.route.specs.Routes.{checks_of, acceptance_of, judge_as, judge_of}
use Rattle.route.proofs.Answer.{numbered_all}
use Rattle.board_record.specs.Sizes.{places, room, key_least, version_most}
use Rattle.board_record.specs.declared.record.Board.{Board}
use Rattle.board_record.specs.Table.{Table, key_at, length_at, PathAt}
use Rattle.board_record.specs.Search.{place_of, target_of, next_of, moved_in}
use Rattle.board_record.specs.Proper.{Proper, all_below, fresh_b}
use Rattle.board_record.specs.Record.{table_in, tidy}
use Rattle.board_record.proofs.Logic.{true≢false, test_is}
use Rattle.board_record.proofs.All.{all_at, all_of}
use Rattle.board_record.proofs.Search.{Full, full_is, is_full}
use Rattle.board_rules.specs.Handed.{Handed, Refused, Path, Removed, Level}
use Rattle.board_rules.specs.Rules.{is_board, in_range, has_path}
use Rattle.board_rules.specs.Report.{body_in, report_rules, report_verdict, report_with, report_answer}
use Rattle.board_rules.specs.Remove.{remove_rules, remove_verdict, remove_answer}
use Rattle.board_rules.specs.Compact.{compact_rules, compact_verdict, compact_answer}
use Rattle.board_rules.specs.Body.{body_rules, body_number}
use Rattle.board_rules.specs.Next.{next_rules, next_verdict, change_at, handed_at, next_answer, verdict_in}
use Rattle.board_rules.specs.Moved.{moved_rules, moved_verdict, moved_answer}
use Rattle.board_rules.specs.OnRecord.{is_record, verdict_on, result_on, report_on, remove_on, compact_on, body_number_on, next_on, moved_on}
use Rattle.board_rules.specs.Checks.{path_at_b, full_b, no_path_b, report_checks, remove_checks, compact_checks, body_checks, next_checks, moved_checks}
use Rattle.board_rules.proofs.Verdicts.{range_passed, board_whole, path_there, path_has}

-- the rest of a list
abbrev later : List Check → List Check
later [] = []
later (c ∷ cs) = cs

-- ---- on a record: 17 is broken where the table is no board's or the rows are not the table's
with_rows : (w t : Bool) (x : Verdict) → cond t (cond (not w) (refused_by not_a_board 0) x) (refused_by not_a_board 0) ≡ cond (not (w && t)) (refused_by not_a_board 0) x
with_rows true true x = refl
with_rows true false x = refl
with_rows false true x = refl
with_rows false false x = refl

on_record : (b : Board) (n : ℕ) (cs : List Check) (after v : Verdict) → v ≡ first_broken (check not_a_board 0 (not (is_board (table_in b) n)) ∷ cs) after
    → verdict_on b v ≡ first_broken (check not_a_board 0 (not (is_record b n)) ∷ cs) after
unfolding is_record
on_record b n cs after v e =
    ap (λ (x : Verdict). cond (tidy b) x (refused_by not_a_board 0)) e ∙ with_rows (is_board (table_in b) n) (tidy b) (first_broken cs after)

-- ---- 21 in the paper's words
full_said : (b : Table) (k : ℕ) → Full b k → full_b b k ≡ true
unfolding full_b fresh_b path_at_b
full_said b k f =
    let new : all_below (λ j. not (eqb (key_at b j) k)) 128 ≡ true = all_of (λ j. not (eqb (key_at b j) k)) 128 (λ j l. rw (ne_eqb (key_at b j) k (f.new j l))) in
    let paths : all_below (path_at_b b) 128 ≡ true =
    all_of (path_at_b b) 128 (λ j l. rw (path_at_b, ne_eqb (key_at b j) 0 (f.paths j l).used, ne_eqb (length_at b j) 0 (f.paths j l).body)) in
    rw (new, paths)

path_said : (b : Table) (j : ℕ) → path_at_b b j ≡ true → PathAt b j
unfolding path_at_b
path_said b j h =
    let q = both_true (not (eqb (key_at b j) 0)) (not (eqb (length_at b j) 0)) h in
    record { used = eqb-false (key_at b j) 0 (not-true _ q.0); body = eqb-false (length_at b j) 0 (not-true _ q.1) }

said_full : (b : Table) (k : ℕ) → full_b b k ≡ true → Full b k
unfolding full_b fresh_b
said_full b k e =
    let p = both_true (all_below (λ j. not (eqb (key_at b j) k)) 128) (all_below (path_at_b b) 128) e in
    record {
      new = λ j l. eqb-false (key_at b j) k (not-true _ (all_at (λ i. not (eqb (key_at b i) k)) 128 p.0 j l));
      paths = λ j l. path_said b j (all_at (path_at_b b) 128 p.1 j l);
    }

full_test : (b : Table) (k : ℕ) → leb places (target_of b k) ≡ full_b b k
full_test b k =
    test_is (leb places (target_of b k)) (full_b b k) (λ e. full_said b k (full_is b k (leb-true places (target_of b k) e)))
    (λ e. le-leb places (target_of b k) (is_full b k (said_full b k e)))

-- ---- 22 in the paper's words: a key stands at one place of a board, so the search for it finds what a look at all places does
pub no_path_test : (b : Table) (k : ℕ) → Proper b → key_least ≤ k → not (has_path b k) ≡ no_path_b b k
unfolding no_path_b path_at_b
no_path_test b k p low =
    test_is (not (has_path b k)) (no_path_b b k) (λ e. all_of (λ i. not (eqb (key_at b i) k && path_at_b b i)) 128 (none (not-true _ e))) (λ e. some (has_path b k) refl e)
  where
    none : has_path b k ≡ false → (i : ℕ) → i < 128 → not (eqb (key_at b i) k && path_at_b b i) ≡ true
    none e i l = go (eqb (key_at b i) k && path_at_b b i) refl
      where
        go : (x : Bool) → (eqb (key_at b i) k && path_at_b b i) ≡ x → not x ≡ true
        go false q = refl
        go true q =
            let s = both_true (eqb (key_at b i) k) (path_at_b b i) q in
            absurd
            (true≢false (sym (path_has b p k i (λ z. omega arith) (record { here = l; key = eqb-true (key_at b i) k s.0 }) (path_said b i s.1)) ∙ e))

    some : (x : Bool) → has_path b k ≡ x → all_below (λ i. not (eqb (key_at b i) k && path_at_b b i)) 128 ≡ true → not x ≡ true
    some false q e = refl
    some true q e =
        let y = path_there b k (ap not q) in
        let i = place_of b k in
        let t : eqb (key_at b i) k && (not (eqb (key_at b i) 0) && not (eqb (length_at b i) 0)) ≡ true =
        rw (eq-eqb (key_at b i) k y.0.key, ne_eqb (key_at b i) 0 (λ z. omega (arith, y.0.key)), ne_eqb (length_at b i) 0 y.1) in
        absurd (true≢false (sym t ∙ not-true _ (all_at (λ j. not (eqb (key_at b j) k && path_at_b b j)) 128 e i y.0.here)))

-- behind 17 and 18
no_path_behind : (whole : Bool) (b : Table) (k : ℕ) (v : Verdict) → (whole ≡ true → Proper b)
    → cond (not whole) (refused_by not_a_board 0) (cond (not (in_range k)) (refused_by key_out_of_range 0) (cond (not (has_path b k)) (refused_by no_path 0) v))
    ≡ cond (not whole) (refused_by not_a_board 0) (cond (not (in_range k)) (refused_by key_out_of_range 0) (cond (no_path_b b k) (refused_by no_path 0) v))
no_path_behind false b k v f = refl
no_path_behind true b k v f = go (in_range k) refl
  where
    go : (x : Bool) → in_range k ≡ x
        → cond (not x) (refused_by key_out_of_range 0) (cond (not (has_path b k)) (refused_by no_path 0) v)
        ≡ cond (not x) (refused_by key_out_of_range 0) (cond (no_path_b b k) (refused_by no_path 0) v)
    go false q = refl
    go true q = rw (no_path_test b k (f refl) (range_passed k (ap not q)).0)

-- ---- report: the answer of one list, then another list, is that of both
followed : (cs ds : List Check) (after : Verdict) → after.number ≡ 0 → ((first_broken cs after).number ≡ 0 → None cs)
    → cond (not (eqb (first_broken cs after).number 0)) (first_broken cs after) (first_broken ds (first_broken cs after)) ≡ first_broken (cs ++ ds) after
followed cs ds after z f = go (eqb (first_broken cs after).number 0) refl
  where
    go : (t : Bool) → eqb (first_broken cs after).number 0 ≡ t
        → cond (not t) (first_broken cs after) (first_broken ds (first_broken cs after)) ≡ first_broken (cs ++ ds) after
    go true q =
        let h = f (eqb-true (first_broken cs after).number 0 q) in
        ap (first_broken ds) (none_first cs after h) ∙ sym (first_append cs ds after ∙ none_first cs (first_broken ds after) h)
    go false q = first_some cs after (first_broken ds after) z (eqb-false (first_broken cs after).number 0 q) ∙ sym (first_append cs ds after)

module _ (b : Table) (k : ℕ) (octets : List ℕ) (session : Session) (pst : ℕ) where
  -- 19, 20, 21
  abbrev last : List Check
  last =
      check body_too_long 0 (ltb room (length (body_in octets)))
      ∷ (check versions_used_up 0 (eqb b.version version_most) ∷ (check all_paths 0 (full_b b k) ∷ []))

  report_chain : (whole : Bool) → report_rules whole k (judge_of octets true session pst) (length (body_in octets)) b.version (target_of b k)
      ≡ first_broken (report_checks whole b k octets session pst) (acceptance_of (form_of pst) octets true)
  unfolding report_rules judge_of judge_as
  report_chain whole =
      rw (full_test b k)
      (ap (λ (v : Verdict). cond (not whole) (refused_by not_a_board 0) (cond (not (in_range k)) (refused_by key_out_of_range 0) v))
      (followed (checks_of (form_of pst) octets true session pst) last (acceptance_of (form_of pst) octets true) refl
      (first_none (checks_of (form_of pst) octets true session pst) (acceptance_of (form_of pst) octets true) (numbered_all (form_of pst) octets true session pst))))

  pub report_numbered : (whole : Bool) → AllNumbered (report_checks whole b k octets session pst)
  report_numbered whole = (
    omega arith,
    (
      omega arith,
      numbered_append (checks_of (form_of pst) octets true session pst) last (numbered_all (form_of pst) octets true session pst) (omega arith, (omega arith, (omega arith, tt))),
    ),
  )

pub report_by_first : (b : Table) (store : List ℕ) (k : ℕ) (octets : List ℕ) (session : Session) (pst : ℕ)
    → ByFirst (report_answer b store k octets session pst).verdict (report_checks (is_board b (length store)) b k octets session pst) (acceptance_of (form_of pst) octets true)
unfolding report_answer report_with report_verdict
report_by_first b store k octets session pst =
    by_first _ (report_checks (is_board b (length store)) b k octets session pst) (acceptance_of (form_of pst) octets true) (report_numbered b k octets session pst (is_board b (length store))) refl
    (report_chain b k octets session pst (is_board b (length store)))

pub report_checked_on : (b : Board) (store : List ℕ) (k : ℕ) (octets : List ℕ) (session : Session) (pst : ℕ)
    → (report_on b store k octets session pst).verdict ≡ first_broken (report_checks (is_record b (length store)) (table_in b) k octets session pst) (acceptance_of (form_of pst) octets true)
unfolding result_on report_answer report_with report_verdict
report_checked_on b store k octets session pst =
    on_record b (length store) (later (report_checks true (table_in b) k octets session pst)) (acceptance_of (form_of pst) octets true) _
    (report_chain (table_in b) k octets session pst (is_board (table_in b) (length store)))

pub report_by_first_on : (b : Board) (store : List ℕ) (k : ℕ) (octets : List ℕ) (session : Session) (pst : ℕ)
    → ByFirst (report_on b store k octets session pst).verdict (report_checks (is_record b (length store)) (table_in b) k octets session pst) (acceptance_of (form_of pst) octets true)
report_by_first_on b store k octets session pst =
    by_first _ (report_checks (is_record b (length store)) (table_in b) k octets session pst) (acceptance_of (form_of pst) octets true)
    (report_numbered (table_in b) k octets session pst (is_record b (length store))) refl (report_checked_on b store k octets session pst)

-- ---- remove
remove_chain : (whole : Bool) (b : Table) (k : ℕ) → (whole ≡ true → Proper b) → remove_rules whole k (has_path b k) b.version ≡ first_broken (remove_checks whole b k) (accepted_with 0)
unfolding remove_rules
remove_chain whole b k = no_path_behind whole b k (cond (eqb b.version version_most) (refused_by versions_used_up 0) (accepted_with 0))

remove_numbered : (whole : Bool) (b : Table) (k : ℕ) → AllNumbered (remove_checks whole b k)
remove_numbered whole b k = (omega arith, (omega arith, (omega arith, (omega arith, tt))))

pub remove_by_first : (b : Table) (store : List ℕ) (k : ℕ) → ByFirst (remove_answer b store k).verdict (remove_checks (is_board b (length store)) b k) (accepted_with 0)
unfolding remove_answer remove_verdict
remove_by_first b store k =
    by_first _ (remove_checks (is_board b (length store)) b k) (accepted_with 0) (remove_numbered (is_board b (length store)) b k) refl
    (remove_chain (is_board b (length store)) b k (λ e. (board_whole b (length store) e).proper))

pub remove_by_first_on : (b : Board) (store : List ℕ) (k : ℕ) → ByFirst (remove_on b store k).verdict (remove_checks (is_record b (length store)) (table_in b) k) (accepted_with 0)
unfolding result_on remove_answer remove_verdict
remove_by_first_on b store k =
    by_first _ (remove_checks (is_record b (length store)) (table_in b) k) (accepted_with 0) (remove_numbered (is_record b (length store)) (table_in b) k) refl
    (on_record b (length store) (later (remove_checks true (table_in b) k)) (accepted_with 0) _
    (remove_chain (is_board (table_in b) (length store)) (table_in b) k (λ e. (board_whole (table_in b) (length store) e).proper)))

-- ---- compact
compact_chain : (whole : Bool) (b : Table) (c : ℕ) → compact_rules whole c b.version ≡ first_broken (compact_checks whole b c) (accepted_with 0)
unfolding compact_rules
compact_chain whole b c = refl

compact_numbered : (whole : Bool) (b : Table) (c : ℕ) → AllNumbered (compact_checks whole b c)
compact_numbered whole b c = (omega arith, (omega arith, tt))

pub compact_by_first : (b : Table) (store : List ℕ) (c : ℕ) → ByFirst (compact_answer b store c).verdict (compact_checks (is_board b (length store)) b c) (accepted_with 0)
unfolding compact_answer compact_verdict
compact_by_first b store c =
    by_first _ (compact_checks (is_board b (length store)) b c) (accepted_with 0) (compact_numbered (is_board b (length store)) b c) refl (compact_chain (is_board b (length store)) b c)

pub compact_by_first_on : (b : Board) (store : List ℕ) (c : ℕ) → ByFirst (compact_on b store c).verdict (compact_checks (is_record b (length store)) (table_in b) c) (accepted_with 0)
unfolding result_on compact_answer compact_verdict
compact_by_first_on b store c =
    by_first _ (compact_checks (is_record b (length store)) (table_in b) c) (accepted_with 0) (compact_numbered (is_record b (length store)) (table_in b) c) refl
    (on_record b (length store) (later (compact_checks true (table_in b) c)) (accepted_with 0) _ (compact_chain (is_board (table_in b) (length store)) (table_in b) c))

-- ---- body
body_chain : (whole : Bool) (b : Table) (k : ℕ) → (whole ≡ true → Proper b) → body_rules whole k (has_path b k) ≡ first_broken (body_checks whole b k) (accepted_with 0)
unfolding body_rules
body_chain whole b k = no_path_behind whole b k (accepted_with 0)

body_numbered : (whole : Bool) (b : Table) (k : ℕ) → AllNumbered (body_checks whole b k)
body_numbered whole b k = (omega arith, (omega arith, (omega arith, tt)))

pub body_by_first : (b : Table) (store : List ℕ) (k : ℕ) → ByFirst (body_number b store k) (body_checks (is_board b (length store)) b k) (accepted_with 0)
unfolding body_number
body_by_first b store k =
    by_first _ (body_checks (is_board b (length store)) b k) (accepted_with 0) (body_numbered (is_board b (length store)) b k) refl
    (body_chain (is_board b (length store)) b k (λ e. (board_whole b (length store) e).proper))

pub body_by_first_on : (b : Board) (store : List ℕ) (k : ℕ) → ByFirst (body_number_on b store k) (body_checks (is_record b (length store)) (table_in b) k) (accepted_with 0)
unfolding body_number_on body_number
body_by_first_on b store k =
    by_first _ (body_checks (is_record b (length store)) (table_in b) k) (accepted_with 0) (body_numbered (is_record b (length store)) (table_in b) k) refl
    (on_record b (length store) (later (body_checks true (table_in b) k)) (accepted_with 0) _
    (body_chain (is_board (table_in b) (length store)) (table_in b) k (λ e. (board_whole (table_in b) (length store) e).proper)))

-- ---- next: 24 for s and for w is one rule
either : (x y : Bool) (r z : Verdict) → cond x r (cond y r z) ≡ cond (x || y) r z
either true y r z = refl
either false y r z = refl

next_chain : (whole : Bool) (b : Table) (s w : ℕ) → next_rules whole s w b.version b.floor ≡ first_broken (next_checks whole b s w) (accepted_with 0)
unfolding next_rules
next_chain whole b s w =
    ap (λ (v : Verdict). cond (not whole) (refused_by not_a_board 0) v)
    (either (ltb b.version s) (ltb b.version w) (refused_by mark_ahead 0) (cond (ltb (max s w) b.floor) (refused_by mark_too_old 0) (accepted_with 0)))

next_numbered : (whole : Bool) (b : Table) (s w : ℕ) → AllNumbered (next_checks whole b s w)
next_numbered whole b s w = (omega arith, (omega arith, (omega arith, tt)))

next_first : (b : Table) (store : List ℕ) (s w : ℕ) → ByFirst (next_verdict b store s w) (next_checks (is_board b (length store)) b s w) (accepted_with 0)
unfolding next_verdict
next_first b store s w =
    by_first _ (next_checks (is_board b (length store)) b s w) (accepted_with 0) (next_numbered (is_board b (length store)) b s w) refl (next_chain (is_board b (length store)) b s w)

chosen : (t : Bool) (x y : Handed) → verdict_in (cond t x y) ≡ cond t (verdict_in x) (verdict_in y)
chosen true x y = refl
chosen false x y = refl

-- what is handed out is an acceptance
handed_accepts : (b : Table) (i : ℕ) → verdict_in (handed_at b i) ≡ accepted_with 0
unfolding handed_at change_at
handed_accepts b i = go (ltb i places) (eqb (length_at b i) 0)
  where
    go : (x y : Bool)
        → verdict_in
        (cond x
        (cond y (Removed (record { key = key_at b i; version = get_or b.versions i 0 }))
        (Path (record { key = key_at b i; version = get_or b.versions i 0 }) (record { place = i; length = length_at b i; form = get_or b.forms i 0 })))
        (Level b.version))
        ≡ accepted_with 0
    go true true = refl
    go true false = refl
    go false y = refl

next_verdict_in : (b : Table) (store : List ℕ) (s w : ℕ) → verdict_in (next_answer b store s w) ≡ next_verdict b store s w
unfolding next_answer
next_verdict_in b store s w =
    let v = next_verdict b store s w in
    chosen (eqb v.number 0) (handed_at b (next_of b s w)) (Refused v) ∙ go (eqb v.number 0) refl
  where
    go : (t : Bool) → eqb (next_verdict b store s w).number 0 ≡ t
        → cond t (verdict_in (handed_at b (next_of b s w))) (next_verdict b store s w) ≡ next_verdict b store s w
    go true q =
        let f = next_first b store s w in
        handed_accepts b (next_of b s w) ∙ sym (f.unbroken (f.accepted (eqb-true (next_verdict b store s w).number 0 q)))
    go false q = refl

pub next_by_first : (b : Table) (store : List ℕ) (s w : ℕ) → ByFirst (verdict_in (next_answer b store s w)) (next_checks (is_board b (length store)) b s w) (accepted_with 0)
unfolding next_verdict
next_by_first b store s w =
    by_first _ (next_checks (is_board b (length store)) b s w) (accepted_with 0) (next_numbered (is_board b (length store)) b s w) refl
    (next_verdict_in b store s w ∙ next_chain (is_board b (length store)) b s w)

pub next_by_first_on : (b : Board) (store : List ℕ) (s w : ℕ)
    → ByFirst (verdict_in (next_on b store s w)) (next_checks (is_record b (length store)) (table_in b) s w) (accepted_with 0)
unfolding next_on next_verdict
next_by_first_on b store s w =
    by_first _ (next_checks (is_record b (length store)) (table_in b) s w) (accepted_with 0) (next_numbered (is_record b (length store)) (table_in b) s w) refl
    (chosen (tidy b) (next_answer (table_in b) store s w) (Refused (refused_by not_a_board 0))
    ∙ on_record b (length store) (later (next_checks true (table_in b) s w)) (accepted_with 0) _
    (next_verdict_in (table_in b) store s w ∙ next_chain (is_board (table_in b) (length store)) (table_in b) s w))

-- ---- moved: acceptance carries the yes or no
module _ (b : Table) (from to v : ℕ) where
  abbrev told : Verdict
  told = accepted_with (cond (moved_in b.keys b.versions from to v) 1 0)

  moved_chain : (whole : Bool)
      → kept (moved_rules whole v b.version b.floor).number (moved_rules whole v b.version b.floor) told ≡ first_broken (moved_checks whole b v) told
  unfolding moved_rules
  moved_chain whole = go whole (ltb b.version v) (ltb v b.floor)
    where
      go : (w x y : Bool)
          → kept (cond (not w) (refused_by not_a_board 0) (cond x (refused_by mark_ahead 0) (cond y (refused_by mark_too_old 0) (accepted_with 0)))).number
          (cond (not w) (refused_by not_a_board 0) (cond x (refused_by mark_ahead 0) (cond y (refused_by mark_too_old 0) (accepted_with 0)))) told
          ≡ cond (not w) (refused_by not_a_board 0) (cond x (refused_by mark_ahead 0) (cond y (refused_by mark_too_old 0) told))
      go false x y = refl
      go true true y = refl
      go true false true = refl
      go true false false = refl

  moved_numbered : (whole : Bool) → AllNumbered (moved_checks whole b v)
  moved_numbered whole = (omega arith, (omega arith, (omega arith, tt)))

pub moved_by_first : (b : Table) (store : List ℕ) (from to v : ℕ)
    → ByFirst (moved_answer b store from to v) (moved_checks (is_board b (length store)) b v) (accepted_with (cond (moved_in b.keys b.versions from to v) 1 0))
unfolding moved_answer moved_verdict
moved_by_first b store from to v =
    by_first _ (moved_checks (is_board b (length store)) b v) (told b from to v) (moved_numbered b from to v (is_board b (length store))) refl
    (moved_chain b from to v (is_board b (length store)))

pub moved_by_first_on : (b : Board) (store : List ℕ) (from to v : ℕ)
    → ByFirst (moved_on b store from to v) (moved_checks (is_record b (length store)) (table_in b) v) (accepted_with (cond (moved_in b.keys b.versions from to v) 1 0))
unfolding moved_on moved_answer moved_verdict
moved_by_first_on b store from to v =
    by_first _ (moved_checks (is_record b (length store)) (table_in b) v) (told (table_in b) from to v) (moved_numbered (table_in b) from to v (is_record b (length store))) refl
    (on_record b (length store) (later (moved_checks true (table_in b) v)) (told (table_in b) from to v) _ (moved_chain (table_in b) from to v (is_board (table_in b) (length store))))
