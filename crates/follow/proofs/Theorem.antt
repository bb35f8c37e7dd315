-- No follower is fooled: the theorem. Every act keeps the table in step with the story and the board's floor at the story's, whatever the followers
-- hold (`InStep`); where it does, a follower that holds what its mark says hears what is owed to it (`owed`), and holds again what its mark says
-- once it has done what it does (`keeps_step`). Both from the start give the promise. Assumes nothing.
use Prim.Native.Nat.{ℕ, zero, suc, ◌≤◌, ◌<◌, max}
use native.Mathlib.Omega.{arith}
use mathlib.Core.Path.{◌≡◌, refl, sym, ap, ◌∙◌, subst}
use mathlib.Core.Bool.{Bool, true, false, cond}
use mathlib.Core.List.{List, [], ◌∷◌}
use mathlib.Core.Option.{none, some}
use mathlib.Core.Logic.{◌⊎◌, ⊎_elim}
use lib.ListN.{length}
use lib.Dec.{eqb, ltb}
use borrow.Author.Tests.{ne_eqb, lt-ltb, le-ltb}
use Rattle.answers.specs.Numbers.{mark_too_old, not_usable}
use Rattle.answers.specs.declared.verdict.Verdict.{Verdict}
use Rattle.answers.specs.Verdicts.{refused_by, accepted_with, kept}
use Rattle.octets.proofs.Said.{cases}
use Rattle.board_record.specs.Sizes.{places, store_size}
use Rattle.board_record.specs.Table.{Table, empty_table, key_at, version_at, length_at, form_at}
use Rattle.board_record.specs.Search.{target_of, next_of}
use Rattle.board_record.proofs.Logic.{from?}
use Rattle.board_record.proofs.Proper.{empty_sized, empty_proper}
use Rattle.board_record.proofs.Search.{report_place_is}
use Rattle.board_rules.specs.Rules.{outcome_of, is_board}
use Rattle.board_rules.proofs.Verdicts.{whole_board, report_passed, remove_passed, compact_passed}
use Rattle.board_rules.proofs.Keeps.{least_some, body_fits, reported_proper, removed_proper}
use Rattle.board_rules.specs.Body.{octets_at}
use Rattle.board_rules.specs.Report.{body_in, report_verdict, report_with, store_with, reported, report_answer, report_store}
use Rattle.board_rules.specs.Remove.{remove_verdict, remove_answer, removed}
use Rattle.board_rules.specs.Compact.{compact_verdict, compact_answer, compacted}
use Rattle.board_rules.specs.Handed.{Path, Removed}
use Rattle.board_rules.specs.Next.{next_rules, next_verdict, change_at, handed_at, next_answer}
use Rattle.session.specs.declared.Session.{Session}
use Rattle.session.specs.declared.Sessions.{Sessions}
use Rattle.session.specs.Sessions.{session_under}
use Rattle.route.specs.Routes.{judge_of}
use Rattle.route_limit.specs.FirstOff.{session_for}
use Rattle.route_call.specs.Called.{rule28}
use Rattle.board_report_call.specs.Reported.{report_for, report_store_for}
use Rattle.follow.specs.Story.{Deed, path_at, sets, clears, Story, beginning, begun, did, compacted_to, version, key_of, leaves, held, last}
use Rattle.follow.specs.Ordered.{Ordered, beginning_of}
use Rattle.follow.specs.Floor.{floor_of, floor_put}
use Rattle.follow.specs.Follower.{Follower, fresh, levels, Keeps}
use Rattle.follow.specs.Heard.{Heard, refusal, change, level, heard_in, does, cut_off}
use Rattle.follow.specs.Run.{World, Act, reported_path, report, remove, compact, begin, ask, ask_cut, told, answer_to, following, step, run, start, all_fresh}
use Rattle.follow.specs.Promise.{Answered, Ready, KeptBy, NoFollowerIsFooled, NumbersAreTheStorys}
use Rattle.follow.proofs.Begun.{path_in, begun_le, begun_none, begun_ordered}
use Rattle.follow.proofs.Keeps.{has, keeps_fresh, keeps_change, keeps_compact, keeps_made, keeps_half, keeps_level}
use Rattle.follow.proofs.Owed.{Owed, old, next, done, answered_of, answered_determined}
use Rattle.follow.proofs.Table.{StandsFor, none_lacked, oldest_lacked, stands_begun}
use Rattle.follow.proofs.Steps.{stands_report, stands_remove}
use Rattle.follow.proofs.Compacts.{stands_compact}
use Rattle.follow.proofs.Floors.{floor_put_lem}

-- ---- the invariant

-- the table is in step with the story, and the board's floor is the story's
pub record InStep (b : Table) (store : List ℕ) (h : Story) : Type 0 where
  pub stands : StandsFor b store h
  pub floor_is : b.floor ≡ floor_of h

abbrev pub Good : World → Type 0
Good x = InStep x.table x.store x.story

-- and every follower holds what its mark says
abbrev AllKeep : World → Type 0
AllKeep x = (n : ℕ) → Keeps x.story (x.followers n)

-- ---- what a follower hears

pub is_board_lem : (x : World) → Good x → is_board x.table (length x.store) ≡ true
is_board_lem x g = whole_board x.table (length x.store) (record { store = g.stands.enough; proper = g.stands.proper })

-- the change at a place, as a follower reads it
abbrev read_at : Table → List ℕ → ℕ → Deed
read_at b store i = cond (eqb (length_at b i) 0) (clears (key_at b i)) (sets (key_at b i) (path_at b store i))

read_key : (b : Table) (store : List ℕ) (i : ℕ) → key_of (read_at b store i) ≡ key_at b i
read_key b store i = go (eqb (length_at b i) 0)
  where
    go : (t : Bool) → key_of (cond t (clears (key_at b i)) (sets (key_at b i) (path_at b store i))) ≡ key_at b i
    go true = refl
    go false = refl

read_body : (b : Table) (store : List ℕ) (i : ℕ) → leaves (read_at b store i) ≡ path_in b store i
read_body b store i = go (eqb (length_at b i) 0)
  where
    go : (t : Bool) → leaves (cond t (clears (key_at b i)) (sets (key_at b i) (path_at b store i))) ≡ cond t none (some (path_at b store i))
    go true = refl
    go false = refl

heard_change : (b : Table) (store : List ℕ) (i : ℕ) → i < places → heard_in store (handed_at b i) ≡ change (read_at b store i) (version_at b i)
unfolding handed_at change_at octets_at
heard_change b store i l = rw (lt-ltb i places l) (go (eqb (length_at b i) 0))
  where
    go : (t : Bool)
        → heard_in store
        (cond t (Removed (record { key = key_at b i; version = version_at b i }))
        (Path (record { key = key_at b i; version = version_at b i }) (record { place = i; length = length_at b i; form = form_at b i })))
        ≡ change (cond t (clears (key_at b i)) (sets (key_at b i) (path_at b store i))) (version_at b i)
    go true = refl
    go false = refl

heard_level : (b : Table) (store : List ℕ) (i : ℕ) → places ≤ i → heard_in store (handed_at b i) ≡ level b.version
unfolding handed_at
heard_level b store i l = rw (le-ltb i places l)

module _ (x : World) (g : Good x) (n : ℕ) (k : Keeps x.story (x.followers n)) where
  abbrev f : Follower
  f = x.followers n

  verdict_is : next_verdict x.table x.store f.s f.w ≡ cond (ltb (max f.s f.w) x.table.floor) (refused_by mark_too_old 0) (accepted_with 0)
  unfolding next_verdict next_rules
  verdict_is =
      let v = g.stands.version_is in
      rw (is_board_lem x g, le-ltb x.table.version f.s (omega (arith, k.s_in)), le-ltb x.table.version f.w (omega (arith, k.w_in)))

  hears_old : max f.s f.w < x.table.floor → answer_to x n ≡ refusal mark_too_old
  unfolding next_answer
  hears_old l = rw (verdict_is, lt-ltb (max f.s f.w) x.table.floor l)

  hears_next : x.table.floor ≤ max f.s f.w → answer_to x n ≡ heard_in x.store (handed_at x.table (next_of x.table f.s f.w))
  unfolding next_answer
  hears_next l = rw (verdict_is, le-ltb (max f.s f.w) x.table.floor l)

  -- the place that next finds
  abbrev found : ℕ
  found = next_of x.table f.s f.w

  pub owed : Owed x.story (x.followers n) (answer_to x n)
  owed = ⊎_elim fine below (from? x.table.floor (max f.s f.w))
    where
      below : max f.s f.w < x.table.floor → Owed x.story f (answer_to x n)
      below l = old (omega (arith, g.floor_is)) (hears_old l)

      fine : x.table.floor ≤ max f.s f.w → Owed x.story f (answer_to x n)
      fine l = ⊎_elim none_left some_left (from? places found)
        where
          none_left : places ≤ found → Owed x.story f (answer_to x n)
          none_left m =
              let o = none_lacked x.table x.store x.story f.s f.w g.stands l m in
              done (omega (arith, g.floor_is)) o (λ j. has x.story f k j (o j))
              (hears_next l ∙ heard_level x.table x.store _ m ∙ ap level g.stands.version_is)

          some_left : found < places → Owed x.story f (answer_to x n)
          some_left m =
              let o = oldest_lacked x.table x.store x.story f.s f.w g.stands l m in
              let q = read_key x.table x.store found in
              next (omega (arith, g.floor_is)) (read_at x.table x.store found) (version_at x.table found) (rw q o.0)
              (read_body x.table x.store found ∙ sym o.1 ∙ ap (held x.story) (sym q))
              (hears_next l ∙ heard_change x.table x.store found m)

-- ---- every act keeps the table in step

-- what a call leaves, by its number
by_number : (P : Table → List ℕ → Story → Type 0) (n : ℕ) (b b' : Table) (s s' : List ℕ) (h h' : Story) → P b s h → (n ≡ 0 → P b' s' h')
    → P (kept n b b') (kept n s s') (cond (eqb n 0) h' h)
by_number P zero b b' s s' h h' p q = q refl
by_number P (suc n) b b' s s' h h' p q = rw (ne_eqb (suc n) 0 (λ z. omega arith)) p

kept_same : (n : ℕ) (s : List ℕ) → kept n s s ≡ s
kept_same zero s = refl
kept_same (suc n) s = refl

good_under : (x : World) (k : ℕ) (octets : List ℕ) (session : Session) (pst : ℕ) → Good x
    → (let a = report_answer x.table x.store k octets session pst in
    InStep a.table (report_store x.table x.store k octets session pst) (told a.verdict (did (sets k (reported_path octets pst)) x.story) x.story))
unfolding report_answer report_store report_with store_with reported floor_of
good_under x k octets session pst g =
    let route = judge_of octets true session pst in
    let b = x.table in
    by_number InStep (report_verdict b x.store k octets route).number b _ x.store _ x.story _ g
    (λ e.
    let t = report_passed b x.store k octets route e in
    let s = body_fits octets session pst t.route_taken in
    let p = reported_proper b x.store k octets route pst g.stands.sized s e in
    record {
      stands = stands_report b x.store x.story k (body_in octets) pst g.stands t.least_key (omega (arith, least_some pst, s.least)) t.size t.place p;
      floor_is =
          floor_put_lem b x.store x.story g.stands k (target_of b k) t.place t.least_key (report_place_is b k t.place)
          ∙ ap (λ (m : ℕ). floor_put x.story m k) g.floor_is;
    })

-- 28 leaves all as it was; else it is the report in the session of its form, under the limit for this route
good_report : (x : World) (k : ℕ) (octets : List ℕ) (sessions : Sessions) (pst : ℕ) (addresses : List ℕ) → Good x → Good (step x (report k octets sessions pst addresses))
unfolding step report_for report_store_for
good_report x k octets sessions pst addresses g = go (rule28 addresses)
  where
    go : (b : Bool)
        → (let under = session_for octets true (session_under sessions pst) addresses in
        let a = cond b (outcome_of (refused_by not_usable 0) x.table) (report_answer x.table x.store k octets under pst) in
        InStep a.table (cond b x.store (report_store x.table x.store k octets under pst)) (told a.verdict (did (sets k (reported_path octets pst)) x.story) x.story))
    go true = g
    go false = good_under x k octets (session_for octets true (session_under sessions pst) addresses) pst g

good_remove : (x : World) (k : ℕ) → Good x → Good (step x (remove k))
unfolding step remove_answer removed floor_of
good_remove x k g =
    let a = remove_answer x.table x.store k in
    subst (λ (s : List ℕ). InStep a.table s (told a.verdict (did (clears k) x.story) x.story))
    (kept_same (remove_verdict x.table x.store k).number x.store)
    (by_number InStep (remove_verdict x.table x.store k).number x.table _ x.store x.store x.story _ g
    (λ e.
    let t = remove_passed x.table x.store k e in
    let p = removed_proper x.table x.store k g.stands.sized e in
    record { stands = stands_remove x.table x.store x.story k g.stands t.place t.least_key p; floor_is = g.floor_is }))

good_compact : (x : World) (c : ℕ) → Good x → Good (step x (compact c))
unfolding step compact_answer compacted floor_of
good_compact x c g =
    let a = compact_answer x.table x.store c in
    subst (λ (s : List ℕ). InStep a.table s (told a.verdict (compacted_to c x.story) x.story))
    (kept_same (compact_verdict x.table x.store c).number x.store)
    (by_number InStep (compact_verdict x.table x.store c).number x.table _ x.store x.store x.story _ g
    (λ e. record {
      stands = stands_compact x.table x.store x.story c g.stands (compact_passed x.table x.store c e).reached;
      floor_is = ap (λ (m : ℕ). max m c) g.floor_is;
    }))

good_step : (x : World) (a : Act) → Good x → Good (step x a)
unfolding step
good_step x (report k octets sessions pst addresses) g = good_report x k octets sessions pst addresses g
good_step x (remove k) g = good_remove x k g
good_step x (compact c) g = good_compact x c g
good_step x (begin n) g = g
good_step x (ask n updates) g = g
good_step x (ask_cut n) g = g

pub good_run : (x : World) (acts : List Act) → Good x → Good (run x acts)
unfolding run
good_run x [] g = g
good_run x (a ∷ acts) g = good_run (step x a) acts (good_step x a g)

pub good_start : (b : Table) (store : List ℕ) (followers : ℕ → Follower) → Ready b store → Good (start b store followers)
unfolding floor_of
good_start b store followers g = record { stands = stands_begun b store g.proper g.sized g.enough; floor_is = refl }

-- ---- and every follower at what its mark says

-- a call that is accepted or refused
keeps_told : (v : Verdict) (more h : Story) (f : Follower) → (Keeps h f → Keeps more f) → Keeps h f → Keeps (told v more h) f
keeps_told v more h f s r = cases (λ (y : Story). Keeps y f) (eqb v.number 0) more h (λ t. s r) (λ t. r)

-- a follower that hears what it must, and does what it does
keeps_does : (h : Story) → Ordered (beginning_of h) → (f : Follower) (updates : Bool) (a : Heard) → Keeps h f → Owed h f a → Keeps h (does f updates a)
keeps_does h i f updates a r (old l e) = rw e r
keeps_does h i f updates a r (next l c v o q e) = rw (e, ← o.bears) (keeps_made h i f c r o.lacked o.first q)
keeps_does h i f updates a r (done l o q e) = rw e (cases (Keeps h) updates (levels f (version h)) f (λ t. keeps_level h i f r o) (λ t. r))

-- or is cut off
keeps_cut : (h : Story) (f : Follower) (a : Heard) → Keeps h f → Owed h f a → Keeps h (cut_off f a)
keeps_cut h f a r (old l e) = rw e r
keeps_cut h f a r (next l c v o q e) = rw e (keeps_half h f c r o.lacked q)
keeps_cut h f a r (done l o q e) = rw e r

keeps_following : (x : World) (n : ℕ) (f : Follower) → AllKeep x → Keeps x.story f → AllKeep (following x n f)
keeps_following x n f r k m = cases (Keeps x.story) (eqb m n) f (x.followers m) (λ t. k) (λ t. r m)

keeps_step : (x : World) (a : Act) → Good x → AllKeep x → AllKeep (step x a)
unfolding step
keeps_step x (report k octets sessions pst addresses) g r n =
    keeps_told (report_for x.table x.store k octets sessions pst addresses).verdict _ x.story (x.followers n)
    (keeps_change (sets k (reported_path octets pst)) x.story (x.followers n)) (r n)
keeps_step x (remove k) g r n =
    keeps_told (remove_answer x.table x.store k).verdict _ x.story (x.followers n) (keeps_change (clears k) x.story (x.followers n)) (r n)
keeps_step x (compact c) g r n =
    keeps_told (compact_answer x.table x.store c).verdict _ x.story (x.followers n) (keeps_compact c x.story (x.followers n)) (r n)
keeps_step x (begin n) g r m = keeps_following x n (fresh x.table) r (keeps_fresh x.story g.stands.ordered x.table g.stands.version_is) m
keeps_step x (ask n updates) g r m =
    keeps_following x n (does (x.followers n) updates (answer_to x n)) r
    (keeps_does x.story g.stands.ordered (x.followers n) updates (answer_to x n) (r n) (owed x g n (r n))) m
keeps_step x (ask_cut n) g r m =
    keeps_following x n (cut_off (x.followers n) (answer_to x n)) r
    (keeps_cut x.story (x.followers n) (answer_to x n) (r n) (owed x g n (r n))) m

pub keeps_run : (x : World) (acts : List Act) → Good x → AllKeep x → AllKeep (run x acts)
unfolding run
keeps_run x [] g r = r
keeps_run x (a ∷ acts) g r = keeps_run (step x a) acts (good_step x a g) (keeps_step x a g r)

-- ---- the theorem

pub no_follower_is_fooled : NoFollowerIsFooled
no_follower_is_fooled b store followers g r acts n =
    let x = start b store followers in
    let y = run x acts in
    answered_of y.story (y.followers n) (answer_to y n)
    (owed y (good_run x acts (good_start b store followers g)) n (keeps_run x acts (good_start b store followers g) r n))

-- any two answers that fit it, after any acts, are equal
pub one_answer : (b : Table) (store : List ℕ) (followers : ℕ → Follower) → Ready b store → (acts : List Act) (f : Follower) (a d : Heard) →
    let x = run (start b store followers) acts in Answered x.story f a → Answered x.story f d → a ≡ d
one_answer b store followers g acts f a d =
    let x = start b store followers in
    answered_determined (run x acts).story (good_run x acts (good_start b store followers g)).stands.ordered f a d

pub numbers_are_the_storys : NumbersAreTheStorys
numbers_are_the_storys b store followers g acts =
    let y = good_run (start b store followers) acts (good_start b store followers g) in (y.stands.version_is, y.floor_is)

-- fresh followers hold what their marks say
pub fresh_kept : (b : Table) (store : List ℕ) → Ready b store → KeptBy b store (all_fresh b)
fresh_kept b store g n = keeps_fresh (begun (beginning b store)) (begun_ordered b store g.proper) b refl

-- ---- from the empty table

-- nothing is held, and nothing was changed
pub nothing_at_the_empty_start : (store : List ℕ) (k : ℕ) → (held (begun (beginning empty_table store)) k ≡ none) × (last (begun (beginning empty_table store)) k ≡ 0)
nothing_at_the_empty_start store k =
    let l = begun_le empty_table store empty_proper k in (begun_none empty_table store empty_proper k l, omega arith)

-- and from there, with every follower fresh
pub from_the_empty_start : (store : List ℕ) → store_size ≤ length store → (acts : List Act) (n : ℕ) →
    let x = run (start empty_table store (all_fresh empty_table)) acts in Answered x.story (x.followers n) (answer_to x n)
from_the_empty_start store e acts n =
    let g : Ready empty_table store = record { sized = empty_sized; proper = empty_proper; enough = e } in
    no_follower_is_fooled empty_table store (all_fresh empty_table) g (fresh_kept empty_table store g) acts n
