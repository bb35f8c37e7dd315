-- Every call leaves a proper table if it got one; version and floor never fall, and the version rises by exactly 1 with each accepted report or
-- removal and with nothing else. A report and a removal are a change at one place, which fits (`FittingEntry`) by the rules that were passed; a compaction
-- leaves each place as it was or empty (`Left`). Assumes nothing.
use Prim.Native.Nat.{ℕ, ◌+◌, ◌<◌, ◌≤◌, ◌%◌, max}
use native.Mathlib.Omega.{arith}
use mathlib.Core.Path.{◌≡◌, refl, sym, ap, ◌∙◌}
use mathlib.Core.Bool.{Bool, true, false, cond}
use mathlib.Core.List.{List}
use mathlib.Core.Logic.{◌⊎◌, inl, inr, ⊎_elim}
use lib.ListN.{length}
use lib.Dec.{eqb, leb}
use borrow.Author.Tests.{leb-true, leb-false}
use Rattle.answers.specs.declared.verdict.Verdict.{Verdict}
use Rattle.answers.specs.Verdicts.{kept}
use Rattle.answers.proofs.Kept.{kept_old, kept_new}
use Rattle.session.specs.declared.Session.{Session}
use Rattle.route.specs.Routes.{judge_of}
use Rattle.route.proofs.Setups.{accepted_one, body_mpls, body_srv6}
use Rattle.objects.specs.Objects.{unit, srv6_setup, mpls_setup}
use Rattle.board_record.specs.Sizes.{places, key_least, key_most, body_least, version_most}
use Rattle.board_record.specs.Table.{Table, ListsWhole, key_at, version_at, length_at, form_at, Used, RemovalAt, bearing, entry_at, removal_b}
use Rattle.board_record.specs.Search.{place_of, ReportPlace, keeps, takes, drops, target_of, floor_after}
use Rattle.board_record.specs.Proper.{Proper, IsForm}
use Rattle.octets.proofs.Said.{both_true}
use Rattle.board_record.proofs.Logic.{same?}
use Rattle.board_record.proofs.Lists.{row_at}
use Rattle.board_record.proofs.Search.{removal_is, is_removal, report_place_is, floor_keeps, floor_takes, floor_drops}
use Rattle.board_record.proofs.Proper.{Storable, Sound, sound_none, proper_sound, sound_proper}
use Rattle.board_record.proofs.Changed.{FittingEntry, changed_proper}
use Rattle.board_rules.specs.Report.{body_in, report_verdict, reported, report_with, report_answer}
use Rattle.board_rules.specs.Remove.{remove_verdict, removed, remove_answer}
use Rattle.board_rules.specs.Compact.{compact_verdict, dropped, compacted, compact_answer}
use Rattle.board_rules.proofs.Verdicts.{report_passed, remove_passed, compact_passed}

-- ---- report
pub least_some : (form : ℕ) → 8 ≤ body_least form
unfolding body_least
least_some form = go (eqb form srv6_setup)
  where
    go : (x : Bool) → 8 ≤ cond x 24 8
    go true = omega arith
    go false = omega arith

pub record BodyFits (octets : List ℕ) (pst : ℕ) : Type 0 where
  pub form : IsForm pst
  pub least : body_least pst ≤ length (body_in octets)
  pub four : length (body_in octets) % unit ≡ 0

pub body_fits : (octets : List ℕ) (session : Session) (pst : ℕ) → (judge_of octets true session pst).number ≡ 0 → BodyFits octets pst
unfolding body_least
body_fits octets session pst z = ⊎_elim mpls srv6 (accepted_one octets true session pst z)
  where
    mpls : pst ≡ mpls_setup → BodyFits octets pst
    mpls e = let h = body_mpls octets true session pst z e in record { form = inr e; least = rw e h.0; four = h.1 }

    srv6 : pst ≡ srv6_setup → BodyFits octets pst
    srv6 e = let h = body_srv6 octets true session pst z (λ q. omega arith) in record { form = inl e; least = rw e h.0; four = h.1 }

-- where a report goes, and the floor after it, fit the board
report_fits : (b : Table)
    → Proper b
    → (k n pst i : ℕ)
    → key_least ≤ k
    → k ≤ key_most
    → Storable n pst
    → (b.version ≡ version_most → ⊥)
    → i < places
    → ReportPlace b k i
    → FittingEntry b i (bearing b k n pst) (floor_after b k i)
report_fits b p k n pst i low high size left here (keeps x) =
    let e = floor_keeps b k i x.key in
    record {
      here = here;
      low = low;
      high = high;
      size = size;
      newer = omega arith;
      version_in = omega (arith, p.version_in, left);
      floor = omega (arith, e, p.floor_in);
      only = λ j l d q. d (p.keys_distinct j i l here (λ z. omega (arith, sym q ∙ z)) (q ∙ sym x.key));
      marks = λ j l d r. omega (arith, e, p.removal_above j l r);
    }
report_fits b p k n pst i low high size left here (takes new x) =
    let e = floor_takes b k i x.empty in
    record {
      here = here;
      low = low;
      high = high;
      size = size;
      newer = omega arith;
      version_in = omega (arith, p.version_in, left);
      floor = omega (arith, e, p.floor_in);
      only = λ j l d. new j l;
      marks = λ j l d r. omega (arith, e, p.removal_above j l r);
    }
report_fits b p k n pst i low high size left here (drops new used x) =
    let e = floor_drops b k i x.removal.used (new i here) in
    record {
      here = here;
      low = low;
      high = high;
      size = size;
      newer = omega arith;
      version_in = omega (arith, p.version_in, left);
      floor = omega (arith, e, p.most_version i here x.removal.used);
      only = λ j l d. new j l;
      marks = λ j l d r.
          let apart : version_at b j ≡ version_at b i → ⊥ = λ z. d (p.versions_distinct j i l here r.used z) in
          omega (arith, e, x.oldest j l r, apart);
    }

pub reported_proper : (b : Table) (store : List ℕ) (k : ℕ) (octets : List ℕ) (route : Verdict) (pst : ℕ)
    → ListsWhole b
    → BodyFits octets pst
    → (report_verdict b store k octets route).number ≡ 0
    → Proper (reported b k octets pst)
unfolding reported
reported_proper b store k octets route pst s y z =
    let g = report_passed b store k octets route z in
    let p = g.whole.proper in
    let size : Storable (length (body_in octets)) pst =
    record { most = g.size; four = y.four; least = λ d. y.least; form = λ d. y.form; bare = λ e. absurd (omega (arith, least_some pst, y.least)) } in
    changed_proper b (target_of b k) (bearing b k (length (body_in octets)) pst) (floor_after b k (target_of b k)) s p
    (report_fits b p k (length (body_in octets)) pst (target_of b k) g.least_key g.most_key size g.versions_left g.place (report_place_is b k g.place))

-- a test on whether a verdict is an acceptance
taken? : (v : Verdict) → (v.number ≡ 0) ⊎ (v.number ≡ 0 → ⊥)
taken? v = same? v.number 0

pub report_proper : (b : Table) (store : List ℕ) (k : ℕ) (octets : List ℕ) (session : Session) (pst : ℕ) → ListsWhole b → Proper b → Proper (report_answer b store k octets session pst).table
unfolding report_answer report_with
report_proper b store k octets session pst s p = ⊎_elim yes no (taken? (report_verdict b store k octets (judge_of octets true session pst)))
  where
    yes : (report_verdict b store k octets (judge_of octets true session pst)).number ≡ 0
        → Proper (kept (report_verdict b store k octets (judge_of octets true session pst)).number b (reported b k octets pst))
    yes z =
        let g = report_passed b store k octets (judge_of octets true session pst) z in
        rw (kept_new (report_verdict b store k octets (judge_of octets true session pst)).number b (reported b k octets pst) z)
        (reported_proper b store k octets (judge_of octets true session pst) pst s (body_fits octets session pst g.route_taken) z)

    no : ((report_verdict b store k octets (judge_of octets true session pst)).number ≡ 0 → ⊥)
        → Proper (kept (report_verdict b store k octets (judge_of octets true session pst)).number b (reported b k octets pst))
    no d = rw (kept_old (report_verdict b store k octets (judge_of octets true session pst)).number b (reported b k octets pst) d) p

-- ---- remove
pub removed_proper : (b : Table) (store : List ℕ) (k : ℕ) → ListsWhole b → (remove_verdict b store k).number ≡ 0 → Proper (removed b k)
unfolding removed
removed_proper b store k s z =
    let g = remove_passed b store k z in
    let p = g.whole.proper in
    changed_proper b (place_of b k) (bearing b k 0 0) b.floor s p
    (record {
      here = g.place.here;
      low = g.least_key;
      high = g.most_key;
      size = record { most = omega arith; four = refl; least = λ d. absurd (d refl); form = λ d. absurd (d refl); bare = λ e. refl };
      newer = omega arith;
      version_in = omega (arith, p.version_in, g.versions_left);
      floor = p.floor_in;
      only = λ j l d q. d (p.keys_distinct j (place_of b k) l g.place.here (λ e. omega (arith, g.least_key, sym q ∙ e)) (q ∙ sym g.place.key));
      marks = λ j l d r. p.removal_above j l r;
    })

pub remove_proper : (b : Table) (store : List ℕ) (k : ℕ) → ListsWhole b → Proper b → Proper (remove_answer b store k).table
unfolding remove_answer
remove_proper b store k s p =
    ⊎_elim (λ z. rw (kept_new (remove_verdict b store k).number b (removed b k) z) (removed_proper b store k s z))
    (λ d. rw (kept_old (remove_verdict b store k).number b (removed b k) d) p) (taken? (remove_verdict b store k))

-- ---- compact
module _ (b : Table) (m : ℕ) where
  pub compacted_key : (i : ℕ) → i < places → key_at (compacted b m) i ≡ cond (dropped b m i) 0 (key_at b i)
  unfolding compacted
  compacted_key i l = row_at (λ j. cond (dropped b m j) 0 (key_at b j)) 128 i l

  pub compacted_version : (i : ℕ) → i < places → version_at (compacted b m) i ≡ cond (dropped b m i) 0 (version_at b i)
  unfolding compacted
  compacted_version i l = row_at (λ j. cond (dropped b m j) 0 (version_at b j)) 128 i l

  pub dropped_is : (i : ℕ) → dropped b m i ≡ true → RemovalAt b i × (version_at b i ≤ m)
  unfolding dropped
  dropped_is i e = let p = both_true (removal_b b i) (leb (version_at b i) m) e in (removal_is b i p.0, leb-true (version_at b i) m p.1)

  kept_above : (i : ℕ) → dropped b m i ≡ false → RemovalAt b i → m < version_at b i
  unfolding dropped
  kept_above i e r = leb-false (version_at b i) m (rw (is_removal b i r) at e)

  -- a place of the compacted board is empty, or as it was
  data Left (i : ℕ) : Type 0 where
    gone : key_at (compacted b m) i ≡ 0 → version_at (compacted b m) i ≡ 0 → length_at (compacted b m) i ≡ 0 → form_at (compacted b m) i ≡ 0 → Left i
    same : dropped b m i ≡ false → key_at (compacted b m) i ≡ key_at b i → version_at (compacted b m) i ≡ version_at b i → Left i

  left : Proper b → (i : ℕ) → i < places → Left i
  unfolding compacted
  left p i l = go (dropped b m i) refl
    where
      go : (x : Bool) → dropped b m i ≡ x → Left i
      go true e = gone (compacted_key i l ∙ rw e) (compacted_version i l ∙ rw e) (dropped_is i e).0.bare (p.removal_form i l (dropped_is i e).0)
      go false e = same e (compacted_key i l ∙ rw e) (compacted_version i l ∙ rw e)

  pub compacted_proper : Proper b → m ≤ b.version → Proper (compacted b m)
  unfolding compacted
  compacted_proper p h =
      sound_proper (compacted b m) (omega (arith, p.floor_in)) p.version_in (λ i l. at i l (left p i l))
      (λ i j l k u e. keys i j l k u e (left p i l) (left p j k))
      (λ i j l k u e. versions i j l k u e (left p i l) (left p j k))
    where
      at : (i : ℕ) → i < places → Left i → Sound (entry_at (compacted b m) i) b.version (max b.floor m)
      at i l (gone e f g h) = sound_none (entry_at (compacted b m) i) b.version (max b.floor m) e f g h
      at i l (same d e f) =
          let o = proper_sound b p i l in
          rw (e, f)
          (record {
            none = o.none;
            key = o.key;
            low = o.low;
            high = o.high;
            mark = λ y w. let r : RemovalAt b i = record { used = y; bare = w } in omega (arith, kept_above i d r, o.mark y w);
            size = o.size;
          })

      keys : (i j : ℕ) → i < places → j < places → Used (compacted b m) i → key_at (compacted b m) i ≡ key_at (compacted b m) j → Left i → Left j → i ≡ j
      keys i j l k u e (gone x y z f) q = absurd (u x)
      keys i j l k u e (same d x y) (gone x' y' z' f') = absurd (u (e ∙ x'))
      keys i j l k u e (same d x y) (same d' x' y') = p.keys_distinct i j l k (λ z. u (x ∙ z)) (sym x ∙ e ∙ x')

      versions : (i j : ℕ) → i < places → j < places → Used (compacted b m) i → version_at (compacted b m) i ≡ version_at (compacted b m) j → Left i → Left j → i ≡ j
      versions i j l k u e (gone x y z f) q = absurd (u x)
      versions i j l k u e (same d x y) (gone x' y' z' f') = absurd (omega (arith, p.least_version i l (λ z. u (x ∙ z)), sym y ∙ e ∙ y'))
      versions i j l k u e (same d x y) (same d' x' y') = p.versions_distinct i j l k (λ z. u (x ∙ z)) (sym y ∙ e ∙ y')

pub compact_proper : (b : Table) (store : List ℕ) (m : ℕ) → Proper b → Proper (compact_answer b store m).table
unfolding compact_answer
compact_proper b store m p =
    ⊎_elim (λ z. rw (kept_new (compact_verdict b store m).number b (compacted b m) z) (compacted_proper b m p (compact_passed b store m z).reached))
    (λ d. rw (kept_old (compact_verdict b store m).number b (compacted b m) d) p) (taken? (compact_verdict b store m))

-- ---- version and floor
module _ (b : Table) (store : List ℕ) (k : ℕ) (octets : List ℕ) (session : Session) (pst : ℕ) where
  pub report_raises : (report_answer b store k octets session pst).verdict.number ≡ 0 → (report_answer b store k octets session pst).table.version ≡ b.version + 1
  unfolding report_answer report_with reported
  report_raises z = ap (λ (x : Table). x.version) (kept_new (report_verdict b store k octets (judge_of octets true session pst)).number b (reported b k octets pst) z)

  pub report_refused_keeps : ((report_answer b store k octets session pst).verdict.number ≡ 0 → ⊥) → (report_answer b store k octets session pst).table ≡ b
  unfolding report_answer report_with
  report_refused_keeps d = kept_old (report_verdict b store k octets (judge_of octets true session pst)).number b (reported b k octets pst) d

  reported_floor : (report_verdict b store k octets (judge_of octets true session pst)).number ≡ 0 → b.floor ≤ (reported b k octets pst).floor
  unfolding reported
  reported_floor z =
      let g = report_passed b store k octets (judge_of octets true session pst) z in
      rises (target_of b k) g.whole.proper (report_place_is b k g.place)
    where
      rises : (i : ℕ) → Proper b → ReportPlace b k i → b.floor ≤ floor_after b k i
      rises i p (keeps x) = omega (arith, floor_keeps b k i x.key)
      rises i p (takes n x) = omega (arith, floor_takes b k i x.empty)
      rises i p (drops n u x) = omega (arith, floor_drops b k i x.removal.used (n i x.here), p.removal_above i x.here x.removal)

  pub report_floor : b.floor ≤ (report_answer b store k octets session pst).table.floor
  unfolding report_answer report_with
  report_floor =
      ⊎_elim (λ z. rw (kept_new (report_verdict b store k octets (judge_of octets true session pst)).number b (reported b k octets pst) z) (reported_floor z))
      (λ d. rw (kept_old (report_verdict b store k octets (judge_of octets true session pst)).number b (reported b k octets pst) d) (omega arith))
      (taken? (report_verdict b store k octets (judge_of octets true session pst)))

module _ (b : Table) (store : List ℕ) (k : ℕ) where
  pub remove_raises : (remove_answer b store k).verdict.number ≡ 0 → (remove_answer b store k).table.version ≡ b.version + 1
  unfolding remove_answer removed
  remove_raises z = ap (λ (x : Table). x.version) (kept_new (remove_verdict b store k).number b (removed b k) z)

  pub remove_refused_keeps : ((remove_answer b store k).verdict.number ≡ 0 → ⊥) → (remove_answer b store k).table ≡ b
  unfolding remove_answer
  remove_refused_keeps d = kept_old (remove_verdict b store k).number b (removed b k) d

  pub remove_floor : (remove_answer b store k).table.floor ≡ b.floor
  unfolding remove_answer removed
  remove_floor =
      ⊎_elim (λ z. ap (λ (x : Table). x.floor) (kept_new (remove_verdict b store k).number b (removed b k) z))
      (λ d. ap (λ (x : Table). x.floor) (kept_old (remove_verdict b store k).number b (removed b k) d)) (taken? (remove_verdict b store k))

module _ (b : Table) (store : List ℕ) (m : ℕ) where
  pub compact_keeps_version : (compact_answer b store m).table.version ≡ b.version
  unfolding compact_answer compacted
  compact_keeps_version =
      ⊎_elim (λ z. ap (λ (x : Table). x.version) (kept_new (compact_verdict b store m).number b (compacted b m) z))
      (λ d. ap (λ (x : Table). x.version) (kept_old (compact_verdict b store m).number b (compacted b m) d)) (taken? (compact_verdict b store m))

  pub compact_refused_keeps : ((compact_answer b store m).verdict.number ≡ 0 → ⊥) → (compact_answer b store m).table ≡ b
  unfolding compact_answer
  compact_refused_keeps d = kept_old (compact_verdict b store m).number b (compacted b m) d

  -- "the floor becomes c if that is higher"
  pub compact_floor : (compact_answer b store m).verdict.number ≡ 0 → (compact_answer b store m).table.floor ≡ max b.floor m
  unfolding compact_answer compacted
  compact_floor z = ap (λ (x : Table). x.floor) (kept_new (compact_verdict b store m).number b (compacted b m) z)
