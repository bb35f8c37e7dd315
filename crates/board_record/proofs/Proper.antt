-- Properness, the record and the test, are equal; the empty table is proper. Both ways go place by place (`Sound`), then over all places. Assumes
-- nothing.
use Prim.Native.Nat.{ℕ, ◌<◌, ◌≤◌, ◌%◌}
use native.Mathlib.Omega.{arith}
use mathlib.Core.Path.{◌≡◌, refl}
use mathlib.Core.Bool.{Bool, true, false, cond, ◌&&◌, ◌||◌}
use mathlib.Core.Logic.{◌⊎◌, inl, inr, ⊎_elim}
use lib.ListN.{length-replicate}
use lib.Dec.{eqb, ltb, leb}
use borrow.Author.Tests.{eqb-true, eqb-false, leb-true, ltb-true, eq-eqb, lt-ltb, le-leb}
use Rattle.objects.specs.Objects.{unit, srv6_setup, mpls_setup}
use Rattle.board_record.specs.Sizes.{places, room, key_most, version_most, body_least}
use Rattle.board_record.specs.Table.{Table, empty_table, ListsWhole, Entry, key_at, version_at, length_at, form_at, entry_at, Used, RemovalAt, PathAt}
use Rattle.board_record.specs.Proper.{Proper, IsForm, all_below, path_ok, place_ok, sound_b, distinct_b, proper_b}
use Rattle.octets.proofs.Said.{both_true, or_true}
use Rattle.board_record.proofs.Logic.{same?}
use Rattle.board_record.proofs.Lists.{zeros}
use Rattle.board_record.proofs.All.{all_at, all_of, distinct_one, one_distinct}

-- ---- a form, as a test
form_is : (f : ℕ) → eqb f srv6_setup || eqb f mpls_setup ≡ true → IsForm f
form_is f e = go (eqb f srv6_setup) refl e
  where
    go : (x : Bool) → eqb f srv6_setup ≡ x → x || eqb f mpls_setup ≡ true → IsForm f
    go true q h = inl (eqb-true f srv6_setup q)
    go false q h = inr (eqb-true f mpls_setup h)

is_form : (f : ℕ) → IsForm f → eqb f srv6_setup || eqb f mpls_setup ≡ true
is_form f (inl e) = rw (eq-eqb f srv6_setup e)
is_form f (inr e) = rw (eq-eqb f mpls_setup e) (or_true (eqb f srv6_setup))

-- ---- a path's length and form
pub record Body (n f : ℕ) : Type 0 where
  pub four : n % unit ≡ 0
  pub form : IsForm f
  pub least : body_least f ≤ n
  pub most : n ≤ room

pub body_is : (length form : ℕ) → path_ok length form ≡ true → Body length form
unfolding path_ok
body_is length form e =
    let p = both_true _ _ e in
    let r = both_true _ _ p.0 in
    let s = both_true _ _ r.0 in
    record { four = eqb-true (length % unit) 0 s.0; form = form_is form s.1; least = leb-true (body_least form) length r.1; most = leb-true length room p.1 }

pub is_body : (length form : ℕ) → Body length form → path_ok length form ≡ true
unfolding path_ok
is_body length form b = rw (eq-eqb (length % unit) 0 b.four, is_form form b.form, le-leb (body_least form) length b.least, le-leb length room b.most)

-- ---- what a place may hold: a body's length and form, or 0 and 0 where there is no body
pub record Storable (n f : ℕ) : Type 0 where
  pub most : n ≤ room
  pub four : n % unit ≡ 0
  pub least : (n ≡ 0 → ⊥) → body_least f ≤ n
  pub form : (n ≡ 0 → ⊥) → IsForm f
  pub bare : n ≡ 0 → f ≡ 0

pub storable_none : (n f : ℕ) → n ≡ 0 → f ≡ 0 → Storable n f
storable_none n f z g = record { most = omega arith; four = omega arith; least = λ y. absurd (y z); form = λ y. absurd (y z); bare = λ y. g }

pub storable_body : (n f : ℕ) → (n ≡ 0 → ⊥) → Body n f → Storable n f
storable_body n f z b = record { most = b.most; four = b.four; least = λ y. b.least; form = λ y. b.form; bare = λ y. absurd (z y) }

-- ---- the same as a test
pub storable_is : (n f : ℕ) → cond (eqb n 0) (eqb f 0) (path_ok n f) ≡ true → Storable n f
storable_is n f t = go (eqb n 0) refl t
  where
    go : (x : Bool) → eqb n 0 ≡ x → cond x (eqb f 0) (path_ok n f) ≡ true → Storable n f
    go true q h = storable_none n f (eqb-true n 0 q) (eqb-true f 0 h)
    go false q h = storable_body n f (eqb-false n 0 q) (body_is n f h)

pub is_storable : (n f : ℕ) → Storable n f → cond (eqb n 0) (eqb f 0) (path_ok n f) ≡ true
is_storable n f s = go (eqb n 0) refl
  where
    go : (x : Bool) → eqb n 0 ≡ x → cond x (eqb f 0) (path_ok n f) ≡ true
    go true q = eq-eqb f 0 (s.bare (eqb-true n 0 q))
    go false q = let z = eqb-false n 0 q in is_body n f (record { four = s.four; form = s.form z; least = s.least z; most = s.most })

-- ---- one place
pub record Sound (e : Entry) (version floor : ℕ) : Type 0 where
  pub none : e.key ≡ 0 → (e.version ≡ 0) × (e.length ≡ 0)
  pub key : e.key ≤ key_most
  pub low : (e.key ≡ 0 → ⊥) → 1 ≤ e.version
  pub high : e.version ≤ version
  pub mark : (e.key ≡ 0 → ⊥) → e.length ≡ 0 → floor < e.version
  pub size : Storable e.length e.form

-- an empty one
pub sound_none : (e : Entry) (version floor : ℕ) → e.key ≡ 0 → e.version ≡ 0 → e.length ≡ 0 → e.form ≡ 0 → Sound e version floor
sound_none e version floor k v n f =
    record { none = λ y. (v, n); key = omega arith; low = λ y. absurd (y k); high = omega arith; mark = λ y w. absurd (y k); size = storable_none e.length e.form n f }

-- one that is sound under its own version, under a higher one
pub sound_below : (e : Entry) (version floor : ℕ) → Sound e e.version floor → e.version ≤ version → Sound e version floor
sound_below e version floor s h = record { none = s.none; key = s.key; low = s.low; high = h; mark = s.mark; size = s.size }

module _ (e : Entry) (version floor : ℕ) where
  -- what the test asks of a used place, by whether it is a removal
  abbrev size? : Bool → Bool
  size? bare = cond bare (eqb e.form 0 && ltb floor e.version) (path_ok e.length e.form)

  -- and of a place, by whether it is empty
  abbrev place? : Bool → Bool
  place? empty =
      cond empty (eqb e.length 0 && eqb e.version 0 && eqb e.form 0)
      (leb e.key key_most && leb 1 e.version && leb e.version version && size? (eqb e.length 0))

  pub sound : place_ok e version floor ≡ true → Sound e version floor
  unfolding place_ok
  sound t = go (eqb e.key 0) refl t
    where
      size : (x : Bool) → eqb e.length 0 ≡ x → (e.key ≡ 0 → ⊥) → e.key ≤ key_most → 1 ≤ e.version → e.version ≤ version → size? x ≡ true → Sound e version floor
      size true q n a b c h =
          let z = eqb-true e.length 0 q in
          let p = both_true _ _ h in
          let f = ltb-true floor e.version p.1 in
          record {
            none = λ y. absurd (n y);
            key = a;
            low = λ y. b;
            high = c;
            mark = λ y w. f;
            size = storable_none e.length e.form z (eqb-true e.form 0 p.0);
          }
      size false q n a b c h =
          let z = eqb-false e.length 0 q in
          record {
            none = λ y. absurd (n y);
            key = a;
            low = λ y. b;
            high = c;
            mark = λ y w. absurd (z w);
            size = storable_body e.length e.form z (body_is e.length e.form h);
          }

      go : (x : Bool) → eqb e.key 0 ≡ x → place? x ≡ true → Sound e version floor
      go true q h =
          let p = both_true _ _ h in
          let r = both_true _ _ p.0 in
          sound_none e version floor (eqb-true e.key 0 q) (eqb-true e.version 0 r.1) (eqb-true e.length 0 r.0) (eqb-true e.form 0 p.1)
      go false q h =
          let p = both_true _ _ h in
          let r = both_true _ _ p.0 in
          let s = both_true _ _ r.0 in
          size (eqb e.length 0) refl (eqb-false e.key 0 q) (leb-true e.key key_most s.0) (leb-true 1 e.version s.1) (leb-true e.version version r.1) p.1

  pub is_sound : Sound e version floor → place_ok e version floor ≡ true
  unfolding place_ok
  is_sound r = go (eqb e.key 0) refl
    where
      size : (x : Bool) → eqb e.length 0 ≡ x → (e.key ≡ 0 → ⊥) → size? x ≡ true
      size true q n =
          let z = eqb-true e.length 0 q in
          rw (eq-eqb e.form 0 (r.size.bare z), lt-ltb floor e.version (r.mark n z))
      size false q n =
          let z = eqb-false e.length 0 q in
          let t = r.size in
          is_body e.length e.form (record { four = t.four; form = t.form z; least = t.least z; most = t.most })

      go : (x : Bool) → eqb e.key 0 ≡ x → place? x ≡ true
      go true q = let z = r.none (eqb-true e.key 0 q) in rw (eq-eqb e.version 0 z.0, eq-eqb e.length 0 z.1, eq-eqb e.form 0 (r.size.bare z.1))
      go false q =
          let n = eqb-false e.key 0 q in
          rw (le-leb e.key key_most r.key, le-leb 1 e.version (r.low n), le-leb e.version version r.high) (size (eqb e.length 0) refl n)

-- ---- the whole, from its places
pub sound_proper : (b : Table) → b.floor ≤ b.version → b.version ≤ version_most → ((i : ℕ) → i < places → Sound (entry_at b i) b.version b.floor)
    → ((i j : ℕ) → i < places → j < places → Used b i → key_at b i ≡ key_at b j → i ≡ j)
    → ((i j : ℕ) → i < places → j < places → Used b i → version_at b i ≡ version_at b j → i ≡ j)
    → Proper b
sound_proper b f t at ks vs =
    record {
      least_key = λ i l u. omega (arith, u);
      most_key = λ i l u. (at i l).key;
      keys_distinct = ks;
      versions_distinct = vs;
      least_version = λ i l u. (at i l).low u;
      most_version = λ i l u. (at i l).high;
      removal_above = λ i l y. (at i l).mark y.used y.bare;
      floor_in = f;
      version_in = t;
      length_unit = λ i l y. (at i l).size.four;
      length_least = λ i l y. (at i l).size.least y.body;
      length_most = λ i l y. (at i l).size.most;
      empty_version = λ i l y. ((at i l).none y).0;
      empty_length = λ i l y. ((at i l).none y).1;
      path_form = λ i l y. (at i l).size.form y.body;
      removal_form = λ i l y. (at i l).size.bare y.bare;
      empty_form = λ i l y. (at i l).size.bare ((at i l).none y).1;
    }

-- ---- from the test to the record
pub proper_b_sound : (b : Table) → proper_b b ≡ true → (i : ℕ) → i < places → Sound (entry_at b i) b.version b.floor
unfolding proper_b sound_b
proper_b_sound b e i l =
    let p = both_true (leb b.floor b.version && leb b.version version_most && all_below (sound_b b) places && distinct_b b.keys) _ e in
    let q = both_true (leb b.floor b.version && leb b.version version_most && all_below (sound_b b) places) _ p.0 in
    let r = both_true (leb b.floor b.version && leb b.version version_most) _ q.0 in
    sound (entry_at b i) b.version b.floor (all_at (sound_b b) places r.1 i l)

pub proper_is : (b : Table) → proper_b b ≡ true → Proper b
unfolding proper_b
proper_is b e =
    let p = both_true (leb b.floor b.version && leb b.version version_most && all_below (sound_b b) places && distinct_b b.keys) _ e in
    let q = both_true (leb b.floor b.version && leb b.version version_most && all_below (sound_b b) places) _ p.0 in
    let r = both_true (leb b.floor b.version && leb b.version version_most) _ q.0 in
    let s = both_true (leb b.floor b.version) _ r.0 in
    let at : (i : ℕ) → i < places → Sound (entry_at b i) b.version b.floor = proper_b_sound b e in
    sound_proper b (leb-true b.floor b.version s.0) (leb-true b.version version_most s.1) at
    (λ i j l m u y. distinct_one b.keys q.1 i j l m u y)
    (λ i j l m u y. distinct_one b.versions p.1 i j l m (λ z. omega (arith, (at i l).low u)) y)

-- ---- and from the record to the test
pub proper_sound : (b : Table) → Proper b → (i : ℕ) → i < places → Sound (entry_at b i) b.version b.floor
proper_sound b p i l = ⊎_elim none used (same? (key_at b i) 0)
  where
    none : key_at b i ≡ 0 → Sound (entry_at b i) b.version b.floor
    none e = sound_none (entry_at b i) b.version b.floor e (p.empty_version i l e) (p.empty_length i l e) (p.empty_form i l e)

    used : Used b i → Sound (entry_at b i) b.version b.floor
    used u = ⊎_elim bare body (same? (length_at b i) 0)
      where
        bare : length_at b i ≡ 0 → Sound (entry_at b i) b.version b.floor
        bare n =
            let y : RemovalAt b i = record { used = u; bare = n } in
            record {
              none = λ z. absurd (u z);
              key = p.most_key i l u;
              low = λ z. p.least_version i l u;
              high = p.most_version i l u;
              mark = λ z w. p.removal_above i l y;
              size = storable_none (length_at b i) (form_at b i) n (p.removal_form i l y);
            }

        body : (length_at b i ≡ 0 → ⊥) → Sound (entry_at b i) b.version b.floor
        body n =
            let y : PathAt b i = record { used = u; body = n } in
            record {
              none = λ z. absurd (u z);
              key = p.most_key i l u;
              low = λ z. p.least_version i l u;
              high = p.most_version i l u;
              mark = λ z w. absurd (n w);
              size =
                  storable_body (length_at b i) (form_at b i) n
                  (record { four = p.length_unit i l y; form = p.path_form i l y; least = p.length_least i l y; most = p.length_most i l y });
            }

pub is_proper : (b : Table) → Proper b → proper_b b ≡ true
unfolding proper_b sound_b
is_proper b p =
    let keys : distinct_b b.keys ≡ true = one_distinct b.keys p.keys_distinct in
    let versions : distinct_b b.versions ≡ true = one_distinct b.versions (λ i j l m u y. p.versions_distinct i j l m (λ e. u (p.empty_version i l e)) y) in
    let all : all_below (sound_b b) places ≡ true = all_of (sound_b b) places (λ i l. is_sound (entry_at b i) b.version b.floor (proper_sound b p i l)) in
    rw (le-leb b.floor b.version p.floor_in, le-leb b.version version_most p.version_in, all, keys, versions)

-- ---- the empty board
pub empty_sized : ListsWhole empty_table
empty_sized = record { keys = length-replicate {A = ℕ} 128 0; versions = length-replicate {A = ℕ} 128 0; lengths = length-replicate {A = ℕ} 128 0; forms = length-replicate {A = ℕ} 128 0 }

pub empty_proper : Proper empty_table
empty_proper =
    record {
      least_key = λ i l u. absurd (u (zeros 128 i));
      most_key = λ i l u. absurd (u (zeros 128 i));
      keys_distinct = λ i j l m u y. absurd (u (zeros 128 i));
      versions_distinct = λ i j l m u y. absurd (u (zeros 128 i));
      least_version = λ i l u. absurd (u (zeros 128 i));
      most_version = λ i l u. absurd (u (zeros 128 i));
      removal_above = λ i l y. absurd (y.used (zeros 128 i));
      floor_in = omega arith;
      version_in = omega arith;
      length_unit = λ i l y. absurd (y.used (zeros 128 i));
      length_least = λ i l y. absurd (y.used (zeros 128 i));
      length_most = λ i l y. absurd (y.used (zeros 128 i));
      empty_version = λ i l y. zeros 128 i;
      empty_length = λ i l y. zeros 128 i;
      path_form = λ i l y. absurd (y.used (zeros 128 i));
      removal_form = λ i l y. absurd (y.used (zeros 128 i));
      empty_form = λ i l y. zeros 128 i;
    }
