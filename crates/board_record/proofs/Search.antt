-- The places that the calls look for: the function of each names the place that the paper's words describe, which is one only. First what a search for
-- the first, and for the least, ends at (`IsFirst`, `IsLeast`); then, for each place, that the function's has what its record asks, that where the
-- function says 128 there is none, and that the record has one place. Assumes nothing.
use Prim.Native.Nat.{ℕ, zero, suc, ◌+◌, ◌<◌, ◌≤◌}
use native.Mathlib.Numerals.{add-one}
use native.Mathlib.Decide.{le_ind}
use native.Mathlib.Omega.{arith}
use mathlib.Core.Path.{◌≡◌, refl, sym, ◌∙◌, subst}
use mathlib.Core.Bool.{Bool, true, false, not, cond, ◌&&◌, ◌||◌}
use mathlib.Core.Logic.{◌⊎◌, ⊎_elim}
use lib.Dec.{eqb, ltb, leb}
use borrow.Author.Tests.{eq-eqb, ne_eqb, eqb-true, eqb-false, lt-ltb, le-ltb, ltb-true, leb-true, leb-false, not-true}
use borrow.Author.Count.{below_more}
use Rattle.board_record.specs.Sizes.{places}
use Rattle.board_record.specs.Table.{Table, key_at, version_at, length_at, Empty, Used, RemovalAt, PathAt, New, used_b, removal_b}
use Rattle.board_record.specs.Search.{first_where, least_where, KeyPlace, place_in, place_of, LowestEmpty, empty_of, OldestRemoval, oldest_of}
use Rattle.board_record.specs.Search.{ReportPlace, keeps, takes, drops, target_of, floor_after, Wanted, path, removal, NextChange, wanted_b, next_of}
use Rattle.board_record.specs.Proper.{Proper}
use Rattle.octets.proofs.Said.{both_true}
use Rattle.board_record.proofs.Logic.{true≢false, same?, from?}

-- ---- the first that passes
pub data IsFirst (t : ℕ → Bool) (n i : ℕ) : Type 0 where
  nobody : i ≡ n → ((j : ℕ) → j < n → t j ≡ false) → IsFirst t n i
  this : i < n → t i ≡ true → ((j : ℕ) → j < i → t j ≡ false) → IsFirst t n i

first_step : (t : ℕ → Bool) (n i : ℕ) → IsFirst t n i → (x : Bool) → t n ≡ x → IsFirst t (suc n) (cond (ltb i n) i (cond x n (suc n)))
first_step t n i (nobody e f) true q = rw (e, le-ltb n n (omega arith)) (this (omega arith) q f)
first_step t n i (nobody e f) false q = rw (e, le-ltb n n (omega arith)) (nobody refl (λ j m. below_more (λ k. t k ≡ false) n f q j (omega arith)))
first_step t n i (this l e f) x q = rw (lt-ltb i n l) (this (omega arith) e f)

pub first_is : (t : ℕ → Bool) (n : ℕ) → IsFirst t n (first_where t n)
unfolding first_where
first_is t zero = nobody refl (λ j m. absurd (omega arith))
first_is t (suc n) = first_step t n (first_where t n) (first_is t n) (t n) refl

pub first_hit : (t : ℕ → Bool) (n : ℕ) → first_where t n < n → t (first_where t n) ≡ true
first_hit t n l = go (first_where t n) (first_is t n) l
  where
    go : (i : ℕ) → IsFirst t n i → i < n → t i ≡ true
    go i (nobody e f) m = absurd (omega arith)
    go i (this u e f) m = e

pub first_before : (t : ℕ → Bool) (n : ℕ) (j : ℕ) → j < n → j < first_where t n → t j ≡ false
first_before t n j l m = go (first_where t n) (first_is t n) m
  where
    go : (i : ℕ) → IsFirst t n i → j < i → t j ≡ false
    go i (nobody e f) m = f j l
    go i (this u e f) m = f j m

-- a loop that looks for it: nothing yet, here, and nowhere
pub first_none : (t : ℕ → Bool) → first_where t 0 ≡ 0
unfolding first_where
first_none t = refl

pub first_more : (t : ℕ → Bool) (i : ℕ) → first_where t i ≡ i → t i ≡ false → first_where t (i + 1) ≡ i + 1
unfolding first_where
first_more t i e f = rw (add-one, first_where, e, le-ltb i i (omega arith), f)

pub first_found : (t : ℕ → Bool) (n i : ℕ) → i < n → first_where t i ≡ i → t i ≡ true → i ≡ first_where t n
unfolding first_where
first_found t n i l e f =
    sym (le_ind (λ m. first_where t m ≡ i) (rw (first_where, e, le-ltb i i (omega arith), f)) (λ m h q. rw (first_where, q, lt-ltb i m h)) n l)

-- ---- that of the smallest value
pub data IsLeast (t : ℕ → Bool) (v : ℕ → ℕ) (n i : ℕ) : Type 0 where
  nobody : i ≡ places → ((j : ℕ) → j < n → t j ≡ false) → IsLeast t v n i
  this : i < n → i < places → t i ≡ true → ((j : ℕ) → j < n → t j ≡ true → v i ≤ v j) → IsLeast t v n i

least_step : (t : ℕ → Bool) (v : ℕ → ℕ) (n i : ℕ) → n < places → IsLeast t v n i → (x : Bool) → t n ≡ x → IsLeast t v (suc n) (cond (x && not (ltb i places && leb (v i) (v n))) n i)
least_step t v n i l (nobody h f) false e = nobody h (λ j m. below_more (λ k. t k ≡ false) n f e j (omega arith))
least_step t v n i l (nobody h f) true e =
    rw (le-ltb i 128 (omega arith))
    (this (omega arith) l e (λ j m q. below_more (λ k. t k ≡ true → v n ≤ v k) n (λ k u p. absurd (true≢false (sym p ∙ f k u))) (λ p. omega arith) j (omega arith) q))
least_step t v n i l (this a c p f) false e = this (omega arith) c p (λ j m r. below_more (λ k. t k ≡ true → v i ≤ v k) n f (λ y. absurd (true≢false (sym y ∙ e))) j (omega arith) r)
least_step t v n i l (this a c p f) true e = rw (lt-ltb i 128 c) (go (leb (v i) (v n)) refl)
  where
    go : (x : Bool) → leb (v i) (v n) ≡ x → IsLeast t v (suc n) (cond (not x) n i)
    go true y = let le = leb-true (v i) (v n) y in this (omega arith) c p (λ j m r. below_more (λ k. t k ≡ true → v i ≤ v k) n f (λ z. omega arith) j (omega arith) r)
    go false y = let lt = leb-false (v i) (v n) y in this (omega arith) l e (λ j m r. below_more (λ k. t k ≡ true → v n ≤ v k) n (λ k u z. omega (arith, f k u z)) (λ z. omega arith) j (omega arith) r)

pub least_is : (t : ℕ → Bool) (v : ℕ → ℕ) (n : ℕ) → n ≤ places → IsLeast t v n (least_where t v n)
unfolding least_where
least_is t v zero l = nobody refl (λ j m. absurd (omega arith))
least_is t v (suc n) l = least_step t v n (least_where t v n) (omega arith) (least_is t v n (omega arith)) (t n) refl

-- ---- the tests of a place
pub used_is : (b : Table) (p : ℕ) → used_b b p ≡ true → Used b p
unfolding used_b
used_is b p e = eqb-false (key_at b p) 0 (not-true (eqb (key_at b p) 0) e)

pub is_used : (b : Table) (p : ℕ) → Used b p → used_b b p ≡ true
unfolding used_b
is_used b p u = rw (ne_eqb (key_at b p) 0 u)

pub removal_is : (b : Table) (i : ℕ) → removal_b b i ≡ true → RemovalAt b i
unfolding removal_b
removal_is b i e =
    let p = both_true (not (eqb (key_at b i) 0)) (eqb (length_at b i) 0) e in
    record { used = eqb-false (key_at b i) 0 (not-true (eqb (key_at b i) 0) p.0); bare = eqb-true (length_at b i) 0 p.1 }

pub is_removal : (b : Table) (i : ℕ) → RemovalAt b i → removal_b b i ≡ true
unfolding removal_b
is_removal b i r = rw (ne_eqb (key_at b i) 0 r.used, eq-eqb (length_at b i) 0 r.bare)

pub wanted_is : (b : Table) (s w i : ℕ) → wanted_b b s w i ≡ true → Wanted b s w i
unfolding wanted_b
wanted_is b s w i e = go (eqb (length_at b i) 0) refl p.1
  where
    p : (not (eqb (key_at b i) 0) && ltb w (version_at b i) ≡ true) × ((not (eqb (length_at b i) 0) || ltb s (version_at b i)) ≡ true)
    p = both_true (not (eqb (key_at b i) 0) && ltb w (version_at b i)) (not (eqb (length_at b i) 0) || ltb s (version_at b i)) e

    q : (not (eqb (key_at b i) 0) ≡ true) × (ltb w (version_at b i) ≡ true)
    q = both_true (not (eqb (key_at b i) 0)) (ltb w (version_at b i)) p.0

    used : Used b i
    used = eqb-false (key_at b i) 0 (not-true (eqb (key_at b i) 0) q.0)

    above : w < version_at b i
    above = ltb-true w (version_at b i) q.1

    go : (x : Bool) → eqb (length_at b i) 0 ≡ x → (not x || ltb s (version_at b i)) ≡ true → Wanted b s w i
    go true y h = removal (record { used = used; bare = eqb-true (length_at b i) 0 y }) above (ltb-true s (version_at b i) h)
    go false y h = path (record { used = used; body = eqb-false (length_at b i) 0 y }) above

pub is_wanted : (b : Table) (s w i : ℕ) → Wanted b s w i → wanted_b b s w i ≡ true
unfolding wanted_b
is_wanted b s w i (path p l) = rw (ne_eqb (key_at b i) 0 p.used, lt-ltb w (version_at b i) l, ne_eqb (length_at b i) 0 p.body)
is_wanted b s w i (removal r l m) = rw (ne_eqb (key_at b i) 0 r.used, lt-ltb w (version_at b i) l, eq-eqb (length_at b i) 0 r.bare, lt-ltb s (version_at b i) m)

pub wanted_used : (b : Table) (s w i : ℕ) → Wanted b s w i → Used b i
wanted_used b s w i (path p l) = p.used
wanted_used b s w i (removal r l m) = r.used

-- ---- the place of a key
pub key_place_is : (b : Table) (k : ℕ) → place_of b k < places → KeyPlace b k (place_of b k)
unfolding place_in
key_place_is b k l = record { here = l; key = eqb-true (key_at b (first_where (λ i. eqb (key_at b i) k) 128)) k (first_hit (λ i. eqb (key_at b i) k) 128 l) }

pub key_place_none : (b : Table) (k : ℕ) → places ≤ place_of b k → New b k
unfolding place_in
key_place_none b k l j m = eqb-false (key_at b j) k (first_before (λ i. eqb (key_at b i) k) 128 j m (omega arith))

pub key_place_one : (b : Table) → Proper b → (k i j : ℕ) → (k ≡ 0 → ⊥) → KeyPlace b k i → KeyPlace b k j → i ≡ j
key_place_one b p k i j z x y = p.keys_distinct i j x.here y.here (λ e. z (sym x.key ∙ e)) (x.key ∙ sym y.key)

pub place_most : (b : Table) (k : ℕ) → place_of b k ≤ places
unfolding place_in
place_most b k = go (first_where (λ i. eqb (key_at b i) k) 128) (first_is (λ i. eqb (key_at b i) k) 128)
  where
    go : (i : ℕ) → IsFirst (λ i. eqb (key_at b i) k) 128 i → i ≤ 128
    go i (nobody e f) = omega arith
    go i (this u e f) = omega arith

-- a key on the table is at the place that the search names
pub key_place_found : (b : Table) → Proper b → (k i : ℕ) → (k ≡ 0 → ⊥) → KeyPlace b k i → place_of b k ≡ i
key_place_found b p k i z x =
    ⊎_elim (λ l. absurd (key_place_none b k l i x.here x.key)) (λ l. key_place_one b p k (place_of b k) i z (key_place_is b k l) x) (from? 128 (place_of b k))

-- ---- the lowest empty place
pub lowest_is : (b : Table) → empty_of b < places → LowestEmpty b (empty_of b)
unfolding place_in
lowest_is b l =
    record {
      here = l;
      empty = eqb-true (key_at b (first_where (λ i. eqb (key_at b i) 0) 128)) 0 (first_hit (λ i. eqb (key_at b i) 0) 128 l);
      lowest = λ j m. eqb-false (key_at b j) 0 (first_before (λ i. eqb (key_at b i) 0) 128 j (omega arith) m);
    }

pub lowest_none : (b : Table) → places ≤ empty_of b → (j : ℕ) → j < places → Used b j
unfolding place_in
lowest_none b l j m = eqb-false (key_at b j) 0 (first_before (λ i. eqb (key_at b i) 0) 128 j m (omega arith))

pub lowest_one : (b : Table) (i j : ℕ) → LowestEmpty b i → LowestEmpty b j → i ≡ j
lowest_one b i j x y =
    ⊎_elim (λ e. e) (λ d. absurd (⊎_elim (λ l. y.lowest i (omega (arith, d)) x.empty) (λ l. x.lowest j l y.empty) (from? i j))) (same? i j)

-- ---- the oldest removal
pub oldest_is : (b : Table) → oldest_of b < places → OldestRemoval b (oldest_of b)
unfolding oldest_of
oldest_is b l = go (least_where (removal_b b) (version_at b) 128) (least_is (removal_b b) (version_at b) 128 (omega arith)) l
  where
    go : (i : ℕ) → IsLeast (removal_b b) (version_at b) 128 i → i < 128 → OldestRemoval b i
    go i (nobody e f) m = absurd (omega arith)
    go i (this a c e f) m = record { here = c; removal = removal_is b i e; oldest = λ j n r. f j n (is_removal b j r) }

pub oldest_none : (b : Table) → places ≤ oldest_of b → (j : ℕ) → j < places → RemovalAt b j → ⊥
unfolding oldest_of
oldest_none b l j m r = go (least_where (removal_b b) (version_at b) 128) (least_is (removal_b b) (version_at b) 128 (omega arith)) l
  where
    go : (i : ℕ) → IsLeast (removal_b b) (version_at b) 128 i → 128 ≤ i → ⊥
    go i (nobody e f) n = true≢false (sym (is_removal b j r) ∙ f j m)
    go i (this a c e f) n = omega arith

pub oldest_one : (b : Table) → Proper b → (i j : ℕ) → OldestRemoval b i → OldestRemoval b j → i ≡ j
oldest_one b p i j x y =
    p.versions_distinct i j x.here y.here x.removal.used (omega (arith, x.oldest j y.here y.removal, y.oldest i x.here x.removal))

-- ---- where a report goes
target_known : (b : Table) (k : ℕ) → place_of b k < places → target_of b k ≡ place_of b k
unfolding target_of
target_known b k l = rw (lt-ltb (place_of b k) 128 l)

target_empty : (b : Table) (k : ℕ) → places ≤ place_of b k → empty_of b < places → target_of b k ≡ empty_of b
unfolding target_of
target_empty b k l m = rw (le-ltb (place_of b k) 128 l, lt-ltb (empty_of b) 128 m)

target_oldest : (b : Table) (k : ℕ) → places ≤ place_of b k → places ≤ empty_of b → target_of b k ≡ oldest_of b
unfolding target_of
target_oldest b k l m = rw (le-ltb (place_of b k) 128 l, le-ltb (empty_of b) 128 m)

pub report_place_is : (b : Table) (k : ℕ) → target_of b k < places → ReportPlace b k (target_of b k)
report_place_is b k l = ⊎_elim new known (from? 128 (place_of b k))
  where
    known : place_of b k < 128 → ReportPlace b k (target_of b k)
    known m = keeps (subst (λ (i : ℕ). KeyPlace b k i) (sym (target_known b k m)) (key_place_is b k m))

    new : 128 ≤ place_of b k → ReportPlace b k (target_of b k)
    new m = ⊎_elim full free (from? 128 (empty_of b))
      where
        free : empty_of b < 128 → ReportPlace b k (target_of b k)
        free n = takes (key_place_none b k m) (subst (λ (i : ℕ). LowestEmpty b i) (sym (target_empty b k m n)) (lowest_is b n))

        full : 128 ≤ empty_of b → ReportPlace b k (target_of b k)
        full n =
            let e = target_oldest b k m n in
            drops (key_place_none b k m) (lowest_none b n) (subst (λ (i : ℕ). OldestRemoval b i) (sym e) (oldest_is b (omega arith)))

pub report_place_one : (b : Table) → Proper b → (k i j : ℕ) → (k ≡ 0 → ⊥) → ReportPlace b k i → ReportPlace b k j → i ≡ j
report_place_one b p k i j z (keeps x) (keeps y) = key_place_one b p k i j z x y
report_place_one b p k i j z (keeps x) (takes n y) = absurd (n i x.here x.key)
report_place_one b p k i j z (keeps x) (drops n u y) = absurd (n i x.here x.key)
report_place_one b p k i j z (takes n x) (keeps y) = absurd (n j y.here y.key)
report_place_one b p k i j z (takes n x) (takes m y) = lowest_one b i j x y
report_place_one b p k i j z (takes n x) (drops m u y) = absurd (u i x.here x.empty)
report_place_one b p k i j z (drops n u x) (keeps y) = absurd (n j y.here y.key)
report_place_one b p k i j z (drops n u x) (takes m y) = absurd (u j y.here y.empty)
report_place_one b p k i j z (drops n u x) (drops m v y) = oldest_one b p i j x y

-- "21 exactly if the key is new and all 128 hold paths": a report has nowhere to go
pub record Full (b : Table) (k : ℕ) : Type 0 where
  pub new : New b k
  pub paths : (j : ℕ) → j < places → PathAt b j

pub full_is : (b : Table) (k : ℕ) → places ≤ target_of b k → Full b k
full_is b k l = ⊎_elim new known (from? 128 (place_of b k))
  where
    known : place_of b k < 128 → Full b k
    known m = absurd (omega (arith, target_known b k m))

    new : 128 ≤ place_of b k → Full b k
    new m = ⊎_elim full free (from? 128 (empty_of b))
      where
        free : empty_of b < 128 → Full b k
        free n = absurd (omega (arith, target_empty b k m n))

        full : 128 ≤ empty_of b → Full b k
        full n =
            record {
              new = key_place_none b k m;
              paths = λ j h. record { used = lowest_none b n j h; body = λ e. oldest_none b (omega (arith, target_oldest b k m n)) j h (record { used = lowest_none b n j h; bare = e }) };
            }

pub is_full : (b : Table) (k : ℕ) → Full b k → places ≤ target_of b k
is_full b k f = ⊎_elim (λ l. l) (λ l. absurd (go (target_of b k) (report_place_is b k l))) (from? 128 (target_of b k))
  where
    go : (i : ℕ) → ReportPlace b k i → ⊥
    go i (keeps x) = f.new i x.here x.key
    go i (takes n x) = (f.paths i x.here).used x.empty
    go i (drops n u x) = (f.paths i x.here).body x.removal.bare

-- ---- the floor after a report
pub floor_keeps : (b : Table) (k i : ℕ) → key_at b i ≡ k → floor_after b k i ≡ b.floor
unfolding floor_after
floor_keeps b k i e = go (eqb (key_at b i) 0)
  where
    go : (x : Bool) → cond x b.floor (cond (eqb (key_at b i) k) b.floor (version_at b i)) ≡ b.floor
    go true = refl
    go false = rw (eq-eqb (key_at b i) k e)

pub floor_takes : (b : Table) (k i : ℕ) → Empty b i → floor_after b k i ≡ b.floor
unfolding floor_after
floor_takes b k i e = rw (eq-eqb (key_at b i) 0 e)

pub floor_drops : (b : Table) (k i : ℕ) → Used b i → (key_at b i ≡ k → ⊥) → floor_after b k i ≡ version_at b i
unfolding floor_after
floor_drops b k i u d = rw (ne_eqb (key_at b i) 0 u, ne_eqb (key_at b i) k d)

-- ---- the next change
pub next_is : (b : Table) (s w : ℕ) → next_of b s w < places → NextChange b s w (next_of b s w)
unfolding next_of
next_is b s w l = go (least_where (wanted_b b s w) (version_at b) 128) (least_is (wanted_b b s w) (version_at b) 128 (omega arith)) l
  where
    go : (i : ℕ) → IsLeast (wanted_b b s w) (version_at b) 128 i → i < 128 → NextChange b s w i
    go i (nobody e f) m = absurd (omega arith)
    go i (this a c e f) m = record { here = c; wanted = wanted_is b s w i e; smallest = λ j n r. f j n (is_wanted b s w j r) }

pub next_none : (b : Table) (s w : ℕ) → places ≤ next_of b s w → (j : ℕ) → j < places → Wanted b s w j → ⊥
unfolding next_of
next_none b s w l j m r = go (least_where (wanted_b b s w) (version_at b) 128) (least_is (wanted_b b s w) (version_at b) 128 (omega arith)) l
  where
    go : (i : ℕ) → IsLeast (wanted_b b s w) (version_at b) 128 i → 128 ≤ i → ⊥
    go i (nobody e f) n = true≢false (sym (is_wanted b s w j r) ∙ f j m)
    go i (this a c e f) n = omega arith

pub next_most : (b : Table) (s w : ℕ) → next_of b s w ≤ places
unfolding next_of
next_most b s w = go (least_where (wanted_b b s w) (version_at b) 128) (least_is (wanted_b b s w) (version_at b) 128 (omega arith))
  where
    go : (i : ℕ) → IsLeast (wanted_b b s w) (version_at b) 128 i → i ≤ 128
    go i (nobody e f) = omega arith
    go i (this a c e f) = omega arith

pub next_one : (b : Table) → Proper b → (s w i j : ℕ) → NextChange b s w i → NextChange b s w j → i ≡ j
next_one b p s w i j x y =
    p.versions_distinct i j x.here y.here (wanted_used b s w i x.wanted) (omega (arith, x.smallest j y.here y.wanted, y.smallest i x.here x.wanted))
