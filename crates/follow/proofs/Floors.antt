-- The board's floor is the story's: a key stands by the story exactly if a place has it, so as many keys stand as places are used, and the oldest removal
-- that stands is the oldest on the table. Assumes nothing.
use Prim.Native.Nat.{ℕ, zero, suc, ◌≤◌, ◌<◌}
use native.Mathlib.Omega.{arith}
use mathlib.Core.Path.{◌≡◌, refl, sym, ap, ◌∙◌}
use mathlib.Core.Bool.{Bool, true, false, not, cond, ◌&&◌, ◌||◌}
use mathlib.Core.List.{List}
use mathlib.Core.Option.{Option, none, some}
use mathlib.Core.Logic.{◌⊎◌, inl, inr, ⊎_elim}
use lib.Dec.{eqb, ltb, leb}
use borrow.Author.Tests.{eq-eqb, ne_eqb, eqb-true, lt-ltb, le-ltb, ltb-true, leb-true, leb-false, not-true}
use borrow.Author.Count.{below_more}
use Rattle.board_record.specs.Lists.{count_below}
use Rattle.board_record.specs.Table.{Table, key_at, version_at, length_at, used_b}
use Rattle.board_record.specs.Search.{ReportPlace, keeps, takes, drops, floor_after}
use Rattle.octets.proofs.Said.{both_true}
use Rattle.board_record.proofs.Logic.{true≢false, test_is}
use Rattle.board_record.proofs.Proper.{proper_sound}
use Rattle.board_record.proofs.Search.{used_is, is_used, floor_keeps, floor_takes, floor_drops}
use Rattle.board_record.proofs.Lists.{count_same, count_full, count_less, hits_at, hits_where}
use Rattle.follow.specs.Story.{HeldPath, Story, held, last}
use Rattle.follow.specs.Floor.{least_value, is_some, standing, key_end, floor_put}
use Rattle.follow.proofs.Cases.{none_of, or_cases, not_true_is_false}
use Rattle.follow.proofs.Begun.{path_in, path_mark}
use Rattle.follow.proofs.Keeps.{none_yet}
use Rattle.follow.proofs.Table.{StandsFor, path_none}
use Rattle.follow.proofs.Counts.{has, keys_count}

-- ---- a key stands exactly if a place has it
module _ (b : Table) (store : List ℕ) (h : Story) (r : StandsFor b store h) where
  place_stands : (i : ℕ) → i < 128 → (key_at b i ≡ 0 → ⊥) → standing h b.floor (key_at b i) ≡ true
  unfolding standing
  place_stands i l u = let g = r.here i l u in go (eqb (length_at b i) 0) refl (rw (g.1, g.0) refl)
    where
      go : (x : Bool) → eqb (length_at b i) 0 ≡ x → standing h b.floor (key_at b i) ≡ is_some (path_in b store i) || ltb b.floor (version_at b i) → standing h b.floor (key_at b i) ≡ true
      go true e q = q ∙ rw (e, lt-ltb b.floor (version_at b i) ((proper_sound b r.proper i l).mark u (eqb-true _ _ e)))
      go false e q = q ∙ rw e

  stands_last : (k : ℕ) → standing h b.floor k ≡ true → (0 < last h k) × (held h k ≡ none → b.floor < last h k)
  unfolding standing
  stands_last k e = go (held h k) refl (or_cases (is_some (held h k)) _ e)
    where
      go : (o : Option HeldPath) → held h k ≡ o → (is_some (held h k) ≡ true) ⊎ (ltb b.floor (last h k) ≡ true) → (0 < last h k) × (held h k ≡ none → b.floor < last h k)
      go o p (inr q) = let l = ltb-true b.floor (last h k) q in (omega arith, λ z. l)
      go none p (inl q) = absurd (true≢false (sym q ∙ ap is_some p))
      go (some c) p (inl q) = (pos (leb (last h k) 0) refl, λ z. absurd (true≢false (sym q ∙ ap is_some z)))
        where
          pos : (t : Bool) → leb (last h k) 0 ≡ t → 0 < last h k
          pos true y = absurd (true≢false (sym q ∙ ap is_some (none_yet h r.ordered k (leb-true (last h k) 0 y))))
          pos false y = leb-false (last h k) 0 y

  stands_place : (k : ℕ) → standing h b.floor k ≡ true → (i : ℕ) × (i < 128) × (key_at b i ≡ k)
  stands_place k e = let p = stands_last k e in ⊎_elim (λ y. y) (λ y. absurd (omega (arith, p.1 y.0, y.1))) (r.there k p.0)

  stands_not_zero : (k : ℕ) → standing h b.floor k ≡ true → k ≡ 0 → ⊥
  stands_not_zero k e z = omega (arith, (stands_last k e).0, ap (last h) z, r.zero_not)

  has_is : (k : ℕ) → standing h b.floor k ≡ has b 128 k
  has_is k = test_is (standing h b.floor k) (has b 128 k)
      (λ e. let y = stands_place k e in
      hits_at (used_b b) (key_at b) 128 k
      (record { at = y.0; here = y.1; passes = is_used b y.0 (λ z. stands_not_zero k e (sym y.2 ∙ z)); is = y.2 }))
      (λ e. let y = hits_where (used_b b) (key_at b) 128 k e in ap (standing h b.floor) (sym y.is) ∙ place_stands y.at y.here (used_is b y.at y.passes))

  count_is : count_below (standing h b.floor) key_end ≡ count_below (used_b b) 128
  count_is = count_same (has b 128) (standing h b.floor) key_end (λ j l. has_is j) ∙ keys_count b r.proper 128 (omega arith)

-- the least value, where there is one
data Min (t : ℕ → Bool) (v : ℕ → ℕ) (n x : ℕ) : Type 0 where
  no_one : x ≡ 0 → ((j : ℕ) → j < n → t j ≡ false) → Min t v n x
  someone : (k : ℕ) → k < n → t k ≡ true → x ≡ v k → ((j : ℕ) → j < n → t j ≡ true → v k ≤ v j) → Min t v n x

min_step : (t : ℕ → Bool) (v : ℕ → ℕ) (n x : ℕ) → ((j : ℕ) → 0 < v j ⊎ (t j ≡ false)) → Min t v n x
    → (y : Bool) → t n ≡ y
    → Min t v (suc n) (cond y (cond (eqb x 0) (v n) (cond (leb x (v n)) x (v n))) x)
min_step t v n x pos (no_one z f) false e = no_one z (λ j l. below_more (λ k. t k ≡ false) n f e j (omega arith))
min_step t v n x pos (no_one z f) true e =
    rw (eq-eqb x 0 z)
    (someone n (omega arith) e refl
    (λ j l q. below_more (λ k. t k ≡ true → v n ≤ v k) n (λ k u p. absurd (true≢false (sym p ∙ f k u))) (λ p. omega arith) j (omega arith) q))
min_step t v n x pos (someone k l p q f) false e = someone k (omega arith) p q (λ j m y. below_more (λ i. t i ≡ true → v k ≤ v i) n f (λ z. absurd (true≢false (sym z ∙ e))) j (omega arith) y)
min_step t v n x pos (someone k l p q f) true e =
    ⊎_elim (λ u. rw (ne_eqb x 0 (λ z. omega arith)) (go (leb x (v n)) refl)) (λ u. absurd (true≢false (sym p ∙ u))) (pos k)
  where
    go : (y : Bool) → leb x (v n) ≡ y → Min t v (suc n) (cond y x (v n))
    go true y = let le = leb-true x (v n) y in someone k (omega arith) p q (λ j m z. below_more (λ i. t i ≡ true → v k ≤ v i) n f (λ w. omega arith) j (omega arith) z)
    go false y =
        let lt = leb-false x (v n) y in
        someone n (omega arith) e refl
        (λ j m z. below_more (λ i. t i ≡ true → v n ≤ v i) n (λ i u w. omega (arith, f i u w)) (λ w. omega arith) j (omega arith) z)

min_is : (t : ℕ → Bool) (v : ℕ → ℕ) → ((j : ℕ) → 0 < v j ⊎ (t j ≡ false)) → (n : ℕ) → Min t v n (least_value t v n)
unfolding least_value
min_is t v pos zero = no_one refl (λ j l. absurd (omega arith))
min_is t v pos (suc n) = min_step t v n (least_value t v n) pos (min_is t v pos n) (t n) refl

least_value_lem : (t : ℕ → Bool) (v : ℕ → ℕ) → ((j : ℕ) → 0 < v j ⊎ (t j ≡ false)) → (n k : ℕ) → k < n → t k ≡ true → ((j : ℕ) → j < n → t j ≡ true → v k ≤ v j) → least_value t v n ≡ v k
least_value_lem t v pos n k l e f = go (least_value t v n) (min_is t v pos n)
  where
    go : (x : ℕ) → Min t v n x → x ≡ v k
    go x (no_one z g) = absurd (true≢false (sym e ∙ g k l))
    go x (someone j m p q g) = omega (arith, g k l e, f j m p)

module _ (b : Table) (store : List ℕ) (h : Story) (r : StandsFor b store h) (k i : ℕ) (l : i < 128) (k-low : 1 ≤ k) where
  mark? : ℕ → Bool
  mark? j = standing h b.floor j && not (is_some (held h j))

  mark_pos : (j : ℕ) → 0 < last h j ⊎ (mark? j ≡ false)
  unfolding mark?
  mark_pos j = go (standing h b.floor j) refl
    where
      go : (x : Bool) → standing h b.floor j ≡ x → 0 < last h j ⊎ (x && not (is_some (held h j)) ≡ false)
      go true e = inl (stands_last b store h r j e).0
      go false e = inr refl

  new_stands_not : ((j : ℕ) → j < 128 → key_at b j ≡ k → ⊥) → standing h b.floor k ≡ false
  new_stands_not n = not_true_is_false (standing h b.floor k) (λ e. let y = stands_place b store h r k e in n y.0 y.1 y.2)

  oldest_mark : (key_at b i ≡ 0 → ⊥) → length_at b i ≡ 0 → ((j : ℕ) → j < 128 → length_at b j ≡ 0 → version_at b i ≤ version_at b j) → least_value mark? (last h) key_end ≡ version_at b i
  unfolding mark?
  oldest_mark u e a =
      let g = r.here i l u in
      let t : mark? (key_at b i) ≡ true = rw (place_stands b store h r i l u, g.1, path_mark b store i e) in
      least_value_lem mark? (last h) mark_pos key_end (key_at b i) (omega (arith, (proper_sound b r.proper i l).key)) t
      (λ j m q.
      let p = both_true (standing h b.floor j) _ q in
      let y = stands_place b store h r j p.0 in
      let v : key_at b y.0 ≡ 0 → ⊥ = λ z. stands_not_zero b store h r j p.0 (sym y.2 ∙ z) in
      let d = r.here y.0 y.1 v in
      let w : path_in b store y.0 ≡ none = sym d.1 ∙ ap (held h) y.2 ∙ none_of (held h j) (not-true (is_some (held h j)) p.1) in
      omega (arith, a y.0 y.1 (path_none b store y.0 w), g.0, d.0, ap (last h) y.2))
      ∙ g.0

  pub floor_put_lem : ReportPlace b k i → floor_after b k i ≡ floor_put h b.floor k
  unfolding floor_put used_b mark?
  floor_put_lem (keeps y) =
      let s : standing h b.floor k ≡ true = ap (standing h b.floor) (sym y.key) ∙ place_stands b store h r i l (λ z. omega (arith, y.key)) in
      floor_keeps b k i y.key ∙ rw s
  floor_put_lem (takes n y) =
      let c = count_less (used_b b) 128 i l (rw (eq-eqb (key_at b i) 0 y.empty)) in
      floor_takes b k i y.empty ∙ rw (new_stands_not n, lt-ltb (count_below (standing h b.floor) key_end) 128 (omega (arith, count_is b store h r)))
  floor_put_lem (drops n z y) =
      let c = count_full (used_b b) 128 (λ j m. rw (ne_eqb (key_at b j) 0 (z j m))) in
      floor_drops b k i (z i l) (n i l)
      ∙ rw (new_stands_not n, le-ltb (count_below (standing h b.floor) key_end) 128 (omega (arith, count_is b store h r)))
      (sym (oldest_mark (z i l) y.removal.bare (λ j m e. y.oldest j m (record { used = z j m; bare = e }))))
