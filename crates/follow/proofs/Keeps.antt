-- What a follower holds against the story. First the last changes: none is above the version, no two keys share one. Then each thing that can happen
-- to a follower keeps `Keeps`: it begins, the board changes or is compacted, it makes a change, is cut off half-way, is level. Assumes nothing.
use Prim.Native.Nat.{ℕ, suc, ◌≤◌, ◌<◌}
use native.Mathlib.Omega.{arith}
use mathlib.Core.Path.{◌≡◌, refl, sym, ap, ◌∙◌}
use mathlib.Core.Option.{Option, none, some}
use mathlib.Core.Logic.{◌⊎◌, inl, inr, ⊎_elim}
use lib.Dec.{eqb}
use borrow.Author.Tests.{eq-eqb, ne_eqb}
use Rattle.octets.proofs.Said.{cond_yes, cond_no}
use Rattle.board_record.specs.Table.{Table}
use Rattle.board_record.proofs.Logic.{same?, from?}
use Rattle.follow.specs.Story.{HeldPath, Deed, sets, clears, Story, begun, did, compacted_to, version, key_of, leaves, held, last}
use Rattle.follow.specs.Ordered.{Ordered, beginning_of}
use Rattle.follow.specs.Follower.{Follower, fresh, makes, levels, Keeps, Lacks}
use Rattle.follow.proofs.Cases.{some≢none}

-- ---- the story

pub last_same : (c : Deed) (h : Story) (k : ℕ) → key_of c ≡ k → last (did c h) k ≡ suc (version h)
unfolding last
last_same c h k e = cond_yes (eqb (key_of c) k) (suc (version h)) (last h k) (eq-eqb (key_of c) k e)

pub last_other : (c : Deed) (h : Story) (k : ℕ) → (key_of c ≡ k → ⊥) → last (did c h) k ≡ last h k
unfolding last
last_other c h k n = cond_no (eqb (key_of c) k) (suc (version h)) (last h k) (ne_eqb (key_of c) k n)

pub held_same : (c : Deed) (h : Story) (k : ℕ) → key_of c ≡ k → held (did c h) k ≡ leaves c
unfolding held
held_same c h k e = cond_yes (eqb (key_of c) k) (leaves c) (held h k) (eq-eqb (key_of c) k e)

pub held_other : (c : Deed) (h : Story) (k : ℕ) → (key_of c ≡ k → ⊥) → held (did c h) k ≡ held h k
unfolding held
held_other c h k n = cond_no (eqb (key_of c) k) (leaves c) (held h k) (ne_eqb (key_of c) k n)

-- no version is above the number of changes
pub last_le : (h : Story) → Ordered (beginning_of h) → (k : ℕ) → last h k ≤ version h
unfolding last
last_le (begun b) o k = o.last_most k
last_le (compacted_to c h) o k = last_le h o k
last_le (did c h) o k = ⊎_elim (λ e. omega (arith, last_same c h k e)) (λ n. omega (arith, last_other c h k n, last_le h o k)) (same? (key_of c) k)

-- two keys that were changed have different versions
pub last_one : (h : Story) → Ordered (beginning_of h) → (j k : ℕ) → last h j ≡ last h k → 0 < last h j → j ≡ k
unfolding last
last_one (begun b) o j k e p = o.last_apart j k e p
last_one (compacted_to c h) o j k e p = last_one h o j k e p
last_one (did c h) o j k e p = go (last_one h o j k) (same? (key_of c) j) (same? (key_of c) k)
  where
    go : (last h j ≡ last h k → 0 < last h j → j ≡ k) → (key_of c ≡ j) ⊎ (key_of c ≡ j → ⊥) → (key_of c ≡ k) ⊎ (key_of c ≡ k → ⊥) → j ≡ k
    go r (inl a) (inl b) = sym a ∙ b
    go r (inl a) (inr b) = absurd (omega (arith, last_le h o k, last_same c h j a, last_other c h k b))
    go r (inr a) (inl b) = absurd (omega (arith, last_le h o j, last_same c h k b, last_other c h j a))
    go r (inr a) (inr b) = r (sym (last_other c h j a) ∙ e ∙ last_other c h k b) (omega (arith, last_other c h j a))

-- ---- the follower

pub none_yet : (h : Story) → Ordered (beginning_of h) → (k : ℕ) → last h k ≤ 0 → held h k ≡ none
unfolding last held
none_yet (begun b) o k l = o.none_held k l
none_yet (compacted_to c h) o k l = none_yet h o k l
none_yet (did c h) o k l =
    ⊎_elim (λ e. absurd (omega (arith, last_same c h k e))) (λ n. held_other c h k n ∙ none_yet h o k (omega (arith, last_other c h k n))) (same? (key_of c) k)

-- a fresh follower
pub keeps_fresh : (h : Story) → Ordered (beginning_of h) → (b : Table) → b.version ≡ version h → Keeps h (fresh b)
keeps_fresh h o b e = record { old = λ k l. sym (none_yet h o k l); away = λ k l y m. refl; s_in = omega arith; w_in = omega arith }

-- the board changes
pub keeps_change : (c : Deed) (h : Story) (f : Follower) → Keeps h f → Keeps (did c h) f
keeps_change c h f r = record {
  old = λ k l.
      ⊎_elim (λ e. absurd (omega (arith, last_same c h k e, r.w_in))) (λ n. r.old k (omega (arith, last_other c h k n)) ∙ sym (held_other c h k n))
      (same? (key_of c) k);
  away = λ k l e m.
      ⊎_elim (λ q. absurd (omega (arith, last_same c h k q, r.s_in)))
      (λ n. r.away k (omega (arith, last_other c h k n)) (sym (held_other c h k n) ∙ e) (omega (arith, last_other c h k n)))
      (same? (key_of c) k);
  s_in = omega (arith, r.s_in);
  w_in = omega (arith, r.w_in);
}

-- the board is compacted
pub keeps_compact : (c : ℕ) (h : Story) (f : Follower) → Keeps h f → Keeps (compacted_to c h) f
unfolding held last
keeps_compact c h f r = record { old = r.old; away = r.away; s_in = r.s_in; w_in = r.w_in }

-- what it does not lack, it holds
pub has : (h : Story) (f : Follower) → Keeps h f → (k : ℕ) → (Lacks h f.s f.w k → ⊥) → f.holds k ≡ held h k
has h f r k n = ⊎_elim (r.old k) (by_body (held h k) refl) (from? (last h k) f.w)
  where
    by_body : (o : Option HeldPath) → held h k ≡ o → f.w < last h k → f.holds k ≡ held h k
    by_body none e l = ⊎_elim (λ m. r.away k l e m ∙ sym e) (λ m. absurd (n (record { newer = l; needed = λ q. m }))) (from? (last h k) f.s)
    by_body (some x) e l = absurd (n (record { newer = l; needed = λ q. absurd (some≢none x (sym e ∙ q)) }))

made_same : (f : Follower) (c : Deed) (v j : ℕ) → key_of c ≡ j → (makes f c v).holds j ≡ leaves c
made_same f (sets k body) v j e = cond_yes (eqb k j) (some body) (f.holds j) (eq-eqb k j e)
made_same f (clears k) v j e = cond_yes (eqb k j) none (f.holds j) (eq-eqb k j e)

made_other : (f : Follower) (c : Deed) (v j : ℕ) → (key_of c ≡ j → ⊥) → (makes f c v).holds j ≡ f.holds j
made_other f (sets k body) v j n = cond_no (eqb k j) (some body) (f.holds j) (ne_eqb k j n)
made_other f (clears k) v j n = cond_no (eqb k j) none (f.holds j) (ne_eqb k j n)

-- it is handed the oldest change that it lacks
pub keeps_made : (h : Story) → Ordered (beginning_of h) → (f : Follower) (c : Deed) → Keeps h f → Lacks h f.s f.w (key_of c)
    → ((j : ℕ) → Lacks h f.s f.w j → last h (key_of c) ≤ last h j)
    → leaves c ≡ held h (key_of c)
    → Keeps h (makes f c (last h (key_of c)))
keeps_made h o f c r x least e = record {
  old = λ j l. ⊎_elim
      (λ q. made_same f c (last h (key_of c)) j q ∙ e ∙ ap (held h) q)
      (λ n. made_other f c (last h (key_of c)) j n ∙ has h f r j (λ y. n (last_one h o (key_of c) j (omega (arith, least j y)) (omega (arith, x.newer)))))
      (same? (key_of c) j);
  away = λ j l q m. ⊎_elim
      (λ p. absurd (omega (arith, ap (last h) p)))
      (λ n. made_other f c (last h (key_of c)) j n ∙ r.away j (omega (arith, x.newer)) q m)
      (same? (key_of c) j);
  s_in = r.s_in;
  w_in = last_le h o (key_of c);
}

-- it is cut off before it has kept the mark of that change
pub keeps_half : (h : Story) (f : Follower) (c : Deed) → Keeps h f → Lacks h f.s f.w (key_of c) → leaves c ≡ held h (key_of c) → Keeps h (makes f c f.w)
keeps_half h f c r x e = record {
  old = λ j l. ⊎_elim (λ q. absurd (omega (arith, x.newer, ap (last h) q))) (λ n. made_other f c f.w j n ∙ r.old j l) (same? (key_of c) j);
  away = λ j l y m. ⊎_elim (λ q. made_same f c f.w j q ∙ e ∙ ap (held h) q ∙ y) (λ n. made_other f c f.w j n ∙ r.away j l y m) (same? (key_of c) j);
  s_in = r.s_in;
  w_in = r.w_in;
}

-- it is level
pub keeps_level : (h : Story) → Ordered (beginning_of h) → (f : Follower) → Keeps h f → ((k : ℕ) → Lacks h f.s f.w k → ⊥) → Keeps h (levels f (version h))
keeps_level h o f r n = record { old = λ k l. has h f r k (n k); away = λ k l e m. absurd (omega (arith, last_le h o k)); s_in = omega arith; w_in = omega arith }
