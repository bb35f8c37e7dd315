-- Laws of the list of addresses: what a search answers, any two answers that fit are equal. That a hit is an address of the list is shown along their number.
use Prim.Native.Nat.{ℕ, zero, suc, ◌+◌, ◌*◌, ◌/◌, ◌≤◌, ◌<◌}
use native.Mathlib.Omega.{arith}
use mathlib.Core.Path.{◌≡◌, refl, sym, ap, ◌∙◌, subst}
use mathlib.Core.Logic.{◌↔◌}
use mathlib.Core.List.{List, []}
use mathlib.Core.Bool.{Bool, true, false, ◌||◌, false≢true}
use lib.ListN.{length}
use lib.Dec.{eqb}
use borrow.Author.Tests.{eqb-true, eqb-false}
use Rattle.answers.proofs.Determined.{determined}
use Rattle.octets.specs.Octets.{part}
use Rattle.octets.proofs.Laws.{length_part}
use Rattle.same_octets.specs.Same.{same_octets}
use Rattle.same_octets.proofs.Laws.{same_refl, same_is}
use Rattle.std.proofs.Common.{Option, Some, None, Bor}
use Rattle.std.specs.Option.{option_map, IsSomeAnd, IfSome}
use Rattle.std.specs.Bool.{MatchBool}
use Rattle.std.specs.List.{IsSubsliceAt}
use Rattle.std.specs.Iterator.Runs.{Run, AnyItemGives, AllItemsGive, IsChunksExactRun}
use denote.Param.Members.{Mut, Called}
use Rattle.head_end.specs.Addresses.{address_size, usable_list, address_at, among_first, has_address}

-- the search -----------------------------------------------------------------------------------------------------

module _ (x list : List ℕ) where
  -- An address is found exactly if one of the list is it.
  among_exactly : (n : ℕ) → (among_first list x n ≡ true) ↔ ((k : ℕ) × (k < n) × (address_at list k ≡ x))
  among_exactly zero = (λ e. absurd (false≢true e), λ h. absurd (omega (arith, h.1)))
  among_exactly (suc n) = go (among_exactly n) (same_octets (address_at list n) x) refl
    where
      go : (among_first list x n ≡ true) ↔ ((k : ℕ) × (k < n) × (address_at list k ≡ x))
          → (b : Bool) → same_octets (address_at list n) x ≡ b → ((b || among_first list x n) ≡ true) ↔ ((k : ℕ) × (k < suc n) × (address_at list k ≡ x))
      go r true e = (λ f. (n, omega arith, same_is (address_at list n) x e), λ h. refl)
      go r false e = (
        λ f. let h = r.0 f in (h.0, omega (arith, h.1), h.2),
        λ h. r.1 (h.0, lower h.0 h.1 h.2, h.2),
      )
        where
          lower : (k : ℕ) → k < suc n → address_at list k ≡ x → k < n
          lower k l q = below (eqb k n) refl
            where
              below : (b : Bool) → eqb k n ≡ b → k < n
              below true z = absurd (false≢true (sym e ∙ ap (λ (y : List ℕ). same_octets y x) (ap (address_at list) (sym (eqb-true k n z)) ∙ q) ∙ same_refl x))
              below false z = omega (arith, eqb-false k n z)

  pub has_exactly : (has_address list x ≡ true) ↔ ((k : ℕ) × (k < length list / address_size) × (address_at list k ≡ x))
  unfolding has_address
  has_exactly = among_exactly (length list / address_size)

  -- Fewer than 16 octets are no address.
  pub short_is_none : length x < address_size → has_address list x ≡ false
  short_is_none h = go (has_address list x) refl
    where
      go : (b : Bool) → has_address list x ≡ b → b ≡ false
      go true e =
          let f = has_exactly.0 e in
          absurd (omega (arith, h, f.1, length_part list (address_size * f.0) address_size (omega (arith, f.1)), ap length f.2))
      go false e = refl

-- A list of no octets has no address.
pub none_in_none : (x : List ℕ) → has_address [] x ≡ false
unfolding has_address
none_in_none x = refl

-- A run along the addresses, in each step of which y is compared with x: it answers whether x is among them.
module _ {S : Type 0} {steps : S → Option (Bor (List ℕ)) → S → Type 0} (p : Run steps) (x list : List ℕ) (chunks : IsChunksExactRun p address_size list) where
  there : (k : ℕ) (o : Option (Bor (List ℕ))) → IsSomeAnd o (λ y. true ≡ same_octets y.now x)
      → IfSome o (λ y. (length y.now ≡ address_size) × (k * address_size + address_size ≤ length list) × IsSubsliceAt address_size list (k * address_size) y.now)
      → (k < length list / address_size) × (address_at list k ≡ x)
  unfolding part
  there k None a c = absurd a
  there k (Some y) a c =
      let at : k * address_size ≡ address_size * k = omega arith in
      let h = c.2.0 in
      (omega (arith, c.1), sym (rw at at h) ∙ same_is y.now x (sym a))

  not_there : (k : ℕ) (o : Option (Bor (List ℕ))) (z : Bor (List ℕ)) → option_map (λ (y : Bor (List ℕ)). y) o ≡ Some z → IfSome o (λ y. false ≡ same_octets y.now x)
      → IfSome o (λ y. (length y.now ≡ address_size) × (k * address_size + address_size ≤ length list) × IsSubsliceAt address_size list (k * address_size) y.now)
      → address_at list k ≡ x → ⊥
  unfolding part
  not_there k None z e a c q = let n : ◌≡◌ {A = Bool} false true = cc in false≢true n
  not_there k (Some y) z e a c q =
      let at : k * address_size ≡ address_size * k = omega arith in
      let h = c.2.0 in
      false≢true (a ∙ ap (λ (w : List ℕ). same_octets w x) (rw at at h ∙ q) ∙ same_refl x)

  module _ {F : Type 0} (g : Mut F (Bor (List ℕ) × Unit {0}) Bool) (f : F)
      (says : (y : Bor (List ℕ)) (b : Bool) (f' : F) → Called g f (y, tt) b f' → (b ≡ same_octets y.now x) × (f' ≡ f)) where
    pub searched : (r : Bool) → MatchBool r (AnyItemGives p g f true) ((p.whole ≡ true) × AllItemsGive p g f false) → r ≡ has_address list x
    searched true m =
        let h = m (λ a b f' k. (says a.0 b f' k).1) in
        let found : IsSomeAnd (p.at h.0) (λ y. true ≡ same_octets y.now x) = one (p.at h.0) h.2 in
        let k = there h.0 (p.at h.0) found (chunks.2 h.0) in
        sym ((has_exactly x list).1 (h.0, k.0, k.1))
      where
        one : (o : Option (Bor (List ℕ))) → IsSomeAnd o (λ y. Called g f (y, tt) true f) → IsSomeAnd o (λ y. true ≡ same_octets y.now x)
        one None a = a
        one (Some y) a = (says y true f a).0
    searched false m = go (has_address list x) refl
      where
        each : (o : Option (Bor (List ℕ))) → IfSome o (λ y. Called g f (y, tt) false f) → IfSome o (λ y. false ≡ same_octets y.now x)
        each None a = tt
        each (Some y) a = (says y false f a).0

        go : (b : Bool) → has_address list x ≡ b → false ≡ b
        go false e = refl
        go true e =
            let h = (has_exactly x list).0 e in
            let n : Bor (List ℕ) = record { ref_ptr = (0, 0); now = [] } in
            let within : h.0 < p.len = omega (arith, chunks.1 m.0, h.1) in
            absurd (not_there h.0 (p.at h.0) _ (p.reads h.0 n within) (each (p.at h.0) (m.1 (λ a b f' k. (says a.0 b f' k).1) h.0)) (chunks.2 h.0) h.2)

-- A run along the addresses of one list is one along those of an equal list.
pub chunks_of : {S : Type 0} {steps : S → Option (Bor (List ℕ)) → S → Type 0} (p : Run steps) (cut list : List ℕ)
    → IsChunksExactRun p address_size cut → cut ≡ list → IsChunksExactRun p address_size list
chunks_of p cut list run e = subst (λ (l : List ℕ). IsChunksExactRun p address_size l) e run

-- Any two answers that fit the contract of a call are equal ------------------------------------------------------

pub usable_determined : (list : List ℕ) {x y : Bool} → x ≡ usable_list list → y ≡ usable_list list → x ≡ y
usable_determined list = determined

pub has_determined : (a list : List ℕ) {x y : Bool} → x ≡ has_address list a → y ≡ has_address list a → x ≡ y
has_determined a list = determined
