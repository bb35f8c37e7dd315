-- The TLVs of a part of an octet string, found place by place: what a walk by `item_at` goes by. A part of a part is a part (`part_part`,
-- `drop_part`), so that a TLV of the octets from a place on is read at that place; `item_turn` goes through the three ways that an item can
-- be there, and `items_end` and `items_turn` say one turn of a walk.
use Rattle.std.specs.Prelude.{Option, None, Some}
use Prim.Native.Nat.{ℕ, zero, suc, pred, ◌+◌, ◌-◌, ◌≤◌, ◌<◌}
use native.Mathlib.Nat.{add_assoc, add-zero, le_refl}
use native.Mathlib.Omega.{arith}
use mathlib.Core.Path.{◌≡◌, refl, sym, ◌∙◌}
use mathlib.Core.List.{List}
use mathlib.Core.Bool.{Bool, true, false, cond}
use lib.ListN.{length, drop, drop_of_length-le}
use lib.Seq.{ext_get_or}
use lib.Dec.{ltb, leb}
use borrow.Author.Tests.{ne_eqb, lt-ltb, le-ltb, le-leb, lt-leb, ltb-true, ltb-false, leb-true, leb-false}
use Rattle.answers.proofs.Determined.{determined}
use Rattle.octets.specs.Octets.{be16, pad4, part}
use Rattle.octets.proofs.Laws.{length_part, get_d_part, rest_lent, part_none}
use Rattle.tlvs.specs.Tlvs.{Tlvs, tlvs_end, tlvs_cut, tlv, tlv_head, tlv_fits, tlv_turn, tlvs_in}
use Rattle.tlvs.specs.Places.{item_at}
use Rattle.tlvs.specs.declared.Item.{Item}

-- a part of a part ---------------------------------------------------------------------------------------------

pub be16_part : (s : List ℕ) (at n m : ℕ) → m + 2 ≤ n → be16 (part s at n) m ≡ be16 s (at + m)
unfolding be16
be16_part s at n m h = rw (get_d_part s at n m (omega arith), get_d_part s at n (m + 1) (omega arith), ← add_assoc at m 1)

pub part_part : (s : List ℕ) (a m b n : ℕ) → a + m ≤ length s → b + n ≤ m → part (part s a m) b n ≡ part s (a + b) n
part_part s a m b n h k =
    let l : b + n ≤ length (part s a m) = omega (arith, length_part s a m h) in
    ext_get_or 0 (part (part s a m) b n) (part s (a + b) n) (length_part (part s a m) b n l ∙ sym (length_part s (a + b) n (omega arith)))
    (λ i g. let j : i < n = omega (arith, length_part (part s a m) b n l) in
    get_d_part (part s a m) b n i j ∙ get_d_part s a m (b + i) (omega arith) ∙ rw (← add_assoc a b i) (sym (get_d_part s (a + b) n i j)))

-- What lies behind the first k octets of a part.
behind : (q : List ℕ) (k n : ℕ) → length q ≡ n → drop k q ≡ part q k (n - k)
unfolding part
behind q k n e = rw (← e) (sym (rest_lent q k))

pub drop_part : (s : List ℕ) (a m k : ℕ) → a + m ≤ length s → drop k (part s a m) ≡ part s (a + k) (m - k)
drop_part s a m k h = go (leb k m) refl
  where
    go : (b : Bool) → leb k m ≡ b → drop k (part s a m) ≡ part s (a + k) (m - k)
    go true e = behind (part s a m) k m (length_part s a m h) ∙ part_part s a m k (m - k) h (omega (arith, leb-true k m e))
    go false e =
        let z : m - k ≡ 0 = omega (arith, leb-false k m e) in
        let g : length (part s a m) ≤ k = omega (arith, leb-false k m e, length_part s a m h) in
        drop_of_length-le (part s a m) g ∙ sym (rw z (part_none s (a + k)))

-- How much of a value and its padding must be there ------------------------------------------------------------

pub le_needed : (short : Bool) (n padded : ℕ) → n ≤ padded → n ≤ cond short n padded
le_needed true n padded h = le_refl n
le_needed false n padded h = h

-- an item, by what was read of it ------------------------------------------------------------------------------

pub at_none : (s : List ℕ) (at stop : ℕ) (short : Bool) → stop - at < tlv_head → None ≡ item_at s short at stop
unfolding item_at
at_none s at stop short l = rw (lt-ltb (stop - at) tlv_head l)

module _ (s : List ℕ) (at stop : ℕ) (short : Bool) {kind n padded needed : ℕ}
    (e0 : kind ≡ be16 s at) (e2 : n ≡ be16 s (at + 2)) (p : padded ≡ pad4 n) (q : needed ≡ cond short n padded) (l : tlv_head ≤ stop - at) where
  pub at_torn : stop - at < tlv_head + needed → None ≡ item_at s short at stop
  unfolding item_at
  at_torn f = rw (← e2, ← p, ← q, le-ltb (stop - at) tlv_head l, lt-ltb (stop - at) (tlv_head + needed) f)

  pub at_whole : tlv_head + needed ≤ stop - at → Some (record { kind = kind; value = record { from = at + tlv_head; len = n }; next = at + tlv_head + padded }) ≡ item_at s short at stop
  unfolding item_at
  at_whole f = rw (← e0, ← e2, ← p, ← q, le-ltb (stop - at) tlv_head l, le-ltb (stop - at) (tlv_head + needed) f)

-- the TLVs, by places ------------------------------------------------------------------------------------------

-- One item and what follows it, as TLVs of the octets up to `stop`.
abbrev pub turned : List ℕ → ℕ → Option Item → (List ℕ → Tlvs) → Tlvs
turned s stop (Some i) on = tlv i.kind (part s i.value.from i.value.len) (on (part s i.next (stop - i.next)))
turned s stop None on = tlvs_cut

module _ (s : List ℕ) (at stop : ℕ) (short : Bool) (on : List ℕ → Tlvs) (h : at ≤ stop) (k : stop ≤ length s) where
  -- What the octets from `at` on begin with, and what follows it.
  abbrev Begins : Type 0
  Begins = turned s stop (item_at s short at stop) on ≡ tlv_turn (part s at (stop - at)) false (tlv_fits (part s at (stop - at)) short) on

  abbrev needs : ℕ
  needs = cond short (be16 s (at + 2)) (pad4 (be16 s (at + 2)))

  -- too short for a head
  item_none : stop - at < tlv_head → Begins
  unfolding item_at
  item_none l = simp (length_part s at (stop - at) (omega arith), lt-ltb (stop - at) tlv_head l, lt-leb tlv_head (stop - at) l)

  kind_same : tlv_head ≤ stop - at → be16 (part s at (stop - at)) 0 ≡ be16 s at
  kind_same l = be16_part s at (stop - at) 0 (omega arith) ∙ rw add-zero

  length_same : tlv_head ≤ stop - at → be16 (part s at (stop - at)) 2 ≡ be16 s (at + 2)
  length_same l = be16_part s at (stop - at) 2 (omega arith)

  fits_same : tlv_head ≤ stop - at → tlv_fits (part s at (stop - at)) short ≡ leb (tlv_head + needs) (stop - at)
  fits_same l = rw (length_same l, length_part s at (stop - at) (omega arith), le-leb tlv_head (stop - at) l)

  -- what is there does not do
  item_torn : tlv_head ≤ stop - at → stop - at < tlv_head + needs → Begins
  unfolding item_at
  item_torn l f = rw (fits_same l, lt-leb (tlv_head + needs) (stop - at) f, le-ltb (stop - at) tlv_head l, lt-ltb (stop - at) (tlv_head + needs) f)

  -- it does
  item_whole : tlv_head ≤ stop - at → tlv_head + needs ≤ stop - at → Begins
  unfolding item_at
  item_whole l f =
      let n = be16 s (at + 2) in
      let g : n ≤ needs = le_needed short n (pad4 n) (omega arith) in
      let e : stop - at - (tlv_head + pad4 n) ≡ stop - (at + tlv_head + pad4 n) = omega arith in
      let a : at + (tlv_head + pad4 n) ≡ at + tlv_head + pad4 n = omega arith in
      rw (
        fits_same l,
        le-leb (tlv_head + needs) (stop - at) f,
        le-ltb (stop - at) tlv_head l,
        le-ltb (stop - at) (tlv_head + needs) f,
        kind_same l,
        length_same l,
        part_part s at (stop - at) tlv_head n (omega arith) (omega arith),
        drop_part s at (stop - at) (tlv_head + pad4 n) (omega arith),
        e,
        a,
      )

  item_turn : Begins
  item_turn = go (ltb (stop - at) tlv_head) (leb (tlv_head + needs) (stop - at)) refl refl
    where
      go : (none does : Bool) → ltb (stop - at) tlv_head ≡ none → leb (tlv_head + needs) (stop - at) ≡ does → Begins
      go true does e f = item_none (ltb-true _ _ e)
      go false true e f = item_whole (ltb-false _ _ e) (leb-true _ _ f)
      go false false e f = item_torn (ltb-false _ _ e) (leb-false _ _ f)

-- At the end nothing is left,
pub items_end : (n : ℕ) (short : Bool) (s : List ℕ) (at stop : ℕ) → 0 < n → stop ≤ at → tlvs_in (part s at (stop - at)) short n ≡ tlvs_end
unfolding tlvs_in
items_end zero short s at stop h e = absurd (omega arith)
items_end (suc n) short s at stop h e = let z : stop - at ≡ 0 = omega arith in rw (z, part_none s at)

-- and before it the item there, and then the rest.
pub items_turn : (n : ℕ) (short : Bool) (s : List ℕ) (at stop : ℕ) → 0 < n → at < stop → stop ≤ length s
    → tlvs_in (part s at (stop - at)) short n ≡ turned s stop (item_at s short at stop) (λ rest. tlvs_in rest short (pred n))
unfolding tlvs_in
items_turn zero short s at stop h k l = absurd (omega arith)
items_turn (suc n) short s at stop h k l =
    let m : length (part s at (stop - at)) ≡ 0 → ⊥ = λ z. (omega (arith, length_part s at (stop - at) (omega arith))) in
    rw (ne_eqb (length (part s at (stop - at))) 0 m) (sym (item_turn s at stop short (λ rest. tlvs_in rest short n) (omega arith) l))

-- Any two answers that fit the contract of `item_at` are equal.
pub item_at_determined : (short : Bool) (s : List ℕ) (at stop : ℕ) {x y : Option Item} → x ≡ item_at s short at stop → y ≡ item_at s short at stop → x ≡ y
item_at_determined short s at stop = determined
