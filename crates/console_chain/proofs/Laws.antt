-- The places that an order names, number by number. Assumes nothing.
use Prim.Native.Nat.{ℕ, suc, ◌+◌, ◌-◌, ◌<◌, ◌≤◌}
use native.Mathlib.Numerals.{add-one}
use native.Mathlib.Omega.{arith}
use mathlib.Core.Path.{◌≡◌, refl, sym, ap, ◌∙◌}
use mathlib.Core.List.{List, [], ◌∷◌, ◌++◌, append-nil, append_assoc}
use lib.ListN.{length, get_or, set, take, drop, length-set, drop_of_length-le}
use lib.Seq.{drop-cons, take-suc-set}
use borrow.Author.Tests.{eq-eqb, ne_eqb}
use Rattle.board_record.specs.Sizes.{places}
use Rattle.board_record.specs.Order.{named}
use Rattle.board_order.proofs.Names.{named_some}
use Rattle.console_chain.specs.Chain.{chain_of}

-- the first i numbers are done: their places stand in front of what is laid
pub record Along (order laid : List ℕ) (i : ℕ) : Type 0 where
  pub long : length laid ≡ places
  pub so : take i laid ++ chain_of (drop i order) ≡ chain_of order

pub along_none : (order laid : List ℕ) → length laid ≡ places → Along order laid 0
along_none order laid n = record { long = n; so = refl }

pub along_more : (order laid : List ℕ) (i n : ℕ) → Along order laid i → length order ≡ places → i < places → n ≡ get_or order i 0 → (n ≡ 0 → ⊥) → Along order (set laid i (n - 1)) (i + 1)
unfolding chain_of
along_more order laid i n a m l e d =
    record {
      long = length-set laid i (n - 1) ∙ a.long;
      so =
          let q : drop i order ≡ n ∷ drop (suc i) order = drop-cons order i 0 (omega (arith, m)) ∙ ap (λ (x : ℕ). x ∷ drop (suc i) order) (sym e) in
          let f : take i laid ++ chain_of (n ∷ drop (suc i) order) ≡ chain_of order = rw q at a.so in
          let g : take i laid ++ (named n ∷ chain_of (drop (suc i) order)) ≡ chain_of order = rw (chain_of, ne_eqb n 0 d) at f in
          rw (add-one, take-suc-set laid i (n - 1) (omega (arith, a.long)), append_assoc (take i laid) ((n - 1) ∷ []) (chain_of (drop (suc i) order)), ← named_some n d) g;
    }

pub along_stop : (order laid : List ℕ) (i n : ℕ) → Along order laid i → length order ≡ places → i < places → n ≡ get_or order i 0 → n ≡ 0 → take i laid ≡ chain_of order
unfolding chain_of
along_stop order laid i n a m l e z =
    let q : drop i order ≡ n ∷ drop (suc i) order = drop-cons order i 0 (omega (arith, m)) ∙ ap (λ (x : ℕ). x ∷ drop (suc i) order) (sym e) in
    let f : take i laid ++ chain_of (n ∷ drop (suc i) order) ≡ chain_of order = rw q at a.so in
    let g : take i laid ++ [] ≡ chain_of order = rw (chain_of, eq-eqb n 0 z) at f in
    sym (append-nil (take i laid)) ∙ g

pub along_end : (order laid : List ℕ) (i : ℕ) → Along order laid i → length order ≡ places → places ≤ i → take i laid ≡ chain_of order
unfolding chain_of
along_end order laid i a m l =
    let q : drop i order ≡ [] = drop_of_length-le order {i = i} (omega (arith, m)) in
    let f : take i laid ++ [] ≡ chain_of order = rw q at a.so in
    sym (append-nil (take i laid)) ∙ f
