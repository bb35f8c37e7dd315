-- The loops: over the places of a group, and over the groups. Assumes nothing.
use Prim.Native.Nat.{ℕ, ◌+◌, ◌<◌, ◌≤◌, max}
use native.Mathlib.Numerals.{add-one}
use native.Mathlib.Omega.{arith}
use mathlib.Core.Path.{◌≡◌, refl, sym, ap, ◌∙◌}
use mathlib.Core.List.{List}
use mathlib.Core.Logic.{⊎_elim}
use lib.ListN.{get_or, set, length, length-set}
use lib.Seq.{get_or-set_same, get_or-set_other}
use Rattle.board_record.specs.Sizes.{groups}
use Rattle.board_record.specs.Lists.{max_below}
use Rattle.board_record.specs.Tops.{in_group, top_of, tops_of}
use Rattle.board_record.proofs.Logic.{same?}
use Rattle.board_record.proofs.Tops.{tops_are}

pub max_none : (f : ℕ → ℕ) → 0 ≡ max_below f 0
unfolding max_below
max_none f = refl

pub max_more : (f : ℕ → ℕ) (j top r : ℕ) → top ≡ max_below f j → r ≡ max top (f j) → r ≡ max_below f (j + 1)
unfolding max_below
max_more f j top r e q = q ∙ rw (add-one j, max_below, e)

pub max_end : (vs : List ℕ) (g j top : ℕ) → j ≤ 8 → 8 ≤ j → top ≡ max_below (in_group vs g) j → top ≡ top_of vs g
unfolding top_of
max_end vs g j top h l e = let q : j ≡ 8 = omega arith in rw q at e

-- the first g numbers of a row are those of the groups
pub record Worked (vs tops : List ℕ) (g : ℕ) : Type 0 where
  pub long : length tops ≡ groups
  pub done : (k : ℕ) → k < g → get_or tops k 0 ≡ top_of vs k

pub worked_none : (vs tops : List ℕ) → length tops ≡ groups → Worked vs tops 0
worked_none vs tops n = record { long = n; done = λ k l. absurd (omega arith) }

pub worked_more : (vs tops : List ℕ) (g v : ℕ) → Worked vs tops g → g < groups → v ≡ top_of vs g → Worked vs (set tops g v) (g + 1)
worked_more vs tops g v w l e =
    record {
      long = length-set tops g v ∙ w.long;
      done = λ k m.
          ⊎_elim (λ z. ap (λ (h : ℕ). get_or (set tops g v) h 0) z ∙ get_or-set_same tops g v 0 (omega (arith, w.long)) ∙ e ∙ ap (top_of vs) (sym z))
          (λ d. get_or-set_other tops g k v 0 d ∙ w.done k (omega (arith, d))) (same? k g);
    }

pub worked_end : (vs tops : List ℕ) (g : ℕ) → Worked vs tops g → groups ≤ g → tops ≡ tops_of vs
worked_end vs tops g w l = tops_are vs tops w.long (λ k m. w.done k (omega arith))
