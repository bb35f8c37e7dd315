-- The octets before the SID. Assumes nothing.
use Prim.Native.Nat.{ℕ, ◌+◌, ◌*◌, ◌≤◌}
use mathlib.Core.Path.{◌≡◌, refl, ◌∙◌}
use mathlib.Core.Bool.{true, false}
use mathlib.Core.List.{List, [], ◌∷◌}
use lib.ListN.{length}
use native.Mathlib.Omega.{arith}
use Rattle.octets.specs.Octets.{hi, lo, over, placed}
use Rattle.octets.proofs.Laws.{over_at}
use Rattle.forms.specs.declared.Form.{Form}
use Rattle.subobject.specs.declared.head.Head.{Head}
use Rattle.subobject.specs.Segments.{flags_octet, fixed_octets}

-- The first four octets and the four behind them, where the form has these.
pub laid_eight : (form : Form) (h : Head) (behaviour : ℕ) (b w x : List ℕ) → form.behaves ≡ true → 8 ≤ length b
    → w ≡ over ((h.l * 128 + h.kind) ∷ h.size ∷ (h.nt * 16) ∷ flags_octet form h ∷ []) b → x ≡ placed w 4 (0 ∷ 0 ∷ hi behaviour ∷ lo behaviour ∷ [])
    → x ≡ over (fixed_octets form h behaviour) b
unfolding fixed_octets flags_octet
laid_eight form h behaviour b w x e l ew ex =
    let first = (h.l * 128 + h.kind) ∷ h.size ∷ (h.nt * 16) ∷ flags_octet form h ∷ [] in
    ex ∙ rw (ew, e) (over_at first (0 ∷ 0 ∷ hi behaviour ∷ lo behaviour ∷ []) b 4 refl (omega arith))

pub laid_four : (form : Form) (h : Head) (behaviour : ℕ) (b w : List ℕ) → form.behaves ≡ false
    → w ≡ over ((h.l * 128 + h.kind) ∷ h.size ∷ (h.nt * 16) ∷ flags_octet form h ∷ []) b → w ≡ over (fixed_octets form h behaviour) b
unfolding fixed_octets
laid_four form h behaviour b w e ew = ew ∙ rw e

-- A flag adds no more than it is worth.
pub flag_most : (n w : ℕ) → n ≤ 1 → n * w ≤ w
flag_most ℕ.zero w h = omega arith
flag_most (ℕ.suc ℕ.zero) w h = omega arith
flag_most (ℕ.suc (ℕ.suc n)) w h = absurd (omega arith)
