-- The length of a subobject that is as expected. Assumes nothing.
use Prim.Native.Nat.{ℕ, ◌+◌, ◌%◌, ◌≤◌}
use mathlib.Core.Path.{◌≡◌, ap}
use mathlib.Core.List.{List}
use mathlib.Core.Bool.{Bool, true, false, cond}
use lib.Dec.{eqb}
use native.Mathlib.Omega.{arith}
use Rattle.octets.specs.Octets.{octet_of}
use Rattle.forms.specs.declared.Form.{Form}
use Rattle.forms.specs.Forms.{nai_length}
use Rattle.forms.proofs.Laws.{flag_most}
use Rattle.subobject.specs.Layout.{structure_there, expected_length, head_at, head_of}
use Rattle.subobject.specs.declared.head.Head.{Head}
use Rattle.subobject.specs.Rules.{rule7}
use Rattle.subobject.specs.Inner.{HeadSound, LabelSound}
use Rattle.subobject_strays.specs.Strays.{strays_by, stray_one}
use Rattle.subobject.proofs.Laws.{sound_length}

-- A subobject of the expected length is a multiple of 4 octets, 4 or more.
pub length_fours : (form : Form) (nt s t : ℕ) → form.fixed % 4 ≡ 0 → 4 ≤ form.fixed → form.sid % 4 ≡ 0 → nai_length form nt % 4 ≡ 0
    → (expected_length form nt s t % 4 ≡ 0) × (4 ≤ expected_length form nt s t)
unfolding expected_length
length_fours form nt s t f l d n = go (eqb s 0) (structure_there s t)
  where
    go : (a b : Bool) → ((form.fixed + cond a form.sid 0 + nai_length form nt + cond b 8 0) % 4 ≡ 0) × (4 ≤ form.fixed + cond a form.sid 0 + nai_length form nt + cond b 8 0)
    go true true = (omega arith, omega arith)
    go true false = (omega arith, omega arith)
    go false true = (omega arith, omega arith)
    go false false = (omega arith, omega arith)

-- So is one that does not break rule 7.
pub fours_sound : (form : Form) (h : Head) → rule7 form h ≡ false → form.fixed % 4 ≡ 0 → 4 ≤ form.fixed → form.sid % 4 ≡ 0 → nai_length form h.nt % 4 ≡ 0
    → (h.size % 4 ≡ 0) × (4 ≤ h.size)
fours_sound form h r f l d n =
    let size = sound_length form h r in
    let fours = length_fours form h.nt h.s h.t f l d n in
    (omega (arith, size, fours.0), omega (arith, size, fours.1))

-- Heads and rules of a form that is known to be another.
pub head_of_lem : {form known : Form} → form ≡ known → (s : List ℕ) (ero : Bool) (at : ℕ) → head_at form s ero at ≡ head_at known s ero at
head_of_lem e s ero at = ap (λ (form : Form). head_at form s ero at) e

pub rules_of : {form known : Form} → form ≡ known → (h : Head) (ero n : Bool) → HeadSound known h ero n → HeadSound form h ero n
rules_of e h ero n k = rw e k

pub labels_of : {form known : Form} → form ≡ known → (h : Head) (s : List ℕ) (at : ℕ) → LabelSound known h s at → LabelSound form h s at
labels_of e h s at k = rw e k

pub strays_of : {form known : Form} → form ≡ known → (h : Head) (s : List ℕ) (at : ℕ) {r : ℕ} → r ≡ stray_one (strays_by known h s at)
    → r ≡ stray_one (strays_by form h s at)
strays_of e h s at k = rw e k

-- S is a bit.
pub s_bit : (form : Form) (h : Head) (s : List ℕ) (ero : Bool) (at : ℕ) → h ≡ head_at form s ero at → h.s ≤ 1
unfolding head_at head_of
s_bit form h s ero at e = rw (ap (λ (x : Head). x.s) e) (flag_most (octet_of s (at + 3)) form.s)
