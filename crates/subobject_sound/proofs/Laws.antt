-- What the tests of one subobject say of its rules. Assumes nothing.
use Prim.Native.Nat.{ℕ, ◌+◌, ◌-◌, ◌≤◌}
use mathlib.Core.Path.{◌≡◌, refl, sym, ◌∙◌}
use mathlib.Core.List.{List}
use mathlib.Core.Bool.{Bool, true, false, false≢true, cond, not, ◌&&◌, ◌||◌}
use lib.Dec.{eqb, leb}
use lib.ListN.{get_or}
use native.Mathlib.Omega.{arith}
use borrow.Author.Tests.{eq-eqb, le-ltb, leb-true, not-true}
use Rattle.octets.specs.Octets.{octet_of}
use Rattle.octets.proofs.Said.{both_true, and_false}
use Rattle.forms.specs.declared.Form.{Form}
use Rattle.forms.specs.Forms.{no_nai, nai_length, knows}
use Rattle.subobject.specs.declared.head.Head.{Head}
use Rattle.subobject.specs.Layout.{sid_length, structure_there, structure_length, expected_length, structure_place, sid_place}
use Rattle.subobject.specs.Rules.{rule7, rule8, rule11, rule29, rule30, flag_f, malformed, most_bits, has_structure, has_label, sum_at, bits_at, label_at, time_at}

-- 8: an NT other than 0 has an NAI.
pub nt_known : (form : Form) (h : Head) (nai : ℕ) (r : Bool) → nai ≡ nai_length form h.nt → r ≡ (not (eqb h.nt no_nai) && eqb nai 0) → r ≡ false
    → rule8 form h ≡ false
unfolding rule8 knows
nt_known form h nai r e q z = rw (← e) (go (eqb h.nt no_nai) (eqb nai 0) (sym q ∙ z))
  where
    go : (a b : Bool) → (not a && b) ≡ false → not (a || not b) ≡ false
    go true b k = refl
    go false true k = absurd (false≢true (sym k))
    go false false k = refl

-- 7: F, the length, and flags that go together.
pub seven_kept : (form : Form) (h : Head) (f size : ℕ) (r : Bool) → f ≡ flag_f h.nt → h.f ≡ f → size ≡ expected_length form h.nt h.s h.t → h.size ≡ size
    → r ≡ malformed h → r ≡ false → rule7 form h ≡ false
unfolding rule7
seven_kept form h f size r ef hf es hs em z = rw (eq-eqb h.f (flag_f h.nt) (hf ∙ ef), eq-eqb h.size (expected_length form h.nt h.s h.t) (hs ∙ es), sym em ∙ z)

-- The expected length, part by part.
pub length_made : (form : Form) (h : Head) (fixed sid nai structure : ℕ) (r : Bool) → fixed ≡ form.fixed → sid ≡ sid_length form h.s
    → r ≡ has_structure h → structure ≡ cond r 8 0 → nai ≡ nai_length form h.nt → fixed + sid + nai + structure ≡ expected_length form h.nt h.s h.t
unfolding expected_length has_structure
length_made form h fixed sid nai structure r ef es er et en = rw (et, er, es, ef, en)

-- Where a structure is there, it ends the subobject,
pub structure_last : (form : Form) (h : Head) (at : ℕ) (r : Bool) → r ≡ has_structure h → r ≡ true → h.size ≡ expected_length form h.nt h.s h.t
    → (8 ≤ h.size) × (at + h.size - 8 ≡ structure_place form h.nt at)
unfolding expected_length has_structure
structure_last form h at r e t q =
    let there : structure_there h.s h.t ≡ true = sym e ∙ t in
    let sid = (both_true (eqb h.s 0) _ there).0 in
    let size : h.size ≡ form.fixed + form.sid + nai_length form h.nt + 8 = q ∙ rw (sid, (both_true (eqb h.s 0) _ there).1) in
    (omega arith, omega arith)

-- and 11 asks for its sum.
pub eleven_kept : (form : Form) (h : Head) (s : List ℕ) (at p sum : ℕ) (b : Bool) → sum ≡ sum_at s p → p ≡ structure_place form h.nt at → b ≡ leb sum most_bits → b ≡ true
    → rule11 h (bits_at form h s at) ≡ false
unfolding rule11
eleven_kept form h s at p sum b e q l z =
    let few : sum ≤ most_bits = leb-true sum most_bits (sym l ∙ z) in
    rw (← q, ← e, le-ltb most_bits sum few) (and_false (has_structure h))

pub eleven_none : (h : Head) (sum : ℕ) (r : Bool) → r ≡ has_structure h → r ≡ false → rule11 h sum ≡ false
unfolding rule11
eleven_none h sum r e z = rw (sym e ∙ z)

-- Where a label is there, a SID is.
pub label_room : (form : Form) (h : Head) (r : Bool) → r ≡ has_label h → r ≡ true → h.size ≡ expected_length form h.nt h.s h.t → form.fixed + form.sid ≤ h.size
unfolding expected_length has_label
label_room form h r e t q =
    let sid = (both_true (eqb h.s 0) _ (sym e ∙ t)).0 in
    let size : h.size ≡ form.fixed + form.sid + nai_length form h.nt + structure_length h.s h.t = q ∙ rw sid in
    omega arith

-- 29 and 30, from the octets where the code looks for them.
pub label_kept : (form : Form) (h : Head) (s : List ℕ) (at fixed label : ℕ) (r : Bool) → fixed ≡ form.fixed → label ≡ label_at s (at + fixed) → r ≡ rule29 h label → r ≡ false
    → rule29 h (label_at s (sid_place form at)) ≡ false
label_kept form h s at fixed label r ef el er z = rw (← ef, ← el) (sym er ∙ z)

pub time_kept : (form : Form) (h : Head) (s : List ℕ) (at fixed time : ℕ) (r : Bool) → fixed ≡ form.fixed → time ≡ get_or s (at + fixed + 3) 0 → r ≡ rule30 h time
    → not r ≡ true → rule30 h (time_at s (sid_place form at)) ≡ false
unfolding time_at octet_of
time_kept form h s at fixed time r ef et er z = rw (← ef, ← et) (sym er ∙ not-true r z)

pub label_none : (h : Head) (label time : ℕ) (r : Bool) → r ≡ has_label h → r ≡ false → (rule29 h label ≡ false) × (rule30 h time ≡ false)
unfolding rule29 rule30
label_none h label time r e z = (rw (sym e ∙ z), rw (sym e ∙ z))
