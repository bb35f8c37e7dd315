-- What follows for a subobject that breaks no rule, in the order of specs/. Assumes nothing.
use Prim.Native.Nat.{ℕ, ◌+◌, ◌/◌, ◌≤◌, ◌<◌}
use mathlib.Core.Path.{◌≡◌, refl, sym, ◌∙◌, ap}
use mathlib.Core.Bool.{Bool, true, false, cond, not, ◌||◌}
use mathlib.Core.List.{List}
use lib.Dec.{eqb}
use mir.Val.{bool_byte}
use Rattle.octets.specs.Octets.{octet_of}
use native.Mathlib.Omega.{arith}
use borrow.Author.Tests.{eq-eqb, ne_eqb, eqb-true, eqb-false, not-true, not-false}
use Rattle.octets.proofs.Said.{both_true, either_false, and_no}
use Rattle.forms.specs.declared.Form.{Form}
use Rattle.forms.specs.Sized.{Shortest}
use Rattle.forms.specs.Forms.{no_nai, flag_in, nai_length, knows}
use Rattle.subobject.specs.declared.head.Head.{Head}
use Rattle.subobject.specs.declared.segment.Outline.{Outline}
use Rattle.subobject.specs.Layout.{structure_there, expected_length, worth_l, worth_nt, kind_of, head_of, head_at}
use Rattle.subobject.specs.Rules.{rule7, rule8, rule9, flag_f, has_label}
use Rattle.subobject.specs.Segments.{bit, head_of_outline}

-- lengths ------------------------------------------------------------------------------------------------------

-- A structure stands only behind a SID.
pub there_sid : (s t : ℕ) → structure_there s t ≡ true → eqb s 0 ≡ true
there_sid s t e = (both_true (eqb s 0) (eqb t 1) e).0

-- The sum as the code works it out.
module _ (form : Form) (nt s t fixed sid nai r : ℕ) (there : Bool) (ef : fixed ≡ form.fixed) (es : sid ≡ form.sid) (en : nai ≡ nai_length form nt)
    (et : there ≡ structure_there s t) where
  pub expected_structured : there ≡ true → r ≡ fixed + sid + nai + 8 → r ≡ expected_length form nt s t
  unfolding expected_length
  expected_structured e q =
      let p : structure_there s t ≡ true = sym et ∙ e in
      q ∙ rw (ef, es, en, p, there_sid s t p)

  pub expected_sid : there ≡ false → s ≡ 0 → r ≡ fixed + sid + nai + 0 → r ≡ expected_length form nt s t
  unfolding expected_length
  expected_sid e z q = q ∙ rw (ef, es, en, sym et ∙ e, eq-eqb s 0 z)

pub expected_plain : (form : Form) (nt s t fixed nai r : ℕ) (there : Bool) → fixed ≡ form.fixed → nai ≡ nai_length form nt → there ≡ structure_there s t
    → there ≡ false → (s ≡ 0 → ⊥) → r ≡ fixed + 0 + nai + 0 → r ≡ expected_length form nt s t
unfolding expected_length
expected_plain form nt s t fixed nai r there ef en et e z q = q ∙ rw (ef, en, sym et ∙ e, ne_eqb s 0 z)

-- A subobject that breaks none of 8, 9 and 7 is of the expected length, and has a SID or an NAI.
pub sound_length : (form : Form) (h : Head) → rule7 form h ≡ false → h.size ≡ expected_length form h.nt h.s h.t
unfolding rule7
sound_length form h e =
    let p = (either_false (not (eqb h.f (flag_f h.nt))) _ e).1 in
    eqb-true _ _ (not-false _ (either_false (not (eqb h.size (expected_length form h.nt h.s h.t))) _ p).0)

sound_flag : (form : Form) (h : Head) → rule7 form h ≡ false → h.f ≡ flag_f h.nt
unfolding rule7
sound_flag form h e =
    eqb-true _ _ (not-false _ (either_false (not (eqb h.f (flag_f h.nt))) _ e).0)

-- The NAI of a known NT that is not 0.
nai_least : (form : Form) (h : Head) → rule8 form h ≡ false → eqb h.nt no_nai ≡ false → 0 < nai_length form h.nt
unfolding rule8 knows
nai_least form h e z =
    let k : (false || not (eqb (nai_length form h.nt) 0)) ≡ true = not-false _ (rw z at e) in
    let n : nai_length form h.nt ≡ 0 → ⊥ = eqb-false _ 0 (not-true _ k) in
    omega (arith, n)

-- The fixed part and something behind it: a SID, or an NAI.
pub sound_least : (form : Form) (h : Head) (l : ℕ) → Shortest form l → rule8 form h ≡ false → rule9 h ≡ false → rule7 form h ≡ false → h.s ≤ 1
    → form.fixed + l ≤ h.size
unfolding rule9 expected_length
sound_least form h l short e8 e9 e7 b = go (eqb h.s 0) refl (eqb h.nt no_nai) refl
  where
    go : (z : Bool) → eqb h.s 0 ≡ z → (y : Bool) → eqb h.nt no_nai ≡ y → form.fixed + l ≤ h.size
    go true ez y ey = rw (sound_length form h e7, ez) (omega (arith, short.sid))
    go false ez true ey =
        let one : h.s ≡ 1 = omega (arith, eqb-false h.s 0 ez) in
        let f : h.f ≡ 1 = rw ey at (sound_flag form h e7) in
        absurd (let w : ◌≡◌ {A = Bool} true false = sym (rw (one, f)) ∙ e9 in let v : ◌≡◌ {A = ℕ} 0 1 = cc in omega arith)
    go false ez false ey = rw (sound_length form h e7, ez) (omega (arith, short.nai h.nt (nai_least form h e8 ey)))

-- Where M isn't 1 there is no label.
pub no_label : (h : Head) → (h.m ≡ 1 → ⊥) → has_label h ≡ false
unfolding has_label
no_label h n = and_no (eqb h.s 0) (eqb h.m 1) (ne_eqb h.m 1 n)

-- the head -----------------------------------------------------------------------------------------------------

-- The head made of what was read part by part.
pub head_made : (form : Form) (list : List ℕ) (ero : Bool) (at o0 o1 o2 o3 kind s f t v v' l c m : ℕ) → o0 ≡ octet_of list at → o1 ≡ octet_of list (at + 1)
    → o2 ≡ octet_of list (at + 2) → o3 ≡ octet_of list (at + 3) → kind ≡ kind_of o0 ero → s ≡ flag_in o3 form.s → f ≡ flag_in o3 form.f
    → t ≡ flag_in o3 form.t → v' ≡ flag_in o3 form.v → v ≡ cond ero v' 0 → l ≡ cond ero (o0 / worth_l) 0 → c ≡ flag_in o3 form.c
    → m ≡ flag_in o3 form.m
    → ◌≡◌ {A = Head} (record { kind = kind; size = o1; nt = o2 / worth_nt; s = s; f = f; t = t; v = v; l = l; c = c; m = m }) (head_at form list ero at)
unfolding head_at head_of
head_made form list ero at o0 o1 o2 o3 kind s f t v v' l c m e0 e1 e2 e3 ek es ef et ev' ev el ec em =
    rw (← e0, ← e1, ← e2, ← e3)
    (λ i. record {
      kind = ek i;
      size = o1;
      nt = o2 / worth_nt;
      s = es i;
      f = ef i;
      t = et i;
      v = (ev ∙ ap (λ (x : ℕ). cond ero x 0) ev') i;
      l = el i;
      c = ec i;
      m = em i;
    })

-- A truth value as a number is a bit.
pub bit_of : (b : Bool) {x : ℕ} → x ≡ bool_byte b → x ≡ bit b
bit_of true e = e
bit_of false e = e

pub bit_most : (b : Bool) {x : ℕ} → x ≡ bool_byte b → x ≤ 1
bit_most true e = omega (arith, e)
bit_most false e = omega (arith, e)

-- The head of an outline, made part by part.
pub outlined : (form : Form) (o : Outline) (kind size nt s f t v l c m : ℕ) → kind ≡ form.kind → nt ≡ o.nt → s ≡ bool_byte (not o.hassid)
    → t ≡ bool_byte o.structured → size ≡ expected_length form nt s t → f ≡ bool_byte (eqb nt no_nai) → v ≡ bool_byte o.verify → l ≡ bool_byte o.loose
    → c ≡ bool_byte o.complete → m ≡ bool_byte o.labelled
    → ◌≡◌ {A = Head} (record { kind = kind; size = size; nt = nt; s = s; f = f; t = t; v = v; l = l; c = c; m = m }) (head_of_outline form o)
outlined form o kind size nt s f t v l c m ek en es et ez ef ev el ec em =
    let s' = bit_of (not o.hassid) es in
    let t' = bit_of o.structured et in
    let z : size ≡ expected_length form o.nt (bit (not o.hassid)) (bit o.structured) = ez ∙ rw (en, s', t') in
    let f' : f ≡ flag_f o.nt = bit_of (eqb nt no_nai) ef ∙ rw en in
    let v' = bit_of o.verify ev in
    let l' = bit_of o.loose el in
    let c' = bit_of o.complete ec in
    let m' = bit_of o.labelled em in
    (λ i. record { kind = ek i; size = z i; nt = en i; s = s' i; f = f' i; t = t' i; v = v' i; l = l' i; c = c' i; m = m' i })
