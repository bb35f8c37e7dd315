-- Laws about the runs of octets that a subobject is made of: how long each is (`length_subobject` adds them up), that the head's numbers fit their bits (`small_head`), and that four runs laid
-- one behind the other are the subobject (`written`, by `over_at` from run to run).
use Prim.Native.Nat.{ℕ, suc, ◌+◌, ◌*◌, ◌≤◌, ◌<◌}
use mathlib.Core.Path.{◌≡◌, refl, sym, ◌∙◌, ap}
use mathlib.Core.Bool.{Bool, true, false, cond, not, ◌||◌}
use mathlib.Core.List.{List, [], ◌∷◌, ◌++◌, append_assoc}
use borrow.Author.Tests.{ne_eqb, ltb-true, ltb-false, not-false}
use lib.Dec.{eqb, ltb}
use lib.ListN.{length, get_or, take, length-append}
use lib.Seq.{length-take-le, take_all}
use native.Mathlib.Omega.{arith}
use Rattle.octets.specs.Octets.{hi, lo, over, placed}
use Rattle.octets.proofs.Laws.{over_at}
use Rattle.octets.proofs.Said.{cond_most}
use Rattle.forms.specs.declared.Form.{Form}
use Rattle.forms.specs.Forms.{nai_length, knows}
use Rattle.forms.specs.Sized.{Sized}
use Rattle.forms.proofs.Laws.{fixed_most, nai_most}
use Rattle.subobject.specs.declared.segment.Segment.{Segment}
use Rattle.subobject.specs.declared.head.Head.{Head}
use Rattle.subobject.specs.Layout.{sid_length, structure_length, expected_length, structure_there}
use Rattle.subobject.specs.Rules.{rule8, has_structure}
use Rattle.subobject.specs.Segments.{head_of_outline, head_of_segment, flags_octet, fixed_octets, structure_octets, subobject_of, bit}
use Rattle.writer_spare.specs.Typed.{Typed}
use Rattle.writer_layout.specs.Readable.{Readable}
use Rattle.writer_fixed.specs.Small.{Small}
use Rattle.writer_spare.specs.declared.lent.Lent.{Lent}
use Rattle.writer_spare.specs.Lending.{lent_of}

-- Four octets one by one.
pub four : (l : List ℕ) → length l ≡ 4 → l ≡ get_or l 0 0 ∷ get_or l 1 0 ∷ get_or l 2 0 ∷ get_or l 3 0 ∷ []
four [] e = absurd (omega arith)
four (a ∷ []) e = absurd (omega arith)
four (a ∷ b ∷ []) e = absurd (omega arith)
four (a ∷ b ∷ c ∷ []) e = absurd (omega arith)
four (a ∷ b ∷ c ∷ d ∷ []) e = refl
four (a ∷ b ∷ c ∷ d ∷ x ∷ l) e = absurd (omega arith)

pub structure_octets_lem : (l : List ℕ) → length l ≡ 4
    → get_or l 0 0 ∷ get_or l 1 0 ∷ get_or l 2 0 ∷ get_or l 3 0 ∷ 0 ∷ 0 ∷ 0 ∷ 0 ∷ [] ≡ structure_octets l
structure_octets_lem l e = rw (four l e)

pub length_structure : (l : List ℕ) → length l ≡ 4 → length (structure_octets l) ≡ 8
length_structure l e = rw (four l e)

-- A part that is there or not.
pub part_there : (b : Bool) (l : List ℕ) (n : ℕ) → length l ≡ n → take (cond b n 0) l ≡ cond b l []
part_there true l n e = take_all n l (omega arith)
part_there false l n e = refl

pub length_there : (b : Bool) (l : List ℕ) → length (cond b l []) ≡ cond b (length l) 0
length_there true l = refl
length_there false l = refl

-- The octets before the SID.
pub length_fixed : {form : Form} → Sized form → (h : Head) (behaviour : ℕ) → length (fixed_octets form h behaviour) ≡ form.fixed
unfolding fixed_octets
length_fixed {form} z h behaviour = go form.behaves z.fixed
  where
    go : (b : Bool) → form.fixed ≡ cond b 8 4 → suc (suc (suc (suc (length (cond b (0 ∷ 0 ∷ hi behaviour ∷ lo behaviour ∷ []) []))))) ≡ form.fixed
    go true e = sym e
    go false e = sym e

-- The octets of a SID that is there or not, of an NAI, of a structure.
pub length_sid : {form : Form} → Sized form → (g : Segment) → Typed g
    → length (take (sid_length form (head_of_segment form g).s) g.sid) ≡ sid_length form (head_of_segment form g).s
length_sid {form} z g h = length-take-le _ g.sid (omega (arith, z.sid, h.sid, cond_most (eqb (head_of_segment form g).s 0) form.sid))

pub length_nai : {form : Form} → Sized form → (g : Segment) → Typed g → length (take (nai_length form g.nt) g.nai) ≡ nai_length form g.nt
length_nai z g h = length-take-le _ g.nai (omega (arith, nai_most z g.nt, h.nai))

pub length_subobject : {form : Form} → Sized form → (g : Segment) → Typed g
    → length (subobject_of form g)
    ≡ form.fixed + sid_length form (head_of_segment form g).s + nai_length form g.nt + structure_length (head_of_segment form g).s (head_of_segment form g).t
unfolding subobject_of has_structure
length_subobject {form} z g h =
    let p = head_of_segment form g in
    let f = fixed_octets form p g.behaviour in
    let a = take (sid_length form p.s) g.sid in
    let b = take (nai_length form g.nt) g.nai in
    let d = cond (structure_there p.s p.t) (structure_octets g.structure) [] in
    let e3 : length d ≡ structure_length p.s p.t
    = length_there (structure_there p.s p.t) (structure_octets g.structure) ∙ rw (length_structure g.structure h.structure) in
    omega (
      arith,
      length-append f (a ++ (b ++ d)),
      length-append a (b ++ d),
      length-append b d,
      length_fixed z p g.behaviour,
      length_sid z g h,
      length_nai z g h,
      e3,
    )

-- Four runs laid one behind the other.
pub written : (f sid nai last b w x y z : List ℕ) (l k n m : ℕ) → length f ≡ l → w ≡ over f b → x ≡ placed w l (take k sid) → y ≡ placed x (l + k) (take n nai)
    → z ≡ placed y (l + k + n) (take m last) → k ≤ length sid → n ≤ length nai → l + k + n ≤ length b
    → z ≡ over (f ++ (take k sid ++ (take n nai ++ take m last))) b
written f sid nai last b w x y z l k n m lf ew ex ey ez hk hn hb =
    let l1 : length (f ++ take k sid) ≡ l + k = omega (arith, length-append f (take k sid), length-take-le k sid hk) in
    let l2 : length ((f ++ take k sid) ++ take n nai) ≡ l + k + n = omega (arith, length-append (f ++ take k sid) (take n nai), length-take-le n nai hn) in
    ez ∙ rw (
      ey,
      ex,
      ew,
      over_at f (take k sid) b l lf (omega arith),
      over_at (f ++ take k sid) (take n nai) b (l + k) l1 (omega arith),
      over_at ((f ++ take k sid) ++ take n nai) (take m last) b (l + k + n) l2 hb,
    ) (simp append_assoc)

-- An NT that a form knows is at most 6.
pub nt_known : (form : Form) (nt : ℕ) → knows form nt ≡ true → nt ≤ 6
unfolding knows nai_length
nt_known form nt e = go (ltb 6 nt) refl
  where
    go : (b : Bool) → ltb 6 nt ≡ b → nt ≤ 6
    go false h = ltb-false 6 nt h
    go true h =
        let k = ltb-true 6 nt h in
        let q : (eqb nt 0 || not (eqb (nai_length form nt) 0)) ≡ false
        = rw (
          ne_eqb nt 0 (λ z. omega arith),
          ne_eqb nt 1 (λ z. omega arith),
          ne_eqb nt 2 (λ z. omega arith),
          ne_eqb nt 3 (λ z. omega arith),
          ne_eqb nt 4 (λ z. omega arith),
          ne_eqb nt 5 (λ z. omega arith),
          ne_eqb nt 6 (λ z. omega arith),
        ) in
        absurd (let w : ◌≡◌ {A = Bool} true false = sym e ∙ q in let v : ◌≡◌ {A = ℕ} 0 1 = cc in omega arith)

pub bit_most : (b : Bool) → bit b ≤ 1
bit_most true = omega arith
bit_most false = omega arith

-- A flag adds no more than it is worth.
pub bit_times : (n w : ℕ) → n ≤ 1 → n * w ≤ w
bit_times ℕ.zero w h = omega arith
bit_times (ℕ.suc ℕ.zero) w h = omega arith
bit_times (ℕ.suc (ℕ.suc n)) w h = absurd (omega arith)

pub flags_small : {form : Form} → Readable form → (h : Head) → h.v ≤ 1 → h.t ≤ 1 → h.f ≤ 1 → h.s ≤ 1 → h.c ≤ 1 → h.m ≤ 1 → flags_octet form h < 256
unfolding flags_octet
flags_small {form} r h v t f s c m =
    omega (
      arith,
      r.most,
      bit_times h.v form.v v,
      bit_times h.t form.t t,
      bit_times h.f form.f f,
      bit_times h.s form.s s,
      bit_times h.c form.c c,
      bit_times h.m form.m m,
    )

-- The head of an outline whose NT is known fits its bits.
pub small_head : {form : Form} → Sized form → Readable form → (g : Segment) (h : Head) → h ≡ head_of_segment form g → rule8 form h ≡ false → Small form h
unfolding head_of_segment expected_length rule8
small_head {form} z r g h e q =
    let k : g.nt ≤ 6 = nt_known form g.nt (not-false _ (sym (ap (λ (x : Head). not (knows form x.nt)) e) ∙ q)) in
    rw e (record {
      kind = r.kind;
      size = omega (
        arith,
        fixed_most z,
        z.sid,
        nai_most z g.nt,
        cond_most (eqb (bit (not g.hassid)) 0) form.sid,
        cond_most (structure_there (bit (not g.hassid)) (bit g.structured)) 8,
      );
      nt = omega arith;
      bits = record {
        l = bit_most g.loose;
        v = bit_most g.verify;
        t = bit_most g.structured;
        f = cond_most (eqb g.nt 0) 1;
        s = bit_most (not g.hassid);
        c = bit_most g.complete;
        m = bit_most g.labelled;
      };
      flags = flags_small r (head_of_segment form g) (bit_most g.verify) (bit_most g.structured) (cond_most (eqb g.nt 0) 1) (bit_most (not g.hassid))
          (bit_most g.complete) (bit_most g.labelled);
    })

-- Where a subobject fits, its parts do.
pub room : {form : Form} → Sized form → (g : Segment) (h : Head) (most : ℕ) → Typed g → h ≡ head_of_segment form g → length (subobject_of form g) ≤ most
    → form.fixed + sid_length form h.s + nai_length form h.nt + cond (has_structure h) 8 0 ≤ most
unfolding has_structure head_of_segment
room z g h most hg e hl = rw e (omega (arith, length_subobject z g hg))

-- The same of what is lent, by the head of its outline.
pub lent_head : (form : Form) (x : Lent) (h : Head) → h ≡ head_of_outline form x.outline → h ≡ head_of_segment form (lent_of x)
unfolding head_of_segment
lent_head form x h e = e

pub lent_room : {form : Form} → Sized form → (x : Lent) (h : Head) (most : ℕ) → h ≡ head_of_outline form x.outline → length (subobject_of form (lent_of x)) ≤ most
    → form.fixed + sid_length form h.s + nai_length form h.nt + cond (has_structure h) 8 0 ≤ most
lent_room {form} z x h most e l = room z (lent_of x) h most x.typed (lent_head form x h e) l

-- The fixed octets, SID, NAI and structure laid one behind the other are the subobject.
pub written_subobject : {form : Form} → Sized form → (g : Segment) (h : Head) (last b w x y z : List ℕ) (l k n : ℕ) (there : Bool) → Typed g → h ≡ head_of_segment form g
    → last ≡ structure_octets g.structure → l ≡ form.fixed → k ≡ sid_length form h.s → n ≡ nai_length form h.nt → there ≡ has_structure h
    → length (subobject_of form g) ≤ length b → w ≡ over (fixed_octets form h g.behaviour) b → x ≡ placed w l (take k g.sid)
    → y ≡ placed x (l + k) (take n g.nai) → z ≡ placed y (l + k + n) (take (cond there 8 0) last) → z ≡ over (subobject_of form g) b
unfolding subobject_of head_of_segment
written_subobject {form} sz g h last b w x y z l k n there hg eh el ef ek en et hb ew ex ey ez =
    let q : take (cond there 8 0) last ≡ cond there (structure_octets g.structure) []
    = rw el (part_there there (structure_octets g.structure) 8 (length_structure g.structure hg.structure)) in
    let en' : n ≡ nai_length form g.nt = en ∙ rw eh in
    let ek' : k ≡ sid_length form (head_of_segment form g).s = ek ∙ rw eh in
    written (fixed_octets form h g.behaviour) g.sid g.nai last b w x y z l k n (cond there 8 0) (length_fixed sz h g.behaviour ∙ sym ef) ew ex ey ez
    (omega (arith, hg.sid, sz.sid, cond_most (eqb h.s 0) form.sid))
    (omega (arith, hg.nai, nai_most sz h.nt))
    (omega (arith, room sz g h (length b) hg eh hb))
    ∙ rw (q, ek', en', et, eh)
