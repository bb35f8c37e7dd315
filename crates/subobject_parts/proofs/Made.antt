-- A segment made of its parts: they lie inside the octets given, each is read where the head says, and together they are the segment. Assumes nothing.
use Prim.Native.Nat.{ℕ, ◌+◌, ◌≤◌}
use mathlib.Core.Path.{◌≡◌, refl, ◌∙◌, ap}
use mathlib.Core.List.{List}
use mathlib.Core.Bool.{Bool, true, false, cond}
use lib.Dec.{eqb}
use lib.ListN.{length}
use native.Mathlib.Omega.{arith}
use Rattle.octets.specs.Octets.{be16, part, part_of}
use Rattle.subobject.specs.declared.head.Head.{Head}
use Rattle.subobject.specs.declared.segment.Segment.{Segment}
use Rattle.forms.specs.declared.Form.{Form}
use Rattle.forms.specs.Forms.{nai_length}
use Rattle.forms.specs.Sized.{Sized}
use Rattle.subobject.specs.Layout.{behaviour_place, sid_size, sid_length, nai_size, structure_size, bit_lengths, structure_place}
use Rattle.subobject.specs.Layout.{expected_length, head_at, expected_at}
use Rattle.subobject.specs.Rules.{has_structure}
use Rattle.subobject.specs.Segments.{segment_by, segment_at}
use Rattle.subobject.proofs.Laws.{there_sid}

-- The parts of a subobject lie inside the octets given.
pub parts_by : (form : Form) (s : List ℕ) (at : ℕ) (h : Head) → at + expected_length form h.nt h.s h.t ≤ length s
    → at + form.fixed + sid_length form h.s + nai_length form h.nt + cond (has_structure h) structure_size 0 ≤ length s
unfolding expected_length has_structure
parts_by form s at h p = omega (arith, p)

-- The same of the head at a place.
pub parts_room : (form : Form) (ero : Bool) (s : List ℕ) (at : ℕ) (h : Head) → h ≡ head_at form s ero at → at + expected_at form s ero at ≤ length s
    → at + form.fixed + sid_length form h.s + nai_length form h.nt + cond (has_structure h) structure_size 0 ≤ length s
unfolding expected_at expected_length has_structure
parts_room form ero s at h e p = rw e (omega (arith, p))

pub fixed_here : (form : Form) (s : List ℕ) (ero : Bool) (at : ℕ) → form.fixed ≤ expected_at form s ero at
unfolding expected_at expected_length
fixed_here form s ero at = omega arith

pub sid_most : {form : Form} → Sized form → (s : ℕ) → sid_length form s ≤ sid_size
sid_most {form} z s = go (eqb s 0)
  where
    go : (b : Bool) → cond b form.sid 0 ≤ sid_size
    go true = z.sid
    go false = omega arith

pub bits_room : (b : Bool) → cond b bit_lengths 0 ≤ cond b structure_size 0
bits_room true = omega arith
bits_room false = omega arith

-- A structure stands behind a SID; where there is none, no octet is taken.
pub structure_part : (form : Form) (s : List ℕ) (at : ℕ) (h : Head)
    → part_of s (at + form.fixed + sid_length form h.s + nai_length form h.nt) (cond (has_structure h) bit_lengths 0) bit_lengths
    ≡ part_of s (structure_place form h.nt at) (cond (has_structure h) bit_lengths 0) bit_lengths
unfolding part_of part has_structure
structure_part form s at h = go (has_structure h) refl
  where
    go : (b : Bool) → has_structure h ≡ b
        → part_of s (at + form.fixed + sid_length form h.s + nai_length form h.nt) (cond b bit_lengths 0) bit_lengths
        ≡ part_of s (structure_place form h.nt at) (cond b bit_lengths 0) bit_lengths
    go true e = rw (there_sid h.s h.t e)
    go false e = refl

-- The segment made of what was read part by part.
pub segment_by_lem : (form : Form) (s : List ℕ) (at : ℕ) (h : Head) (there : Bool) (fixed k n b : ℕ) (sid nai bits : List ℕ)
    → there ≡ has_structure h → fixed ≡ form.fixed → k ≡ sid_length form h.s → n ≡ nai_length form h.nt → b ≡ cond form.behaves (be16 s (at + behaviour_place)) 0
    → sid ≡ part_of s (at + fixed) (sid_length form h.s) sid_size → nai ≡ part_of s (at + fixed + k) (nai_length form h.nt) nai_size
    → bits ≡ part_of s (at + fixed + k + n) (cond there bit_lengths 0) bit_lengths
    → ◌≡◌ {A = Segment}
    (record {
      loose = eqb h.l 1;
      verify = eqb h.v 1;
      nt = h.nt;
      behaviour = b;
      hassid = eqb h.s 0;
      sid = sid;
      nai = nai;
      structured = there;
      structure = bits;
      labelled = eqb h.m 1;
      complete = eqb h.c 1;
    })
    (segment_by form h s at)
segment_by_lem form s at h there fixed k n b sid nai bits et ef ek en eb es ei eq =
    let q : bits ≡ part_of s (structure_place form h.nt at) (cond (has_structure h) bit_lengths 0) bit_lengths = rw (et, ef, ek, en) at eq ∙ structure_part form s at h in
    let p : sid ≡ part_of s (at + form.fixed) (sid_length form h.s) sid_size = rw ef at es in
    let r : nai ≡ part_of s (at + form.fixed + sid_length form h.s) (nai_length form h.nt) nai_size = rw (ef, ek) at ei in
    (λ i. record {
      loose = eqb h.l 1;
      verify = eqb h.v 1;
      nt = h.nt;
      behaviour = eb i;
      hassid = eqb h.s 0;
      sid = p i;
      nai = r i;
      structured = et i;
      structure = q i;
      labelled = eqb h.m 1;
      complete = eqb h.c 1;
    })

-- The same of the head at a place.
pub segment_made : (form : Form) (ero : Bool) (s : List ℕ) (at : ℕ) (h : Head) (there : Bool) (fixed k n m b : ℕ) (sid nai bits : List ℕ) → h ≡ head_at form s ero at
    → there ≡ has_structure h → fixed ≡ form.fixed → k ≡ sid_length form h.s → n ≡ nai_length form h.nt → m ≡ cond there bit_lengths 0
    → b ≡ cond form.behaves (be16 s (at + behaviour_place)) 0 → sid ≡ part_of s (at + fixed) k sid_size → nai ≡ part_of s (at + fixed + k) n nai_size
    → bits ≡ part_of s (at + fixed + k + n) m bit_lengths
    → ◌≡◌ {A = Segment}
    (record {
      loose = eqb h.l 1;
      verify = eqb h.v 1;
      nt = h.nt;
      behaviour = b;
      hassid = eqb h.s 0;
      sid = sid;
      nai = nai;
      structured = there;
      structure = bits;
      labelled = eqb h.m 1;
      complete = eqb h.c 1;
    })
    (segment_at form s ero at)
unfolding segment_at
segment_made form ero s at h there fixed k n m b sid nai bits eh et ef ek en em eb es ei eq =
    let p : sid ≡ part_of s (at + fixed) (sid_length form h.s) sid_size = es ∙ ap (λ (x : ℕ). part_of s (at + fixed) x sid_size) ek in
    let r : nai ≡ part_of s (at + fixed + k) (nai_length form h.nt) nai_size = ei ∙ ap (λ (x : ℕ). part_of s (at + fixed + k) x nai_size) en in
    let q : bits ≡ part_of s (at + fixed + k + n) (cond there bit_lengths 0) bit_lengths = eq ∙ ap (λ (x : ℕ). part_of s (at + fixed + k + n) x bit_lengths) em in
    segment_by_lem form s at h there fixed k n b sid nai bits et ef ek en eb p r q ∙ ap (λ (x : Head). segment_by form x s at) eh
