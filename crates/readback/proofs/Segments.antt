-- A segment is read back from its octets. A fit segment keeps to what `Plain` lists; where its subobject stands in a string, so does each part, at a place that the lengths before it give
-- (`stands_fixed` to `stands_last`), and from each part one field of the segment comes back; then the strays, and the ignored bits, are 0.
use Prim.Native.Nat.{ℕ, ◌+◌, ◌*◌, ◌/◌, ◌%◌, ◌<◌}
use mathlib.Core.Path.{◌≡◌, refl, sym, ◌∙◌, ap}
use mathlib.Core.Bool.{Bool, true, false, cond, not, ◌&&◌, ◌||◌}
use mathlib.Core.List.{List, [], ◌∷◌, ◌++◌}
use lib.Dec.{eqb}
use lib.ListN.{length, take, drop}
use lib.Seq.{length-take-le, take_all}
use native.Mathlib.Nat.{add_assoc}
use native.Mathlib.Omega.{arith}
use borrow.Author.Tests.{eqb-true, eq-eqb, not-false}
use Rattle.octets.specs.Octets.{octet_of, be16, part, part_of, hi, lo}
use Rattle.octets.proofs.Laws.{part_none}
use Rattle.forms.specs.declared.Form.{Form}
use Rattle.forms.specs.Forms.{flag_in, nai_length}
use Rattle.forms.specs.Sized.{Sized}
use Rattle.forms.proofs.Laws.{nai_most}
use Rattle.subobject.specs.declared.segment.Segment.{Segment}
use Rattle.subobject.specs.Layout.{sid_length, kind_of, head_of, head_at}
use Rattle.subobject.specs.Rules.{rule7, malformed, flag_f, has_structure}
use Rattle.subobject.specs.Segments.{segment_by, segment_at, outline_of, head_of_segment, flags_octet, fixed_octets, structure_octets, subobject_of, bit}
use Rattle.subobject_strays.specs.Strays.{stray_flags, structure_flags, reserved_octets, any_set, strays_by, strays_at, no_strays}
use Rattle.writer_spare.specs.Typed.{Typed}
use Rattle.writer_spare.specs.Spare.{zeros, tidy_of}
use Rattle.writer_layout.specs.Readable.{together, Marks, FlagsApart, Readable}
use Rattle.writer_layout.proofs.Laws.{length_fixed, length_sid, length_nai, flags_small, bit_most}
use Rattle.octets.proofs.Said.{both_true, either_false, cond_most}
use Rattle.writer_rules.specs.Refusals.{foreign, unfit}
use Rattle.writer_rules.proofs.Checks.{seven_written}
use Rattle.readback.specs.Ignored.{unassigned_at, assigned_at, ending_at, ignored_at}
use Rattle.readback.proofs.Parts.{zeros_append, zeros_cons}
use Rattle.readback.proofs.Stands.{StandsAt, stands_octet, stands_first, stands_left, stands_right, stands_part, padded_back}

-- what a fit segment keeps to ----------------------------------------------------------------------------------

pub record Plain (form : Form) (ero : Bool) (g : Segment) : Type 0 where
  pub sided : (g.structured && not g.hassid) ≡ false
  pub flags : (not ero && (g.loose || g.verify)) ≡ false
  pub tidy : tidy_of form g ≡ true
  pub no_m : (eqb form.m 0 && g.labelled) ≡ false
  pub no_c : (eqb form.c 0 && g.complete) ≡ false
  pub no_t : (eqb form.t 0 && g.structured) ≡ false
  pub no_behaviour : (not form.behaves && not (eqb g.behaviour 0)) ≡ false
  pub formed : malformed (head_of_segment form g) ≡ false

pub plain : (form : Form) (ero : Bool) (g : Segment) → unfit form g ero ≡ false → Plain form ero g
unfolding unfit foreign
plain form ero g e =
    let p = either_false (g.structured && not g.hassid) _ e in
    let q = either_false (not ero && (g.loose || g.verify)) _ p.1 in
    let r = either_false (not (tidy_of form g)) _ q.1 in
    let s = either_false (foreign form (outline_of g)) (rule7 form (head_of_segment form g)) r.1 in
    let a = either_false (eqb form.m 0 && g.labelled) _ s.0 in
    let b = either_false (eqb form.c 0 && g.complete) _ a.1 in
    let c = either_false (eqb form.t 0 && g.structured) _ b.1 in
    record {
      sided = p.0;
      flags = q.0;
      tidy = not-false (tidy_of form g) r.0;
      no_m = a.0;
      no_c = b.0;
      no_t = c.0;
      no_behaviour = c.1;
      formed = sym (seven_written form g) ∙ s.1;
    }

-- bits ---------------------------------------------------------------------------------------------------------

pub bit_one : (b : Bool) → eqb (bit b) 1 ≡ b
bit_one true = refl
bit_one false = refl

pub bit_none : (b : Bool) → eqb (bit (not b)) 0 ≡ b
bit_none true = refl
bit_none false = refl

-- A flag that the form has not is 0.
bit_off : (w : ℕ) (b : Bool) → (eqb w 0 && b) ≡ false → w ≡ 0 → bit b ≡ 0
bit_off w b e z = ap bit (rw (eq-eqb w 0 z) at e)

marks_of : (form : Form) (ero : Bool) (g : Segment) → Plain form ero g
    → Marks form (bit g.verify) (bit g.structured) (flag_f g.nt) (bit (not g.hassid)) (bit g.complete) (bit g.labelled)
marks_of form ero g p =
    record {
      bit_v = bit_most g.verify;
      bit_t = bit_most g.structured;
      bit_f = bit_most (eqb g.nt 0);
      bit_s = bit_most (not g.hassid);
      bit_c = bit_most g.complete;
      bit_m = bit_most g.labelled;
      no_t = bit_off form.t g.structured p.no_t;
      no_c = bit_off form.c g.complete p.no_c;
      no_m = bit_off form.m g.labelled p.no_m;
    }

-- the head -----------------------------------------------------------------------------------------------------

-- L and V are read as they are in an ERO; in an RRO they are 0, and so they were written.
flag_kept : (ero loose verify : Bool) → (not ero && (loose || verify)) ≡ false → (cond ero (bit loose) 0 ≡ bit loose) × (cond ero (bit verify) 0 ≡ bit verify)
flag_kept true l v e = (refl, refl)
flag_kept false false false e = (refl, refl)
flag_kept false true v e = absurd (let z : ◌≡◌ {A = ℕ} 0 1 = cc in omega arith)
flag_kept false false true e = absurd (let z : ◌≡◌ {A = ℕ} 0 1 = cc in omega arith)

kind_kept : (kind : ℕ) → kind < 128 → (ero loose verify : Bool) → (not ero && (loose || verify)) ≡ false
    → cond ero ((bit loose * 128 + kind) % 128) (bit loose * 128 + kind) ≡ kind
kind_kept kind k true true v e = omega arith
kind_kept kind k true false v e = omega arith
kind_kept kind k false false v e = omega arith
kind_kept kind k false true v e = absurd (let z : ◌≡◌ {A = ℕ} 0 1 = cc in omega arith)

head_made : {form : Form} → Readable form → (ero : Bool) (g : Segment) → Plain form ero g
    → head_of form (bit g.loose * 128 + form.kind) (head_of_segment form g).size (g.nt * 16) (flags_octet form (head_of_segment form g)) ero ≡ head_of_segment form g
unfolding head_of kind_of head_of_segment flags_octet
head_made {form} r ero g p =
    let a = r.apart (bit g.verify) (bit g.structured) (flag_f g.nt) (bit (not g.hassid)) (bit g.complete) (bit g.labelled) (marks_of form ero g p) in
    let k = kind_kept form.kind r.kind ero g.loose g.verify p.flags in
    let n : g.nt * 16 / 16 ≡ g.nt = omega arith in
    let es = a.back_s in
    let ef = a.back_f in
    let et = a.back_t in
    let ec = a.back_c in
    let em = a.back_m in
    let ev = ap (λ (x : ℕ). cond ero x 0) a.back_v ∙ (flag_kept ero g.loose g.verify p.flags).1 in
    let d : (bit g.loose * 128 + form.kind) / 128 ≡ bit g.loose = omega (arith, bit_most g.loose, r.kind) in
    let el = ap (λ (x : ℕ). cond ero x 0) d ∙ (flag_kept ero g.loose g.verify p.flags).0 in
    λ i. record { kind = k i; size = (head_of_segment form g).size; nt = n i; s = es i; f = ef i; t = et i; v = ev i; l = el i; c = ec i; m = em i }

-- where the parts stand ----------------------------------------------------------------------------------------

abbrev fixed_part : Form → Segment → List ℕ
fixed_part form g = fixed_octets form (head_of_segment form g) g.behaviour

-- The first four octets, and the four behind them where the form has these.
abbrev first_part : Form → Segment → List ℕ
first_part form g =
    ((head_of_segment form g).l * 128 + form.kind) ∷ (head_of_segment form g).size ∷ (g.nt * 16) ∷ flags_octet form (head_of_segment form g) ∷ []

abbrev pub second_part : Bool → ℕ → List ℕ
second_part b behaviour = cond b (0 ∷ 0 ∷ hi behaviour ∷ lo behaviour ∷ []) []

abbrev sid_part : Form → Segment → List ℕ
sid_part form g = take (sid_length form (head_of_segment form g).s) g.sid

abbrev nai_part : Form → Segment → List ℕ
nai_part form g = take (nai_length form g.nt) g.nai

abbrev last_part : Form → Segment → List ℕ
last_part form g = cond (has_structure (head_of_segment form g)) (structure_octets g.structure) []

-- The octets kept for a part that is absent or shorter.
record Tidied (form : Form) (g : Segment) : Type 0 where
  sid : zeros (drop (cond g.hassid form.sid 0) g.sid) ≡ true
  nai : zeros (drop (nai_length form g.nt) g.nai) ≡ true
  structure : zeros (drop (cond g.structured 4 0) g.structure) ≡ true

tidied : (form : Form) (g : Segment) → tidy_of form g ≡ true → Tidied form g
unfolding tidy_of
tidied form g e =
    let z = both_true (zeros (drop (cond g.hassid form.sid 0) g.sid)) _ e in
    let y = both_true (zeros (drop (nai_length form g.nt) g.nai)) _ z.1 in
    record { sid = z.0; nai = y.0; structure = y.1 }

sid_length_lem : (form : Form) (g : Segment) → sid_length form (head_of_segment form g).s ≡ cond g.hassid form.sid 0
unfolding head_of_segment
sid_length_lem form g = rw (bit_none g.hassid)

pub there : (form : Form) (g : Segment) → (g.structured && not g.hassid) ≡ false → has_structure (head_of_segment form g) ≡ g.structured
unfolding head_of_segment has_structure
there form g e = go g.structured g.hassid e
  where
    go : (t k : Bool) → (t && not k) ≡ false → (eqb (bit (not k)) 0 && eqb (bit t) 1) ≡ t
    go true true e = refl
    go true false e = absurd (let z : ◌≡◌ {A = ℕ} 0 1 = cc in omega arith)
    go false true e = refl
    go false false e = refl

pub sided : (g : Segment) → g.structured ≡ true → (g.structured && not g.hassid) ≡ false → g.hassid ≡ true
sided g q e = not-false g.hassid (rw q at e)

-- A SID that is there, as long as the form has it.
full_sid : (form : Form) (g : Segment) → g.hassid ≡ true → sid_length form (head_of_segment form g).s ≡ form.sid
full_sid form g e = sid_length_lem form g ∙ ap (λ (b : Bool). cond {A = ℕ} b form.sid 0) e

any_both : (x y : List ℕ) → any_set x ≡ false → any_set y ≡ false → any_set (x ++ y) ≡ false
any_both [] y e f = f
any_both (a ∷ x) y e f = let p = either_false (not (eqb a 0)) (any_set x) e in rw p.0 (any_both x y p.1 f)

module _ {form : Form} (z : Sized form) (r : Readable form) {s : List ℕ} {at : ℕ} (g : Segment) (t : StandsAt s at (subobject_of form g)) where
  stands_fixed : StandsAt s at (fixed_part form g)
  unfolding subobject_of
  stands_fixed = stands_left (fixed_part form g) _ t

  pub stands_four : StandsAt s at (first_part form g)
  unfolding fixed_octets head_of_segment
  stands_four = stands_left (first_part form g) (second_part form.behaves g.behaviour) stands_fixed

  stands_second : StandsAt s (at + 4) (second_part form.behaves g.behaviour)
  unfolding fixed_octets head_of_segment
  stands_second = stands_right (first_part form g) (second_part form.behaves g.behaviour) stands_fixed

  stands_parts : StandsAt s (at + form.fixed) (sid_part form g ++ (nai_part form g ++ last_part form g))
  unfolding subobject_of
  stands_parts = rw (length_fixed z (head_of_segment form g) g.behaviour) at (stands_right (fixed_part form g) _ t)

  pub stands_sid : StandsAt s (at + form.fixed) (sid_part form g)
  stands_sid = stands_left (sid_part form g) _ stands_parts

  stands_behind : Typed g → StandsAt s (at + form.fixed + sid_length form (head_of_segment form g).s) (nai_part form g ++ last_part form g)
  stands_behind h = rw (length_sid z g h) at (stands_right (sid_part form g) _ stands_parts)

  pub stands_nai : Typed g → StandsAt s (at + form.fixed + sid_length form (head_of_segment form g).s) (nai_part form g)
  stands_nai h = stands_left (nai_part form g) _ (stands_behind h)

  pub stands_last : Typed g → StandsAt s (at + form.fixed + sid_length form (head_of_segment form g).s + nai_length form g.nt) (last_part form g)
  stands_last h = rw (length_nai z g h) at (stands_right (nai_part form g) _ (stands_behind h))

  -- reading ------------------------------------------------------------------------------------------------------

  pub head_back : (ero : Bool) → Plain form ero g → head_at form s ero at ≡ head_of_segment form g
  unfolding head_at head_of_segment
  head_back ero p =
      rw (
        stands_first (first_part form g) stands_four (omega arith),
        stands_octet (first_part form g) stands_four 1 (omega arith),
        stands_octet (first_part form g) stands_four 2 (omega arith),
        stands_octet (first_part form g) stands_four 3 (omega arith),
      ) (head_made r ero g p)

  behaviour_by : Typed g → (b : Bool) → StandsAt s (at + 4) (second_part b g.behaviour) → (not b && not (eqb g.behaviour 0)) ≡ false
      → cond b (be16 s (at + 6)) 0 ≡ g.behaviour
  unfolding be16 octet_of
  behaviour_by h true u e =
      let x : List ℕ = 0 ∷ 0 ∷ hi g.behaviour ∷ lo g.behaviour ∷ [] in
      let e6 : octet_of s (at + 6) ≡ hi g.behaviour = ap (octet_of s) (sym (add_assoc at 4 2)) ∙ stands_octet x u 2 (omega arith) in
      let e7 : octet_of s (at + 7) ≡ lo g.behaviour = ap (octet_of s) (sym (add_assoc at 4 3)) ∙ stands_octet x u 3 (omega arith) in
      let b = h.behaviour in
      rw (add_assoc at 6 1, e6, e7) (omega arith)
  behaviour_by h false u e = sym (eqb-true g.behaviour 0 (not-false _ e))

  pub behaviour_back : Typed g → (not form.behaves && not (eqb g.behaviour 0)) ≡ false → cond form.behaves (be16 s (at + 6)) 0 ≡ g.behaviour
  behaviour_back h e = behaviour_by h form.behaves stands_second e

  pub sid_back : Typed g → tidy_of form g ≡ true → part_of s (at + form.fixed) (sid_length form (head_of_segment form g).s) 16 ≡ g.sid
  unfolding part_of
  sid_back h e =
      let k = sid_length form (head_of_segment form g).s in
      let p : part s (at + form.fixed) k ≡ sid_part form g = rw (length_sid z g h) at (stands_part (sid_part form g) stands_sid) in
      rw p
      (padded_back g.sid k 16 h.sid (omega (arith, z.sid, cond_most (eqb (head_of_segment form g).s 0) form.sid))
      (rw (sid_length_lem form g) (tidied form g e).sid))

  pub nai_back : Typed g → tidy_of form g ≡ true → part_of s (at + form.fixed + sid_length form (head_of_segment form g).s) (nai_length form g.nt) 40 ≡ g.nai
  unfolding part_of
  nai_back h e =
      let p : part s (at + form.fixed + sid_length form (head_of_segment form g).s) (nai_length form g.nt) ≡ nai_part form g
      = rw (length_nai z g h) at (stands_part (nai_part form g) (stands_nai h)) in
      rw p (padded_back g.nai (nai_length form g.nt) 40 h.nai (nai_most z g.nt) (tidied form g e).nai)

  -- The four bit lengths stand where a structure is looked for.
  stands_structure : Typed g → g.structured ≡ true → (g.structured && not g.hassid) ≡ false
      → StandsAt s (at + form.fixed + form.sid + nai_length form g.nt) (structure_octets g.structure)
  stands_structure h e n =
      let l : last_part form g ≡ structure_octets g.structure = ap (λ (b : Bool). cond b (structure_octets g.structure) []) (there form g n ∙ e) in
      let k = full_sid form g (sided g e n) in
      rw (l, k) at (stands_last h)

  pub stands_bits : Typed g → g.structured ≡ true → (g.structured && not g.hassid) ≡ false
      → StandsAt s (at + form.fixed + form.sid + nai_length form g.nt) g.structure
  stands_bits h e n =
      let t4 : take 4 g.structure ≡ g.structure = take_all 4 g.structure (omega (arith, h.structure)) in
      rw t4 at (stands_left (take 4 g.structure) _ (stands_structure h e n))

  bits_part : Typed g → (g.structured && not g.hassid) ≡ false → (b : Bool) → g.structured ≡ b
      → part s (at + form.fixed + form.sid + nai_length form g.nt) (cond g.structured 4 0) ≡ take (cond g.structured 4 0) g.structure
  bits_part h n true q =
      let p = stands_part g.structure (stands_bits h q n) in
      rw q ((rw h.structure at p) ∙ sym (take_all 4 g.structure (omega (arith, h.structure))))
  bits_part h n false q = rw q (part_none s (at + form.fixed + form.sid + nai_length form g.nt))

  pub structure_back : Typed g → tidy_of form g ≡ true → (g.structured && not g.hassid) ≡ false
      → part_of s (at + form.fixed + form.sid + nai_length form g.nt) (cond g.structured 4 0) 4 ≡ g.structure
  unfolding part_of
  structure_back h e n =
      rw (bits_part h n g.structured refl)
      (padded_back g.structure (cond g.structured 4 0) 4 h.structure (cond_most g.structured 4) (tidied form g e).structure)

  segment_by_lem : {ero : Bool} → Typed g → Plain form ero g → segment_by form (head_of_segment form g) s at ≡ g
  unfolding head_of_segment
  segment_by_lem h p =
      let el = bit_one g.loose in
      let ev = bit_one g.verify in
      let eb = behaviour_back h p.no_behaviour in
      let es = bit_none g.hassid in
      let ei = sid_back h p.tidy in
      let en = nai_back h p.tidy in
      let et = there form g p.sided in
      let ec = (rw (← et) at (structure_back h p.tidy p.sided)) in
      let em = bit_one g.labelled in
      let eo = bit_one g.complete in
      λ i. record {
        loose = el i;
        verify = ev i;
        nt = g.nt;
        behaviour = eb i;
        hassid = es i;
        sid = ei i;
        nai = en i;
        structured = et i;
        structure = ec i;
        labelled = em i;
        complete = eo i;
      }

  -- What the octets say is the segment.
  pub segment_back : (ero : Bool) → Typed g → Plain form ero g → segment_at form s ero at ≡ g
  unfolding segment_at
  segment_back ero h p = rw (head_back ero p) (segment_by_lem h p)

  -- what is set and ought to be 0 --------------------------------------------------------------------------------

  flags_clean : {ero : Bool} → Plain form ero g → stray_flags form s at ≡ 0
  unfolding stray_flags be16 octet_of head_of_segment flags_octet
  flags_clean {ero} p =
      let h = head_of_segment form g in
      let x = flags_octet form h in
      let e2 = stands_octet (first_part form g) stands_four 2 (omega arith) in
      let e3 = stands_octet (first_part form g) stands_four 3 (omega arith) in
      let k = marks_of form ero g p in
      let a = r.apart (bit g.verify) (bit g.structured) (flag_f g.nt) (bit (not g.hassid)) (bit g.complete) (bit g.labelled) k in
      let f : x < 256 = flags_small r h k.bit_v k.bit_t k.bit_f k.bit_s k.bit_c k.bit_m in
      let q = r.strays (g.nt * 16) x f in
      let n : g.nt * 16 % 16 ≡ 0 = omega arith in
      rw (add_assoc at 2 1, e2, e3) (q ∙ rw (n, a.none) (omega arith))

  fixed_clean : (b : Bool) → StandsAt s (at + 4) (second_part b g.behaviour) → any_set (cond b (octet_of s (at + 4) ∷ octet_of s (at + 4 + 1) ∷ []) []) ≡ false
  fixed_clean true u =
      let x : List ℕ = 0 ∷ 0 ∷ hi g.behaviour ∷ lo g.behaviour ∷ [] in
      rw (stands_first x u (omega arith), stands_octet x u 1 (omega arith))
  fixed_clean false u = refl

  -- The last four octets of the structure stand behind the bit lengths.
  stands_spare : Typed g → g.structured ≡ true → (g.structured && not g.hassid) ≡ false
      → StandsAt s (at + form.fixed + form.sid + nai_length form g.nt + 4) (0 ∷ 0 ∷ 0 ∷ 0 ∷ [])
  stands_spare h e n =
      let f : length (take 4 g.structure) ≡ 4 = length-take-le 4 g.structure (omega (arith, h.structure)) in
      rw f at (stands_right (take 4 g.structure) _ (stands_structure h e n))

  reserved_clean : (b : Bool) (p : ℕ) → (b ≡ true → StandsAt s p (0 ∷ 0 ∷ 0 ∷ 0 ∷ []))
      → (any_set (cond b (octet_of s p ∷ octet_of s (p + 1) ∷ octet_of s (p + 2) ∷ []) []) ≡ false) × (cond b (octet_of s (p + 3)) 0 ≡ 0)
  reserved_clean true p u =
      let t = u refl in
      let x : List ℕ = 0 ∷ 0 ∷ 0 ∷ 0 ∷ [] in
      (rw (stands_first x t (omega arith), stands_octet x t 1 (omega arith), stands_octet x t 2 (omega arith)), stands_octet x t 3 (omega arith))
  reserved_clean false p u = (refl, refl)

  strays_by_lem : {ero : Bool} → Typed g → Plain form ero g → strays_by form (head_of_segment form g) s at ≡ no_strays
  unfolding structure_flags reserved_octets head_of_segment
  strays_by_lem h p =
      let b = has_structure (head_of_segment form g) in
      let q = at + form.fixed + form.sid + nai_length form g.nt + 4 in
      let c = reserved_clean b q (λ e. stands_spare h (sym (there form g p.sided) ∙ e) p.sided) in
      let ef = flags_clean p in
      let es = c.1 in
      let er = any_both (cond form.behaves (octet_of s (at + 4) ∷ octet_of s (at + 4 + 1) ∷ []) []) (cond b (octet_of s q ∷ octet_of s (q + 1) ∷ octet_of s (q + 2) ∷ []) [])
      (fixed_clean form.behaves stands_second) c.0 in
      λ i. record { flags = ef i; structure = es i; reserved = er i }

  -- "Writing knows none: what is written has none."
  pub strays_back : (ero : Bool) → Typed g → Plain form ero g → strays_at form s ero at ≡ no_strays
  unfolding strays_at
  strays_back ero h p = rw (head_back ero p) (strays_by_lem h p)

  -- Every ignored bit of a segment that was written is 0: those, V in an RRO, and T where there is no SID.
  apart_of : {ero : Bool} → Plain form ero g
      → FlagsApart form (bit g.verify) (bit g.structured) (flag_f g.nt) (bit (not g.hassid)) (bit g.complete) (bit g.labelled)
  apart_of {ero} p =
      r.apart (bit g.verify) (bit g.structured) (flag_f g.nt) (bit (not g.hassid)) (bit g.complete) (bit g.labelled) (marks_of form ero g p)

  flags_octet_lem : octet_of s (at + 3)
      ≡ together form (bit g.verify) (bit g.structured) (flag_f g.nt) (bit (not g.hassid)) (bit g.complete) (bit g.labelled)
  unfolding head_of_segment flags_octet
  flags_octet_lem = stands_octet (first_part form g) stands_four 3 (omega arith)

  second_zero : (b : Bool) → StandsAt s (at + 4) (second_part b g.behaviour) → zeros (cond b (octet_of s (at + 4) ∷ octet_of s (at + 5) ∷ []) []) ≡ true
  second_zero true u =
      let x : List ℕ = 0 ∷ 0 ∷ hi g.behaviour ∷ lo g.behaviour ∷ [] in
      let e5 : octet_of s (at + 5) ≡ 0 = ap (octet_of s) (sym (add_assoc at 4 1)) ∙ stands_octet x u 1 (omega arith) in
      rw (stands_first x u (omega arith), e5)
  second_zero false u = refl

  unassigned_zero : {ero : Bool} → Plain form ero g → zeros (unassigned_at form s at) ≡ true
  unassigned_zero p =
      let low : octet_of s (at + 2) % 16 ≡ 0 = rw (stands_octet (first_part form g) stands_four 2 (omega arith)) (omega arith) in
      let high : octet_of s (at + 3) / form.free ≡ 0 = rw flags_octet_lem (apart_of p).none in
      let rest : List ℕ = cond form.behaves (octet_of s (at + 4) ∷ octet_of s (at + 5) ∷ []) [] in
      zeros_cons (octet_of s (at + 2) % 16) (octet_of s (at + 3) / form.free ∷ rest) low
      (zeros_cons (octet_of s (at + 3) / form.free) rest high (second_zero form.behaves stands_second))

  assigned_zero : (ero : Bool) → Plain form ero g → zeros (assigned_at form s ero at) ≡ true
  unfolding head_of_segment
  assigned_zero ero p = rw (head_back ero p, verified ero p.flags, unstructured g.hassid g.structured p.sided)
    where
      verified : (e : Bool) → (not e && (g.loose || g.verify)) ≡ false → cond e 0 (flag_in (octet_of s (at + 3)) form.v) ≡ 0
      verified true q = refl
      verified false q = ap (λ (x : ℕ). flag_in x form.v) flags_octet_lem ∙ (apart_of p).back_v ∙ ap bit (either_false g.loose g.verify q).1

      unstructured : (h t : Bool) → (t && not h) ≡ false → cond (eqb (bit (not h)) 0) 0 (bit t) ≡ 0
      unstructured true t q = refl
      unstructured false false q = refl
      unstructured false true q = absurd (let w : ◌≡◌ {A = ℕ} 0 1 = cc in omega arith)

  ending_zero : (ero : Bool) → Typed g → Plain form ero g → (b : Bool) → g.structured ≡ b → zeros (ending_at form s ero at) ≡ true
  unfolding head_of_segment
  ending_zero ero h p true e =
      let there_now : has_structure (head_of_segment form g) ≡ true = there form g p.sided ∙ e in
      rw (head_back ero p, there_now, stands_part (0 ∷ 0 ∷ 0 ∷ 0 ∷ []) (stands_spare h e p.sided))
  ending_zero ero h p false e =
      let there_now : has_structure (head_of_segment form g) ≡ false = there form g p.sided ∙ e in
      rw (head_back ero p, there_now)

  pub ignored_back : (ero : Bool) → Typed g → Plain form ero g → zeros (ignored_at form s ero at) ≡ true
  ignored_back ero h p =
      zeros_append (unassigned_at form s at) (assigned_at form s ero at ++ ending_at form s ero at) (unassigned_zero p)
      (zeros_append (assigned_at form s ero at) (ending_at form s ero at) (assigned_zero ero p) (ending_zero ero h p g.structured refl))
