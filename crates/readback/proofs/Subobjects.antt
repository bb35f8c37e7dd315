-- One subobject that was read: the segment that it says is fit to be written, and its octets are the same exactly if the ignored bits are 0. The head that is written is the one read but
-- for T without a SID (`again`), so what holds of one holds of the other; then both strings are split into the same parts, and each is the same exactly if its own ignored bits are 0.
use Prim.Native.Nat.{ℕ, ◌+◌, ◌-◌, ◌*◌, ◌/◌, ◌%◌, ◌≤◌, ◌<◌}
use mathlib.Core.Path.{◌≡◌, refl, sym, ◌∙◌, ap}
use mathlib.Core.Bool.{Bool, true, false, cond, not, ◌&&◌, ◌||◌}
use mathlib.Core.List.{List, [], ◌∷◌, ◌++◌}
use lib.Dec.{eqb}
use lib.ListN.{length, get_or, take, drop, replicate, take-append-drop}
use lib.Seq.{length-take-le, take_all}
use native.Mathlib.Omega.{arith}
use native.Mathlib.Nat.{add-zero, add_assoc, add-mul, suc-mul}
use borrow.Author.Tests.{eqb-true, eq-eqb, not-false}
use Rattle.octets.specs.Octets.{octet_of, be16, end16, part, over, part_of, hi, lo}
use Rattle.octets.proofs.Laws.{length_part, get_d_part, part_none}
use Rattle.forms.specs.declared.Form.{Form}
use Rattle.forms.specs.Forms.{flag_in, nai_length}
use Rattle.forms.specs.Sized.{Sized}
use Rattle.forms.proofs.Laws.{flag_most, nai_most}
use Rattle.subobject.specs.declared.head.Head.{Head}
use Rattle.subobject.specs.Layout.{sid_length, structure_there, structure_length, expected_length, kind_of, head_of, head_at}
use Rattle.subobject.specs.Rules.{rule7, rule8, rule9, malformed, rule11, flag_f, has_structure, label_at, time_at, has_label, rule29, rule30}
use Rattle.subobject.specs.Segments.{segment_by, segment_at, outline_of, head_of_segment, flags_octet, fixed_octets, structure_octets, subobject_of, bits_of, bit}
use Rattle.subobject.proofs.Unbroken.{UnbrokenAt}
use Rattle.frame.specs.Frames.{kind_at}
use Rattle.writer_fixed.specs.Small.{Bits}
use Rattle.writer_spare.specs.Typed.{Typed}
use Rattle.writer_spare.specs.Spare.{zeros, tidy_of}
use Rattle.writer_layout.specs.Readable.{Readable}
use Rattle.writer_layout.proofs.Laws.{length_fixed, four}
use Rattle.octets.proofs.Said.{either_false, cond_most}
use Rattle.writer_rules.specs.Refusals.{foreign, unfit}
use Rattle.writer_rules.proofs.Checks.{seven_written}
use Rattle.writer_rules.proofs.Laws.{Fit, size_subobject}
use Rattle.readback.specs.Ignored.{EachOctet, unassigned_at, assigned_at, ending_at, ignored_at}
use Rattle.readback.proofs.Stands.{StandsAt, zeros_are}
use Rattle.readback.proofs.Segments.{second_part}
use Rattle.readback.proofs.Reading.{bits_off, sum_back, label_part, time_part, label_off, time_off, label_sid}
use Rattle.readback.proofs.Parts.{part_add, length_part_of, take_part_of, drop_part_of, append_same, octet_small, zeros_replicate, zeros_append, zeros_split, zeros_cons, zeros_uncons}

-- What an acceptance says of a subobject.
pub record Sound (form : Form) (ero : Bool) (s : List ℕ) (at : ℕ) : Type 0 where
  pub octets : EachOctet s
  pub kind : kind_at s ero at ≡ form.kind
  pub rules : UnbrokenAt form s ero at
  pub inside : at + octet_of s (at + 1) ≤ length s

-- bits ---------------------------------------------------------------------------------------------------------

bit_is : (n : ℕ) → n ≤ 1 → bit (eqb n 1) ≡ n
bit_is ℕ.zero h = refl
bit_is (ℕ.suc ℕ.zero) h = refl
bit_is (ℕ.suc (ℕ.suc n)) h = absurd (omega arith)

bit_isnt : (n : ℕ) → n ≤ 1 → bit (not (eqb n 0)) ≡ n
bit_isnt ℕ.zero h = refl
bit_isnt (ℕ.suc ℕ.zero) h = refl
bit_isnt (ℕ.suc (ℕ.suc n)) h = absurd (omega arith)

there_again : (a b : Bool) → (a && eqb (bit (a && b)) 1) ≡ (a && b)
there_again true true = refl
there_again true false = refl
there_again false b = refl

expected_again : (form : Form) (nt s t : ℕ) → expected_length form nt s (bit (structure_there s t)) ≡ expected_length form nt s t
unfolding expected_length
expected_again form nt s t = rw (there_again (eqb s 0) (eqb t 1))

-- the head -----------------------------------------------------------------------------------------------------

bits_of_lem : (form : Form) (ero : Bool) (s : List ℕ) (at : ℕ) → EachOctet s → Bits (head_at form s ero at)
unfolding head_at head_of
bits_of_lem form ero s at o =
    let a = octet_small s o at in
    let x = octet_of s (at + 3) in
    record {
      s = flag_most x form.s;
      f = flag_most x form.f;
      t = flag_most x form.t;
      v = omega (arith, flag_most x form.v, cond_most ero (flag_in x form.v));
      l = omega (arith, cond_most ero (octet_of s at / 128));
      c = flag_most x form.c;
      m = flag_most x form.m;
    }

record Lengths (form : Form) (h : Head) : Type 0 where
  f : h.f ≡ flag_f h.nt
  size : h.size ≡ expected_length form h.nt h.s h.t
  formed : malformed h ≡ false

lengths_of : (form : Form) (h : Head) → rule7 form h ≡ false → Lengths form h
unfolding rule7
lengths_of form h e =
    let p = either_false (not (eqb h.f (flag_f h.nt))) _ e in
    let q = either_false (not (eqb h.size (expected_length form h.nt h.s h.t))) (malformed h) p.1 in
    record { f = eqb-true h.f (flag_f h.nt) (not-false _ p.0); size = eqb-true h.size _ (not-false _ q.0); formed = q.1 }

-- The head that the segment read is written with: T is 1 only where a structure is there.
abbrev again : Form → Head → Head
again form h =
    record { kind = form.kind; size = h.size; nt = h.nt; s = h.s; f = h.f; t = bit (has_structure h); v = h.v; l = h.l; c = h.c; m = h.m }

head_again : (form : Form) (h : Head) (s : List ℕ) (at : ℕ) → Bits h → Lengths form h → head_of_segment form (segment_by form h s at) ≡ again form h
unfolding head_of_segment has_structure
head_again form h s at b n =
    let es = bit_isnt h.s b.s in
    let ez : expected_length form h.nt (bit (not (eqb h.s 0))) (bit (structure_there h.s h.t)) ≡ h.size
    = rw es (expected_again form h.nt h.s h.t) ∙ sym n.size in
    let ef = sym n.f in
    let ev = bit_is h.v b.v in
    let el = bit_is h.l b.l in
    let ec = bit_is h.c b.c in
    let em = bit_is h.m b.m in
    λ i. record {
      kind = form.kind;
      size = ez i;
      nt = h.nt;
      s = es i;
      f = ef i;
      t = bit (structure_there h.s h.t);
      v = ev i;
      l = el i;
      c = ec i;
      m = em i;
    }

-- the parts ----------------------------------------------------------------------------------------------------

-- Where a structure is there, the SID is.
sid_by : (n : ℕ) (b c : Bool) → (b && c) ≡ true → cond b n 0 ≡ n
sid_by n true c e = refl
sid_by n false c e = absurd (let z : ◌≡◌ {A = ℕ} 0 1 = cc in omega arith)

never_both : (a b : Bool) → ((a && b) && not a) ≡ false
never_both true true = refl
never_both true false = refl
never_both false b = refl

-- What stands at a place is a part of the string.
pub part_stands : (s : List ℕ) (at n : ℕ) → at + n ≤ length s → StandsAt s at (part s at n)
unfolding part
part_stands s at n h =
    record {
      before = take at s;
      behind = drop n (drop at s);
      whole = sym (rw (take-append-drop n (drop at s)) (take-append-drop at s));
      place = sym (length-take-le at s (omega arith));
    }

-- A subobject that was accepted, by its numbers.
record Laid (form : Form) (s : List ℕ) (at : ℕ) (h : Head) : Type 0 where
  fixed : at + form.fixed ≤ length s
  sid : at + form.fixed + sid_length form h.s ≤ length s
  nai : at + form.fixed + sid_length form h.s + nai_length form h.nt ≤ length s
  all : at + form.fixed + sid_length form h.s + nai_length form h.nt + structure_length h.s h.t ≤ length s
  size : h.size ≡ form.fixed + sid_length form h.s + nai_length form h.nt + structure_length h.s h.t

laid_of : (form : Form) (s : List ℕ) (at : ℕ) (h : Head) → Lengths form h → at + h.size ≤ length s → Laid form s at h
unfolding expected_length
laid_of form s at h n i = let e = n.size in record { fixed = omega arith; sid = omega arith; nai = omega arith; all = omega arith; size = e }

-- Where the four bit lengths are looked for they stand.
bits_inside : (form : Form) (s : List ℕ) (at : ℕ) (h : Head) → Laid form s at h → structure_there h.s h.t ≡ true
    → at + form.fixed + form.sid + nai_length form h.nt + 8 ≤ length s
bits_inside form s at h d e =
    let k = sid_by form.sid (eqb h.s 0) (eqb h.t 1) e in
    let a = rw e at d.all in
    omega (arith, k)

-- The array of four bit lengths: as long as it must be, and 0 where no structure is there.
no_part : (s : List ℕ) (at m : ℕ) → part_of s at 0 m ≡ replicate m 0
unfolding part_of part over
no_part s at m = refl

bits_long : (s : List ℕ) (at : ℕ) (b : Bool) → (b ≡ true → at + 8 ≤ length s) → length (part_of s at (cond b 4 0) 4) ≡ 4
bits_long s at true h = let i = h refl in length_part_of s at 4 4 (omega arith) (omega arith)
bits_long s at false h = rw (no_part s at 4)

bits_zero : (s : List ℕ) (at : ℕ) (b : Bool) → (b ≡ true → at + 8 ≤ length s) → zeros (drop (cond b 4 0) (part_of s at (cond b 4 0) 4)) ≡ true
bits_zero s at true h = let i = h refl in rw (drop_part_of s at 4 4 (omega arith) (omega arith))
bits_zero s at false h = rw (no_part s at 4)

bits_whole : (s : List ℕ) (at : ℕ) → at + 4 ≤ length s → part_of s at 4 4 ≡ part s at 4
bits_whole s at h = sym (take_all 4 (part_of s at 4 4) (omega (arith, length_part_of s at 4 4 h (omega arith)))) ∙ take_part_of s at 4 4 h

-- In an RRO both flags are read as 0.
flags_off : (form : Form) (ero : Bool) (s : List ℕ) (at : ℕ) → (not ero && (eqb (head_at form s ero at).l 1 || eqb (head_at form s ero at).v 1)) ≡ false
unfolding head_at head_of
flags_off form true s at = refl
flags_off form false s at = refl

structure_again : (form : Form) (h : Head) → has_structure (again form h) ≡ has_structure h
unfolding has_structure
structure_again form h = there_again (eqb h.s 0) (eqb h.t 1)

bits_again : (form : Form) (h : Head) (sum : ℕ) → rule11 (again form h) sum ≡ rule11 h sum
unfolding rule11
bits_again form h sum = rw (structure_again form h)

-- A flag that the form has not reads as 0.
flag_off : (x w : ℕ) (b : Bool) → (eqb w 0 && (b && eqb (flag_in x w) 1)) ≡ false
unfolding flag_in
flag_off x w b = go (eqb w 0) b
  where
    go : (c b : Bool) → (c && (b && eqb (cond c 0 (x / w % 2)) 1)) ≡ false
    go true true = refl
    go true false = refl
    go false b = refl

behaviour_off : (b : Bool) (x : ℕ) → (not b && not (eqb (cond b x 0) 0)) ≡ false
behaviour_off true x = refl
behaviour_off false x = refl

four_off : (a b c d : Bool) → a ≡ false → b ≡ false → c ≡ false → d ≡ false → (a || (b || (c || d))) ≡ false
four_off a b c d ea eb ec ed = rw (ea, eb, ec, ed)

foreign_off : (form : Form) (ero : Bool) (s : List ℕ) (at : ℕ) → foreign form (outline_of (segment_at form s ero at)) ≡ false
unfolding foreign segment_at head_at head_of has_structure
foreign_off form ero s at =
    let x = octet_of s (at + 3) in
    four_off _ _ _ _ (flag_off x form.m true) (flag_off x form.c true) (flag_off x form.t (eqb (flag_in x form.s) 0))
    (behaviour_off form.behaves (be16 s (at + 6)))

-- the segment is fit to be written -----------------------------------------------------------------------------

module _ {form : Form} (z : Sized form) (r : Readable form) {ero : Bool} {s : List ℕ} {at : ℕ} (d : Sound form ero s at) where
  laid : Laid form s at (head_at form s ero at)
  unfolding head_at head_of
  laid = laid_of form s at (head_at form s ero at) (lengths_of form (head_at form s ero at) d.rules.r7) d.inside

  low : (structure_there (head_at form s ero at).s (head_at form s ero at).t ≡ true → at + form.fixed + form.sid + nai_length form (head_at form s ero at).nt + 8 ≤ length s)
  low e = bits_inside form s at (head_at form s ero at) laid e

  nt_small : (head_at form s ero at).nt < 256
  unfolding head_at head_of
  nt_small = let o = octet_small s d.octets (at + 2) in omega arith

  behaviour_small : be16 s (at + 6) < end16
  unfolding be16 octet_of
  behaviour_small = let a = octet_small s d.octets (at + 6) in let b = octet_small s d.octets (at + 6 + 1) in omega arith

  sid_fits : sid_length form (head_at form s ero at).s ≤ 16
  sid_fits = omega (arith, z.sid, cond_most (eqb (head_at form s ero at).s 0) form.sid)

  pub typed : Typed (segment_at form s ero at)
  unfolding segment_at has_structure
  typed =
      let h = head_at form s ero at in
      record {
        nt = nt_small;
        behaviour = omega (arith, behaviour_small, cond_most form.behaves (be16 s (at + 6)));
        sid = length_part_of s (at + form.fixed) (sid_length form h.s) 16 laid.sid sid_fits;
        nai = length_part_of s (at + form.fixed + sid_length form h.s) (nai_length form h.nt) 40 laid.nai (nai_most z h.nt);
        structure = bits_long s (at + form.fixed + form.sid + nai_length form h.nt) (structure_there h.s h.t) low;
      }

  head_written : head_of_segment form (segment_at form s ero at) ≡ again form (head_at form s ero at)
  unfolding segment_at
  head_written = head_again form (head_at form s ero at) s at (bits_of_lem form ero s at d.octets) (lengths_of form (head_at form s ero at) d.rules.r7)

  sid_tidy : (b : Bool) (n : ℕ) → at + form.fixed + cond b n 0 ≤ length s → cond b n 0 ≤ 16
      → zeros (drop (cond b n 0) (part_of s (at + form.fixed) (cond b n 0) 16)) ≡ true
  sid_tidy b n h k = rw (drop_part_of s (at + form.fixed) (cond b n 0) 16 h k) (zeros_replicate (16 - cond b n 0))

  nai_tidy : (p n : ℕ) → p + n ≤ length s → n ≤ 40 → zeros (drop n (part_of s p n 40)) ≡ true
  nai_tidy p n h k = rw (drop_part_of s p n 40 h k) (zeros_replicate (40 - n))

  both_yes : (a b c : Bool) → a ≡ true → b ≡ true → c ≡ true → (a && (b && c)) ≡ true
  both_yes a b c ea eb ec = rw (ea, eb, ec)

  tidy : tidy_of form (segment_at form s ero at) ≡ true
  unfolding tidy_of segment_at has_structure
  tidy =
      let h = head_at form s ero at in
      both_yes _ _ _ (sid_tidy (eqb h.s 0) form.sid laid.sid sid_fits)
      (nai_tidy (at + form.fixed + sid_length form h.s) (nai_length form h.nt) laid.nai (nai_most z h.nt))
      (bits_zero s (at + form.fixed + form.sid + nai_length form h.nt) (structure_there h.s h.t) low)

  sums : (b : Bool) → has_structure (head_at form s ero at) ≡ b → rule11 (head_at form s ero at) (bits_of (segment_at form s ero at)) ≡ false
  unfolding bits_of segment_at has_structure
  sums true e =
      let h = head_at form s ero at in
      let sp = at + form.fixed + form.sid + nai_length form h.nt in
      let i = low e in
      let l : sp + 4 ≤ length s = omega arith in
      rw e (rw (bits_whole s sp l, ← sum_back (part s sp 4) (part_stands s sp 4 l) (length_part s sp 4 l)) d.rules.r11)
  sums false e = bits_off (head_at form s ero at) (bits_of (segment_at form s ero at)) e

  sid_of : (segment_at form s ero at).sid ≡ part_of s (at + form.fixed) (sid_length form (head_at form s ero at).s) 16
  unfolding segment_at
  sid_of = refl

  long : has_label (head_at form s ero at) ≡ true → 4 ≤ sid_length form (head_at form s ero at).s
  long e = omega (arith, r.label, label_sid form (head_at form s ero at) e)

  label : (b : Bool) → has_label (head_at form s ero at) ≡ b → rule29 (head_at form s ero at) (label_at (segment_at form s ero at).sid 0) ≡ false
  label true e = ap (rule29 (head_at form s ero at)) (ap (λ (x : List ℕ). label_at x 0) sid_of ∙ label_part s (at + form.fixed) _ 16 laid.sid (long e)) ∙ d.rules.r29
  label false e = label_off (head_at form s ero at) _ e

  time : (b : Bool) → has_label (head_at form s ero at) ≡ b → rule30 (head_at form s ero at) (time_at (segment_at form s ero at).sid 0) ≡ false
  time true e = ap (rule30 (head_at form s ero at)) (ap (λ (x : List ℕ). time_at x 0) sid_of ∙ time_part s (at + form.fixed) _ 16 laid.sid (long e)) ∙ d.rules.r30
  time false e = time_off (head_at form s ero at) _ e

  known : rule8 form (head_of_segment form (segment_at form s ero at)) ≡ false
  unfolding rule8
  known = rw head_written d.rules.r8

  something : rule9 (head_of_segment form (segment_at form s ero at)) ≡ false
  unfolding rule9
  something = rw head_written d.rules.r9

  formed : malformed (head_of_segment form (segment_at form s ero at)) ≡ false
  unfolding malformed
  formed = rw head_written (lengths_of form (head_at form s ero at) d.rules.r7).formed

  five_off : (a b c e f : Bool) → a ≡ false → b ≡ false → c ≡ true → e ≡ false → f ≡ false → (a || (b || (not c || (e || f)))) ≡ false
  five_off a b c e f ea eb ec ee ef = rw (ea, eb, ec, ee, ef)

  apart_flags : ((segment_at form s ero at).structured && not (segment_at form s ero at).hassid) ≡ false
  unfolding segment_at has_structure
  apart_flags = never_both (eqb (head_at form s ero at).s 0) (eqb (head_at form s ero at).t 1)

  plain_flags : (not ero && ((segment_at form s ero at).loose || (segment_at form s ero at).verify)) ≡ false
  unfolding segment_at
  plain_flags = flags_off form ero s at

  fitting : unfit form (segment_at form s ero at) ero ≡ false
  unfolding unfit
  fitting = five_off _ _ _ _ _ apart_flags plain_flags tidy (foreign_off form ero s at) (seven_written form (segment_at form s ero at) ∙ formed)

  label_again : (x : ℕ) → rule29 (again form (head_at form s ero at)) x ≡ rule29 (head_at form s ero at) x
  unfolding rule29 has_label
  label_again x = refl

  time_again : (x : ℕ) → rule30 (again form (head_at form s ero at)) x ≡ rule30 (head_at form s ero at) x
  unfolding rule30 has_label
  time_again x = refl

  -- Adding takes the segment, but for the room.
  pub fit : Fit form ero (segment_at form s ero at)
  fit =
      let h = head_at form s ero at in
      let g = segment_at form s ero at in
      record {
        sound = record {
          r8 = known;
          r9 = something;
          r7 = seven_written form g ∙ formed;
          r11 = rw head_written (bits_again form h (bits_of g) ∙ sums (has_structure h) refl);
          r29 = rw head_written (label_again (label_at g.sid 0) ∙ label (has_label h) refl);
          r30 = rw head_written (time_again (time_at g.sid 0) ∙ time (has_label h) refl);
        };
        fit = fitting;
      }

-- octet by octet -----------------------------------------------------------------------------------------------

part_four : (s : List ℕ) (at : ℕ) → at + 4 ≤ length s → part s at 4 ≡ octet_of s at ∷ octet_of s (at + 1) ∷ octet_of s (at + 2) ∷ octet_of s (at + 3) ∷ []
unfolding octet_of
part_four s at h =
    let e0 : get_or (part s at 4) 0 0 ≡ get_or s at 0 = get_d_part s at 4 0 (omega arith) ∙ ap (λ (n : ℕ). get_or s n 0) (add-zero at) in
    let e1 = get_d_part s at 4 1 (omega arith) in
    let e2 = get_d_part s at 4 2 (omega arith) in
    let e3 = get_d_part s at 4 3 (omega arith) in
    four (part s at 4) (length_part s at 4 h) ∙ (λ i. e0 i ∷ e1 i ∷ e2 i ∷ e3 i ∷ [])

-- L and the type: nothing of the first octet is ignored.
first_octet : (kind : ℕ) (ero : Bool) (a : ℕ) → a < 256 → kind < 128 → cond ero (a % 128) a ≡ kind → cond ero (a / 128) 0 * 128 + kind ≡ a
first_octet kind true a h k e = omega arith
first_octet kind false a h k e = omega arith

-- Of V and T, what is read and what is ignored.
v_split : (ero : Bool) (v : ℕ) → cond ero v 0 + cond ero 0 v ≡ v
v_split true v = omega arith
v_split false v = omega arith

t_split : (b : Bool) (t : ℕ) → t ≤ 1 → bit (b && eqb t 1) + cond b 0 t ≡ t
t_split true t h = rw (bit_is t h) (omega arith)
t_split false t h = omega arith

-- A product is 0 where what it counts is.
times_zero : (u w x : ℕ) → 0 < w → u * w + x ≡ 0 → u ≡ 0
times_zero ℕ.zero w x h e = refl
times_zero (ℕ.suc u) w x h e = absurd (let q = suc-mul u w in omega arith)

-- The fourth octet by its flags: what is written of it is what was read, exactly if what is ignored is 0.
module _ (a u w v t iv it fv ft wv wt rest : ℕ) (hv : v + iv ≡ fv) (ht : t + it ≡ ft) (whole : u * w + (fv * wv + ft * wt + rest) ≡ a) where
  flags_same : u ≡ 0 → iv ≡ 0 → it ≡ 0 → v * wv + t * wt + rest ≡ a
  flags_same eu ev et =
      let qv : fv ≡ v = omega arith in
      let qt : ft ≡ t = omega arith in
      let q = rw (eu, qv, qt) at whole in
      omega (arith, q)

  flags_split : v * wv + t * wt + rest ≡ a → u * w + (iv * wv + it * wt) ≡ 0
  flags_split e =
      let q = rw (← hv, ← ht, add-mul v iv wv, add-mul t it wt) at whole in
      omega (arith, q)

  flags_back : 0 < w → 0 < wv → (wt ≡ 0 → ft ≡ 0) → v * wv + t * wt + rest ≡ a → (u ≡ 0) × (iv ≡ 0) × (it ≡ 0)
  flags_back hw hwv hwt e =
      let q = flags_split e in
      let qu = times_zero u w (iv * wv + it * wt) hw q in
      let qv = times_zero iv wv (u * w + it * wt) hwv (omega arith) in
      (qu, qv, go wt refl)
    where
      go : (n : ℕ) → wt ≡ n → it ≡ 0
      go ℕ.zero k = let f = hwt k in omega arith
      go (ℕ.suc n) k = times_zero it wt (u * w + iv * wv) (omega arith) (let q = flags_split e in omega arith)

-- the reserved octets and the behaviour ------------------------------------------------------------------------

module _ (s : List ℕ) (at : ℕ) (o : EachOctet s) where
  high_kept : hi (be16 s (at + 6)) ≡ octet_of s (at + 6)
  unfolding be16 octet_of
  high_kept = let a = octet_small s o (at + 6) in let b = octet_small s o (at + 6 + 1) in omega arith

  low_kept : lo (be16 s (at + 6)) ≡ octet_of s (at + 7)
  unfolding be16 octet_of
  low_kept =
      let b = octet_small s o (at + 6 + 1) in
      let e : lo (be16 s (at + 6)) ≡ get_or s (at + 6 + 1) 0 = omega arith in
      e ∙ ap (λ (n : ℕ). get_or s n 0) (add_assoc at 6 1)

  next_four : at + 8 ≤ length s → part s (at + 4) 4 ≡ octet_of s (at + 4) ∷ octet_of s (at + 5) ∷ octet_of s (at + 6) ∷ octet_of s (at + 7) ∷ []
  next_four h = part_four s (at + 4) (omega arith) ∙ rw (add_assoc at 4 1, add_assoc at 4 2, add_assoc at 4 3)

  second_same : (b : Bool) → (b ≡ true → at + 8 ≤ length s) → zeros (cond b (octet_of s (at + 4) ∷ octet_of s (at + 5) ∷ []) []) ≡ true
      → second_part b (cond b (be16 s (at + 6)) 0) ≡ part s (at + 4) (cond b 4 0)
  second_same true h e =
      let x = zeros_uncons (octet_of s (at + 4)) (octet_of s (at + 5) ∷ []) e in
      let y = zeros_uncons (octet_of s (at + 5)) [] x.1 in
      let e4 = sym x.0 in
      let e5 = sym y.0 in
      let e6 = high_kept in
      let e7 = low_kept in
      (λ i. e4 i ∷ e5 i ∷ e6 i ∷ e7 i ∷ []) ∙ sym (next_four (h refl))
  second_same false h e = sym (part_none s (at + 4))

  second_back : (b : Bool) → (b ≡ true → at + 8 ≤ length s) → second_part b (cond b (be16 s (at + 6)) 0) ≡ part s (at + 4) (cond b 4 0)
      → zeros (cond b (octet_of s (at + 4) ∷ octet_of s (at + 5) ∷ []) []) ≡ true
  second_back true h e =
      let y = e ∙ next_four (h refl) in
      zeros_cons (octet_of s (at + 4)) (octet_of s (at + 5) ∷ []) (sym (ap (λ (l : List ℕ). get_or l 0 0) y))
      (zeros_cons (octet_of s (at + 5)) [] (sym (ap (λ (l : List ℕ). get_or l 1 0) y)) refl)
  second_back false h e = refl

second_long : (b : Bool) (x : ℕ) → length (second_part b x) ≡ cond b 4 0
second_long true x = refl
second_long false x = refl

-- The octets before the SID: four, and four more where the form has them.
fixed_split : {form : Form} → Sized form → form.fixed ≡ 4 + cond form.behaves 4 0
fixed_split {form} z = z.fixed ∙ go form.behaves
  where
    go : (b : Bool) → cond b 8 4 ≡ 4 + cond b 4 0
    go true = refl
    go false = refl

-- the structure ------------------------------------------------------------------------------------------------

four_zeros : (x : List ℕ) → length x ≡ 4 → zeros x ≡ true → 0 ∷ 0 ∷ 0 ∷ 0 ∷ [] ≡ x
four_zeros x l e = sym (zeros_are x e ∙ rw l)

last_same : (s : List ℕ) (q : ℕ) (b : Bool) → (b ≡ true → q + 8 ≤ length s) → zeros (cond b (part s (q + 4) 4) []) ≡ true
    → cond b (part s q 4 ++ (0 ∷ 0 ∷ 0 ∷ 0 ∷ [])) [] ≡ part s q (cond b 8 0)
last_same s q true h e =
    let i = h refl in
    rw (four_zeros (part s (q + 4) 4) (length_part s (q + 4) 4 (omega arith)) e) (sym (part_add s q 4 4))
last_same s q false h e = sym (part_none s q)

last_back : (s : List ℕ) (q : ℕ) (b : Bool) → cond b (part s q 4 ++ (0 ∷ 0 ∷ 0 ∷ 0 ∷ [])) [] ≡ part s q (cond b 8 0)
    → zeros (cond b (part s (q + 4) 4) []) ≡ true
last_back s q true e =
    let p = append_same (part s q 4) (part s q 4) (0 ∷ 0 ∷ 0 ∷ 0 ∷ []) (part s (q + 4) 4) refl (e ∙ part_add s q 4 4) in
    rw (← p.1)
last_back s q false e = refl

-- the same octets ----------------------------------------------------------------------------------------------

-- The structure as it is written.
last_written_lem : (s : List ℕ) (q : ℕ) (b : Bool) → (b ≡ true → q + 8 ≤ length s)
    → cond b (structure_octets (part_of s q (cond b 4 0) 4)) [] ≡ cond b (part s q 4 ++ (0 ∷ 0 ∷ 0 ∷ 0 ∷ [])) []
last_written_lem s q true h = let i = h refl in rw (take_part_of s q 4 4 (omega arith))
last_written_lem s q false h = refl

-- The structure's place is right behind the NAI where it is there.
place_same : (s : List ℕ) (p k w n : ℕ) (b : Bool) → (b ≡ true → k ≡ w) → part s (p + k + n) (cond b 8 0) ≡ part s (p + w + n) (cond b 8 0)
place_same s p k w n true h = rw (h refl)
place_same s p k w n false h = part_none s (p + k + n) ∙ sym (part_none s (p + w + n))

module _ {form : Form} (z : Sized form) (r : Readable form) {ero : Bool} {s : List ℕ} {at : ℕ} (d : Sound form ero s at) where
  reach : has_structure (head_at form s ero at) ≡ true → at + form.fixed + form.sid + nai_length form (head_at form s ero at).nt + 8 ≤ length s
  unfolding has_structure
  reach e = low z r d e

  full : has_structure (head_at form s ero at) ≡ true → sid_length form (head_at form s ero at).s ≡ form.sid
  unfolding has_structure
  full e = sid_by form.sid (eqb (head_at form s ero at).s 0) (eqb (head_at form s ero at).t 1) e

  -- the structure, written and read
  abbrev last_written : List ℕ
  last_written =
      cond (has_structure (head_at form s ero at)) (part s (at + form.fixed + form.sid + nai_length form (head_at form s ero at).nt) 4 ++ (0 ∷ 0 ∷ 0 ∷ 0 ∷ [])) []

  abbrev last_read : List ℕ
  last_read = part s (at + form.fixed + form.sid + nai_length form (head_at form s ero at).nt) (cond (has_structure (head_at form s ero at)) 8 0)

  -- the octets before the SID, written and read
  abbrev behaviour : ℕ
  behaviour = cond form.behaves (be16 s (at + 6)) 0

  abbrev fixed_written : List ℕ
  fixed_written = fixed_octets form (again form (head_at form s ero at)) behaviour

  written_octets : (let h = head_at form s ero at in subobject_of form (segment_at form s ero at)
      ≡ fixed_written
      ++ (part s (at + form.fixed) (sid_length form h.s) ++ (part s (at + form.fixed + sid_length form h.s) (nai_length form h.nt) ++ last_written)))
  unfolding subobject_of segment_at
  written_octets =
      let h = head_at form s ero at in
      rw (
        head_written z r d,
        structure_again form h,
        take_part_of s (at + form.fixed) (sid_length form h.s) 16 (laid z r d).sid,
        take_part_of s (at + form.fixed + sid_length form h.s) (nai_length form h.nt) 40 (laid z r d).nai,
        last_written_lem s (at + form.fixed + form.sid + nai_length form h.nt) (has_structure h) reach,
      )

  pub size_read : (head_at form s ero at).size ≡ octet_of s (at + 1)
  unfolding head_at head_of
  size_read = refl

  read_octets : (let h = head_at form s ero at in part s at (octet_of s (at + 1))
      ≡ part s at form.fixed
      ++ (part s (at + form.fixed) (sid_length form h.s) ++ (part s (at + form.fixed + sid_length form h.s) (nai_length form h.nt) ++ last_read)))
  unfolding has_structure
  read_octets =
      let h = head_at form s ero at in
      let f = form.fixed in
      let k = sid_length form h.s in
      let n = nai_length form h.nt in
      let m = structure_length h.s h.t in
      let y = (laid z r d).size in
      let o = size_read in
      let e : octet_of s (at + 1) ≡ f + (k + (n + m)) = omega arith in
      let p = place_same s (at + f) k form.sid n (structure_there h.s h.t) full in
      rw (e, part_add s at f (k + (n + m)), part_add s (at + f) k (n + m), part_add s (at + f + k) n m, p)

  pub length_written : length (subobject_of form (segment_at form s ero at)) ≡ octet_of s (at + 1)
  length_written = sym (size_subobject z (segment_at form s ero at) (typed z r d)) ∙ ap (λ (h : Head). h.size) (head_written z r d) ∙ size_read

  -- the first four octets, by the ignored bits in them
  abbrev flags : ℕ
  flags = octet_of s (at + 3)

  abbrev ignored_v : ℕ
  ignored_v = cond ero 0 (flag_in flags form.v)

  abbrev ignored_t : ℕ
  ignored_t = cond (eqb (head_at form s ero at).s 0) 0 (head_at form s ero at).t

  first_kept : (head_at form s ero at).l * 128 + form.kind ≡ octet_of s at
  unfolding head_at head_of kind_of
  first_kept = first_octet form.kind ero (octet_of s at) (octet_small s d.octets at) r.kind d.kind

  v_kept : (head_at form s ero at).v + ignored_v ≡ flag_in flags form.v
  unfolding head_at head_of
  v_kept = v_split ero (flag_in flags form.v)

  t_kept : bit (has_structure (head_at form s ero at)) + ignored_t ≡ flag_in flags form.t
  unfolding has_structure head_at head_of
  t_kept = t_split (eqb (flag_in flags form.s) 0) (flag_in flags form.t) (flag_most flags form.t)

  abbrev others : ℕ
  others = flag_in flags form.f * form.f + flag_in flags form.s * form.s + flag_in flags form.c * form.c + flag_in flags form.m * form.m

  whole_sum : (a b c x e f g : ℕ) → a + (b + c + x + e + f + g) ≡ flags → a + (b + c + (x + e + f + g)) ≡ flags
  whole_sum a b c x e f g h = omega arith

  whole : flags / form.free * form.free + (flag_in flags form.v * form.v + flag_in flags form.t * form.t + others) ≡ flags
  whole = whole_sum _ _ _ _ _ _ _ (r.whole flags (octet_small s d.octets (at + 3)))

  written_sum : (b c x e f g : ℕ) → b + c + x + e + f + g ≡ b + c + (x + e + f + g)
  written_sum b c x e f g = omega arith

  flags_written : flags_octet form (again form (head_at form s ero at))
      ≡ (head_at form s ero at).v * form.v + bit (has_structure (head_at form s ero at)) * form.t + others
  unfolding flags_octet head_at head_of
  flags_written = written_sum _ _ _ _ _ _

  nt_same : octet_of s (at + 2) % 16 ≡ 0 → (head_at form s ero at).nt * 16 ≡ octet_of s (at + 2)
  unfolding head_at head_of
  nt_same e = omega arith

  nt_back : (head_at form s ero at).nt * 16 ≡ octet_of s (at + 2) → octet_of s (at + 2) % 16 ≡ 0
  unfolding head_at head_of
  nt_back e = omega arith

  four_same : flags / form.free ≡ 0 → ignored_v ≡ 0 → ignored_t ≡ 0 → flags_octet form (again form (head_at form s ero at)) ≡ flags
  four_same u v t =
      flags_written
      ∙ flags_same flags (flags / form.free) form.free (head_at form s ero at).v (bit (has_structure (head_at form s ero at))) ignored_v ignored_t
      (flag_in flags form.v) (flag_in flags form.t) form.v form.t others v_kept t_kept whole u v t

  no_flag : (w : ℕ) → w ≡ 0 → flag_in flags w ≡ 0
  unfolding flag_in
  no_flag w e = rw (eq-eqb w 0 e)

  four_back : flags_octet form (again form (head_at form s ero at)) ≡ flags → (flags / form.free ≡ 0) × (ignored_v ≡ 0) × (ignored_t ≡ 0)
  four_back e =
      flags_back flags (flags / form.free) form.free (head_at form s ero at).v (bit (has_structure (head_at form s ero at))) ignored_v ignored_t
      (flag_in flags form.v) (flag_in flags form.t) form.v form.t others v_kept t_kept whole z.free r.v (no_flag form.t)
      (sym flags_written ∙ e)

  inside_four : at + 4 ≤ length s
  inside_four = omega (arith, (laid z r d).fixed, fixed_split z)

  inside_eight : form.behaves ≡ true → at + 8 ≤ length s
  inside_eight e = let q : form.fixed ≡ 8 = z.fixed ∙ ap (λ (b : Bool). cond {A = ℕ} b 8 4) e in omega (arith, (laid z r d).fixed)

  abbrev first_written : List ℕ
  first_written =
      ((head_at form s ero at).l * 128 + form.kind)
      ∷ (head_at form s ero at).size
      ∷ ((head_at form s ero at).nt * 16)
      ∷ flags_octet form (again form (head_at form s ero at))
      ∷ []

  fixed_written_lem : fixed_written ≡ first_written ++ second_part form.behaves behaviour
  unfolding fixed_octets
  fixed_written_lem = refl

  fixed_read : part s at form.fixed ≡ part s at 4 ++ part s (at + 4) (cond form.behaves 4 0)
  fixed_read = ap (part s at) (fixed_split z) ∙ part_add s at 4 (cond form.behaves 4 0)

  first_same : octet_of s (at + 2) % 16 ≡ 0 → flags / form.free ≡ 0 → ignored_v ≡ 0 → ignored_t ≡ 0 → first_written ≡ part s at 4
  first_same n u v t =
      let e0 = first_kept in
      let e1 = size_read in
      let e2 = nt_same n in
      let e3 = four_same u v t in
      (λ i. e0 i ∷ e1 i ∷ e2 i ∷ e3 i ∷ []) ∙ sym (part_four s at inside_four)

  -- The segment's octets are those that were read, if the ignored bits are 0,
  pub same_octets : zeros (ignored_at form s ero at) ≡ true → subobject_of form (segment_at form s ero at) ≡ part s at (octet_of s (at + 1))
  same_octets e =
      let u = zeros_split (unassigned_at form s at) (assigned_at form s ero at ++ ending_at form s ero at) e in
      let a = zeros_split (assigned_at form s ero at) (ending_at form s ero at) u.1 in
      let reserved : List ℕ = cond form.behaves (octet_of s (at + 4) ∷ octet_of s (at + 5) ∷ []) [] in
      let u0 = zeros_uncons (octet_of s (at + 2) % 16) ((flags / form.free) ∷ reserved) u.0 in
      let u1 = zeros_uncons (flags / form.free) reserved u0.1 in
      let a0 = zeros_uncons ignored_v (ignored_t ∷ []) a.0 in
      let a1 = zeros_uncons ignored_t [] a0.1 in
      let f = first_same u0.0 u1.0 a0.0 a1.0 in
      let g = second_same s at d.octets form.behaves inside_eight u1.1 in
      let w : fixed_written ≡ part s at form.fixed = fixed_written_lem ∙ (λ i. f i ++ g i) ∙ sym fixed_read in
      let l = last_same s (at + form.fixed + form.sid + nai_length form (head_at form s ero at).nt) (has_structure (head_at form s ero at)) reach a.1 in
      written_octets ∙ rw (w, l) (sym read_octets)

  -- and only if they are.
  pub ignored_zero : subobject_of form (segment_at form s ero at) ≡ part s at (octet_of s (at + 1)) → zeros (ignored_at form s ero at) ≡ true
  ignored_zero e =
      let h = head_at form s ero at in
      let k = part s (at + form.fixed) (sid_length form h.s) in
      let n = part s (at + form.fixed + sid_length form h.s) (nai_length form h.nt) in
      let x = sym written_octets ∙ e ∙ read_octets in
      let p = append_same fixed_written (part s at form.fixed) (k ++ (n ++ last_written)) (k ++ (n ++ last_read))
      (length_fixed z (again form h) behaviour ∙ sym (length_part s at form.fixed (laid z r d).fixed)) x in
      let q = append_same k k (n ++ last_written) (n ++ last_read) refl p.1 in
      let t = append_same n n last_written last_read refl q.1 in
      let y = append_same first_written (part s at 4) (second_part form.behaves behaviour) (part s (at + 4) (cond form.behaves 4 0))
      (sym (length_part s at 4 inside_four)) (sym fixed_written_lem ∙ p.0 ∙ fixed_read) in
      let a = y.0 ∙ part_four s at inside_four in
      let f = four_back (ap (λ (l : List ℕ). get_or l 3 0) a) in
      let g = second_back s at d.octets form.behaves inside_eight y.1 in
      let reserved : List ℕ = cond form.behaves (octet_of s (at + 4) ∷ octet_of s (at + 5) ∷ []) [] in
      zeros_append (unassigned_at form s at) (assigned_at form s ero at ++ ending_at form s ero at)
      (zeros_cons (octet_of s (at + 2) % 16) ((flags / form.free) ∷ reserved) (nt_back (ap (λ (l : List ℕ). get_or l 2 0) a))
      (zeros_cons (flags / form.free) reserved f.0 g))
      (zeros_append (assigned_at form s ero at) (ending_at form s ero at) (zeros_cons ignored_v (ignored_t ∷ []) f.1 (zeros_cons ignored_t [] f.2 refl))
      (last_back s (at + form.fixed + form.sid + nai_length form h.nt) (has_structure h) t.1))
