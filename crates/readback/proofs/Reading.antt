-- The first theorem: what was written is read back. The body splits at the lengths that its second octets say (`body_chain`), each subobject stands at its place and reads as its segment
-- (`reads`, from Segments), and so no check of the whole object finds anything (`checks_all`); which object that is, Images says.
use Rattle.std.specs.Prelude.{None as unlimited}
use Prim.Native.Nat.{ℕ, suc, ◌+◌, ◌-◌, ◌%◌, ◌≤◌, ◌<◌}
use mathlib.Core.Path.{◌≡◌, refl, sym, ◌∙◌, ap}
use mathlib.Core.Bool.{Bool, true, false, cond, not, ◌&&◌}
use mathlib.Core.List.{List, [], ◌∷◌, ◌++◌, append_assoc, append-nil}
use lib.Dec.{eqb}
use lib.Seq.{get_or-take, length-take-le}
use lib.ListN.{length, get_or, take, drop, replicate, length-append, get_or-append}
use native.Mathlib.Nat.{add-zero}
use native.Mathlib.Omega.{arith}
use borrow.Author.Tests.{eq-eqb, ne_eqb, eqb-true, eqb-false, not-false, lt-ltb}
use Rattle.octets.specs.Octets.{octet_of, be16, part, over, part_of}
use Rattle.octets.proofs.Laws.{length_part, get_d_part}
use Rattle.octets.proofs.Said.{both_true, and_false, and_no, cases}
use Rattle.answers.specs.Verdicts.{accepted_with, carrying_both}
use Rattle.forms.specs.declared.Form.{Form}
use Rattle.forms.specs.Forms.{srv6_form, mpls_form, form_of}
use Rattle.forms.specs.Sized.{Sized}
use Rattle.session.specs.declared.Session.{Session}
use Rattle.subobject.specs.declared.head.Head.{Head}
use Rattle.subobject.specs.declared.segment.Segment.{Segment}
use Rattle.subobject.specs.Layout.{sid_length, structure_there, head_of, head_at}
use Rattle.subobject.specs.Rules.{rule10, rule11, has_structure, sum_at, bits_at, label_at, time_at, has_label, rule29, rule30}
use Rattle.subobject.specs.Segments.{segment_at, no_segment, head_of_segment, subobject_of, bits_of}
use Rattle.subobject.proofs.Unbroken.{UnbrokenBy}
use Rattle.subobject_strays.specs.Strays.{strays_at, no_strays, stray_in}
use Rattle.frame.specs.Checks.{check}
use Rattle.frame.specs.Frames.{headed, fits_in, Apart, apart_of, places_of, kind_at, any_is, rule4, rule5, rule14}
use Rattle.frame.specs.Fills.{FillsFrom, stop, link}
use Rattle.frame.proofs.Fills.{fills_whole}
use Rattle.frame.proofs.Checks.{None, none_first, none_append, unbroken_none}
use Rattle.frame.proofs.Laws.{fits_made}
use Rattle.frame.proofs.OneKind.{AllKind, kind_present, kinds_unmixed, kinds_present}
use Rattle.frame.proofs.OneKind.AllKind.{none as kind-none, next as kind-next}
use Rattle.frame_rules.proofs.Laws.{headed_last}
use Rattle.route_walk.specs.Walk.{checks_at, subobject_checks}
use Rattle.route.specs.Routes.{rule12, rule13, rule15, whole_checks, last_checks, checks_of, count_of, stray_count, acceptance_of, judge_as, pick_of, segment_as, judge_of, segment_of}
use Rattle.route.proofs.Answer.{accepted_none}
use Rattle.route.proofs.Strays.{none_stray, refused_unstray}
use Rattle.writer_spare.specs.Typed.{Typed}
use Rattle.writer_spare.specs.Spare.{zeros}
use Rattle.writer_layout.specs.Readable.{Readable}
use Rattle.writer_layout.proofs.Laws.{length_subobject}
use Rattle.forms.proofs.Laws.{sized_by}
use Rattle.writer_layout.proofs.Forms.{readable_by}
use Rattle.writer_state.specs.declared.Writer.{Writer}
use Rattle.writer_rules.specs.Refusals.{most_octets}
use Rattle.writer_rules.proofs.Laws.{Fit, size_subobject}
use Rattle.writer_begin_finish.specs.Ends.{header_of}
use Rattle.readback.specs.Runs.{write_run, Accepted, object_in, written_body, object_of, AllTyped, open_session}
use Rattle.readback.specs.Runs.AllTyped.{more}
use Rattle.readback.specs.Ignored.{ignored_at, ignored_in, ignored_of}
use Rattle.readback.proofs.Parts.{zeros_append, zeros_cons}
use Rattle.readback.proofs.Images.AllFit.{also}
use Rattle.readback.proofs.Images.{AllFit, Image, image, length_object}
use Rattle.readback.proofs.Stands.{StandsAt, stands_octet, stands_first}
use Rattle.readback.proofs.Segments.{plain, there, stands_four, stands_sid, stands_bits, head_back, segment_back, strays_back, ignored_back}

-- the octets of a segment --------------------------------------------------------------------------------------

fours : (b : Bool) (n : ℕ) → n % 4 ≡ 0 → cond b n 0 % 4 ≡ 0
fours b n e = cases (λ (x : ℕ). x % 4 ≡ 0) b n 0 (λ t. e) (λ t. refl)

fixed_fours : {form : Form} → Sized form → (4 ≤ form.fixed) × (form.fixed % 4 ≡ 0)
fixed_fours {form} z = go form.behaves form.fixed z.fixed
  where
    go : (b : Bool) (n : ℕ) → n ≡ cond b 8 4 → (4 ≤ n) × (n % 4 ≡ 0)
    go true n e = (omega arith, omega arith)
    go false n e = (omega arith, omega arith)

pub sub_fours : {form : Form} → Sized form → Readable form → (g : Segment) → Typed g → (4 ≤ length (subobject_of form g)) × (length (subobject_of form g) % 4 ≡ 0)
sub_fours {form} z r g h =
    let e = length_subobject z g h in
    let f = fixed_fours z in
    let a = fours (eqb (head_of_segment form g).s 0) form.sid r.sid in
    let b = r.nai g.nt in
    let c = fours (structure_there (head_of_segment form g).s (head_of_segment form g).t) 8 refl in
    (omega (arith, f.0), omega (arith, f.1))

-- where segments stand -----------------------------------------------------------------------------------------

abbrev places_from : Form → ℕ → List Segment → List ℕ
places_from form at [] = []
places_from form at (g ∷ gs) = at ∷ places_from form (at + length (subobject_of form g)) gs

next_stands : (form : Form) (p : List ℕ) (g : Segment) (gs : List Segment) → StandsAt (p ++ (subobject_of form g ++ written_body form gs)) (length p) (subobject_of form g)
next_stands form p g gs = record { before = p; behind = written_body form gs; whole = refl; place = refl }

size_at : {form : Form} → Sized form → Readable form → (p : List ℕ) (g : Segment) (gs : List Segment) → Typed g
    → octet_of (p ++ (subobject_of form g ++ written_body form gs)) (length p + 1) ≡ length (subobject_of form g)
size_at {form} z r p g gs h = stands_octet _ (stands_four z r g (next_stands form p g gs)) 1 (omega arith) ∙ size_subobject z g h

body_chain : {form : Form} → Sized form → Readable form → (gs : List Segment) (p : List ℕ) → AllTyped gs
    → FillsFrom (p ++ written_body form gs) (length p) (places_from form (length p) gs)
body_chain z r [] p h = let e : length p ≡ length (p ++ []) = ap length (sym (append-nil p)) in stop e
body_chain {form} z r (g ∷ gs) p (more hg h) =
    let x = subobject_of form g in
    let s = p ++ (x ++ written_body form gs) in
    let y = sub_fours z r g hg in
    let l : length s ≡ length p + (length x + length (written_body form gs)) = omega (arith, length-append p (x ++ written_body form gs), length-append x (written_body form gs)) in
    let e = size_at z r p g gs hg in
    let o : fits_in (octet_of s (length p + 1)) (length s - length p) ≡ true = rw e (fits_made (length x) (length s - length p) y.0 y.1 (omega arith)) in
    let c : FillsFrom s (length p + length x) (places_from form (length p + length x) gs) = simp (append_assoc, length-append) at (body_chain z r gs (p ++ x) h) in
    let t : FillsFrom s (length p + octet_of s (length p + 1)) (places_from form (length p + length x) gs) = rw e c in
    link (λ (q : length p ≡ length s). omega arith) o t

-- labels -------------------------------------------------------------------------------------------------------

-- An octet of an array that holds a part.
octet_part : (s : List ℕ) (at n m i : ℕ) → at + n ≤ length s → i < n → octet_of (part_of s at n m) i ≡ octet_of s (at + i)
unfolding octet_of part_of over
octet_part s at n m i h k =
    get_or-append (part s at n) (drop (length (part s at n)) (replicate m 0)) 0 i (omega (arith, length_part s at n h)) ∙ get_d_part s at n i k

-- A label stack entry in such an array is the one in the octets.
module _ (s : List ℕ) (at n m : ℕ) (inside : at + n ≤ length s) (long : 4 ≤ n) where
  pub label_part : label_at (part_of s at n m) 0 ≡ label_at s at
  unfolding label_at
  label_part =
      let e0 = octet_part s at n m 0 inside (omega arith) ∙ ap (octet_of s) (add-zero at) in
      let e1 = octet_part s at n m 1 inside (omega arith) in
      let e2 = octet_part s at n m 2 inside (omega arith) in
      rw (e0, e1, e2)

  pub time_part : time_at (part_of s at n m) 0 ≡ time_at s at
  unfolding time_at
  time_part = octet_part s at n m 3 inside (omega arith)

-- Where no label is there, nothing is asked of it.
pub label_off : (h : Head) (x : ℕ) → has_label h ≡ false → rule29 h x ≡ false
unfolding rule29
label_off h x e = rw e

pub time_off : (h : Head) (x : ℕ) → has_label h ≡ false → rule30 h x ≡ false
unfolding rule30
time_off h x e = rw e

-- Where one is there, the SID is.
pub label_sid : (form : Form) (h : Head) → has_label h ≡ true → sid_length form h.s ≡ form.sid
unfolding has_label
label_sid form h e = ap (λ (b : Bool). cond {A = ℕ} b form.sid 0) (both_true (eqb h.s 0) (eqb h.m 1) e).0

-- The first octets of a SID that stands.
module _ {s : List ℕ} {at : ℕ} (x : List ℕ) (n : ℕ) (t : StandsAt s at (take n x)) (l : length (take n x) ≡ n) (long : 4 ≤ n) where
  first_octet : octet_of s at ≡ octet_of x 0
  unfolding octet_of
  first_octet = stands_first (take n x) t (omega arith) ∙ get_or-take n x 0 0 (omega arith)

  next_octet : (i : ℕ) → i < 4 → octet_of s (at + i) ≡ octet_of x i
  unfolding octet_of
  next_octet i h = stands_octet (take n x) t i (omega arith) ∙ get_or-take n x i 0 (omega arith)

  label_stands : label_at s at ≡ label_at x 0
  unfolding label_at
  label_stands = rw (first_octet, next_octet 1 (omega arith), next_octet 2 (omega arith))

  time_stands : time_at s at ≡ time_at x 0
  unfolding time_at
  time_stands = next_octet 3 (omega arith)

-- what stands at a place is what was written -------------------------------------------------------------------

pub record Reads (form : Form) (ero : Bool) (s : List ℕ) (at : ℕ) (g : Segment) : Type 0 where
  pub head : head_at form s ero at ≡ head_of_segment form g
  pub segment : segment_at form s ero at ≡ g
  pub sound : UnbrokenBy form (head_of_segment form g) s at
  pub strays : strays_at form s ero at ≡ no_strays
  pub ignored : zeros (ignored_at form s ero at) ≡ true

-- Where no structure is there, nothing is summed.
pub bits_off : (h : Head) (sum : ℕ) → has_structure h ≡ false → rule11 h sum ≡ false
unfolding rule11
bits_off h sum e = rw e

pub sum_back : {s : List ℕ} {at : ℕ} (x : List ℕ) → StandsAt s at x → length x ≡ 4 → sum_at s at ≡ sum_at x 0
unfolding sum_at octet_of
sum_back {s} {at} x t l =
    let e0 = stands_first x t (omega arith) in
    let e1 = stands_octet x t 1 (omega arith) in
    let e2 = stands_octet x t 2 (omega arith) in
    let e3 = stands_octet x t 3 (omega arith) in
    rw (e0, e1, e2, e3)

module _ {form : Form} (z : Sized form) (r : Readable form) {s : List ℕ} {at : ℕ} (g : Segment) (t : StandsAt s at (subobject_of form g)) (h : Typed g) where
  bits_back : (g.structured && not g.hassid) ≡ false → rule11 (head_of_segment form g) (bits_of g) ≡ false → (b : Bool) → g.structured ≡ b
      → rule11 (head_of_segment form g) (bits_at form (head_of_segment form g) s at) ≡ false
  unfolding bits_of head_of_segment
  bits_back n e true q = rw (sum_back g.structure (stands_bits z r g t h q n) h.structure) e
  bits_back n e false q = bits_off (head_of_segment form g) (bits_at form (head_of_segment form g) s at) (there form g n ∙ q)

  sid_stands : has_label (head_of_segment form g) ≡ true → StandsAt s (at + form.fixed) (take form.sid g.sid)
  sid_stands e = rw (label_sid form (head_of_segment form g) e) at (stands_sid z r g t)

  sid_long : length (take form.sid g.sid) ≡ form.sid
  sid_long = length-take-le form.sid g.sid (omega (arith, z.sid, h.sid))

  label_back : rule29 (head_of_segment form g) (label_at g.sid 0) ≡ false → (b : Bool) → has_label (head_of_segment form g) ≡ b
      → rule29 (head_of_segment form g) (label_at s (at + form.fixed)) ≡ false
  label_back e true q = rw (label_stands g.sid form.sid (sid_stands q) sid_long r.label) e
  label_back e false q = label_off (head_of_segment form g) _ q

  time_back : rule30 (head_of_segment form g) (time_at g.sid 0) ≡ false → (b : Bool) → has_label (head_of_segment form g) ≡ b
      → rule30 (head_of_segment form g) (time_at s (at + form.fixed)) ≡ false
  time_back e true q = rw (time_stands g.sid form.sid (sid_stands q) sid_long r.label) e
  time_back e false q = time_off (head_of_segment form g) _ q

  pub reads : (ero : Bool) → Fit form ero g → Reads form ero s at g
  reads ero f =
      let p = plain form ero g f.fit in
      record {
        head = head_back z r g t ero p;
        segment = segment_back z r g t ero h p;
        sound = record {
          r8 = f.sound.r8;
          r9 = f.sound.r9;
          r7 = f.sound.r7;
          r11 = bits_back p.sided f.sound.r11 g.structured refl;
          r29 = label_back f.sound.r29 (has_label (head_of_segment form g)) refl;
          r30 = time_back f.sound.r30 (has_label (head_of_segment form g)) refl;
        };
        strays = strays_back z r g t ero h p;
        ignored = ignored_back z r g t ero h p;
      }

pub data AllRead (form : Form) (ero : Bool) (s : List ℕ) : List ℕ → List Segment → Type 0 where
  none : AllRead form ero s [] []
  next : {p : ℕ} {ps : List ℕ} {g : Segment} {gs : List Segment} → Reads form ero s p g → AllRead form ero s ps gs → AllRead form ero s (p ∷ ps) (g ∷ gs)

all_read : {form : Form} → Sized form → Readable form → (ero : Bool) (gs : List Segment) (p : List ℕ) → AllTyped gs → AllFit form ero gs
    → AllRead form ero (p ++ written_body form gs) (places_from form (length p) gs) gs
all_read z r ero [] p h f = none
all_read {form} z r ero (g ∷ gs) p (more hg h) (also fg f) =
    let ih = all_read z r ero gs (p ++ subobject_of form g) h f in
    let ih' : AllRead form ero (p ++ (subobject_of form g ++ written_body form gs)) (places_from form (length p + length (subobject_of form g)) gs) gs
    = rw (append_assoc p (subobject_of form g) (written_body form gs), length-append p (subobject_of form g)) at ih in
    next (reads z r g (next_stands form p g gs) hg ero fg) ih'

-- no rule is broken --------------------------------------------------------------------------------------------

rule10_off : (ero : Bool) (h : Head) → rule10 h ero true ≡ false
unfolding rule10
rule10_off ero h = and_no ero _ (and_false (eqb h.s 1))

module _ {form : Form} {ero : Bool} {s : List ℕ} where
  kind_read : {p : ℕ} {g : Segment} → Reads form ero s p g → kind_at s ero p ≡ form.kind
  unfolding head_at head_of head_of_segment
  kind_read r = ap (λ (h : Head). h.kind) r.head

  kinds_read : {ps : List ℕ} {gs : List Segment} → AllRead form ero s ps gs → AllKind (kind_at s ero) form.kind ps
  kinds_read none = kind-none
  kinds_read (next r a) = kind-next (kind_read r) (kinds_read a)

  checks_none : {p : ℕ} {g : Segment} → Reads form ero s p g → None (checks_at form s ero true p)
  checks_none {p} {g} r =
      rw r.head (unbroken_none s ero true p r.sound (rule10_off ero (head_of_segment form g)))

  subobjects_none : {ps : List ℕ} {gs : List Segment} → AllRead form ero s ps gs → None (subobject_checks form s ero true ps)
  subobjects_none none = tt
  subobjects_none (next {p} {ps} r a) =
      none_append (checks_at form s ero true p) (subobject_checks form s ero true ps) (checks_none r) (subobjects_none a)

  read_length : {ps : List ℕ} {gs : List Segment} → AllRead form ero s ps gs → length ps ≡ length gs
  read_length none = refl
  read_length (next r a) = ap suc (read_length a)

  clean_there : {ps : List ℕ} {gs : List Segment} → AllRead form ero s ps gs → (i : ℕ) → i < length gs → strays_at form s ero (get_or ps i 0) ≡ no_strays
  clean_there none i h = absurd (omega arith)
  clean_there (next r a) ℕ.zero h = r.strays
  clean_there (next r a) (ℕ.suc i) h = clean_there a i (omega arith)

  ignored_all : {ps : List ℕ} {gs : List Segment} → AllRead form ero s ps gs → zeros (ignored_in form s ero ps) ≡ true
  ignored_all none = refl
  ignored_all (next {p} {ps} r a) = zeros_append (ignored_at form s ero p) (ignored_in form s ero ps) r.ignored (ignored_all a)

  clean_all : {ps : List ℕ} {gs : List Segment} → AllRead form ero s ps gs → stray_in form s ero ps ≡ 0
  clean_all none = refl
  clean_all (next r a) = rw (r.strays, clean_all a)

  read_there : {ps : List ℕ} {gs : List Segment} → AllRead form ero s ps gs → (i : ℕ) → i < length gs → segment_at form s ero (get_or ps i 0) ≡ get_or gs i no_segment
  read_there none i h = absurd (omega arith)
  read_there (next r a) ℕ.zero h = r.segment
  read_there (next r a) (ℕ.suc i) h = read_there a i (omega arith)

rule12_off : (ero : Bool) (count : ℕ) → rule12 ero unlimited count ≡ false
unfolding rule12
rule12_off true count = refl
rule12_off false count = refl

-- An object whose frame is whole and whose subobjects read as segments.
module _ (form : Form) (s : List ℕ) (ero : Bool) (ps : List ℕ) (gs : List Segment) (hd : headed s ero ≡ true) (q : apart_of s ≡ record { whole = true; places = ps })
    (a : AllRead form ero s ps gs) (some : length gs ≡ 0 → ⊥) where
  filled : (apart_of s).whole ≡ true
  filled = λ i. (q i).whole

  stand : places_of s ≡ ps
  stand = λ i. (q i).places

  whole_none : None (whole_checks form s ero open_session form.setup)
  unfolding rule4 rule5 rule13
  whole_none =
      let kinds : AllKind (kind_at s ero) form.kind (places_of s) = rw stand (kinds_read a) in
      let r4 : rule4 s ero ≡ false = rw (hd, filled) in
      let r5 : rule5 s ≡ false = rw stand (ne_eqb (length ps) 0 (λ z. some (sym (read_length a) ∙ z))) in
      let n : length (places_of s) ≡ 0 → ⊥ = λ z. some (sym (rw stand (read_length a)) ∙ z) in
      let r6 = kinds_unmixed s ero kinds in
      let r13 : rule13 form true form.setup ≡ false = rw (eq-eqb form.setup form.setup refl) in
      let r14 = kinds_present s ero kinds (omega (arith, n)) in
      (r4, (r5, (r6, (r14, (r13, tt)))))

  last_none : None (last_checks (places_of s) ero unlimited (length (places_of s)))
  last_none = (rule12_off ero (length (places_of s)), tt)

  inside_none : None (subobject_checks form s ero true (places_of s))
  inside_none = rw stand (subobjects_none a)

  checks_all : None (checks_of form s ero open_session form.setup)
  checks_all =
      none_append (whole_checks form s ero open_session form.setup) (subobject_checks form s ero true (places_of s) ++ last_checks (places_of s) ero unlimited (length (places_of s)))
      whole_none
      (none_append (subobject_checks form s ero true (places_of s)) (last_checks (places_of s) ero unlimited (length (places_of s))) inside_none last_none)

  count_read : count_of s ≡ length gs
  count_read = rw stand (read_length a)

  pub unstray : stray_count form s ero ≡ 0
  unstray = rw stand (clean_all a)

  accepting : acceptance_of form s ero ≡ accepted_with (length gs)
  accepting =
      let c = count_read in
      let z = unstray in
      λ i. carrying_both (c i) (z i)

  pub judged : judge_as form s ero open_session form.setup ≡ accepted_with (length gs)
  unfolding judge_as
  judged = none_first (checks_of form s ero open_session form.setup) (acceptance_of form s ero) checks_all ∙ accepting

  picked : (i : ℕ) → i < length gs → pick_of form s ero open_session form.setup i ≡ accepted_with (length gs)
  unfolding pick_of rule15
  picked i h =
      let r15 : rule15 i (count_of s) ≡ false = rw (count_read, lt-ltb i (length gs) h) in
      none_first (checks_of form s ero open_session form.setup ++ (check 15 0 (rule15 i (count_of s)) ∷ [])) (acceptance_of form s ero)
      (none_append (checks_of form s ero open_session form.setup) (check 15 0 (rule15 i (count_of s)) ∷ []) checks_all (r15, tt)) ∙ accepting

  pub handed : (i : ℕ) → i < length gs
      → segment_as form s ero open_session form.setup i ≡ record { verdict = accepted_with (length gs); segment = get_or gs i no_segment; strays = no_strays }
  unfolding segment_as
  handed i h = rw (picked i h, stand, read_there a i h, clean_there a i h)

-- the whole object ---------------------------------------------------------------------------------------------

module _ (form : Form) (ero : Bool) (gs : List Segment) where
  -- The object's octets, as a header in front of a body.
  object_headed : 4 + length (written_body form gs) ≤ most_octets → (4 + length (written_body form gs)) % 4 ≡ 0 → headed (object_of form gs ero) ero ≡ true
  unfolding object_of header_of be16
  object_headed m f =
      let l = length_object form ero gs in
      sym (headed_last ero (object_of form gs ero) (omega arith) refl refl (omega arith)) ∙ eq-eqb (length (object_of form gs ero) % 4) 0 (rw l f)

object_apart : {form : Form} → Sized form → Readable form → (ero : Bool) (gs : List Segment) → AllTyped gs
    → apart_of (object_of form gs ero) ≡ record { whole = true; places = places_from form 4 gs }
unfolding object_of header_of
object_apart {form} z r ero gs h =
    fills_whole (object_of form gs ero) (places_from form 4 gs) (body_chain z r gs (header_of ero (4 + length (written_body form gs))) h)

object_read : {form : Form} → Sized form → Readable form → (ero : Bool) (gs : List Segment) → AllTyped gs → AllFit form ero gs
    → AllRead form ero (object_of form gs ero) (places_from form 4 gs) gs
unfolding object_of header_of
object_read {form} z r ero gs h f = all_read z r ero gs (header_of ero (4 + length (written_body form gs))) h f

some_there : (form : Form) (gs : List Segment) → (length (written_body form gs) ≡ 0 → ⊥) → length gs ≡ 0 → ⊥
some_there form [] h e = h refl
some_there form (g ∷ gs) h e = absurd (omega arith)

-- The header's low bits are 0.
header_zero : (form : Form) (ero : Bool) (gs : List Segment) → octet_of (object_of form gs ero) 1 % 16 ≡ 0
unfolding octet_of object_of header_of
header_zero form ero gs = refl

-- A form is known by the type of its subobjects.
same_form : (a b : ℕ) → (form_of a).kind ≡ (form_of b).kind → form_of b ≡ form_of a
same_form a b e = go (eqb a 1) (eqb b 1) e
  where
    go : (x y : Bool) → (cond x mpls_form srv6_form).kind ≡ (cond y mpls_form srv6_form).kind → cond y mpls_form srv6_form ≡ cond x mpls_form srv6_form
    go true true e = refl
    go false false e = refl
    go true false e = absurd (omega arith)
    go false true e = absurd (omega arith)

-- Octets of which no segment is stray in the form that they are of: judged under any setup type none is. Under another form's they are refused.
unstray_any : (pst : ℕ) (s : List ℕ) (ero : Bool) → ((k : ℕ) → any_is (kind_at s ero) (places_of s) k ≡ true → k ≡ (form_of pst).kind)
    → stray_count (form_of pst) s ero ≡ 0 → (session : Session) (any : ℕ) → (judge_of s ero session any).stray ≡ 0
unfolding judge_of rule14
unstray_any pst s ero kinds e session any = go (eqb (judge_as (form_of any) s ero session any).number 0) refl
  where
    go : (b : Bool) → eqb (judge_as (form_of any) s ero session any).number 0 ≡ b → (judge_as (form_of any) s ero session any).stray ≡ 0
    go true z =
        let present = not-false _ (accepted_none (form_of any) s ero session any (eqb-true _ 0 z)).1.1.1.0 in
        let f : form_of pst ≡ form_of any = same_form any pst (kinds (form_of any).kind present) in
        none_stray (form_of any) s ero session any (ap (λ (x : Form). stray_count x s ero) (sym f) ∙ e)
    go false z = refused_unstray (form_of any) s ero session any (eqb-false _ 0 z)

-- Whatever list of segments begin, adds and finish accept, the finished object is accepted, with that number of segments,
-- in a session with the form agreed, N set and no limit, under its setup type; and segment i read is segment i given.
module _ (ero : Bool) (pst : ℕ) (gs : List Segment) (b : List ℕ) (w : Writer) (typed : AllTyped gs) (accepted : Accepted (write_run b w gs ero pst)) where
  m : Image (form_of pst) ero gs (write_run b w gs ero pst)
  m = image ero pst gs b w accepted

  abbrev body : AllRead (form_of pst) ero (object_of (form_of pst) gs ero) (places_from (form_of pst) 4 gs) gs
  body = object_read (sized_by pst) (readable_by pst) ero gs typed m.fits

  abbrev setup : ℕ
  setup = (form_of pst).setup

  -- The number that the form has names the form.
  again : form_of setup ≡ form_of pst
  again = (readable_by pst).setup

  pub read_back : judge_of (object_in (write_run b w gs ero pst)) ero open_session setup ≡ accepted_with (length gs)
  unfolding judge_of
  read_back =
      ap (λ (x : Form). judge_as x (object_in (write_run b w gs ero pst)) ero open_session setup) again
      ∙ rw m.object
      (judged (form_of pst) (object_of (form_of pst) gs ero) ero (places_from (form_of pst) 4 gs) gs (object_headed (form_of pst) ero gs m.most m.fours)
      (object_apart (sized_by pst) (readable_by pst) ero gs typed) body (some_there (form_of pst) gs m.filled))

  pub segments_back : (i : ℕ) → i < length gs → segment_of (object_in (write_run b w gs ero pst)) ero open_session setup i
      ≡ record { verdict = accepted_with (length gs); segment = get_or gs i no_segment; strays = no_strays }
  unfolding segment_of
  segments_back i h =
      ap (λ (x : Form). segment_as x (object_in (write_run b w gs ero pst)) ero open_session setup i) again
      ∙ rw m.object
      (handed (form_of pst) (object_of (form_of pst) gs ero) ero (places_from (form_of pst) 4 gs) gs (object_headed (form_of pst) ero gs m.most m.fours)
      (object_apart (sized_by pst) (readable_by pst) ero gs typed) body (some_there (form_of pst) gs m.filled) i h)

  places : places_of (object_of (form_of pst) gs ero) ≡ places_from (form_of pst) 4 gs
  places = ap (λ (a : Apart). a.places) (object_apart (sized_by pst) (readable_by pst) ero gs typed)

  -- In no session is one of them stray,
  pub written_unstray : (session : Session) (any : ℕ) → (judge_of (object_in (write_run b w gs ero pst)) ero session any).stray ≡ 0
  written_unstray session any =
      rw m.object
      (unstray_any pst (object_of (form_of pst) gs ero) ero (λ k e. sym (kind_present (kinds_read body) k (rw places at e)))
      (unstray (form_of pst) (object_of (form_of pst) gs ero) ero (places_from (form_of pst) 4 gs) gs (object_headed (form_of pst) ero gs m.most m.fours)
      (object_apart (sized_by pst) (readable_by pst) ero gs typed) body (some_there (form_of pst) gs m.filled)) session any)

  -- and every ignored bit is 0.
  pub written_zero : zeros (ignored_of (form_of pst) (object_in (write_run b w gs ero pst)) ero) ≡ true
  written_zero =
      let s = object_of (form_of pst) gs ero in
      let inside : zeros (ignored_in (form_of pst) s ero (places_of s)) ≡ true = rw places (ignored_all body) in
      ap (λ (x : List ℕ). zeros (ignored_of (form_of pst) x ero)) m.object
      ∙ zeros_cons (octet_of s 1 % 16) (ignored_in (form_of pst) s ero (places_of s)) (header_zero (form_of pst) ero gs) inside
