-- The third theorem: rewriting what was read gives the same octets exactly if all ignored bits were 0. An acceptance says that the subobjects fill the object (`whole_fills`), all of
-- the form's type and sound (`all_sound`); then each run of octets, header and subobjects, is compared with the written one by itself (`header_same`, `header_back`; Subobjects).
use Prim.Native.Nat.{ℕ, suc, ◌+◌, ◌-◌, ◌/◌, ◌%◌, ◌≤◌, ◌<◌}
use mathlib.Core.Path.{◌≡◌, refl, sym, ◌∙◌, ap}
use mathlib.Core.Bool.{Bool, true, false, not}
use mathlib.Core.List.{List, [], ◌∷◌, ◌++◌}
use lib.Dec.{eqb, ltb}
use lib.ListN.{length, get_or, take, drop, length-append, take-append-drop, drop_of_length-le}
use lib.Seq.{drop-cons, drop-drop, length-take-le}
use native.Mathlib.Omega.{arith}
use borrow.Author.Tests.{eqb-true, eqb-false, eq-eqb, ne_eqb, le-ltb, lt-ltb}
use Rattle.octets.specs.Octets.{octet_of, be16, part, hi, lo, over, placed}
use Rattle.octets.proofs.Laws.{length_part, length_over, length_placed}
use Rattle.forms.specs.declared.Form.{Form}
use Rattle.forms.specs.Forms.{form_of}
use Rattle.forms.specs.Sized.{Sized}
use Rattle.session.specs.declared.Session.{Session}
use Rattle.subobject.specs.declared.segment.Segment.{Segment}
use Rattle.subobject.specs.Segments.{segment_at, subobject_of}
use Rattle.frame.specs.Checks.{check}
use Rattle.frame.specs.Frames.{class_of, headed, fits_in, places_of, kind_at, rule5}
use Rattle.frame.specs.Fills.{FillsFrom, stop, link}
use Rattle.frame.proofs.Fills.{whole_fills}
use Rattle.frame.proofs.OneKind.{AllKind, frame_kinds}
use Rattle.frame.proofs.OneKind.AllKind.{next as kind-next}
use Rattle.frame.proofs.Checks.{None, none_first, none_append, none_split, none_unbroken}
use Rattle.frame.proofs.Laws.{fits_true, headed_sized}
use Rattle.route_walk.specs.Walk.{checks_at, subobject_checks}
use Rattle.route.specs.Routes.{last_checks, checks_of, count_of, acceptance_of, judge_as, pick_of, segment_as, judge_of, segment_of, rule15}
use Rattle.route.proofs.Answer.{accepted_none, accepted_count, accepted_frame}
use Rattle.writer_spare.specs.Spare.{zeros}
use Rattle.writer_layout.specs.Readable.{Readable}
use Rattle.forms.proofs.Laws.{sized_by}
use Rattle.writer_layout.proofs.Forms.{readable_by}
use Rattle.writer_state.specs.declared.Writer.{Writer}
use Rattle.writer_rules.specs.Refusals.{most_octets, add_number, finish_number, no_room, bad_place, passes}
use Rattle.writer_begin_finish.specs.Ends.{header_of, begin_number}
use Rattle.readback.specs.Runs.{adds_run, write_run, Accepted, object_in, written_body, object_of, AllTyped}
use Rattle.readback.specs.Runs.AllTyped.{none as typed-none, more}
use Rattle.readback.specs.Ignored.{EachOctet, ignored_at, ignored_in, ignored_of, asked_from, segments_read}
use Rattle.writer_rules.proofs.Laws.{Fit}
use Rattle.readback.proofs.Images.{AllFit, image, finish_number_lem, add_onward, begin_onward}
use Rattle.readback.proofs.Images.AllFit.{none as fit_none, also}
use Rattle.octets.proofs.Said.{both_true}
use Rattle.readback.proofs.Reading.{sub_fours}
use Rattle.readback.proofs.Parts.{append_same, zeros_append, zeros_split, zeros_cons, zeros_uncons, octet_small}
use Rattle.readback.proofs.Subobjects.{Sound, typed, fit, length_written, same_octets, ignored_zero}

-- the subobjects fill the object -----------------------------------------------------------------------------

-- A subobject of them lies within the object.
lies_within : (s : List ℕ) (at : ℕ) → fits_in (octet_of s (at + 1)) (length s - at) ≡ true → at + octet_of s (at + 1) ≤ length s
lies_within s at d = omega (arith, fits_true (octet_of s (at + 1)) (length s - at) d)

-- The octets of the subobjects, one behind the other.
abbrev parts_of : List ℕ → List ℕ → List ℕ
parts_of s [] = []
parts_of s (p ∷ ps) = part s p (octet_of s (p + 1)) ++ parts_of s ps

parts_all : {s : List ℕ} {at : ℕ} {ps : List ℕ} → FillsFrom s at ps → drop at s ≡ parts_of s ps
unfolding part
parts_all {s} {at} (stop e) = let h : length s ≤ at = omega arith in drop_of_length-le s h
parts_all {s} {at} (link l d c) =
    let n = octet_of s (at + 1) in
    let ih = parts_all c in
    sym (take-append-drop n (drop at s)) ∙ rw (drop-drop n at s, ih)

-- every subobject is sound -------------------------------------------------------------------------------------

data AllSound (form : Form) (ero : Bool) (s : List ℕ) : List ℕ → Type 0 where
  none : AllSound form ero s []
  next : {p : ℕ} {ps : List ℕ} → Sound form ero s p → AllSound form ero s ps → AllSound form ero s (p ∷ ps)

sound_at : (form : Form) (ero n : Bool) (s : List ℕ) (p : ℕ) → EachOctet s → kind_at s ero p ≡ form.kind → p + octet_of s (p + 1) ≤ length s
    → None (checks_at form s ero n p) → Sound form ero s p
sound_at form ero n s p o k i c =
    record { octets = o; kind = k; rules = none_unbroken s ero n p c; inside = i }

all_sound : (form : Form) (ero n : Bool) (s : List ℕ) {at : ℕ} {ps : List ℕ} → EachOctet s → FillsFrom s at ps → AllKind (kind_at s ero) form.kind ps
    → None (subobject_checks form s ero n ps) → AllSound form ero s ps
all_sound form ero n s o (stop e) k c = none
all_sound form ero n s {at} o (link {ps = ps} l d r) (kind-next q k) c =
    let t = none_split (checks_at form s ero n at) (subobject_checks form s ero n ps) c in
    next (sound_at form ero n s at o q (lies_within s at d) t.0) (all_sound form ero n s o r k t.1)

-- the segments read --------------------------------------------------------------------------------------------

abbrev segments_at : Form → Bool → List ℕ → List ℕ → List Segment
segments_at form ero s [] = []
segments_at form ero s (p ∷ ps) = segment_at form s ero p ∷ segments_at form ero s ps

module _ {form : Form} (z : Sized form) (r : Readable form) {ero : Bool} {s : List ℕ} where
  all_typed : {ps : List ℕ} → AllSound form ero s ps → AllTyped (segments_at form ero s ps)
  all_typed none = typed-none
  all_typed (next d a) = more (typed z r d) (all_typed a)

  all_fit : {ps : List ℕ} → AllSound form ero s ps → AllFit form ero (segments_at form ero s ps)
  all_fit none = fit_none
  all_fit (next d a) = also (fit z r d) (all_fit a)

  -- As many octets are written as were read.
  body_length : {at : ℕ} {ps : List ℕ} → FillsFrom s at ps → AllSound form ero s ps → at + length (written_body form (segments_at form ero s ps)) ≡ length s
  body_length {at} (stop e) none = omega arith
  body_length {at} (link {ps = ps} l i c) (next d a) =
      let ih = body_length c a in
      let n = length_written z r d in
      let m = length-append (subobject_of form (segment_at form s ero at)) (written_body form (segments_at form ero s ps)) in
      omega arith

  -- The same octets exactly if the ignored bits are 0, in all subobjects.
  body_same : {ps : List ℕ} → AllSound form ero s ps → zeros (ignored_in form s ero ps) ≡ true → written_body form (segments_at form ero s ps) ≡ parts_of s ps
  body_same none e = refl
  body_same (next {p} {ps} d a) e =
      let y = zeros_split (ignored_at form s ero p) (ignored_in form s ero ps) e in
      rw (same_octets z r d y.0, body_same a y.1)

  body_back : {ps : List ℕ} → AllSound form ero s ps → written_body form (segments_at form ero s ps) ≡ parts_of s ps → zeros (ignored_in form s ero ps) ≡ true
  body_back none e = refl
  body_back (next {p} {ps} d a) e =
      let l = length_written z r d ∙ sym (length_part s p (octet_of s (p + 1)) d.inside) in
      let q = append_same (subobject_of form (segment_at form s ero p)) (part s p (octet_of s (p + 1))) (written_body form (segments_at form ero s ps)) (parts_of s ps) l e in
      zeros_append (ignored_at form s ero p) (ignored_in form s ero ps) (ignored_zero z r d q.0) (body_back a q.1)

-- a run that is accepted ---------------------------------------------------------------------------------------

within : (end room : ℕ) → end ≤ room → end ≤ most_octets → passes end room ≡ false
unfolding passes
within end room h k = rw (le-ltb room end h, le-ltb most_octets end k)

proper : (at room : ℕ) → 4 ≤ at → at % 4 ≡ 0 → at ≤ room → at ≤ most_octets → bad_place at room ≡ false
unfolding bad_place
proper at room l f h k = rw (le-ltb at 4 l, eq-eqb (at % 4) 0 f, within at room h k)

add_taken : (form : Form) (ero : Bool) (room at : ℕ) (g : Segment) → Fit form ero g → 4 ≤ at → at % 4 ≡ 0
    → at + length (subobject_of form g) ≤ room → at + length (subobject_of form g) ≤ most_octets → add_number form g ero at room ≡ 0
unfolding add_number no_room
add_taken form ero room at g t l f h k =
    rw (
      t.sound.r8,
      t.sound.r9,
      t.fit,
      t.sound.r11,
      t.sound.r29,
      t.sound.r30,
      proper at room l f (omega arith) (omega arith),
      within (at + length (subobject_of form g)) room h k,
    )

finish_taken : (room : ℕ) (w : Writer) → 4 < w.at → w.at % 4 ≡ 0 → w.at ≤ room → w.at ≤ most_octets → finish_number w.at room ≡ 0
unfolding finish_number
finish_taken room w l f h k = rw (proper w.at room (omega arith) f h k, ne_eqb w.at 4 (λ z. omega arith))

adds_taken : (gs : List Segment) (b : List ℕ) (w : Writer) → AllTyped gs → AllFit (form_of w.form) w.ero gs → 4 ≤ w.at → w.at % 4 ≡ 0
    → 4 < w.at + length (written_body (form_of w.form) gs) → w.at + length (written_body (form_of w.form) gs) ≤ length b
    → w.at + length (written_body (form_of w.form) gs) ≤ most_octets → Accepted (adds_run b w gs)
unfolding adds_run
adds_taken [] b w h t l f m r k = finish_number_lem b w ∙ finish_taken (length b) w (omega arith) f (omega arith) (omega arith)
adds_taken (g ∷ gs) b w (more hg h) (also tg t) l f m r k =
    let form = form_of w.form in
    let x = subobject_of form g in
    let z = sub_fours (sized_by w.form) (readable_by w.form) g hg in
    let n = length-append x (written_body form gs) in
    let a = add_taken form w.ero (length b) w.at g tg l f (omega arith) (omega arith) in
    let o = length_placed b w.at x (omega arith) in
    rw (add_onward b w g (λ b' w'. adds_run b' w' gs) a)
    (adds_taken gs (placed b w.at x) (record { ero = w.ero; at = w.at + length x; form = w.form }) h t (omega arith) (omega arith) (omega arith)
    (omega arith) (omega arith))

begin_taken : (room : ℕ) → 4 ≤ room → begin_number room ≡ 0
unfolding begin_number
begin_taken room h = rw (le-ltb room 4 h)

header_long : (ero : Bool) (n : ℕ) → length (header_of ero n) ≡ 4
unfolding header_of
header_long ero n = refl

-- The same of a state that names a form.
adds_in : (form : Form) (gs : List Segment) (b : List ℕ) (w : Writer) → form_of w.form ≡ form → AllTyped gs → AllFit form w.ero gs → 4 ≤ w.at
    → w.at % 4 ≡ 0 → 4 < w.at + length (written_body form gs) → w.at + length (written_body form gs) ≤ length b → w.at + length (written_body form gs) ≤ most_octets
    → Accepted (adds_run b w gs)
adds_in form gs b w e h t l f m r k = adds_taken gs b w h (rw (← e) at t) l f (rw (← e) at m) (rw (← e) at r) (rw (← e) at k)

write_taken : (ero : Bool) (pst : ℕ) (gs : List Segment) (b : List ℕ) (w : Writer) → AllTyped gs → AllFit (form_of pst) ero gs → 0 < length (written_body (form_of pst) gs)
    → 4 + length (written_body (form_of pst) gs) ≤ length b → 4 + length (written_body (form_of pst) gs) ≤ most_octets → Accepted (write_run b w gs ero pst)
unfolding write_run
write_taken ero pst gs b w h t m r k =
    let y = header_long ero 4 in
    let o = length_over (header_of ero 4) b (omega arith) in
    rw (begin_onward b w ero pst (λ b' w'. adds_run b' w' gs) (begin_taken (length b) (omega arith)))
    (adds_in (form_of pst) gs (over (header_of ero 4) b) (record { ero = ero; at = 4; form = (form_of pst).setup }) (readable_by pst).setup h t (omega arith) refl
    (omega arith) (omega arith) k)

-- the header ---------------------------------------------------------------------------------------------------

take_four : (s : List ℕ) → 4 ≤ length s → take 4 s ≡ octet_of s 0 ∷ octet_of s 1 ∷ octet_of s 2 ∷ octet_of s 3 ∷ []
unfolding octet_of
take_four [] h = absurd (omega arith)
take_four (a ∷ []) h = absurd (omega arith)
take_four (a ∷ b ∷ []) h = absurd (omega arith)
take_four (a ∷ b ∷ c ∷ []) h = absurd (omega arith)
take_four (a ∷ b ∷ c ∷ d ∷ s) h = refl

record Header (ero : Bool) (s : List ℕ) : Type 0 where
  low : 4 ≤ length s
  class : octet_of s 0 ≡ class_of ero
  kind : octet_of s 1 / 16 ≡ 1
  read : be16 s 2 ≡ length s

header_of_lem : (ero : Bool) (s : List ℕ) → headed s ero ≡ true → Header ero s
unfolding headed
header_of_lem ero s e =
    let z = headed_sized ero s e in
    let a = both_true (not (ltb (length s) 4)) _ e in
    let b = both_true (eqb (octet_of s 0) (class_of ero)) _ a.1 in
    let c = both_true (eqb (octet_of s 1 / 16) 1) _ b.1 in
    record { low = z.low; class = eqb-true (octet_of s 0) (class_of ero) b.0; kind = eqb-true (octet_of s 1 / 16) 1 c.0; read = z.read }

module _ {ero : Bool} {s : List ℕ} (h : Header ero s) (o : EachOctet s) where
  hi_read : hi (length s) ≡ octet_of s 2
  unfolding be16 octet_of
  hi_read = let a = octet_small s o 2 in let b = octet_small s o 3 in let r = h.read in omega arith

  lo_read : lo (length s) ≡ octet_of s 3
  unfolding be16 octet_of
  lo_read = let b = octet_small s o 3 in let r = h.read in omega arith

  header_same : octet_of s 1 % 16 ≡ 0 → header_of ero (length s) ≡ take 4 s
  unfolding header_of
  header_same e =
      let e0 = sym h.class in
      let k = h.kind in
      let e1 : 16 ≡ octet_of s 1 = omega arith in
      let e2 = hi_read in
      let e3 = lo_read in
      (λ i. e0 i ∷ e1 i ∷ e2 i ∷ e3 i ∷ []) ∙ sym (take_four s h.low)

  header_back : header_of ero (length s) ≡ take 4 s → octet_of s 1 % 16 ≡ 0
  unfolding header_of
  header_back e =
      let e1 : 16 ≡ octet_of s 1 = ap (λ (l : List ℕ). get_or l 1 0) (e ∙ take_four s h.low) in
      omega arith

-- what the reader hands out ------------------------------------------------------------------------------------

module _ (s : List ℕ) (ero : Bool) (session : Session) (pst : ℕ) (accepted : (judge_as (form_of pst) s ero session pst).number ≡ 0) where
  abbrev form : Form
  form = form_of pst

  picked : (i : ℕ) → i < count_of s → pick_of form s ero session pst i ≡ acceptance_of form s ero
  unfolding pick_of rule15
  picked i h =
      let r : rule15 i (count_of s) ≡ false = rw (lt-ltb i (count_of s) h) in
      none_first (checks_of form s ero session pst ++ (check 15 0 (rule15 i (count_of s)) ∷ [])) (acceptance_of form s ero)
      (none_append (checks_of form s ero session pst) (check 15 0 (rule15 i (count_of s)) ∷ []) (accepted_none form s ero session pst accepted) (r, tt))

  handed : (i : ℕ) → i < count_of s → (segment_of s ero session pst i).segment ≡ segment_at form s ero (get_or (places_of s) i 0)
  unfolding segment_of segment_as
  handed i h = rw (picked i h)

  asked : (n i : ℕ) → i + n ≡ count_of s → asked_from s ero session pst i n ≡ segments_at form ero s (drop i (places_of s))
  asked ℕ.zero i e = let h : length (places_of s) ≤ i = omega arith in rw (drop_of_length-le (places_of s) h)
  asked (ℕ.suc n) i e =
      let h : i < length (places_of s) = omega arith in
      rw (drop-cons (places_of s) i 0 h, handed i h, asked n (suc i) (omega arith))

  pub all_read : segments_read s ero session pst ≡ segments_at form ero s (places_of s)
  unfolding judge_of
  all_read =
      let c = accepted_count form s ero session pst accepted in
      rw c (asked (count_of s) 0 (omega arith))

-- the theorem --------------------------------------------------------------------------------------------------

not_filled : {s : List ℕ} {at : ℕ} {ps : List ℕ} → FillsFrom s at ps → (length ps ≡ 0 → ⊥) → at < length s
not_filled (stop e) h = absurd (h refl)
not_filled {s} {at} (link n d c) h = omega (arith, fits_true (octet_of s (at + 1)) (length s - at) d)

-- An object of octets that was accepted, in any session and under any setup type.
module _ (s : List ℕ) (ero : Bool) (session : Session) (pst : ℕ) (octets : EachOctet s) (taken : (judge_of s ero session pst).number ≡ 0) where
  accepted : (judge_as (form_of pst) s ero session pst).number ≡ 0
  unfolding judge_of
  accepted = taken

  no_check : None (checks_of (form_of pst) s ero session pst)
  no_check = accepted_none (form_of pst) s ero session pst accepted

  header : Header ero s
  header = header_of_lem ero s (accepted_frame (form_of pst) s ero session pst accepted).0

  filled : FillsFrom s 4 (places_of s)
  filled = whole_fills s (accepted_frame (form_of pst) s ero session pst accepted).1

  kinds : AllKind (kind_at s ero) (form_of pst).kind (places_of s)
  kinds = frame_kinds s ero (form_of pst).kind (accepted_frame (form_of pst) s ero session pst accepted).1 no_check.1.1.0 no_check.1.1.1.0

  sound : AllSound (form_of pst) ero s (places_of s)
  sound =
      all_sound (form_of pst) ero session.n s octets filled kinds
      (none_split (subobject_checks (form_of pst) s ero session.n (places_of s)) (last_checks (places_of s) ero session.limit (count_of s))
      no_check.1.1.1.1.1).0

  -- the segments read
  abbrev segments : List Segment
  segments = segments_at (form_of pst) ero s (places_of s)

  length_same : 4 + length (written_body (form_of pst) segments) ≡ length s
  length_same = body_length (sized_by pst) (readable_by pst) filled sound

  short : length s ≤ most_octets
  unfolding be16 octet_of
  short =
      let a = octet_small s octets 2 in
      let b = octet_small s octets 3 in
      let r = header.read in
      let f = (headed_sized ero s (accepted_frame (form_of pst) s ero session pst accepted).0).four in
      omega arith

  some : 0 < length (written_body (form_of pst) segments)
  unfolding rule5
  some =
      let n = not_filled filled (λ z. eqb-false (length (places_of s)) 0 no_check.1.0 z) in
      let l = length_same in
      omega arith

  split : s ≡ take 4 s ++ parts_of s (places_of s)
  split = sym (take-append-drop 4 s) ∙ rw (parts_all filled)

  object_same : zeros (ignored_of (form_of pst) s ero) ≡ true → object_of (form_of pst) segments ero ≡ s
  unfolding object_of
  object_same e =
      let z = zeros_uncons (octet_of s 1 % 16) (ignored_in (form_of pst) s ero (places_of s)) e in
      rw (length_same, header_same header octets z.0, body_same (sized_by pst) (readable_by pst) sound z.1) (sym split)

  object_back : object_of (form_of pst) segments ero ≡ s → zeros (ignored_of (form_of pst) s ero) ≡ true
  unfolding object_of
  object_back e =
      let x : header_of ero (length s) ++ written_body (form_of pst) segments ≡ take 4 s ++ parts_of s (places_of s) = (rw length_same at e) ∙ split in
      let q = append_same (header_of ero (length s)) (take 4 s) (written_body (form_of pst) segments) (parts_of s (places_of s))
      (header_long ero (length s) ∙ sym (length-take-le 4 s header.low)) x in
      zeros_cons (octet_of s 1 % 16) (ignored_in (form_of pst) s ero (places_of s)) (header_back header octets q.0)
      (body_back (sized_by pst) (readable_by pst) sound q.1)

  -- Writing the segments read again: in any buffer with room for the object and with any state, every call accepts;
  module _ (b : List ℕ) (w : Writer) (room : length s ≤ length b) where
    pub rewritten : Accepted (write_run b w (segments_read s ero session pst) ero pst)
    rewritten =
        let l = length_same in
        let k = short in
        rw (all_read s ero session pst accepted)
        (write_taken ero pst segments b w (all_typed (sized_by pst) (readable_by pst) sound) (all_fit (sized_by pst) (readable_by pst) sound) some (omega arith)
        (omega arith))

    object_is : object_in (write_run b w (segments_read s ero session pst) ero pst) ≡ object_of (form_of pst) segments ero
    object_is = (image ero pst (segments_read s ero session pst) b w rewritten).object ∙ rw (all_read s ero session pst accepted)

    -- the finished object is the object read, if all ignored bits were 0,
    pub rewritten_same : zeros (ignored_of (form_of pst) s ero) ≡ true → object_in (write_run b w (segments_read s ero session pst) ero pst) ≡ s
    rewritten_same e = object_is ∙ object_same e

    -- and only if they were.
    pub rewritten_zero : object_in (write_run b w (segments_read s ero session pst) ero pst) ≡ s → zeros (ignored_of (form_of pst) s ero) ≡ true
    rewritten_zero e = object_back (sym object_is ∙ e)
