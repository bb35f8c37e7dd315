-- The answer by its parts: what one pass settles, 15's; and what an acceptance says of the octets. The frame's, 13's, the walk's and 12's parts stand in
-- route_ordered/proofs/Ordered. An answer without a number means that no check of the list is broken (`accepted_none`); from the checks of subobject i and from its
-- place in the frame (`place_fits`) it follows where its parts lie. Assumes nothing.
use Prim.Native.Nat.{ℕ, zero, suc, ◌+◌, ◌-◌, ◌%◌, ◌≤◌, ◌<◌}
use mathlib.Core.Path.{◌≡◌, refl, sym, ◌∙◌, ap}
use mathlib.Core.List.{List, [], ◌∷◌}
use mathlib.Core.Bool.{Bool, true, false, cond}
use lib.Dec.{eqb}
use lib.ListN.{length, get_or, drop, length-drop}
use native.Mathlib.Omega.{arith}
use borrow.Author.Tests.{ne_eqb, lt-ltb, le-ltb, eqb-false}
use Rattle.forms.specs.declared.Form.{Form}
use Rattle.forms.specs.Sized.{Shortest}
use Rattle.forms.proofs.Laws.{flag_most}
use Rattle.std.proofs.Common.{Result, Ok, Err}
use Rattle.std.specs.Result.{IsErrAnd}
use Rattle.answers.specs.declared.refusal.Refusal.{Refusal}
use Rattle.answers.specs.declared.verdict.Verdict.{Verdict}
use Rattle.answers.specs.Numbers.{no_such_segment}
use Rattle.answers.specs.Verdicts.{refused_by, accepted_with}
use Rattle.session.specs.declared.Session.{Session}
use Rattle.octets.specs.Octets.{octet_of}
use Rattle.subobject.specs.declared.segment.Segment.{Segment}
use Rattle.objects.specs.Objects.{header, unit}
use Rattle.subobject.specs.Layout.{head_of, head_at, expected_at}
use Rattle.subobject.specs.Rules.{rule7, rule8, rule9}
use Rattle.subobject.specs.Segments.{segment_at}
use Rattle.subobject_strays.specs.declared.Strays.{Strays}
use Rattle.subobject_strays.specs.Strays.{strays_at}
use Rattle.subobject_read.specs.Reader.{Reading}
use Rattle.subobject_read.specs.Reader.Reading.{Whole, Refused}
use Rattle.subobject_read.specs.Reader.{read_of}
use Rattle.subobject.proofs.Laws.{sound_length, sound_least}
use Rattle.frame.specs.Checks.{check, first_broken}
use Rattle.frame.specs.Frames.{headed, fits_in, ended, unfilled, from, apart, apart_of, places_of, rule5, frame_checks}
use Rattle.frame.specs.Gathered.{frame_of}
use Rattle.frame.proofs.Checks.{first_append, None, none_first, none_split, first_none, first_some}
use Rattle.frame.proofs.Laws.{headed_sized, fits_true}
use Rattle.route.specs.Picked.{Picked}
use Rattle.route_walk.specs.Walk.{checks_at, subobject_checks}
use Rattle.route_walk.proofs.Laws.{head_size}
use Rattle.route_pass.specs.Settled.{Settled}
use Rattle.route.specs.Parts.{nothing_with}
use Rattle.route.specs.Routes.{last_checks, checks_of, count_of, acceptance_of, judge_as, rule15, pick_of, segment_as}
pub use Rattle.route_ordered.proofs.Ordered.{numbered_subobjects, numbered_frame, numbered_all, frame_sound, frame_bounds, frame_stops, frame_none, frame_count}
pub use Rattle.route_ordered.proofs.Ordered.{agreed_stops, after_whole, walk_then_limit}

-- the pass -----------------------------------------------------------------------------------------------------

-- What one pass has settled says that no rule of the frame is broken, and how many subobjects there are.
module _ (form : Form) (s : List ℕ) (ero n : Bool) {count stray : ℕ} (x : Settled form s ero n count stray) where
  pub settled_none : None (frame_checks s ero form.kind)
  unfolding frame_of
  settled_none = first_none (frame_checks s ero form.kind) (accepted_with (count_of s)) (numbered_frame form ero s) (ap (λ (v : Verdict). v.number) x.frame)

  pub settled_count : count ≡ count_of s
  unfolding frame_of
  settled_count =
      sym (ap (λ (v : Verdict). v.count) (sym (none_first (frame_checks s ero form.kind) (accepted_with (count_of s)) settled_none) ∙ x.frame))

-- an acceptance ------------------------------------------------------------------------------------------------

-- No check is broken, and the count is that of the subobjects.
pub accepted_none : (form : Form) (s : List ℕ) (ero : Bool) (session : Session) (pst : ℕ) → (judge_as form s ero session pst).number ≡ 0 → None (checks_of form s ero session pst)
unfolding judge_as
accepted_none form s ero session pst z = first_none (checks_of form s ero session pst) (acceptance_of form s ero) (numbered_all form s ero session pst) z

pub accepted_count : (form : Form) (s : List ℕ) (ero : Bool) (session : Session) (pst : ℕ) → (judge_as form s ero session pst).number ≡ 0
    → judge_as form s ero session pst ≡ acceptance_of form s ero
unfolding judge_as
accepted_count form s ero session pst z = none_first (checks_of form s ero session pst) (acceptance_of form s ero) (accepted_none form s ero session pst z)

pub accepted_frame : (form : Form) (s : List ℕ) (ero : Bool) (session : Session) (pst : ℕ) → (judge_as form s ero session pst).number ≡ 0
    → (headed s ero ≡ true) × ((apart_of s).whole ≡ true)
accepted_frame form s ero session pst z = frame_sound ero s (accepted_none form s ero session pst z).0

-- No check of any subobject is broken.
subobject_none : (form : Form) (s : List ℕ) (ero n : Bool) (ps : List ℕ) (i : ℕ) → i < length ps → None (subobject_checks form s ero n ps)
    → None (checks_at form s ero n (get_or ps i 0))
subobject_none form s ero n [] i l h = absurd (omega arith)
subobject_none form s ero n (p ∷ ps) zero l h = (none_split (checks_at form s ero n p) (subobject_checks form s ero n ps) h).0
subobject_none form s ero n (p ∷ ps) (suc i) l h =
    subobject_none form s ero n ps i (omega arith) (none_split (checks_at form s ero n p) (subobject_checks form s ero n ps) h).1

pub accepted_subobject : (form : Form) (s : List ℕ) (ero : Bool) (session : Session) (pst i : ℕ) → (judge_as form s ero session pst).number ≡ 0 → i < count_of s
    → None (checks_at form s ero session.n (get_or (places_of s) i 0))
accepted_subobject form s ero session pst i z l =
    subobject_none form s ero session.n (places_of s) i l
    (none_split (subobject_checks form s ero session.n (places_of s)) (last_checks (places_of s) ero session.limit (count_of s))
    (accepted_none form s ero session pst z).1.1.1.1.1).0

-- Every place of a frame holds a subobject that fits.
place_fits : (f : ℕ) (s : List ℕ) (at i : ℕ) → i < length (apart s at f).places
    → (let p = get_or (apart s at f).places i 0 in fits_in (octet_of s (p + 1)) (length s - p) ≡ true)
unfolding apart
place_fits zero s at i l = absurd (omega arith)
place_fits (suc f) s at i l = go (eqb at (length s)) (fits_in (octet_of s (at + 1)) (length s - at)) refl i l (λ j k. place_fits f s (at + octet_of s (at + 1)) j k)
  where
    go : (x y : Bool) → fits_in (octet_of s (at + 1)) (length s - at) ≡ y → (i : ℕ)
        → i < length (cond x ended (cond y (from at (apart s (at + octet_of s (at + 1)) f)) unfilled)).places
        → ((j : ℕ) → j < length (apart s (at + octet_of s (at + 1)) f).places
        → (let p = get_or (apart s (at + octet_of s (at + 1)) f).places j 0 in fits_in (octet_of s (p + 1)) (length s - p) ≡ true))
        → (let p = get_or (cond x ended (cond y (from at (apart s (at + octet_of s (at + 1)) f)) unfilled)).places i 0 in fits_in (octet_of s (p + 1)) (length s - p) ≡ true)
    go true y e i l rest = absurd (omega arith)
    go false false e i l rest = absurd (omega arith)
    go false true e zero l rest = e
    go false true e (suc i) l rest = rest i (omega arith)

-- The first subobject stands at octet 4.
first_place : (f : ℕ) (s : List ℕ) (at : ℕ) → 0 < length (apart s at f).places → get_or (apart s at f).places 0 0 ≡ at
unfolding apart
first_place zero s at l = absurd (omega arith)
first_place (suc f) s at l = go (eqb at (length s)) (fits_in (octet_of s (at + 1)) (length s - at)) l
  where
    go : (x y : Bool) → 0 < length (cond x ended (cond y (from at (apart s (at + octet_of s (at + 1)) f)) unfilled)).places
        → get_or (cond x ended (cond y (from at (apart s (at + octet_of s (at + 1)) f)) unfilled)).places 0 0 ≡ at
    go true y l = absurd (omega arith)
    go false false l = absurd (omega arith)
    go false true l = refl

-- What an acceptance says of subobject i: it has its expected length, with a SID or an NAI in it, and lies inside the octets given.
pub record Lying (form : Form) (s : List ℕ) (ero : Bool) (at : ℕ) : Type 0 where
  pub inside : at + expected_at form s ero at ≤ length s
  pub least : (l : ℕ) → Shortest form l → at + form.fixed + l ≤ length s

flag_small : (form : Form) (ero : Bool) (s : List ℕ) (at : ℕ) → (head_at form s ero at).s ≤ 1
unfolding head_at head_of
flag_small form ero s at = flag_most (octet_of s (at + 3)) form.s

pub accepted_lying : (form : Form) (s : List ℕ) (ero : Bool) (session : Session) (pst i : ℕ) → (judge_as form s ero session pst).number ≡ 0 → i < count_of s
    → Lying form s ero (get_or (places_of s) i 0)
unfolding apart_of octet_of expected_at
accepted_lying form s ero session pst i z l =
    let h = head_at form s ero (get_or (places_of s) i 0) in
    let n = accepted_subobject form s ero session pst i z l in
    let e8 : rule8 form h ≡ false = n.0 in
    let e9 : rule9 h ≡ false = n.1.0 in
    let e7 : rule7 form h ≡ false = n.1.1.0 in
    let size = sound_length form h e7 in
    let o = head_size form ero s (get_or (places_of s) i 0) h refl in
    let fit = fits_true (octet_of s (get_or (places_of s) i 0 + 1)) (length s - get_or (places_of s) i 0) (place_fits (suc (length s)) s header i l) in
    record {
      inside = omega arith;
      least = λ k short. let more = sound_least form h k short e8 e9 e7 (flag_small form ero s (get_or (places_of s) i 0)) in omega arith;
    }

-- "A body is a multiple of 4 and at least 24 octets", for MPLS at least 8: what the board keeps of an accepted route, the octets after its header.
pub accepted_body : (form : Form) (s : List ℕ) (ero : Bool) (session : Session) (pst : ℕ) (l : ℕ) → Shortest form l → (judge_as form s ero session pst).number ≡ 0
    → (form.fixed + l ≤ length (drop header s)) × (length (drop header s) % unit ≡ 0)
unfolding rule5 apart_of
accepted_body form s ero session pst l short z =
    let some : 0 < count_of s = omega (arith, eqb-false (count_of s) 0 (accepted_none form s ero session pst z).1.0) in
    let lies = accepted_lying form s ero session pst 0 z some in
    let four : get_or (places_of s) 0 0 ≡ header = first_place (suc (length s)) s header some in
    let sized = headed_sized ero s (accepted_frame form s ero session pst z).0 in
    let low = lies.least l short in
    (rw (length-drop header s) (omega arith), rw (length-drop header s) (omega (arith, sized.four, sized.low)))

-- The refusal that a call hands on.
pub err_is : {A : Type 0} (r : Result A Refusal) (e : Refusal) → IsErrAnd r (λ x. x ≡ e) → r ≡ Err e
err_is (Ok a) e h = absurd h
err_is (Err x) e h = ap Err h

-- a segment ----------------------------------------------------------------------------------------------------

module _ (form : Form) (s : List ℕ) (ero : Bool) (session : Session) (pst i : ℕ) (v : Verdict) (e : v ≡ judge_as form s ero session pst) where
  picks : pick_of form s ero session pst i
      ≡ first_broken (checks_of form s ero session pst) (first_broken (check no_such_segment 0 (rule15 i (count_of s)) ∷ []) (acceptance_of form s ero))
  unfolding pick_of
  picks = first_append (checks_of form s ero session pst) (check no_such_segment 0 (rule15 i (count_of s)) ∷ []) (acceptance_of form s ero)

  pub pick_stops : {p : Picked} → (v.number ≡ 0 → ⊥) → p ≡ nothing_with v → p ≡ segment_as form s ero session pst i
  unfolding segment_as judge_as
  pick_stops n q =
      let p : pick_of form s ero session pst i ≡ v =
      picks
      ∙ sym
      (e
      ∙ first_some (checks_of form s ero session pst) (acceptance_of form s ero)
      (first_broken (check no_such_segment 0 (rule15 i (count_of s)) ∷ []) (acceptance_of form s ero)) refl (λ y. n (rw e y))) in
      rw (p, ne_eqb v.number 0 n) q

  passing : v.number ≡ 0
      → pick_of form s ero session pst i ≡ first_broken (check no_such_segment 0 (rule15 i (count_of s)) ∷ []) (acceptance_of form s ero)
  passing z =
      picks
      ∙ none_first (checks_of form s ero session pst) (first_broken (check no_such_segment 0 (rule15 i (count_of s)) ∷ []) (acceptance_of form s ero))
      (accepted_none form s ero session pst (rw e at z))

  pub pick_count : v.number ≡ 0 → v.count ≡ count_of s
  pick_count z = ap (λ (x : Verdict). x.count) (e ∙ accepted_count form s ero session pst (rw e at z))

  pub pick_beyond : {r : Verdict} {p : Picked} → v.number ≡ 0 → v.count ≤ i → r ≡ refused_by no_such_segment 0 → p ≡ nothing_with r
      → p ≡ segment_as form s ero session pst i
  unfolding segment_as rule15
  pick_beyond z l d q =
      let m : count_of s ≤ i = rw (pick_count z) at l in
      let o : pick_of form s ero session pst i ≡ refused_by no_such_segment 0 = passing z ∙ rw (le-ltb i (count_of s) m) in
      rw o (rw d at q)

  pub pick_there : {at : ℕ} {g : Segment} {x : Strays} → v.number ≡ 0 → i < v.count → at ≡ get_or (places_of s) i 0 → g ≡ segment_at form s ero at
      → x ≡ strays_at form s ero at → ◌≡◌ {A = Picked} (record { verdict = v; segment = g; strays = x }) (segment_as form s ero session pst i)
  unfolding segment_as rule15
  pick_there z l a q y =
      let m : i < count_of s = rw (pick_count z) at l in
      let o : pick_of form s ero session pst i ≡ acceptance_of form s ero = passing z ∙ rw (lt-ltb i (count_of s) m) in
      let w : v ≡ acceptance_of form s ero = e ∙ accepted_count form s ero session pst (rw e at z) in
      let r = rw a at q in
      let t = rw a at y in
      rw o (λ k. record { verdict = w k; segment = r k; strays = t k })

-- The subobject reader's answer, where the route was accepted: the subobject is there whole.
pub picked_whole : (form : Form) (s : List ℕ) (ero : Bool) (session : Session) (pst i at : ℕ) (r : Reading) → (judge_as form s ero session pst).number ≡ 0 → i < count_of s
    → at ≡ get_or (places_of s) i 0 → r ≡ read_of form s ero at → r ≡ Whole (strays_at form s ero at)
unfolding read_of
picked_whole form s ero session pst i at r z l a e =
    let lies = (accepted_lying form s ero session pst i z l).inside in
    e ∙ rw (a, le-ltb (length s - get_or (places_of s) i 0) (expected_at form s ero (get_or (places_of s) i 0)) (omega arith))

abbrev whole? : Reading → Bool
whole? (Whole x) = true
whole? (Refused n p) = false

pub whole_not_refused : {x : Strays} {n p : ℕ} → Whole x ≡ Refused n p → ⊥
whole_not_refused {x} {n} {p} e = let w : ◌≡◌ {A = Bool} true false = ap whole? e in let v : ◌≡◌ {A = ℕ} 0 1 = cc in omega arith

pub whole_same : {x y : Strays} → Whole x ≡ Whole y → x ≡ y
whole_same {x} e = ap strays_in e
  where
    strays_in : Reading → Strays
    strays_in (Whole z) = z
    strays_in (Refused n p) = x
