-- What an acceptance says, in the order of specs/Refusals, and what the code's looks find. An acceptance is a chain of tests that all failed: `no_refusal` takes them off one by one. What the code
-- looks at together (the octets before the NAI, those kept for parts that are absent) is turned into the rule by going through the values of its tests. Assumes nothing.
use Prim.Native.Nat.{ℕ, suc, ◌+◌, ◌%◌, ◌≤◌}
use mathlib.Core.Path.{◌≡◌, refl, sym, ◌∙◌, ap}
use mathlib.Core.Bool.{Bool, true, false, false≢true, cond, not, ◌&&◌, ◌||◌}
use mathlib.Core.List.{List}
use lib.Dec.{eqb, ltb}
use lib.ListN.{length, drop}
use borrow.Author.Tests.{eq-eqb, ne_eqb, eqb-true, eqb-false, ltb-false, not-false}
use native.Mathlib.Omega.{arith}
use Rattle.answers.specs.Numbers.{nai_unknown, nothing_there}
use Rattle.octets.proofs.Said.{either_false, both_true, and_false, cond_no, cond_most}
use Rattle.objects.specs.Objects.{header, unit}
use Rattle.forms.specs.declared.Form.{Form}
use Rattle.forms.specs.Forms.{nai_length, knows}
use Rattle.forms.specs.Sized.{Sized}
use Rattle.forms.proofs.Laws.{fixed_most, nai_most, nai_none}
use Rattle.subobject.specs.declared.head.Head.{Head}
use Rattle.subobject.specs.declared.segment.Outline.{Outline}
use Rattle.subobject.specs.declared.segment.Segment.{Segment}
use Rattle.subobject.specs.Layout.{structure_size, sid_length, structure_there, expected_length}
use Rattle.subobject.specs.Rules.{rule7, rule8, flag_f, rule9, malformed, has_structure, most_bits, sum_at, rule11, label_at, time_at, has_label, rule29, rule30}
use Rattle.subobject.specs.Segments.{outline_of, head_of_outline, head_of_segment, subobject_of, bits_of, bit}
use Rattle.subobject.proofs.Laws.{no_label as unlabelled}
use Rattle.subobject.proofs.Unbroken.{UnbrokenOf}
use Rattle.writer_spare.specs.Typed.{Typed}
use Rattle.writer_spare.specs.Spare.{zeros, tidy_of}
use Rattle.writer_spare.proofs.Laws.{tidy_parts}
use Rattle.writer_layout.specs.Parts.{Parts}
use Rattle.writer_layout.proofs.Laws.{length_subobject, lent_head}
use Rattle.writer_spare.specs.declared.lent.Lent.{Lent}
use Rattle.writer_spare.specs.Lending.{lent_of}
use Rattle.std.proofs.Common.{Option, Some, None, Result, Ok, Err}
use Rattle.std.specs.Result.{IsErrAnd}
use Rattle.std.specs.Option.{ok_or}
use Rattle.writer_layout.specs.Readable.{Readable}
use Rattle.answers.specs.declared.reason.Reason.{Reason}
use Rattle.answers.specs.Reasons.{number_of}
use Rattle.writer_rules.specs.Refusals.{most_octets, passes, bad_place, foreign, unfit, no_room, refused_number, add_number, finish_number}
use Rattle.writer_rules.specs.Looked.{Looked}
use Rattle.writer_rules.proofs.Checks.{seven_written}
use Rattle.writer_front.specs.Front.{strayed, barred, lead, front_of}

-- the head, and the octets before an NAI, of what is lent
pub found_head : {f form : Form} (x : Lent) {h : Head} → h ≡ head_of_outline f x.outline → f ≡ form → h ≡ head_of_segment form (lent_of x)
found_head {f} {form} x {h} e q = lent_head form x h (e ∙ ap (λ (f : Form). head_of_outline f x.outline) q)

pub some_front : (b : Bool) (n m : ℕ) → ◌≡◌ {A = Option ℕ} (Some m) (cond b None (Some n)) → (b ≡ false) × (m ≡ n)
some_front true n m e = absurd (let z : ◌≡◌ {A = ℕ} 0 1 = cc in omega arith)
some_front false n m e = (refl, cc)

pub no_front : (b : Bool) (n : ℕ) → ◌≡◌ {A = Option ℕ} None (cond b None (Some n)) → b ≡ true
no_front true n e = refl
no_front false n e = absurd (let z : ◌≡◌ {A = ℕ} 0 1 = cc in omega arith)

pub front_by : (form : Form) (o : Outline) (sid : List ℕ) (front : ℕ) → barred form o sid ≡ false → front ≡ lead form o → front ≡ front_of form o sid
unfolding front_of
front_by form o sid front b e = e ∙ rw b

-- A result handed on, and what is looked at of a segment that is not barred.
pub err_number : {A : Type 0} (r : Result A Reason) (e : Reason) → IsErrAnd r (λ y. y ≡ e) → refused_number r ≡ number_of e
err_number (Ok a) e h = absurd h
err_number (Err x) e h = ap number_of h

pub none_err : (r : Option ℕ) (x e : Reason) → ◌≡◌ {A = Result ℕ Reason} (Err x) (ok_or r e) → r ≡ None → number_of x ≡ number_of e
none_err None x e q h = let w : x ≡ e = cc in ap number_of w
none_err (Some n) x e q h = absurd (let z : ◌≡◌ {A = ℕ} 0 1 = cc in omega arith)

pub looking : (form : Form) (x : Lent) (h : Head) (front n p : ℕ) → Sized form → Readable form → h ≡ head_of_outline form x.outline
    → barred form x.outline x.sid.now ≡ false → front ≡ lead form x.outline → n ≡ nai_length form h.nt → p ≡ cond x.outline.structured structure_size 0
    → Looked form (lent_of x) h front n (front + n + p)
looking form x h front n p sized readable eh b ef en ep =
    record {
      sized = sized;
      readable = readable;
      typed = x.typed;
      head = eh;
      front = front_by form x.outline x.sid.now front b ef;
      nai = en ∙ ap (λ (h : Head). nai_length form h.nt) eh;
      whole = rw ep;
    }

-- tests --------------------------------------------------------------------------------------------------------

-- A refusal's number is not 0.
pub no_refusal : (a : Bool) (n m : ℕ) → cond a (suc n) m ≡ 0 → (a ≡ false) × (m ≡ 0)
no_refusal true n m e = absurd (omega arith)
no_refusal false n m e = (refl, e)

-- the place ----------------------------------------------------------------------------------------------------

pub record WithinRoom (end room : ℕ) : Type 0 where
  pub inside : end ≤ room
  pub most : end ≤ most_octets

pub within : (end room : ℕ) → passes end room ≡ false → WithinRoom end room
unfolding passes
within end room e =
    let p = either_false (ltb room end) (ltb most_octets end) e in
    record { inside = ltb-false room end p.0; most = ltb-false most_octets end p.1 }

pub record PlaceFine (at room : ℕ) : Type 0 where
  pub low : header ≤ at
  pub fours : at % unit ≡ 0
  pub inside : at ≤ room
  pub most : at ≤ most_octets

pub proper : (at room : ℕ) → bad_place at room ≡ false → PlaceFine at room
unfolding bad_place
proper at room e =
    let p = either_false (ltb at header) _ e in
    let q = either_false (not (eqb (at % unit) 0)) _ p.1 in
    let w = within at room q.1 in
    record { low = ltb-false at header p.0; fours = eqb-true (at % unit) 0 (not-false _ q.0); inside = w.inside; most = w.most }

-- add ----------------------------------------------------------------------------------------------------------

-- A segment that is fit keeps 7.
unfit_seven : (form : Form) (ero : Bool) (g : Segment) → unfit form g ero ≡ false → rule7 form (head_of_segment form g) ≡ false
unfolding unfit
unfit_seven form ero g u =
    let p = either_false (g.structured && not g.hassid) _ u in
    let q = either_false (not ero && (g.loose || g.verify)) _ p.1 in
    let r = either_false (not (tidy_of form g)) _ q.1 in
    (either_false (foreign form (outline_of g)) _ r.1).1

-- What an acceptance says of the segment,
pub record Fit (form : Form) (ero : Bool) (g : Segment) : Type 0 where
  pub sound : UnbrokenOf form g
  pub fit : unfit form g ero ≡ false

-- and of the place.
pub record Taken (form : Form) (room : ℕ) (ero : Bool) (at : ℕ) (g : Segment) : Type 0 where
  pub segment : Fit form ero g
  pub place : PlaceFine at room
  pub end : WithinRoom (at + length (subobject_of form g)) room

pub taken : (form : Form) (room : ℕ) (ero : Bool) (at : ℕ) (g : Segment) → add_number form g ero at room ≡ 0 → Taken form room ero at g
unfolding add_number no_room
taken form room ero at g e =
    let h = head_of_segment form g in
    let e8 = no_refusal (rule8 form h) 7 _ e in
    let e9 = no_refusal (rule9 h) 8 _ e8.1 in
    let e7 = no_refusal (unfit form g ero) 6 _ e9.1 in
    let e11 = no_refusal (rule11 h (bits_of g)) 10 _ e7.1 in
    let e29 = no_refusal (rule29 h (label_at g.sid 0)) 28 _ e11.1 in
    let e30 = no_refusal (rule30 h (time_at g.sid 0)) 29 _ e29.1 in
    let e16 = no_refusal (bad_place at room || passes (at + length (subobject_of form g)) room) 15 0 e30.1 in
    let p = either_false (bad_place at room) (passes (at + length (subobject_of form g)) room) e16.0 in
    let r7 = unfit_seven form ero g e7.0 in
    record {
      segment = record { sound = record { r8 = e8.0; r9 = e9.0; r7 = r7; r11 = e11.0; r29 = e29.0; r30 = e30.0 }; fit = e7.0 };
      place = proper at room p.0;
      end = within _ room p.1;
    }

-- The octets of a subobject are as many as its head says.
pub size_subobject : {form : Form} → Sized form → (g : Segment) → Typed g → (head_of_segment form g).size ≡ length (subobject_of form g)
unfolding head_of_segment expected_length
size_subobject z g h = sym (length_subobject z g h)

-- finish -------------------------------------------------------------------------------------------------------

pub record Done (room at : ℕ) : Type 0 where
  pub place : PlaceFine at room
  pub filled : at ≡ header → ⊥

pub done : (room at : ℕ) → finish_number at room ≡ 0 → Done room at
unfolding finish_number
done room at e =
    let e16 = no_refusal (bad_place at room) 15 _ e in
    let e5 = no_refusal (eqb at header) 4 0 e16.1 in
    record { place = proper at room e16.0; filled = eqb-false at header e5.0 }

-- the octets before an NAI --------------------------------------------------------------------------------------

front_lead : (form : Form) (o : Outline) (sid : List ℕ) (front : ℕ) → front ≡ front_of form o sid → barred form o sid ≡ false → front ≡ lead form o
unfolding front_of
front_lead form o sid front e b = e ∙ cond_no (barred form o sid) 0 (lead form o) b

-- what adding finds, from its looks -----------------------------------------------------------------------------

-- 8 and 9, by the octets of the NAI. A segment with an NAI breaks neither.
eight_no : (form : Form) (h : Head) → (h.nt ≡ 0 → ⊥) → (nai_length form h.nt ≡ 0 → ⊥) → rule8 form h ≡ false
unfolding rule8 knows
eight_no form h a b = rw (ne_eqb h.nt 0 a, ne_eqb (nai_length form h.nt) 0 b)

eight_none : (form : Form) (h : Head) → h.nt ≡ 0 → rule8 form h ≡ false
unfolding rule8 knows
eight_none form h e = rw (eq-eqb h.nt 0 e)

eight_yes : (form : Form) (h : Head) → (h.nt ≡ 0 → ⊥) → nai_length form h.nt ≡ 0 → rule8 form h ≡ true
unfolding rule8 knows
eight_yes form h a e = rw (ne_eqb h.nt 0 a, eq-eqb (nai_length form h.nt) 0 e)

nine_no : (h : Head) → h.f ≡ flag_f h.nt → (h.nt ≡ 0 → ⊥) → rule9 h ≡ false
unfolding rule9
nine_no h f a = rw (f, ne_eqb h.nt 0 a) (and_false (eqb h.s 1))

module _ (form : Form) (h : Head) (n : ℕ) (e : n ≡ nai_length form h.nt) (f : h.f ≡ flag_f h.nt) where
  some_nt : (n ≡ 0 → ⊥) → h.nt ≡ 0 → ⊥
  some_nt a q = a (e ∙ sym (nai_none form h.nt q))

  pub nameless_nai : (n ≡ 0 → ⊥) → 0 ≡ cond (rule8 form h) nai_unknown (cond (rule9 h) nothing_there 0)
  nameless_nai a = rw (eight_no form h (some_nt a) (λ q. a (e ∙ q)), nine_no h f (some_nt a))

  pub nameless_nine : rule9 h ≡ true → nothing_there ≡ cond (rule8 form h) nai_unknown (cond (rule9 h) nothing_there 0)
  nameless_nine t = go (eqb h.nt 0) refl
    where
      go : (b : Bool) → eqb h.nt 0 ≡ b → nothing_there ≡ cond (rule8 form h) nai_unknown (cond (rule9 h) nothing_there 0)
      go true q = rw (eight_none form h (eqb-true h.nt 0 q), t)
      go false q = absurd (false≢true (sym (nine_no h f (eqb-false h.nt 0 q)) ∙ t))

  pub nameless_eight : n ≡ 0 → (h.nt ≡ 0 → ⊥) → nai_unknown ≡ cond (rule8 form h) nai_unknown (cond (rule9 h) nothing_there 0)
  nameless_eight q a = rw (eight_yes form h a (sym e ∙ q))

  pub nameless_not : h.nt ≡ 0 → rule9 h ≡ false → 0 ≡ cond (rule8 form h) nai_unknown (cond (rule9 h) nothing_there 0)
  nameless_not q t = rw (eight_none form h q, t)

-- What that answers, in the order of the rules.
pub nameless_first : (a b : Bool) (r x : ℕ) → r ≡ cond a nai_unknown (cond b nothing_there 0) → (r ≡ 0 → ⊥) → r ≡ cond a nai_unknown (cond b nothing_there x)
nameless_first true b r x e n = e
nameless_first false true r x e n = e
nameless_first false false r x e n = absurd (n e)

pub nameless_none : (a b : Bool) (r : ℕ) → r ≡ cond a nai_unknown (cond b nothing_there 0) → r ≡ 0 → (a ≡ false) × (b ≡ false)
nameless_none a b r e z =
    let p = no_refusal a 7 _ (sym e ∙ z) in
    (p.0, (no_refusal b 8 0 p.1).0)

-- 7, by what bars a segment before its NAI.
unfit_by : (form : Form) (g : Segment) (ero : Bool) → Typed g
    → (barred form (outline_of g) g.sid || ((not ero && (g.loose || g.verify)) || not ((g.structured || zeros g.structure) && zeros (drop (nai_length form g.nt) g.nai))))
    ≡ unfit form g ero
unfolding unfit barred strayed head_of_segment
unfit_by form g ero typed =
    let zs = zeros (drop (cond g.hassid form.sid 0) g.sid) in
    let y = (g.structured || zeros g.structure) && zeros (drop (nai_length form g.nt) g.nai) in
    let lv = not ero && (g.loose || g.verify) in
    let fm = foreign form (outline_of g) || malformed (head_of_outline form (outline_of g)) in
    go fm (g.structured && not g.hassid) zs lv y ∙ rw (tidy_parts form g typed, seven_written form g)
  where
    go : (fm sh zs lv y : Bool) → ((fm || (sh || not zs)) || (lv || not y)) ≡ (sh || (lv || (not (zs && y) || fm)))
    go true true zs lv y = refl
    go false true zs lv y = refl
    go true false zs true y = refl
    go false false true true y = refl
    go false false false true y = refl
    go true false true false true = refl
    go true false true false false = refl
    go true false false false y = refl
    go false false true false true = refl
    go false false true false false = refl
    go false false false false y = refl

pub barred_unfit : (form : Form) (g : Segment) (ero : Bool) → Typed g → barred form (outline_of g) g.sid ≡ true → unfit form g ero ≡ true
barred_unfit form g ero typed b = sym (unfit_by form g ero typed) ∙ rw b

pub misfit_unfit : (form : Form) (g : Segment) (ero m : Bool) (n : ℕ) → Typed g → barred form (outline_of g) g.sid ≡ false → n ≡ nai_length form g.nt
    → m ≡ ((not ero && (g.loose || g.verify)) || not ((g.structured || zeros g.structure) && zeros (drop n g.nai))) → m ≡ unfit form g ero
misfit_unfit form g ero m n typed b en e = e ∙ rw en (rw b at (unfit_by form g ero typed))

-- A segment that is not unfit: what stands before its NAI, and how long it is.
pub record Fits (form : Form) (g : Segment) (front n size : ℕ) : Type 0 where
  pub parts : Parts form (head_of_segment form g) front n size
  pub there : g.structured ≡ has_structure (head_of_segment form g)
  pub all : size ≡ length (subobject_of form g)

tidy_sid : (form : Form) (g : Segment) → tidy_of form g ≡ true → zeros (drop (cond g.hassid form.sid 0) g.sid) ≡ true
unfolding tidy_of
tidy_sid form g e = (both_true (zeros (drop (cond g.hassid form.sid 0) g.sid)) _ e).0

fit_lead : {form : Form} → Sized form → (ero : Bool) (g : Segment) (front : ℕ) → front ≡ front_of form (outline_of g) g.sid → unfit form g ero ≡ false
    → (front ≡ lead form (outline_of g)) × ((g.structured && not g.hassid) ≡ false)
unfolding unfit barred strayed head_of_segment
fit_lead {form} z ero g front ef u =
    let o = outline_of g in
    let p = either_false (g.structured && not g.hassid) _ u in
    let q = either_false (not ero && (g.loose || g.verify)) _ p.1 in
    let r = either_false (not (tidy_of form g)) _ q.1 in
    let t = tidy_sid form g (not-false (tidy_of form g) r.0) in
    let m = ap (λ (x : Bool). foreign form o || x) (sym (seven_written form g)) ∙ r.1 in
    let b : barred form o g.sid ≡ false = rw (m, p.0, t) in
    (front_lead form o g.sid front ef b, p.0)

pub fits_by : {form : Form} {g : Segment} {h : Head} {front n size : ℕ} → Looked form g h front n size → (ero : Bool) → unfit form g ero ≡ false
    → Fits form g front n size
unfolding head_of_segment has_structure expected_length
fits_by {form} {g} {h} {front} {n} {size} d ero u =
    let p = fit_lead d.sized ero g front d.front u in
    let k : sid_length form (bit (not g.hassid)) ≡ cond g.hassid form.sid 0 = sid_bit g.hassid in
    let t : g.structured ≡ structure_there (bit (not g.hassid)) (bit g.structured) = there_bit g.structured g.hassid p.1 in
    let f : front ≡ form.fixed + sid_length form (bit (not g.hassid)) = p.0 ∙ rw k in
    let w : size ≡ expected_length form g.nt (bit (not g.hassid)) (bit g.structured) = d.whole ∙ rw (f, d.nai, ← t) in
    record { parts = record { front = f; nai = d.nai; whole = w }; there = t; all = w ∙ size_subobject d.sized g d.typed }
  where
    sid_bit : (a : Bool) → sid_length form (bit (not a)) ≡ cond a form.sid 0
    sid_bit true = refl
    sid_bit false = refl

    there_bit : (s a : Bool) → (s && not a) ≡ false → s ≡ structure_there (bit (not a)) (bit s)
    there_bit true true e = refl
    there_bit true false e = absurd (let x : ◌≡◌ {A = ℕ} 0 1 = cc in omega arith)
    there_bit false true e = refl
    there_bit false false e = refl

-- Its length is an octet's.
pub front_most : {form : Form} → Sized form → (o : Outline) (sid : List ℕ) (front : ℕ) → front ≡ front_of form o sid → front ≤ 24
unfolding front_of
front_most {form} z o sid front e = go (barred form o sid) e
  where
    go : (b : Bool) → front ≡ cond b 0 (lead form o) → front ≤ 24
    go true q = omega arith
    go false q = omega (arith, fixed_most z, z.sid, cond_most o.hassid form.sid)

pub looked_most : {form : Form} {g : Segment} {h : Head} {front n size : ℕ} → Looked form g h front n size → size ≤ 72
looked_most {form} {g} {front = front} k =
    omega (
      arith,
      k.whole,
      k.nai,
      front_most k.sized (outline_of g) g.sid front k.front,
      nai_most k.sized g.nt,
      cond_most g.structured structure_size,
    )

-- 11, where a structure has a SID.
pub overlong_eleven : (form : Form) (g : Segment) (u : Bool) → g.structured ≡ has_structure (head_of_segment form g)
    → u ≡ (g.structured && ltb most_bits (sum_at g.structure 0)) → u ≡ rule11 (head_of_segment form g) (bits_of g)
unfolding rule11 bits_of
overlong_eleven form g u t e = e ∙ ap (λ (x : Bool). x && ltb most_bits (sum_at g.structure 0)) t

-- What has no structure keeps 11, and what has no label 29 and 30.
no_structure : (form : Form) (g : Segment) → g.structured ≡ false → has_structure (head_of_segment form g) ≡ false
unfolding has_structure head_of_segment
no_structure form g e = rw e (go g.hassid)
  where
    go : (a : Bool) → structure_there (bit (not a)) (bit false) ≡ false
    go true = refl
    go false = refl

pub no_structure_11 : (form : Form) (g : Segment) → g.structured ≡ false → rule11 (head_of_segment form g) (bits_of g) ≡ false
unfolding rule11
no_structure_11 form g e = ap (λ (x : Bool). x && ltb most_bits (bits_of g)) (no_structure form g e)

no_label : (form : Form) (g : Segment) → g.labelled ≡ false → has_label (head_of_segment form g) ≡ false
unfolding head_of_segment
no_label form g e = unlabelled (head_of_segment form g) (λ z. let q : bit g.labelled ≡ 0 = rw e in omega arith)

pub no_label_29 : (form : Form) (g : Segment) (label : ℕ) → g.labelled ≡ false → rule29 (head_of_segment form g) label ≡ false
unfolding rule29
no_label_29 form g label e = rw (no_label form g e)

pub no_label_30 : (form : Form) (g : Segment) (time : ℕ) → g.labelled ≡ false → rule30 (head_of_segment form g) time ≡ false
unfolding rule30
no_label_30 form g time e = rw (no_label form g e)
