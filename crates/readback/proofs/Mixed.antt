-- A run in which adds were refused and finishes stand in between ends as the run of the adds that were accepted. The two buffers differ
-- on the way in the header's length only, which the last finish writes.
use Prim.Native.Nat.{ℕ, suc, ◌+◌, ◌-◌, ◌≤◌}
use mathlib.Core.Path.{◌≡◌, refl, sym, ◌∙◌, ap}
use mathlib.Core.Bool.{Bool}
use mathlib.Core.List.{List, [], ◌∷◌, ◌++◌, append_assoc}
use lib.ListN.{length, take, drop}
use lib.Seq.{take-append-add, drop-append-add}
use native.Mathlib.Omega.{arith}
use Rattle.octets.specs.Octets.{hi, lo, over, placed}
use Rattle.forms.specs.Forms.{form_of}
use Rattle.subobject.specs.declared.segment.Segment.{Segment}
use Rattle.subobject.specs.Segments.{subobject_of}
use Rattle.writer_state.specs.declared.Writer.{Writer}
use Rattle.writer_rules.specs.Refusals.{add_number, finish_number}
use Rattle.writer_rules.proofs.Laws.{taken}
use Rattle.writer_begin_finish.specs.Ends.{header_of, begin_number, begin_answer, begin_buffer, finish_answer, finish_buffer}
use Rattle.writer.specs.Writing.{add_answer_in, add_buffer_in}
use Rattle.readback.specs.Runs.{WriterCall, begin_run, finish_run, adds_run, write_run, acts_run, any_run, taken_from, taken_in, Accepted}
use Rattle.readback.specs.Runs.WriterCall.{adding, finishing}
use Rattle.readback.proofs.Images.{went_on, begin_number_lem, finish_number_lem, add_onward, begin_onward}

-- Two buffers that hold one object under way, but for the length in the header.
record Alike (ero : Bool) (b c : List ℕ) : Type 0 where
  n : ℕ
  m : ℕ
  tail : List ℕ
  first : b ≡ header_of ero n ++ tail
  second : c ≡ header_of ero m ++ tail

same_length : {ero : Bool} {b c : List ℕ} → Alike ero b c → length b ≡ length c
unfolding header_of
same_length a = rw (a.first, a.second)

-- What is laid behind a header leaves the header.
placed_past : (h t x : List ℕ) (k at : ℕ) → at ≡ length h + k → placed (h ++ t) at x ≡ h ++ placed t k x
unfolding placed
placed_past h t x k at e = rw (e, take-append-add h t k, drop-append-add h t k) (append_assoc h (take k t) (over x (drop k t)))

added : {ero : Bool} {b c : List ℕ} (x : List ℕ) (at : ℕ) → Alike ero b c → 4 ≤ at → Alike ero (placed b at x) (placed c at x)
unfolding header_of
added {ero} x at a l =
    let e : at ≡ 4 + (at - 4) = omega arith in
    record {
      n = a.n;
      m = a.m;
      tail = placed a.tail (at - 4) x;
      first = rw a.first (placed_past (header_of ero a.n) a.tail x (at - 4) at e);
      second = rw a.second (placed_past (header_of ero a.m) a.tail x (at - 4) at e);
    }

-- A finish that is accepted writes the length, and nothing else.
finished : (ero : Bool) (b tail : List ℕ) (n at : ℕ) → b ≡ header_of ero n ++ tail → placed b 2 (hi at ∷ lo at ∷ []) ≡ header_of ero at ++ tail
unfolding header_of placed over
finished ero b tail n at e = rw e

-- The last finish, on either buffer.
ended : {ero : Bool} (b c : List ℕ) (w : Writer) → Alike ero b c → finish_number w.at (length b) ≡ 0 → finish_run b w ≡ finish_run c w
unfolding finish_answer finish_buffer
ended {ero} b c w a e =
    let l = same_length a in
    let f : finish_number w.at (length c) ≡ 0 = rw l at e in
    rw (e, f, finished ero b a.tail a.n w.at a.first, finished ero c a.tail a.m w.at a.second)

none_left : {ero : Bool} (b c : List ℕ) (w : Writer) → Alike ero b c → Accepted (acts_run b w []) → acts_run b w [] ≡ adds_run c w (taken_from b w [])
unfolding acts_run adds_run taken_from
none_left b c w a e = ended b c w a (sym (finish_number_lem b w) ∙ e)

-- The state behind a segment.
abbrev behind : Writer → Segment → Writer
behind w g = record { ero = w.ero; at = w.at + length (subobject_of (form_of w.form) g); form = w.form }

-- An add that is accepted goes on.
adds_on : (c : List ℕ) (w : Writer) (g : Segment) (gs : List Segment) → add_number (form_of w.form) g w.ero w.at (length c) ≡ 0
    → adds_run c w (g ∷ gs) ≡ adds_run (placed c w.at (subobject_of (form_of w.form) g)) (behind w g) gs
unfolding adds_run
adds_on c w g gs e = add_onward c w g (λ b' w'. adds_run b' w' gs) e

-- What a call leaves, by its number.
after_add : (b : List ℕ) (w : Writer) (g : Segment) (cs : List WriterCall) → add_number (form_of w.form) g w.ero w.at (length b) ≡ 0
    → (acts_run b w (adding g ∷ cs) ≡ acts_run (placed b w.at (subobject_of (form_of w.form) g)) (behind w g) cs)
    × (taken_from b w (adding g ∷ cs) ≡ g ∷ taken_from (placed b w.at (subobject_of (form_of w.form) g)) (behind w g) cs)
unfolding acts_run taken_from add_answer_in add_buffer_in
after_add b w g cs e = (rw e, rw e)

after_refused : (b : List ℕ) (w : Writer) (g : Segment) (cs : List WriterCall) (k : ℕ) → add_number (form_of w.form) g w.ero w.at (length b) ≡ suc k
    → (acts_run b w (adding g ∷ cs) ≡ acts_run b w cs) × (taken_from b w (adding g ∷ cs) ≡ taken_from b w cs)
unfolding acts_run taken_from add_answer_in add_buffer_in
after_refused b w g cs k e = (rw e, rw e)

after_finish : (b : List ℕ) (w : Writer) (cs : List WriterCall) → finish_number w.at (length b) ≡ 0
    → (acts_run b w (finishing ∷ cs) ≡ acts_run (placed b 2 (hi w.at ∷ lo w.at ∷ [])) w cs)
    × (taken_from b w (finishing ∷ cs) ≡ taken_from (placed b 2 (hi w.at ∷ lo w.at ∷ [])) w cs)
unfolding acts_run taken_from finish_answer finish_buffer
after_finish b w cs e = (rw e, rw e)

after_unfinished : (b : List ℕ) (w : Writer) (cs : List WriterCall) (k : ℕ) → finish_number w.at (length b) ≡ suc k
    → (acts_run b w (finishing ∷ cs) ≡ acts_run b w cs) × (taken_from b w (finishing ∷ cs) ≡ taken_from b w cs)
unfolding acts_run taken_from finish_answer finish_buffer
after_unfinished b w cs k e = (rw e, rw e)

-- The calls behind begin, on one buffer, and the adds that were accepted, on the other: what is said of the calls that are left.
abbrev Same : Bool → List WriterCall → Type 0
Same ero cs = (b c : List ℕ) (w : Writer) → Alike ero b c → Accepted (acts_run b w cs) → acts_run b w cs ≡ adds_run c w (taken_from b w cs)

add_turn : {ero : Bool} (g : Segment) (cs : List WriterCall) → Same ero cs → (b c : List ℕ) (w : Writer) → Alike ero b c → Accepted (acts_run b w (adding g ∷ cs))
    → (n : ℕ) → add_number (form_of w.form) g w.ero w.at (length b) ≡ n → acts_run b w (adding g ∷ cs) ≡ adds_run c w (taken_from b w (adding g ∷ cs))
add_turn g cs ih b c w a e ℕ.zero q =
    let x = subobject_of (form_of w.form) g in
    let w' = behind w g in
    let p = after_add b w g cs q in
    let t = taken (form_of w.form) (length b) w.ero w.at g q in
    let i = ih (placed b w.at x) (placed c w.at x) w' (added x w.at a t.place.low) (rw p.0 at e) in
    let o = adds_on c w g (taken_from (placed b w.at x) w' cs) (rw (same_length a) at q) in
    p.0 ∙ i ∙ sym o ∙ sym (ap (adds_run c w) p.1)
add_turn g cs ih b c w a e (ℕ.suc k) q =
    let p = after_refused b w g cs k q in
    p.0 ∙ ih b c w a (rw p.0 at e) ∙ sym (ap (adds_run c w) p.1)

finish_turn : {ero : Bool} (cs : List WriterCall) → Same ero cs → (b c : List ℕ) (w : Writer) → Alike ero b c → Accepted (acts_run b w (finishing ∷ cs))
    → (n : ℕ) → finish_number w.at (length b) ≡ n → acts_run b w (finishing ∷ cs) ≡ adds_run c w (taken_from b w (finishing ∷ cs))
finish_turn {ero} cs ih b c w a e ℕ.zero q =
    let p = after_finish b w cs q in
    let d = placed b 2 (hi w.at ∷ lo w.at ∷ []) in
    let f : Alike ero d c
    = record { n = w.at; m = a.m; tail = a.tail; first = finished ero b a.tail a.n w.at a.first; second = a.second } in
    p.0 ∙ ih d c w f (rw p.0 at e) ∙ sym (ap (adds_run c w) p.1)
finish_turn cs ih b c w a e (ℕ.suc k) q =
    let p = after_unfinished b w cs k q in
    p.0 ∙ ih b c w a (rw p.0 at e) ∙ sym (ap (adds_run c w) p.1)

acts : {ero : Bool} (cs : List WriterCall) → Same ero cs
acts [] b c w a e = none_left b c w a e
acts (adding g ∷ cs) b c w a e = add_turn g cs (acts cs) b c w a e (add_number (form_of w.form) g w.ero w.at (length b)) refl
acts (finishing ∷ cs) b c w a e = finish_turn cs (acts cs) b c w a e (finish_number w.at (length b)) refl

begun : (b : List ℕ) (ero : Bool) → over (header_of ero 4) b ≡ header_of ero 4 ++ drop 4 b
unfolding header_of over
begun b ero = refl

-- Begin, adds and finishes in any order, then a finish that is accepted: all is as after begin, the adds that were accepted, and finish.
pub any_run_lem : (b : List ℕ) (w : Writer) (ero : Bool) (pst : ℕ) (cs : List WriterCall) → Accepted (any_run b w cs ero pst)
    → any_run b w cs ero pst ≡ write_run b w (taken_in b w cs ero pst) ero pst
unfolding any_run write_run taken_in begin_answer begin_buffer
any_run_lem b w ero pst cs e =
    let n = went_on (begin_run b w ero pst) (λ b' w'. acts_run b' w' cs) e (begin_number (length b)) (begin_number_lem b w ero pst) in
    let h = over (header_of ero 4) b in
    let w' : Writer = record { ero = ero; at = 4; form = (form_of pst).setup } in
    let q = begin_onward b w ero pst (λ b'' w''. acts_run b'' w'' cs) n in
    let a : Alike ero h h = record { n = 4; m = 4; tail = drop 4 b; first = begun b ero; second = begun b ero } in
    let t : taken_in b w cs ero pst ≡ taken_from h w' cs = rw n in
    let o = begin_onward b w ero pst (λ b'' w''. adds_run b'' w'' (taken_from h w' cs)) n in
    q ∙ acts cs h h w' a (rw q at e) ∙ sym o ∙ sym (ap (λ (gs : List Segment). write_run b w gs ero pst) t)
