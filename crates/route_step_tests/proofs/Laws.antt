-- What each way out of the code answers. Assumes nothing.
use Prim.Native.Nat.{ℕ, ◌+◌, ◌-◌, ◌%◌, ◌≤◌, ◌<◌}
use native.Mathlib.Omega.{arith}
use mathlib.Core.Path.{◌≡◌, refl, ap, ◌∙◌}
use mathlib.Core.List.{List}
use mathlib.Core.Bool.{Bool, true, false, not, ◌&&◌}
use lib.Dec.{eqb, ltb, leb}
use lib.ListN.{length, take, drop}
use lib.Seq.{get_or-take, get_or-drop}
use native.Mathlib.Nat.{add-sub_cancel_left}
use borrow.Author.Tests.{eq-eqb, ne_eqb, lt-ltb, le-ltb, le-leb, leb-false, ltb-false, eqb-true, not-false}
use Rattle.octets.specs.Octets.{octet_of}
use Rattle.octets.proofs.Said.{both_true, either_false}
use Rattle.objects.specs.Objects.{header, unit}
use Rattle.forms.specs.declared.Form.{Form}
use Rattle.subobject.specs.declared.head.Head.{Head}
use Rattle.subobject.specs.Layout.{sid_place, sid_length}
use Rattle.subobject.specs.Rules.{has_label, label_at, time_at}
use Rattle.frame.specs.Frames.{fits_in}
use Rattle.frame.proofs.Laws.{over_room, no_multiple, fits_true}
use Rattle.route_step_tests.specs.Places.{outside}

-- ---- 15
module _ (s : List ℕ) (at : ℕ) where
  pub in_the_header : at < header → true ≡ outside s at
  unfolding outside
  in_the_header h = rw (lt-ltb at header h)

  pub no_multiple_of_4 : header ≤ at → (at % unit ≡ 0 → ⊥) → true ≡ outside s at
  unfolding outside
  no_multiple_of_4 h n = rw (le-ltb at header h, ne_eqb (at % unit) 0 n)

  pub by_the_end : header ≤ at → at % unit ≡ 0 → leb (length s) at ≡ outside s at
  unfolding outside
  by_the_end h e = rw (le-ltb at header h, eq-eqb (at % unit) 0 e)

  pub inside : outside s at ≡ false → (header ≤ at) × (at % unit ≡ 0) × (at < length s)
  unfolding outside
  inside e =
      let a = either_false (ltb at header) _ e in
      let b = either_false (not (eqb (at % unit) 0)) _ a.1 in
      (ltb-false at header a.0, eqb-true (at % unit) 0 (not-false _ b.0), leb-false (length s) at b.1)

-- ---- 4
module _ (len room : ℕ) where
  pub unfit_room : room < len → true ≡ not (fits_in len room)
  unfit_room h = ap not (over_room len room h)

  pub unfit_unit : room < unit → true ≡ not (fits_in len room)
  unfolding fits_in
  unfit_unit h = go (ltb len unit) refl
    where
      go : (b : Bool) → ltb len unit ≡ b → true ≡ not (fits_in len room)
      go true e = rw e
      go false e = ap not (over_room len room (omega (arith, ltb-false len unit e)))

  pub unfit_multiple : (len % unit ≡ 0 → ⊥) → true ≡ not (fits_in len room)
  unfit_multiple n = ap not (no_multiple len room n)

  pub unfit_short : len ≤ room → len % unit ≡ 0 → ltb len unit ≡ not (fits_in len room)
  unfolding fits_in
  unfit_short h e = rw (le-leb len room h, eq-eqb (len % unit) 0 e) (go (ltb len unit))
    where
      go : (b : Bool) → b ≡ not (not b && true)
      go true = refl
      go false = refl

  pub fit : not (fits_in len room) ≡ false → (unit ≤ len) × (len ≤ room)
  fit e = let f = fits_true len room (not-false _ e) in (f.0, f.2)

-- ---- 29, 30

-- The label of a subobject whose SID is there is there.
pub label_room : (form : Form) (s : List ℕ) (at : ℕ) (h : Head) → has_label h ≡ true → sid_place form at + sid_length form h.s ≤ length s → 4 ≤ form.sid
    → sid_place form at + 4 ≤ length s
unfolding has_label
label_room form s at h e l m = let z = (both_true (eqb h.s 0) _ e).0 in omega (arith, rw z at l, m)

-- A label stack entry that was cut out says what it said in its place.
entry_octet : (s : List ℕ) (at k : ℕ) → k < 4 → octet_of (take (at + 4 - at) (drop at s)) k ≡ octet_of s (at + k)
unfolding octet_of
entry_octet s at k h = rw (add-sub_cancel_left at 4) (get_or-take 4 (drop at s) k 0 h ∙ get_or-drop at s k 0)

pub entry_label : (s : List ℕ) (at : ℕ) → label_at (take (at + 4 - at) (drop at s)) 0 ≡ label_at s at
unfolding label_at
entry_label s at =
    let z : at + 0 ≡ at = omega arith in
    rw (entry_octet s at 0 (omega arith), entry_octet s at 1 (omega arith), entry_octet s at 2 (omega arith), z)

pub entry_time : (s : List ℕ) (at : ℕ) → time_at (take (at + 4 - at) (drop at s)) 0 ≡ time_at s at
unfolding time_at
entry_time s at = entry_octet s at 3 (omega arith)
