-- The count of stray segments: it is that of the segments found stray when each is asked for, it is at most their number, and a refusal has none.
-- Assumes nothing.
use Prim.Native.Nat.{ℕ, zero, suc, ◌+◌, ◌≤◌, ◌<◌}
use mathlib.Core.Path.{◌≡◌, refl, sym, ap}
use mathlib.Core.List.{List, [], ◌∷◌}
use mathlib.Core.Bool.{Bool}
use lib.ListN.{length, get_or, drop, drop_of_length-le}
use lib.Seq.{drop-cons}
use native.Mathlib.Omega.{arith}
use Rattle.forms.specs.declared.Form.{Form}
use Rattle.answers.specs.declared.verdict.Verdict.{Verdict}
use Rattle.octets.proofs.Said.{cond_most}
use Rattle.session.specs.declared.Session.{Session}
use Rattle.subobject_strays.specs.Strays.{strays_at, is_stray, stray_in}
use Rattle.frame.specs.Checks.{Check, first_broken}
use Rattle.frame.specs.Frames.{places_of}
use Rattle.frame.proofs.Checks.{first_keeps}
use Rattle.route.specs.Picked.{Picked}
use Rattle.route.specs.Routes.{checks_of, count_of, stray_count, acceptance_of, judge_as, segment_as}
use Rattle.route.specs.Asked.{stray_asked}
use Rattle.route.proofs.Answer.{accepted_count, pick_there}

-- The count of an accepted route is that of the segments found stray when each is asked for.
module _ (form : Form) (s : List ℕ) (ero : Bool) (session : Session) (pst : ℕ) (z : (judge_as form s ero session pst).number ≡ 0) where
  handed : (i : ℕ) → i < count_of s → (segment_as form s ero session pst i).strays ≡ strays_at form s ero (get_or (places_of s) i 0)
  handed i h =
      let l : i < (judge_as form s ero session pst).count = rw (accepted_count form s ero session pst z) h in
      sym (ap (λ (x : Picked). x.strays) (pick_there form s ero session pst i (judge_as form s ero session pst) refl z l refl refl refl))

  asked : (n i : ℕ) → i + n ≡ count_of s → stray_asked form s ero session pst i n ≡ stray_in form s ero (drop i (places_of s))
  asked zero i e = let h : length (places_of s) ≤ i = omega arith in rw (drop_of_length-le (places_of s) h)
  asked (suc n) i e =
      let h : i < length (places_of s) = omega arith in
      rw (drop-cons (places_of s) i 0 h, handed i h, asked n (suc i) (omega arith))

  pub stray_asked_lem : (judge_as form s ero session pst).stray ≡ stray_asked form s ero session pst 0 (judge_as form s ero session pst).count
  stray_asked_lem = rw (accepted_count form s ero session pst z) (sym (asked (count_of s) 0 (omega arith)))

-- At most the number of segments,
stray_places : (form : Form) (s : List ℕ) (ero : Bool) (ps : List ℕ) → stray_in form s ero ps ≤ length ps
stray_places form s ero [] = omega arith
stray_places form s ero (p ∷ ps) = omega (arith, cond_most (is_stray (strays_at form s ero p)) 1, stray_places form s ero ps)

within : (cs : List Check) (v : Verdict) → v.stray ≤ v.count → (first_broken cs v).stray ≤ (first_broken cs v).count
within cs v h = first_keeps (λ x. x.stray ≤ x.count) (λ n p. omega arith) cs h

pub stray_within : (form : Form) (s : List ℕ) (ero : Bool) (session : Session) (pst : ℕ) → (judge_as form s ero session pst).stray ≤ (judge_as form s ero session pst).count
unfolding judge_as
stray_within form s ero session pst = within (checks_of form s ero session pst) (acceptance_of form s ero) (stray_places form s ero (places_of s))

-- and 0 after a refusal,
refusing : (cs : List Check) (v : Verdict) → v.number ≡ 0 → ((first_broken cs v).number ≡ 0 → ⊥) → (first_broken cs v).stray ≡ 0
refusing cs v z n = first_keeps (λ x. (x.number ≡ 0 → ⊥) → x.stray ≡ 0) (λ k p m. refl) cs (λ m. absurd (m z)) n

pub refused_unstray : (form : Form) (s : List ℕ) (ero : Bool) (session : Session) (pst : ℕ) → ((judge_as form s ero session pst).number ≡ 0 → ⊥)
    → (judge_as form s ero session pst).stray ≡ 0
unfolding judge_as
refused_unstray form s ero session pst n = refusing (checks_of form s ero session pst) (acceptance_of form s ero) refl n

-- and where no subobject is stray.
clean : (cs : List Check) (v : Verdict) → v.stray ≡ 0 → (first_broken cs v).stray ≡ 0
clean cs v h = first_keeps (λ x. x.stray ≡ 0) (λ n p. refl) cs h

pub none_stray : (form : Form) (s : List ℕ) (ero : Bool) (session : Session) (pst : ℕ) → stray_count form s ero ≡ 0 → (judge_as form s ero session pst).stray ≡ 0
unfolding judge_as
none_stray form s ero session pst e = clean (checks_of form s ero session pst) (acceptance_of form s ero) e
