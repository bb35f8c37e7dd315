-- The answer by its parts: the frame's, 13's, the walk's, 12's. The checks of a route are a list, so each part is a law of lists: a broken check in it answers, an
-- unbroken part hands on to what follows (frame/proofs/Checks). Assumes nothing.
use Prim.Native.Nat.{ℕ, ◌≤◌, ◌<◌}
use mathlib.Core.Path.{◌≡◌, refl, sym, ◌∙◌, ap}
use mathlib.Core.List.{List, [], ◌∷◌}
use mathlib.Core.Bool.{Bool, true, false, cond}
use lib.Dec.{eqb}
use lib.ListN.{length, get_or}
use native.Mathlib.Omega.{arith}
use borrow.Author.Tests.{eqb-true, eqb-false, not-false}
use Rattle.forms.specs.declared.Form.{Form}
use Rattle.answers.specs.declared.verdict.Verdict.{Verdict}
use Rattle.answers.specs.Numbers.{not_agreed}
use Rattle.answers.specs.Verdicts.{refused_by, accepted_with, carrying_both, refusal_of, counted_of}
use Rattle.answers.specs.declared.refusal.Refusal.{Refusal}
use Rattle.answers.proofs.Results.{refused_numbered}
use Rattle.std.proofs.Common.{Result, Ok, Err}
use Rattle.session.specs.declared.Session.{Session}
use Rattle.octets.specs.Octets.{be16, end16}
use Rattle.objects.specs.Objects.{header}
use Rattle.octets.proofs.Said.{both_true}
use Rattle.frame.specs.Checks.{check, first_broken}
use Rattle.frame.specs.Frames.{headed, apart_of, places_of, rule4, frame_checks}
use Rattle.frame.specs.Gathered.{frame_of}
use Rattle.frame.proofs.Checks.{first_append, None, AllNumbered, none_first, numbered_append, first_none, first_some}
use Rattle.frame.proofs.Laws.{headed_sized}
use Rattle.route_walk.specs.Walk.{subobject_checks, walk_of}
use Rattle.route_rules.specs.SessionRules.{rule13, last_checks}
use Rattle.route_rules.specs.Parts.{limited_of}
use Rattle.route_ordered.specs.Judged.{later_checks, checks_of, count_of, stray_count, acceptance_of, judge_as}

-- every check has a number (of all of them `numbered_all`, below) ----------------------------------------------

pub numbered_subobjects : (form : Form) (s : List ℕ) (ero n : Bool) (ps : List ℕ) → AllNumbered (subobject_checks form s ero n ps)
numbered_subobjects form s ero n [] = tt
numbered_subobjects form s ero n (p ∷ ps) =
    (omega arith, (omega arith, (omega arith, (omega arith, (omega arith, (omega arith, (omega arith, numbered_subobjects form s ero n ps)))))))

pub numbered_frame : (form : Form) (ero : Bool) (s : List ℕ) → AllNumbered (frame_checks s ero form.kind)
numbered_frame form ero s = (omega arith, (omega arith, (omega arith, (omega arith, tt))))

-- the frame ----------------------------------------------------------------------------------------------------

-- An unbroken 4: the header is sound, and the subobjects fill the object.
pub frame_sound : (ero : Bool) (s : List ℕ) → rule4 s ero ≡ false → (headed s ero ≡ true) × ((apart_of s).whole ≡ true)
unfolding rule4
frame_sound ero s e = both_true (headed s ero) (apart_of s).whole (not-false _ e)

-- The octets' number is that of two octets.
pub frame_bounds : (ero : Bool) (s : List ℕ) → rule4 s ero ≡ false → get_or s 2 0 < 256 → get_or s 3 0 < 256
    → (header ≤ length s) × (length s < end16) × ((apart_of s).whole ≡ true)
unfolding be16
frame_bounds ero s e h l =
    let f = frame_sound ero s e in
    let n = headed_sized ero s f.0 in
    (n.low, omega (arith, n.read), f.1)

module _ (form : Form) (s : List ℕ) (ero : Bool) (session : Session) (pst : ℕ) (f : Verdict) (e : f ≡ frame_of s ero form.kind) where
  pub frame_stops : (f.number ≡ 0 → ⊥) → f ≡ judge_as form s ero session pst
  unfolding frame_of judge_as
  frame_stops n =
      e
      ∙ first_some (frame_checks s ero form.kind) (accepted_with (count_of s))
      (first_broken
      (check not_agreed 0 (rule13 form session.agreed pst) ∷ later_checks form s ero session)
      (acceptance_of form s ero))
      refl (λ z. n (rw e z))

  pub frame_none : f.number ≡ 0 → None (frame_checks s ero form.kind)
  unfolding frame_of
  frame_none z = first_none (frame_checks s ero form.kind) (accepted_with (count_of s)) (numbered_frame form ero s) (rw e at z)

  pub frame_count : f.number ≡ 0 → f.count ≡ count_of s
  unfolding frame_of
  frame_count z = ap (λ (v : Verdict). v.count) (e ∙ none_first (frame_checks s ero form.kind) (accepted_with (count_of s)) (frame_none z))

-- The same, of a result.
module _ (form : Form) (s : List ℕ) (ero : Bool) (session : Session) (pst : ℕ) (r : Result ℕ Refusal) (e : counted_of r ≡ frame_of s ero form.kind) where
  pub frame_refused : (x : Refusal) → r ≡ Err x → refusal_of x ≡ judge_as form s ero session pst
  frame_refused x q = let f : refusal_of x ≡ frame_of s ero form.kind = rw q at e in frame_stops form s ero session pst (refusal_of x) f (refused_numbered x)

  pub frame_passed : (count : ℕ) → r ≡ Ok count → None (frame_checks s ero form.kind) × (count ≡ count_of s)
  frame_passed count q =
      let f : accepted_with count ≡ frame_of s ero form.kind = rw q at e in
      (frame_none form s ero session pst (accepted_with count) f refl, frame_count form s ero session pst (accepted_with count) f refl)

-- the rest of the answer ---------------------------------------------------------------------------------------

module _ (form : Form) (s : List ℕ) (ero : Bool) (session : Session) (pst : ℕ) (h : None (frame_checks s ero form.kind)) where
  pub agreed_stops : rule13 form session.agreed pst ≡ true → refused_by not_agreed 0 ≡ judge_as form s ero session pst
  unfolding judge_as
  agreed_stops e =
      sym
      (none_first (frame_checks s ero form.kind)
      (first_broken
      (check not_agreed 0 (rule13 form session.agreed pst) ∷ later_checks form s ero session)
      (acceptance_of form s ero))
      h
      ∙ rw e)

  pub after_whole : rule13 form session.agreed pst ≡ false
      → first_broken (subobject_checks form s ero session.n (places_of s))
      (first_broken (last_checks (places_of s) ero session.limit (count_of s)) (acceptance_of form s ero))
      ≡ judge_as form s ero session pst
  unfolding judge_as
  after_whole e =
      sym
      (none_first (frame_checks s ero form.kind)
      (first_broken
      (check not_agreed 0 (rule13 form session.agreed pst) ∷ later_checks form s ero session)
      (acceptance_of form s ero))
      h
      ∙ rw e
      (first_append (subobject_checks form s ero session.n (places_of s)) (last_checks (places_of s) ero session.limit (count_of s)) (acceptance_of form s ero)))

  -- The walk's answer if it refuses,
  walk_stops : (w : Verdict) (count : ℕ) → rule13 form session.agreed pst ≡ false → w ≡ walk_of form s ero session.n count → (w.number ≡ 0 → ⊥)
      → w ≡ judge_as form s ero session pst
  unfolding walk_of
  walk_stops w count e q n =
      q
      ∙ first_some (subobject_checks form s ero session.n (places_of s)) (carrying_both count (stray_count form s ero))
      (first_broken (last_checks (places_of s) ero session.limit (count_of s)) (acceptance_of form s ero)) refl (λ z. n (rw q z))
      ∙ after_whole e

  -- else 12's: "last 12".
  limit_ends : (w : Verdict) (count : ℕ) → rule13 form session.agreed pst ≡ false → w ≡ walk_of form s ero session.n count → w.number ≡ 0 → count ≡ count_of s
      → first_broken (last_checks (places_of s) ero session.limit w.count) w ≡ judge_as form s ero session pst
  unfolding walk_of
  limit_ends w count e q z c =
      let passed =
      first_none (subobject_checks form s ero session.n (places_of s)) (carrying_both count (stray_count form s ero))
      (numbered_subobjects form s ero session.n (places_of s)) (rw q at z) in
      let v : w ≡ acceptance_of form s ero =
      q ∙ none_first (subobject_checks form s ero session.n (places_of s)) (carrying_both count (stray_count form s ero)) passed ∙ ap (λ (x : ℕ). carrying_both x (stray_count form s ero)) c in
      rw v
      (sym
      (none_first (subobject_checks form s ero session.n (places_of s))
      (first_broken (last_checks (places_of s) ero session.limit (count_of s)) (acceptance_of form s ero)) passed)
      ∙ after_whole e)

  pub walk_then_limit : (w r : Verdict) (count : ℕ) → rule13 form session.agreed pst ≡ false → w ≡ walk_of form s ero session.n count → count ≡ count_of s
      → r ≡ limited_of w s ero session.limit → r ≡ judge_as form s ero session pst
  unfolding limited_of
  walk_then_limit w r count e q c p = p ∙ go (eqb w.number 0) refl
    where
      go : (b : Bool) → eqb w.number 0 ≡ b → cond b (first_broken (last_checks (places_of s) ero session.limit w.count) w) w ≡ judge_as form s ero session pst
      go true z = limit_ends w count e q (eqb-true w.number 0 z) c
      go false z = walk_stops w count e q (eqb-false w.number 0 z)

-- all checks ---------------------------------------------------------------------------------------------------

pub numbered_all : (form : Form) (s : List ℕ) (ero : Bool) (session : Session) (pst : ℕ) → AllNumbered (checks_of form s ero session pst)
numbered_all form s ero session pst =
    let rest =
    numbered_append (subobject_checks form s ero session.n (places_of s)) (last_checks (places_of s) ero session.limit (count_of s))
    (numbered_subobjects form s ero session.n (places_of s)) (omega arith, tt) in
    (omega arith, (omega arith, (omega arith, (omega arith, (omega arith, rest)))))
