-- Under every setup type but 1 judging and picking compute to SRv6's own, in document 01's numbers (specs/Alone). Each rule of SRv6's form is rewritten into the
-- paper's words (`r7` to `r30`; 29 and 30 never hold), then along the subobjects the checks give the same answer (`all_alone`). Assumes nothing.
use Prim.Native.Nat.{ℕ, ◌+◌}
use mathlib.Core.Path.{◌≡◌, refl, sym, ◌∙◌, ap}
use mathlib.Core.List.{List, [], ◌∷◌, ◌++◌, append-nil}
use mathlib.Core.Bool.{Bool, true, false, cond, not, ◌&&◌, ◌||◌}
use lib.ListN.{length, get_or}
use lib.Dec.{eqb, ltb}
use native.Mathlib.Nat.{div-one}
use Rattle.octets.proofs.Said.{and_false}
use Rattle.answers.specs.declared.verdict.Verdict.{Verdict}
use Rattle.answers.specs.Verdicts.{carrying_both}
use Rattle.octets.specs.Octets.{octet_of}
use Rattle.objects.specs.Objects.{mpls_setup}
use Rattle.forms.specs.declared.Form.{Form}
use Rattle.forms.specs.Forms.{srv6_form, flag_in, knows}
use Rattle.forms.proofs.Laws.{form_srv6, srv6_nais}
use Rattle.session.specs.declared.Session.{Session}
use Rattle.subobject.specs.declared.head.Head.{Head}
use Rattle.subobject.specs.Layout.{sid_place, expected_length, kind_of, head_of, head_at}
use Rattle.subobject.specs.Rules.{rule7, rule8, rule9, malformed, rule10, rule11, has_structure, sum_at, bits_at, has_label, rule29, rule30, label_at, time_at}
use Rattle.subobject.specs.Segments.{segment_at}
use Rattle.subobject_strays.specs.Strays.{stray_flags, structure_flags, reserved_octets, strays_at, stray_in}
use Rattle.frame.specs.Checks.{Check, check, first_broken}
use Rattle.frame.specs.Frames.{places_of}
use Rattle.frame.proofs.Checks.{first_append}
use Rattle.route_walk.specs.Walk.{checks_at, subobject_checks}
use Rattle.route.specs.Routes.{rule13, last_checks, acceptance_of, judge_as, rule15, pick_of, segment_as, judge_of, segment_of}
use Rattle.route.specs.Alone.{
  structured,
  length_alone,
  structure_alone,
  head_alone,
  four_from,
  one_checks,
  checks_in,
  one_strays,
  stray_count_in,
  acceptance_alone,
  judge_alone,
  one_segment,
  pick_alone,
  segment_alone,
}

-- one subobject ------------------------------------------------------------------------------------------------

pub knows_alone : (nt : ℕ) → knows srv6_form nt ≡ (eqb nt 0 || (eqb nt 2 || (eqb nt 4 || eqb nt 6)))
unfolding knows
knows_alone nt = rw (srv6_nais nt) (go (eqb nt 0) (eqb nt 2) (eqb nt 4) (eqb nt 6))
  where
    go : (z a b c : Bool) → (z || not (eqb (cond a 16 (cond b 32 (cond c 40 0))) 0)) ≡ (z || (a || (b || c)))
    go true a b c = refl
    go false true b c = refl
    go false false true c = refl
    go false false false true = refl
    go false false false false = refl

pub or_false : (a b : Bool) → (a || (b || false)) ≡ (a || b)
or_false true b = refl
or_false false true = refl
or_false false false = refl

module _ (s : List ℕ) (ero : Bool) (at : ℕ) where
  abbrev head : Head
  head = head_alone s ero at

  pub head_alone_lem : head_at srv6_form s ero at ≡ head
  unfolding head_at head_of kind_of flag_in
  head_alone_lem = rw (div-one (octet_of s (at + 3)))

  -- The flags that MPLS has are not there.
  formed : malformed head ≡ false
  unfolding malformed
  formed = rw (and_false (eqb head.s 1))

  unlabelled : has_label head ≡ false
  unfolding has_label
  unlabelled = and_false (eqb head.s 0)

  pub r8 : rule8 srv6_form head ≡ not (eqb head.nt 0 || (eqb head.nt 2 || (eqb head.nt 4 || eqb head.nt 6)))
  unfolding rule8
  r8 = ap not (knows_alone head.nt)

  pub r7 : rule7 srv6_form head ≡ (not (eqb head.f (cond (eqb head.nt 0) 1 0)) || not (eqb head.size (length_alone head.nt head.s head.t)))
  unfolding rule7 expected_length
  r7 =
      rw (srv6_nais head.nt, formed)
      (or_false (not (eqb head.f (cond (eqb head.nt 0) 1 0))) (not (eqb head.size (length_alone head.nt head.s head.t))))

  pub r11 : rule11 head (bits_at srv6_form head s at) ≡ (structured head.s head.t && ltb 128 (four_from s (structure_alone head.nt at)))
  unfolding rule11 has_structure sum_at
  r11 = rw (srv6_nais head.nt)

  pub r29 : (label : ℕ) → rule29 head label ≡ false
  unfolding rule29
  r29 label = rw unlabelled

  pub r30 : (time : ℕ) → rule30 head time ≡ false
  unfolding rule30
  r30 time = rw unlabelled

  checks_alone : (n : Bool) (v : Verdict) → first_broken (checks_at srv6_form s ero n at) v ≡ first_broken (one_checks head s ero n at) v
  unfolding rule9 rule10
  checks_alone n v = rw (head_alone_lem, r8, r7, r11, r29 (label_at s (sid_place srv6_form at)), r30 (time_at s (sid_place srv6_form at)))

  strays_alone : strays_at srv6_form s ero at ≡ one_strays head s at
  unfolding strays_at stray_flags structure_flags reserved_octets has_structure
  strays_alone = rw (head_alone_lem, srv6_nais head.nt)

  pub segment_alone_lem : segment_at srv6_form s ero at ≡ one_segment head s at
  unfolding segment_at has_structure
  segment_alone_lem = rw (head_alone_lem, srv6_nais head.nt)

-- all of them --------------------------------------------------------------------------------------------------

all_alone : (s : List ℕ) (ero n : Bool) (ps : List ℕ) (v : Verdict) → first_broken (subobject_checks srv6_form s ero n ps) v ≡ first_broken (checks_in s ero n ps) v
all_alone s ero n [] v = refl
all_alone s ero n (p ∷ ps) v =
    first_append (checks_at srv6_form s ero n p) (subobject_checks srv6_form s ero n ps) v
    ∙ checks_alone s ero p n (first_broken (subobject_checks srv6_form s ero n ps) v)
    ∙ ap (first_broken (one_checks (head_alone s ero p) s ero n p)) (all_alone s ero n ps v)
    ∙ sym (first_append (one_checks (head_alone s ero p) s ero n p) (checks_in s ero n ps) v)

count_alone : (s : List ℕ) (ero : Bool) (ps : List ℕ) → stray_in srv6_form s ero ps ≡ stray_count_in s ero ps
count_alone s ero [] = refl
count_alone s ero (p ∷ ps) = rw (strays_alone s ero p, count_alone s ero ps)

-- the judgement ------------------------------------------------------------------------------------------------

module _ (s : List ℕ) (ero : Bool) (session : Session) (pst : ℕ) where
  acceptance : acceptance_of srv6_form s ero ≡ acceptance_alone s ero
  acceptance = ap (carrying_both (length (places_of s))) (count_alone s ero (places_of s))

  -- What stands behind 13, and more checks behind it.
  behind : (ys zs : List Check)
      → first_broken ((subobject_checks srv6_form s ero session.n (places_of s) ++ ys) ++ zs) (acceptance_of srv6_form s ero)
      ≡ first_broken ((checks_in s ero session.n (places_of s) ++ ys) ++ zs) (acceptance_alone s ero)
  behind ys zs =
      let xs = subobject_checks srv6_form s ero session.n (places_of s) in
      let ws = checks_in s ero session.n (places_of s) in
      first_append (xs ++ ys) zs (acceptance_of srv6_form s ero)
      ∙ first_append xs ys (first_broken zs (acceptance_of srv6_form s ero))
      ∙ all_alone s ero session.n (places_of s) (first_broken ys (first_broken zs (acceptance_of srv6_form s ero)))
      ∙ ap (λ (v : Verdict). first_broken ws (first_broken ys (first_broken zs v))) acceptance
      ∙ sym (first_append ws ys (first_broken zs (acceptance_alone s ero)))
      ∙ sym (first_append (ws ++ ys) zs (acceptance_alone s ero))

  behind_last : (ys : List Check)
      → first_broken (subobject_checks srv6_form s ero session.n (places_of s) ++ ys) (acceptance_of srv6_form s ero)
      ≡ first_broken (checks_in s ero session.n (places_of s) ++ ys) (acceptance_alone s ero)
  behind_last ys =
      rw (
        append-nil (subobject_checks srv6_form s ero session.n (places_of s) ++ ys),
        append-nil (checks_in s ero session.n (places_of s) ++ ys),
      ) at (behind ys [])

  judge_alone_lem : judge_as srv6_form s ero session pst ≡ judge_alone s ero session pst
  unfolding judge_as judge_alone rule13
  judge_alone_lem = rw (behind_last (last_checks (places_of s) ero session.limit (length (places_of s))))

  pick_alone_lem : (i : ℕ) → pick_of srv6_form s ero session pst i ≡ pick_alone s ero session pst i
  unfolding pick_of rule13 rule15
  pick_alone_lem i =
      rw (behind (last_checks (places_of s) ero session.limit (length (places_of s))) (check 15 0 (rule15 i (length (places_of s))) ∷ []))

  picked_alone : (i : ℕ) → segment_as srv6_form s ero session pst i ≡ segment_alone s ero session pst i
  unfolding segment_as segment_alone
  picked_alone i = rw (pick_alone_lem i, segment_alone_lem s ero (get_or (places_of s) i 0), strays_alone s ero (get_or (places_of s) i 0))

  -- **SRv6's answers are its own under every setup type but 1.**
  pub judged_alone : (pst ≡ mpls_setup → ⊥) → judge_of s ero session pst ≡ judge_alone s ero session pst
  unfolding judge_of
  judged_alone n = ap (λ (x : Form). judge_as x s ero session pst) (sym (form_srv6 pst n)) ∙ judge_alone_lem

  pub segment_of_alone : (pst ≡ mpls_setup → ⊥) → (i : ℕ) → segment_of s ero session pst i ≡ segment_alone s ero session pst i
  unfolding segment_of
  segment_of_alone n i = ap (λ (x : Form). segment_as x s ero session pst i) (sym (form_srv6 pst n)) ∙ picked_alone i
