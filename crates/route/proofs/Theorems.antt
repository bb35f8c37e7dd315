-- What a verdict means. Accepted exactly if no rule is broken; refused by n at p exactly if n is broken at p and nothing before it in document 01's order is. The
-- answer is the first broken check of a list (frame/proofs/Checks, by rank), and a place in the order is a rank in that list (`rank_check`, `standing`: proofs/Order).
-- Assumes nothing.
use Rattle.std.specs.Prelude.{Option}
use Rattle.std.proofs.Common.{Result}
use Prim.Native.Nat.{ℕ, ◌<◌}
use mathlib.Core.Path.{◌≡◌, refl, sym, ◌∙◌, ap}
use mathlib.Core.List.{List, [], ◌∷◌}
use mathlib.Core.Bool.{Bool, false}
use lib.ListN.{length}
use native.Mathlib.Omega.{arith}
use Rattle.forms.specs.declared.Form.{Form}
use Rattle.forms.specs.Forms.{form_of}
use Rattle.answers.specs.Verdicts.{refused_by, verdict_of}
use Rattle.answers.specs.declared.refusal.Refusal.{Refusal}
use Rattle.answers.specs.declared.refusal.Counts.{Counts}
use Rattle.answers.proofs.Results.{view_back, verdict_back}
use Rattle.session.specs.declared.Session.{Session}
use Rattle.subobject.specs.declared.head.Head.{Head}
use Rattle.subobject.specs.Layout.{sid_place, head_of, head_at}
use Rattle.subobject.specs.Rules.{rule7, rule8, rule9, rule10, rule11, rule29, rule30, bits_at, label_at, time_at}
use Rattle.subobject.specs.Segments.{segment_at}
use Rattle.frame.specs.Checks.{Check, check}
use Rattle.frame.proofs.Checks.{check_of, none_all, all_none, none_first, first_answer, answer_first}
use Rattle.route_walk.specs.Walk.{checks_at}
use Rattle.route.specs.declared.picking.Picked as code
use Rattle.route.specs.Parts.{session_by, picked_of}
use Rattle.route.specs.Routes.{whole_checks, rule12, checks_of, count_of, acceptance_of, judge_as, segment_as, judge_of, segment_of}
use Rattle.route.specs.Order.{Where, whole_count, Among, check_at, FirstBroken}
use Rattle.route.proofs.Answer.{accepted_none}
use Rattle.route.proofs.Order.{rank, rank_within, before_lower, lower_before, standing, checks_length, rank_check}

-- of any form --------------------------------------------------------------------------------------------------

module _ (form : Form) (s : List ℕ) (ero : Bool) (session : Session) (pst : ℕ) where
  -- Accepted: no rule is broken,
  pub accepted_unbroken_as : (judge_as form s ero session pst).number ≡ 0 → (w : Where) → Among w (count_of s) → (check_at form s ero session pst w).broken ≡ false
  accepted_unbroken_as z w a =
      ap (λ (c : Check). c.broken) (sym (rank_check form s ero session pst w a))
      ∙ none_all (checks_of form s ero session pst) (accepted_none form s ero session pst z) (rank (count_of s) w)

  -- and where no rule is broken, the route is accepted with the number of its subobjects.
  pub unbroken_accepted_as : ((w : Where) → Among w (count_of s) → (check_at form s ero session pst w).broken ≡ false)
      → judge_as form s ero session pst ≡ acceptance_of form s ero
  unfolding judge_as
  unbroken_accepted_as f =
      none_first (checks_of form s ero session pst) (acceptance_of form s ero)
      (all_none (checks_of form s ero session pst)
      (λ r h.
      let t = standing (count_of s) r (omega (arith, checks_length form s ero session pst)) in
      ap (λ (x : ℕ). (check_of (checks_of form s ero session pst) x).broken) (sym t.ranked)
      ∙ ap (λ (c : Check). c.broken) (rank_check form s ero session pst t.stands t.among)
      ∙ f t.stands t.among))

  -- Refused by n at p: n is broken at p, and nothing before it is,
  pub refused_first_as : (n p : ℕ) → 0 < n → judge_as form s ero session pst ≡ refused_by n p → FirstBroken form s ero session pst n p
  unfolding judge_as
  refused_first_as n p pos e =
      let r = answer_first (checks_of form s ero session pst) (acceptance_of form s ero) n p (λ z. omega (arith, z)) e in
      let t = standing (count_of s) r.rank (omega (arith, checks_length form s ero session pst, r.first.within)) in
      let q = ap (λ (x : ℕ). check_of (checks_of form s ero session pst) x) (sym t.ranked) ∙ rank_check form s ero session pst t.stands t.among in
      record {
        stands = t.stands;
        among = t.among;
        numbered = ap (λ (c : Check). c.number) (sym q) ∙ r.number;
        placed = ap (λ (c : Check). c.place) (sym q) ∙ r.place;
        broken = ap (λ (c : Check). c.broken) (sym q) ∙ r.first.here;
        nothing =
            λ w a b.
            ap (λ (c : Check). c.broken) (sym (rank_check form s ero session pst w a))
            ∙ r.first.before (rank (count_of s) w) (omega (arith, before_lower (count_of s) w t.stands a t.among b, t.ranked));
      }

  -- and where n is broken at p and nothing before it is, the route is refused by n at p.
  pub first_refused_as : (n p : ℕ) → FirstBroken form s ero session pst n p → judge_as form s ero session pst ≡ refused_by n p
  unfolding judge_as
  first_refused_as n p f =
      let q = rank_check form s ero session pst f.stands f.among in
      let a =
      first_answer (checks_of form s ero session pst) (acceptance_of form s ero) (rank (count_of s) f.stands)
      (record {
        within = omega (arith, checks_length form s ero session pst, rank_within (count_of s) f.stands f.among);
        here = ap (λ (c : Check). c.broken) q ∙ f.broken;
        before =
            λ j h.
            let t = standing (count_of s) j (omega (arith, rank_within (count_of s) f.stands f.among)) in
            ap (λ (x : ℕ). (check_of (checks_of form s ero session pst) x).broken) (sym t.ranked)
            ∙ ap (λ (c : Check). c.broken) (rank_check form s ero session pst t.stands t.among)
            ∙ f.nothing t.stands t.among
            (lower_before (count_of s) t.stands f.stands t.among f.among (omega (arith, t.ranked)));
      }) in
      a ∙ (λ i. refused_by ((ap (λ (c : Check). c.number) q ∙ f.numbered) i) ((ap (λ (c : Check). c.place) q ∙ f.placed) i))

-- of the form that the setup type names ------------------------------------------------------------------------

module _ (s : List ℕ) (ero : Bool) (session : Session) (pst : ℕ) where
  pub accepted_unbroken : (judge_of s ero session pst).number ≡ 0 → (w : Where) → Among w (count_of s) → (check_at (form_of pst) s ero session pst w).broken ≡ false
  unfolding judge_of
  accepted_unbroken z w a = accepted_unbroken_as (form_of pst) s ero session pst z w a

  pub unbroken_accepted : ((w : Where) → Among w (count_of s) → (check_at (form_of pst) s ero session pst w).broken ≡ false)
      → judge_of s ero session pst ≡ acceptance_of (form_of pst) s ero
  unfolding judge_of
  unbroken_accepted f = unbroken_accepted_as (form_of pst) s ero session pst f

  pub refused_first : (n p : ℕ) → 0 < n → judge_of s ero session pst ≡ refused_by n p → FirstBroken (form_of pst) s ero session pst n p
  unfolding judge_of
  refused_first n p pos e = refused_first_as (form_of pst) s ero session pst n p pos e

  pub first_refused : (n p : ℕ) → FirstBroken (form_of pst) s ero session pst n p → judge_of s ero session pst ≡ refused_by n p
  unfolding judge_of
  first_refused n p f = first_refused_as (form_of pst) s ero session pst n p f

-- the checks ---------------------------------------------------------------------------------------------------

-- The checks of the subobject at a place are the rules 8, 9, 7, 10, 11, 29 and 30 over its head; the last two name no place.
pub rules_inside : (form : Form) (s : List ℕ) (ero n : Bool) (p : ℕ)
    → (let h = head_at form s ero p in
    checks_at form s ero n p
    ≡ check 8 p (rule8 form h)
    ∷ check 9 p (rule9 h)
    ∷ check 7 p (rule7 form h)
    ∷ check 10 p (rule10 h ero n)
    ∷ check 11 p (rule11 h (bits_at form h s p))
    ∷ check 29 0 (rule29 h (label_at s (sid_place form p)))
    ∷ check 30 0 (rule30 h (time_at s (sid_place form p)))
    ∷ [])
rules_inside form s ero n p = refl

-- The checks on the whole are five.
pub whole_count_lem : (form : Form) (s : List ℕ) (ero : Bool) (session : Session) (pst : ℕ) → length (whole_checks form s ero session pst) ≡ whole_count
whole_count_lem form s ero session pst = refl

-- "10 and 12 aren't applied" in RRO.
pub rro_without_10 : (n : Bool) (h : Head) → rule10 h false n ≡ false
unfolding rule10
rro_without_10 n h = refl

pub rro_without_12 : (limit : Option ℕ) (count : ℕ) → rule12 false limit count ≡ false
unfolding rule12
rro_without_12 limit count = refl

-- "In RRO .. both flags read as 0": L and V.
pub rro_flags : (form : Form) (s : List ℕ) (at : ℕ) → ((segment_at form s false at).loose ≡ false) × ((segment_at form s false at).verify ≡ false)
unfolding segment_at head_at head_of
rro_flags form s at = (refl, refl)

-- Of any two answers that fit, both are the same.
pub judge_determined_as : (form : Form) (s : List ℕ) (ero : Bool) (session : Session) (pst : ℕ) (a b : Result Counts Refusal)
    → verdict_of a ≡ judge_as form s ero session pst → verdict_of b ≡ judge_as form s ero session pst → a ≡ b
judge_determined_as form s ero session pst a b e f = verdict_back a b (e ∙ sym f)

pub picked_back : (x y : Result code.Picked Refusal) → picked_of x ≡ picked_of y → x ≡ y
picked_back =
    view_back picked_of (λ p. p.verdict) (λ p. record { counts = record { count = p.verdict.count; stray = p.verdict.stray }; segment = p.segment; strays = p.strays })
    (λ _. refl) (λ _. refl) (λ _. refl)

pub segment_determined_as : (form : Form) (s : List ℕ) (ero : Bool) (session : Session) (pst i : ℕ) (a b : Result code.Picked Refusal)
    → picked_of a ≡ segment_as form s ero session pst i → picked_of b ≡ segment_as form s ero session pst i → a ≡ b
segment_determined_as form s ero session pst i a b e f = picked_back a b (e ∙ sym f)

pub judge_determined : (s : List ℕ) (ero : Bool) (session : Session) (pst : ℕ) (a b : Result Counts Refusal) → verdict_of a ≡ judge_of s ero session pst
    → verdict_of b ≡ judge_of s ero session pst → a ≡ b
judge_determined s ero session pst a b e f = verdict_back a b (e ∙ sym f)

pub judge_parts_determined : (s : List ℕ) (ero agreed n : Bool) (limit : Option ℕ) (pst : ℕ) (a b : Result Counts Refusal)
    → verdict_of a ≡ judge_of s ero (session_by agreed n limit) pst → verdict_of b ≡ judge_of s ero (session_by agreed n limit) pst → a ≡ b
judge_parts_determined s ero agreed n limit pst a b e f = verdict_back a b (e ∙ sym f)

pub segment_determined : (s : List ℕ) (ero : Bool) (session : Session) (pst i : ℕ) (a b : Result code.Picked Refusal) → picked_of a ≡ segment_of s ero session pst i
    → picked_of b ≡ segment_of s ero session pst i → a ≡ b
segment_determined s ero session pst i a b e f = picked_back a b (e ∙ sym f)
