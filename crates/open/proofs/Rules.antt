-- What a reader can cite of the answer to an OPEN object: accepted exactly if no rule is broken, refused by a number in a form's name exactly if that rule is broken
-- and none before it; SRv6's answers are those of document 01 alone; when there is a limit. The first part holds of any list of rules in an order, by induction, and of
-- the table since no two rows have one number and form (computed); what is carried is found by cases of what is listed and there.
use Rattle.std.specs.Prelude.{Option, None, Some, Result}
use Prim.Native.Nat.{ℕ, zero, suc}
use mathlib.Core.Path.{◌≡◌, refl, sym, ap, ◌∙◌}
use mathlib.Core.Logic.{◌↔◌, ◌⊎◌}
use mathlib.Core.List.{List, [], ◌∷◌}
use mathlib.Core.Bool.{Bool, true, false, cond, not, ◌&&◌, ◌||◌, false≢true}
use lib.Dec.{eqb}
use borrow.Author.Tests.{eq-eqb, eqb-true, not-true}
use Rattle.octets.proofs.Said.{both_true}
use Rattle.objects.specs.Objects.{mpls_setup, srv6_setup}
use Rattle.answers.specs.Numbers.{open_malformed, capability_missing, wrong_msd, not_usable}
use Rattle.answers.proofs.First.{EachOf, NoneOf, none_first_of, first_of_none, first_of_keeps}
use Rattle.flag_positions.specs.declared.Positions.{Positions}
use Rattle.session.specs.Opened.{Opened}
use Rattle.session.specs.Sessions.{no_form, open_refused, without_srv6}
use Rattle.session.specs.declared.opened.Carried.{Carried}
use Rattle.session.specs.declared.opened.OpenRefusal.{OpenRefusal}
use Rattle.session.specs.Answered.{opened_of}
use Rattle.session.proofs.Laws.{opened_back}
use Rattle.msd.specs.Msd.{max_segments_left, max_h_encaps}
use Rattle.msd_limit.specs.Limits.{limit_by, present, only_ends}
use Rattle.capability_mpls.specs.Mpls.{mpls_n_of, mpls_limit_of}
use Rattle.capability.specs.Srv6.{x_of, pairs_of, limit_of, carries_by}
use Rattle.capability.proofs.Laws.{no_limit_exactly, ends_limit_nothing}
use Rattle.open.proofs.Laws.{said_zero}
use Rattle.open.specs.Before.{srv6_half, open_before}
use Rattle.open.specs.Open.{
  mpls_of,
  srv6_of,
  mpls_listed,
  listed,
  framed,
  fitting,
  holding,
  sized_in,
  said_by,
  breaks28,
  breaks1,
  breaks1_mpls,
  breaks1_srv6,
  breaks2_mpls,
  breaks2_srv6,
  breaks3_mpls,
  breaks3_srv6,
  srv6_carried,
  beside_by,
  carries_of,
  Rule,
  rule,
  first_rule,
  open_rules,
  open_of,
}

-- rules in an order --------------------------------------------------------------------------------------------

-- No rule is broken.
abbrev Unbroken : List Rule → Type 0
Unbroken rs = NoneOf (λ r. r.broken) rs

-- The rule at a place is broken, and none before it.
abbrev Breaks : List Rule → ℕ → Type 0
Breaks [] i = ⊥
Breaks (r ∷ rs) zero = r.broken ≡ true
Breaks (r ∷ rs) (suc i) = (r.broken ≡ false) × Breaks rs i

-- A rule refuses by number k in the name of form f; none does; the one at a place does, and no other.
abbrev names : ℕ → ℕ → Rule → Bool
names k f r = eqb r.number k && eqb r.form f

abbrev unnamed : ℕ → ℕ → List Rule → Bool
unnamed k f [] = true
unnamed k f (r ∷ rs) = not (names k f r) && unnamed k f rs

abbrev named_at : ℕ → ℕ → ℕ → List Rule → Bool
named_at i k f [] = false
named_at zero k f (r ∷ rs) = names k f r && unnamed k f rs
named_at (suc i) k f (r ∷ rs) = not (names k f r) && named_at i k f rs

named : (k f : ℕ) (r : Rule) → open_refused r.number r.form ≡ open_refused k f → names k f r ≡ true
named k f r e = rw (eq-eqb r.number k (ap (λ (o : Opened). o.number) e), eq-eqb r.form f (ap (λ (o : Opened). o.form) e))

misnamed : (k f : ℕ) (r : Rule) (rest : Bool) → (not (names k f r) && rest) ≡ true → open_refused r.number r.form ≡ open_refused k f → ⊥
misnamed k f r rest h e = false≢true (sym (not-true (names k f r) (both_true (not (names k f r)) rest h).0) ∙ named k f r e)

module _ (k f : ℕ) (refusal : eqb k 0 ≡ false) (o : Opened) (accepted : o.number ≡ 0) where
  unnamed_refuses_not : (rs : List Rule) → unnamed k f rs ≡ true → first_rule rs o ≡ open_refused k f → ⊥
  unnamed_refuses_not [] h e = false≢true (sym refusal ∙ eq-eqb k 0 (sym (ap (λ (q : Opened). q.number) e) ∙ accepted))
  unnamed_refuses_not (r ∷ rs) h e = go r.broken (unnamed_refuses_not rs (both_true (not (names k f r)) (unnamed k f rs) h).1) e
    where
      go : (b : Bool) → (first_rule rs o ≡ open_refused k f → ⊥) → cond b (open_refused r.number r.form) (first_rule rs o) ≡ open_refused k f → ⊥
      go true on e = misnamed k f r (unnamed k f rs) h e
      go false on e = on e

  broken_at : (i : ℕ) (rs : List Rule) → named_at i k f rs ≡ true → first_rule rs o ≡ open_refused k f → Breaks rs i
  broken_at i [] h e = false≢true h
  broken_at zero (r ∷ rs) h e = go r.broken refl e
    where
      go : (b : Bool) → r.broken ≡ b → cond b (open_refused r.number r.form) (first_rule rs o) ≡ open_refused k f → r.broken ≡ true
      go true q e = q
      go false q e = absurd (unnamed_refuses_not rs (both_true (names k f r) (unnamed k f rs) h).1 e)
  broken_at (suc i) (r ∷ rs) h e = go r.broken refl (broken_at i rs (both_true (not (names k f r)) (named_at i k f rs) h).1) e
    where
      go : (b : Bool)
          → r.broken ≡ b
          → (first_rule rs o ≡ open_refused k f → Breaks rs i)
          → cond b (open_refused r.number r.form) (first_rule rs o) ≡ open_refused k f
          → (r.broken ≡ false) × Breaks rs i
      go true q on e = absurd (misnamed k f r (named_at i k f rs) h e)
      go false q on e = (q, on e)

  refuses_at : (i : ℕ) (rs : List Rule) → named_at i k f rs ≡ true → Breaks rs i → first_rule rs o ≡ open_refused k f
  refuses_at i [] h e = absurd e
  refuses_at zero (r ∷ rs) h e =
      let n = both_true (eqb r.number k) (eqb r.form f) (both_true (names k f r) (unnamed k f rs) h).0 in
      rw (e, eqb-true r.number k n.0, eqb-true r.form f n.1)
  refuses_at (suc i) (r ∷ rs) h e = rw e.0 (refuses_at i rs (both_true (not (names k f r)) (named_at i k f rs) h).1 e.1)

-- What holds of every refusal and of an answer holds of the first broken one, or that answer.
first_keeps : (P : Opened → Type 0) → ((k f : ℕ) → P (open_refused k f)) → (rs : List Rule) {o : Opened} → P o → P (first_rule rs o)
first_keeps P h rs x = first_of_keeps (λ (r : Rule). r.broken) (λ (r : Rule). open_refused r.number r.form) P (λ r. h r.number r.form) rs x

first_unbroken : (rs : List Rule) (o : Opened) → Unbroken rs → first_rule rs o ≡ o
first_unbroken rs o h = none_first_of (λ (r : Rule). r.broken) (λ (r : Rule). open_refused r.number r.form) rs o h

-- If every rule refuses by a number above 0, what is accepted broke none.
abbrev refusing : List Rule → Bool
refusing [] = true
refusing (r ∷ rs) = not (eqb r.number 0) && refusing rs

accepted_unbroken : (rs : List Rule) (o : Opened) → refusing rs ≡ true → (first_rule rs o).number ≡ 0 → Unbroken rs
accepted_unbroken rs o h e =
    first_of_none (λ (r : Rule). r.broken) (λ (r : Rule). open_refused r.number r.form) (λ (o : Opened). o.number ≡ 0) rs o (each rs h) e
  where
    each : (rs : List Rule) → refusing rs ≡ true → EachOf (λ (r : Rule). r.number ≡ 0 → ⊥) rs
    each [] h = tt
    each (r ∷ rs) h =
        let t = both_true (not (eqb r.number 0)) (refusing rs) h in
        ((λ z. false≢true (sym (not-true (eqb r.number 0) t.0) ∙ eq-eqb r.number 0 z)), each rs t.1)

-- the answer ---------------------------------------------------------------------------------------------------

beside_zero : (l : Bool) (sub : Option (List ℕ)) (o : Opened) → o.number ≡ 0 → (beside_by o sub l).number ≡ 0
beside_zero false sub o e = e
beside_zero true None o e = e
beside_zero true (Some w) o e = e

-- What MPLS adds leaves SRv6's limit.
beside_limit : (l : Bool) (sub : Option (List ℕ)) (o : Opened) → (beside_by o sub l).limit ≡ o.limit
beside_limit false sub o = refl
beside_limit true None o = refl
beside_limit true (Some w) o = refl

module _ (p : Positions) (s : List ℕ) where
  is_first : open_of p s ≡ first_rule (open_rules p s) (carries_of p s)
  unfolding open_of
  is_first = refl

  carries_zero : (carries_of p s).number ≡ 0
  unfolding carries_of srv6_carried
  carries_zero = beside_zero (mpls_listed s) (mpls_of s) (cond (listed s) (said_by p (srv6_of s)) without_srv6) (said_zero p (listed s) (srv6_of s))

  -- "Otherwise accepted": accepted exactly if no rule is broken.
  pub accepted_exactly : ((open_of p s).number ≡ 0) ↔
      ((breaks28 p ≡ false)
      × (breaks1 s ≡ false)
      × (breaks1_mpls s ≡ false)
      × (breaks1_srv6 s ≡ false)
      × (breaks2_mpls s ≡ false)
      × (breaks2_srv6 s ≡ false)
      × (breaks3_mpls s ≡ false)
      × (breaks3_srv6 s ≡ false))
  accepted_exactly = (
    λ e.
        let h = accepted_unbroken (open_rules p s) (carries_of p s) refl (rw is_first at e) in (
          h.0,
          h.1.0,
          h.1.1.0,
          h.1.1.1.0,
          h.1.1.1.1.0,
          h.1.1.1.1.1.0,
          h.1.1.1.1.1.1.0,
          h.1.1.1.1.1.1.1.0,
        ),
    λ h.
        rw (
          is_first,
          first_unbroken (open_rules p s) (carries_of p s)
              (h.0, (h.1, (h.2, (h.3, (h.4, (h.5, (h.6, (h.7, tt)))))))),
        ) carries_zero,
  )

  -- and then it carries what its values say.
  pub accepted_carries : (open_of p s).number ≡ 0 → open_of p s ≡ carries_of p s
  accepted_carries e = is_first ∙ first_unbroken (open_rules p s) (carries_of p s) (accepted_unbroken (open_rules p s) (carries_of p s) refl (rw is_first at e))

  -- Refused by a rule's number in its form's name exactly if that rule is broken and none before it.
  refused_at : (i k f : ℕ) → eqb k 0 ≡ false → named_at i k f (open_rules p s) ≡ true → (open_of p s ≡ open_refused k f) ↔ Breaks (open_rules p s) i
  refused_at i k f n h = (
    λ e. broken_at k f n (carries_of p s) carries_zero i (open_rules p s) h (sym is_first ∙ e),
    λ e. is_first ∙ refuses_at k f n (carries_of p s) carries_zero i (open_rules p s) h e,
  )

  -- 28: the positions are of no use, whatever the octets are.
  pub refused_by_28 : (open_of p s ≡ open_refused not_usable no_form) ↔ ((breaks28 p ≡ true))
  refused_by_28 = refused_at 0 not_usable no_form refl refl

  -- 1, in no form's name;
  pub refused_by_1 : (open_of p s ≡ open_refused open_malformed no_form) ↔ ((breaks28 p ≡ false) × (breaks1 s ≡ true))
  refused_by_1 = refused_at 1 open_malformed no_form refl refl

  -- of sub-TLV 26,
  pub refused_by_1_of_mpls : (open_of p s ≡ open_refused open_malformed mpls_setup) ↔ ((breaks28 p ≡ false) × ((breaks1 s ≡ false) × (breaks1_mpls s ≡ true)))
  refused_by_1_of_mpls = refused_at 2 open_malformed mpls_setup refl refl

  -- of sub-TLV 27;
  pub refused_by_1_of_srv6 : (open_of p s ≡ open_refused open_malformed srv6_setup) ↔ ((breaks28 p ≡ false) × ((breaks1 s ≡ false) × ((breaks1_mpls s ≡ false) × (breaks1_srv6 s ≡ true))))
  refused_by_1_of_srv6 = refused_at 3 open_malformed srv6_setup refl refl

  -- 2 of either;
  pub refused_by_2_of_mpls : (open_of p s ≡ open_refused capability_missing mpls_setup) ↔
      ((breaks28 p ≡ false)
      × ((breaks1 s ≡ false) × ((breaks1_mpls s ≡ false) × ((breaks1_srv6 s ≡ false) × (breaks2_mpls s ≡ true)))))
  refused_by_2_of_mpls = refused_at 4 capability_missing mpls_setup refl refl

  pub refused_by_2_of_srv6 : (open_of p s ≡ open_refused capability_missing srv6_setup) ↔
      ((breaks28 p ≡ false)
      × ((breaks1 s ≡ false)
      × ((breaks1_mpls s ≡ false) × ((breaks1_srv6 s ≡ false) × ((breaks2_mpls s ≡ false) × (breaks2_srv6 s ≡ true))))))
  refused_by_2_of_srv6 = refused_at 5 capability_missing srv6_setup refl refl

  -- 3 of either.
  pub refused_by_3_of_mpls : (open_of p s ≡ open_refused wrong_msd mpls_setup) ↔
      ((breaks28 p ≡ false)
      × ((breaks1 s ≡ false)
      × ((breaks1_mpls s ≡ false)
      × ((breaks1_srv6 s ≡ false) × ((breaks2_mpls s ≡ false) × ((breaks2_srv6 s ≡ false) × (breaks3_mpls s ≡ true)))))))
  refused_by_3_of_mpls = refused_at 6 wrong_msd mpls_setup refl refl

  pub refused_by_3_of_srv6 : (open_of p s ≡ open_refused wrong_msd srv6_setup) ↔
      ((breaks28 p ≡ false)
      × ((breaks1 s ≡ false)
      × ((breaks1_mpls s ≡ false)
      × ((breaks1_srv6 s ≡ false)
      × ((breaks2_mpls s ≡ false) × ((breaks2_srv6 s ≡ false) × ((breaks3_mpls s ≡ false) × (breaks3_srv6 s ≡ true))))))))
  refused_by_3_of_srv6 = refused_at 7 wrong_msd srv6_setup refl refl

  -- SRv6's answers stay: where no rule of sub-TLV 26 is broken, number and SRv6's half are those that document 01 alone gives,
  pub as_before : breaks1_mpls s ≡ false → breaks2_mpls s ≡ false → breaks3_mpls s ≡ false → srv6_half (open_of p s) ≡ open_before p s
  unfolding open_of carries_of srv6_carried breaks1 breaks1_srv6
  as_before e f g = rw (e, f, g, one (framed s) (fitting s) (holding s) (listed s) (sized_in (srv6_of s))) (
      go (breaks28 p) (not (framed s && (fitting s && holding s))) (listed s && not (sized_in (srv6_of s))) (breaks2_srv6 s) (breaks3_srv6 s) (mpls_listed s) (mpls_of s)
      )
    where
      one : (a b c l d : Bool) → not (a && (b && (c && (not l || d)))) ≡ (not (a && (b && c)) || (l && not d))
      one false b c l d = refl
      one true false c l d = refl
      one true true false l d = refl
      one true true true false d = refl
      one true true true true false = refl
      one true true true true true = refl

      said : (b : Bool) (o : Option (List ℕ)) (l : Bool) (sub : Option (List ℕ))
          → srv6_half (beside_by (cond b (said_by p o) without_srv6) sub l) ≡ cond b (said_by p o) without_srv6
      said false o false sub = refl
      said false o true None = refl
      said false o true (Some w) = refl
      said true None false sub = refl
      said true None true None = refl
      said true None true (Some w) = refl
      said true (Some u) false sub = refl
      said true (Some u) true None = refl
      said true (Some u) true (Some w) = refl

      go : (z a a' b c l : Bool) (sub : Option (List ℕ))
          → srv6_half (first_rule (
          rule not_usable no_form z ∷ rule open_malformed no_form a ∷ rule open_malformed srv6_setup a' ∷ rule capability_missing srv6_setup b ∷ rule wrong_msd srv6_setup c ∷ []
          ) (beside_by (srv6_carried p s) sub l))
          ≡ cond z (open_refused not_usable no_form)
          (cond (a || a') (open_refused open_malformed no_form) (cond b (open_refused capability_missing no_form) (cond c (open_refused wrong_msd no_form) (srv6_carried p s))))
      go true a a' b c l sub = refl
      go false true a' b c l sub = refl
      go false false true b c l sub = refl
      go false false false true c l sub = refl
      go false false false false true l sub = refl
      go false false false false false l sub = said (listed s) (srv6_of s) l sub

  -- so in an OPEN that does not list type 1, which carries no MPLS.
  pub unlisted_as_before : mpls_listed s ≡ false → srv6_half (open_of p s) ≡ open_before p s
  unfolding breaks1_mpls breaks2_mpls breaks3_mpls
  unlisted_as_before e = as_before (rw e) (rw e) (rw e)

  pub unlisted_carries_none : mpls_listed s ≡ false → (open_of p s).mpls ≡ false
  unfolding carries_of srv6_carried
  unlisted_carries_none e = rw is_first (first_keeps (λ (o : Opened). o.mpls ≡ false) (λ k f. refl) (open_rules p s) (rw e (go (listed s) (srv6_of s))))
    where
      go : (b : Bool) (o : Option (List ℕ)) → (cond b (said_by p o) without_srv6).mpls ≡ false
      go false o = refl
      go true None = refl
      go true (Some w) = refl

  -- An accepted OPEN that lists type 1 carries MPLS with N and the limit of its sub-TLV 26.
  pub accepted_mpls : (w : List ℕ) → (open_of p s).number ≡ 0 → mpls_listed s ≡ true → mpls_of s ≡ Some w
      → ((open_of p s).mpls ≡ true) × ((open_of p s).mplsn ≡ mpls_n_of w) × ((open_of p s).mplslimit ≡ mpls_limit_of w)
  unfolding carries_of
  accepted_mpls w e f g = rw (accepted_carries e, f, g) (refl, refl, refl)

  -- The limit of an accepted OPEN that lists type 3 is that of its sub-TLV 27,
  pub accepted_limit : (w : List ℕ) → (open_of p s).number ≡ 0 → listed s ≡ true → srv6_of s ≡ Some w → (open_of p s).limit ≡ limit_of w
  unfolding carries_of srv6_carried
  accepted_limit w e f g = rw (accepted_carries e, f, g) (beside_limit (mpls_listed s) (mpls_of s) (carries_by p w))

  -- so there is none exactly if X is set or neither H.Encaps nor Segments Left is present;
  pub unlimited_exactly : (w : List ℕ) → (open_of p s).number ≡ 0 → listed s ≡ true → srv6_of s ≡ Some w
      → ((open_of p s).limit ≡ None) ↔ ((x_of w ≡ true) ⊎ ((present (pairs_of w) max_h_encaps ≡ false) × (present (pairs_of w) max_segments_left ≡ false)))
  unlimited_exactly w e f g = rw (accepted_limit w e f g) (no_limit_exactly w)

  -- and an OPEN whose pairs are only End Pop and End D limits nothing.
  pub ends_open_limits_nothing : (w : List ℕ) → srv6_of s ≡ Some w → only_ends (pairs_of w) ≡ true → (open_of p s).limit ≡ None
  unfolding carries_of srv6_carried
  ends_open_limits_nothing w g h =
      rw is_first (
      first_keeps (λ (o : Opened). o.limit ≡ None) (λ k f. refl) (open_rules p s)
      (beside_limit (mpls_listed s) (mpls_of s) (cond (listed s) (said_by p (srv6_of s)) without_srv6) ∙ rw g (said (listed s)))
      )
    where
      said : (b : Bool) → (cond b (carries_by p w) without_srv6).limit ≡ None
      said true = ends_limit_nothing w h
      said false = refl

  -- The limit of an answer is the one that its v and m set: what the flags are judged by.
  pub limit_of_depths : (open_of p s).limit ≡ limit_by (open_of p s).v (open_of p s).m
  unfolding carries_of srv6_carried limit_of
  limit_of_depths =
      rw is_first (
      first_keeps (λ (x : Opened). x.limit ≡ limit_by x.v x.m) (λ k f. refl) (open_rules p s)
      (beside (mpls_listed s) (mpls_of s) (cond (listed s) (said_by p (srv6_of s)) without_srv6) (said (listed s) (srv6_of s)))
      )
    where
      said : (b : Bool) (o : Option (List ℕ)) → (let x = cond b (said_by p o) without_srv6 in x.limit ≡ limit_by x.v x.m)
      said true None = refl
      said true (Some w) = refl
      said false o = refl

      beside : (l : Bool) (sub : Option (List ℕ)) (x : Opened) → x.limit ≡ limit_by x.v x.m → (let y = beside_by x sub l in y.limit ≡ limit_by y.v y.m)
      beside false sub x e = e
      beside true None x e = e
      beside true (Some w) x e = e

  -- Any two answers that fit the contract of `read_open` are equal.
  pub read_open_determined : (x y : Result Carried OpenRefusal) → opened_of x ≡ open_of p s → opened_of y ≡ open_of p s → x ≡ y
  read_open_determined x y e f = opened_back x y (e ∙ sym f)
