-- `judged_for` is `judged_in` the session of the form that the setup type names, so each theorem on `judged_in` holds of it.
-- What a verdict means with the head end's addresses among the inputs: accepted exactly if no rule is broken, refused by the first broken one, 28
-- before all others. A flag turned on never turns an accepted path into a refused one: what it changes is the limit, which it never lowers
-- (`raised_keeps`), and an acceptance under a limit stays under any that permits as much (`limit_keeps`). Without flags, and without addresses, the
-- answer is that of the inner judgement under the session's own limit.
use Rattle.std.specs.Prelude.{Option, None, Some}
use Rattle.std.proofs.Common.{Result}
use Prim.Native.Nat.{ℕ, ◌<◌}
use native.Mathlib.Omega.{arith}
use mathlib.Core.Path.{◌≡◌, refl, sym, ap, subst, ◌∙◌}
use mathlib.Core.Logic.{◌↔◌, ⊎_elim}
use mathlib.Core.List.{List, []}
use mathlib.Core.Bool.{Bool, true, false, cond, ◌&&◌, ◌||◌, false≢true}
use lib.Dec.{eqb}
use borrow.Author.Tests.{le-ltb, ltb-false}
use Rattle.forms.specs.Forms.{form_of}
use Rattle.answers.specs.declared.verdict.Verdict.{Verdict}
use Rattle.answers.specs.Numbers.{not_usable}
use Rattle.answers.specs.Verdicts.{refused_by, verdict_of}
use Rattle.answers.specs.declared.refusal.Refusal.{Refusal}
use Rattle.answers.specs.declared.refusal.Counts.{Counts}
use Rattle.answers.proofs.Results.{verdict_back}
use Rattle.octets.proofs.Said.{both_true}
use Rattle.objects.specs.Objects.{mpls_setup}
use Rattle.session.specs.Opened.{Opened}
use Rattle.session.specs.declared.Session.{Session}
use Rattle.session.specs.declared.Sessions.{Sessions}
use Rattle.session.specs.Sessions.{agreed_by, agreed_on, mpls_agreed_by, mpls_agreed_on, not_agreed_on, session_of, mpls_session_of, sessions_of, session_under}
use Rattle.msd_limit.specs.Limits.{limit_by, one_more_by, within}
use Rattle.msd_limit.proofs.Theorems.{one_more_keeps}
use Rattle.route.specs.declared.picking.Picked as code
use Rattle.route.specs.Parts.{session_by, picked_of}
use Rattle.route.specs.Routes.{past, rule12, count_of, judge_as, judge_of, segment_of}
use Rattle.route.specs.Order.{Where, whole, inside, last, Among, check_at, FirstBroken}
use Rattle.route.proofs.Setups.{judge_low}
use Rattle.route.proofs.Theorems.{accepted_unbroken, unbroken_accepted, refused_first, first_refused, picked_back}
use Rattle.head_end.specs.Addresses.{usable_list}
use Rattle.route_limit.specs.FirstOff.{own_adjacency, stays_off, with_one_more, limit_for, under_limit, session_for}
use Rattle.route_limit.proofs.Laws.{by_none, no_address}
use Rattle.route_call.specs.Called.{rule28, judged_in, segment_in, judged_for, segment_for, flagged_open}

-- exactness ------------------------------------------------------------------------------------------------------

module _ (s : List ℕ) (ero : Bool) (session : Session) (pst : ℕ) (addresses : List ℕ) where
  -- A usable list: the answer is that of the inner call under the limit for this route.
  pub usable_judged : rule28 addresses ≡ false → judged_in s ero session pst addresses ≡ judge_of s ero (session_for s ero session addresses) pst
  unfolding judged_in
  usable_judged e = rw e

  pub usable_picked : (i : ℕ) → rule28 addresses ≡ false → segment_in s ero session pst addresses i ≡ segment_of s ero (session_for s ero session addresses) pst i
  unfolding segment_in
  usable_picked i e = rw e

  unusable_judged : rule28 addresses ≡ true → judged_in s ero session pst addresses ≡ refused_by not_usable 0
  unfolding judged_in
  unusable_judged e = rw e

  -- Accepted exactly if no rule is broken, 28 too.
  pub accepted_exactly : ((judged_in s ero session pst addresses).number ≡ 0)
      ↔ ((rule28 addresses ≡ false) × ((w : Where) → Among w (count_of s) → (check_at (form_of pst) s ero (session_for s ero session addresses) pst w).broken ≡ false))
  accepted_exactly = go (rule28 addresses) refl
    where
      go : (b : Bool) → rule28 addresses ≡ b → ((judged_in s ero session pst addresses).number ≡ 0)
          ↔ ((b ≡ false) × ((w : Where) → Among w (count_of s) → (check_at (form_of pst) s ero (session_for s ero session addresses) pst w).broken ≡ false))
      go true e = (λ z. absurd (omega (arith, sym (ap (λ (v : Verdict). v.number) (unusable_judged e)) ∙ z)), λ h. absurd (false≢true (sym h.0)))
      go false e = (
        λ z. (refl, accepted_unbroken s ero (session_for s ero session addresses) pst (rw (usable_judged e) at z)),
        λ h. rw (usable_judged e, unbroken_accepted s ero (session_for s ero session addresses) pst h.1) refl,
      )

  -- Refused by 28 exactly if the list isn't made of whole addresses, whatever else is broken,
  pub refused_by_28 : (judged_in s ero session pst addresses ≡ refused_by not_usable 0) ↔ (rule28 addresses ≡ true)
  refused_by_28 = (λ e. go (rule28 addresses) refl e, unusable_judged)
    where
      go : (b : Bool) → rule28 addresses ≡ b → judged_in s ero session pst addresses ≡ refused_by not_usable 0 → b ≡ true
      go true f e = refl
      go false f e =
          let n = ap (λ (v : Verdict). v.number) (sym (usable_judged f) ∙ e) in
          absurd (⊎_elim (λ l. omega (arith, l, n)) (λ l. omega (arith, l, n)) (judge_low s ero (session_for s ero session addresses) pst))

  -- and by another number at a place exactly if the list is usable, that rule is broken there under the limit for this route, and none before it is.
  pub refused_exactly : (n p : ℕ) → 0 < n → (n ≡ not_usable → ⊥)
      → (judged_in s ero session pst addresses ≡ refused_by n p) ↔ ((rule28 addresses ≡ false) × FirstBroken (form_of pst) s ero (session_for s ero session addresses) pst n p)
  refused_exactly n p pos other = (λ e. go (rule28 addresses) refl e, λ h. usable_judged h.0 ∙ first_refused s ero (session_for s ero session addresses) pst n p h.1)
    where
      go : (b : Bool) → rule28 addresses ≡ b → judged_in s ero session pst addresses ≡ refused_by n p
          → (b ≡ false) × FirstBroken (form_of pst) s ero (session_for s ero session addresses) pst n p
      go true f e = absurd (other (ap (λ (v : Verdict). v.number) (sym e ∙ unusable_judged f)))
      go false f e = (refl, refused_first s ero (session_for s ero session addresses) pst n p pos (sym (usable_judged f) ∙ e))

-- the limit ------------------------------------------------------------------------------------------------------

past_within : (limit : Option ℕ) (n : ℕ) → past limit n ≡ false → within limit n
past_within None n e = tt
past_within (Some m) n e = ltb-false m n e

within_past : (limit : Option ℕ) (n : ℕ) → within limit n → past limit n ≡ false
within_past None n h = refl
within_past (Some m) n h = le-ltb m n h

-- A route that is accepted under a limit is accepted alike under one that permits as much.
pub limit_keeps : (s : List ℕ) (ero : Bool) (session : Session) (pst : ℕ) (limit : Option ℕ) → ((n : ℕ) → within session.limit n → within limit n)
    → (judge_of s ero session pst).number ≡ 0 → judge_of s ero (under_limit session limit) pst ≡ judge_of s ero session pst
unfolding rule12
limit_keeps s ero session pst limit up z =
    unbroken_accepted s ero (under_limit session limit) pst go ∙ sym (unbroken_accepted s ero session pst (accepted_unbroken s ero session pst z))
  where
    twelve : (b : Bool) → (b && past session.limit (count_of s)) ≡ false → (b && past limit (count_of s)) ≡ false
    twelve true e = within_past limit (count_of s) (up (count_of s) (past_within session.limit (count_of s) e))
    twelve false e = refl

    go : (w : Where) → Among w (count_of s) → (check_at (form_of pst) s ero (under_limit session limit) pst w).broken ≡ false
    go (whole k) a = accepted_unbroken s ero session pst z (whole k) a
    go (inside i k) a = accepted_unbroken s ero session pst z (inside i k) a
    go last a = twelve ero (accepted_unbroken s ero session pst z last a)

-- flags ----------------------------------------------------------------------------------------------------------

-- A session with other flags.
abbrev pub flagged : Session → Bool → Bool → Session
flagged g a r = record { agreed = g.agreed; n = g.n; limit = g.limit; a = a; r = r; v = g.v; m = g.m }

-- The checks look at no flag.
looks_at_no_flag : (s : List ℕ) (ero : Bool) (g : Session) (pst : ℕ) (a r : Bool) (limit : Option ℕ)
    → judge_of s ero (under_limit (flagged g a r) limit) pst ≡ judge_of s ero (under_limit g limit) pst
unfolding judge_of judge_as
looks_at_no_flag s ero g pst a r limit = refl

-- The first segment stays off still, where more flags are set.
off_still : (ero a r x y own : Bool) → (a ≡ true → x ≡ true) → (r ≡ true → y ≡ true) → (ero && (r || (a && own))) ≡ true → (ero && (y || (x && own))) ≡ true
off_still false a r x y own f g e = e
off_still true a true x y own f g e = rw (g refl)
off_still true true false x y own f g e = rw (f refl) (go y)
  where
    go : (b : Bool) → (b || own) ≡ true
    go true = refl
    go false = e
off_still true false false x y own f g e = absurd (false≢true e)

module _ (s : List ℕ) (ero : Bool) (g : Session) (addresses : List ℕ) (a r : Bool) (f : g.a ≡ true → a ≡ true) (h : g.r ≡ true → r ≡ true)
    (sound : g.limit ≡ limit_by g.v g.m) where
  -- More flags never lower the limit.
  raised_keeps : (n : ℕ) → within (limit_for s ero g addresses) n → within (limit_for s ero (flagged g a r) addresses) n
  unfolding limit_for stays_off
  raised_keeps n = go (ero && (g.r || (g.a && own_adjacency s addresses))) (ero && (r || (a && own_adjacency s addresses)))
      (off_still ero g.a g.r a r (own_adjacency s addresses) f h)
    where
      more : within g.limit n → within (with_one_more g) n
      more = subst (λ (l : Option ℕ). within l n → within (one_more_by l g.v g.m) n) (sym sound) (one_more_keeps n g.v g.m)

      go : (b c : Bool) → (b ≡ true → c ≡ true) → within (cond b (with_one_more g) g.limit) n → within (cond c (with_one_more g) g.limit) n
      go true true i k = k
      go true false i k = absurd (false≢true (i refl))
      go false true i k = more k
      go false false i k = k

  -- A session with more flags: what is accepted is accepted alike.
  pub session_flags : (pst : ℕ) → (judged_in s ero g pst addresses).number ≡ 0 → judged_in s ero (flagged g a r) pst addresses ≡ judged_in s ero g pst addresses
  unfolding session_for
  session_flags pst z = go (rule28 addresses) refl
    where
      go : (b : Bool) → rule28 addresses ≡ b → judged_in s ero (flagged g a r) pst addresses ≡ judged_in s ero g pst addresses
      go true e = absurd (false≢true (sym ((accepted_exactly s ero g pst addresses).0 z).0 ∙ e))
      go false e =
          usable_judged s ero (flagged g a r) pst addresses e
          ∙ looks_at_no_flag s ero g pst a r (limit_for s ero (flagged g a r) addresses)
          ∙ limit_keeps s ero (under_limit g (limit_for s ero g addresses)) pst (limit_for s ero (flagged g a r) addresses) raised_keeps (rw (usable_judged s ero g pst addresses e) at z)
          ∙ sym (usable_judged s ero g pst addresses e)

and_still : (p q x y : Bool) → (p ≡ true → x ≡ true) → (q ≡ true → y ≡ true) → (p && q) ≡ true → (x && y) ≡ true
and_still p q x y f g e = let h = both_true p q e in rw (f h.0, g h.1)

-- **A flag turned on never turns an accepted path into a refused one**: any flags, at both ends, with any addresses, of either form, in an RRO too. The PCC's
-- limit is the one that its v and m set, as it is in every answer to an OPEN object (open/proofs/Rules, `limit_of_depths`); session_flags/proofs/Theorem says it of
-- those. MPLS's session looks at no flag.
module _ (s : List ℕ) (ero : Bool) (pcc pce : Opened) (pst : ℕ) (addresses : List ℕ) (sound : pcc.limit ≡ limit_by pcc.v pcc.m)
    (accepted : (judged_for s ero (sessions_of pcc pce) pst addresses).number ≡ 0) where
  pub flags_never_refuse : (a r x y : Bool) → (pcc.a ≡ true → a ≡ true) → (pcc.r ≡ true → r ≡ true) → (pce.a ≡ true → x ≡ true) → (pce.r ≡ true → y ≡ true)
      → judged_for s ero (sessions_of (flagged_open pcc a r) (flagged_open pce x y)) pst addresses ≡ judged_for s ero (sessions_of pcc pce) pst addresses
  unfolding session_under session_of mpls_session_of
  flags_never_refuse a r x y f g h k = form (eqb pst mpls_setup) accepted
    where
      go : (b : Bool) → (judged_in s ero (cond b (agreed_on pcc pce) not_agreed_on) pst addresses).number ≡ 0
          → judged_in s ero (cond b (agreed_on (flagged_open pcc a r) (flagged_open pce x y)) not_agreed_on) pst addresses
          ≡ judged_in s ero (cond b (agreed_on pcc pce) not_agreed_on) pst addresses
      go true z =
          session_flags s ero (agreed_on pcc pce) addresses (a && x) (r && y) (and_still pcc.a pce.a a x f h) (and_still pcc.r pce.r r y g k) sound pst z
      go false z = refl

      form : (b : Bool) → (judged_in s ero (cond b (mpls_session_of pcc pce) (session_of pcc pce)) pst addresses).number ≡ 0
          → judged_in s ero (cond b (mpls_session_of pcc pce) (session_of (flagged_open pcc a r) (flagged_open pce x y))) pst addresses
          ≡ judged_in s ero (cond b (mpls_session_of pcc pce) (session_of pcc pce)) pst addresses
      form true z = refl
      form false z = go (agreed_by pcc pce) z

-- without flags, without addresses -------------------------------------------------------------------------------

module _ (s : List ℕ) (ero : Bool) (session : Session) (pst : ℕ) where
  own_limit : (addresses : List ℕ) → limit_for s ero session addresses ≡ session.limit → session_for s ero session addresses ≡ session
  unfolding session_for
  own_limit addresses e = ap (under_limit session) e

  -- With neither flag agreed the answer is the one under the session's own limit, whatever the addresses are,
  pub neither_agreed : (addresses : List ℕ) → rule28 addresses ≡ false → session.a ≡ false → session.r ≡ false
      → judged_in s ero session pst addresses ≡ judge_of s ero session pst
  neither_agreed addresses e f g =
      usable_judged s ero session pst addresses e ∙ ap (λ (x : Session). judge_of s ero x pst) (own_limit addresses (sym (by_none s ero session addresses g f)))

  pub neither_agreed_picked : (addresses : List ℕ) (i : ℕ) → rule28 addresses ≡ false → session.a ≡ false → session.r ≡ false
      → segment_in s ero session pst addresses i ≡ segment_of s ero session pst i
  neither_agreed_picked addresses i e f g =
      usable_picked s ero session pst addresses i e ∙ ap (λ (x : Session). segment_of s ero x pst i) (own_limit addresses (sym (by_none s ero session addresses g f)))

  -- and with no address, where R is not agreed.
  pub no_address_given : session.r ≡ false → judged_in s ero session pst [] ≡ judge_of s ero session pst
  unfolding rule28 usable_list
  no_address_given g =
      usable_judged s ero session pst [] refl ∙ ap (λ (x : Session). judge_of s ero x pst) (own_limit [] (no_address s ero session [] g))

-- In MPLS the limit is the session's own, whatever the addresses are.
pub mpls_own_limit : (s : List ℕ) (ero : Bool) (pcc pce : Opened) (addresses : List ℕ) → rule28 addresses ≡ false
    → judged_for s ero (sessions_of pcc pce) mpls_setup addresses ≡ judge_of s ero (mpls_session_of pcc pce) mpls_setup
unfolding session_under mpls_session_of
mpls_own_limit s ero pcc pce addresses e = go (mpls_agreed_by pcc pce)
  where
    go : (b : Bool) → judged_in s ero (cond b (mpls_agreed_on pcc) not_agreed_on) mpls_setup addresses ≡ judge_of s ero (cond b (mpls_agreed_on pcc) not_agreed_on) mpls_setup
    go true = neither_agreed s ero (mpls_agreed_on pcc) mpls_setup addresses e refl refl
    go false = neither_agreed s ero not_agreed_on mpls_setup addresses e refl refl

-- Of any two answers that fit, both are the same.
pub judge_determined : (s : List ℕ) (ero : Bool) (sessions : Sessions) (pst : ℕ) (addresses : List ℕ) (a b : Result Counts Refusal)
    → verdict_of a ≡ judged_for s ero sessions pst addresses → verdict_of b ≡ judged_for s ero sessions pst addresses → a ≡ b
judge_determined s ero sessions pst addresses a b e f = verdict_back a b (e ∙ sym f)

pub judge_in_determined : (s : List ℕ) (ero : Bool) (own : Session) (pst : ℕ) (addresses : List ℕ) (a b : Result Counts Refusal)
    → verdict_of a ≡ judged_in s ero own pst addresses → verdict_of b ≡ judged_in s ero own pst addresses → a ≡ b
judge_in_determined s ero own pst addresses a b e f = verdict_back a b (e ∙ sym f)

pub judge_plain_determined : (s : List ℕ) (ero agreed n : Bool) (limit : Option ℕ) (pst : ℕ) (addresses : List ℕ) (a b : Result Counts Refusal)
    → verdict_of a ≡ judged_in s ero (session_by agreed n limit) pst addresses → verdict_of b ≡ judged_in s ero (session_by agreed n limit) pst addresses → a ≡ b
judge_plain_determined s ero agreed n limit pst addresses a b e f = verdict_back a b (e ∙ sym f)

pub segment_determined : (s : List ℕ) (ero : Bool) (sessions : Sessions) (pst : ℕ) (addresses : List ℕ) (i : ℕ) (a b : Result code.Picked Refusal)
    → picked_of a ≡ segment_for s ero sessions pst addresses i → picked_of b ≡ segment_for s ero sessions pst addresses i → a ≡ b
segment_determined s ero sessions pst addresses i a b e f = picked_back a b (e ∙ sym f)

pub segment_in_determined : (s : List ℕ) (ero : Bool) (own : Session) (pst : ℕ) (addresses : List ℕ) (i : ℕ) (a b : Result code.Picked Refusal)
    → picked_of a ≡ segment_in s ero own pst addresses i → picked_of b ≡ segment_in s ero own pst addresses i → a ≡ b
segment_in_determined s ero own pst addresses i a b e f = picked_back a b (e ∙ sym f)
