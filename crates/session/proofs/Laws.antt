-- Laws of the session of two answers, in the order of specs/Sessions.
use Rattle.std.specs.Prelude.{Option, None, Some, is_some, Result, Ok, Err}
use Rattle.std.specs.Option.{unwrap_or}
use Rattle.std.specs.Result.{result_ok, IsErrAnd}
use Prim.Native.Nat.{ℕ}
use mathlib.Core.Path.{◌≡◌, refl, sym, ap, ◌∙◌}
use mathlib.Core.Bool.{Bool, true, false, cond, ◌&&◌}
use borrow.Author.Tests.{ne_eqb}
use lib.Dec.{eqb}
use Rattle.objects.specs.Objects.{mpls_setup, srv6_setup}
use Rattle.octets.proofs.Said.{and_false}
use Rattle.answers.proofs.Determined.{determined}
use Rattle.answers.proofs.Results.{numbered, number_apart}
use Rattle.answers.specs.Numbers.{open_malformed}
use Rattle.answers.specs.Reasons.{number_of}
use Rattle.session.specs.Opened.{Opened}
use Rattle.session.specs.declared.at_fault.AtFault.{AtFault}
use Rattle.session.specs.declared.at_fault.AtFault.TheVariants.{Mpls, Srv6}
use Rattle.session.specs.declared.opened.Srv6Half.{Srv6Half}
use Rattle.session.specs.declared.opened.MplsHalf.{MplsHalf}
use Rattle.session.specs.declared.opened.Carried.{Carried}
use Rattle.session.specs.declared.opened.OpenRefusal.{OpenRefusal}
use Rattle.session.specs.declared.Session.{Session}
use Rattle.session.specs.declared.Sessions.{Sessions}
use Rattle.session.specs.Sessions.{
  no_form,
  open_refused,
  carries,
  carries_mpls,
  agreed_by,
  mpls_agreed_by,
  agreed_on,
  mpls_agreed_on,
  not_agreed_on,
  session_of,
  mpls_session_of,
  sessions_of,
  session_under,
}
use Rattle.session.specs.AtFault.{form_number}
use Rattle.session.specs.Answered.{
  no_srv6,
  no_mpls,
  carried_of,
  refusal_of,
  answered_by,
  opened_of,
  srv6_or_none_of,
  srv6_of,
  mpls_of,
  srv6_half,
  mpls_half,
  both_halves,
  carried_in,
}
use Rattle.session.specs.Parts.{srv6_between, mpls_between, sessions_between}

-- A refused OPEN carries no SRv6, whatever else the answer holds.
pub refused_carries_nothing : (o : Opened) → (o.number ≡ 0 → ⊥) → carries o ≡ false
refused_carries_nothing o h = rw (ne_eqb o.number 0 h)

pub refused_carries_no_mpls : (o : Opened) → (o.number ≡ 0 → ⊥) → carries_mpls o ≡ false
refused_carries_no_mpls o h = rw (ne_eqb o.number 0 h)

-- Without SRv6 agreed N is 0 and there is no limit.
pub not_agreed : (pcc pce : Opened) → agreed_by pcc pce ≡ false → session_of pcc pce ≡ not_agreed_on
unfolding session_of
not_agreed pcc pce e = rw e

-- With SRv6 agreed N, the limit, v and m are the PCC's, and A and R are agreed if both set them.
pub agreed : (pcc pce : Opened) → agreed_by pcc pce ≡ true → session_of pcc pce ≡ agreed_on pcc pce
unfolding session_of
agreed pcc pce e = rw e

-- The same of MPLS.
pub mpls_not_agreed : (pcc pce : Opened) → mpls_agreed_by pcc pce ≡ false → mpls_session_of pcc pce ≡ not_agreed_on
unfolding mpls_session_of
mpls_not_agreed pcc pce e = rw e

pub mpls_agreed : (pcc pce : Opened) → mpls_agreed_by pcc pce ≡ true → mpls_session_of pcc pce ≡ mpls_agreed_on pcc
unfolding mpls_session_of
mpls_agreed pcc pce e = rw e

-- The session of a PST.
pub under_mpls : (sessions : Sessions) (pst : ℕ) → eqb pst mpls_setup ≡ true → session_under sessions pst ≡ sessions.mpls
unfolding session_under
under_mpls sessions pst e = rw e

pub under_srv6 : (sessions : Sessions) (pst : ℕ) → eqb pst mpls_setup ≡ false → session_under sessions pst ≡ sessions.srv6
unfolding session_under
under_srv6 sessions pst e = rw e

-- The sessions of what two answers carry are those of the answers, whatever number refused one of them.
srv6_agreed : (o p : Opened) (s t : Bool)
    → srv6_between (cond s (Some (srv6_half o)) None) (cond t (Some (srv6_half p)) None) ≡ cond (s && t) (agreed_on o p) not_agreed_on
srv6_agreed o p false t = refl
srv6_agreed o p true false = refl
srv6_agreed o p true true = refl

mpls_halves_agreed : (o p : Opened) (s t : Bool)
    → mpls_between (cond s (Some (mpls_half o)) None) (cond t (Some (mpls_half p)) None) ≡ cond (s && t) (mpls_agreed_on o) not_agreed_on
mpls_halves_agreed o p false t = refl
mpls_halves_agreed o p true false = refl
mpls_halves_agreed o p true true = refl

pub between : (o p : Opened) → sessions_between (carried_in o) (carried_in p) ≡ sessions_of o p
unfolding session_of mpls_session_of
between o p = go (eqb o.number 0) (eqb p.number 0)
  where
    go : (a b : Bool)
        → sessions_between (cond a (Some (both_halves o)) None) (cond b (Some (both_halves p)) None)
        ≡ record {
          srv6 = cond ((a && o.srv6) && (b && p.srv6)) (agreed_on o p) not_agreed_on;
          mpls = cond ((a && o.mpls) && (b && p.mpls)) (mpls_agreed_on o) not_agreed_on;
        }
    go false b = refl
    go true false = rw (and_false o.srv6, and_false o.mpls)
    go true true = λ i. record { srv6 = srv6_agreed o p o.srv6 p.srv6 i; mpls = mpls_halves_agreed o p o.mpls p.mpls i }

pub agreed_between : {pcc pce : Option Carried} {x : Sessions} → x ≡ sessions_between pcc pce
    → (o p : Opened) → pcc ≡ carried_in o → pce ≡ carried_in p → x ≡ sessions_of o p
agreed_between e o p f g = e ∙ (λ i. sessions_between (f i) (g i)) ∙ between o p

-- What a result carries is what its record carries.
srv6_there : (h : Option Srv6Half) → h ≡ cond (is_some h) (Some (unwrap_or h no_srv6)) None
srv6_there None = refl
srv6_there (Some h) = refl

mpls_there : (h : Option MplsHalf) → h ≡ cond (is_some h) (Some (unwrap_or h no_mpls)) None
mpls_there None = refl
mpls_there (Some h) = refl

pub halves_back : (c : Carried) → c ≡ both_halves (carried_of c)
halves_back c = λ i. record { srv6 = srv6_there c.srv6 i; mpls = mpls_there c.mpls i }

pub carried_back : (c : Carried) → Some c ≡ carried_in (carried_of c)
carried_back c = λ i. Some (halves_back c i)

pub refusal_carries_nothing : (e : OpenRefusal) → None ≡ carried_in (refusal_of e)
refusal_carries_nothing e = rw (ne_eqb (number_of e.reason) 0 (numbered e.reason))

pub result_back : (r : Result Carried OpenRefusal) → result_ok r ≡ carried_in (opened_of r)
result_back (Ok c) = carried_back c
result_back (Err e) = refusal_carries_nothing e

-- No two forms at fault have one number, nor a form and none; so no two refusals have one record.
form_at : ℕ → Option AtFault
form_at n = cond (eqb n mpls_setup) (Some Mpls) (cond (eqb n srv6_setup) (Some Srv6) None)

form_back : (f : Option AtFault) → form_at (form_number f) ≡ f
unfolding form_at
form_back None = refl
form_back (Some Mpls) = refl
form_back (Some Srv6) = refl

pub form_apart : (f g : Option AtFault) → form_number f ≡ form_number g → f ≡ g
form_apart f g e = sym (form_back f) ∙ ap form_at e ∙ form_back g

pub refusal_back : (e f : OpenRefusal) → refusal_of e ≡ refusal_of f → e ≡ f
refusal_back e f p =
    let n = number_apart e.reason f.reason (ap (λ (o : Opened). o.number) p) in
    let k = form_apart e.form f.form (ap (λ (o : Opened). o.form) p) in λ i. record { reason = n i; form = k i }

-- Nor do two results, where what is accepted can be had back from its record.
module _ {A : Type 0} (accepted : A → Opened) (inside : Opened → A) (accepts : (a : A) → (accepted a).number ≡ 0) (had : (a : A) → a ≡ inside (accepted a)) where
  apart : (a : A) (e : OpenRefusal) → accepted a ≡ refusal_of e → ⊥
  apart a e p = numbered e.reason (ap (λ (o : Opened). o.number) (sym p) ∙ accepts a)

  answered_back : (x y : Result A OpenRefusal) → answered_by accepted x ≡ answered_by accepted y → x ≡ y
  answered_back (Ok a) (Ok b) p = let q = had a ∙ ap inside p ∙ sym (had b) in λ i. Ok (q i)
  answered_back (Ok a) (Err f) p = absurd (apart a f p)
  answered_back (Err e) (Ok b) p = absurd (apart b e (sym p))
  answered_back (Err e) (Err f) p = let q = refusal_back e f p in λ i. Err (q i)

pub opened_back : (x y : Result Carried OpenRefusal) → opened_of x ≡ opened_of y → x ≡ y
opened_back = answered_back carried_of both_halves (λ _. refl) halves_back

pub srv6_or_none_back : (x y : Result (Option Srv6Half) OpenRefusal) → srv6_or_none_of x ≡ srv6_or_none_of y → x ≡ y
srv6_or_none_back = answered_back (λ h. carried_of (record { srv6 = h; mpls = None })) (λ o. (both_halves o).srv6) (λ _. refl) srv6_there

pub srv6_back : (x y : Result Srv6Half OpenRefusal) → srv6_of x ≡ srv6_of y → x ≡ y
srv6_back = answered_back (λ h. carried_of (record { srv6 = Some h; mpls = None })) srv6_half (λ _. refl) (λ _. refl)

pub mpls_back : (x y : Result MplsHalf OpenRefusal) → mpls_of x ≡ mpls_of y → x ≡ y
mpls_back = answered_back (λ h. carried_of (record { srv6 = None; mpls = Some h })) mpls_half (λ _. refl) (λ _. refl)

-- What `agree` ensures.
abbrev pub Agreed : Option Carried → Option Carried → Sessions → Type 0
Agreed pcc pce x = (o p : Opened) → pcc ≡ carried_in o → pce ≡ carried_in p → x ≡ sessions_of o p

-- So the sessions of two results.
pub agreed_results : (a b : Result Carried OpenRefusal) {pcc pce : Option Carried} {x : Sessions} → pcc ≡ result_ok a → pce ≡ result_ok b
    → Agreed pcc pce x → x ≡ sessions_of (opened_of a) (opened_of b)
agreed_results a b f g h = h (opened_of a) (opened_of b) (f ∙ result_back a) (g ∙ result_back b)

-- A refusal that a call hands on is the same by the record of each.
pub handed_on : {A : Type 0} (f : A → Opened) (r : Result A OpenRefusal) (e : OpenRefusal) → IsErrAnd r (λ x. x ≡ e) → answered_by f r ≡ refusal_of e
handed_on f (Ok a) e h = absurd h
handed_on f (Err x) e h = ap refusal_of h

-- Whatever is carried, some answer carries it.
answer_with : Option Carried → Opened
answer_with None = open_refused open_malformed no_form
answer_with (Some c) = carried_of c

answer_back : (c : Option Carried) → c ≡ carried_in (answer_with c)
unfolding answer_with
answer_back None = refl
answer_back (Some c) = carried_back c

-- Any two answers that fit the contract of a call are equal.
pub agree_determined : (pcc pce : Option Carried) (x y : Sessions) → Agreed pcc pce x → Agreed pcc pce y → x ≡ y
agree_determined pcc pce x y f g =
    let o = answer_with pcc in
    let p = answer_with pce in
    let a = answer_back pcc in
    let b = answer_back pce in
    f o p a b ∙ sym (g o p a b)

pub under_determined : (sessions : Sessions) (pst : ℕ) (x y : Session) → x ≡ session_under sessions pst → y ≡ session_under sessions pst → x ≡ y
under_determined sessions pst x y = determined
