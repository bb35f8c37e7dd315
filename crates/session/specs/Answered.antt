-- What a call answers to an OPEN object, as the record that the definitions speak of; and what such a record carries.
use Rattle.std.specs.Prelude.{false, cond, eqb, Option, None, Some, is_some, Result, Ok, Err}
use Rattle.std.specs.Option.{unwrap_or}
use Rattle.answers.specs.Reasons.{number_of}
use Rattle.session.specs.declared.opened.Srv6Half.{Srv6Half}
use Rattle.session.specs.declared.opened.MplsHalf.{MplsHalf}
use Rattle.session.specs.declared.opened.Carried.{Carried}
use Rattle.session.specs.declared.opened.OpenRefusal.{OpenRefusal}
use Rattle.session.specs.Opened.{Opened}
use Rattle.session.specs.Sessions.{no_form, open_refused}
use Rattle.session.specs.AtFault.{form_number}

-- A form that is not carried: N is 0 and there is no limit; neither flag, nor v or m.
abbrev pub no_srv6 : Srv6Half
no_srv6 = record { n = false; limit = None; a = false; r = false; v = None; m = None }

abbrev pub no_mpls : MplsHalf
no_mpls = record { n = false; limit = None }

-- An acceptance.
abbrev pub carried_of : Carried → Opened
carried_of c =
    let srv6 = unwrap_or c.srv6 no_srv6 in
    let mpls = unwrap_or c.mpls no_mpls in
    record {
      number = 0;
      srv6 = is_some c.srv6;
      n = srv6.n;
      limit = srv6.limit;
      a = srv6.a;
      r = srv6.r;
      v = srv6.v;
      m = srv6.m;
      form = no_form;
      mpls = is_some c.mpls;
      mplsn = mpls.n;
      mplslimit = mpls.limit;
    }

-- A refusal.
abbrev pub refusal_of : OpenRefusal → Opened
refusal_of e = open_refused (number_of e.reason) (form_number e.form)

-- A result, by the record that its acceptance is.
abbrev pub answered_by : {A : Type 0} → (A → Opened) → Result A OpenRefusal → Opened
answered_by accepted (Ok x) = accepted x
answered_by accepted (Err e) = refusal_of e

abbrev pub opened_of : Result Carried OpenRefusal → Opened
opened_of r = answered_by carried_of r

-- One that carries SRv6, or may, and nothing else; one that carries MPLS and nothing else.
abbrev pub srv6_or_none_of : Result (Option Srv6Half) OpenRefusal → Opened
srv6_or_none_of r = answered_by (λ (h : Option Srv6Half). carried_of (record { srv6 = h; mpls = None })) r

abbrev pub srv6_of : Result Srv6Half OpenRefusal → Opened
srv6_of r = answered_by (λ (h : Srv6Half). carried_of (record { srv6 = Some h; mpls = None })) r

abbrev pub mpls_of : Result MplsHalf OpenRefusal → Opened
mpls_of r = answered_by (λ (h : MplsHalf). carried_of (record { srv6 = None; mpls = Some h })) r

-- What an answer carries: nothing where its number is a refusal's, whichever number that is.
abbrev pub srv6_half : Opened → Srv6Half
srv6_half o = record { n = o.n; limit = o.limit; a = o.a; r = o.r; v = o.v; m = o.m }

abbrev pub mpls_half : Opened → MplsHalf
mpls_half o = record { n = o.mplsn; limit = o.mplslimit }

abbrev pub both_halves : Opened → Carried
both_halves o = record { srv6 = cond o.srv6 (Some (srv6_half o)) None; mpls = cond o.mpls (Some (mpls_half o)) None }

abbrev pub carried_in : Opened → Option Carried
carried_in o = cond (eqb o.number 0) (Some (both_halves o)) None
