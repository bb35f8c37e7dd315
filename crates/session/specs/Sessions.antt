-- The answer to an OPEN object, and the session of two answers (document 01, "The OPEN object").
use Rattle.std.specs.Prelude.{ℕ, Bool, true, false, cond, ◌&&◌, eqb, Option, None, Some}
use Rattle.objects.specs.Objects.{mpls_setup}
use Rattle.session.specs.Opened.{Opened}
use Rattle.session.specs.declared.Session.{Session}
use Rattle.session.specs.declared.Sessions.{Sessions}

-- How many segments a limit allows; 0 where there is none.
abbrev pub most_of : Option ℕ → ℕ
most_of None = 0
most_of (Some most) = most

-- The form at fault where none is.
abbrev pub no_form : ℕ
no_form = 0

-- A refused OPEN carries nothing but its number and the form at fault.
abbrev pub open_refused : ℕ → ℕ → Opened
open_refused number form =
    record {
      number = number;
      srv6 = false;
      n = false;
      limit = None;
      a = false;
      r = false;
      v = None;
      m = None;
      form = form;
      mpls = false;
      mplsn = false;
      mplslimit = None;
    }

-- An accepted OPEN, with what it carries of SRv6.
abbrev pub open_carries : Bool → Bool → Option ℕ → Bool → Bool → Option ℕ → Option ℕ → Opened
open_carries srv6 n limit a r v m =
    record { number = 0; srv6 = srv6; n = n; limit = limit; a = a; r = r; v = v; m = m; form = 0; mpls = false; mplsn = false; mplslimit = None }

-- The same, with what it carries of MPLS.
abbrev pub with_mpls : Opened → Bool → Option ℕ → Opened
with_mpls o n limit =
    record {
      number = o.number;
      srv6 = o.srv6;
      n = o.n;
      limit = o.limit;
      a = o.a;
      r = o.r;
      v = o.v;
      m = o.m;
      form = o.form;
      mpls = true;
      mplsn = n;
      mplslimit = limit;
    }

-- "without SRv6, N is 0 and there is no limit"; neither flag, nor v or m.
abbrev pub without_srv6 : Opened
without_srv6 = open_carries false false None false false None None

-- "A refused OPEN carries no SRv6", nor MPLS.
abbrev pub carries : Opened → Bool
carries o = eqb o.number 0 && o.srv6

abbrev pub carries_mpls : Opened → Bool
carries_mpls o = eqb o.number 0 && o.mpls

-- "SRv6 is agreed if both carry it", and so is MPLS.
abbrev pub agreed_by : Opened → Opened → Bool
agreed_by pcc pce = carries pcc && carries pce

abbrev pub mpls_agreed_by : Opened → Opened → Bool
mpls_agreed_by pcc pce = carries_mpls pcc && carries_mpls pce

-- "N and the limit are the PCC's", and so are H.Encaps' v and Segments Left's m; A and R are agreed "if both ends set" them (document 02, C-15).
abbrev pub agreed_on : Opened → Opened → Session
agreed_on pcc pce =
    record { agreed = true; n = pcc.n; limit = pcc.limit; a = pcc.a && pce.a; r = pcc.r && pce.r; v = pcc.v; m = pcc.m }

-- Of MPLS N and the limit are the PCC's too; it has no A, R, v and m.
abbrev pub mpls_agreed_on : Opened → Session
mpls_agreed_on pcc = record { agreed = true; n = pcc.mplsn; limit = pcc.mplslimit; a = false; r = false; v = None; m = None }

-- "without SRv6, N is 0 and there is no limit"; without MPLS likewise.
abbrev pub not_agreed_on : Session
not_agreed_on = record { agreed = false; n = false; limit = None; a = false; r = false; v = None; m = None }

unfoldable pub session_of : Opened → Opened → Session
session_of pcc pce = cond (agreed_by pcc pce) (agreed_on pcc pce) not_agreed_on

unfoldable pub mpls_session_of : Opened → Opened → Session
mpls_session_of pcc pce = cond (mpls_agreed_by pcc pce) (mpls_agreed_on pcc) not_agreed_on

-- One for each form.
abbrev pub sessions_of : Opened → Opened → Sessions
sessions_of pcc pce = record { srv6 = session_of pcc pce; mpls = mpls_session_of pcc pce }

-- The one of the form that the PST names, SRv6's if it names none.
unfoldable pub session_under : Sessions → ℕ → Session
session_under sessions pst = cond (eqb pst mpls_setup) sessions.mpls sessions.srv6
