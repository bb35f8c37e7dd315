-- What inner functions' contracts cite; no promise rests on it.
use Rattle.std.specs.Prelude.{true, false, ◌&&◌, Option, None, Some}
use Rattle.session.specs.declared.opened.Srv6Half.{Srv6Half}
use Rattle.session.specs.declared.opened.MplsHalf.{MplsHalf}
use Rattle.session.specs.declared.opened.Carried.{Carried}
use Rattle.session.specs.declared.Session.{Session}
use Rattle.session.specs.declared.Sessions.{Sessions}
use Rattle.session.specs.Sessions.{not_agreed_on}

-- The session of a form, of what the PCC and the PCE carry of it.
abbrev pub srv6_between : Option Srv6Half → Option Srv6Half → Session
srv6_between None pce = not_agreed_on
srv6_between (Some pcc) None = not_agreed_on
srv6_between (Some pcc) (Some pce) =
    record { agreed = true; n = pcc.n; limit = pcc.limit; a = pcc.a && pce.a; r = pcc.r && pce.r; v = pcc.v; m = pcc.m }

abbrev pub mpls_between : Option MplsHalf → Option MplsHalf → Session
mpls_between None pce = not_agreed_on
mpls_between (Some pcc) None = not_agreed_on
mpls_between (Some pcc) (Some pce) = record { agreed = true; n = pcc.n; limit = pcc.limit; a = false; r = false; v = None; m = None }

-- One for each form, of what the ends carry.
abbrev pub sessions_between : Option Carried → Option Carried → Sessions
sessions_between None pce = record { srv6 = not_agreed_on; mpls = not_agreed_on }
sessions_between (Some pcc) None = record { srv6 = not_agreed_on; mpls = not_agreed_on }
sessions_between (Some pcc) (Some pce) = record { srv6 = srv6_between pcc.srv6 pce.srv6; mpls = mpls_between pcc.mpls pce.mpls }
