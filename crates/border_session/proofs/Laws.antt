-- Sessions that are handed out and come back are what they were.
use mathlib.Core.Path.{◌≡◌, refl}
use mathlib.Core.Bool.{Bool, true, false, cond}
use Rattle.std.specs.Prelude.{None}
use Rattle.session.specs.Opened.{Opened}
use Rattle.session.specs.declared.Session.{Session}
use Rattle.session.specs.declared.Sessions.{Sessions}
use Rattle.session.specs.Sessions.{mpls_agreed_by, mpls_agreed_on, not_agreed_on, mpls_session_of}
use Rattle.border_records.proofs.Laws.{flag_back, InShort, short_back, depth_back}
use Rattle.border_session.specs.Agreed.{sessions_in, sessions_out}

-- A session of MPLS has no A, R, v and m, and so has that of two answers.
pub record Plain (s : Session) : Type 0 where
  pub a : s.a ≡ false
  pub r : s.r ≡ false
  pub v : s.v ≡ None
  pub m : s.m ≡ None

pub mpls_plain : (pcc pce : Opened) → Plain (mpls_session_of pcc pce)
unfolding mpls_session_of
mpls_plain pcc pce = go (mpls_agreed_by pcc pce)
  where
    go : (b : Bool) → Plain (cond b (mpls_agreed_on pcc) not_agreed_on)
    go true = record { a = refl; r = refl; v = refl; m = refl }
    go false = record { a = refl; r = refl; v = refl; m = refl }

pub sessions_back : (s : Sessions) → InShort s.srv6.limit → InShort s.mpls.limit → Plain s.mpls
    → sessions_in (sessions_out s) ≡ s
sessions_back s l d h =
    rw (
      flag_back s.srv6.agreed,
      flag_back s.srv6.n,
      short_back s.srv6.limit l,
      flag_back s.srv6.a,
      flag_back s.srv6.r,
      depth_back s.srv6.v,
      depth_back s.srv6.m,
      flag_back s.mpls.agreed,
      flag_back s.mpls.n,
      short_back s.mpls.limit d,
      h.a,
      h.r,
      h.v,
      h.m,
    )
