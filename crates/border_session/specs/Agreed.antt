-- The record of the sessions of the two forms: what it stands for when it comes in, and how they are handed out (include/strundevi.h).
use Rattle.std.specs.Prelude.{false, None}
use Rattle.session.specs.declared.Session.{Session}
use Rattle.session.specs.declared.Sessions.{Sessions}
use Rattle.border_records.specs.Records.{is_yes, bit, limit_in, limited_flag, short_of, depth_from, there_of, value_of}
use Rattle.border_session.specs.declared.SessionRecord.{SessionRecord}

-- The two sessions in one record. MPLS's has no A, R, v and m.
abbrev pub srv6_in : SessionRecord → Session
srv6_in s =
    record {
      agreed = is_yes s.agreed;
      n = is_yes s.n;
      limit = limit_in s.limited s.limit;
      a = is_yes s.a;
      r = is_yes s.r;
      v = depth_from s.hasv s.v;
      m = depth_from s.hasm s.m;
    }

abbrev pub mpls_in : SessionRecord → Session
mpls_in s =
    record {
      agreed = is_yes s.mpls;
      n = is_yes s.mplsn;
      limit = limit_in s.mplslimited s.mplslimit;
      a = false;
      r = false;
      v = None;
      m = None;
    }

abbrev pub sessions_in : SessionRecord → Sessions
sessions_in s = record { srv6 = srv6_in s; mpls = mpls_in s }

abbrev pub sessions_out : Sessions → SessionRecord
sessions_out s =
    record {
      agreed = bit s.srv6.agreed;
      n = bit s.srv6.n;
      a = bit s.srv6.a;
      r = bit s.srv6.r;
      hasv = there_of s.srv6.v;
      v = value_of s.srv6.v;
      hasm = there_of s.srv6.m;
      m = value_of s.srv6.m;
      limited = limited_flag s.srv6.limit;
      mpls = bit s.mpls.agreed;
      mplsn = bit s.mpls.n;
      mplslimited = limited_flag s.mpls.limit;
      limit = short_of s.srv6.limit;
      mplslimit = short_of s.mpls.limit;
    }
