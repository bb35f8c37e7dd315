-- The record that an OPEN's answer is handed out as, and what it stands for when it comes back; the record of where A and R stand (include/strundevi.h).
use Rattle.std.specs.Prelude.{ℕ, cond, ltb}
use Rattle.flag_positions.specs.declared.Positions.{Positions}
use Rattle.session.specs.Sessions.{most_of}
use Rattle.session.specs.Opened.{Opened}
use Rattle.border_records.specs.Records.{is_yes, bit, limit_in, limited_flag, depth_from, there_of, value_of}
use Rattle.border_opened.specs.declared.opened.OpenedRecord.{OpenedRecord}
use Rattle.border_opened.specs.declared.positions.PositionsRecord.{PositionsRecord}

-- Where A and R stand.
abbrev pub positions_in : PositionsRecord → Positions
positions_in p = record { a = p.a; r = p.r }

-- The form at fault crosses as an octet; one that is none is handed out as 0, no form's.
abbrev pub form_out : ℕ → ℕ
form_out form = cond (ltb form 256) form 0

abbrev pub opened_in : OpenedRecord → Opened
opened_in o =
    record {
      number = o.number;
      srv6 = is_yes o.srv6;
      n = is_yes o.n;
      limit = limit_in o.limited o.limit;
      a = is_yes o.a;
      r = is_yes o.r;
      v = depth_from o.hasv o.v;
      m = depth_from o.hasm o.m;
      form = o.form;
      mpls = is_yes o.mpls;
      mplsn = is_yes o.mplsn;
      mplslimit = limit_in o.mplslimited o.mplslimit;
    }

abbrev pub opened_out : Opened → OpenedRecord
opened_out o =
    record {
      number = o.number;
      srv6 = bit o.srv6;
      n = bit o.n;
      limited = limited_flag o.limit;
      limit = most_of o.limit;
      a = bit o.a;
      r = bit o.r;
      hasv = there_of o.v;
      v = value_of o.v;
      hasm = there_of o.m;
      m = value_of o.m;
      mpls = bit o.mpls;
      mplsn = bit o.mplsn;
      mplslimited = limited_flag o.mplslimit;
      form = form_out o.form;
      mplslimit = most_of o.mplslimit;
    }
