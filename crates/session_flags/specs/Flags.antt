-- "turning a flag on" (document 02, C-15): two answers to OPEN objects that are alike but for A and R.
use Rattle.std.specs.Prelude.{◌≡◌, true, false}
use Rattle.session.specs.Opened.{Opened}

-- An answer without its A and R.
abbrev pub unflagged : Opened → Opened
unflagged o =
    record {
      number = o.number;
      srv6 = o.srv6;
      n = o.n;
      limit = o.limit;
      a = false;
      r = false;
      v = o.v;
      m = o.m;
      form = o.form;
      mpls = o.mpls;
      mplsn = o.mplsn;
      mplslimit = o.mplslimit;
    }

-- The second is the first with A or R turned on, or both, or neither.
pub record TurnedOn (o q : Opened) : Type 0 where
  pub alike : unflagged o ≡ unflagged q
  pub a : o.a ≡ true → q.a ≡ true
  pub r : o.r ≡ true → q.r ≡ true
