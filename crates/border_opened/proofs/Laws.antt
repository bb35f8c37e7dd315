-- An answer to an OPEN that is handed out and comes back is what it was.
use Prim.Native.Nat.{ℕ, ◌<◌}
use mathlib.Core.Path.{◌≡◌}
use borrow.Author.Tests.{lt-ltb}
use Rattle.session.specs.Opened.{Opened}
use Rattle.border_records.proofs.Laws.{flag_back, limit_back, depth_back}
use Rattle.border_opened.specs.Opens.{form_out, opened_in, opened_out}

pub form_back : (form : ℕ) → form < 256 → form_out form ≡ form
form_back form h = rw (lt-ltb form 256 h)

-- The form at fault is 0, 1 or 3.
pub opened_back : (o : Opened) → o.form < 256 → opened_in (opened_out o) ≡ o
opened_back o f =
    rw (
      flag_back o.srv6,
      flag_back o.n,
      limit_back o.limit,
      flag_back o.a,
      flag_back o.r,
      depth_back o.v,
      depth_back o.m,
      form_back o.form f,
      flag_back o.mpls,
      flag_back o.mplsn,
      limit_back o.mplslimit,
    )
