-- The frame by the ways out of the code. Assumes nothing.
use Prim.Native.Nat.{ℕ, ◌%◌, ◌≤◌, ◌<◌}
use mathlib.Core.Path.{◌≡◌}
use mathlib.Core.List.{List}
use mathlib.Core.Bool.{true, false, ◌&&◌}
use lib.ListN.{length}
use lib.Dec.{eqb, leb}
use borrow.Author.Tests.{lt-leb, le-leb, leb-true}
use Rattle.octets.proofs.Said.{both_true, and_holding, and_false}
use Rattle.objects.specs.Objects.{unit, object_length}
use Rattle.open_frame.specs.Framed.{tlvs_at, open_headed, measured, framed}

pub framed_short : (s : List ℕ) → length s < tlvs_at → framed s ≡ false
unfolding framed
framed_short s h = rw (lt-leb tlvs_at (length s) h, and_false (eqb (object_length s) (length s) && eqb (length s % unit) 0), and_false (open_headed s))

pub framed_long : (s : List ℕ) → tlvs_at ≤ length s → framed s ≡ (open_headed s && (eqb (object_length s) (length s) && eqb (length s % unit) 0))
unfolding framed
framed_long s h = rw (le-leb tlvs_at (length s) h, and_holding (eqb (object_length s) (length s) && eqb (length s % unit) 0))

pub long_framed : (s : List ℕ) → framed s ≡ true → tlvs_at ≤ length s
unfolding framed
long_framed s e =
    leb-true tlvs_at (length s) (both_true (eqb (object_length s) (length s) && eqb (length s % unit) 0) (leb tlvs_at (length s)) (both_true (open_headed s) (measured s) e).1).1
