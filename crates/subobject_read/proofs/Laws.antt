-- The reader's answer. Assumes nothing.
use Prim.Native.Nat.{ℕ, ◌-◌, ◌≤◌, ◌<◌}
use mathlib.Core.Path.{◌≡◌, ap}
use mathlib.Core.List.{List}
use mathlib.Core.Bool.{Bool}
use lib.ListN.{length}
use native.Mathlib.Omega.{arith}
use borrow.Author.Tests.{lt-ltb, le-ltb}
use Rattle.answers.specs.Numbers.{length_wrong}
use Rattle.subobject.specs.declared.head.Head.{Head}
use Rattle.forms.specs.declared.Form.{Form}
use Rattle.subobject.specs.Layout.{expected_length, head_at, expected_at}
use Rattle.subobject_strays.specs.declared.Strays.{Strays}
use Rattle.subobject_strays.specs.Strays.{strays_by, strays_at}
use Rattle.subobject_read.specs.Reader.{Whole, Refused, read_of}

-- The octets end before the fixed part does,
pub read_short : (form : Form) (s : List ℕ) (ero : Bool) (at fixed : ℕ) → fixed ≡ form.fixed → length s - at < fixed → Refused length_wrong at ≡ read_of form s ero at
unfolding read_of expected_at expected_length
read_short form s ero at fixed e l = rw (lt-ltb (length s - at) (expected_at form s ero at) (omega arith))

module _ (form : Form) (s : List ℕ) (ero : Bool) (at : ℕ) (h : Head) (n : ℕ) (eh : h ≡ head_at form s ero at)
    (en : n ≡ expected_length form h.nt h.s h.t) where
  expected_here : n ≡ expected_at form s ero at
  unfolding expected_at
  expected_here = rw eh at en

  -- or before the subobject does,
  pub read_cut : length s - at < n → Refused length_wrong at ≡ read_of form s ero at
  unfolding read_of
  read_cut l = rw (lt-ltb (length s - at) (expected_at form s ero at) (omega (arith, expected_here)))

  -- or it is there whole.
  pub read_whole : (x : Strays) → n ≤ length s - at → x ≡ strays_by form h s at → Whole x ≡ read_of form s ero at
  unfolding read_of strays_at
  read_whole x l e = rw (le-ltb (length s - at) (expected_at form s ero at) (omega (arith, expected_here)), ← eh) (ap (λ (y : Strays). Whole y) e)
