-- A frame is whole exactly if its subobjects fill it, and they stand at its places. Assumes nothing.
use Prim.Native.Nat.{ℕ, zero, suc, pred, ◌+◌, ◌-◌, ◌<◌}
use mathlib.Core.Path.{◌≡◌, refl}
use mathlib.Core.Bool.{Bool, true, false, cond}
use mathlib.Core.List.{List, [], ◌∷◌}
use lib.Dec.{eqb}
use lib.ListN.{length}
use native.Mathlib.Omega.{arith}
use borrow.Author.Tests.{eq-eqb, ne_eqb, eqb-true, eqb-false}
use Rattle.octets.specs.Octets.{octet_of}
use Rattle.objects.specs.Objects.{header}
use Rattle.frame.specs.Fills.{FillsFrom, stop, link}
use Rattle.frame.specs.Frames.{fits_in, ended, unfilled, from, apart, apart_of, places_of}
use Rattle.frame.proofs.Laws.{fits_true, parted}

whole_from : (f : ℕ) (s : List ℕ) (at : ℕ) → (apart s at f).whole ≡ true → FillsFrom s at (apart s at f).places
unfolding apart
whole_from zero s at w = absurd (let z : ◌≡◌ {A = ℕ} 0 1 = cc in omega arith)
whole_from (suc f) s at w =
    go (eqb at (length s)) refl (fits_in (octet_of s (at + 1)) (length s - at)) refl w (λ v. whole_from f s (at + octet_of s (at + 1)) v)
  where
    go : (x : Bool) → eqb at (length s) ≡ x → (y : Bool) → fits_in (octet_of s (at + 1)) (length s - at) ≡ y
        → (cond x ended (cond y (from at (apart s (at + octet_of s (at + 1)) f)) unfilled)).whole ≡ true
        → ((apart s (at + octet_of s (at + 1)) f).whole ≡ true → FillsFrom s (at + octet_of s (at + 1)) (apart s (at + octet_of s (at + 1)) f).places)
        → FillsFrom s at (cond x ended (cond y (from at (apart s (at + octet_of s (at + 1)) f)) unfilled)).places
    go true e y d w rest = stop (eqb-true at (length s) e)
    go false e false d w rest = absurd (let z : ◌≡◌ {A = ℕ} 0 1 = cc in omega arith)
    go false e true d w rest = link (eqb-false at (length s) e) d (rest w)

from_whole : (s : List ℕ) (at : ℕ) (ps : List ℕ) → FillsFrom s at ps → (f : ℕ) → length s - at < f → apart s at f ≡ record { whole = true; places = ps }
from_whole s at [] (stop e) f h = rw (parted f s at (omega arith), eq-eqb at (length s) e)
from_whole s at (p ∷ ps) (link n d c) f h =
    let r = from_whole s (at + octet_of s (at + 1)) ps c (pred f) (omega (arith, fits_true (octet_of s (at + 1)) (length s - at) d)) in
    rw (parted f s at (omega arith), ne_eqb at (length s) n, d, r)

-- A whole frame's subobjects fill it,
pub whole_fills : (s : List ℕ) → (apart_of s).whole ≡ true → FillsFrom s header (places_of s)
unfolding apart_of
whole_fills s w = whole_from (suc (length s)) s header w

-- and a frame that subobjects fill is whole, with their places.
pub fills_whole : (s ps : List ℕ) → FillsFrom s header ps → apart_of s ≡ record { whole = true; places = ps }
unfolding apart_of
fills_whole s ps c = from_whole s header ps c (suc (length s)) (omega arith)
