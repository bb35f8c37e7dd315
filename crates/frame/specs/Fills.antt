-- A frame without a bound on its subobjects: one behind the other, from a place to the object's end
-- (document 01, "The route object": "each subobject length is a multiple of 4, at least 4, and fits").
use Rattle.std.specs.Prelude.{ℕ, ◌+◌, ◌-◌, ◌≡◌, true, List, [], ◌∷◌, length}
use Rattle.subobject.specs.Layout.{size_at}
use Rattle.frame.specs.Frames.{fits_in}

-- The subobjects from a place on stand at these places, and fill the object to its end.
pub data FillsFrom (s : List ℕ) : ℕ → List ℕ → Type 0 where
  stop : {at : ℕ} → at ≡ length s → FillsFrom s at []
  link : {at : ℕ} {ps : List ℕ} → (at ≡ length s → ⊥) → fits_in (size_at s at) (length s - at) ≡ true → FillsFrom s (at + size_at s at) ps
      → FillsFrom s at (at ∷ ps)
