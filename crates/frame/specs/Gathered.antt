-- What one pass over the frame gathers, and what the frame by itself answers. No promise rests on it: contracts of inner functions cite it, and proofs turn it into Frames.
use Rattle.std.specs.Prelude.{ℕ, ◌+◌, ◌≤◌, ◌<◌, ◌≡◌, List, Bool, true, false, cond, ◌||◌, Option, None, Some, length, eqb}
use Rattle.octets.specs.Octets.{end16}
use Rattle.objects.specs.Objects.{header}
use Rattle.answers.specs.declared.verdict.Verdict.{Verdict}
use Rattle.answers.specs.Verdicts.{accepted_with}
use Rattle.frame.specs.declared.gathering.Facts.{Facts}
use Rattle.frame.specs.Checks.{first_broken}
use Rattle.frame.specs.Frames.{Apart, apart_of, places_of, kind_at, any_is, mixed_at, frame_checks}

-- What a walk over the places requires of the octets: a header, a length that two octets say, a frame that is whole.
abbrev pub Walkable : List ℕ → Type 0
Walkable s = (header ≤ length s) × (length s < end16) × ((apart_of s).whole ≡ true)

-- What a frame holds; a broken one holds nothing.
pub record Found : Type 0 where
  pub whole : Bool
  pub count : ℕ
  pub any : Bool
  pub other : ℕ

-- The same of what the pass hands out. A place that was found is no 0, which stands for none.
abbrev pub place_of : Option ℕ → ℕ
place_of None = 0
place_of (Some p) = p

abbrev pub Placed : Option ℕ → Type 0
Placed None = Unit {0}
Placed (Some p) = 0 < p

abbrev pub gathered : Facts → Found
gathered g = record { whole = true; count = g.count; any = g.any; other = place_of g.other }

abbrev pub no_facts : Bool → Found
no_facts whole = record { whole = whole; count = 0; any = false; other = 0 }

abbrev pub found_of : Option Facts → Found
found_of None = no_facts false
found_of (Some g) = gathered g

-- A place in it is no 0.
abbrev pub PlacedIn : Option Facts → Type 0
PlacedIn None = Unit {0}
PlacedIn (Some g) = Placed g.other

-- A subobject more: of the first one's type, or of another.
unfoldable pub seen_of : Found → ℕ → ℕ → ℕ → ℕ → Found
seen_of g k kind first at =
    cond (eqb k first) (record { whole = g.whole; count = g.count + 1; any = g.any; other = g.other })
    (record { whole = g.whole; count = g.count + 1; any = g.any || eqb k kind; other = cond (eqb g.other 0) at g.other })

-- What a frame holds that was taken apart.
abbrev pub facts_in : (ℕ → ℕ) → Apart → ℕ → Found
facts_in kinds a kind =
    cond a.whole (record { whole = true; count = length a.places; any = any_is kinds a.places kind; other = mixed_at kinds a.places })
    (no_facts false)

unfoldable pub facts_of : List ℕ → Bool → ℕ → Found
facts_of s ero kind = facts_in (kind_at s ero) (apart_of s) kind

-- The frame's answer: the first broken check, or the number of subobjects.
unfoldable pub frame_of : List ℕ → Bool → ℕ → Verdict
frame_of s ero kind = first_broken (frame_checks s ero kind) (accepted_with (length (places_of s)))
