-- The frame's answer by what the pass has gathered. Assumes nothing.
use Prim.Native.Nat.{ℕ, ◌/◌, ◌%◌, ◌≤◌}
use mathlib.Core.Path.{◌≡◌, refl, sym, ◌∙◌}
use mathlib.Core.List.{List}
use mathlib.Core.Bool.{Bool, true, false, cond, not, ◌&&◌}
use lib.Dec.{eqb}
use lib.ListN.{length, get_or}
use borrow.Author.Tests.{eq-eqb, le-ltb, not-true, not-false}
use Rattle.octets.specs.Octets.{octet_of, be16}
use Rattle.objects.specs.Objects.{header, unit, class_place, type_place, length_place, type_worth, object_type}
use Rattle.answers.specs.declared.verdict.Verdict.{Verdict}
use Rattle.answers.specs.Numbers.{frame_broken, route_empty, kinds_mixed, none_of_form}
use Rattle.answers.specs.Verdicts.{refused_by, accepted_with}
use Rattle.frame.specs.Frames.{class_of, headed, apart_of, rule4, rule5, rule6, rule6_place, rule14}
use Rattle.frame.specs.Gathered.{Found, facts_of, frame_of}

-- The last test of a header.
pub headed_last : (ero : Bool) (s : List ℕ) → header ≤ length s → get_or s class_place 0 ≡ class_of ero → get_or s type_place 0 / type_worth ≡ object_type → be16 s length_place ≡ length s
    → eqb (length s % unit) 0 ≡ headed s ero
unfolding headed octet_of
headed_last ero s l c k n =
    rw (le-ltb (length s) header l, eq-eqb (get_or s class_place 0) (class_of ero) c, eq-eqb (get_or s type_place 0 / type_worth) object_type k, eq-eqb (be16 s length_place) (length s) n)

-- the frame's answer -------------------------------------------------------------------------------------------

-- The answer by the facts that the pass has gathered.
abbrev pub by_facts : Found → Verdict
by_facts g =
    cond (not g.whole) (refused_by frame_broken 0)
    (cond (eqb g.count 0) (refused_by route_empty 0)
    (cond (g.any && not (eqb g.other 0)) (refused_by kinds_mixed g.other) (cond (not g.any) (refused_by none_of_form 0) (accepted_with g.count))))

pub header_broken : (ero : Bool) (kind : ℕ) (s : List ℕ) (h : Bool) → h ≡ headed s ero → not h ≡ true → refused_by frame_broken 0 ≡ frame_of s ero kind
unfolding frame_of rule4
header_broken ero kind s h e n = rw (sym e ∙ not-true h n)

pub frame_by : (ero : Bool) (kind : ℕ) (s : List ℕ) (h : Bool) (g : Found) → h ≡ headed s ero → not h ≡ false → g ≡ facts_of s ero kind
    → by_facts g ≡ frame_of s ero kind
unfolding frame_of facts_of rule4 rule5 rule6 rule6_place rule14
frame_by ero kind s h g e n q = rw q (go (apart_of s).whole refl)
  where
    go : (b : Bool) → (apart_of s).whole ≡ b → by_facts (facts_of s ero kind) ≡ frame_of s ero kind
    go true w = rw (w, sym e ∙ not-false h n)
    go false w = rw (w, sym e ∙ not-false h n)
