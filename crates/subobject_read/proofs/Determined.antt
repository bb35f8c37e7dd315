-- Of any two answers that fit a contract, both are the same.
use Prim.Native.Nat.{ℕ}
use mathlib.Core.Path.{◌≡◌, refl, sym, ◌∙◌}
use mathlib.Core.List.{List}
use mathlib.Core.Bool.{Bool}
use Rattle.std.proofs.Common.{Result}
use Rattle.answers.specs.declared.verdict.Verdict.{Verdict}
use Rattle.answers.specs.declared.refusal.Refusal.{Refusal}
use Rattle.answers.specs.Verdicts.{refused_by, accepted_with}
use Rattle.answers.proofs.Results.{view_back}
use Rattle.forms.specs.declared.Form.{Form}
use Rattle.subobject.specs.declared.segment.Segment.{Segment}
use Rattle.subobject.specs.Segments.{segment_at, no_segment}
use Rattle.subobject_strays.specs.declared.Strays.{Strays}
use Rattle.subobject_strays.specs.Strays.{no_strays}
use Rattle.subobject_read.specs.Reader.{Reading, Whole, Refused, reading_of, read_of}

pub segment_at_determined : (form : Form) (s : List ℕ) (ero : Bool) (at : ℕ) (a b : Segment) → a ≡ segment_at form s ero at → b ≡ segment_at form s ero at → a ≡ b
segment_at_determined form s ero at a b e f = e ∙ sym f

pub no_segment_determined : (a b : Segment) → a ≡ no_segment → b ≡ no_segment → a ≡ b
no_segment_determined a b e f = e ∙ sym f

abbrev verdict_in : Reading → Verdict
verdict_in (Whole x) = accepted_with 0
verdict_in (Refused number place) = refused_by number place

abbrev inside : Reading → Strays
inside (Whole x) = x
inside (Refused number place) = no_strays

pub reading_back : (x y : Result Strays Refusal) → reading_of x ≡ reading_of y → x ≡ y
reading_back = view_back reading_of verdict_in inside (λ _. refl) (λ _. refl) (λ _. refl)

pub read_at_determined : (form : Form) (s : List ℕ) (ero : Bool) (at : ℕ) (a b : Result Strays Refusal) → reading_of a ≡ read_of form s ero at
    → reading_of b ≡ read_of form s ero at → a ≡ b
read_at_determined form s ero at a b e f = reading_back a b (e ∙ sym f)
