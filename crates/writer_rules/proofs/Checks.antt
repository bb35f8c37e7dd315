-- The lists of specs/Checks: every check has a number and names place 0, so that the verdict of the first broken one's number is the list's own (`first_verdict`), and a call that gives it
-- answers by the first broken check (`by_first_number`). What adding's list is when its table is taken apart (`add_listed`), and what of 7 is left of the head that a segment is written with
-- (`seven_written`): its F and its length are the right ones. Assumes nothing.
use Prim.Native.Nat.{ℕ}
use native.Mathlib.Omega.{arith}
use mathlib.Core.Path.{◌≡◌, refl, sym, ◌∙◌, ap}
use mathlib.Core.Bool.{Bool, true, false, not}
use mathlib.Core.List.{List, [], ◌∷◌}
use borrow.Author.Tests.{eq-eqb}
use Rattle.answers.specs.declared.verdict.Verdict.{Verdict}
use Rattle.answers.specs.Verdicts.{refused_by, accepted_with, kept}
use Rattle.answers.proofs.First.{EachOf}
use Rattle.answers.proofs.Kept.{kept_old}
use Rattle.forms.specs.declared.Form.{Form}
use Rattle.subobject.specs.declared.segment.Segment.{Segment}
use Rattle.subobject.specs.Layout.{expected_length}
use Rattle.subobject.specs.Rules.{rule8, rule9, flag_f, malformed, rule7, rule11, label_at, time_at, rule29, rule30}
use Rattle.subobject.specs.Segments.{head_of_segment, bits_of, bit}
use Rattle.frame.specs.Checks.{Check, check, first_broken}
use Rattle.frame.proofs.Checks.{AllNumbered, ByFirst, by_first}
use Rattle.writer_rules.specs.Checks.{first_number, begin_checks, unfit, no_room, add_checks, finish_checks}

-- any list -----------------------------------------------------------------------------------------------------

-- Every check of the list names place 0.
abbrev pub AtZero : List Check → Type 0
AtZero cs = EachOf (λ c. c.place ≡ 0) cs

-- The verdict of a number: a refusal at place 0, or an acceptance.
abbrev pub verdict_of : ℕ → Verdict
verdict_of n = kept n (refused_by n 0) (accepted_with 0)

pub first_verdict : (cs : List Check) → AllNumbered cs → AtZero cs → verdict_of (first_number cs) ≡ first_broken cs (accepted_with 0)
first_verdict [] n z = refl
first_verdict (c ∷ cs) n z = go c.broken refl (first_verdict cs n.1 z.1)
  where
    go : (b : Bool) → c.broken ≡ b → verdict_of (first_number cs) ≡ first_broken cs (accepted_with 0)
        → verdict_of (first_number (c ∷ cs)) ≡ first_broken (c ∷ cs) (accepted_with 0)
    go true k rest =
        rw k (kept_old c.number (refused_by c.number 0) (accepted_with 0) (λ e. omega (arith, n.0, e)) ∙ ap (refused_by c.number) (sym z.0))
    go false k rest = rw k rest

pub by_first_number : (v : Verdict) (cs : List Check) → AllNumbered cs → AtZero cs → v ≡ verdict_of (first_number cs) → ByFirst v cs (accepted_with 0)
by_first_number v cs n z e = by_first v cs (accepted_with 0) n refl (e ∙ first_verdict cs n z)

-- begin --------------------------------------------------------------------------------------------------------

pub begin_first : (room : ℕ) (v : Verdict) → v ≡ verdict_of (first_number (begin_checks room)) → ByFirst v (begin_checks room) (accepted_with 0)
begin_first room v e = by_first_number v (begin_checks room) (omega arith, tt) (refl, tt) e

-- add ----------------------------------------------------------------------------------------------------------

module _ (form : Form) (g : Segment) where
  -- Of the head that a segment is written with only the flags can break 7.
  pub seven_written : rule7 form (head_of_segment form g) ≡ malformed (head_of_segment form g)
  unfolding rule7 head_of_segment
  seven_written =
      rw (
        eq-eqb (flag_f g.nt) (flag_f g.nt) refl,
        eq-eqb (expected_length form g.nt (bit (not g.hassid)) (bit g.structured)) (expected_length form g.nt (bit (not g.hassid)) (bit g.structured)) refl,
      )

  module _ (ero : Bool) (at room : ℕ) where
    -- The list one by one.
    pub add_listed : add_checks form g ero at room
        ≡ check 8 0 (rule8 form (head_of_segment form g))
        ∷ check 9 0 (rule9 (head_of_segment form g))
        ∷ check 7 0 (unfit form g ero)
        ∷ check 11 0 (rule11 (head_of_segment form g) (bits_of g))
        ∷ check 29 0 (rule29 (head_of_segment form g) (label_at g.sid 0))
        ∷ check 30 0 (rule30 (head_of_segment form g) (time_at g.sid 0))
        ∷ check 16 0 (no_room form g at room)
        ∷ []
    add_listed = refl

    pub add_first : (v : Verdict) → v ≡ verdict_of (first_number (add_checks form g ero at room)) → ByFirst v (add_checks form g ero at room) (accepted_with 0)
    add_first v e =
        by_first_number v (add_checks form g ero at room) (omega arith, (omega arith, (omega arith, (omega arith, (omega arith, (omega arith, (omega arith, tt)))))))
        (refl, (refl, (refl, (refl, (refl, (refl, (refl, tt))))))) e

-- finish -------------------------------------------------------------------------------------------------------

pub finish_first : (at room : ℕ) (v : Verdict) → v ≡ verdict_of (first_number (finish_checks at room)) → ByFirst v (finish_checks at room) (accepted_with 0)
finish_first at room v e = by_first_number v (finish_checks at room) (omega arith, (omega arith, tt)) (refl, (refl, tt)) e
