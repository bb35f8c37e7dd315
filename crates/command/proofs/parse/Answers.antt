-- One law of `Laws` for each of the four ways in which a reading ends.
use Rattle.command.proofs.Laws.{made}
use Prim.Native.Nat.{ℕ}
use mathlib.Core.List.{List}
use Rattle.same_octets.specs.Same.{same_octets}
use Rattle.command_forms.specs.Forms.{the_ero, verb_of}
use Rattle.command.proofs.Laws.{read_skipped, read_long, read_out_of_form, read_in_form}
use mathlib.Core.Path.{sym, ◌∙◌, ap}
use Rattle.command.proofs.parse.Goals as goal

pub returns-then-is_skipped : goal.returns-then-is_skipped
returns-then-is_skipped c = record { read = c.alone.ensures.bare ∙ read_skipped _ (sym c.is_skipped.ensures.skipped ∙ c.if-is_skipped.true) }

pub returns-then-line-gt-LONGEST_LINE : goal.returns-then-line-gt-LONGEST_LINE
returns-then-line-gt-LONGEST_LINE c = record
    { read = c.alone-then-line-gt-LONGEST_LINE.ensures.bare ∙ read_long _ (sym c.is_skipped.ensures.skipped ∙ c.if-is_skipped.false) c.if-line-gt-LONGEST_LINE.true }

pub returns-then-not-is_formed : goal.returns-then-not-is_formed
returns-then-not-is_formed c =
    let e = c.named-verb.ensures.verb ∙ ap verb_of c.word.ensures.word.0 in record {
      read = c.alone-then-not-is_formed.ensures.bare
          ∙ read_out_of_form _
          (sym c.is_skipped.ensures.skipped ∙ c.if-is_skipped.false)
          c.if-line-gt-LONGEST_LINE.false
          (rw (← e) (sym c.is_formed.ensures.formed ∙ c.if-not-is_formed.true));
    }

pub returns : goal.returns
unfolding same_octets
returns c =
    let e = c.named-verb.ensures.verb ∙ ap verb_of c.word.ensures.word.0 in record {
      read = made _ e
          (c.eq-ero.ensures
          ∙ ap (λ (w : List ℕ). same_octets w the_ero) c.word-2.ensures.word.0)
          c.number_at-one.ensures.number c.number_at-two.ensures.number
          c.number_at-three.ensures.number c.number_at-four.ensures.number
          ∙ read_in_form _ (sym c.is_skipped.ensures.skipped ∙ c.if-is_skipped.false)
          c.if-line-gt-LONGEST_LINE.false
          (rw (← e) (sym c.is_formed.ensures.formed ∙ c.if-not-is_formed.false));
    }
