use Rattle.std.proofs.Common.{◌≡◌, ◌&&◌, not, eqb}
use mathlib.Core.Path.{sym, ◌∙◌}
use borrow.Author.Tests.{eq-eqb, ne_eqb, not-true}
use Rattle.subobject.proofs.Laws.{bit_of}
use Rattle.subobject_sound.proofs.Laws.{nt_known, seven_kept}
use Rattle.subobject_sound.proofs.sound.head_sound.Goals.{then-not-bare, else-not-bare}
use Rattle.subobject_sound.proofs.sound.head_sound.Goals as goal

pub returns : goal.returns
returns c =
    let unknown : c.if-not-bare.unknown ≡ (not (eqb c.args.h.nt 0) && eqb c.nai_length-nai.result 0) = elim c.if-not-bare.branch [
      | then-not-bare w ↦ rw (ne_eqb _ 0 w.if-not-bare.true) w.unknown-is
      | else-not-bare w ↦ rw (eq-eqb _ 0 w.if-not-bare.false) (w.unknown-is ∙ rw (eq-eqb c.args.h.nt 0 w.if-not-bare.false))
    ] in
    record {
      sound = λ e. (
        nt_known _ _ _ _ c.nai_length-nai.ensures.length.0 unknown c.if-unknown.false,
        sym c.nine.ensures.broken ∙ c.if-nine.false,
        seven_kept _ _ _ _ _ (bit_of _ c.from.ensures) c.if-h-from.false (c.expected.ensures.length c.nai_length-nai.ensures.length.0) c.if-h-expected.false
            c.is_malformed.ensures.malformed c.if-is_malformed.false,
        sym c.ten.ensures.broken ∙ not-true _ e,
      );
    }
