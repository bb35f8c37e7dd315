use Rattle.console_add.proofs.Laws.{segment_made}
use Rattle.decimal.specs.Decimal.{is_none, structure_of}
use mathlib.Core.Path.{◌∙◌, ap}
use native.Mathlib.Omega.{arith}
use Rattle.console_add.proofs.segment_in.Goals as goal

pub overflow_cast-result : goal.overflow_cast-result
overflow_cast-result c = omega (arith, c.requires.1.nt)

pub overflow_cast-result-2 : goal.overflow_cast-result-2
overflow_cast-result-2 c = omega (arith, c.requires.1.behaviour)

pub shape_of-room : goal.shape_of-room
shape_of-room c = c.nai_in-nai.ensures.room ∙ c.sid_in-sid.ensures.room

pub returns : goal.returns
returns c =
    record {
      segment = segment_made c.args.line.command
          c.args.line.octets.now c.sid_in-sid.ensures.sid
          c.nai_in-nai.ensures.nai
          (c.is_none.ensures.none ∙ ap is_none c.word-2.ensures.word.0)
          (c.is_none-2.ensures.none ∙ ap is_none c.word-3.ensures.word.0)
          (c.structure-structure.ensures.structure ∙ ap structure_of c.word.ensures.word.0)
          c.number_at-labelled.ensures.number c.number_at-complete.ensures.number;
      room = c.nai_in-nai.ensures.room ∙ c.sid_in-sid.ensures.room;
    }
