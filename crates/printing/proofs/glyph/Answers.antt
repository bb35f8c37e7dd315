use Rattle.printing.specs.Text.{glyph_of}
use Rattle.std.proofs.Common.{◌≡◌, ◌+◌, ◌-◌, arith}
use borrow.Author.Tests.{lt-ltb, le-ltb}
use Rattle.printing.proofs.glyph.Goals as goal

pub returns-in-0-to-9 : goal.returns-in-0-to-9
unfolding glyph_of
returns-in-0-to-9 c = record { glyph = rw (lt-ltb c.args.d 10 (omega arith)) }

pub returns-in_default : goal.returns-in_default
unfolding glyph_of
returns-in_default c =
    let e : 65 + (c.args.d - 10) ≡ 55 + c.args.d = omega arith in
    record { glyph = rw (e, le-ltb c.args.d 10 (omega arith)) }
