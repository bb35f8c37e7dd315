use Rattle.subobject.specs.Segments.{flags_octet}
use Rattle.writer_fixed.proofs.head.flags.Goals as goal

pub returns : goal.returns
unfolding flags_octet
returns g c =
    record {
      flags = rw (
        c.worth.ensures.worth.0,
        c.worth-2.ensures.worth.0,
        c.worth-3.ensures.worth.0,
        c.worth-4.ensures.worth.0,
        c.worth-5.ensures.worth.0,
        c.worth-6.ensures.worth.0,
        c.form-form.ensures.form,
      );
    }
