-- What a form has no flag and no place for (document 02, C-16).
use Rattle.std.specs.Prelude.{Bool, not, ◌&&◌, ◌||◌, eqb}
use Rattle.forms.specs.declared.Form.{Form}
use Rattle.subobject.specs.declared.segment.Outline.{Outline}

-- "For SRv6 M and C must be 0, for MPLS behaviour .. must be 0 and there is no structure": what the form has no flag and no place for.
unfoldable pub foreign : Form → Outline → Bool
foreign form o =
    (eqb form.m 0 && o.labelled)
    || ((eqb form.c 0 && o.complete) || ((eqb form.t 0 && o.structured) || (not form.behaves && not (eqb o.behaviour 0))))
