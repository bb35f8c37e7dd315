-- Malformed flags by M first: the definition's tests are gone through by their values. Assumes nothing.
use mathlib.Core.Path.{◌≡◌, refl, sym, ◌∙◌}
use mathlib.Core.Bool.{Bool, true, false, cond, not, ◌&&◌, ◌||◌}
use lib.Dec.{eqb}
use Rattle.octets.proofs.Said.{cond_yes, cond_no}
use Rattle.forms.specs.declared.Form.{Form}
use Rattle.subobject.specs.declared.segment.Outline.{Outline}
use Rattle.subobject.specs.Rules.{malformed}
use Rattle.subobject.specs.Segments.{head_of_outline, bit}

ill_by : (form : Form) (o : Outline) → cond o.labelled (not o.hassid) o.complete ≡ malformed (head_of_outline form o)
unfolding malformed
ill_by form o = go o.labelled o.hassid o.complete
  where
    go : (l a c : Bool) → cond l (not a) c ≡ ((eqb (bit (not a)) 1 && (eqb (bit l) 1 || eqb (bit c) 1)) || (eqb (bit c) 1 && not (eqb (bit l) 1)))
    go true true true = refl
    go true true false = refl
    go true false true = refl
    go true false false = refl
    go false true true = refl
    go false true false = refl
    go false false true = refl
    go false false false = refl

pub ill_labelled : (form : Form) (o : Outline) → o.labelled ≡ true → not o.hassid ≡ malformed (head_of_outline form o)
ill_labelled form o e = sym (cond_yes o.labelled (not o.hassid) o.complete e) ∙ ill_by form o

pub ill_other : (form : Form) (o : Outline) → o.labelled ≡ false → o.complete ≡ malformed (head_of_outline form o)
ill_other form o e = sym (cond_no o.labelled (not o.hassid) o.complete e) ∙ ill_by form o
