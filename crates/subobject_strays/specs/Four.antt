-- What a walk over many subobjects looks at to tell that nothing is stray. No call is promised by it: contracts of inner functions cite it, and proofs turn it
-- into Strays. Only the law that a segment without a mark counts 0 (`unmarked_none`) is stated by `marked_at` and `ending_marked`.
use Rattle.std.specs.Prelude.{ℕ, ◌+◌, ◌-◌, Bool, false, cond, not, ◌&&◌, ◌||◌, List, eqb}
use Rattle.octets.specs.Octets.{octet_of, be16}
use Rattle.octet_sums.specs.Sums.{four_at}
use Rattle.forms.specs.declared.Form.{Form}
use Rattle.subobject.specs.declared.head.Head.{Head}
use Rattle.subobject_strays.specs.declared.Strays.{Strays}
use Rattle.subobject.specs.Layout.{structure_size, bit_lengths}
use Rattle.subobject.specs.Rules.{has_structure}
use Rattle.subobject_strays.specs.Strays.{reserved_place, structure_reserved_size, stray_flags}

-- The unassigned flags, and the two reserved octets where the form has them.
unfoldable pub marked_at : Form → List ℕ → ℕ → Bool
marked_at form s at = not (eqb (stray_flags form s at) 0) || (form.behaves && not (eqb (be16 s (at + reserved_place)) 0))

-- What stands behind the bit lengths of a structure.
abbrev pub structure_ending : ℕ
structure_ending = structure_size - bit_lengths

-- The strays with a structure whose last four octets stand at p: three reserved ones and its flags.
unfoldable pub strays_with : List ℕ → ℕ → ℕ → ℕ → Strays
strays_with s p flags fixed =
    record {
      flags = flags;
      structure = octet_of s (p + structure_reserved_size);
      reserved = not (eqb fixed 0) || not (eqb (octet_of s p + octet_of s (p + 1) + octet_of s (p + 2)) 0);
    }

-- The last four octets of a structure, which end a subobject of the expected length.
unfoldable pub ending_marked : Head → List ℕ → ℕ → Bool
ending_marked h s at = cond (has_structure h) (not (eqb (four_at s (at + h.size - structure_ending)) 0)) false
