-- Of a segment without M and C, adding to a route that was begun under any setup type but 1 computes to SRv6's own, in document 01's numbers (specs/Alone).
-- Assumes nothing.
use Prim.Native.Nat.{ℕ, ◌+◌, ◌*◌}
use mathlib.Core.Path.{◌≡◌, refl, ap}
use mathlib.Core.Bool.{Bool, false, not, ◌&&◌, ◌||◌}
use mathlib.Core.List.{List}
use lib.Dec.{eqb, ltb}
use lib.ListN.{length}
use native.Mathlib.Omega.{arith}
use Rattle.octets.proofs.Said.{and_false, or_none}
use Rattle.objects.specs.Objects.{mpls_setup}
use Rattle.answers.specs.Verdicts.{kept}
use Rattle.octets.specs.Octets.{placed}
use Rattle.forms.specs.Forms.{srv6_form}
use Rattle.forms.proofs.Laws.{form_srv6, srv6_nais}
use Rattle.subobject.specs.declared.segment.Segment.{Segment}
use Rattle.subobject.specs.Layout.{expected_length}
use Rattle.subobject.specs.Rules.{rule8, rule9, malformed, rule11, has_structure, has_label, sum_at, label_at, time_at, rule29, rule30}
use Rattle.subobject.specs.Segments.{outline_of, head_of_segment, flags_octet, fixed_octets, subobject_of, bits_of, bit}
use Rattle.writer_spare.specs.Spare.{tidy_of}
use Rattle.writer_rules.specs.Refusals.{foreign, unfit, no_room, add_number}
use Rattle.writer_rules.proofs.Checks.{seven_written}
use Rattle.writer_state.specs.declared.Writer.{Writer}
use Rattle.writer_state.specs.Answers.{answered}
use Rattle.writer.specs.Writing.{add_answer_in, add_buffer_in, add_answer, add_buffer}
use Rattle.route.specs.Alone.{structured, four_from}
use Rattle.route.proofs.Alone.{knows_alone}
use Rattle.readback.specs.Alone.{s_of, t_of, f_of, octets_alone, tidy_alone, unfit_alone, number_alone}

flags_alone : (v t f s c m : ℕ) → v * 8 + t * 4 + f * 2 + s * 1 + c * 0 + m * 0 ≡ v * 8 + t * 4 + f * 2 + s
flags_alone v t f s c m = omega arith

-- Its octets,
pub octets_alone_lem : (g : Segment) → subobject_of srv6_form g ≡ octets_alone g
unfolding subobject_of fixed_octets flags_octet head_of_segment expected_length has_structure
octets_alone_lem g =
    rw (
      srv6_nais g.nt,
      flags_alone (bit g.verify) (t_of g) (f_of g) (s_of g) (bit g.complete) (bit g.labelled),
    )

tidy_alone_lem : (g : Segment) → tidy_of srv6_form g ≡ tidy_alone g
unfolding tidy_of
tidy_alone_lem g = rw (srv6_nais g.nt)

or_last : (a b c d : Bool) → d ≡ false → (a || (b || (c || d))) ≡ (a || (b || c))
or_last a b c d e = rw (e, or_none c)

module _ (g : Segment) (no_m : g.labelled ≡ false) (no_c : g.complete ≡ false) where
  formed : malformed (head_of_segment srv6_form g) ≡ false
  unfolding malformed head_of_segment
  formed = rw (no_m, no_c) (rw (and_false (eqb (s_of g) 1)))

  unlabelled : has_label (head_of_segment srv6_form g) ≡ false
  unfolding has_label head_of_segment
  unlabelled = rw no_m (and_false (eqb (s_of g) 0))

  own : foreign srv6_form (outline_of g) ≡ false
  unfolding foreign
  own = rw (no_m, no_c)

  unfit_alone_lem : (ero : Bool) → unfit srv6_form g ero ≡ unfit_alone g ero
  unfolding unfit
  unfit_alone_lem ero =
      rw (tidy_alone_lem g)
      (or_last (g.structured && not g.hassid) (not ero && (g.loose || g.verify)) (not (tidy_alone g)) _ (rw (own, seven_written srv6_form g, formed)))

  r8 : rule8 srv6_form (head_of_segment srv6_form g) ≡ not (eqb g.nt 0 || (eqb g.nt 2 || (eqb g.nt 4 || eqb g.nt 6)))
  unfolding rule8 head_of_segment
  r8 = ap not (knows_alone g.nt)

  r9 : rule9 (head_of_segment srv6_form g) ≡ (eqb (s_of g) 1 && eqb (f_of g) 1)
  unfolding rule9 head_of_segment
  r9 = refl

  r11 : rule11 (head_of_segment srv6_form g) (bits_of g) ≡ (structured (s_of g) (t_of g) && ltb 128 (four_from g.structure 0))
  unfolding rule11 has_structure bits_of sum_at head_of_segment
  r11 = refl

  r29 : rule29 (head_of_segment srv6_form g) (label_at g.sid 0) ≡ false
  unfolding rule29
  r29 = rw unlabelled

  r30 : rule30 (head_of_segment srv6_form g) (time_at g.sid 0) ≡ false
  unfolding rule30
  r30 = rw unlabelled

  -- and what refuses it.
  pub number_alone_lem : (room : ℕ) (ero : Bool) (at : ℕ) → add_number srv6_form g ero at room ≡ number_alone g ero at room
  unfolding add_number no_room
  number_alone_lem room ero at = rw (r8, r9, unfit_alone_lem ero, r11, r29, r30, octets_alone_lem g)

  -- **Added under every setup type but 1, it is refused as SRv6's own or written as SRv6's own.**
  pub added_alone : (b : List ℕ) (w : Writer) → (w.form ≡ mpls_setup → ⊥)
      → add_answer b w g
      ≡ answered (number_alone g w.ero w.at (length b)) w (record { ero = w.ero; at = w.at + length (octets_alone g); form = w.form })
  unfolding add_answer_in
  added_alone b w n = rw (← form_srv6 w.form n, number_alone_lem (length b) w.ero w.at, octets_alone_lem g)

  pub written_alone : (b : List ℕ) (w : Writer) → (w.form ≡ mpls_setup → ⊥)
      → add_buffer b w g ≡ kept (number_alone g w.ero w.at (length b)) b (placed b w.at (octets_alone g))
  unfolding add_buffer_in
  written_alone b w n = rw (← form_srv6 w.form n, number_alone_lem (length b) w.ero w.at, octets_alone_lem g)
