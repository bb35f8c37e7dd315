-- A route of one segment written by hand: document 01's object E, in a buffer of 28 octets and in one octet less; and one of MPLS.
use Prim.Native.Nat.{ℕ}
use mathlib.Core.Path.{◌≡◌, refl}
use mathlib.Core.Bool.{true, false}
use mathlib.Core.List.{List, [], ◌∷◌}
use lib.ListN.{replicate}
use Rattle.octets.specs.Octets.{octet_of, over, placed}
use Rattle.forms.specs.Forms.{flag_in, nai_length, knows}
use Rattle.subobject.specs.declared.segment.Segment.{Segment}
use Rattle.subobject.specs.Layout.{expected_length}
use Rattle.subobject.specs.Rules.{rule7, rule8, rule9, malformed, rule11, has_structure, has_label, label_at, time_at, rule29, rule30, sum_at}
use Rattle.subobject.specs.Segments.{head_of_segment, flags_octet, fixed_octets, subobject_of, bits_of}
use Rattle.writer_spare.specs.Spare.{tidy_of}
use Rattle.writer_state.specs.declared.Writer.{Writer}
use Rattle.writer_rules.specs.Refusals.{passes, bad_place, foreign, unfit, no_room, add_number, finish_number}
use Rattle.writer_begin_finish.specs.Ends.{header_of, begin_number, begin_answer, begin_buffer, finish_answer, finish_buffer}
use Rattle.writer.specs.Writing.{add_answer_in, add_buffer_in}
use Rattle.readback.specs.Runs.{Run, adds_run, write_run, object_in}

-- "07 10 00 1C 28 18 00 02 00 00 00 01 20 01 0D B8 00 00 00 01 00 00 00 00 00 00 00 01"
abbrev E : List ℕ
E =
    0x07 ∷ 0x10 ∷ 0x00 ∷ 0x1C ∷ 0x28 ∷ 0x18 ∷ 0x00 ∷ 0x02 ∷ 0x00 ∷ 0x00 ∷ 0x00 ∷ 0x01 ∷ 0x20 ∷ 0x01 ∷ 0x0D ∷ 0xB8 ∷ 0x00 ∷ 0x00 ∷ 0x00 ∷ 0x01
    ∷ 0x00 ∷ 0x00 ∷ 0x00 ∷ 0x00 ∷ 0x00 ∷ 0x00 ∷ 0x00 ∷ 0x01 ∷ []

-- Its segment: no NAI, endpoint behaviour 1, a SID.
abbrev segment : Segment
segment =
    record {
      loose = false;
      verify = false;
      nt = 0;
      behaviour = 1;
      hassid = true;
      sid = 0x20 ∷ 0x01 ∷ 0x0D ∷ 0xB8 ∷ 0x00 ∷ 0x00 ∷ 0x00 ∷ 0x01 ∷ 0x00 ∷ 0x00 ∷ 0x00 ∷ 0x00 ∷ 0x00 ∷ 0x00 ∷ 0x00 ∷ 0x01 ∷ [];
      nai = replicate 40 0;
      structured = false;
      structure = replicate 4 0;
      labelled = false;
      complete = false;
    }

-- An MPLS segment: label 16, TC 0, S 1, TTL 0, and an IPv4 node.
abbrev label : Segment
label =
    record {
      loose = false;
      verify = false;
      nt = 1;
      behaviour = 0;
      hassid = true;
      sid = 0x00 ∷ 0x01 ∷ 0x01 ∷ 0x00 ∷ replicate 12 0;
      nai = 192 ∷ 0 ∷ 2 ∷ 1 ∷ replicate 36 0;
      structured = false;
      structure = replicate 4 0;
      labelled = true;
      complete = false;
    }

abbrev start : Writer
start = record { ero = false; at = 0; form = 0 }

-- A run's number, and the octets up to its place.
abbrev told : Run → List ℕ
told r = r.written.verdict.number ∷ object_in r

pub written : told (write_run (replicate 28 0xFF) start (segment ∷ []) true 3) ≡ 0 ∷ E
unfolding octet_of over placed flag_in nai_length knows expected_length rule7 rule8 rule9 malformed rule11 has_structure has_label label_at time_at rule29 rule30 sum_at head_of_segment flags_octet
    fixed_octets subobject_of bits_of tidy_of header_of passes bad_place foreign unfit no_room begin_number begin_answer begin_buffer add_number add_answer_in add_buffer_in finish_number
    finish_answer finish_buffer adds_run write_run
written = refl

-- One octet less: 16, and the place is still behind the header that begin wrote.
pub refused : told (write_run (replicate 27 0xFF) start (segment ∷ []) true 3) ≡ 16 ∷ 0x07 ∷ 0x10 ∷ 0x00 ∷ 0x04 ∷ []
unfolding octet_of over placed flag_in nai_length knows expected_length rule7 rule8 rule9 malformed rule11 has_structure has_label label_at time_at rule29 rule30 sum_at head_of_segment flags_octet
    fixed_octets subobject_of bits_of tidy_of header_of passes bad_place foreign unfit no_room begin_number begin_answer begin_buffer add_number add_answer_in add_buffer_in finish_number
    finish_answer finish_buffer adds_run write_run
refused = refl

-- No segment: 5.
pub unfilled : told (write_run (replicate 28 0xFF) start [] true 3) ≡ 5 ∷ 0x07 ∷ 0x10 ∷ 0x00 ∷ 0x04 ∷ []
unfolding over header_of passes bad_place begin_number begin_answer begin_buffer finish_number finish_answer finish_buffer adds_run write_run
unfilled = refl

-- The MPLS segment, begun for setup type 1: type 36, 12 octets, NT 1, M.
pub labelled : told (write_run (replicate 16 0xFF) start (label ∷ []) true 1)
    ≡ 0 ∷ 0x07 ∷ 0x10 ∷ 0x00 ∷ 0x10 ∷ 0x24 ∷ 0x0C ∷ 0x10 ∷ 0x01 ∷ 0x00 ∷ 0x01 ∷ 0x01 ∷ 0x00 ∷ 192 ∷ 0 ∷ 2 ∷ 1 ∷ []
unfolding octet_of over placed flag_in nai_length knows expected_length rule7 rule8 rule9 malformed rule11 has_structure has_label label_at time_at rule29 rule30 sum_at head_of_segment flags_octet
    fixed_octets subobject_of bits_of tidy_of header_of passes bad_place foreign unfit no_room begin_number begin_answer begin_buffer add_number add_answer_in add_buffer_in finish_number
    finish_answer finish_buffer adds_run write_run
labelled = refl

-- Begun for setup type 3 it is refused by 8: SRv6 knows no NT 1.
pub mislaid : told (write_run (replicate 16 0xFF) start (label ∷ []) true 3) ≡ 8 ∷ 0x07 ∷ 0x10 ∷ 0x00 ∷ 0x04 ∷ []
unfolding octet_of over placed flag_in nai_length knows expected_length rule7 rule8 rule9 malformed rule11 has_structure has_label label_at time_at rule29 rule30 sum_at head_of_segment flags_octet
    fixed_octets subobject_of bits_of tidy_of header_of passes bad_place foreign unfit no_room begin_number begin_answer begin_buffer add_number add_answer_in add_buffer_in finish_number
    finish_answer finish_buffer adds_run write_run
mislaid = refl
