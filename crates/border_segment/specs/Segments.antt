-- What an outline at the border stands for, and the records that a segment and an answer with a segment are handed out as (include/strundevi.h).
use Rattle.std.specs.Prelude.{ℕ, ◌+◌, ◌*◌, ◌/◌, ◌%◌, Bool, eqb}
use Rattle.subobject.specs.declared.segment.Outline.{Outline}
use Rattle.subobject.specs.declared.segment.Segment.{Segment}
use Rattle.route.specs.Picked.{Picked}
use Rattle.border_records.specs.Records.{is_yes, bit, verdict_out}
use Rattle.border_segment.specs.declared.segment.OutlineRecord.{OutlineRecord}
use Rattle.border_segment.specs.declared.segment.SegmentRecord.{SegmentRecord}
use Rattle.route_step.specs.Stepped.{Stepped}
use Rattle.border_segment.specs.declared.picking.PickedRecord.{PickedRecord}
use Rattle.border_segment.specs.declared.stepping.SteppedRecord.{SteppedRecord}

-- M and C are one octet of an outline, in which M is worth 1 and C 2.
abbrev pub labelled_in : ℕ → Bool
labelled_in label = eqb (label % 2) 1

abbrev pub complete_in : ℕ → Bool
complete_in label = eqb (label / 2 % 2) 1

abbrev pub label_out : Bool → Bool → ℕ
label_out m c = bit m + 2 * bit c

abbrev pub outline_in : OutlineRecord → Outline
outline_in o =
    record {
      loose = is_yes o.loose;
      verify = is_yes o.verify;
      nt = o.nt;
      behaviour = o.behaviour;
      hassid = is_yes o.hassid;
      structured = is_yes o.structured;
      labelled = labelled_in o.label;
      complete = complete_in o.label;
    }

abbrev pub segment_out : Segment → SegmentRecord
segment_out g =
    record {
      loose = bit g.loose;
      verify = bit g.verify;
      nt = g.nt;
      behaviour = g.behaviour;
      hassid = bit g.hassid;
      sid = g.sid;
      nai = g.nai;
      structured = bit g.structured;
      structure = g.structure;
      labelled = bit g.labelled;
      complete = bit g.complete;
    }

-- What a segment's record names beside its octets.
abbrev pub outline_within : SegmentRecord → OutlineRecord
outline_within g =
    record {
      loose = g.loose;
      verify = g.verify;
      nt = g.nt;
      label = label_out (is_yes g.labelled) (is_yes g.complete);
      behaviour = g.behaviour;
      hassid = g.hassid;
      structured = g.structured;
    }

abbrev pub picked_out : Picked → PickedRecord
picked_out p =
    record {
      verdict = verdict_out p.verdict;
      segment = segment_out p.segment;
      flags = p.strays.flags;
      sflags = p.strays.structure;
      reserved = bit p.strays.reserved;
    }

abbrev pub stepped_out : Stepped → SteppedRecord
stepped_out x = record { verdict = verdict_out x.verdict; segment = segment_out x.segment; next = x.next }
