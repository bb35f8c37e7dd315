-- The number of each reason of a refusal.
use Rattle.std.specs.Prelude.{ℕ}
use Rattle.answers.specs.Numbers.{open_malformed, capability_missing, wrong_msd, frame_broken, route_empty, kinds_mixed, length_wrong, nai_unknown, nothing_there}
use Rattle.answers.specs.Numbers.{sid_needed, structure_too_long, too_many_segments, not_agreed, none_of_form, no_such_segment, buffer_full, not_a_board, key_out_of_range}
use Rattle.answers.specs.Numbers.{body_too_long, versions_used_up, all_paths, no_path, mark_too_old, mark_ahead, not_usable, label_value, label_format}
use Rattle.answers.specs.declared.reason.Reason.{Reason}
use Rattle.answers.specs.declared.reason.Reason.TheVariants.{OpenMalformed, CapabilityMissing, WrongMsd, FrameBroken, RouteEmpty, KindsMixed, LengthWrong, NaiUnknown, NothingThere}
use Rattle.answers.specs.declared.reason.Reason.TheVariants.{SidNeeded, StructureTooLong, TooManySegments, NotAgreed, NoneOfForm, NoSuchSegment, BufferFull, NotABoard, KeyOutOfRange}
use Rattle.answers.specs.declared.reason.Reason.TheVariants.{BodyTooLong, VersionsUsedUp, AllPaths, NoPath, MarkTooOld, MarkAhead, NotUsable, LabelValue, LabelFormat}

abbrev pub number_of : Reason → ℕ
number_of OpenMalformed = open_malformed
number_of CapabilityMissing = capability_missing
number_of WrongMsd = wrong_msd
number_of FrameBroken = frame_broken
number_of RouteEmpty = route_empty
number_of KindsMixed = kinds_mixed
number_of LengthWrong = length_wrong
number_of NaiUnknown = nai_unknown
number_of NothingThere = nothing_there
number_of SidNeeded = sid_needed
number_of StructureTooLong = structure_too_long
number_of TooManySegments = too_many_segments
number_of NotAgreed = not_agreed
number_of NoneOfForm = none_of_form
number_of NoSuchSegment = no_such_segment
number_of BufferFull = buffer_full
number_of NotABoard = not_a_board
number_of KeyOutOfRange = key_out_of_range
number_of BodyTooLong = body_too_long
number_of VersionsUsedUp = versions_used_up
number_of AllPaths = all_paths
number_of NoPath = no_path
number_of MarkTooOld = mark_too_old
number_of MarkAhead = mark_ahead
number_of NotUsable = not_usable
number_of LabelValue = label_value
number_of LabelFormat = label_format
