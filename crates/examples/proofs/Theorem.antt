-- The readers' definitions give the paper's answers, by computation. Assumes nothing.
use mathlib.Core.Path.{◌≡◌, refl}
use mathlib.Core.List.{map}
use Rattle.octets.specs.Octets.{octet_of, be16, part}
use Rattle.objects.specs.Objects.{mpls_setup}
use Rattle.answers.specs.Numbers.{not_agreed}
use Rattle.answers.specs.Verdicts.{refused_by}
use Rattle.session.specs.Sessions.{session_of, mpls_session_of, session_under}
use Rattle.tlvs.specs.Tlvs.{tlvs_in, tlvs_of}
use Rattle.setup_types.specs.SetupTypes.{list_size, lists_type}
use Rattle.msd.specs.Msd.{known_msd}
use Rattle.capability_mpls.specs.Mpls.{mpls_sized_of, mpls_n_of, mpls_x_of, depth_of, depthless, mpls_limit_of}
use Rattle.capability.specs.Srv6.{sized_of, n_of, x_of, a_of, r_of, wrong_of, h_encaps_of, segments_left_of, limit_of}
use Rattle.flag_positions.specs.Positions.{usable_positions, flag_at}
use Rattle.open.specs.Open.{
  setup_of,
  mpls_of,
  srv6_of,
  mpls_listed,
  listed,
  framed,
  fitting,
  holding,
  breaks28,
  breaks1,
  breaks1_mpls,
  breaks1_srv6,
  breaks2_mpls,
  breaks2_srv6,
  breaks3_mpls,
  breaks3_srv6,
  srv6_carried,
  carries_of,
  open_of,
}
use Rattle.forms.specs.Forms.{flag_in, nai_length, knows}
use Rattle.subobject.specs.Layout.{expected_length, kind_of, head_of, head_at}
use Rattle.subobject.specs.Rules.{rule7, rule8, rule9, malformed, rule10, rule11, has_structure, has_label, label_at, time_at, rule29, rule30, sum_at}
use Rattle.subobject_strays.specs.Strays.{stray_flags, structure_flags, reserved_octets, strays_at}
use Rattle.frame.specs.Frames.{headed, fits_in, apart, apart_of, rule4, rule5, rule6, rule6_place, rule14}
use Rattle.route.specs.Routes.{rule12, rule13, judge_as, judge_of}
use Rattle.head_end.specs.Addresses.{usable_list}
use Rattle.route_limit.specs.FirstOff.{stays_off, limit_for, session_for}
use Rattle.route_call.specs.Called.{rule28, judged_in}
use Rattle.examples.specs.Table.{example_answer, examples, answers}
use Rattle.examples.specs.Table.Example.{route}
use Rattle.examples.specs.Table.ExampleAnswer.{judged}
use Rattle.examples.specs.Mpls.{labelled, mpls_answer, mpls_examples, mpls_answers}

pub table : map example_answer examples ≡ answers
unfolding octet_of be16 part session_of mpls_session_of session_under tlvs_in tlvs_of list_size lists_type known_msd usable_positions flag_at mpls_sized_of mpls_n_of
    mpls_x_of depth_of depthless mpls_limit_of sized_of
    n_of x_of a_of r_of wrong_of h_encaps_of segments_left_of limit_of setup_of mpls_of srv6_of mpls_listed listed framed fitting holding breaks28 breaks1 breaks1_mpls
    breaks1_srv6 breaks2_mpls breaks2_srv6
    breaks3_mpls breaks3_srv6 srv6_carried carries_of open_of flag_in nai_length knows expected_length kind_of head_of head_at rule7 rule8 rule9 malformed rule10 rule11
    has_structure has_label label_at time_at
    rule29 rule30 sum_at stray_flags structure_flags reserved_octets strays_at headed fits_in apart apart_of rule4 rule5 rule6 rule6_place rule14 rule12 rule13 judge_as
    judge_of usable_list stays_off limit_for
    session_for rule28 judged_in
table = refl

-- MPLS on either side.
pub mpls_table : map mpls_answer mpls_examples ≡ mpls_answers
unfolding octet_of be16 part session_of mpls_session_of session_under tlvs_in tlvs_of list_size lists_type known_msd usable_positions flag_at mpls_sized_of mpls_n_of
    mpls_x_of depth_of depthless mpls_limit_of sized_of
    n_of x_of a_of r_of wrong_of h_encaps_of segments_left_of limit_of setup_of mpls_of srv6_of mpls_listed listed framed fitting holding breaks28 breaks1 breaks1_mpls
    breaks1_srv6 breaks2_mpls breaks2_srv6
    breaks3_mpls breaks3_srv6 srv6_carried carries_of open_of flag_in nai_length knows expected_length kind_of head_of head_at rule7 rule8 rule9 malformed rule10 rule11
    has_structure has_label label_at time_at
    rule29 rule30 sum_at stray_flags structure_flags reserved_octets strays_at headed fits_in apart apart_of rule4 rule5 rule6 rule6_place rule14 rule12 rule13 judge_as
    judge_of usable_list stays_off limit_for
    session_for rule28 judged_in
mpls_table = refl

-- A good label under PST 1, where MPLS is not agreed: 13.
pub label_not_agreed : example_answer (route (labelled 0x09 0x71 0x00) mpls_setup) ≡ judged (refused_by not_agreed 0)
unfolding octet_of be16 part session_of mpls_session_of session_under tlvs_in tlvs_of list_size lists_type known_msd usable_positions flag_at mpls_sized_of mpls_n_of
    mpls_x_of depth_of depthless mpls_limit_of sized_of
    n_of x_of a_of r_of wrong_of h_encaps_of segments_left_of limit_of setup_of mpls_of srv6_of mpls_listed listed framed fitting holding breaks28 breaks1 breaks1_mpls
    breaks1_srv6 breaks2_mpls breaks2_srv6
    breaks3_mpls breaks3_srv6 srv6_carried carries_of open_of flag_in nai_length knows expected_length kind_of head_of head_at rule7 rule8 rule9 malformed rule10 rule11
    has_structure has_label label_at time_at
    rule29 rule30 sum_at stray_flags structure_flags reserved_octets strays_at headed fits_in apart apart_of rule4 rule5 rule6 rule6_place rule14 rule12 rule13 judge_as
    judge_of usable_list stays_off limit_for
    session_for rule28 judged_in
label_not_agreed = refl
