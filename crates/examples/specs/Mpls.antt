-- MPLS on either side (document 02, C-16; RFC 8664, 4.3.1 and 5.2.1), in the manner of P1 to P10.
use Rattle.std.specs.Prelude.{ℕ, true, false, List, [], ◌∷◌, ◌++◌, set, Some}
use Rattle.objects.specs.Objects.{mpls_setup, srv6_setup}
use Rattle.answers.specs.Numbers.{wrong_msd, length_wrong, sid_needed, too_many_segments, none_of_form, label_value, label_format}
use Rattle.answers.specs.Verdicts.{refused_by, accepted_with}
use Rattle.session.specs.declared.Sessions.{Sessions}
use Rattle.session.specs.Sessions.{open_refused, with_mpls, without_srv6, sessions_of}
use Rattle.flag_positions.specs.Positions.{first_two}
use Rattle.open.specs.Open.{open_of}
use Rattle.route_call.specs.Called.{judged_for}
use Rattle.examples.specs.Table.{object_e, Example, ExampleAnswer}
use Rattle.examples.specs.Table.Example.{opening, route}
use Rattle.examples.specs.Table.ExampleAnswer.{opened, judged}

-- An OPEN object that lists type 1, with sub-TLV 26: neither N nor X, a depth of 2.
abbrev pub object_m : List ℕ
object_m =
    0x01 ∷ 0x10 ∷ 0x00 ∷ 0x1C ∷ 0x20 ∷ 0x1E ∷ 0x78 ∷ 0x07 ∷ 0x00 ∷ 0x22 ∷ 0x00 ∷ 0x10 ∷ 0x00 ∷ 0x00 ∷ 0x00 ∷ 0x01
    ∷ 0x01 ∷ 0x00 ∷ 0x00 ∷ 0x00 ∷ 0x00 ∷ 0x1A ∷ 0x00 ∷ 0x04 ∷ 0x00 ∷ 0x00 ∷ 0x00 ∷ 0x02
    ∷ []

-- An ERO of one segment without an NAI: its flags, the last two octets of its label stack entry.
abbrev pub labelled : ℕ → ℕ → ℕ → List ℕ
labelled flags low time =
    0x07 ∷ 0x10 ∷ 0x00 ∷ 0x0C ∷ 0x24 ∷ 0x08 ∷ 0x00 ∷ flags ∷ 0x00 ∷ 0x00 ∷ low ∷ time ∷ []

-- One of so many segments with label 16, as routers send them: F and M, S of the entry 1, TTL 0.
abbrev pub label16 : List ℕ
label16 = 0x24 ∷ 0x08 ∷ 0x00 ∷ 0x09 ∷ 0x00 ∷ 0x01 ∷ 0x01 ∷ 0x00 ∷ []

abbrev pub three_labels : List ℕ
three_labels = 0x07 ∷ 0x10 ∷ 0x00 ∷ 0x1C ∷ label16 ++ (label16 ++ label16)

-- One with an IPv4 node and no SID: NT 1, its flags, its address.
abbrev pub node4 : ℕ → List ℕ
node4 flags = 0x07 ∷ 0x10 ∷ 0x00 ∷ 0x0C ∷ 0x24 ∷ 0x08 ∷ 0x10 ∷ flags ∷ 192 ∷ 0 ∷ 2 ∷ 1 ∷ []

-- One with NT 5, the adjacency of unnumbered ends, M and label 16: its NAI has 16 octets, or 8.
abbrev pub unnumbered_whole : List ℕ
unnumbered_whole =
    0x07 ∷ 0x10 ∷ 0x00 ∷ 0x1C ∷ 0x24 ∷ 0x18 ∷ 0x50 ∷ 0x01 ∷ 0x00 ∷ 0x01 ∷ 0x01 ∷ 0x00
    ∷ 192 ∷ 0 ∷ 2 ∷ 1 ∷ 0 ∷ 0 ∷ 0 ∷ 7 ∷ 192 ∷ 0 ∷ 2 ∷ 2 ∷ 0 ∷ 0 ∷ 0 ∷ 8 ∷ []

abbrev pub unnumbered_short : List ℕ
unnumbered_short = 0x07 ∷ 0x10 ∷ 0x00 ∷ 0x14 ∷ 0x24 ∷ 0x10 ∷ 0x50 ∷ 0x01 ∷ 0x00 ∷ 0x01 ∷ 0x01 ∷ 0x00 ∷ 192 ∷ 0 ∷ 2 ∷ 1 ∷ 0 ∷ 0 ∷ 0 ∷ 7 ∷ []

abbrev pub agreed_m : Sessions
agreed_m = sessions_of (open_of first_two object_m) (open_of first_two object_m)

-- Judged under the sessions of M and M.
abbrev pub mpls_answer : Example → ExampleAnswer
mpls_answer (opening s) = opened (open_of first_two s)
mpls_answer (route s pst) = judged (judged_for s true agreed_m pst [])

-- M, and M with a depth of 0; the labels 3, 7, 15; the label 3 as an index; C and M with TTL 0 and TTL 64; C without M; an NAI without a SID, with M and
-- without, where the PCC's N is 0; NT 5 with 16 octets and with 8; three segments; a label under PST 3 and under PST 2, SRv6's segment under PST 1.
abbrev pub mpls_examples : List Example
mpls_examples =
    opening object_m
    ∷ opening (set object_m 27 0x00)
    ∷ route (labelled 0x09 0x31 0x00) mpls_setup
    ∷ route (labelled 0x09 0x71 0x00) mpls_setup
    ∷ route (labelled 0x09 0xF1 0x00) mpls_setup
    ∷ route (labelled 0x08 0x31 0x00) mpls_setup
    ∷ route (labelled 0x0B 0x71 0x00) mpls_setup
    ∷ route (labelled 0x0B 0x71 0x40) mpls_setup
    ∷ route (labelled 0x0A 0x71 0x40) mpls_setup
    ∷ route (node4 0x05) mpls_setup
    ∷ route (node4 0x04) mpls_setup
    ∷ route unnumbered_whole mpls_setup
    ∷ route unnumbered_short mpls_setup
    ∷ route three_labels mpls_setup
    ∷ route (labelled 0x09 0x71 0x00) srv6_setup
    ∷ route (labelled 0x09 0x71 0x00) 2
    ∷ route object_e mpls_setup
    ∷ []

abbrev pub mpls_answers : List ExampleAnswer
mpls_answers =
    opened (with_mpls without_srv6 false (Some 2))
    ∷ opened (open_refused wrong_msd mpls_setup)
    ∷ judged (refused_by label_value 0)
    ∷ judged (accepted_with 1)
    ∷ judged (refused_by label_value 0)
    ∷ judged (accepted_with 1)
    ∷ judged (refused_by label_format 0)
    ∷ judged (accepted_with 1)
    ∷ judged (refused_by length_wrong 4)
    ∷ judged (refused_by length_wrong 4)
    ∷ judged (refused_by sid_needed 4)
    ∷ judged (accepted_with 1)
    ∷ judged (refused_by length_wrong 4)
    ∷ judged (refused_by too_many_segments 20)
    ∷ judged (refused_by none_of_form 0)
    ∷ judged (refused_by none_of_form 0)
    ∷ judged (refused_by none_of_form 0)
    ∷ []
