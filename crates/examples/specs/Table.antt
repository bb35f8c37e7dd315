-- P1 to P10 (document 01, "Examples on either side"), with A and R at the positions 0 and 1 and no addresses (document 02, C-15).
use Rattle.std.specs.Prelude.{ℕ, true, false, List, [], ◌∷◌, ◌++◌, set, None, Some}
use Rattle.objects.specs.Objects.{mpls_setup, srv6_setup}
use Rattle.answers.specs.declared.verdict.Verdict.{Verdict}
use Rattle.answers.specs.Numbers.{wrong_msd, length_wrong, nothing_there, structure_too_long, none_of_form}
use Rattle.answers.specs.Verdicts.{refused_by, accepted_with}
use Rattle.session.specs.Opened.{Opened}
use Rattle.session.specs.declared.Sessions.{Sessions}
use Rattle.session.specs.Sessions.{open_refused, open_carries, sessions_of}
use Rattle.flag_positions.specs.Positions.{first_two}
use Rattle.open.specs.Open.{open_of}
use Rattle.route_call.specs.Called.{judged_for}

-- Object O.
abbrev pub object_o : List ℕ
object_o =
    0x01 ∷ 0x10 ∷ 0x00 ∷ 0x20 ∷ 0x20 ∷ 0x1E ∷ 0x78 ∷ 0x07 ∷ 0x00 ∷ 0x22 ∷ 0x00 ∷ 0x12 ∷ 0x00 ∷ 0x00 ∷ 0x00 ∷ 0x01
    ∷ 0x03 ∷ 0x00 ∷ 0x00 ∷ 0x00 ∷ 0x00 ∷ 0x1B ∷ 0x00 ∷ 0x06 ∷ 0x00 ∷ 0x00 ∷ 0x00 ∷ 0x00 ∷ 0x2C ∷ 0x04 ∷ 0x00 ∷ 0x00
    ∷ []

-- Object E.
abbrev pub object_e : List ℕ
object_e =
    0x07 ∷ 0x10 ∷ 0x00 ∷ 0x1C ∷ 0x28 ∷ 0x18 ∷ 0x00 ∷ 0x02 ∷ 0x00 ∷ 0x00 ∷ 0x00 ∷ 0x01
    ∷ 0x20 ∷ 0x01 ∷ 0x0D ∷ 0xB8 ∷ 0x00 ∷ 0x00 ∷ 0x00 ∷ 0x01 ∷ 0x00 ∷ 0x00 ∷ 0x00 ∷ 0x00 ∷ 0x00 ∷ 0x00 ∷ 0x00 ∷ 0x01
    ∷ []

-- E with a SID structure of four bit lengths: T set, both lengths 8 more.
abbrev pub with_bits : ℕ → ℕ → ℕ → ℕ → List ℕ
with_bits a b c d = set (set (set object_e 3 0x24) 5 0x20) 7 0x06 ++ a ∷ b ∷ c ∷ d ∷ 0x00 ∷ 0x00 ∷ 0x00 ∷ 0x00 ∷ []

-- An OPEN object to read, or an ERO to judge with a PST.
pub data Example : Type 0 where
  opening : List ℕ → Example
  route : List ℕ → ℕ → Example

pub data ExampleAnswer : Type 0 where
  opened : Opened → ExampleAnswer
  judged : Verdict → ExampleAnswer

abbrev pub agreed_o : Sessions
agreed_o = sessions_of (open_of first_two object_o) (open_of first_two object_o)

-- Judged under the sessions of O and O.
abbrev pub example_answer : Example → ExampleAnswer
example_answer (opening s) = opened (open_of first_two s)
example_answer (route s pst) = judged (judged_for s true agreed_o pst [])

abbrev pub examples : List Example
examples =
    opening object_o
    ∷ opening (set object_o 16 0x00)
    ∷ opening (set object_o 28 0x00)
    ∷ route object_e srv6_setup
    ∷ route object_e mpls_setup
    ∷ route (set object_e 7 0x03) srv6_setup
    ∷ route (set object_e 7 0x06) srv6_setup
    ∷ route (with_bits 40 24 16 48) srv6_setup
    ∷ route (with_bits 40 24 16 49) srv6_setup
    ∷ route (with_bits 64 64 64 64) srv6_setup
    ∷ []

-- P1: "SRv6, N 0, limit 4", v 4 and no m; P2: "accepted without SRv6"; P3: "3", of SRv6; P4: "one segment", not stray; P5: "14" (document 02, C-16); P6: "9 at 4"; P7: "7 at 4";
-- P8: "pass"; P9: "11"; P10: "11".
abbrev pub answers : List ExampleAnswer
answers =
    opened (open_carries true false (Some 4) false false (Some 4) None)
    ∷ opened (open_carries false false None false false None None)
    ∷ opened (open_refused wrong_msd srv6_setup)
    ∷ judged (accepted_with 1)
    ∷ judged (refused_by none_of_form 0)
    ∷ judged (refused_by nothing_there 4)
    ∷ judged (refused_by length_wrong 4)
    ∷ judged (accepted_with 1)
    ∷ judged (refused_by structure_too_long 4)
    ∷ judged (refused_by structure_too_long 4)
    ∷ []
