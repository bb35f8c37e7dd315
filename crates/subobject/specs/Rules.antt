-- The rules of one subobject over its head, each under its number in document 01's words ("Numbers answered"),
-- in the order of checks: 8, 9, 7, 10, 11, and for MPLS 29 and 30 behind them (document 02, C-16); and their table.
use Rattle.std.specs.Prelude.{ℕ, ◌+◌, ◌*◌, ◌/◌, Bool, true, false, cond, not, ◌&&◌, ◌||◌, List, [], ◌∷◌, eqb, ltb}
use Rattle.answers.specs.Numbers.{nai_unknown, nothing_there, length_wrong, sid_needed, structure_too_long, label_value, label_format}
use Rattle.octets.specs.Octets.{octet_of}
unfoldable pub use Rattle.octet_sums.specs.Sums.{sum_at}
use Rattle.forms.specs.declared.Form.{Form}
use Rattle.forms.specs.Forms.{no_nai, knows}
use Rattle.subobject.specs.declared.head.Head.{Head}
use Rattle.subobject.specs.Layout.{expected_length, structure_there, sid_place, structure_place, head_at}

-- 8: "NT not 0, 2, 4, 6": an NT that the form does not know.
unfoldable pub rule8 : Form → Head → Bool
rule8 form h = not (knows form h.nt)

-- 9: "S and F both 1".
unfoldable pub rule9 : Head → Bool
rule9 h = eqb h.s 1 && eqb h.f 1

-- "F is 1 exactly for NT 0": what F has to be.
abbrev pub flag_f : ℕ → ℕ
flag_f nt = cond (eqb nt no_nai) 1 0

-- RFC 8664, 5.2.1: without a SID M and C must be 0, and C must be 0 where M is. SRv6 has neither flag.
unfoldable pub malformed : Head → Bool
malformed h = (eqb h.s 1 && (eqb h.m 1 || eqb h.c 1)) || (eqb h.c 1 && not (eqb h.m 1))

-- 7: "F isn't 1 exactly for NT 0, or Length isn't as expected".
unfoldable pub rule7 : Form → Head → Bool
rule7 form h =
    not (eqb h.f (flag_f h.nt)) || (not (eqb h.size (expected_length form h.nt h.s h.t)) || malformed h)

-- 10: "no SID, and the PCC's N is 0"; not applied in RRO.
unfoldable pub rule10 : Head → Bool → Bool → Bool
rule10 h ero n = ero && (eqb h.s 1 && not n)

-- The SID structure is there "if T is 1 and S is 0".
unfoldable pub has_structure : Head → Bool
has_structure h = structure_there h.s h.t

-- 11: "four bit lengths sum above 128".
abbrev pub most_bits : ℕ
most_bits = 128

unfoldable pub rule11 : Head → ℕ → Bool
rule11 h sum = has_structure h && ltb most_bits sum

-- The sum of the four bit lengths of the subobject at a place.
abbrev pub bits_at : Form → Head → List ℕ → ℕ → ℕ
bits_at form h s at = sum_at s (structure_place form h.nt at)

-- A label stack entry: 20 bits of label, 3 of TC, 1 of S, 8 of TTL. It stands where the SID does, if there is a SID and M is 1.
-- What the lowest bit of its first and second octet is worth in the label, and that of the third octet which is in it; the place of the TTL.
abbrev pub first_worth : ℕ
first_worth = 4096

abbrev pub second_worth : ℕ
second_worth = 16

abbrev pub third_part : ℕ
third_part = 16

abbrev pub time_place : ℕ
time_place = 3

unfoldable pub label_at : List ℕ → ℕ → ℕ
label_at s at = octet_of s at * first_worth + octet_of s (at + 1) * second_worth + octet_of s (at + 2) / third_part

unfoldable pub time_at : List ℕ → ℕ → ℕ
time_at s at = octet_of s (at + time_place)

unfoldable pub has_label : Head → Bool
has_label h = eqb h.s 0 && eqb h.m 1

-- 29: "of labels to 15 only 7 is good".
abbrev pub first_free : ℕ
first_free = 16

abbrev pub good_label : ℕ
good_label = 7

unfoldable pub rule29 : Head → ℕ → Bool
rule29 h label = has_label h && (ltb label first_free && not (eqb label good_label))

-- 30: "a bad format is M and C with TTL 0".
unfoldable pub rule30 : Head → ℕ → Bool
rule30 h time = has_label h && (eqb h.c 1 && eqb time 0)

-- the table ----------------------------------------------------------------------------------------------------

-- What the rules look at: the form, a subobject's head, the sum of its bit lengths, its label and TTL, ERO or RRO, and the PCC's N.
pub record Subject : Type 0 where
  pub form : Form
  pub head : Head
  pub bits : ℕ
  pub label : ℕ
  pub time : ℕ
  pub ero : Bool
  pub n : Bool

-- The subobject at a place, by its head.
abbrev pub subject_by : Form → Head → List ℕ → Bool → Bool → ℕ → Subject
subject_by form h s ero n at =
    record { form = form; head = h; bits = bits_at form h s at; label = label_at s (sid_place form at); time = time_at s (sid_place form at); ero = ero; n = n }

abbrev pub subject_at : Form → List ℕ → Bool → Bool → ℕ → Subject
subject_at form s ero n at = subject_by form (head_at form s ero at) s ero n at

-- A row of the table: a rule's number, whether its refusal names the octet of the subobject, and when it is broken.
pub record RuleRow : Type 0 where
  pub number : ℕ
  pub placed : Bool
  pub broken : Subject → Bool

abbrev pub rule_row : ℕ → Bool → (Subject → Bool) → RuleRow
rule_row number placed broken = record { number = number; placed = placed; broken = broken }

-- "In each: 8, 9, 7, 10, 11"; "29 bad label value, 30 bad label format, after 11". "The place .. is for 6 to 11 the octet of the subobject at fault, ..
-- otherwise 0."
abbrev pub rules : List RuleRow
rules =
    rule_row nai_unknown true (λ x. rule8 x.form x.head)
    ∷ rule_row nothing_there true (λ x. rule9 x.head)
    ∷ rule_row length_wrong true (λ x. rule7 x.form x.head)
    ∷ rule_row sid_needed true (λ x. rule10 x.head x.ero x.n)
    ∷ rule_row structure_too_long true (λ x. rule11 x.head x.bits)
    ∷ rule_row label_value false (λ x. rule29 x.head x.label)
    ∷ rule_row label_format false (λ x. rule30 x.head x.time)
    ∷ []

-- How many checks a subobject has.
abbrev pub rule_count : ℕ
rule_count = 7

-- Whether the rule of a number is broken; a number that is in no row breaks nothing.
abbrev pub broken_in : List RuleRow → Subject → ℕ → Bool
broken_in [] x number = false
broken_in (r ∷ rs) x number = cond (eqb number r.number) (r.broken x) (broken_in rs x number)

unfoldable pub broken_by : Subject → ℕ → Bool
broken_by x number = broken_in rules x number

-- The place that a refusal by a number names, for the subobject at `at`.
abbrev pub rule_place_in : List RuleRow → ℕ → ℕ → ℕ
rule_place_in [] at number = 0
rule_place_in (r ∷ rs) at number = cond (eqb number r.number) (cond r.placed at 0) (rule_place_in rs at number)

unfoldable pub place_by : ℕ → ℕ → ℕ
place_by at number = rule_place_in rules at number
