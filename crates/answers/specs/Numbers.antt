-- The numbers that a refusal carries (document 01, "Numbers answered"), by the names that the code uses.
use Rattle.std.specs.Prelude.{ℕ}

-- OPEN ill formed
abbrev pub open_malformed : ℕ
open_malformed = 1

-- capability missing
abbrev pub capability_missing : ℕ
capability_missing = 2

-- wrong MSD type
abbrev pub wrong_msd : ℕ
wrong_msd = 3

-- route frame broken
abbrev pub frame_broken : ℕ
frame_broken = 4

-- route empty
abbrev pub route_empty : ℕ
route_empty = 5

-- kinds mixed
abbrev pub kinds_mixed : ℕ
kinds_mixed = 6

-- F isn't 1 exactly for NT 0, or Length isn't as expected
abbrev pub length_wrong : ℕ
length_wrong = 7

-- an NT that the form does not know: not 0, 2, 4, 6
abbrev pub nai_unknown : ℕ
nai_unknown = 8

-- S and F both 1
abbrev pub nothing_there : ℕ
nothing_there = 9

-- no SID, and the PCC's N is 0
abbrev pub sid_needed : ℕ
sid_needed = 10

-- four bit lengths sum above 128
abbrev pub structure_too_long : ℕ
structure_too_long = 11

-- more segments than the limit
abbrev pub too_many_segments : ℕ
too_many_segments = 12

-- the setup type is not the form's, or the form is not agreed
abbrev pub not_agreed : ℕ
not_agreed = 13

-- no subobject of the form that the setup type names
abbrev pub none_of_form : ℕ
none_of_form = 14

-- no such segment
abbrev pub no_such_segment : ℕ
no_such_segment = 15

-- lent buffer full
abbrev pub buffer_full : ℕ
buffer_full = 16

-- not a board
abbrev pub not_a_board : ℕ
not_a_board = 17

-- key out of range
abbrev pub key_out_of_range : ℕ
key_out_of_range = 18

-- body above 384 octets
abbrev pub body_too_long : ℕ
body_too_long = 19

-- version is 2^64-2
abbrev pub versions_used_up : ℕ
versions_used_up = 20

-- 128 paths
abbrev pub all_paths : ℕ
all_paths = 21

-- key has no path
abbrev pub no_path : ℕ
no_path = 22

-- mark too old
abbrev pub mark_too_old : ℕ
mark_too_old = 23

-- mark ahead
abbrev pub mark_ahead : ℕ
mark_ahead = 24

-- unusable bit positions, or address list not a multiple of 16 octets
abbrev pub not_usable : ℕ
not_usable = 28

-- bad label value
abbrev pub label_value : ℕ
label_value = 29

-- bad label format
abbrev pub label_format : ℕ
label_format = 30
