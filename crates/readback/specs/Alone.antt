-- Writing SRv6 by itself, in document 01's own numbers ("Writing a route"). No contract cites it: that SRv6 is written as document 01 alone says rests on it, and
-- proofs/Alone shows that adding to a route that was begun under any setup type but 1 computes to it.
use Rattle.std.specs.Prelude.{ℕ, ◌+◌, ◌*◌, Bool, cond, not, ◌&&◌, ◌||◌, List, [], ◌∷◌, ◌++◌, eqb, ltb, length, take, drop}
use Rattle.octets.specs.Octets.{hi, lo}
use Rattle.subobject.specs.declared.segment.Segment.{Segment}
use Rattle.subobject.specs.Segments.{bit}
use Rattle.writer_spare.specs.Spare.{zeros}
use Rattle.writer_rules.specs.Refusals.{passes, bad_place}
use Rattle.forms.specs.Forms.{srv6_nai}
use Rattle.route.specs.Alone.{structured, length_alone, four_from}

-- S, T and F of a segment: "F follows from NT".
abbrev pub s_of : Segment → ℕ
s_of g = bit (not g.hassid)

abbrev pub t_of : Segment → ℕ
t_of g = bit g.structured

abbrev pub f_of : Segment → ℕ
f_of g = cond (eqb g.nt 0) 1 0

-- "V, T, F, S, with S lowest"; "padding, reserved octets and unassigned bits are written as 0"; "SID, 16, if S is 0", NAI, "SID structure, 8, if T is 1 and S is 0".
abbrev pub octets_alone : Segment → List ℕ
octets_alone g =
    (bit g.loose * 128 + 40)
    ∷ length_alone g.nt (s_of g) (t_of g)
    ∷ (g.nt * 16)
    ∷ (bit g.verify * 8 + t_of g * 4 + f_of g * 2 + s_of g)
    ∷ 0 ∷ 0 ∷ hi g.behaviour ∷ lo g.behaviour
    ∷ (take (cond (eqb (s_of g) 0) 16 0) g.sid
    ++ (take (srv6_nai g.nt) g.nai ++ cond (structured (s_of g) (t_of g)) (take 4 g.structure ++ 0 ∷ 0 ∷ 0 ∷ 0 ∷ []) []))

-- "octets kept for a part that is absent or shorter are 0"
abbrev pub tidy_alone : Segment → Bool
tidy_alone g =
    zeros (drop (cond g.hassid 16 0) g.sid)
    && (zeros (drop (srv6_nai g.nt) g.nai) && zeros (drop (cond g.structured 4 0) g.structure))

-- "7 (structure without a SID, L or V in an RRO, such octets not 0)"
abbrev pub unfit_alone : Segment → Bool → Bool
unfit_alone g ero = (g.structured && not g.hassid) || ((not ero && (g.loose || g.verify)) || not (tidy_alone g))

-- "Adding checks 8, 9, 7 (..), 11, then 16."
abbrev pub number_alone : Segment → Bool → ℕ → ℕ → ℕ
number_alone g ero at room =
    cond (not (eqb g.nt 0 || (eqb g.nt 2 || (eqb g.nt 4 || eqb g.nt 6)))) 8
    (cond (eqb (s_of g) 1 && eqb (f_of g) 1) 9
    (cond (unfit_alone g ero) 7
    (cond (structured (s_of g) (t_of g) && ltb 128 (four_from g.structure 0)) 11
    (cond (bad_place at room || passes (at + length (octets_alone g)) room) 16 0))))
