-- SRv6 by itself, in document 01's own numbers ("The route object"; strays by document 02, C-18). No contract cites it: that SRv6's routes are judged as document 01 alone
-- says rests on it, and proofs/Alone shows that judging and picking under every setup type but 1 compute to it.
use Rattle.std.specs.Prelude.{ℕ, ◌+◌, ◌*◌, ◌/◌, ◌%◌, List, [], ◌∷◌, ◌++◌, Bool, false, cond, not, ◌&&◌, ◌||◌, length, get_or, eqb, ltb}
use Rattle.answers.specs.declared.verdict.Verdict.{Verdict}
use Rattle.answers.specs.Verdicts.{carrying_both}
use Rattle.octets.specs.Octets.{octet_of, be16, part_of}
use Rattle.session.specs.declared.Session.{Session}
use Rattle.forms.specs.Forms.{srv6_nai}
use Rattle.subobject.specs.declared.head.Head.{Head}
use Rattle.subobject.specs.declared.segment.Segment.{Segment}
use Rattle.subobject_strays.specs.declared.Strays.{Strays}
use Rattle.subobject.specs.Segments.{no_segment}
use Rattle.subobject_strays.specs.Strays.{any_set, no_strays, stray_one}
use Rattle.frame.specs.Checks.{Check, check, first_broken}
use Rattle.frame.specs.Frames.{places_of, frame_checks}
use Rattle.route.specs.Picked.{Picked}
use Rattle.route.specs.Routes.{last_checks}

-- "NAI: NT 0 none, 2 node 16, 4 adjacency 32, 6 link-local adjacency 40": `srv6_nai` (forms/specs/Forms).

abbrev pub structured : ℕ → ℕ → Bool
structured s t = eqb s 0 && eqb t 1

-- "The expected length is 8 plus the parts present."
abbrev pub length_alone : ℕ → ℕ → ℕ → ℕ
length_alone nt s t = 8 + cond (eqb s 0) 16 0 + srv6_nai nt + cond (structured s t) 8 0

abbrev pub structure_alone : ℕ → ℕ → ℕ
structure_alone nt at = at + 8 + 16 + srv6_nai nt

-- "NT (4 bits), 12 flags; the last four are V, T, F, S, with S lowest."
abbrev pub head_alone : List ℕ → Bool → ℕ → Head
head_alone s ero at =
    record {
      kind = cond ero (octet_of s at % 128) (octet_of s at);
      size = octet_of s (at + 1);
      nt = octet_of s (at + 2) / 16;
      s = octet_of s (at + 3) % 2;
      f = octet_of s (at + 3) / 2 % 2;
      t = octet_of s (at + 3) / 4 % 2;
      v = cond ero (octet_of s (at + 3) / 8 % 2) 0;
      l = cond ero (octet_of s at / 128) 0;
      c = 0;
      m = 0;
    }

abbrev pub four_from : List ℕ → ℕ → ℕ
four_from s at = octet_of s at + octet_of s (at + 1) + octet_of s (at + 2) + octet_of s (at + 3)

-- "In each: 8, 9, 7, 10, 11."
abbrev pub one_checks : Head → List ℕ → Bool → Bool → ℕ → List Check
one_checks h s ero n at =
    check 8 at (not (eqb h.nt 0 || (eqb h.nt 2 || (eqb h.nt 4 || eqb h.nt 6))))
    ∷ check 9 at (eqb h.s 1 && eqb h.f 1)
    ∷ check 7 at (not (eqb h.f (cond (eqb h.nt 0) 1 0)) || not (eqb h.size (length_alone h.nt h.s h.t)))
    ∷ check 10 at (ero && (eqb h.s 1 && not n))
    ∷ check 11 at (structured h.s h.t && ltb 128 (four_from s (structure_alone h.nt at)))
    ∷ []

abbrev pub checks_in : List ℕ → Bool → Bool → List ℕ → List Check
checks_in s ero n [] = []
checks_in s ero n (p ∷ ps) = one_checks (head_alone s ero p) s ero n p ++ checks_in s ero n ps

-- What is set that ought to be 0.
abbrev pub one_strays : Head → List ℕ → ℕ → Strays
one_strays h s at =
    record {
      flags = be16 s (at + 2) % 4096 / 16 * 16;
      structure = cond (structured h.s h.t) (octet_of s (structure_alone h.nt at + 4 + 3)) 0;
      reserved = any_set
          (octet_of s (at + 4)
          ∷ octet_of s (at + 4 + 1)
          ∷ cond (structured h.s h.t)
          (octet_of s (structure_alone h.nt at + 4) ∷ octet_of s (structure_alone h.nt at + 4 + 1) ∷ octet_of s (structure_alone h.nt at + 4 + 2) ∷ []) []);
    }

abbrev pub stray_count_in : List ℕ → Bool → List ℕ → ℕ
stray_count_in s ero [] = 0
stray_count_in s ero (p ∷ ps) = stray_one (one_strays (head_alone s ero p) s p) + stray_count_in s ero ps

-- "Checks on the whole, in order: 4, 5, 6, 14, 13. Then subobject by subobject .. Last 12."
abbrev pub checks_alone : List ℕ → Bool → Session → ℕ → List Check
checks_alone s ero session pst =
    frame_checks s ero 40
    ++ (check 13 0 (not (eqb pst 3 && session.agreed))
    ∷ (checks_in s ero session.n (places_of s) ++ last_checks (places_of s) ero session.limit (length (places_of s))))

abbrev pub acceptance_alone : List ℕ → Bool → Verdict
acceptance_alone s ero = carrying_both (length (places_of s)) (stray_count_in s ero (places_of s))

unfoldable pub judge_alone : List ℕ → Bool → Session → ℕ → Verdict
judge_alone s ero session pst = first_broken (checks_alone s ero session pst) (acceptance_alone s ero)

-- What the octets of a subobject say: neither M nor C.
abbrev pub one_segment : Head → List ℕ → ℕ → Segment
one_segment h s at =
    record {
      loose = eqb h.l 1;
      verify = eqb h.v 1;
      nt = h.nt;
      behaviour = be16 s (at + 6);
      hassid = eqb h.s 0;
      sid = part_of s (at + 8) (cond (eqb h.s 0) 16 0) 16;
      nai = part_of s (at + 8 + cond (eqb h.s 0) 16 0) (srv6_nai h.nt) 40;
      structured = structured h.s h.t;
      structure = part_of s (structure_alone h.nt at) (cond (structured h.s h.t) 4 0) 4;
      labelled = false;
      complete = false;
    }

-- "The same checks, then 15."
abbrev pub pick_alone : List ℕ → Bool → Session → ℕ → ℕ → Verdict
pick_alone s ero session pst i =
    first_broken (checks_alone s ero session pst ++ (check 15 0 (not (ltb i (length (places_of s)))) ∷ [])) (acceptance_alone s ero)

unfoldable pub segment_alone : List ℕ → Bool → Session → ℕ → ℕ → Picked
segment_alone s ero session pst i =
    record {
      verdict = pick_alone s ero session pst i;
      segment = cond (eqb (pick_alone s ero session pst i).number 0) (one_segment (head_alone s ero (get_or (places_of s) i 0)) s (get_or (places_of s) i 0)) no_segment;
      strays = cond (eqb (pick_alone s ero session pst i).number 0) (one_strays (head_alone s ero (get_or (places_of s) i 0)) s (get_or (places_of s) i 0)) no_strays;
    }
