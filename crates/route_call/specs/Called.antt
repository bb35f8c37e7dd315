-- A route judged with the head end's addresses: "demand 2 then reads with these inputs included"; "28 .. address list not a multiple of 16 octets,
-- before all others" (document 02, C-15).
use Rattle.std.specs.Prelude.{ℕ, List, Bool, true, cond, not}
use Rattle.answers.specs.declared.verdict.Verdict.{Verdict}
use Rattle.answers.specs.Numbers.{not_usable}
use Rattle.answers.specs.Verdicts.{refused_by}
use Rattle.session.specs.declared.Session.{Session}
use Rattle.session.specs.declared.Sessions.{Sessions}
use Rattle.session.specs.Opened.{Opened}
use Rattle.session.specs.Sessions.{session_under}
use Rattle.subobject.specs.Segments.{no_segment}
use Rattle.subobject_strays.specs.Strays.{no_strays}
use Rattle.route.specs.Picked.{Picked}
use Rattle.route.specs.Routes.{judge_of, segment_of}
use Rattle.head_end.specs.Addresses.{usable_list}
use Rattle.route_limit.specs.FirstOff.{session_for}

-- 28: "address list not a multiple of 16 octets".
unfoldable pub rule28 : List ℕ → Bool
rule28 addresses = not (usable_list addresses)

-- 28, then the checks of document 01 in a form's session, under the limit for this route.
unfoldable pub judged_in : List ℕ → Bool → Session → ℕ → List ℕ → Verdict
judged_in s ero session pst addresses = cond (rule28 addresses) (refused_by not_usable 0) (judge_of s ero (session_for s ero session addresses) pst)

-- Segment i: "the same checks, then 15".
unfoldable pub segment_in : List ℕ → Bool → Session → ℕ → List ℕ → ℕ → Picked
segment_in s ero session pst addresses i =
    cond (rule28 addresses) (record { verdict = refused_by not_usable 0; segment = no_segment; strays = no_strays })
    (segment_of s ero (session_for s ero session addresses) pst i)

-- The session is that of the form which the PST names (document 02, C-16).
abbrev pub judged_for : List ℕ → Bool → Sessions → ℕ → List ℕ → Verdict
judged_for s ero sessions pst addresses = judged_in s ero (session_under sessions pst) pst addresses

abbrev pub segment_for : List ℕ → Bool → Sessions → ℕ → List ℕ → ℕ → Picked
segment_for s ero sessions pst addresses i = segment_in s ero (session_under sessions pst) pst addresses i

-- words of the theorems ----------------------------------------------------------------------------------------

-- An OPEN answer with other flags,
abbrev pub flagged_open : Opened → Bool → Bool → Opened
flagged_open o a r =
    record {
      number = o.number;
      srv6 = o.srv6;
      n = o.n;
      limit = o.limit;
      a = a;
      r = r;
      v = o.v;
      m = o.m;
      form = o.form;
      mpls = o.mpls;
      mplsn = o.mplsn;
      mplslimit = o.mplslimit;
    }

-- with A, or R, turned on.
abbrev pub with_a : Opened → Opened
with_a o = flagged_open o true o.r

abbrev pub with_r : Opened → Opened
with_r o = flagged_open o o.a true
