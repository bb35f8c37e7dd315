-- What document 01 alone says of an OPEN object: no sub-TLV 26 (document 02, C-16). And the part of an answer that it says.
use Rattle.std.specs.Prelude.{ℕ, List, Bool, false, cond, not, ◌&&◌, ◌||◌, None}
use Rattle.answers.specs.Numbers.{open_malformed, capability_missing, wrong_msd, not_usable}
use Rattle.flag_positions.specs.declared.Positions.{Positions}
use Rattle.session.specs.Opened.{Opened}
use Rattle.session.specs.Sessions.{no_form, open_refused}
use Rattle.open.specs.Open.{srv6_of, listed, framed, fitting, holding, sized_in, breaks28, breaks2_srv6, breaks3_srv6, srv6_carried}

-- An answer's number and SRv6's half: no form at fault is named, and there is no MPLS.
abbrev pub srv6_half : Opened → Opened
srv6_half o =
    record {
      number = o.number;
      srv6 = o.srv6;
      n = o.n;
      limit = o.limit;
      a = o.a;
      r = o.r;
      v = o.v;
      m = o.m;
      form = no_form;
      mpls = false;
      mplsn = false;
      mplslimit = None;
    }

-- "If type 3 is listed, sub-TLV 27 must have an even length of at least 4."
abbrev pub sub_sized : List ℕ → Bool
sub_sized s = not (listed s) || sized_in (srv6_of s)

-- "Else 1."
abbrev pub breaks1_before : List ℕ → Bool
breaks1_before s = not (framed s && (fitting s && (holding s && sub_sized s)))

-- 28 "before all others". "Order: 1, 2, 3. Otherwise accepted."
abbrev pub open_before : Positions → List ℕ → Opened
open_before p s =
    cond (breaks28 p) (open_refused not_usable no_form)
    (cond (breaks1_before s) (open_refused open_malformed no_form)
    (cond (breaks2_srv6 s) (open_refused capability_missing no_form)
    (cond (breaks3_srv6 s) (open_refused wrong_msd no_form)
    (srv6_carried p s))))
