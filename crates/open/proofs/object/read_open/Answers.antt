-- 28 and the frame's part of 1 refuse at once. What the walks over the TLVs have seen is then taken to what either form carries, and that to the answer (`cut_first`, `alone`, `cut_second`, `beside`).
use Rattle.open_frame.proofs.Laws.{long_framed}
use Rattle.session.proofs.Laws.{handed_on}
use Rattle.open.proofs.Laws.{part_rest, unusable, unframed, cut_first, alone, cut_second, beside}
use Rattle.open.specs.Open.{tlvs_at, framed}
use Rattle.flag_positions.specs.Positions.{usable_positions}
use mathlib.Core.Bool.{true}
use mathlib.Core.Path.{◌≡◌, sym, ◌∙◌}
use native.Mathlib.Omega.{arith}
use Rattle.open.proofs.object.read_open.Goals as goal
use Rattle.open.proofs.object.read_open.Goals.{Else-not-usable, Else-not-is_framed}

of-use : (c : Else-not-usable) → usable_positions c.args.p ≡ true
of-use c = sym c.usable.ensures.usable ∙ c.if-not-usable.false

good : (c : Else-not-is_framed) → framed c.args.s.now ≡ true
good c = sym c.is_framed.ensures.framed ∙ c.if-not-is_framed.false

pub returns-then-not-usable : goal.returns-then-not-usable
returns-then-not-usable c = record { read = unusable _ _ (sym c.usable.ensures.usable ∙ c.if-not-usable.true) }

pub returns-then-not-is_framed : goal.returns-then-not-is_framed
returns-then-not-is_framed c =
    record {
      read = unframed _ _ (of-use (goal.at.returns-then-not-is_framed c).Else-not-usable) (sym c.is_framed.ensures.framed ∙ c.if-not-is_framed.true);
    }

pub walk-requires : goal.walk-requires
walk-requires c = let h = long_framed _ (good (goal.at.walk-requires c).Else-not-is_framed) in omega (arith, c.is_framed.ensures.short (c.if-not-is_framed.false))

pub returns-in_default : goal.returns-in_default
returns-in_default c =
    record {
      read = cut_first _ _ (of-use (goal.at.returns-in_default c).Else-not-usable) (good (goal.at.returns-in_default c).Else-not-is_framed)
          (rw (part_rest c.args.s.now tlvs_at) at c.in_default.ensures.found);
    }

pub returns-in_err-srv6 : goal.returns-in_err-srv6
returns-in_err-srv6 c =
    record {
      read = handed_on _ c.from_residual.result c.in_err-srv6.field-0.0 c.from_residual.ensures.1
          ∙ (c.in_err-srv6.ensures.carried
          ∙ alone _ _ (of-use (goal.at.returns-in_err-srv6 c).Else-not-usable) (good (goal.at.returns-in_err-srv6 c).Else-not-is_framed)
          (rw (part_rest c.args.s.now tlvs_at) at c.in-Some.ensures.found) (sym c.listed.ensures.listed ∙ c.if-not-listed.true));
    }

pub returns-then-not-listed : goal.returns-then-not-listed
returns-then-not-listed c =
    record {
      read = c.in_ok-srv6.ensures.carried
          ∙ alone _ _ (of-use (goal.at.returns-then-not-listed c).Else-not-usable) (good (goal.at.returns-then-not-listed c).Else-not-is_framed)
          (rw (part_rest c.args.s.now tlvs_at) at c.in-Some.ensures.found) (sym c.listed.ensures.listed ∙ c.if-not-listed.true);
    }

pub walk-requires-2 : goal.walk-requires-2
walk-requires-2 c = let h = long_framed _ (good (goal.at.walk-requires-2 c).Else-not-is_framed) in omega (arith, c.is_framed.ensures.short (c.if-not-is_framed.false))

pub returns-in_default-walk : goal.returns-in_default-walk
returns-in_default-walk c =
    record {
      read = cut_second _ _ (of-use (goal.at.returns-in_default-walk c).Else-not-usable) (good (goal.at.returns-in_default-walk c).Else-not-is_framed)
          (rw (part_rest c.args.s.now tlvs_at) at c.in-Some.ensures.found) (sym c.listed.ensures.listed ∙ c.if-not-listed.false)
          (rw (part_rest c.args.s.now tlvs_at) at c.in_default-walk.ensures.found);
    }

pub returns : goal.returns
returns c =
    record {
      read = c.joined.ensures.joined
          ∙ rw (c.mpls_by.ensures.carried, c.srv6_by-srv6.ensures.carried) (
          beside _ _ (of-use (goal.at.returns c).Else-not-usable) (good (goal.at.returns c).Else-not-is_framed)
          (rw (part_rest c.args.s.now tlvs_at) at c.in-Some.ensures.found) (sym c.listed.ensures.listed ∙ c.if-not-listed.false)
          (rw (part_rest c.args.s.now tlvs_at) at c.in-Some-walk.ensures.found)
          );
    }
