-- One arm for each row that sets something: the call's line and the state that it leaves are those of the definition (`does`), with the parts that stay as they were.
use Rattle.console_dialogue.proofs.TurnLaws.{does, parts, part_stays}
use Rattle.console_fields.specs.Shown.{opened_line}
use Rattle.command_forms.specs.declared.verb.Verb.TheVariants as v
use Rattle.command_rows.specs.Rows.{set}
use mathlib.Core.Path.{refl, ◌∙◌, ap}
use native.Mathlib.Omega.{arith}
use borrow.Author.Rules.{rules}
use Rattle.console_dialogue.proofs.setting.set.Goals as goal

pub opened-requires : goal.opened-requires
opened-requires c = omega (arith, c.requires.2.stored)

pub opened-requires-in-Pce : goal.opened-requires-in-Pce
opened-requires-in-Pce c = omega (arith, c.requires.2.stored)

pub done-requires-in-Addresses : goal.done-requires-in-Addresses
done-requires-in-Addresses c = omega (arith, c.requires.2.stored)

pub returns-in-Pcc : goal.returns-in-Pcc
returns-in-Pcc c =
    let pre = c.requires in
    let heard = c.heard-o.ensures.read in
    record {
      done = does v.Pcc pre.0 (pre.1 ∙ ap set c.in-Pcc.is) (c.ended.ensures.ended.0 ∙ c.with_pcc.ensures.pcc, c.ended.ensures.ended.1) c.opened.ensures.told
          (ap opened_line heard) (parts refl refl heard refl refl refl refl);
    }

pub returns-in-Pce : goal.returns-in-Pce
returns-in-Pce c =
    let pre = c.requires in
    let heard = c.heard-o-in-Pce.ensures.read in
    record {
      done = does v.Pce pre.0 (pre.1 ∙ ap set c.in-Pce.is) (c.ended-in-Pce.ensures.ended.0 ∙ c.with_pce.ensures.pce, c.ended-in-Pce.ensures.ended.1) c.opened-in-Pce.ensures.told
          (ap opened_line heard) (parts refl refl refl heard refl refl refl);
    }

pub returns-in-Positions : goal.returns-in-Positions
returns-in-Positions c =
    let pre = c.requires in
    record {
      done = does v.Positions pre.0 (pre.1 ∙ ap set c.in-Positions.is)
          (c.ended-in-Positions.ensures.ended.0 ∙ c.with_positions.ensures.positions, c.ended-in-Positions.ensures.ended.1) c.done.ensures.told refl
          refl;
    }

pub returns-in-Addresses : goal.returns-in-Addresses
returns-in-Addresses c =
    let a = c.args in
    let pre = c.requires in
    record {
      done = does v.Addresses pre.0 (pre.1 ∙ ap set c.in-Addresses.is)
          (c.ended-in-Addresses.ensures.ended.0 ∙ c.with_given.ensures.given, c.ended-in-Addresses.ensures.ended.1) c.done-in-Addresses.ensures.told refl
          (parts refl refl refl refl refl (part_stays a.state.size a.memory.now _ c.addressed-given.ensures.writer) c.addressed-given.ensures.list);
    }
