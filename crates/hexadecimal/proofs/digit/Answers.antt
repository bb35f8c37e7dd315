use Rattle.hexadecimal.proofs.Laws.{hex_figure, hex_upper, hex_lower, hex_before, hex_between, hex_amid, hex_behind, value_some, value_none}
use Rattle.std.proofs.Common.{◌≡◌, ◌+◌, ◌-◌, ◌∙◌, arith}
use Rattle.hexadecimal.proofs.digit.Goals as goal

pub returns-in-48-to-57 : goal.returns-in-48-to-57
returns-in-48-to-57 c = record { digit = value_some _ _ (hex_figure _ (omega arith) (omega arith)) (omega arith) }

pub returns-in-65-to-70 : goal.returns-in-65-to-70
returns-in-65-to-70 c =
    let e : c.args.c - 65 + 10 ≡ c.args.c - 55 = omega arith in
    record { digit = value_some _ _ (e ∙ hex_upper _ (omega arith) (omega arith)) (omega arith) }

pub returns-in-97-to-102 : goal.returns-in-97-to-102
returns-in-97-to-102 c =
    let e : c.args.c - 97 + 10 ≡ c.args.c - 87 = omega arith in
    record { digit = value_some _ _ (e ∙ hex_lower _ (omega arith) (omega arith)) (omega arith) }

pub returns-in_default : goal.returns-in_default
returns-in_default c = record { digit = value_none _ (hex_before _ (omega arith)) }

pub returns-in_default-2 : goal.returns-in_default-2
returns-in_default-2 c = record { digit = value_none _ (hex_between _ (omega arith) (omega arith)) }

pub returns-in_default-3 : goal.returns-in_default-3
returns-in_default-3 c = record { digit = value_none _ (hex_amid _ (omega arith) (omega arith)) }

pub returns-in_default-4 : goal.returns-in_default-4
returns-in_default-4 c = record { digit = value_none _ (hex_behind _ (omega arith)) }
