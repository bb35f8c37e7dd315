use Rattle.octets.proofs.Tests.{tests}
use Rattle.subobject.specs.Rules.{broken_by}
use Rattle.subobject_rules_by_number.proofs.rule.breaks.Goals as goal

pub returns-then-number-eq-NAI_UNKNOWN : goal.returns-then-number-eq-NAI_UNKNOWN
unfolding broken_by
returns-then-number-eq-NAI_UNKNOWN c = record { broken = search tests }

pub returns-then-number-eq-NOTHING_THERE : goal.returns-then-number-eq-NOTHING_THERE
unfolding broken_by
returns-then-number-eq-NOTHING_THERE c = record { broken = search tests }

pub returns-then-number-eq-LENGTH_WRONG : goal.returns-then-number-eq-LENGTH_WRONG
unfolding broken_by
returns-then-number-eq-LENGTH_WRONG c = record { broken = search tests }

pub returns-then-number-eq-SID_NEEDED : goal.returns-then-number-eq-SID_NEEDED
unfolding broken_by
returns-then-number-eq-SID_NEEDED c = record { broken = search tests }

pub returns-then-number-eq-STRUCTURE_TOO_LONG : goal.returns-then-number-eq-STRUCTURE_TOO_LONG
unfolding broken_by
returns-then-number-eq-STRUCTURE_TOO_LONG c = record { broken = search tests }

pub returns-then-number-eq-LABEL_VALUE : goal.returns-then-number-eq-LABEL_VALUE
unfolding broken_by
returns-then-number-eq-LABEL_VALUE c = record { broken = search tests }

pub returns-then-number-eq-LABEL_FORMAT : goal.returns-then-number-eq-LABEL_FORMAT
unfolding broken_by
returns-then-number-eq-LABEL_FORMAT c = record { broken = search tests }

pub returns : goal.returns
unfolding broken_by
returns c = record { broken = search tests }
