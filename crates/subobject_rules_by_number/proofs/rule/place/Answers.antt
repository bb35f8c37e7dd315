use Rattle.octets.proofs.Tests.{tests}
use Rattle.subobject.specs.Rules.{place_by}
use Rattle.subobject_rules_by_number.proofs.Laws.{unplaced}
use Rattle.subobject_rules_by_number.proofs.rule.place.Goals as goal

pub returns-then-number-eq-NAI_UNKNOWN : goal.returns-then-number-eq-NAI_UNKNOWN
unfolding place_by
returns-then-number-eq-NAI_UNKNOWN c = record { place = search tests }

pub returns-then-number-eq-NOTHING_THERE : goal.returns-then-number-eq-NOTHING_THERE
unfolding place_by
returns-then-number-eq-NOTHING_THERE c = record { place = search tests }

pub returns-then-number-eq-LENGTH_WRONG : goal.returns-then-number-eq-LENGTH_WRONG
unfolding place_by
returns-then-number-eq-LENGTH_WRONG c = record { place = search tests }

pub returns-then-number-eq-SID_NEEDED : goal.returns-then-number-eq-SID_NEEDED
unfolding place_by
returns-then-number-eq-SID_NEEDED c = record { place = search tests }

pub returns-then-number-eq-STRUCTURE_TOO_LONG : goal.returns-then-number-eq-STRUCTURE_TOO_LONG
unfolding place_by
returns-then-number-eq-STRUCTURE_TOO_LONG c = record { place = search tests }

pub returns : goal.returns
returns c = record { place = search unplaced }
