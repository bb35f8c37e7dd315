use Rattle.board_search.proofs.Keys.{none_passed, key_passed, key_found, all_passed}
use Rattle.board_search.proofs.key.place_in.Goals as goal

pub loop-i-init : goal.loop-i-init
loop-i-init c = none_passed _ _

pub loop-i-preserved : goal.loop-i-preserved
loop-i-preserved c = search key_passed

pub returns-clause-place : goal.returns-clause-place
returns-clause-place c = search all_passed

pub returns-then-from-key-clause-place : goal.returns-then-from-key-clause-place
returns-then-from-key-clause-place c = search key_found
