use Rattle.std.proofs.Common.{rules}
use Rattle.frame.specs.Frames.{headed}
use Rattle.octets.specs.Octets.{octet_of}
use Rattle.frame_rules.proofs.judged.is_headed.Goals as goal

pub returns-then-n-lt-HEADER : goal.returns-then-n-lt-HEADER
unfolding headed octet_of
returns-then-n-lt-HEADER c = search rules

pub returns-then-from-class : goal.returns-then-from-class
unfolding headed octet_of
returns-then-from-class c = search rules

pub returns-then-from-ne-OBJECT_TYPE : goal.returns-then-from-ne-OBJECT_TYPE
unfolding headed octet_of
returns-then-from-ne-OBJECT_TYPE c = search rules

pub returns-then-read16-n : goal.returns-then-read16-n
unfolding headed octet_of
returns-then-read16-n c = search rules

pub returns : goal.returns
unfolding headed octet_of
returns c = search rules
