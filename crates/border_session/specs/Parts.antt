-- What an inner function's contract cites; no promise rests on it.
use Rattle.std.specs.Prelude.{Bool, ◌||◌}
use Rattle.session.specs.declared.Session.{Session}

-- Whether A or R is agreed.
abbrev pub flagged_of : Session → Bool
flagged_of x = x.a || x.r
