use Rattle.route_limit.proofs.Laws.{place_told}
use Rattle.route_limit.proofs.local_place.Goals as goal

pub returns : goal.returns
returns c = record { place = place_told c.args.flags c.srv6-form.ensures.form c.from.ensures c.flag.ensures.flag.0 c.sid_length.ensures.length }
