use Rattle.units.proofs.Constants.{zero_part}
use Rattle.series_tests.proofs.known_parts.part_at.Goals as goal

pub returns-in_default : goal.returns-in_default
returns-in_default c = zero_part c.args.ring c.args.r c.zero.result c.zero.ensures.degree c.zero.ensures.map
