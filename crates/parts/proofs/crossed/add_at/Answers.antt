use Rattle.std.proofs.Common.{◌-◌}
use Rattle.parts.specs.SeriesParts.{parts_at}
use Rattle.parts.specs.SeriesRows.{indicator}
use Rattle.parts.specs.Terms.{key_of}
use Rattle.parts.proofs.Overlaps.{gains_none}
use Rattle.parts.proofs.SeriesRead.{crossed_past}
use Rattle.parts.proofs.crossed.add_at.Goals as goal

pub returns-else-other-crossed : goal.returns-else-other-crossed
returns-else-other-crossed c = gains_none c.args.sum.now _ (crossed_past (indicator (key_of c.args.monomial.now))
    (parts_at c.args.crossed.now.left.now c.args.h) c.args.crossed.now.right.now
    (c.args.crossed.now.power - c.args.h) c.if-other-crossed.false)
