use Rattle.std.proofs.Common.{sym, subst}
use Rattle.parts.specs.PartValue.{PartValue}
use Rattle.parts.specs.SeriesParts.{IsLessCrossed}
use Rattle.prepare.proofs.recurrence.next_part.Goals as goal

pub returns : goal.returns
returns c = subst (λ (p : PartValue). IsLessCrossed c.args.given.now.ring c.args.start.now c.args.left.now
    c.args.right.now c.args.power c.args.factor p) (sym c.in_ok-new.ensures.ok) c.in_ok-part.ensures
