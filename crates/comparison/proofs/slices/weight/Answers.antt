use Rattle.std.proofs.Common.{arith}
use Rattle.comparison.proofs.Weights.{weight_past}
use Rattle.comparison.proofs.slices.weight.Goals as goal

pub returns-else-i-n-clause-weight : goal.returns-else-i-n-clause-weight
returns-else-i-n-clause-weight c =
    weight_past c.args.ring c.args.i (omega (arith, c.if-i-n.false, c.n.ensures.variables)) c.requires
