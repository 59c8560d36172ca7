use Rattle.std.proofs.Common.{arith}
use Rattle.residue.proofs.Sums.{carried_is}
use Rattle.residue.proofs.kernels.carried.Goals as goal

pub returns-clause-sum : goal.returns-clause-sum
returns-clause-sum c = let h = carried_is c.args.low c.args.more c.overflowing_add-low.result.0 c.from.result
    c.overflowing_add-low.result.1 (omega arith) (omega arith) c.overflowing_add-low.ensures.value
    c.overflowing_add-low.ensures.overflow c.from.ensures in omega (arith, h.0)

pub returns-clause-top : goal.returns-clause-top
returns-clause-top c = let h = carried_is c.args.low c.args.more c.overflowing_add-low.result.0 c.from.result
    c.overflowing_add-low.result.1 (omega arith) (omega arith) c.overflowing_add-low.ensures.value
    c.overflowing_add-low.ensures.overflow c.from.ensures in omega (arith, h.1)
