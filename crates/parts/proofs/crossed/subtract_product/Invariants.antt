use Rattle.std.proofs.Common.{◌-◌}
use Rattle.ps_model.specs.Notation.{sum_between}
use Rattle.parts.specs.SeriesParts.{SubtractsFrom, facing_parts, parts_at}
use Rattle.parts.proofs.crossed.subtract_product.Given as goal

abbrev pub invariant-loop-s : goal.invariant-loop-s
invariant-loop-s l = SubtractsFrom l.fn.sum l.sum (sum_between 0 l.s (facing_parts l.fn.sum.ring l.degree
    (parts_at l.fn.crossed.left.now l.h) (parts_at l.fn.crossed.right.now (l.fn.crossed.power - l.h))))
