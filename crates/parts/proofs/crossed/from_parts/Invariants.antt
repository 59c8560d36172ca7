use Rattle.std.proofs.Common.{◌-◌}
use Rattle.ps_model.specs.Notation.{sum_between}
use Rattle.parts.specs.SeriesParts.{SubtractsFrom, crossed_part, parts_at}
use Rattle.parts.proofs.crossed.from_parts.Given as goal

abbrev pub invariant-loop-h : goal.invariant-loop-h
invariant-loop-h l = SubtractsFrom l.initial.sum l.sum (sum_between 0 l.h (λ h. crossed_part l.initial.sum.ring
    l.fn.start.degree (parts_at l.fn.crossed.left.now h) (parts_at l.fn.crossed.right.now (l.fn.crossed.power - h))))
