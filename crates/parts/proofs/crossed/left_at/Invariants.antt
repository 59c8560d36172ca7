use Rattle.residue.specs.ProductSums.{Gains}
use Rattle.residue.specs.Products.{sum_below}
use Rattle.std.proofs.Common.{◌-◌}
use Rattle.parts.specs.Rings.{modulus_of}
use Rattle.parts.specs.SeriesParts.{parts_at}
use Rattle.parts.specs.SeriesRows.{indicator, crossed_total}
use Rattle.parts.specs.Terms.{key_of}
use Rattle.parts.proofs.crossed.left_at.Given as goal

abbrev pub invariant-loop-h : goal.invariant-loop-h
invariant-loop-h l = Gains (record { modulus = modulus_of l.fn.ring; residue = 0 }) l.sum (sum_below l.h
    (λ h. crossed_total (indicator (key_of l.fn.monomial)) (parts_at l.fn.crossed.left.now h)
    (parts_at l.fn.crossed.right.now (l.fn.crossed.power - h))))
