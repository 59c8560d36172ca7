use Rattle.std.proofs.Common.{◌≡◌, ◌<◌, ◌-◌, length, sym, ◌∙◌, subst, arith}
use Rattle.residue.specs.ProductSums.{Gains}
use Rattle.residue.specs.Products.{sum_below}
use Rattle.parts.specs.Rings.{modulus_of}
use Rattle.parts.specs.SeriesParts.{parts_at}
use Rattle.parts.specs.SeriesRows.{indicator, crossed_total}
use Rattle.parts.specs.Terms.{key_of}
use Rattle.parts.proofs.LeftTerms.{value_low, left_value_at}
use Rattle.parts.proofs.Overlaps.{gains_next}
use Rattle.parts.proofs.crossed.left_at.Goals as goal

pub loop-h-preserved : goal.loop-h-preserved
loop-h-preserved c = gains_next (record { modulus = modulus_of c.args.ring; residue = 0 }) c.loop-h.sum
    c.add_at.new.sum c.loop-h.h (λ h. crossed_total (indicator (key_of c.args.monomial.now))
    (parts_at c.args.crossed.now.left.now h) (parts_at c.args.crossed.now.right.now (c.args.crossed.now.power - h)))
    c.loop-h.invariant c.add_at.ensures

pub sub-left-requires-clause-a_residue : goal.sub-left-requires-clause-a_residue
sub-left-requires-clause-a_residue c =
    subst (λ n. c.coefficient.result < n) (sym c.modulus-modulus.ensures)
    (subst (λ n. n < modulus_of c.args.ring) (sym c.coefficient.ensures)
    (value_low c.args.ring c.args.start.now c.requires.start (key_of c.args.monomial.now)))

pub returns-clause-value : goal.returns-clause-value
returns-clause-value c =
    let end : c.loop-h.h ≡ length c.args.crossed.now.left.now = omega arith in
    left_value_at c.args.ring c.requires.contiguous c.args.start.now c.requires.start c.args.crossed.now.left.now
    c.args.crossed.now.right.now c.args.crossed.now.power c.args.factor c.requires.left_parts c.requires.right_parts
    (key_of c.args.monomial.now) c.requires.key _ c.coefficient.result c.residue.result c.sub-left.result c.mul.result
    c.loop-h.sum c.modulus-modulus.ensures c.coefficient.ensures
    (subst (λ n. Gains (record { modulus = modulus_of c.args.ring; residue = 0 }) c.loop-h.sum (sum_below n
    (λ h. crossed_total (indicator (key_of c.args.monomial.now))
    (parts_at c.args.crossed.now.left.now h) (parts_at c.args.crossed.now.right.now (c.args.crossed.now.power - h))))) end c.loop-h.invariant)
    c.residue.ensures.residue c.residue.ensures.low c.sub-left.ensures c.mul.ensures
