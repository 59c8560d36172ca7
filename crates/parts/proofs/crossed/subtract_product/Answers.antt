use Rattle.std.proofs.Common.{◌≡◌, ◌-◌, suc, subst, arith}
use Rattle.ps_model.specs.Notation.{sum_between}
use Rattle.parts.specs.SeriesParts.{SubtractsFrom, facing_parts, parts_at}
use Rattle.parts.proofs.CrossedParts.{subtracts-none, subtracts-more}
use Rattle.parts.proofs.crossed.subtract_product.Goals as goal

pub loop-s-init : goal.loop-s-init
loop-s-init c = subtracts-none c.args.sum.now (facing_parts c.args.sum.now.ring c.args.degree
    (parts_at c.args.crossed.now.left.now c.args.h)
    (parts_at c.args.crossed.now.right.now (c.args.crossed.now.power - c.args.h)))

pub loop-s-preserved : goal.loop-s-preserved
loop-s-preserved c = subtracts-more (λ ring. facing_parts ring c.args.degree
    (parts_at c.args.crossed.now.left.now c.args.h)
    (parts_at c.args.crossed.now.right.now (c.args.crossed.now.power - c.args.h)))
    c.args.sum.now c.loop-s.sum c.subtract_parts.new.sum c.loop-s.s c.loop-s.invariant c.in_ok-subtract_parts.ensures

pub returns : goal.returns
returns c =
    let end : c.loop-s.s ≡ suc c.args.degree = omega arith in
    subst (λ n. SubtractsFrom c.args.sum.now c.loop-s.sum (sum_between 0 n
    (facing_parts c.args.sum.now.ring c.args.degree
    (parts_at c.args.crossed.now.left.now c.args.h)
    (parts_at c.args.crossed.now.right.now (c.args.crossed.now.power - c.args.h))))) end
    c.loop-s.invariant
