use Rattle.std.proofs.Common.{◌+◌, ◌*◌, ◌<◌, drop}
use Rattle.std.specs.Prelude.{IfSome}
use Rattle.ps_model.specs.declared.expr.Expr.{Sum, Product}
use Rattle.intake.specs.Leading.{IsLeading}
use Rattle.intake.proofs.leading.+leading.Given as goal

-- a row of factors is as deep as its deepest factor, and comes before it
abbrev pub decreases-leading_of : goal.decreases-leading_of
decreases-leading_of l = 2 * goal.size-leading_of l

abbrev pub decreases-sum_leading : goal.decreases-sum_leading
decreases-sum_leading l = 2 * goal.size-sum_leading l

abbrev pub decreases-product_leading : goal.decreases-product_leading
decreases-product_leading l = 2 * goal.size-product_leading l + 1

abbrev pub decreases-with_factor : goal.decreases-with_factor
decreases-with_factor l = 2 * goal.size-with_factor l

abbrev pub invariant-product_leading-loop-i : goal.invariant-product_leading-loop-i
invariant-product_leading-loop-i l = record {
  residue : IfSome l.product.number (λ n. n < l.modulus.value);
  leading : IsLeading l.modulus.value (Product (drop l.i l.factors)) l.product.degree l.product.number;
}

abbrev pub invariant-sum_leading-loop-i : goal.invariant-sum_leading-loop-i
invariant-sum_leading-loop-i l = record {
  residue : IfSome l.sum.number (λ n. n < l.modulus.value);
  leading : IsLeading l.modulus.value (Sum (drop l.i l.summands)) l.sum.degree l.sum.number;
}
