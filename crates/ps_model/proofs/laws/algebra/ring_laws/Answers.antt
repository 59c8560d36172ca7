use Rattle.ps_model.specs.SeriesRing.{ring}
use Rattle.ps_model.proofs.RingLaws.{sum-comm, sum-assoc, zero-sum, negative-sum, product-comm, product-assoc}
use Rattle.ps_model.proofs.RingLaws.{one-product, product-sum, power-add, power-product}
use Rattle.ps_model.proofs.laws.algebra.ring_laws.Goals as goal

pub returns : goal.returns
returns c = record {
  sum_commutes = λ S. sum-comm (ring S);
  sum_associates = λ S. sum-assoc (ring S);
  zero_sum = λ S. zero-sum (ring S);
  negative_sum = λ S. negative-sum (ring S);
  product_commutes = λ S. product-comm (ring S);
  product_associates = λ S. product-assoc (ring S);
  one_product = λ S. one-product (ring S);
  distributes = λ S. product-sum (ring S);
  power_sum = λ S. power-add (ring S);
  power_product = λ S. power-product (ring S);
}
