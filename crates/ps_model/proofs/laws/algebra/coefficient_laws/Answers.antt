use Rattle.std.proofs.Common.{◌+◌, ◌%◌, sym, ◌∙◌, ap}
use Rattle.ps_model.specs.Sums.{products}
use Rattle.ps_model.specs.Polynomial.{terms, product}
use Rattle.ps_model.specs.Truncation.{truncated, homogeneous_part}
use Rattle.ps_model.specs.SeriesRing.{ring, degree}
use Rattle.ps_model.specs.Keys.{add_keys}
use Rattle.ps_model.proofs.Totals.{total-products}
use Rattle.ps_model.proofs.Coefficients.{at_key, small, same_coefficients, coefficient-linear_form}
use Rattle.ps_model.proofs.Coefficients.{coefficient-polynomial}
use Rattle.ps_model.proofs.Values.{linear_form-sum}
use Rattle.ps_model.proofs.Origin.{coefficient-kept_terms, coefficient-above, none_above_is}
use Rattle.ps_model.proofs.laws.algebra.coefficient_laws.Goals as goal

pub returns : goal.returns
unfolding product truncated homogeneous_part
returns c = record {
  residues = λ S. small (ring S);
  same = λ S. same_coefficients (ring S);
  of_sum = λ S p q k. sym (coefficient-linear_form (ring S) _ k) ∙ linear_form-sum (ring S) (at_key (ring S) k) p q
      ∙ λ i. (coefficient-linear_form (ring S) p k i + coefficient-linear_form (ring S) q k i) % S.modulus;
  of_product = λ S p q k. coefficient-polynomial (ring S) (products (add_keys S.variables) (terms (ring S) p)
      (terms (ring S) q)) k ∙ ap (λ n. n % S.modulus) (total-products (add_keys S.variables) (at_key (ring S) k)
      (terms (ring S) p) (terms (ring S) q));
  of_truncated = λ S D p k. coefficient-kept_terms (ring S) _ p k;
  of_homogeneous_part = λ S r p k. coefficient-kept_terms (ring S) _ p k;
  no_power_above = λ S K p. (coefficient-above (ring S) (λ x. x.y) K p, none_above_is (ring S) (λ x. x.y) K p);
  no_degree_above = λ S D p. (coefficient-above (ring S) (degree S) D p, none_above_is (ring S) (degree S) D p);
}
