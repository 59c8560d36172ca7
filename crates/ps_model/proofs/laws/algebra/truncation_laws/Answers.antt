use Rattle.ps_model.specs.SeriesRing.{ring, degree}
use Rattle.ps_model.proofs.Truncations.{truncated-sum, truncated-product, truncated-truncated}
use Rattle.ps_model.proofs.Truncations.{homogeneous_part-product}
use Rattle.ps_model.proofs.Truncations.{same_truncation}
use Rattle.ps_model.proofs.laws.algebra.truncation_laws.Goals as goal

pub returns : goal.returns
returns c = record {
  truncated_sum = λ S. truncated-sum (ring S) (degree S);
  truncated_product = λ S. truncated-product (ring S) (degree S) ((ring S).degree_adds);
  truncated_truncated = λ S. truncated-truncated (ring S) (degree S);
  homogeneous_part_product = λ S. homogeneous_part-product (ring S) (degree S) ((ring S).degree_adds);
  same_parts = λ S. same_truncation (ring S) (degree S);
}
