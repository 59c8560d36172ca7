use Rattle.ps_model.specs.SeriesRing.{ring}
use Rattle.ps_model.proofs.Quotients.{one_quotient, quotient-truncated}
use Rattle.ps_model.proofs.laws.algebra.quotient_laws.Goals as goal

pub returns : goal.returns
returns c = record {
  quotient = λ S D a b flat unit within. one_quotient (ring S) b flat unit D a within;
  truncated = λ S d D a b q le is. quotient-truncated (ring S) d D a b q le is;
}
