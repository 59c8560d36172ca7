use Rattle.ps_model.specs.SeriesRing.{ring}
use Rattle.ps_model.proofs.Factors.{factors-truncated}
use Rattle.ps_model.proofs.JobFactors.{factors_truncated, factors_below}
use Rattle.ps_model.proofs.laws.factors.l4.Goals as goal

pub returns : goal.returns
returns c = record {
  job = λ job d D fs le is. factors_truncated job d D le fs is;
  only = λ job d D fs gs le ok is is'. factors_below job ok d D le fs gs is is';
  polynomial = λ S d D le roots F fs is. factors-truncated (ring S) d D le roots F fs is;
}
