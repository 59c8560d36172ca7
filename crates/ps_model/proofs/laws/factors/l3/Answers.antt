use Rattle.ps_model.specs.SeriesRing.{ring}
use Rattle.ps_model.proofs.Factors.{factors}
use Rattle.ps_model.proofs.JobValues.{lawful_factors}
use Rattle.ps_model.proofs.laws.factors.l3.Goals as goal

pub returns : goal.returns
returns c = record {
  job = λ job D ok. lawful_factors job ok D;
  polynomial = λ S D roots F ok. factors (ring S) D roots F ok;
}
