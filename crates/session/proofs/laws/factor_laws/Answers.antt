use Rattle.session.proofs.JobRings.{same_job}
use Rattle.session.proofs.Written.{written}
use Rattle.session.proofs.laws.factor_laws.Goals as goal

pub returns : goal.returns
returns c = record {
  same_job = same_job;
  factors = λ s D holds fits up_to. written s D holds fits up_to;
}
