use Rattle.ps_model.proofs.ValidJobs.{split_valid, two_valid, square_valid}
use Rattle.ps_model.proofs.examples.valid_jobs.Goals as goal

pub returns : goal.returns
returns c = record { split = split_valid; two = two_valid; square = square_valid }
