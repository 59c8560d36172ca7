use Rattle.ps_model.specs.SeriesRing.{ring}
use Rattle.ps_model.proofs.Prepared.{exactly_one}
use Rattle.ps_model.proofs.laws.preparation.l2.Goals as goal

pub returns : goal.returns
returns c = λ S k q D G ok. exactly_one (ring S) G k q D ok
