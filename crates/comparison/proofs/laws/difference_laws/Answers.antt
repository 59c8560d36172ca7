use Rattle.comparison.proofs.PlacesOnce.{exactly_one}
use Rattle.comparison.proofs.laws.difference_laws.Goals as goal

pub returns : goal.returns
returns c = exactly_one
