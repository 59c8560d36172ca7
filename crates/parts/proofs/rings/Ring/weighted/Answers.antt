use Rattle.parts.proofs.Weights.{weights-positive, weights-light}
use Rattle.parts.proofs.rings.Ring.weighted.Goals as goal

pub invariant_of-result-clause-positive : goal.invariant_of-result-clause-positive
invariant_of-result-clause-positive c = weights-positive c.args.n c.args.weights c.requires.weights

pub invariant_of-result-clause-light : goal.invariant_of-result-clause-light
invariant_of-result-clause-light c = weights-light c.args.n c.args.weights c.requires.weights
