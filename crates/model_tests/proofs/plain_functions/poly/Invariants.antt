use Rattle.ps_model.specs.PlainPolynomial.{HasKeysWithin, HasValuesBelow, small_key}
use Rattle.model_tests.proofs.plain_functions.poly.Given as goal

abbrev pub invariant-loop-x : goal.invariant-loop-x
invariant-loop-x l = record { within : HasKeysWithin small_key l.p; residues : HasValuesBelow 101 l.p }
