use Rattle.ps_model.specs.PlainPolynomial.{small_key}
use Rattle.ps_model.proofs.PlainBounds.{products_in_range, small_in_range}
use Rattle.model_tests.proofs.plain_functions.plain_arithmetic.Goals as goal

pub plain_product-requires-clause-in_range : goal.plain_product-requires-clause-in_range
plain_product-requires-clause-in_range g c =
    products_in_range small_key small_key c.in_ok-twice.twice c.in_ok-thrice.thrice
    c.in_ok-twice.ensures.within c.in_ok-thrice.ensures.within small_in_range
