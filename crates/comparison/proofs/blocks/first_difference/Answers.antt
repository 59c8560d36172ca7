use Rattle.std.proofs.Common.{◌≡◌, List, sym, subst, arith}
use Rattle.parts.specs.Series.{series, polynomial_in}
use Rattle.printer.specs.ReadText.{Coefficients}
use Rattle.comparison.specs.declared.coefficients.Compared.TheVariants.{Lead as OfLead}
use Rattle.comparison.specs.Compared.{AreWithin, compared_to}
use Rattle.comparison.specs.Differences.{IsFirstIn}
use Rattle.comparison.proofs.BlockPlaces.{lead_differs}
use Rattle.comparison.proofs.ReadPolynomials.{are_within}
use Rattle.comparison.proofs.blocks.first_difference.Goals as goal

pub returns-in-Some-2 : goal.returns-in-Some-2
returns-in-Some-2 g c =
    let value = g.V.BlockView.value c.args.view.now in
    let block = c.args.block.now in
    let D = block.precision in
    let first = rw c.in-Some-2.is at c.in_ok-slice.ensures.some in
    let none : c.in-Some-2.slice.power ≡ 0 = omega (arith, first.0) in
    lead_differs value D block.lead block.factors.items c.requires.read c.in-Some.lead c.in-Some-2.slice.degree
    c.in-Some.is (subst (λ j. IsFirstIn (series value.ring) (compared_to value D OfLead)
    (polynomial_in value.ring c.in-Some.lead) j c.in-Some-2.slice.degree) none first.1)

pub first_in_factors-requires-clause-within : goal.first_in_factors-requires-clause-within
first_in_factors-requires-clause-within g c =
    let value = g.V.BlockView.value c.args.view.now in
    let block = c.args.block.now in
    subst (λ (xs : List Coefficients). AreWithin value block.precision xs) (sym c.deref.ensures.value)
    (are_within value block.precision block.lead block.factors.items c.requires.read)
