use Rattle.std.proofs.Common.{◌<◌, length, get_or, sym, subst, arith}
use Rattle.std.proofs.lemmas.Option.{get_or_from_slice_get}
use Rattle.ps_model.specs.declared.job.Root.{Root}
use Rattle.printer.specs.ReadText.{Coefficients}
use Rattle.comparison.specs.Compared.{IsWithin}
use Rattle.comparison.proofs.BlockPlaces.{differs_here, same_here}
use Rattle.comparison.proofs.blocks.first_in_factors.Goals as goal

pub first_slice-requires-clause-within : goal.first_slice-requires-clause-within
first_slice-requires-clause-within g c =
    let value = g.V.BlockView.value c.args.view.now in
    let i = c.loop-i.i in
    let root = c.root-times.result in
    let f = c.index-factors-i.result in
    let within : i < length c.args.factors.now =
    omega (arith, c.loop-i-test.true, c.factors-i-end.ensures, c.requires.within.many) in
    subst (λ (x : Root). IsWithin value.ring x.times c.args.d f)
    (get_or_from_slice_get value.roots i root root c.root-times.ensures)
    (subst (λ (x : Coefficients). IsWithin value.ring (get_or value.roots i root).times c.args.d x)
    (sym c.index-factors-i.is) (c.requires.within.each i root f within))

pub returns-in-Some : goal.returns-in-Some
returns-in-Some g c =
    let value = g.V.BlockView.value c.args.view.now in
    let lawful = g.met.V.BlockView.lawful c.args.view.now in
    let i = c.loop-i.i in
    let first = rw c.in-Some.is at c.in_ok-slice.ensures.some in
    differs_here value c.args.d c.args.factors.now i c.index-factors-i.result c.index-factors-i.is c.loop-i.invariant
    (omega (arith, c.loop-i-test.true, c.factors-i-end.ensures, lawful.factors))
    (omega (arith, c.loop-i-test.true, c.factors-i-end.ensures, c.requires.within.many))
    c.in-Some.slice.power c.in-Some.slice.degree first.1

pub loop-i-preserved : goal.loop-i-preserved
loop-i-preserved g c =
    let value = g.V.BlockView.value c.args.view.now in
    let lawful = g.met.V.BlockView.lawful c.args.view.now in
    let i = c.loop-i.i in
    same_here value c.args.d c.args.factors.now i c.index-factors-i.result c.index-factors-i.is c.loop-i.invariant
    (omega (arith, c.loop-i-test.true, c.factors-i-end.ensures, lawful.factors))
    (omega (arith, c.loop-i-test.true, c.factors-i-end.ensures, c.requires.within.many))
    (rw c.in_default.is at c.in_ok-slice.ensures.none)
