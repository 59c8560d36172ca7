use Rattle.std.proofs.Common.{◌≡◌, ◌+◌, ◌-◌, suc, sym, ◌∙◌, ap, subst, arith}
use Rattle.parts.specs.PartValue.{IsPartOf}
use Rattle.parts.specs.RowsOfParts.{part_in}
use Rattle.parts.specs.declared.rings.Ring.{Ring}
use Rattle.units.specs.SeriesParts.{IsPartAt}
use Rattle.series_graph.proofs.SumsSoFar.{HasProducts, products-first, products-more, products-zeros, products-all}
use Rattle.series_graph.proofs.formulas.add_products.Goals as goal
use Rattle.series_graph.proofs.formulas.add_products.Goals.{After-deref-in-loop-end}

pub loop-end-init : goal.loop-end-init
loop-end-init c = record {
  within = omega arith;
  products = subst (λ n. HasProducts c.args.f.now c.args.g.now c.args.r n c.args.sum.now c.args.sum.now)
      (let none : 0 ≡ c.args.r + 1 - (c.args.r + 1) = omega arith in none)
      (products-first c.args.f.now c.args.g.now c.args.r c.args.sum.now);
}

left : (c : After-deref-in-loop-end)
    → (c.deref.result.now ≡ part_in c.args.f.now (c.args.r - (c.loop-end.end - 1)))
    × IsPartAt c.args.sum.now.ring (c.args.r - (c.loop-end.end - 1)) c.deref.result.now
left c =
    let same = c.deref.ensures ∙ c.part.ensures in (
      same,
      subst (IsPartAt c.args.sum.now.ring (c.args.r - (c.loop-end.end - 1))) (sym same)
          (c.requires.f_parts (c.args.r - (c.loop-end.end - 1)) (let enough = c.requires.enough in omega arith)),
    )

right : (c : After-deref-in-loop-end)
    → (c.deref-in-loop-end.result.now ≡ part_in c.args.g.now (c.loop-end.end - 1))
    × IsPartAt c.args.sum.now.ring (c.loop-end.end - 1) c.deref-in-loop-end.result.now
right c =
    let same = c.deref-in-loop-end.ensures ∙ c.part-in-loop-end.ensures in (
      same,
      subst (IsPartAt c.args.sum.now.ring (c.loop-end.end - 1)) (sym same)
          (c.requires.g_parts (c.loop-end.end - 1)
          (let enough = c.requires.enough in let within = c.loop-end.invariant.within in omega arith)),
    )

pub add_product-requires-clause-degrees : goal.add_product-requires-clause-degrees
add_product-requires-clause-degrees c =
    let at = (goal.at.add_product-requires-clause-degrees c).After-deref-in-loop-end in
    let one = (left at).1.0 in
    let other = (right at).1.0 in
    let within = c.loop-end.invariant.within in
    let whole = c.loop-end.invariant.products.degree_is in
    let degree = c.requires.degree in
    omega arith

pub add_product-requires-clause-parts : goal.add_product-requires-clause-parts
add_product-requires-clause-parts c =
    let at = (goal.at.add_product-requires-clause-parts c).After-deref-in-loop-end in
    subst (λ (R : Ring). IsPartOf R c.deref.result.now × IsPartOf R c.deref-in-loop-end.result.now)
    (sym c.loop-end.invariant.products.ring_is) ((left at).1.1, (right at).1.1)

pub loop-end-preserved : goal.loop-end-preserved
loop-end-preserved c =
    let at = (goal.at.loop-end-preserved c).After-deref-in-loop-end in
    let within = c.loop-end.invariant.within in
    let lower = c.below-end.ensures.within in
    let here : c.args.r + 1 - c.loop-end.end ≡ c.args.r - (c.loop-end.end - 1) = omega arith in
    let back : c.loop-end.end - 1 ≡ c.args.r - (c.args.r + 1 - c.loop-end.end) = omega arith in
    record {
      within = omega arith;
      products = products-zeros c.args.f.now c.args.g.now c.args.r c.args.sum.now (c.args.r + 1 - c.loop-end.end + 1)
          (c.args.r + 1 - c.below-end.result) c.add_product.new.sum
          (products-more c.args.f.now c.args.g.now c.args.r c.args.sum.now (c.args.r + 1 - c.loop-end.end)
          c.loop-end.sum c.add_product.new.sum c.deref.result.now c.deref-in-loop-end.result.now
          c.loop-end.invariant.products ((left at).0 ∙ ap (part_in c.args.f.now) (sym here))
          ((right at).0 ∙ ap (part_in c.args.g.now) back) c.in_ok-add_product.ensures)
          (omega arith)
          (λ i low lt. c.below-end.ensures.zeros (c.args.r - i) (omega arith) (omega arith));
    }

pub returns : goal.returns
returns c = products-all c.args.f.now c.args.g.now c.args.r c.args.sum.now (c.args.r + 1 - c.loop-end.end)
    c.loop-end.sum (omega arith) c.loop-end.invariant.products
