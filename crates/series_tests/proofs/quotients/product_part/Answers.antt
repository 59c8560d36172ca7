use Rattle.std.proofs.Common.{◌≡◌, ◌-◌, sym, subst, arith}
use Rattle.parts.specs.PartValue.{IsPartOf}
use Rattle.parts.specs.RowsOfParts.{parts_of, part_in}
use Rattle.parts.specs.declared.rings.Ring.{Ring}
use Rattle.units.specs.SeriesParts.{IsPartAt}
use Rattle.units.proofs.PartsRead.{read_is}
use Rattle.series_tests.proofs.quotients.product_part.Goals as goal
use Rattle.series_tests.proofs.quotients.product_part.Goals.{After-deref-in-loop-s}

left : (c : After-deref-in-loop-s) → IsPartAt c.args.ring c.loop-s.s c.deref.result.now
left c = (read_is c.args.ring c.args.a.now c.loop-s.s c.index-a-s.result c.deref.result.now c.requires.a_parts
    (let enough = c.requires.a_enough in omega arith) c.index-a-s.is c.deref.ensures).1

right : (c : After-deref-in-loop-s) → IsPartAt c.args.ring (c.args.r - c.loop-s.s) c.deref-in-loop-s.result.now
right c = (read_is c.args.ring c.args.b.now (c.args.r - c.loop-s.s) c.index-b-r.result c.deref-in-loop-s.result.now
    c.requires.b_parts (let enough = c.requires.b_enough in omega arith) c.index-b-r.is c.deref-in-loop-s.ensures).1

pub add_product-requires-clause-degrees : goal.add_product-requires-clause-degrees
add_product-requires-clause-degrees c =
    let at = (goal.at.add_product-requires-clause-degrees c).After-deref-in-loop-s in
    let one = (left at).0 in
    let other = (right at).0 in
    let whole = c.loop-s.invariant.degree in
    omega arith

pub add_product-requires-clause-parts : goal.add_product-requires-clause-parts
add_product-requires-clause-parts c =
    let at = (goal.at.add_product-requires-clause-parts c).After-deref-in-loop-s in
    subst (λ (R : Ring). IsPartOf R c.deref.result.now × IsPartOf R c.deref-in-loop-s.result.now)
    (sym c.loop-s.invariant.ring) ((left at).1, (right at).1)
