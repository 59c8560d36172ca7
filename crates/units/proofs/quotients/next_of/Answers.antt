use Rattle.std.proofs.Common.{◌≡◌, ◌+◌, ◌-◌, ◌<◌, length, sym, ◌∙◌, ap, subst, arith}
use Rattle.ps_model.specs.Notation.{scaled}
use Rattle.parts.specs.PartValue.{PartValue, IsPartOf}
use Rattle.parts.specs.RowsOfParts.{parts_of, part_in}
use Rattle.parts.specs.Series.{polynomial_in, constant_of}
use Rattle.parts.specs.declared.rings.Ring.{Ring}
use Rattle.units.specs.SeriesParts.{IsPartAt}
use Rattle.units.proofs.Linked.{Skips, skips-linked}
use Rattle.units.proofs.NextParts.{IsRest, rest-first, rest-more, rest-zeros, rest-part}
use Rattle.units.proofs.NextParts.{quotient-more_at}
use Rattle.units.proofs.PartsRead.{parts_count, read_is}
use Rattle.units.proofs.quotients.next_of.Goals as goal
use Rattle.units.proofs.quotients.next_of.Goals.{After-deref-in-loop-end, After-below-end}

pub loop-end-init : goal.loop-end-init
loop-end-init c = record {
  within = omega arith;
  rest = subst (λ n. IsRest c.args.ring c.args.numerator.now (parts_of c.args.own.now) (parts_of c.args.b.now)
      (length c.args.own.now) n c.add_part.new.sum)
      (let none : 0 ≡ length c.args.own.now - (length c.args.own.now + 1 - 1) = omega arith in none)
      (rest-first c.args.ring c.args.numerator.now (parts_of c.args.own.now) (parts_of c.args.b.now)
      (length c.args.own.now) c.new-sum.result c.add_part.new.sum c.new-sum.ensures c.in_ok-add_part.ensures);
}

left : (c : After-deref-in-loop-end)
    → (c.deref.result.now ≡ part_in (parts_of c.args.own.now) (length c.args.own.now - (c.loop-end.end - 1)))
    × IsPartAt c.args.ring (length c.args.own.now - (c.loop-end.end - 1)) c.deref.result.now
left c = read_is c.args.ring c.args.own.now (length c.args.own.now - (c.loop-end.end - 1)) c.index-own-r.result
    c.deref.result.now c.requires.own_parts (let within = c.loop-end.invariant.within in omega arith) c.index-own-r.is
    c.deref.ensures

right : (c : After-deref-in-loop-end)
    → (c.deref-in-loop-end.result.now ≡ part_in (parts_of c.args.b.now) (c.loop-end.end - 1))
    × IsPartAt c.args.ring (c.loop-end.end - 1) c.deref-in-loop-end.result.now
right c = read_is c.args.ring c.args.b.now (c.loop-end.end - 1) c.index-b-s.result c.deref-in-loop-end.result.now
    c.requires.b_parts (let within = c.loop-end.invariant.within in omega arith) c.index-b-s.is
    c.deref-in-loop-end.ensures

pub subtract_product-requires-clause-degrees : goal.subtract_product-requires-clause-degrees
subtract_product-requires-clause-degrees c =
    let at = (goal.at.subtract_product-requires-clause-degrees c).After-deref-in-loop-end in
    let one = (left at).1.0 in
    let other = (right at).1.0 in
    let within = c.loop-end.invariant.within in
    let whole = c.loop-end.invariant.rest.degree_is in
    omega arith

pub subtract_product-requires-clause-parts : goal.subtract_product-requires-clause-parts
subtract_product-requires-clause-parts c =
    let at = (goal.at.subtract_product-requires-clause-parts c).After-deref-in-loop-end in
    subst (λ (R : Ring). IsPartOf R c.deref.result.now × IsPartOf R c.deref-in-loop-end.result.now)
    (sym c.loop-end.invariant.rest.ring_is) ((left at).1.1, (right at).1.1)

skips : (c : After-below-end) → Skips (parts_of c.args.b.now) (c.loop-end.end - 1) c.below-end.result
skips c = subst (Skips (parts_of c.args.b.now) (c.loop-end.end - 1)) (sym c.below-end.ensures)
    (skips-linked (parts_of c.args.b.now) c.args.links.now (c.loop-end.end - 1) c.requires.links)

pub loop-end-smaller : goal.loop-end-smaller
loop-end-smaller c =
    let lower = (skips (goal.at.loop-end-smaller c).After-below-end).within in
    let more = c.loop-end-test.true in
    omega arith

pub loop-end-preserved : goal.loop-end-preserved
loop-end-preserved c =
    let at = (goal.at.loop-end-preserved c).After-deref-in-loop-end in
    let over = skips (goal.at.loop-end-preserved c).After-below-end in
    let within = c.loop-end.invariant.within in
    let lower = over.within in
    let back : c.loop-end.end - 1 ≡ length c.args.own.now - (length c.args.own.now - (c.loop-end.end - 1)) = omega arith
    in
    record {
      within = omega arith;
      rest = rest-zeros c.args.ring c.args.numerator.now (parts_of c.args.own.now) (parts_of c.args.b.now)
          (length c.args.own.now) (length c.args.own.now - (c.loop-end.end - 1) + 1)
          (length c.args.own.now - (c.below-end.result - 1)) c.subtract_product.new.sum
          (rest-more c.args.ring c.args.numerator.now (parts_of c.args.own.now) (parts_of c.args.b.now)
          (length c.args.own.now) (length c.args.own.now - (c.loop-end.end - 1)) c.loop-end.sum
          c.subtract_product.new.sum c.deref.result.now c.deref-in-loop-end.result.now c.loop-end.invariant.rest
          (left at).0 ((right at).0 ∙ ap (part_in (parts_of c.args.b.now)) back) c.in_ok-subtract_product.ensures)
          (omega arith) (λ i low lt. over.zeros (length c.args.own.now - i) (omega arith) (omega arith));
    }

pub returns-clause-next : goal.returns-clause-next
returns-clause-next c = λ a top_is before.
    let end : length c.args.own.now - (c.loop-end.end - 1) ≡ length c.args.own.now = omega arith in
    let count = parts_count c.args.b.now in
    let some : 0 < length (parts_of c.args.b.now) = omega (arith, count, c.requires.enough) in
    let first = read_is c.args.ring c.args.b.now 0 c.index-b-0.result c.deref-2.result.now c.requires.b_parts
    (omega (arith, c.requires.enough)) c.index-b-0.is c.deref-2.ensures in
    quotient-more_at c.args.ring (parts_of c.args.own.now) (parts_of c.args.b.now) (length c.args.own.now)
    c.in_ok-over_constant.field-0 a (polynomial_in c.args.ring c.args.numerator.now.map)
    (parts_count c.args.own.now) c.requires.own_parts c.requires.b_parts some
    (rest-part c.args.ring c.args.numerator.now (parts_of c.args.own.now) (parts_of c.args.b.now)
    (length c.args.own.now) c.loop-end.sum c.in_ok-finish.field-0 c.in_ok-over_constant.field-0
    (constant_of c.args.ring (part_in (parts_of c.args.b.now) 0))
    (subst (λ n. IsRest c.args.ring c.args.numerator.now (parts_of c.args.own.now) (parts_of c.args.b.now)
    (length c.args.own.now) n c.loop-end.sum) end c.loop-end.invariant.rest)
    c.in_ok-finish.ensures.degree c.in_ok-finish.ensures.map c.in_ok-over_constant.ensures.degree
    (subst (λ (p : PartValue). scaled (constant_of c.args.ring p)
    (polynomial_in c.args.ring c.in_ok-over_constant.field-0.map)
    ≡ polynomial_in c.args.ring c.in_ok-finish.field-0.map) first.0 c.in_ok-over_constant.ensures.back)
    c.in_ok-over_constant.ensures.part)
    top_is before
