use Rattle.std.proofs.Common.{◌-◌, List, [], length, inl, inr, sym, ◌∙◌, ap, subst, arith}
use Rattle.std.proofs.lemmas.List.{get_or-map}
use Rattle.std.proofs.lemmas.Result.{on_ok_weaker}
use Rattle.parts.specs.PartValue.{PartValue, IsPartOf}
use Rattle.parts.specs.RowsOfParts.{part_in}
use Rattle.parts.specs.SeriesParts.{SeriesValue, parts_at}
use Rattle.parts.specs.declared.rings.Ring.{Ring}
use Rattle.parts.proofs.CrossedParts.{subtracts-nothing, subtracts-product}
use Rattle.parts.proofs.SeriesRead.{parts_past}
use Rattle.parts.proofs.crossed.subtract_parts.Goals as goal

pub returns-then-other-crossed : goal.returns-then-other-crossed
returns-then-other-crossed c = subtracts-nothing c.args.sum.now c.args.degree c.args.s
    (parts_at c.args.crossed.now.left.now c.args.h)
    (parts_at c.args.crossed.now.right.now (c.args.crossed.now.power - c.args.h))
    (inr (omega (
      arith,
      ap (length {A = PartValue}) (parts_past c.args.crossed.now.right.now
          (c.args.crossed.now.power - c.args.h) c.if-other-crossed.true),
    )))

pub returns-then-s-len : goal.returns-then-s-len
returns-then-s-len c = subtracts-nothing c.args.sum.now c.args.degree c.args.s
    (parts_at c.args.crossed.now.left.now c.args.h)
    (parts_at c.args.crossed.now.right.now (c.args.crossed.now.power - c.args.h))
    (inl (omega (
      arith,
      ap (length {A = PartValue})
          (get_or-map (λ (t : SeriesValue). t.parts) c.args.crossed.now.left.now c.args.h c.index-crossed-h.result []
          c.requires.place.0),
    )))

pub returns-then-degree-s : goal.returns-then-degree-s
returns-then-degree-s c = subtracts-nothing c.args.sum.now c.args.degree c.args.s
    (parts_at c.args.crossed.now.left.now c.args.h)
    (parts_at c.args.crossed.now.right.now (c.args.crossed.now.power - c.args.h))
    (inr (omega (
      arith,
      ap (length {A = PartValue})
          (get_or-map (λ (t : SeriesValue). t.parts) c.args.crossed.now.right.now (c.args.crossed.now.power - c.args.h)
          c.index-crossed-other.result [] c.if-other-crossed.false),
    )))

pub add_product-requires-clause-parts : goal.add_product-requires-clause-parts
add_product-requires-clause-parts c = (
  subst (λ (R : Ring). IsPartOf R c.part.result.now) (c.requires.left c.args.h c.index-crossed-h.result
      c.requires.place.0) c.part.ensures.of_ring,
  subst (λ (R : Ring). IsPartOf R c.part-2.result.now) (c.requires.right (c.args.crossed.now.power - c.args.h)
      c.index-crossed-other.result c.if-other-crossed.false)
      c.part-2.ensures.of_ring,
)

pub returns : goal.returns
returns c = on_ok_weaker c.add_product.result (subtracts-product c.args.sum.now c.add_product.new.self c.args.degree
    c.args.s
    (parts_at c.args.crossed.now.left.now c.args.h)
    (parts_at c.args.crossed.now.right.now (c.args.crossed.now.power - c.args.h))
    c.part.result.now c.part-2.result.now
    (c.part.ensures.part ∙ ap (λ (ps : List PartValue). part_in ps c.args.s) (sym
    (get_or-map (λ (t : SeriesValue). t.parts) c.args.crossed.now.left.now c.args.h c.index-crossed-h.result []
    c.requires.place.0)))
    (c.part-2.ensures.part ∙ ap (λ (ps : List PartValue). part_in ps (c.args.degree - c.args.s)) (sym
    (get_or-map (λ (t : SeriesValue). t.parts) c.args.crossed.now.right.now (c.args.crossed.now.power - c.args.h)
    c.index-crossed-other.result [] c.if-other-crossed.false)))) c.add_product.ensures.ok
