use Rattle.std.proofs.Common.{◌-◌, ◌<◌, length, get_or, sym, subst, arith}
use Rattle.parts.specs.PartValue.{IsPartOf}
use Rattle.prepare_speed.proofs.rows.dense_part.Goals as goal

pub scaled-requires : goal.scaled-requires
scaled-requires c =
    let within : c.loop-i.i < length c.args.powers.now.x.now = omega (arith, c.requires.x_count) in
    (c.requires.x c.loop-i.i c.index-powers-i.result within).1

pub add_product-requires-clause-degrees : goal.add_product-requires-clause-degrees
add_product-requires-clause-degrees c =
    let x_within : c.loop-i.i < length c.args.powers.now.x.now = omega (arith, c.requires.x_count) in
    let y_within : c.args.degree - c.loop-i.i < length c.args.powers.now.y.now = omega (arith, c.requires.y_count) in
    let left = c.in_ok-left.ensures.degree in
    let x_degree = (c.requires.x c.loop-i.i c.index-powers-i.result x_within).0 in
    let y_degree = (c.requires.y (c.args.degree - c.loop-i.i) c.index-powers-degree.result y_within).0 in
    let whole = c.loop-i.invariant.degree in
    omega (arith, left, x_degree, y_degree, whole)

pub add_product-requires-clause-parts : goal.add_product-requires-clause-parts
add_product-requires-clause-parts c =
    let y_within : c.args.degree - c.loop-i.i < length c.args.powers.now.y.now = omega (arith, c.requires.y_count) in (
      subst (λ R. IsPartOf R c.in_ok-left.left) (sym c.loop-i.invariant.ring) c.in_ok-left.ensures.part,
      subst (λ R. IsPartOf R
          (get_or c.args.powers.now.y.now (c.args.degree - c.loop-i.i) c.index-powers-degree.result))
          (sym c.loop-i.invariant.ring)
          (c.requires.y (c.args.degree - c.loop-i.i) c.index-powers-degree.result y_within).1,
    )
