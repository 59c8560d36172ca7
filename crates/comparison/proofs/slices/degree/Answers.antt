use Rattle.std.proofs.Common.{◌<◌, slice_index_or, arith}
use Rattle.parts.specs.Rings.{eight_weights}
use Rattle.ps_model.proofs.PlainSums.{degree_begun, degree_more}
use Rattle.printer.proofs.ReadDegrees.{product_small}
use Rattle.comparison.proofs.Weights.{weight_is}
use Rattle.comparison.proofs.slices.degree.Goals as goal

pub loop-i-init : goal.loop-i-init
loop-i-init c = record {
  so_far = degree_begun (eight_weights c.args.ring) c.args.term.now;
  small = omega arith;
}

pub overflow_mul-degree : goal.overflow_mul-degree
overflow_mul-degree c =
    let fits : slice_index_or c.args.term.now.powers c.loop-i.i 0 < 65536 = omega arith in
    omega (
      arith,
      product_small c.weight.result c.from.result c.weight.ensures.few (omega (arith, fits, c.from.ensures)),
    )

pub overflow_add-degree : goal.overflow_add-degree
overflow_add-degree c =
    let fits : slice_index_or c.args.term.now.powers c.loop-i.i 0 < 65536 = omega arith in
    omega (
      arith,
      product_small c.weight.result c.from.result c.weight.ensures.few (omega (arith, fits, c.from.ensures)),
      c.loop-i.invariant.small,
      c.loop-i-test.true,
    )

pub loop-i-preserved : goal.loop-i-preserved
loop-i-preserved c =
    let fits : slice_index_or c.args.term.now.powers c.loop-i.i 0 < 65536 = omega arith in
    record {
      so_far = degree_more (eight_weights c.args.ring) c.args.term.now.powers c.loop-i.i c.loop-i.degree _
          c.weight.result c.from.result c.loop-i-test.true
          (weight_is c.args.ring c.loop-i.i c.weight.result c.loop-i-test.true c.weight.ensures.weight)
          c.from.ensures c.loop-i.invariant.so_far;
      small = omega (
        arith,
        product_small c.weight.result c.from.result c.weight.ensures.few (omega (arith, fits, c.from.ensures)),
        c.loop-i.invariant.small,
      );
    }
