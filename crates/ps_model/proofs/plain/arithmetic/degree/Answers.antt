-- proofs/plain/arithmetic/degree/Answers.antt
use Rattle.std.proofs.Common.{◌≡◌, ◌<◌, ◌∙◌, slice_index_or, arith}
use Rattle.std.specs.Prelude.{max}
use Rattle.ps_model.proofs.PlainSums.{degree_begun, degree_more, degree_grows}
use Rattle.ps_model.proofs.plain.arithmetic.degree.Goals as goal

pub loop-i-init : goal.loop-i-init
loop-i-init c = record { so_far = degree_begun c.args.weights.now c.args.term.now; small = omega arith }

pub loop-i-preserved : goal.loop-i-preserved
loop-i-preserved c = let fits : slice_index_or c.args.term.now.powers c.loop-i.i 0 < 65536 = omega arith in
    let weight : c.max.result ≡ max 1 (slice_index_or c.args.weights.now c.loop-i.i 0) = omega (arith, c.max.ensures) in
    record {
      so_far = degree_more c.args.weights.now c.args.term.now.powers c.loop-i.i c.loop-i.degree _ c.from.result
          c.from-in-loop-i.result c.loop-i-test.true (c.from.ensures ∙ weight) c.from-in-loop-i.ensures
          c.loop-i.invariant.so_far;
      small = degree_grows c.loop-i.i c.loop-i.degree c.from.result c.from-in-loop-i.result
          (omega (arith, c.max.type_inv, c.from.ensures)) (omega (arith, fits, c.from-in-loop-i.ensures))
          c.loop-i.invariant.small;
    }
