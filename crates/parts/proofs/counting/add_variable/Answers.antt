use Rattle.std.proofs.Common.{arith, refl}
use Rattle.parts.proofs.Steps.{added_none, added_fits, added_more, added_all}
use Rattle.parts.proofs.counting.add_variable.Goals as goal

pub loop-d-init : goal.loop-d-init
loop-d-init c = added_none c.args.weight c.args.degree c.args.counts.now c.requires.small

pub overflow_add-counts : goal.overflow_add-counts
overflow_add-counts c = omega (
  arith,
  added_fits c.args.weight c.args.degree c.args.counts.now c.loop-d.counts c.loop-d.d 0 c.requires.positive
      (omega arith) (omega arith) (omega arith) c.requires.small c.loop-d.invariant c.requires.low,
)

pub loop-d-preserved : goal.loop-d-preserved
loop-d-preserved c = added_more c.args.weight c.args.degree c.args.counts.now c.loop-d.counts c.loop-d.d _
    c.requires.positive (omega arith) (omega arith) (omega arith) c.requires.small c.loop-d.invariant refl

pub returns : goal.returns
returns c = added_all c.args.weight c.args.degree c.args.counts.now c.loop-d.counts c.loop-d.d (omega arith)
    c.loop-d.invariant
