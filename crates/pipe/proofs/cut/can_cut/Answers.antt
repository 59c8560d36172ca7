use Rattle.std.proofs.Common.{◌≡◌, length, ap, arith, leb-true, le-leb}
use Rattle.pipe.proofs.Greedy.{last_block}
use Rattle.pipe.proofs.CutsWithin.{blocks, few_blocks, blocks_few}
use Rattle.pipe.proofs.cut.can_cut.Goals as goal

pub returns : goal.returns
returns c =
    let ws = c.args.weights.now in
    let limit = c.args.limit in
    let workers = c.args.workers in
    let last = ap length (last_block limit c.loop-weight.load c.loop-weight.weight-index ws (omega arith)) in
    let count : c.loop-weight.blocks ≡ length (blocks limit ws) = omega arith in (
      λ yes. let few = leb-true _ _ yes in
          (blocks limit ws, few_blocks workers limit ws c.requires.some c.requires.each (omega arith)),
      λ cut. le-leb _ _ (let few = blocks_few workers limit ws cut c.requires.some in omega arith),
    )
