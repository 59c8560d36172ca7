use Rattle.std.proofs.Common.{◌≡◌, ◌+◌, drop}
use Rattle.ps_model.specs.Factors.{total_times}
use Rattle.pipe.proofs.blocks_of.all_times.Given as goal

abbrev pub invariant-loop-root : goal.invariant-loop-root
invariant-loop-root l = l.times + total_times (drop l.root-index l.roots) ≡ total_times l.roots
