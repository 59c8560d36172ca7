use Rattle.std.proofs.Common.{◌+◌, ◌-◌, ◌*◌}
use Rattle.stages.proofs.workers.+halves.Given as goal

-- fewer workers at each split
abbrev pub decreases-advance_parts : goal.decreases-advance_parts
decreases-advance_parts g l = 4 * l.workers

abbrev pub decreases-advance_halves : goal.decreases-advance_halves
decreases-advance_halves g l = 4 * l.workers - 1

abbrev pub decreases-advance_halves-first : goal.decreases-advance_halves-first
decreases-advance_halves-first g l = 4 * l.low + 1

abbrev pub decreases-advance_halves-second : goal.decreases-advance_halves-second
decreases-advance_halves-second g l = 4 * l.high + 1
