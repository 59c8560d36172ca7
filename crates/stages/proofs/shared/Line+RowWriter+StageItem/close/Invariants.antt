use Rattle.std.proofs.Common.{vec_len}
use Rattle.stages.proofs.shared.Line+RowWriter+StageItem.close.Given as goal

abbrev pub decreases-loop-stage : goal.decreases-loop-stage
decreases-loop-stage g l = vec_len l.stages
