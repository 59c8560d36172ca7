use Rattle.std.proofs.Common.{vec_len}
use Rattle.pipe.proofs.make.close_rows.Given as goal

abbrev pub decreases-loop-row : goal.decreases-loop-row
decreases-loop-row g l = vec_len l.rows
