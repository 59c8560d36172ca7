use Rattle.std.proofs.Common.{vec_len}
use Rattle.job_tests.proofs.shared_lines.shared_line.Given as goal

abbrev pub decreases-loop-row : goal.decreases-loop-row
decreases-loop-row g l = vec_len l.rows
