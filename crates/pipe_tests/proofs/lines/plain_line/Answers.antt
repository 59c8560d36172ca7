use Rattle.std.proofs.Common.{arith}
use Rattle.std.specs.Arc.{arc_value}
use Rattle.stages.proofs.LineTitles.{few_roots}
use Rattle.pipe_tests.proofs.lines.plain_line.Goals as goal

pub empty_rows-requires : goal.empty_rows-requires
empty_rows-requires c = record { room = omega arith; few = few_roots (arc_value c.args.job.now) c.requires.accepted }
