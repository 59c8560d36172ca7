use Rattle.std.proofs.Common.{arith}
use Rattle.std.specs.Arc.{arc_value}
use Rattle.stages.proofs.LineTitles.{few_stages, line_length, stages_of}
use Rattle.stages.proofs.line.Line.stages.Goals as goal

pub overflow_cast-result : goal.overflow_cast-result
overflow_cast-result g c =
    let few = few_stages _ (arc_value c.args.self.now.job) c.args.self.now.stages.items c.args.self.now.accepted
    c.args.self.now.of_job in
    omega (arith, c.len.ensures)

pub returns-clause-job : goal.returns-clause-job
returns-clause-job g c line =
    let count = line_length _ _ c.args.self.now.stages.items line in
    omega (arith, c.len.ensures)

pub returns-clause-whole : goal.returns-clause-whole
returns-clause-whole g c some = stages_of _ _ c.args.self.now.stages.items c.args.self.now.accepted
    (c.args.self.now.of_job (omega (arith, c.len.ensures, some)))
