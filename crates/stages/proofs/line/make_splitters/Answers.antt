use Rattle.std.proofs.Common.{length, ap, ◌∙◌, arith}
use Rattle.std.specs.Arc.{arc_value}
use Rattle.stages.proofs.LineTitles.{few_roots}
use Rattle.stages.proofs.line.make_splitters.Goals as goal

pub overflow_cast-count : goal.overflow_cast-count
overflow_cast-count c =
    let few = few_roots (arc_value c.args.job.now) c.requires.accepted in
    let same = ap length (c.as_slice.ensures ∙ ap (λ job. job.roots) c.deref-2.ensures) in
    omega arith
