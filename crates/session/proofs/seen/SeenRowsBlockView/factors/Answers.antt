use Rattle.std.proofs.Common.{arith}
use Rattle.std.specs.Arc.{arc_value}
use Rattle.rows.specs.Fits.{values}
use Rattle.stages.proofs.LineTitles.{few_roots}
use Rattle.session.proofs.RowsSeen.{row_count}
use Rattle.session.proofs.seen.SeenRowsBlockView.factors.Goals as goal

pub overflow_cast-result : goal.overflow_cast-result
overflow_cast-result c =
    let few = few_roots (arc_value c.args.self.now.job) c.args.self.now.holds.of_job.accepted in
    let count = c.args.self.now.holds.of_job.count in
    let same = row_count c.args.self.now.rows.items (λ row. row.title) (λ row. row.capacity)
    (λ row. values row.items.items) c.args.self.now.ring in
    omega (arith, c.len.ensures)
