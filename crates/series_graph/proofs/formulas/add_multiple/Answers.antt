use Rattle.units.proofs.Added.{changes-nothing, no_multiple, changes-multiple}
use Rattle.series_graph.proofs.formulas.add_multiple.Goals as goal

pub returns-then-is_zero : goal.returns-then-is_zero
returns-then-is_zero c = changes-nothing c.args.sum.now.ring c.args.sum.now _
    (no_multiple c.args.sum.now.ring c.args.c c.args.f.now (c.is_zero.ensures.0 c.if-is_zero.true))

pub returns : goal.returns
returns c = changes-multiple c.args.sum.now c.add_scaled.new.self c.args.c c.args.f.now
    c.in_ok-add_scaled.ensures.ok
