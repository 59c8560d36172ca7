use Rattle.std.proofs.Common.{sym, ◌∙◌}
use Rattle.series_graph.proofs.Singles.{variable_there, variable_elsewhere}
use Rattle.series_graph.proofs.formulas.variable_part.Goals as goal

pub returns-then-r-weight : goal.returns-then-r-weight
returns-then-r-weight c = variable_there c.args.ring c.args.i c.args.r c.weight.result c.in_ok-variable.field-0
    c.if-r-weight.true (c.in_ok-variable.ensures.degree ∙ sym c.weight.ensures.weight)
    c.in_ok-variable.ensures.map c.in_ok-variable.ensures.part

pub returns : goal.returns
returns c = variable_elsewhere c.args.ring c.args.i c.args.r c.weight.result c.zero.result c.requires
    c.weight.ensures.weight c.if-r-weight.false c.zero.ensures.degree c.zero.ensures.map
