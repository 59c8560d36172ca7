use Rattle.series_graph.proofs.Singles.{number_first, number_later}
use Rattle.series_graph.proofs.formulas.number_part.Goals as goal

pub returns-then-r-eq0 : goal.returns-then-r-eq0
returns-then-r-eq0 c = number_first c.args.ring c.args.c c.args.r c.in_ok-constant.field-0 c.if-r-eq0.true
    c.in_ok-constant.ensures.degree c.in_ok-constant.ensures.map c.in_ok-constant.ensures.part

pub returns : goal.returns
returns c = number_later c.args.ring c.args.c c.args.r c.zero.result c.if-r-eq0.false c.zero.ensures.degree
    c.zero.ensures.map
