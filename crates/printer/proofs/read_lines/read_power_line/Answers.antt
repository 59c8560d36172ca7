use Rattle.printer.specs.ReadBlock.{variable_names, mark_text}
use Rattle.printer.proofs.ReadMarks.{no_mark, marked_some, marked_none}
use Rattle.printer.proofs.read_lines.read_power_line.Goals as goal

pub returns-in-Some-clause-some : goal.returns-in-Some-clause-some
returns-in-Some-clause-some g c = marked_some c.args.ring
    (variable_names c.args.ring (g.N.NameView.names c.args.names.now)) c.args.d c.args.y (mark_text c.args.y)
    c.args.text.now (λ x. x.now) c.read_terms.result c.in-Some.behind.now _ _ c.in-Some.ensures
    c.read_terms.ensures.some

pub returns-in-Some-clause-none : goal.returns-in-Some-clause-none
returns-in-Some-clause-none g c = marked_none c.args.ring
    (variable_names c.args.ring (g.N.NameView.names c.args.names.now)) c.args.d c.args.y (mark_text c.args.y)
    c.args.text.now c.read_terms.result c.in-Some.behind.now c.in-Some.ensures c.read_terms.ensures.none

pub returns-in-None-clause-none : goal.returns-in-None-clause-none
returns-in-None-clause-none g c = λ rest is. no_mark c.args.ring
    (variable_names c.args.ring (g.N.NameView.names c.args.names.now)) c.args.d c.args.y (mark_text c.args.y)
    c.args.text.now c.in-None.ensures rest is
