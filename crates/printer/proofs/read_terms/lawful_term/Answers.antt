use Rattle.std.proofs.Common.{◌∙◌, arith}
use Rattle.printer.proofs.ReadLawful.{none_here, past_variables, text_here, term_here, only_here, high_here}
use Rattle.printer.proofs.read_terms.lawful_term.Goals as goal

pub returns-in_err-term-clause-only : goal.returns-in_err-term-clause-only
returns-in_err-term-clause-only g c = λ t rest is. absurd (none_here c.args.ring
    (g.N.NameView.names c.args.names.now) c.args.d c.args.y c.value-most.result c.from.result
    c.n.result c.args.bytes.now (g.N.NameView.are_names c.args.names.now) c.requires.named c.args.ring.few
    c.requires.low (c.value-most.ensures.number ∙ c.modulus.ensures) c.value-most.ensures.low
    c.value-most.ensures.high c.from.ensures c.n.ensures.variables
    c.in_err-term.ensures.read t rest is)

pub degree-degree-requires-clause-past : goal.degree-degree-requires-clause-past
degree-degree-requires-clause-past g c = past_variables c.args.ring
    (g.N.NameView.names c.args.names.now) c.args.d c.args.y c.value-most.result c.from.result
    c.n.result c.args.bytes.now (g.N.NameView.are_names c.args.names.now) c.requires.named c.args.ring.few
    c.requires.low (c.value-most.ensures.number ∙ c.modulus.ensures) c.value-most.ensures.low
    c.value-most.ensures.high c.from.ensures c.n.ensures.variables c.in_ok-term.term c.in_ok-term.rest.now
    c.in_ok-term.ensures.all c.in_ok-term.ensures.past c.in_ok-term.ensures.y c.in_ok-term.ensures.read

pub returns-then-degree-d-clause-only : goal.returns-then-degree-d-clause-only
returns-then-degree-d-clause-only g c = λ u rest is. absurd (high_here c.args.ring
    (g.N.NameView.names c.args.names.now) c.args.d c.args.y c.value-most.result c.from.result
    c.n.result c.args.bytes.now (g.N.NameView.are_names c.args.names.now) c.requires.named c.args.ring.few
    c.requires.low (c.value-most.ensures.number ∙ c.modulus.ensures) c.value-most.ensures.low
    c.value-most.ensures.high c.from.ensures c.n.ensures.variables c.in_ok-term.term c.in_ok-term.rest.now
    c.in_ok-term.ensures.all c.in_ok-term.ensures.past c.in_ok-term.ensures.y c.in_ok-term.ensures.read
    (omega (arith, c.degree-degree.ensures, c.if-degree-d.true)) u rest is)

pub returns-clause-text : goal.returns-clause-text
returns-clause-text g c = text_here c.args.ring
    (g.N.NameView.names c.args.names.now) c.args.d c.args.y c.value-most.result c.from.result
    c.n.result c.args.bytes.now (g.N.NameView.are_names c.args.names.now) c.requires.named c.args.ring.few
    c.requires.low (c.value-most.ensures.number ∙ c.modulus.ensures) c.value-most.ensures.low
    c.value-most.ensures.high c.from.ensures c.n.ensures.variables c.in_ok-term.term c.in_ok-term.rest.now
    c.in_ok-term.ensures.all c.in_ok-term.ensures.past c.in_ok-term.ensures.y c.in_ok-term.ensures.read

pub returns-clause-term : goal.returns-clause-term
returns-clause-term g c = term_here c.args.ring
    (g.N.NameView.names c.args.names.now) c.args.d c.args.y c.value-most.result c.from.result
    c.n.result c.args.bytes.now (g.N.NameView.are_names c.args.names.now) c.requires.named c.args.ring.few
    c.requires.low (c.value-most.ensures.number ∙ c.modulus.ensures) c.value-most.ensures.low
    c.value-most.ensures.high c.from.ensures c.n.ensures.variables c.in_ok-term.term c.in_ok-term.rest.now
    c.in_ok-term.ensures.all c.in_ok-term.ensures.past c.in_ok-term.ensures.y c.in_ok-term.ensures.read
    (omega (arith, c.degree-degree.ensures, c.if-degree-d.false))

pub returns-clause-only : goal.returns-clause-only
returns-clause-only g c = λ u rest is. only_here c.args.ring
    (g.N.NameView.names c.args.names.now) c.args.d c.args.y c.value-most.result c.from.result
    c.n.result c.args.bytes.now (g.N.NameView.are_names c.args.names.now) c.requires.named c.args.ring.few
    c.requires.low (c.value-most.ensures.number ∙ c.modulus.ensures) c.value-most.ensures.low
    c.value-most.ensures.high c.from.ensures c.n.ensures.variables c.in_ok-term.term c.in_ok-term.rest.now
    c.in_ok-term.ensures.all c.in_ok-term.ensures.past c.in_ok-term.ensures.y c.in_ok-term.ensures.read u rest is
