use Rattle.std.proofs.Common.{ℕ, ◌+◌, true, List, take, drop, map, ap}
use Rattle.parts.specs.Terms.{entry_of}
use Rattle.printer.specs.Lines.{texts_of, listed}
use Rattle.printer.proofs.Pieces.{regroup, step, fault}
use Rattle.printer.proofs.TermTexts.{text_left}
use Rattle.printer.proofs.terms.write_terms.Goals as goal

pub returns-in_err-write_term : goal.returns-in_err-write_term
returns-in_err-write_term g c =
    let names : List (List ℕ) = take c.args.variables.now.count (g.N.NameView.names c.args.variables.now.names.now) in
    let texts = texts_of names (map entry_of c.args.terms.now) in
    let i = c.loop-term.term-index in
    fault (listed true (drop (i + 1) texts)) _ c.in_err-write_term.ensures
    (regroup c.loop-term.invariant (ap (listed c.loop-term.behind)
    (text_left names c.args.terms.now i c.term-item.result c.loop-term-test.true c.term-item.is)))
    c.from_residual.ensures.0

pub loop-term-preserved : goal.loop-term-preserved
loop-term-preserved g c =
    let names : List (List ℕ) = take c.args.variables.now.count (g.N.NameView.names c.args.variables.now.names.now) in
    let texts = texts_of names (map entry_of c.args.terms.now) in
    let i = c.loop-term.term-index in
    step (listed true (drop (i + 1) texts)) c.in_ok-write_term.ensures
    (regroup c.loop-term.invariant (ap (listed c.loop-term.behind)
    (text_left names c.args.terms.now i c.term-item.result c.loop-term-test.true c.term-item.is)))
