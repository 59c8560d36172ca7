use Rattle.std.proofs.Common.{arith}
use Rattle.comparison.proofs.SameLists.{lengths_differ, items_differ, lists_same}
use Rattle.comparison.proofs.slices.same_terms.Goals as goal

pub returns-then-list-terms : goal.returns-then-list-terms
returns-then-list-terms c = lengths_differ c.args.list.now c.terms-terms.result.now c.args.part.now
    c.terms-terms.ensures.entries c.terms-terms.ensures.order c.if-list-terms.true

pub returns-then-not-same_term : goal.returns-then-not-same_term
returns-then-not-same_term c = items_differ c.args.list.now c.terms-terms.result.now c.args.part.now
    c.terms-terms.ensures.entries c.terms-terms.ensures.order c.loop-i.i _ c.index-terms-i.result c.same_term.result
    c.loop-i-test.true c.if-not-same_term.true c.index-terms-i.is c.same_term.ensures.1

pub returns : goal.returns
returns c = lists_same c.args.list.now c.terms-terms.result.now c.args.part.now c.terms-terms.ensures.entries
    c.terms-terms.ensures.order c.loop-i.i (omega (arith, c.loop-i-test.false, c.loop-i.auto.i-end))
    (omega (arith, c.loop-i-test.false, c.loop-i.auto.i-end, c.if-list-terms.false)) c.loop-i.invariant
