use Rattle.std.proofs.Common.{map}
use Rattle.std.proofs.lemmas.Bool.{iff_false}
use Rattle.ps_model.specs.Plain.{entry_of}
use Rattle.parts.specs.Rings.{eight_weights}
use Rattle.printer.specs.ReadBlock.{variable_names}
use Rattle.printer.proofs.ReadLineTerms.{zero_line, reading_none, reading_unordered, reading_stopped, reading_ended}
use Rattle.printer.proofs.ReadLineTerms.{reading_on}
use Rattle.printer.proofs.read_terms.read_terms.Goals as goal

pub returns-in-Some-clause-some : goal.returns-in-Some-clause-some
returns-in-Some-clause-some g c = zero_line c.args.ring
    (variable_names c.args.ring (g.N.NameView.names c.args.names.now)) c.args.d c.args.y c.args.text.now
    c.in-Some.rest.now (map entry_of c.args.terms.now.items) c.in-Some.ensures

pub returns-in_default-lawful_term-clause-none : goal.returns-in_default-lawful_term-clause-none
returns-in_default-lawful_term-clause-none g c = reading_none c.args.ring
    (variable_names c.args.ring (g.N.NameView.names c.args.names.now)) c.args.d c.args.y c.args.text.now
    (map entry_of c.args.terms.now.items) (map entry_of c.loop-term.terms.items) c.loop-term.last
    c.loop-term.rest.now c.loop-term.invariant
    (λ u r is. c.in_default-lawful_term.ensures.only u r is)

pub returns-then-not-is_after-clause-none : goal.returns-then-not-is_after-clause-none
returns-then-not-is_after-clause-none g c = reading_unordered c.args.ring
    (variable_names c.args.ring (g.N.NameView.names c.args.names.now)) c.args.d c.args.y c.args.text.now
    (map entry_of c.args.terms.now.items) (map entry_of c.loop-term.terms.items) c.loop-term.last
    c.loop-term.rest.now c.loop-term.invariant
    c.in-Some-lawful_term.term c.in-Some-lawful_term.behind.now c.in-Some-lawful_term.ensures.term
    c.in-Some-lawful_term.ensures.text c.in-Some-lawful_term.ensures.only
    (iff_false (c.is_after.ensures (eight_weights c.args.ring)
    c.loop-term.invariant.graded c.in-Some-lawful_term.ensures.degree)
    c.if-not-is_after.true)

pub returns-in-Some-strip-clause-some : goal.returns-in-Some-strip-clause-some
returns-in-Some-strip-clause-some g c = reading_ended c.args.ring
    (variable_names c.args.ring (g.N.NameView.names c.args.names.now)) c.args.d c.args.y c.args.text.now
    (map entry_of c.args.terms.now.items) (map entry_of c.loop-term.terms.items) c.loop-term.last
    c.loop-term.rest.now c.loop-term.invariant
    c.in-Some-lawful_term.term c.in-Some-lawful_term.behind.now c.in-Some-lawful_term.ensures.term
    c.in-Some-lawful_term.ensures.text c.in-Some-lawful_term.ensures.only
    ((c.is_after.ensures (eight_weights c.args.ring)
    c.loop-term.invariant.graded c.in-Some-lawful_term.ensures.degree).0
    c.if-not-is_after.false)
    c.loop-term.terms.items c.push.new.self.items c.in_ok-push.ensures.items c.loop-term.invariant.now_is
    c.in-Some-strip.end.now c.in-Some-strip.ensures

pub returns-in_default-strip-2-clause-none : goal.returns-in_default-strip-2-clause-none
returns-in_default-strip-2-clause-none g c = reading_stopped c.args.ring
    (variable_names c.args.ring (g.N.NameView.names c.args.names.now)) c.args.d c.args.y c.args.text.now
    (map entry_of c.args.terms.now.items) (map entry_of c.loop-term.terms.items) c.loop-term.last
    c.loop-term.rest.now c.loop-term.invariant
    c.in-Some-lawful_term.term c.in-Some-lawful_term.behind.now c.in-Some-lawful_term.ensures.term
    c.in-Some-lawful_term.ensures.text c.in-Some-lawful_term.ensures.only
    c.in_default-strip.ensures c.in_default-strip-2.ensures

pub loop-term-preserved : goal.loop-term-preserved
loop-term-preserved g c = reading_on c.args.ring
    (variable_names c.args.ring (g.N.NameView.names c.args.names.now)) c.args.d c.args.y c.args.text.now
    (map entry_of c.args.terms.now.items) (map entry_of c.loop-term.terms.items) c.loop-term.last
    c.loop-term.rest.now c.loop-term.invariant
    c.in-Some-lawful_term.term c.in-Some-lawful_term.behind.now c.in-Some-lawful_term.ensures.term
    c.in-Some-lawful_term.ensures.text c.in-Some-lawful_term.ensures.only
    ((c.is_after.ensures (eight_weights c.args.ring)
    c.loop-term.invariant.graded c.in-Some-lawful_term.ensures.degree).0
    c.if-not-is_after.false)
    c.loop-term.terms.items c.push.new.self.items c.in_ok-push.ensures.items c.loop-term.invariant.now_is
    c.in-Some-lawful_term.degree c.in-Some-lawful_term.ensures.degree c.in-Some-strip-2.next.now
    c.in-Some-strip-2.ensures
