use Rattle.std.proofs.Common.{◌∙◌, ap, Err}
use Rattle.std.proofs.lemmas.Result.{err_from_is_err_and}
use Rattle.script.specs.Script.{Has}
use Rattle.commands.specs.declared.command.ScriptCommand.TheVariants.{Factor}
use Rattle.commands.proofs.FactoringSteps.{steps_more, steps_most, known, answers, next, steps}
use Rattle.commands.proofs.Replied.{answered, not_written, not_begun}
use Rattle.commands.proofs.factoring.Factoring.answer.Goals as goal

pub returns-in_err-raise-clause-answered : goal.returns-in_err-raise-clause-answered
returns-in_err-raise-clause-answered g c =
    let p = err_from_is_err_and c.from_residual.result c.from_residual.ensures.1 in
    not_begun Factor (Has c.args.self.names c.args.self.job) c.args.request _ _ c.from_residual.result
    (p.1 ∙ ap Err p.2)

pub returns-in_err-raise-clause-more : goal.returns-in_err-raise-clause-more
returns-in_err-raise-clause-more g c = steps_more c.args.self _ _ c.self.view_is c.self.invariant
    c.self.inside.session.holds c.args.request c.precision_of.result c.precision_of.ensures
    c.in_err-raise.ensures.kept _ _ c.in_err-raise.ensures.ticks

pub returns-in_err-raise-clause-at_most : goal.returns-in_err-raise-clause-at_most
returns-in_err-raise-clause-at_most g c = steps_most c.args.self _ _ c.self.view_is c.self.invariant
    c.self.inside.session.holds c.args.request c.precision_of.result c.precision_of.ensures
    c.in_err-raise.ensures.kept _ _ c.in_err-raise.ensures.ticks c.in_err-raise.ensures.within

pub write_answer-requires-clause-known : goal.write_answer-requires-clause-known
write_answer-requires-clause-known g c = known c.args.self _ _ c.self.view_is c.self.invariant
    c.self.inside.session.holds c.args.request c.precision_of.result c.precision_of.ensures
    c.in_ok-raise.ensures.kept c.raise.new.session.holds c.raise.new.session.fits c.in_ok-raise.ensures.ok

pub returns-in_err-write_answer-clause-answered : goal.returns-in_err-write_answer-clause-answered
returns-in_err-write_answer-clause-answered g c =
    let p = err_from_is_err_and c.from_residual-in_err-write_answer.result
    c.from_residual-in_err-write_answer.ensures.1 in
    not_written Factor (Has c.args.self.names c.args.self.job) c.args.request _
    c.from_residual-in_err-write_answer.result (p.1 ∙ ap Err p.2)
    (answers c.args.self _ _ c.self.view_is c.self.invariant c.self.inside.session.holds c.args.request
    c.precision_of.result c.precision_of.ensures c.in_ok-raise.ensures.kept c.raise.new.session.holds
    c.raise.new.session.fits c.in_ok-raise.ensures.ok) c.in_err-write_answer.ensures

pub returns-in_err-write_answer-clause-more : goal.returns-in_err-write_answer-clause-more
returns-in_err-write_answer-clause-more g c = steps_more c.args.self _ _ c.self.view_is c.self.invariant
    c.self.inside.session.holds c.args.request c.precision_of.result c.precision_of.ensures
    c.in_ok-raise.ensures.kept _ _ c.in_ok-raise.ensures.ticks

pub returns-in_err-write_answer-clause-at_most : goal.returns-in_err-write_answer-clause-at_most
returns-in_err-write_answer-clause-at_most g c = steps_most c.args.self _ _ c.self.view_is c.self.invariant
    c.self.inside.session.holds c.args.request c.precision_of.result c.precision_of.ensures
    c.in_ok-raise.ensures.kept _ _ c.in_ok-raise.ensures.ticks c.in_ok-raise.ensures.within

pub returns-clause-answered : goal.returns-clause-answered
returns-clause-answered g c =
    answered Factor (Has c.args.self.names c.args.self.job) c.args.request _ _
    (answers c.args.self _ _ c.self.view_is c.self.invariant c.self.inside.session.holds c.args.request
    c.precision_of.result c.precision_of.ensures c.in_ok-raise.ensures.kept c.raise.new.session.holds
    c.raise.new.session.fits c.in_ok-raise.ensures.ok) c.in_ok-write_answer.ensures

pub returns-clause-next : goal.returns-clause-next
returns-clause-next g c = next c.args.self _ _ c.self.view_is c.self.invariant
    c.self.inside.session.holds c.args.request c.precision_of.result c.precision_of.ensures
    c.in_ok-raise.ensures.kept c.raise.new.session.holds c.raise.new.session.fits c.in_ok-raise.ensures.ok

pub returns-clause-spent : goal.returns-clause-spent
returns-clause-spent g c = steps c.args.self _ _ c.self.view_is c.self.invariant
    c.self.inside.session.holds c.args.request c.precision_of.result c.precision_of.ensures
    c.in_ok-raise.ensures.kept c.raise.new.session.holds c.raise.new.session.fits c.in_ok-raise.ensures.ok _ _
    c.in_ok-raise.ensures.ticks

pub returns-clause-more : goal.returns-clause-more
returns-clause-more g c = steps_more c.args.self _ _ c.self.view_is c.self.invariant
    c.self.inside.session.holds c.args.request c.precision_of.result c.precision_of.ensures
    c.in_ok-raise.ensures.kept _ _ c.in_ok-raise.ensures.ticks

pub returns-clause-at_most : goal.returns-clause-at_most
returns-clause-at_most g c = steps_most c.args.self _ _ c.self.view_is c.self.invariant
    c.self.inside.session.holds c.args.request c.precision_of.result c.precision_of.ensures
    c.in_ok-raise.ensures.kept _ _ c.in_ok-raise.ensures.ticks c.in_ok-raise.ensures.within
