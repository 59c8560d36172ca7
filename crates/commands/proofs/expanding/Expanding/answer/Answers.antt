use Rattle.std.proofs.Common.{◌∙◌, ap, Err, refl}
use Rattle.std.proofs.lemmas.Result.{err_from_is_err_and}
use Rattle.script.specs.Script.{Has}
use Rattle.script.specs.declared.request.Request.TheVariants.{Show}
use Rattle.commands.specs.declared.command.ScriptCommand.TheVariants.{Expand}
use Rattle.commands.proofs.ExpandingSteps.{held, written_rows, written_low, written_answers}
use Rattle.commands.proofs.Replied.{answered, not_written, not_begun}
use Rattle.commands.proofs.expanding.Expanding.answer.Goals as goal

pub returns-in_err-extend_rows-clause-answered : goal.returns-in_err-extend_rows-clause-answered
returns-in_err-extend_rows-clause-answered g c =
    let p = err_from_is_err_and c.from_residual.result c.from_residual.ensures.1 in
    not_begun Expand (Has c.args.self.names c.args.self.job) (Show c.args.precision) _ _ c.from_residual.result
    (p.1 ∙ ap Err p.2)

pub write_input-requires-clause-rows : goal.write_input-requires-clause-rows
write_input-requires-clause-rows g c = written_rows c.self.inside.job _ c.extend_rows.new.rows.items
    c.deref.result.now c.extend_rows.new.input c.input.result.now c.self.invariant c.in_ok-extend_rows.ensures.input
    c.input.ensures.value c.in_ok-extend_rows.ensures.rows c.in_ok-extend_rows.ensures.few c.deref.ensures.value
    c.ring.result c.ring.ensures c.args.precision c.in_ok-extend_rows.ensures.ok

pub write_input-requires-clause-few : goal.write_input-requires-clause-few
write_input-requires-clause-few g c = written_low c.self.inside.job _ c.extend_rows.new.rows.items
    c.deref.result.now c.extend_rows.new.input c.input.result.now c.self.invariant c.in_ok-extend_rows.ensures.input
    c.input.ensures.value c.in_ok-extend_rows.ensures.rows c.in_ok-extend_rows.ensures.few c.deref.ensures.value
    c.ring.result c.ring.ensures c.args.precision c.in_ok-extend_rows.ensures.ok

pub returns-in_err-write_input-clause-answered : goal.returns-in_err-write_input-clause-answered
returns-in_err-write_input-clause-answered g c =
    let p = err_from_is_err_and c.from_residual-in_err-write_input.result
    c.from_residual-in_err-write_input.ensures.1 in
    not_written Expand (Has c.args.self.names c.args.self.job) (Show c.args.precision) _
    c.from_residual-in_err-write_input.result (p.1 ∙ ap Err p.2)
    (written_answers c.self.inside.job _ c.extend_rows.new.rows.items c.deref.result.now c.extend_rows.new.input
    c.input.result.now c.self.invariant c.in_ok-extend_rows.ensures.input c.input.ensures.value
    c.in_ok-extend_rows.ensures.rows c.in_ok-extend_rows.ensures.few c.deref.ensures.value c.ring.result
    c.ring.ensures c.args.precision c.in_ok-extend_rows.ensures.ok c.args.self c.names.result.now c.self.view_is
    c.names.ensures) c.in_err-write_input.ensures

pub invariant_of-result : goal.invariant_of-result
invariant_of-result g c = held c.self.inside.job _ c.extend_rows.new.rows.items c.extend_rows.new.rows.items
    c.extend_rows.new.input c.input.result.now c.self.invariant c.in_ok-extend_rows.ensures.input
    c.input.ensures.value c.in_ok-extend_rows.ensures.rows c.in_ok-extend_rows.ensures.few refl

pub returns-clause-answered : goal.returns-clause-answered
returns-clause-answered g c =
    answered Expand (Has c.args.self.names c.args.self.job) (Show c.args.precision) _ _
    (written_answers c.self.inside.job _ c.extend_rows.new.rows.items c.deref.result.now c.extend_rows.new.input
    c.input.result.now c.self.invariant c.in_ok-extend_rows.ensures.input c.input.ensures.value
    c.in_ok-extend_rows.ensures.rows c.in_ok-extend_rows.ensures.few c.deref.ensures.value c.ring.result
    c.ring.ensures c.args.precision c.in_ok-extend_rows.ensures.ok c.args.self c.names.result.now c.self.view_is
    c.names.ensures) c.in_ok-write_input.ensures
