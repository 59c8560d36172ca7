use Rattle.std.proofs.Common.{◌∙◌, ◌++◌, ap, sym, subst, Ok, Err, List, ℕ}
use Rattle.std.proofs.lemmas.Result.{err_from_is_err_and}
use Rattle.ps_model.specs.BlockText.{newline}
use Rattle.script.specs.Checking.{Reads}
use Rattle.commands.specs.CheckLines.{ChecksLine}
use Rattle.commands.specs.declared.checking.Checking.TheVariants.{Block}
use Rattle.commands.proofs.CheckLinesRead.{line_lost, line_read}
use Rattle.commands.proofs.checking.collect.Goals as goal

pub returns : goal.returns
returns c = λ number written faults. line_read (Block c.args.block) c.args.line.now number _ written faults
    (ap (λ (t : List ℕ). Ok (Reads c.args.block.job.names c.args.block.job.job c.args.block.first t))
    (c.in_ok-push.ensures.items ∙ ap (λ l. l ++ newline) c.in_ok-extend_from_slice.ensures.items)) c.requires

pub returns-in_err-extend_from_slice : goal.returns-in_err-extend_from_slice
returns-in_err-extend_from_slice c = λ number written faults.
    let p = err_from_is_err_and c.from_residual.result c.from_residual.ensures.1 in
    subst (λ r. ChecksLine (Block c.args.block) c.args.line.now number r written written faults faults)
    (sym (p.1 ∙ ap Err p.2)) (line_lost (Block c.args.block) c.args.line.now number written faults)

pub returns-in_err-push : goal.returns-in_err-push
returns-in_err-push c = λ number written faults.
    let p = err_from_is_err_and c.from_residual-in_err-push.result c.from_residual-in_err-push.ensures.1 in
    subst (λ r. ChecksLine (Block c.args.block) c.args.line.now number r written written faults faults)
    (sym (p.1 ∙ ap Err p.2)) (line_lost (Block c.args.block) c.args.line.now number written faults)
