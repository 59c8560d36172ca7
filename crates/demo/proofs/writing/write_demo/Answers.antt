use Rattle.std.proofs.Common.{◌∙◌, ap}
use Rattle.ps_model.specs.Tree.{formal_degree}
use Rattle.intake.specs.Jobs.{JobValue}
use Rattle.demo.proofs.ToldTexts.{all_written, nothing_before, part_written, ring_modulus}
use Rattle.demo.proofs.writing.write_demo.Goals as goal

pub text-requires-clause-modulus : goal.text-requires-clause-modulus
text-requires-clause-modulus g c = ring_modulus c.args.seed _ c.in_ok-session.session.holds c.in_ok-session.ensures.job

pub returns-in_err-session-clause-err : goal.returns-in_err-session-clause-err
returns-in_err-session-clause-err g c = nothing_before c.from_residual.result c.args.seed _

pub returns-in_err-text-clause-err : goal.returns-in_err-text-clause-err
returns-in_err-text-clause-err g c = nothing_before c.from_residual-in_err-text.result c.args.seed _

pub returns-in_err-put_all-clause-err : goal.returns-in_err-put_all-clause-err
returns-in_err-put_all-clause-err g c = part_written c.args.seed _ c.in_ok-session.session.holds
    c.in_ok-session.ensures.job c.in_ok-session.session.fits c.in_ok-session.ensures.known c.degree-degree.result
    c.as_bytes.result.now
    (c.degree-degree.ensures.degree ∙ ap (λ (j : JobValue). formal_degree j.job.expr) c.job.ensures)
    (c.as_bytes.ensures.value ∙ c.in_ok-text.ensures) c.from_residual-in_err-put_all.result _ _
    c.in_err-put_all.ensures.err

pub returns-clause-ok : goal.returns-clause-ok
returns-clause-ok g c = all_written c.args.seed _ c.in_ok-session.session.holds
    c.in_ok-session.ensures.job c.in_ok-session.session.fits c.in_ok-session.ensures.known c.degree-degree.result
    c.as_bytes.result.now
    (c.degree-degree.ensures.degree ∙ ap (λ (j : JobValue). formal_degree j.job.expr) c.job.ensures)
    (c.as_bytes.ensures.value ∙ c.in_ok-text.ensures) _ _ c.in_ok-put_all.ensures.ok
