use Rattle.std.proofs.Common.{◌∙◌, ℕ, List, sym, subst}
use Rattle.std.proofs.lemmas.Result.{err_from_is_err_and}
use Rattle.ps_model.specs.declared.job.JobData.{JobData}
use Rattle.ps_model.specs.declared.job.Root.{Root}
use Rattle.ps_model.specs.AcceptedJob.{IsAccepted}
use Rattle.residue.specs.Residues.{number_of}
use Rattle.intake.specs.JobErrors.{IsJobRefusal}
use Rattle.intake.specs.Jobs.{IsOriginRow, data_of}
use Rattle.intake.specs.RootFaults.{IsJobOf}
use Rattle.intake.proofs.MadeJobs.{refused, input_refusal, same_data, row_few, test_refusal, lawful, accepted}
use Rattle.intake.proofs.job.Job.make.Goals as goal

pub returns-in_err-input-clause-fault : goal.returns-in_err-input-clause-fault
returns-in_err-input-clause-fault c =
    let p = err_from_is_err_and c.from_residual.result c.from_residual.ensures.1 in
    let job : JobData = data_of (number_of c.args.modulus) c.args.names c.args.weights c.args.expr c.args.roots.items in
    refused c.from_residual.result job p.0 p.1
    (input_refusal job c.in_err-input.field-0.0 p.0 p.2 c.in_err-input.ensures.err)

pub returns-in_err-test_roots-clause-fault : goal.returns-in_err-test_roots-clause-fault
returns-in_err-test_roots-clause-fault c =
    let p = err_from_is_err_and c.from_residual-in_err-test_roots.result
    c.from_residual-in_err-test_roots.ensures.1 in
    let job : JobData = data_of (number_of c.args.modulus) c.args.names c.args.weights c.args.expr c.args.roots.items in
    refused c.from_residual-in_err-test_roots.result job p.0 p.1
    (subst (IsJobRefusal job) (sym p.2)
    (test_refusal c.args.modulus c.args.names c.args.weights c.args.expr c.args.roots.items c.in_ok-input.input
    c.in_ok-input.ensures.ok c.deref.result.now
    (subst (λ (l : List ℕ). IsOriginRow c.in_ok-input.input l) (sym c.deref.ensures.value) c.in_ok-at_origin.ensures)
    c.in_err-test_roots.field-0.0 (λ other is. c.in_err-test_roots.ensures.err other
    (subst (λ (l : List Root). IsJobOf (number_of c.args.modulus) c.deref.result.now l other)
    (sym c.deref-2.ensures.value) is))))

pub test_roots-requires-clause-few : goal.test_roots-requires-clause-few
test_roots-requires-clause-few c =
    row_few c.args.modulus c.args.names c.args.weights c.args.expr c.args.roots.items c.in_ok-input.input
    c.in_ok-input.ensures.ok c.deref.result.now
    (subst (λ (l : List ℕ). IsOriginRow c.in_ok-input.input l) (sym c.deref.ensures.value) c.in_ok-at_origin.ensures)

pub into_rows-requires : goal.into_rows-requires
into_rows-requires c =
    lawful c.args.modulus c.args.names c.args.weights c.args.expr c.args.roots.items c.in_ok-input.input
    c.in_ok-input.ensures.ok c.deref.result.now
    (subst (λ (l : List ℕ). IsOriginRow c.in_ok-input.input l) (sym c.deref.ensures.value) c.in_ok-at_origin.ensures)
    c.requires.roots (λ other is. c.in_ok-test_roots.ensures.ok other
    (subst (λ (l : List Root). IsJobOf (number_of c.args.modulus) c.deref.result.now l other)
    (sym c.deref-2.ensures.value) is))

pub returns-clause-accepted : goal.returns-clause-accepted
returns-clause-accepted c =
    subst IsAccepted (sym (c.in_ok-names.ensures.job ∙ same_data c.args.modulus c.args.names c.args.weights c.args.expr
    c.args.roots.items c.in_ok-input.input c.in_ok-input.ensures.ok))
    (accepted c.args.modulus c.args.names c.args.weights c.args.expr c.args.roots.items c.in_ok-input.input
    c.in_ok-input.ensures.ok c.deref.result.now
    (subst (λ (l : List ℕ). IsOriginRow c.in_ok-input.input l) (sym c.deref.ensures.value) c.in_ok-at_origin.ensures)
    c.requires.roots (λ other is. c.in_ok-test_roots.ensures.ok other
    (subst (λ (l : List Root). IsJobOf (number_of c.args.modulus) c.deref.result.now l other)
    (sym c.deref-2.ensures.value) is))
    c.requires.some c.requires.weights c.requires.tree c.requires.some_root)
