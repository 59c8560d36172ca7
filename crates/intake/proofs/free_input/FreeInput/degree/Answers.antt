use Rattle.std.proofs.Common.{◌≡◌, subst}
use Rattle.ps_model.specs.Tree.{formal_degree as degree_of}
use Rattle.intake.specs.InputValue.{InputValue}
use Rattle.intake.proofs.InputRowsRead.{input_degree}
use Rattle.intake.proofs.free_input.FreeInput.degree.Goals as goal

pub returns-clause-degree : goal.returns-clause-degree
returns-clause-degree c = subst (λ (input : InputValue). c.formal_degree.result ≡ degree_of input.expr) c.self.view_is
    (input_degree _ c.self.inside.graph c.self.inside.slots.items c.self.inside.lead c.self.invariant _
    c.formal_degree.ensures).0

pub returns-clause-few : goal.returns-clause-few
returns-clause-few c = (input_degree _ c.self.inside.graph c.self.inside.slots.items c.self.inside.lead
    c.self.invariant _ c.formal_degree.ensures).1
