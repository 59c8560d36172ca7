use Rattle.std.proofs.Common.{◌≡◌, ◌↔◌, ℕ, Some, subst}
use Rattle.ps_model.specs.Value.{HasLead}
use Rattle.parts.specs.Series.{series}
use Rattle.intake.specs.InputValue.{InputValue}
use Rattle.intake.proofs.free_input.FreeInput.lead.Goals as goal

pub returns : goal.returns
returns c = subst (λ (input : InputValue). (l : ℕ) → (c.self.inside.lead ≡ Some l)
    ↔ HasLead (series input.ring) input.expr l)
    c.self.view_is c.self.invariant.lead_is
