use Rattle.std.proofs.Common.{◌∙◌}
use Rattle.std.specs.Arc.{arc_value}
use Rattle.intake.proofs.MadeInputs.{data_lead, data_slots}
use Rattle.intake.proofs.free_input.FreeInput.into_rows.Goals as goal

pub new-requires-2-clause-lead : goal.new-requires-2-clause-lead
new-requires-2-clause-lead c = data_lead _ c.self.inside.graph c.self.inside.slots.items c.self.inside.lead
    c.self.invariant c.args.roots.items (arc_value c.in_ok-job.job) (c.in_ok-job.ensures.ok ∙ (λ i. record {
      modulus = (c.value.ensures.number ∙ c.modulus.ensures) i;
      n = (c.n.ensures.variables ∙ c.self.invariant.variables) i;
      weights = c.weights_of.ensures i;
      expr = c.self.inside.expr;
      roots = c.from_vec.ensures i;
    }))

pub new-requires-2-clause-slots : goal.new-requires-2-clause-slots
new-requires-2-clause-slots c = data_slots _ c.self.inside.graph c.self.inside.slots.items c.self.inside.lead
    c.self.invariant c.args.roots.items (arc_value c.in_ok-job.job) (c.in_ok-job.ensures.ok ∙ (λ i. record {
      modulus = (c.value.ensures.number ∙ c.modulus.ensures) i;
      n = (c.n.ensures.variables ∙ c.self.invariant.variables) i;
      weights = c.weights_of.ensures i;
      expr = c.self.inside.expr;
      roots = c.from_vec.ensures i;
    }))
