-- An input that is made, and the job that it is with roots.
use Rattle.std.proofs.Common.{◌≡◌, ℕ, ◌+◌, ◌≤◌, List, [], ◌∷◌, ◌++◌, length, Option, Some, refl, sym, ◌∙◌, ap, subst}
use Rattle.std.proofs.Common.{arith}
use Rattle.std.specs.Prelude.{◌↔◌}
use Rattle.ps_model.specs.declared.expr.Expr.{Expr}
use Rattle.ps_model.specs.declared.job.JobData.{JobData}
use Rattle.ps_model.specs.declared.job.Root.{Root}
use Rattle.ps_model.specs.Input.{IsValidInput}
use Rattle.ps_model.specs.Job.{series_ring, job_ring}
use Rattle.ps_model.specs.Tree.{node_count, IsValidTree}
use Rattle.ps_model.specs.Value.{HasLead}
use Rattle.ps_model.proofs.InputValues.{few_nodes, valid_divisions}
use Rattle.parts.specs.JobRows.{IsRingOf}
use Rattle.parts.specs.Rings.{modulus_of, variables_of, eight_weights}
use Rattle.parts.specs.Series.{series}
use Rattle.parts.specs.declared.rings.Ring.{Ring}
use Rattle.parts.proofs.Polynomials.{modulus_is}
use Rattle.residue.specs.Residues.{number_of}
use Rattle.residue.specs.declared.Modulus.{Modulus}
use Rattle.series_graph.specs.Formula.{Formula}
use Rattle.series_graph.specs.GraphValue.{GraphValue, size_of}
use Rattle.series_graph.specs.declared.node.NodeId.{NodeId}
use Rattle.intake.specs.InputValue.{InputValue, IsInput}
use Rattle.intake.specs.Jobs.{data_with, HasSlots}
use Rattle.intake.specs.Slots.{Builds, DividesWell}
use Rattle.intake.proofs.SlotSteps.{length_both}

abbrev pub new_graph : Ring → GraphValue
new_graph ring = record { ring = ring; formulas = []; constants = []; known = [] }

module _ (m : ℕ) (e : Expr) (valid : (ws : List ℕ) → IsValidInput (series_ring m ws) e) where
  pub nodes_few : node_count e ≤ 4096
  nodes_few = few_nodes (series_ring m []) e (valid [])

  module _ (ring : Ring) (same : modulus_of ring ≡ m) where
    pub valid_here : IsValidInput (series ring) e
    valid_here = subst (λ k. IsValidInput (series_ring k (eight_weights ring)) e) (sym same)
        (valid (eight_weights ring))

    pub divides_here : (graph : GraphValue) → graph ≡ new_graph ring → DividesWell graph.ring e
    divides_here graph new = subst (λ (g : GraphValue). DividesWell g.ring e) (sym new)
        (valid_divisions (series ring) e valid_here)

    pub room_here : (graph : GraphValue) → graph ≡ new_graph ring → size_of graph + node_count e ≤ 65536
    room_here graph new = enough (size_of graph) (node_count e) (ap (λ (g : GraphValue). size_of g) new) nodes_few
      where
        enough : (n k : ℕ) → n ≡ 0 → k ≤ 4096 → n + k ≤ 65536
        enough n k e le = omega arith

    pub made_input : (names : List (List ℕ)) (old new : GraphValue) (slots : List NodeId) (lead : Option ℕ)
        → variables_of ring ≡ length names → IsValidTree (length names) e → old ≡ new_graph ring
        → Builds e old new slots
        → ((ws : List ℕ) (l : ℕ) → (lead ≡ Some l) ↔ HasLead (series_ring m ws) e l)
        → IsInput (record { names = names; ring = ring; expr = e }) new slots lead
    made_input names old new slots lead variables tree empty builds leads = record {
      variables = variables;
      tree = tree;
      valid = valid_here;
      graph_ring = builds.nodes.ring_is ∙ ap (λ (g : GraphValue). g.ring) empty;
      few_nodes = few (size_of new) (size_of old) (length builds.nodes.added) (node_count e)
          (ap (λ (l : List Formula). length l) builds.nodes.formulas_are ∙ length_both old.formulas builds.nodes.added)
          (ap (λ (g : GraphValue). size_of g) empty) builds.nodes.nodes nodes_few;
      slots_count = builds.nodes.slots;
      within = builds.nodes.within;
      mean = λ D v is. builds.mean (series ring)
          (modulus_is ring ∙ ap (λ (g : GraphValue). modulus_of g.ring) (sym empty)) D v is;
      lead_is = λ l. subst (λ k. (lead ≡ Some l) ↔ HasLead (series_ring k (eight_weights ring)) e l) (sym same)
          (leads (eight_weights ring) l);
    }
      where
        few : (n a b k : ℕ) → n ≡ a + b → a ≡ 0 → b ≡ k → k ≤ 4096 → n ≤ 4096
        few n a b k e f g le = omega arith

module _ (input : InputValue) (graph : GraphValue) (slots : List NodeId) (lead : Option ℕ)
    (is : IsInput input graph slots lead) (roots : List Root) (job : JobData) (same : job ≡ data_with input roots) where
  pub data_ring : IsRingOf input.ring job
  data_ring = subst (IsRingOf input.ring) (sym same) (refl, is.variables, refl)

  pub data_lead : (l : ℕ) → (lead ≡ Some l) ↔ HasLead (job_ring job) job.expr l
  data_lead l = subst (λ (j : JobData). (lead ≡ Some l) ↔ HasLead (job_ring j) j.expr l) (sym same) (is.lead_is l)

  pub data_slots : HasSlots input.ring graph.formulas job.expr slots
  data_slots = subst (λ (j : JobData). HasSlots input.ring graph.formulas j.expr slots) (sym same)
      (record { count = is.slots_count; mean = is.mean })
