use Rattle.std.proofs.Common.{ap, ◌∙◌}
use Rattle.std.specs.Prelude.{Err}
use Rattle.residue.specs.Residues.{number_of}
use Rattle.intake.proofs.InputFaults.{told_error}
use Rattle.intake.proofs.MadeInputs.{nodes_few, divides_here, room_here, made_input}
use Rattle.intake.proofs.free_input.FreeInput.make.Goals as goal

pub returns-in-Some-clause-fault : goal.returns-in-Some-clause-fault
returns-in-Some-clause-fault c f is =
    let some = c.in-Some.ensures.some c.args.weights in
    ap Err (told_error _ c.args.expr some.0 f c.in-Some.error some.1 some.2 is)

pub leading_number-lead-requires-clause-nodes : goal.leading_number-lead-requires-clause-nodes
leading_number-lead-requires-clause-nodes c =
    nodes_few (number_of c.args.modulus) c.args.expr (c.first_input_fault.ensures.none c.in_default.is)

pub build-requires-clause-divisions : goal.build-requires-clause-divisions
build-requires-clause-divisions c =
    divides_here (number_of c.args.modulus) c.args.expr (c.first_input_fault.ensures.none c.in_default.is)
    c.weighted-ring.result c.weighted-ring.ensures.modulus c.new-graph.result c.new-graph.ensures

pub build-requires-clause-room : goal.build-requires-clause-room
build-requires-clause-room c =
    room_here (number_of c.args.modulus) c.args.expr (c.first_input_fault.ensures.none c.in_default.is)
    c.weighted-ring.result c.weighted-ring.ensures.modulus c.new-graph.result c.new-graph.ensures

pub invariant_of-result : goal.invariant_of-result
invariant_of-result c =
    made_input (number_of c.args.modulus) c.args.expr (c.first_input_fault.ensures.none c.in_default.is)
    c.weighted-ring.result c.weighted-ring.ensures.modulus c.args.names c.new-graph.result c.build.new.graph
    c.in_ok-slots.slots.items c.leading_number-lead.result
    (c.weighted-ring.ensures.variables ∙ c.len.ensures.count) c.requires.tree c.new-graph.ensures
    c.in_ok-slots.ensures c.leading_number-lead.ensures
