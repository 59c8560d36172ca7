use Rattle.std.proofs.Common.{arith}
use Rattle.residue.specs.Residues.{number_of}
use Rattle.demo.proofs.MadeNumbers.{job_is, made_accepted, no_refusal}
use Rattle.demo.proofs.jobs.job_of.Goals as goal

pub make-requires-clause-some : goal.make-requires-clause-some
make-requires-clause-some c =
    let accepted = made_accepted c.args.seed (number_of c.modulus.result) c.in_ok-names.names
    c.in_ok-tree.tree c.in_ok-roots.roots.items c.draw-times.result.first c.draw-times.result.second
    c.draw-times.result.third c.draw-times.result.fourth c.draw-times.ensures.first c.draw-times.ensures.second
    c.draw-times.ensures.third c.draw-times.ensures.fourth c.modulus.ensures c.in_ok-names.ensures
    (c.in_ok-tree.ensures c.args.seed c.draw-times.ensures.state) c.in_ok-roots.ensures in
    let some = accepted.variables.0 in omega arith

pub make-requires-clause-weights : goal.make-requires-clause-weights
make-requires-clause-weights c = (made_accepted c.args.seed (number_of c.modulus.result) c.in_ok-names.names
    c.in_ok-tree.tree c.in_ok-roots.roots.items c.draw-times.result.first c.draw-times.result.second
    c.draw-times.result.third c.draw-times.result.fourth c.draw-times.ensures.first c.draw-times.ensures.second
    c.draw-times.ensures.third c.draw-times.ensures.fourth c.modulus.ensures c.in_ok-names.ensures
    (c.in_ok-tree.ensures c.args.seed c.draw-times.ensures.state) c.in_ok-roots.ensures).weights

pub make-requires-clause-tree : goal.make-requires-clause-tree
make-requires-clause-tree c = (made_accepted c.args.seed (number_of c.modulus.result) c.in_ok-names.names
    c.in_ok-tree.tree c.in_ok-roots.roots.items c.draw-times.result.first c.draw-times.result.second
    c.draw-times.result.third c.draw-times.result.fourth c.draw-times.ensures.first c.draw-times.ensures.second
    c.draw-times.ensures.third c.draw-times.ensures.fourth c.modulus.ensures c.in_ok-names.ensures
    (c.in_ok-tree.ensures c.args.seed c.draw-times.ensures.state) c.in_ok-roots.ensures).tree

pub make-requires-clause-some_root : goal.make-requires-clause-some_root
make-requires-clause-some_root c = (made_accepted c.args.seed (number_of c.modulus.result) c.in_ok-names.names
    c.in_ok-tree.tree c.in_ok-roots.roots.items c.draw-times.result.first c.draw-times.result.second
    c.draw-times.result.third c.draw-times.result.fourth c.draw-times.ensures.first c.draw-times.ensures.second
    c.draw-times.ensures.third c.draw-times.ensures.fourth c.modulus.ensures c.in_ok-names.ensures
    (c.in_ok-tree.ensures c.args.seed c.draw-times.ensures.state) c.in_ok-roots.ensures).some

pub make-requires-clause-roots : goal.make-requires-clause-roots
make-requires-clause-roots c = (made_accepted c.args.seed (number_of c.modulus.result) c.in_ok-names.names
    c.in_ok-tree.tree c.in_ok-roots.roots.items c.draw-times.result.first c.draw-times.result.second
    c.draw-times.result.third c.draw-times.result.fourth c.draw-times.ensures.first c.draw-times.ensures.second
    c.draw-times.ensures.third c.draw-times.ensures.fourth c.modulus.ensures c.in_ok-names.ensures
    (c.in_ok-tree.ensures c.args.seed c.draw-times.ensures.state) c.in_ok-roots.ensures).roots

pub unreachable-requires : goal.unreachable-requires
unreachable-requires c = no_refusal c.args.seed (number_of c.modulus.result) c.in_ok-names.names
    c.in_ok-tree.tree c.in_ok-roots.roots.items c.draw-times.result.first c.draw-times.result.second
    c.draw-times.result.third c.draw-times.result.fourth c.draw-times.ensures.first c.draw-times.ensures.second
    c.draw-times.ensures.third c.draw-times.ensures.fourth c.modulus.ensures c.in_ok-names.ensures
    (c.in_ok-tree.ensures c.args.seed c.draw-times.ensures.state) c.in_ok-roots.ensures
    c.in-Err.error c.in_default.not-OutOfMemory c.in-Err.ensures.fault

pub returns-in-Ok : goal.returns-in-Ok
returns-in-Ok c = job_is c.args.seed (number_of c.modulus.result) c.in_ok-names.names
    c.in_ok-tree.tree c.in_ok-roots.roots.items c.draw-times.result.first c.draw-times.result.second
    c.draw-times.result.third c.draw-times.result.fourth c.draw-times.ensures.first c.draw-times.ensures.second
    c.draw-times.ensures.third c.draw-times.ensures.fourth c.modulus.ensures c.in_ok-names.ensures
    (c.in_ok-tree.ensures c.args.seed c.draw-times.ensures.state) c.in_ok-roots.ensures
    c.in-Ok.job c.in-Ok.ensures.made
