use Rattle.residue.specs.Residues.{number_of}
use Rattle.script.proofs.HeaderLemmas.{job_refused}
use Rattle.script.proofs.header.job_of.Goals as goal

pub returns-in_default-clause-refused : goal.returns-in_default-clause-refused
returns-in_default-clause-refused c =
    job_refused (number_of c.args.modulus) c.args.names c.args.weights c.args.tree c.args.text.now
    c.in_ok-roots.roots.items c.in_ok-roots.ensures.read c.in_ok-roots.ensures.some c.in-Err.error
    c.in_default.not-OutOfMemory c.in-Err.ensures.fault
