use Rattle.std.proofs.Common.{subst, List, ℕ, []}
use Rattle.ps_model.specs.Tokens.{tokens}
use Rattle.grammar.specs.Machine.{start, run}
use Rattle.grammar.proofs.Whole.{answered}
use Rattle.expr_reader.specs.Reading.{Runs}
use Rattle.expr_reader.proofs.ReadAnswers.{tree_read, fault_read, valid_read}
use Rattle.expr_reader.proofs.reading.read.Goals as goal

pub returns-clause-tree : goal.returns-clause-tree
returns-clause-tree c = tree_read c.args.names.now c.args.text.now c.read_trimmed.result
    (subst (λ (ts : List ℕ). Runs c.read_trimmed.result (run (start []) (tokens c.args.names.now 0 0 ts)))
    c.trimmed.ensures.same c.read_trimmed.ensures)

pub returns-clause-fault : goal.returns-clause-fault
returns-clause-fault c = fault_read c.args.names.now c.args.text.now c.read_trimmed.result
    (subst (λ (ts : List ℕ). Runs c.read_trimmed.result (run (start []) (tokens c.args.names.now 0 0 ts)))
    c.trimmed.ensures.same c.read_trimmed.ensures)

pub returns-clause-valid : goal.returns-clause-valid
returns-clause-valid c = valid_read c.args.names.now c.args.text.now c.read_trimmed.result
    (subst (λ (ts : List ℕ). Runs c.read_trimmed.result (run (start []) (tokens c.args.names.now 0 0 ts)))
    c.trimmed.ensures.same c.read_trimmed.ensures)
