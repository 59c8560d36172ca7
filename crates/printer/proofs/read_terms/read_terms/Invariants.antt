use Rattle.std.proofs.Common.{map, length}
use Rattle.ps_model.specs.Plain.{entry_of}
use Rattle.printer.specs.ReadBlock.{variable_names}
use Rattle.printer.proofs.ReadLineTerms.{LineReading}
use Rattle.printer.proofs.read_terms.read_terms.Given as goal

abbrev pub invariant-loop-term : goal.invariant-loop-term
invariant-loop-term g l =
    LineReading l.ring (variable_names l.ring (g.N.NameView.names l.names)) l.d l.y l.text
    (map entry_of l.initial.terms.items) (map entry_of l.terms.items) l.last l.rest

abbrev pub decreases-loop-term : goal.decreases-loop-term
decreases-loop-term g l = length l.rest
