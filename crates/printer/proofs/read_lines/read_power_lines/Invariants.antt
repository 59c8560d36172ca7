use Rattle.std.proofs.Common.{map}
use Rattle.ps_model.specs.Plain.{entry_of}
use Rattle.printer.specs.ReadBlock.{variable_names}
use Rattle.printer.proofs.ReadPowerLines.{PowersRead}
use Rattle.printer.proofs.read_lines.read_power_lines.Given as goal

abbrev pub invariant-lines : goal.invariant-lines
invariant-lines g l =
    PowersRead l.ring (variable_names l.ring (g.N.NameView.names l.names)) l.d l.times l.text
    (map entry_of l.initial.terms.items) (map entry_of l.terms.items) l.power l.rest

abbrev pub decreases-lines : goal.decreases-lines
decreases-lines g l = l.power
