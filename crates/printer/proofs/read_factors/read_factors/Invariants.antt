use Rattle.std.proofs.Common.{map}
use Rattle.ps_model.specs.Plain.{entry_of}
use Rattle.printer.specs.ReadBlock.{variable_names}
use Rattle.printer.proofs.ReadFactorLines.{FactorsRead}
use Rattle.printer.proofs.read_factors.read_factors.Given as goal

abbrev pub invariant-loop-i : goal.invariant-loop-i
invariant-loop-i g l =
    FactorsRead l.ring (variable_names l.ring (g.N.NameView.names l.names)) l.d l.roots l.text
    (map (λ f. map entry_of f.items) l.factors.items) l.i l.lines l.rest
