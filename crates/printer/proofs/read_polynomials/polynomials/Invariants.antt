use Rattle.std.proofs.Common.{map}
use Rattle.ps_model.specs.Plain.{entry_of}
use Rattle.printer.proofs.ReadBuilt.{AreBuilt}
use Rattle.printer.proofs.read_polynomials.polynomials.Given as goal

abbrev pub invariant-loop-i : goal.invariant-loop-i
invariant-loop-i l = AreBuilt (map (λ f. map entry_of f.items) l.lists) l.polynomials.items l.i
