-- proofs/plain/arithmetic/add_multiple/Invariants.antt
use Rattle.std.proofs.Common.{◌≡◌, map, drop}
use Rattle.ps_model.specs.Plain.{entry_of}
use Rattle.ps_model.specs.PlainLists.{added, multiplied}
use Rattle.ps_model.proofs.plain.arithmetic.add_multiple.Given as goal

abbrev pub invariant-loop-i : goal.invariant-loop-i
invariant-loop-i l = l.sum ≡ added l.m (drop l.i (multiplied (entry_of l.by) (map entry_of l.terms))) l.initial.sum
