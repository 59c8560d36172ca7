-- proofs/plain/arithmetic/add_all/Invariants.antt
use Rattle.std.proofs.Common.{◌≡◌, map, drop}
use Rattle.ps_model.specs.Plain.{entry_of}
use Rattle.ps_model.specs.PlainLists.{added}
use Rattle.ps_model.proofs.plain.arithmetic.add_all.Given as goal

abbrev pub invariant-loop-i : goal.invariant-loop-i
invariant-loop-i l = l.sum ≡ added l.m (drop l.i (map entry_of l.terms)) l.initial.sum
