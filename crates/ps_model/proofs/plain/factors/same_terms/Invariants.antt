-- proofs/plain/factors/same_terms/Invariants.antt
use Rattle.std.proofs.Common.{◌≡◌, map, take}
use Rattle.ps_model.specs.Plain.{entry_of}
use Rattle.ps_model.proofs.plain.factors.same_terms.Given as goal

abbrev pub invariant-loop-i : goal.invariant-loop-i
invariant-loop-i l = map entry_of (take l.i l.a) ≡ map entry_of (take l.i l.b)
