-- proofs/plain/terms/place/Invariants.antt
use Rattle.ps_model.specs.PlainLists.{AreBefore}
use Rattle.ps_model.proofs.plain.terms.place.Given as goal

abbrev pub invariant-loop-i : goal.invariant-loop-i
invariant-loop-i l = AreBefore l.terms l.i l.key
