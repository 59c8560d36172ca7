-- proofs/plain/factors/product_up_to/Invariants.antt
use Rattle.std.proofs.Common.{drop}
use Rattle.ps_model.proofs.PlainChecks.{IsProductOf}
use Rattle.ps_model.proofs.plain.factors.product_up_to.Given as goal

abbrev pub invariant-loop-i : goal.invariant-loop-i
invariant-loop-i l = IsProductOf l.m l.weights l.d (drop l.i l.fs) l.product
