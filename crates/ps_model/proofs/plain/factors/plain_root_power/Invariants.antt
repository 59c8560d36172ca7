-- proofs/plain/factors/plain_root_power/Invariants.antt
use Rattle.ps_model.proofs.PlainChecks.{IsRootPower}
use Rattle.ps_model.proofs.plain.factors.plain_root_power.Given as goal

abbrev pub invariant-loop-i : goal.invariant-loop-i
invariant-loop-i l = IsRootPower l.m l.root.value l._i l.power
