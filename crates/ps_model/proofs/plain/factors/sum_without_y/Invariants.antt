use Rattle.std.proofs.Common.{◌≡◌, map, drop}
use Rattle.std.specs.FinMap.{empty}
use Rattle.ps_model.specs.Plain.{entry_of}
use Rattle.ps_model.specs.PlainLists.{added, without_y}
use Rattle.ps_model.proofs.plain.factors.sum_without_y.Given as goal

abbrev pub invariant-loop-i : goal.invariant-loop-i
invariant-loop-i l = l.sum ≡ added l.m (drop l.i (map (λ t. without_y (entry_of t)) l.terms)) empty
