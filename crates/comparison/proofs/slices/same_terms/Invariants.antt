use Rattle.std.proofs.Common.{◌≡◌, map, take}
use Rattle.ps_model.specs.Plain.{entry_of}
use Rattle.ps_model.specs.PlainLists.{without_y}
use Rattle.parts.specs.Terms.{entry_of as part_entry}
use Rattle.comparison.proofs.slices.same_terms.Given as goal

abbrev pub invariant-loop-i : goal.invariant-loop-i
invariant-loop-i l = map (λ t. without_y (entry_of t)) (take l.i l.list) ≡ map part_entry (take l.i l.terms)
