use Rattle.intake.specs.Slots.{AddsEach, products_of}
use Rattle.intake.proofs.slots.products.Given as goal

abbrev pub invariant-loop-j : goal.invariant-loop-j
invariant-loop-j l = AddsEach (products_of l.a l.b l.j) l.fn.graph l.graph l.slots.items
