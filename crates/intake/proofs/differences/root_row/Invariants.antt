use Rattle.std.proofs.Common.{ℕ, List}
use Rattle.intake.proofs.RootProducts.{IsProductSoFar}
use Rattle.intake.proofs.differences.root_row.Given as goal

abbrev pub invariant-loop-root : goal.invariant-loop-root
invariant-loop-root l = (ws : List ℕ) → IsProductSoFar l.modulus.value ws l.roots l.root-index l.row.items
