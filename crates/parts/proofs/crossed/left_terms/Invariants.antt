use Rattle.std.proofs.Common.{◌≡◌}
use Rattle.parts.specs.CrossedEntries.{left_in}
use Rattle.parts.specs.Rings.{modulus_of}
use Rattle.parts.proofs.PlacesBuilt.{ArePlacesFrom}
use Rattle.parts.proofs.crossed.left_terms.Given as goal

abbrev pub invariant-loop-at : goal.invariant-loop-at
invariant-loop-at l = record {
  modulus : l.sum.modulus ≡ modulus_of l.fn.ring;
  terms : ArePlacesFrom l.fn.ring l.fn.start.degree (left_in l.fn.ring l.fn.start l.fn.crossed.left.now
      l.fn.crossed.right.now l.fn.crossed.power l.fn.factor) l.at l.terms.items;
}
