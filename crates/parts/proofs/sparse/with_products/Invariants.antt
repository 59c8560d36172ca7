use Rattle.std.proofs.Common.{◌+◌, ◌++◌, map, take}
use Rattle.ps_model.specs.Keys.{add_keys}
use Rattle.ps_model.specs.Sums.{multiples, products}
use Rattle.parts.specs.Rings.{modulus_of}
use Rattle.parts.specs.Terms.{entry_of, sign}
use Rattle.parts.specs.TermLists.{IsTotal}
use Rattle.parts.proofs.sparse.with_products.Given as goal

abbrev pub invariant-loop-x : goal.invariant-loop-x
invariant-loop-x l = IsTotal l.ring (l.left + l.right)
    (map entry_of l.sum ++ multiples (sign (modulus_of l.ring) l.minus)
    (products (add_keys 8) (map entry_of (take l.x-index l.a)) (map entry_of l.b))) l.terms.items
