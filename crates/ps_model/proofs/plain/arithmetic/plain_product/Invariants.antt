-- proofs/plain/arithmetic/plain_product/Invariants.antt
use Rattle.std.proofs.Common.{◌≡◌, map, drop}
use Rattle.std.specs.FinMap.{entries}
use Rattle.ps_model.specs.Keys.{key_compare, add_keys}
use Rattle.ps_model.specs.Sums.{products}
use Rattle.ps_model.specs.FiniteMaps.{collected}
use Rattle.ps_model.specs.Plain.{entry_of}
use Rattle.ps_model.proofs.plain.arithmetic.plain_product.Given as goal

abbrev pub invariant-loop-i : goal.invariant-loop-i
invariant-loop-i l = l.product
    ≡ collected (key_compare 8) l.m (products (add_keys 8) (drop l.i (map entry_of l.rows)) (entries l.b))
