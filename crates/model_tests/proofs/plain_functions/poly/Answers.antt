use Rattle.std.proofs.Common.{refl, ◌≤◌, arith}
use Rattle.ps_model.specs.PlainPolynomial.{small_key}
use Rattle.ps_model.proofs.PlainBounds.{within_after, values_after, within_empty, values_empty, small_within}
use Rattle.std.proofs.Math.Nat.{mod-lt}
use Rattle.model_tests.proofs.plain_functions.poly.Goals as goal

pub loop-x-init : goal.loop-x-init
loop-x-init c = record {
  within = within_empty small_key c.new-p.result c.new-p.ensures;
  residues = values_empty 101 c.new-p.result (omega arith) c.new-p.ensures;
}

pub loop-x-preserved : goal.loop-x-preserved
loop-x-preserved c = let x_small : c.min-x.result ≤ 3 = omega (arith, c.min-x.ensures) in
    let z_small : c.min-z.result ≤ 3 = omega (arith, c.min-z.ensures) in
    let y_small : c.min.result ≤ 3 = omega (arith, c.min.ensures) in record {
      within = within_after small_key c.loop-x.p c.put.new.self _ _
          (small_within c.min-x.result c.min-z.result c.min.result x_small z_small y_small _ refl)
          c.loop-x.invariant.within
          c.in_ok-put.ensures.ok;
      residues = values_after 101 c.loop-x.p c.put.new.self _ _ (omega arith) (mod-lt _ (omega arith))
          c.loop-x.invariant.residues
          c.in_ok-put.ensures.ok;
    }
