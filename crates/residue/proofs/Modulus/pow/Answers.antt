use Rattle.std.proofs.Common.{◌*◌, ◌^◌, ◌/◌, ◌%◌, ◌<◌, ◌∙◌, subst, sym, arith}
use Rattle.std.proofs.Math.Nat.{mod-lt}
use Rattle.residue.proofs.Arithmetic.{even_step, odd_step}
use Rattle.residue.proofs.Modulus.pow.Goals as goal
use Rattle.residue.proofs.Modulus.pow.Goals.{then-left-eq1, else-left-eq1}

pub loop-left-preserved : goal.loop-left-preserved
loop-left-preserved c = elim c.if-left-eq1.branch [
  | then-left-eq1 w ↦ record {
    result_below = subst (λ n. n < c.args.self.now.value) (sym (w.result-is ∙ w.mul-result.ensures))
        (mod-lt _ (let two = c.args.self.now.low in omega arith));
    base_below = subst (λ n. n < c.args.self.now.value) (sym c.mul-base.ensures)
        (mod-lt _ (let two = c.args.self.now.low in omega arith));
    product = (λ i. ((w.result-is ∙ w.mul-result.ensures) i * (c.mul-base.ensures i) ^ (c.loop-left.left / 2)) %
        c.args.self.now.value) ∙
        odd_step c.args.self.now.value c.loop-left.result c.loop-left.base c.loop-left.left w.if-left-eq1.true ∙
        c.loop-left.invariant.product;
  }
  | else-left-eq1 w ↦ record {
    result_below = subst (λ n. n < c.args.self.now.value) (sym w.result-is) c.loop-left.invariant.result_below;
    base_below = subst (λ n. n < c.args.self.now.value) (sym c.mul-base.ensures)
        (mod-lt _ (let two = c.args.self.now.low in omega arith));
    product = (λ i. (w.result-is i * (c.mul-base.ensures i) ^ (c.loop-left.left / 2)) % c.args.self.now.value) ∙
        even_step c.args.self.now.value c.loop-left.result c.loop-left.base c.loop-left.left
        (omega (arith, w.if-left-eq1.false)) ∙ c.loop-left.invariant.product;
  }
]
