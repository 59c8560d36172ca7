use Rattle.std.proofs.Common.{◌≡◌, ◌+◌, ◌-◌, ◌*◌, ◌/◌, ◌%◌, ◌<◌, ◌≤◌, ◌∙◌, ap, sym, subst, arith, get_or, length}
use Rattle.std.proofs.Common.{drop}
use Rattle.std.proofs.Common.{◌++◌, take, cond}
use Rattle.std.specs.Prelude.{Some, None, ◌==◌}
use Rattle.std.specs.Option.{option_map}
use Rattle.std.proofs.Math.ListN.{set}
use Rattle.parts.specs.Places.{powers_at}
use Rattle.parts.proofs.Filled.{filled, stopped, completed, multiplier-positive}
use Rattle.parts.proofs.places.fill_powers.Goals as goal

pub nonzero_div-power : goal.nonzero_div-power
nonzero_div-power c = subst (λ ms. 0 < get_or ms c.loop-j.j 0) (sym c.requires.sizes)
    (multiplier-positive c.args.degree c.args.weights.now c.loop-j.j (omega arith))

pub nonzero_rem-rest : goal.nonzero_rem-rest
nonzero_rem-rest c = subst (λ ms. 0 < get_or ms c.loop-j.j 0) (sym c.requires.sizes)
    (multiplier-positive c.args.degree c.args.weights.now c.loop-j.j (omega arith))

pub returns-then-power-left : goal.returns-then-power-left
returns-then-power-left c =
    c.loop-j.invariant.so_far ∙
    stopped c.args.degree c.args.weights.now c.loop-j.powers c.loop-j.left c.loop-j.rest c.loop-j.j
    (get_or c.args.sizes.now c.loop-j.j 0) (omega arith) (ap (λ ms. get_or ms c.loop-j.j 0) c.requires.sizes)
    (subst (λ w. c.loop-j.left / w < c.loop-j.rest / get_or c.args.sizes.now c.loop-j.j 0) c.from-w.ensures
    c.if-power-left.true)

pub loop-j-preserved : goal.loop-j-preserved
loop-j-preserved c = record {
  low = omega (arith, c.loop-j.invariant.low);
  so_far = c.loop-j.invariant.so_far ∙
      filled c.args.degree c.args.weights.now c.loop-j.powers c.loop-j.left c.loop-j.rest c.loop-j.j
      (get_or c.args.sizes.now c.loop-j.j 0) (omega arith) (omega arith)
      (ap (λ ms. get_or ms c.loop-j.j 0) c.requires.sizes)
      (subst (λ w. c.loop-j.rest / get_or c.args.sizes.now c.loop-j.j 0 ≤ c.loop-j.left / w) c.from-w.ensures
      c.if-power-left.false)
      ∙ ap (λ w. option_map (λ zs. take (c.loop-j.j + 1)
      (set c.loop-j.powers c.loop-j.j (c.loop-j.rest / get_or c.args.sizes.now c.loop-j.j 0)) ++ zs)
      (powers_at c.args.degree (drop (c.loop-j.j + 1) c.args.weights.now)
      (c.loop-j.left - w * (c.loop-j.rest / get_or c.args.sizes.now c.loop-j.j 0))
      (c.loop-j.rest % get_or c.args.sizes.now c.loop-j.j 0))) (sym c.from-w.ensures);
}

pub returns : goal.returns
returns c = c.loop-j.invariant.so_far ∙
    completed c.args.degree c.args.weights.now c.loop-j.powers c.loop-j.left c.loop-j.rest c.loop-j.j (omega arith)
    (omega arith)
    ∙ (λ i. cond (c.loop-j.left % same i == 0) (Some (set c.loop-j.powers (at i) (c.loop-j.left / same i))) None)
  where
    at : c.loop-j.j ≡ length c.args.weights.now - 1
    at = omega arith

    same : get_or c.args.weights.now c.loop-j.j 0 ≡ c.from-w-2.result
    same = ap (λ k. get_or c.args.weights.now k 0) at ∙ sym c.from-w-2.ensures
