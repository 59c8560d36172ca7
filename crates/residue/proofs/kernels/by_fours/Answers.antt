use Rattle.std.proofs.Common.{◌≡◌, ◌+◌, ◌*◌, ◌/◌, ◌^◌, ◌<◌, length, sym, ◌∙◌, ap, subst, arith}
use Rattle.residue.specs.Products.{sum_below, reversed_dot}
use Rattle.residue.specs.ProductSums.{exact_of}
use Rattle.residue.proofs.Products.{crossed, fours, rest_of_fours}
use Rattle.residue.proofs.kernels.by_fours.Goals as goal
use Rattle.residue.proofs.kernels.by_fours.Goals.{After-carried-all}

pub loop-k-preserved : goal.loop-k-preserved
loop-k-preserved c = record {
  total = omega (arith, c.carried-next.ensures.sum, c.loop-k.invariant.total, step);
  top = omega (arith, c.carried-next.ensures.top);
}
  where
    next : 4 * (c.loop-k.k + 1) ≡ 4 * c.loop-k.k + 4
    next = omega arith

    step : sum_below (4 * (c.loop-k.k + 1)) (crossed c.args.a.now c.args.w.now) ≡
        sum_below (4 * c.loop-k.k) (crossed c.args.a.now c.args.w.now) + c.of_four-four.result
    step = ap (λ n. sum_below n (crossed c.args.a.now c.args.w.now)) next ∙
        fours c.args.a.now c.args.w.now c.requires.same (4 * c.loop-k.k) (omega arith) ∙
        ap (λ n. sum_below (4 * c.loop-k.k) (crossed c.args.a.now c.args.w.now) + n) (sym c.of_four-four.ensures)

-- all products
whole : (c : After-carried-all) → c.carried-all.result.0 + 2 ^ 128 * c.carried-all.result.1 ≡
    reversed_dot c.args.a.now c.args.w.now
whole c = omega (
  arith,
  c.carried-all.ensures.sum,
  c.loop-k.invariant.total,
  c.of_few-few.ensures,
  ap (λ n. sum_below n (crossed c.args.a.now c.args.w.now)) done,
  rest_of_fours c.args.a.now c.args.w.now c.requires.same,
)
  where
    done : 4 * c.loop-k.k ≡ length c.args.a.now / 4 * 4
    done = omega arith

pub plus-requires : goal.plus-requires
plus-requires c = subst (λ n. exact_of c.args.sum + n < 2 ^ 192)
    (sym (whole (goal.at.plus-requires c).After-carried-all)) c.requires.room

pub returns : goal.returns
returns c = c.plus.ensures ∙ ap (λ n. exact_of c.args.sum + n) (whole (goal.at.returns c).After-carried-all)
