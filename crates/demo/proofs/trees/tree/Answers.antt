use Rattle.std.proofs.Common.{◌≡◌, [], ◌∷◌, ◌++◌, ◌∙◌, ap, arith}
use Rattle.ps_model.specs.declared.expr.Expr.{Sum}
use Rattle.demo.specs.Generator.{degree_by, first_of, powers_by, second_of, summand, terms_by}
use Rattle.demo.proofs.TreeSteps.{state_more, terms_more}
use Rattle.demo.proofs.trees.tree.Goals as goal

pub loop-power-init : goal.loop-power-init
loop-power-init c = λ seed at. (
  at,
  c.in_ok-push.ensures.ok ∙ (λ i. c.new-summands.ensures i ++ summand (c.in_ok-powers.ensures i) ∷ []),
)

pub loop-power-preserved : goal.loop-power-preserved
loop-power-preserved c = λ seed at.
    let before = c.loop-power.invariant seed at in
    let power = c.loop-power.power in (
      c.term.ensures.state ∙ state_more seed power c.loop-power.draws.state before.0,
      c.in_ok-push-2.ensures.ok
          ∙ terms_more seed power c.loop-power.draws.state before.0 c.loop-power.summands
          (summand (powers_by c.args.times.first c.args.times.second c.args.times.third c.args.times.fourth))
          c.in_ok-of.of c.in_ok-of.ensures.tree before.1,
    )

pub returns : goal.returns
returns c = λ seed at.
    let times = c.args.times in
    let all : c.loop-power.power ≡ degree_by times.first times.second times.third times.fourth =
    omega (arith, c.loop-power-test.false, c.loop-power.auto.power-end, c.sum-power-end.ensures.sum) in
    ap Sum ((c.loop-power.invariant seed at).1
    ∙ ap (λ n. summand (powers_by times.first times.second times.third times.fourth)
    ∷ terms_by (first_of seed) (second_of seed) n) all)
