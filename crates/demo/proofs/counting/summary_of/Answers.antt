use Rattle.std.proofs.Common.{◌≡◌, ◌^◌, ℕ, suc, ◌+◌, ◌%◌, ◌∙◌, ap, subst, arith}
use Rattle.parts.specs.Rings.{modulus_of}
use Rattle.demo.specs.Counts.{numbers_at, totals_at}
use Rattle.demo.proofs.CountSteps.{AreTold, told_more, number_is, total_is}
use Rattle.demo.proofs.counting.summary_of.Given.{Over}
use Rattle.demo.proofs.counting.summary_of.Goals as goal

pub loop-power-preserved : goal.loop-power-preserved
loop-power-preserved g c =
    let value = g.V.BlockView.value c.args.view.now in
    told_more (modulus_of value.ring) 0 0 (2 ^ 70) c.loop-power.power (numbers_at value c.args.i)
    (totals_at value c.args.i) c.loop-power.now.terms c.loop-power.now.sum c.with_power-now.result.terms
    c.with_power-now.result.sum c.loop-power.invariant c.with_power-now.ensures.terms c.with_power-now.ensures.few
    c.with_power-now.ensures.sum c.with_power-now.ensures.residue

-- behind the last power
told_all : (g : Over) (c : goal.Else-power-times g)
    → let value = g.V.BlockView.value c.args.view.now in
    AreTold (modulus_of value.ring) 0 0 (2 ^ 70) (suc c.root-times.result.times) (numbers_at value c.args.i)
    (totals_at value c.args.i) c.with_power-now.result.terms c.with_power-now.result.sum
told_all g c =
    let value = g.V.BlockView.value c.args.view.now in
    subst (λ n. AreTold (modulus_of value.ring) 0 0 (2 ^ 70) n (numbers_at value c.args.i) (totals_at value c.args.i)
    c.with_power-now.result.terms c.with_power-now.result.sum)
    (omega arith)
    (told_more (modulus_of value.ring) 0 0 (2 ^ 70) c.loop-power.power (numbers_at value c.args.i)
    (totals_at value c.args.i) c.loop-power.now.terms c.loop-power.now.sum c.with_power-now.result.terms
    c.with_power-now.result.sum c.loop-power.invariant c.with_power-now.ensures.terms c.with_power-now.ensures.few
    c.with_power-now.ensures.sum c.with_power-now.ensures.residue)

pub returns-2-clause-terms : goal.returns-2-clause-terms
returns-2-clause-terms g c =
    let value = g.V.BlockView.value c.args.view.now in
    (told_all g c).number ∙ nothing_first _
    ∙ number_is value (g.V.NameView.names c.args.view.now) (g.met.V.BlockView.lawful c.args.view.now)
    c.requires.known c.args.i c.root-times.result c.root-times.ensures
  where
    nothing_first : (n : ℕ) → 0 + n ≡ n
    nothing_first n = omega arith

pub returns-2-clause-sum : goal.returns-2-clause-sum
returns-2-clause-sum g c =
    let value = g.V.BlockView.value c.args.view.now in
    (told_all g c).total_is
    ∙ ap (λ n. n % modulus_of value.ring) (nothing_first _
    ∙ total_is value (g.V.NameView.names c.args.view.now) (g.met.V.BlockView.lawful c.args.view.now)
    c.requires.known c.args.i c.root-times.result c.root-times.ensures)
  where
    nothing_first : (n : ℕ) → 0 + n ≡ n
    nothing_first n = omega arith
