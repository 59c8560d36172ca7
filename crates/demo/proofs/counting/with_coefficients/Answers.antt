use Rattle.std.proofs.Common.{◌≡◌, ℕ, ◌+◌, ◌%◌, ◌<◌, ◌≤◌, ◌∙◌, ap, subst, sym, arith}
use Rattle.std.proofs.Math.Nat.{mod-lt}
use Rattle.residue.specs.Residues.{number_of}
use Rattle.parts.specs.declared.terms.Term.{Term}
use Rattle.demo.proofs.CountSteps.{coefficient_more}
use Rattle.demo.proofs.counting.with_coefficients.Goals as goal

pub loop-term-preserved : goal.loop-term-preserved
loop-term-preserved c =
    let m = number_of c.args.modulus in
    let term = c.term-item.result in (
      c.add-sum.ensures ∙ ap (λ n. (c.loop-term.sum + n) % m) c.reduce.ensures
          ∙ ap (λ (t : Term). (c.loop-term.sum + t.coefficient % m) % m) c.term-item.is
          ∙ coefficient_more m c.args.start c.loop-term.sum c.loop-term.term-index c.args.terms.now term
          c.loop-term-test.true c.loop-term.invariant.0,
      subst (λ n. n < m) (sym c.add-sum.ensures)
          (mod-lt (c.loop-term.sum + c.reduce.result)
          (above_zero _ _ c.value-modulus.ensures.low c.value-modulus.ensures.number)),
    )
  where
    above_zero : (v m : ℕ) → 2 ≤ v → v ≡ m → 0 < m
    above_zero v m low is = omega arith
