-- A power at which both differ, one at which they agree, and past the rows, where both are 0.
use Rattle.std.proofs.Common.{◌≡◌, ℕ, ◌+◌, ◌<◌, List, [], refl, sym, ◌∙◌, subst, arith, below_more, length, get_or}
use Rattle.std.proofs.lemmas.List.{get_or_default, get_or_past}
use Rattle.intake.specs.Differences.{scaled_at}
use Rattle.intake.proofs.NumberRows.{everywhere}
use Rattle.intake.proofs.RootProducts.{roots_small, scaled_here, scaled_above}
use Rattle.intake.proofs.differences.first_difference.Goals as goal

-- a number that is read at a place of the row is the one of the clauses
number_there : (xs : List ℕ) (i x y : ℕ) → i < length xs → y ≡ get_or xs i x → y ≡ get_or xs i 0
number_there xs i x y lt is = is ∙ get_or_default xs i x 0 lt

within : (n total k i : ℕ) → n ≡ total + 1 → k ≡ total + 1 → i < k → i < n
within n total k i row input lt = omega arith

pub mul-requires-clause-b_residue : goal.mul-requires-clause-b_residue
mul-requires-clause-b_residue c = subst (λ n. n < c.args.modulus.value)
    (sym (number_there c.in_ok-product.product.items c.loop-power.power c.index.result.now _
    (within _ _ _ _ (sym c.in_ok-product.product.ok.0 ∙ c.in_ok-product.ensures.length) c.requires.degree
    c.loop-power-test.true) c.index.ensures ∙ c.in_ok-product.ensures.numbers [] c.loop-power.power))
    (roots_small c.args.modulus.value [] c.args.roots.now c.loop-power.power c.args.modulus.low)

pub returns-then-difference : goal.returns-then-difference
returns-then-difference c = λ ws. record {
  row_is = refl;
  roots_is = scaled_here c.args.modulus.value ws c.args.lead c.args.roots.now c.loop-power.power c.mul.result
      c.index.result.now c.args.modulus.low c.mul.ensures
      (number_there c.in_ok-product.product.items c.loop-power.power c.index.result.now _
      (within _ _ _ _ (sym c.in_ok-product.product.ok.0 ∙ c.in_ok-product.ensures.length) c.requires.degree
      c.loop-power-test.true) c.index.ensures ∙ c.in_ok-product.ensures.numbers ws c.loop-power.power);
  differ = c.if-difference.true;
  first = c.loop-power.invariant ws;
}

pub loop-power-preserved : goal.loop-power-preserved
loop-power-preserved c = λ ws. below_more
    (λ p. get_or c.args.input.now p 0 ≡ scaled_at c.args.modulus.value ws c.args.lead c.args.roots.now p)
    c.loop-power.power (c.loop-power.invariant ws) (c.if-difference.false
    ∙ scaled_here c.args.modulus.value ws c.args.lead c.args.roots.now c.loop-power.power c.mul.result
    c.index.result.now c.args.modulus.low c.mul.ensures
    (number_there c.in_ok-product.product.items c.loop-power.power c.index.result.now _
    (within _ _ _ _ (sym c.in_ok-product.product.ok.0 ∙ c.in_ok-product.ensures.length) c.requires.degree
    c.loop-power-test.true) c.index.ensures ∙ c.in_ok-product.ensures.numbers ws c.loop-power.power))

pub returns : goal.returns
returns c = λ ws. everywhere _ (length c.args.input.now) (λ p lt. c.loop-power.invariant ws p (omega arith))
    (λ p le. get_or_past c.args.input.now p 0 le
    ∙ sym (scaled_above c.args.modulus.value ws c.args.lead c.args.roots.now p c.args.modulus.low
    (omega (arith, c.requires.degree))))
