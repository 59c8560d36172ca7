use Rattle.std.proofs.Common.{◌-◌, ◌<◌, List, All, cond, take, sym, ◌∙◌, ap, subst, arith}
use Rattle.std.specs.Prelude.{Some, None}
use Rattle.residue.specs.ProductSums.{ProductSumValue}
use Rattle.parts.specs.CrossedEntries.{left_in}
use Rattle.parts.specs.Places.{size}
use Rattle.parts.specs.declared.terms.Term.{Term}
use Rattle.parts.proofs.Gained.{all_take}
use Rattle.parts.proofs.LowPowers.{filled_low}
use Rattle.parts.proofs.LeftTerms.{left_none, left_skip, left_key, left_pair, left_push, left_all}
use Rattle.parts.proofs.PlacesBuilt.{ArePlacesFrom}
use Rattle.parts.proofs.crossed.left_terms.Goals as goal

pub loop-at-init : goal.loop-at-init
loop-at-init c = record {
  modulus = ap (λ (s : ProductSumValue). s.modulus) c.new-sum.ensures ∙ c.modulus.ensures;
  terms = subst (λ (ts : List Term). ArePlacesFrom c.args.ring c.args.start.now.degree (left_in c.args.ring
      c.args.start.now c.args.crossed.now.left.now c.args.crossed.now.right.now c.args.crossed.now.power c.args.factor)
      c.in-Some.count ts) (sym c.new-terms.ensures.items)
      (left_none c.args.ring c.requires.contiguous c.args.start.now c.requires.start c.args.crossed.now.left.now
      c.args.crossed.now.right.now c.args.crossed.now.power c.args.factor c.requires.left_parts c.requires.right_parts c.in-Some.count
      (c.in-Some.ensures.count ∙ (λ i. size (c.degree-degree.ensures i)
      (take (c.n-n.ensures.variables i) (c.weights-weights.ensures i)))));
}

pub of_powers-monomial-requires : goal.of_powers-monomial-requires
of_powers-monomial-requires c =
    filled_low c.degree-degree.result (take c.n-n.result c.weights-weights.result) c.fill_powers.new.powers
    (c.loop-at.at - 1) c.n-n.result
    (subst (λ ws. All (λ w. 0 < w) (take c.n-n.result ws)) (sym c.weights-weights.ensures)
    (all_take (λ w. 0 < w) c.n-n.result c.args.ring.weights c.args.ring.positive)) (omega arith)
    (c.fill_powers.ensures ∙ ap (λ b. cond b (Some c.fill_powers.new.powers) None) c.if-fill_powers.true)

pub left_at-coefficient-requires-clause-key : goal.left_at-coefficient-requires-clause-key
left_at-coefficient-requires-clause-key c =
    left_key c.args.ring c.requires.contiguous c.args.start.now c.requires.start c.args.crossed.now.left.now
    c.args.crossed.now.right.now c.args.crossed.now.power c.args.factor c.requires.left_parts c.requires.right_parts
    (c.loop-at.at - 1) c.n-n.result c.degree-degree.result c.weights-weights.result c.n-n.ensures.variables
    c.weights-weights.ensures c.degree-degree.ensures
    c.fill_powers.new.powers c.of_powers-monomial.result
    (c.fill_powers.ensures ∙ ap (λ b. cond b (Some c.fill_powers.new.powers) None) c.if-fill_powers.true)
    c.of_powers-monomial.ensures

pub left_at-coefficient-requires-clause-pair : goal.left_at-coefficient-requires-clause-pair
left_at-coefficient-requires-clause-pair c =
    left_pair c.args.ring c.requires.contiguous c.args.start.now c.requires.start c.args.crossed.now.left.now
    c.args.crossed.now.right.now c.args.crossed.now.power c.args.factor c.requires.left_parts c.requires.right_parts
    (c.loop-at.at - 1) c.n-n.result c.degree-degree.result c.weights-weights.result c.n-n.ensures.variables
    c.weights-weights.ensures c.degree-degree.ensures
    c.fill_powers.new.powers c.of_powers-monomial.result
    (c.fill_powers.ensures ∙ ap (λ b. cond b (Some c.fill_powers.new.powers) None) c.if-fill_powers.true)
    c.of_powers-monomial.ensures

pub loop-at-preserved-in-Continue-1 : goal.loop-at-preserved-in-Continue-1
loop-at-preserved-in-Continue-1 c = record {
  modulus = c.left_at-coefficient.ensures.modulus;
  terms = left_push c.args.ring c.requires.contiguous c.args.start.now c.requires.start c.args.crossed.now.left.now
      c.args.crossed.now.right.now c.args.crossed.now.power c.args.factor c.requires.left_parts c.requires.right_parts
      (c.loop-at.at - 1) c.n-n.result c.degree-degree.result c.weights-weights.result c.n-n.ensures.variables
      c.weights-weights.ensures c.degree-degree.ensures
      c.fill_powers.new.powers c.of_powers-monomial.result
      (c.fill_powers.ensures ∙ ap (λ b. cond b (Some c.fill_powers.new.powers) None) c.if-fill_powers.true)
      c.of_powers-monomial.ensures
      c.loop-at.at c.in-Some.count c.left_at-coefficient.result c.loop-at.terms.items c.push_nonzero.new.terms.items
      (omega arith) c.loop-at.auto.at c.in-Some.ensures.count c.left_at-coefficient.ensures.value
      c.in_ok-push_nonzero.ensures c.loop-at.invariant.terms;
}

pub loop-at-preserved : goal.loop-at-preserved
loop-at-preserved c = record {
  modulus = c.loop-at.invariant.modulus;
  terms = left_skip c.args.ring c.requires.contiguous c.args.start.now c.requires.start c.args.crossed.now.left.now
      c.args.crossed.now.right.now c.args.crossed.now.power c.args.factor c.requires.left_parts c.requires.right_parts
      (c.loop-at.at - 1) c.n-n.result c.degree-degree.result c.weights-weights.result c.n-n.ensures.variables
      c.weights-weights.ensures c.degree-degree.ensures
      c.loop-at.at c.loop-at.terms.items (omega arith)
      (c.fill_powers.ensures ∙ ap (λ b. cond b (Some c.fill_powers.new.powers) None) c.if-fill_powers.false)
      c.loop-at.invariant.terms;
}

pub returns : goal.returns
returns c = left_all c.args.ring c.requires.contiguous c.args.start.now c.requires.start c.args.crossed.now.left.now
    c.args.crossed.now.right.now c.args.crossed.now.power c.args.factor c.requires.left_parts c.requires.right_parts
    c.loop-at.at c.loop-at.terms.items (omega arith) c.loop-at.invariant.terms
