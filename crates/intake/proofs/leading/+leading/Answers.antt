-- Each return, and each round of the loops over summands and factors.
use Rattle.std.proofs.Common.{◌≡◌, ◌-◌, ◌*◌, ◌≤◌, ◌↔◌, Some, None, get_or, sym, ◌∙◌, ap, subst, arith, rules}
use Rattle.ps_model.specs.declared.expr.Expr.TheViews.{the_lemmas}
use Rattle.std.proofs.lemmas.List.{get_or_default}
use Rattle.ps_model.specs.declared.expr.Expr.{Product}
use Rattle.ps_model.specs.declared.expr.Summand.{Summand}
use Rattle.ps_model.specs.Job.{series_ring}
use Rattle.ps_model.specs.Tree.{formal_degree, node_count}
use Rattle.ps_model.proofs.TreeLists.{formal_degree-Power}
use Rattle.intake.specs.Leading.{IsLeading}
use Rattle.intake.specs.Origin.{HasEightNames}
use Rattle.intake.proofs.LeadRows.{leading-Number, leading-Power_none, leading-Power, leading-Power_unknown}
use Rattle.intake.proofs.LeadRows.{sum_leading-start, sum_leading-more, sum_leading-end}
use Rattle.intake.proofs.LeadRows.{product_leading-start, product_leading-more, product_leading-end}
use Rattle.intake.proofs.LeadRows.{TellsFactor, tells-divides, tells-multiplies, factor-known, factor-unknown}
use Rattle.intake.proofs.LeadRows.{factors-unknown, HasShare}
use Rattle.intake.proofs.TreeSizes.{degree_of_nodes, degree_left, names-Power, nodes-Power, names-Sum, nodes-Sum}
use Rattle.intake.proofs.TreeSizes.{names-Product, nodes-Product}
use Rattle.intake.proofs.leading.+leading.Goals as goal
use Rattle.intake.proofs.leading.+leading.Goals.{with_factor-then-factor, with_factor-else-factor}

pub leading_of-returns-then-exponent-eq0-clause-leading : goal.leading_of-returns-then-exponent-eq0-clause-leading
leading_of-returns-then-exponent-eq0-clause-leading t c =
    subst (λ e. IsLeading c.args.modulus.value e 0 (Some 1)) (sym c.in-Power.is)
    (leading-Power_none c.args.modulus.value c.args.modulus.low c.in-Power.base c.in-Power.exponent
    c.if-exponent-eq0.true)

pub leading_of-leading_of-base-requires : goal.leading_of-leading_of-base-requires
leading_of-leading_of-base-requires t c = (
  search (rules, the_lemmas),
  (
    subst HasEightNames (sym c.get.ensures) (names-Power c.in-Power.base c.in-Power.exponent
        (subst HasEightNames c.in-Power.is c.requires.names)),
    (let base : node_count c.get.result.now ≡ node_count c.in-Power.base = ap node_count c.get.ensures in
        let whole = ap node_count c.in-Power.is in
        let le = nodes-Power c.in-Power.base c.in-Power.exponent in omega arith),
  ),
)

pub leading_of-overflow_mul-result : goal.leading_of-overflow_mul-result
leading_of-overflow_mul-result t c =
    let degree : c.in-Power.exponent * c.leading_of-base.result.degree ≡ formal_degree c.args.expr.now =
    ap (λ d. c.in-Power.exponent * d) (c.leading_of-base.ensures.leading.degree_is ∙ ap formal_degree c.get.ensures)
    ∙ sym (formal_degree-Power c.in-Power.base c.in-Power.exponent) ∙ ap formal_degree (sym c.in-Power.is) in
    let few = degree_of_nodes c.args.expr.now in
    omega arith

pub leading_of-returns-in-Number-clause-leading : goal.leading_of-returns-in-Number-clause-leading
leading_of-returns-in-Number-clause-leading t c =
    subst (λ e. IsLeading c.args.modulus.value e 0 (Some c.reduce.result)) (sym c.in-Number.is)
    (leading-Number c.args.modulus.value c.args.modulus.low c.in-Number.c c.reduce.result c.reduce.ensures)

pub leading_of-returns-in-Some-clause-leading : goal.leading_of-returns-in-Some-clause-leading
leading_of-returns-in-Some-clause-leading t c =
    let m = c.args.modulus.value in
    let d = c.leading_of-base.result.degree in
    let some : 1 ≤ c.in-Power.exponent = let h = c.if-exponent-eq0.false in omega arith in
    let base : IsLeading m c.in-Power.base d (Some c.in-Some.l) = subst (IsLeading m c.in-Power.base d) c.in-Some.is
    (subst (λ e. IsLeading m e d c.leading_of-base.result.number) c.get.ensures c.leading_of-base.ensures.leading) in
    subst (λ e. IsLeading m e (c.in-Power.exponent * d) (Some c.pow.result)) (sym c.in-Power.is)
    (leading-Power m c.args.modulus.low c.in-Power.base c.in-Power.exponent d c.in-Some.l c.pow.result
    (omega arith) base c.pow.ensures)

pub leading_of-returns-in-None-clause-leading : goal.leading_of-returns-in-None-clause-leading
leading_of-returns-in-None-clause-leading t c =
    let m = c.args.modulus.value in
    let d = c.leading_of-base.result.degree in
    let some : 1 ≤ c.in-Power.exponent = let h = c.if-exponent-eq0.false in omega arith in
    let base : IsLeading m c.in-Power.base d None = subst (IsLeading m c.in-Power.base d) c.in-None.is
    (subst (λ e. IsLeading m e d c.leading_of-base.result.number) c.get.ensures c.leading_of-base.ensures.leading) in
    subst (λ e. IsLeading m e (c.in-Power.exponent * d) None) (sym c.in-Power.is)
    (leading-Power_unknown m c.args.modulus.low c.in-Power.base c.in-Power.exponent d (omega arith) base)

pub sum_leading-loop-i-init : goal.sum_leading-loop-i-init
sum_leading-loop-i-init t c = record {
  residue = let two = c.args.modulus.low in omega arith;
  leading = sum_leading-start c.args.modulus.value c.args.modulus.low c.args.summands.now _ (omega arith);
}

pub sum_leading-leading_of-of-requires : goal.sum_leading-leading_of-of-requires
sum_leading-leading_of-of-requires t c = (
  search (rules, the_lemmas),
  (
    subst (λ (s : Summand). HasEightNames s.of) c.index-summands-i.is (names-Sum c.args.summands.now
        (c.loop-i.i - 1) c.index-summands-i.result (omega arith) c.index-summands-i.is c.requires.names),
    subst (λ (s : Summand). node_count s.of ≤ 4096) c.index-summands-i.is
        (let le = nodes-Sum c.args.summands.now (c.loop-i.i - 1) c.index-summands-i.result (omega arith)
        c.index-summands-i.is in let few = c.requires.nodes in omega arith),
  ),
)

pub sum_leading-loop-i-preserved : goal.sum_leading-loop-i-preserved
sum_leading-loop-i-preserved t c =
    let m = c.args.modulus.value in
    let s = c.index-summands-i-in-loop-i.result in
    let same : get_or c.args.summands.now (c.loop-i.i - 1) c.index-summands-i.result ≡ s =
    get_or_default c.args.summands.now (c.loop-i.i - 1) c.index-summands-i.result s (omega arith)
    ∙ sym c.index-summands-i-in-loop-i.is in
    let of : IsLeading m s.of c.leading_of-of.result.degree c.leading_of-of.result.number =
    subst (λ (x : Summand). IsLeading m x.of c.leading_of-of.result.degree c.leading_of-of.result.number) same
    c.leading_of-of.ensures.leading in
    record {
      residue = c.with_summand-sum.ensures.residue;
      leading = sum_leading-more m c.args.modulus.low c.args.summands.now c.loop-i.i c.loop-i.sum.degree
          c.with_summand-sum.result.degree c.loop-i.sum.number c.with_summand-sum.result.number s (omega arith)
          (omega arith) c.index-summands-i-in-loop-i.is c.loop-i.invariant.leading
          (λ rest k. c.with_summand-sum.ensures.leading rest of k);
    }

pub sum_leading-returns-clause-leading : goal.sum_leading-returns-clause-leading
sum_leading-returns-clause-leading t c = sum_leading-end c.args.modulus.value c.args.modulus.low c.args.summands.now
    c.loop-i.i c.loop-i.sum.degree c.loop-i.sum.number (omega arith) c.loop-i.invariant.leading

pub product_leading-loop-i-init : goal.product_leading-loop-i-init
product_leading-loop-i-init t c = record {
  residue = let two = c.args.modulus.low in omega arith;
  leading = product_leading-start c.args.modulus.value c.args.modulus.low c.args.factors.now _ (omega arith);
}

pub product_leading-with_factor-product-requires : goal.product_leading-with_factor-product-requires
product_leading-with_factor-product-requires t c = (
  search (rules, the_lemmas),
  (
    names-Product c.args.factors.now (c.loop-i.i - 1) c.index-factors-i.result (omega arith) c.index-factors-i.is
        c.requires.names,
    (
      (let le = nodes-Product c.args.factors.now (c.loop-i.i - 1) c.index-factors-i.result (omega arith)
          c.index-factors-i.is in let few = c.requires.nodes in omega arith),
      (
        (let left = degree_left c.args.factors.now c.loop-i.i in
            let whole = degree_of_nodes (Product c.args.factors.now) in
            let is = c.loop-i.invariant.leading.degree_is in
            let few = c.requires.nodes in omega arith),
        c.loop-i.invariant.residue,
      ),
    ),
  ),
)

pub product_leading-loop-i-preserved : goal.product_leading-loop-i-preserved
product_leading-loop-i-preserved t c = record {
  residue = c.with_factor-product.ensures.residue;
  leading = product_leading-more c.args.modulus.value c.args.modulus.low c.args.factors.now c.loop-i.i
      c.loop-i.product.degree c.with_factor-product.result.degree c.loop-i.product.number
      c.with_factor-product.result.number c.index-factors-i.result (omega arith) (omega arith) c.index-factors-i.is
      c.loop-i.invariant.leading (λ rest k. c.with_factor-product.ensures.leading rest k);
}

pub product_leading-returns-clause-leading : goal.product_leading-returns-clause-leading
product_leading-returns-clause-leading t c = product_leading-end c.args.modulus.value c.args.modulus.low
    c.args.factors.now c.loop-i.i c.loop-i.product.degree c.loop-i.product.number (omega arith)
    c.loop-i.invariant.leading

pub with_factor-overflow_add-degree : goal.with_factor-overflow_add-degree
with_factor-overflow_add-degree t c =
    let degree = c.leading_of-of.ensures.leading.degree_is in
    let few = degree_of_nodes c.args.factor.now.of in
    omega arith

pub with_factor-returns-in-Some-Some-clause-leading : goal.with_factor-returns-in-Some-Some-clause-leading
with_factor-returns-in-Some-Some-clause-leading t c =
    let m = c.args.modulus.value in
    let f = c.args.factor.now in
    let two = c.args.modulus.low in
    let degree = c.if-factor.degree in
    let later = c.args.later.degree in
    let tells : TellsFactor m two f c.if-factor.share degree later = elim c.if-factor.branch [
      | with_factor-then-factor w ↦ tells-divides m two f c.if-factor.share w.inverse_share-share.result degree later
          w.if-factor.true w.share-is w.inverse_share-share.ensures.share w.degree-is
      | with_factor-else-factor w ↦ tells-multiplies m two f c.if-factor.share w.leading_of-of.result.number degree
          later w.leading_of-of.result.degree w.if-factor.false w.share-is w.leading_of-of.ensures.leading w.degree-is
    ] in
    λ rest k. factor-known m two f rest degree later c.in-Some-Some.share
    c.in-Some-Some.others c.mul.result
    (λ ws l. subst (λ x. (x ≡ Some l) ↔ HasShare (series_ring m ws) f l) c.in-Some-Some.is-0 (tells.share ws l))
    (subst (IsLeading m (Product rest) c.args.later.degree) c.in-Some-Some.is-1 k) tells.degree c.mul.ensures

pub with_factor-returns-in_default-clause-leading : goal.with_factor-returns-in_default-clause-leading
with_factor-returns-in_default-clause-leading t c =
    let m = c.args.modulus.value in
    let f = c.args.factor.now in
    let two = c.args.modulus.low in
    let degree = c.if-factor.degree in
    let later = c.args.later.degree in
    let tells : TellsFactor m two f c.if-factor.share degree later = elim c.if-factor.branch [
      | with_factor-then-factor w ↦ tells-divides m two f c.if-factor.share w.inverse_share-share.result degree later
          w.if-factor.true w.share-is w.inverse_share-share.ensures.share w.degree-is
      | with_factor-else-factor w ↦ tells-multiplies m two f c.if-factor.share w.leading_of-of.result.number degree
          later w.leading_of-of.result.degree w.if-factor.false w.share-is w.leading_of-of.ensures.leading w.degree-is
    ] in
    λ rest k. factors-unknown m two f rest degree later c.if-factor.share
    tells.share (subst (IsLeading m (Product rest) c.args.later.degree) c.in_default.is-1 k) tells.degree

pub with_factor-returns-in_default-2-clause-leading : goal.with_factor-returns-in_default-2-clause-leading
with_factor-returns-in_default-2-clause-leading t c =
    let m = c.args.modulus.value in
    let f = c.args.factor.now in
    let two = c.args.modulus.low in
    let degree = c.if-factor.degree in
    let later = c.args.later.degree in
    let tells : TellsFactor m two f c.if-factor.share degree later = elim c.if-factor.branch [
      | with_factor-then-factor w ↦ tells-divides m two f c.if-factor.share w.inverse_share-share.result degree later
          w.if-factor.true w.share-is w.inverse_share-share.ensures.share w.degree-is
      | with_factor-else-factor w ↦ tells-multiplies m two f c.if-factor.share w.leading_of-of.result.number degree
          later w.leading_of-of.result.degree w.if-factor.false w.share-is w.leading_of-of.ensures.leading w.degree-is
    ] in
    λ rest k. factor-unknown m two f rest degree later c.args.later.number
    (λ ws l. subst (λ x. (x ≡ Some l) ↔ HasShare (series_ring m ws) f l) c.in_default.is-0 (tells.share ws l))
    k tells.degree
