use Rattle.std.proofs.Common.{◌≡◌, ◌∙◌, ℕ, ◌+◌, ◌*◌, ◌≤◌, min, max, sym, ap, arith, drop, drop-cons, add-one, suc, ◌∷◌}
use Rattle.std.proofs.Common.{[], true, if◌then◌else◌}
use Rattle.std.proofs.lemmas.Grind.{common_steps}
use Rattle.ps_model.specs.Tree.{formal_degree, node_count, nodes_of_power}
use Rattle.ps_model.proofs.TreeLists.{greatest_of, degree_of_all, formal_degree-Sum, formal_degree-Product}
use Rattle.ps_model.proofs.TreeLists.{formal_degree-Power, nodes_of_all, nodes_from, node_count-Sum}
use Rattle.ps_model.proofs.TreeLists.{node_count-Product, node_count-Power, nodes_from-nil, preserved_first}
use Rattle.ps_model.proofs.TreeLists.{preserved_later}
use Rattle.ps_model.proofs.Caps.{capped_mul, capped_power}
use Rattle.ps_model.proofs.shape.+shape_of.Goals as goal
use Rattle.ps_model.proofs.shape.+shape_of.Goals.{then-first, else-first, then-factor, else-factor}

pub loop-summand-init : goal.loop-summand-init
loop-summand-init t c =
    let e : formal_degree c.args.expr.now ≡ greatest_of c.as_slice-summand-items.result.now =
    ap formal_degree c.in-Sum.is ∙ formal_degree-Sum _ ∙ ap greatest_of (sym c.as_slice-summand-items.ensures) in
    grind (arith, common_steps)

pub returns-after-loop-summand-clause-nodes : goal.returns-after-loop-summand-clause-nodes
returns-after-loop-summand-clause-nodes t c =
    let e : node_count c.args.expr.now ≡ nodes_of_all c.as_slice-summand-items.result.now + formal_degree
    c.args.expr.now + 1 =
    ap node_count c.in-Sum.is ∙ node_count-Sum c.in-Sum.summands
    ∙ ap (λ d. nodes_of_all c.in-Sum.summands + d + 1) (ap formal_degree (sym c.in-Sum.is))
    ∙ ap (λ ss. nodes_of_all ss + formal_degree c.args.expr.now + 1) (sym c.as_slice-summand-items.ensures) in
    grind (arith, common_steps)

pub loop-factor-init : goal.loop-factor-init
loop-factor-init t c =
    let e : formal_degree c.args.expr.now ≡ degree_of_all c.as_slice-factor-items.result.now =
    ap formal_degree c.in-Product.is ∙ formal_degree-Product _
    ∙ ap degree_of_all (sym c.as_slice-factor-items.ensures) in
    grind (arith, common_steps)

pub returns-in-Power-clause-degree : goal.returns-in-Power-clause-degree
returns-in-Power-clause-degree t c =
    let e : formal_degree c.args.expr.now ≡ c.in-Power.exponent * formal_degree c.in-Power.base =
    ap formal_degree c.in-Power.is ∙ formal_degree-Power _ _ in
    c.saturating_mul.ensures ∙ ap (λ n. min (n * c.in-Power.exponent) 18446744073709551615)
    (c.shape_of-of-in-Power.ensures.degree ∙ ap (λ b. min (formal_degree b) 18446744073709551615) c.get.ensures)
    ∙ capped_mul _ _ _ ∙ ap (λ n. min n 18446744073709551615) (sym e)

pub returns-in-Power-clause-nodes : goal.returns-in-Power-clause-nodes
returns-in-Power-clause-nodes t c =
    let e : node_count c.args.expr.now ≡ nodes_of_power (node_count c.in-Power.base)
    (formal_degree c.in-Power.base) c.in-Power.exponent = ap node_count c.in-Power.is ∙ node_count-Power _ _ in
    let n = c.shape_of-of-in-Power.ensures.nodes ∙ ap (λ b. min (node_count b) 4294967295) c.get.ensures in
    let d : c.narrow-in-Power.result ≡ min (formal_degree c.in-Power.base) 4294967295 =
    c.narrow-in-Power.ensures ∙ ap (λ x. min x 4294967295) (c.shape_of-of-in-Power.ensures.degree
    ∙ ap (λ b. min (formal_degree b) 18446744073709551615) c.get.ensures) ∙ omega arith in
    c.power_nodes.ensures ∙ ap (λ x. min (nodes_of_power x c.narrow-in-Power.result c.in-Power.exponent) 4294967295) n
    ∙ ap (λ x. min (nodes_of_power (min (node_count c.in-Power.base) 4294967295) x c.in-Power.exponent) 4294967295) d
    ∙ capped_power (node_count c.in-Power.base) (formal_degree c.in-Power.base) c.in-Power.exponent 4294967295
    ∙ ap (λ x. min x 4294967295) (sym e)

pub loop-factor-preserved : goal.loop-factor-preserved
loop-factor-preserved t c =
    let items = c.as_slice-factor-items.result.now in
    let i = c.loop-factor.factor-index in
    let f = c.factor-item.result in
    let cut : drop i items ≡ f ∷ drop (i + 1) items =
    drop-cons items i f c.loop-factor-test.true ∙ ap (λ g. g ∷ drop (suc i) items) (sym c.factor-item.is)
    ∙ ap (λ k. f ∷ drop k items) (sym (add-one i)) in
    let own : ℕ = if f.divide then 0 else formal_degree f.of in
    let share : c.if-factor.share ≡ min own 18446744073709551615 =
    elim c.if-factor.branch [
      | then-factor w ↦ grind (arith, common_steps)
      | else-factor w ↦ grind (
        arith,
        common_steps,
      )
    ] in
    let all : degree_of_all (drop i items) ≡ own + degree_of_all (drop (i + 1) items) = ap degree_of_all cut in
    let total : min (c.saturating_add-degree.result + degree_of_all (drop (i + 1) items)) 18446744073709551615 ≡ min
    (formal_degree c.args.expr.now) 18446744073709551615 =
    omega (arith, share, all, c.loop-factor.invariant.total, c.saturating_add-degree.ensures) in
    let bounded : c.saturating_add-degree.result ≤ 18446744073709551615 = omega arith in
    let goal_count = min (nodes_from true 0 items) 4294967295 in
    elim c.if-first.branch [
      | then-first w ↦ record {
        bounded = bounded;
        total = total;
        within = omega arith;
        running = omega arith;
        first = λ h. absurd (cc (h, w.first-is));
        same = ap (λ b. min (c.if-first.nodes + nodes_from b c.if-first.running (drop
            (i + 1) items)) 4294967295) w.first-is
            ∙ preserved_first c.if-first.nodes c.if-first.running c.loop-factor.nodes c.loop-factor.running 4294967295
            goal_count c.loop-factor.first f (drop i items) (drop (i + 1) items)
            cut w.if-first.true (c.loop-factor.invariant.first w.if-first.true) (grind (
              arith,
              common_steps,
            )) (grind (arith, common_steps)) c.loop-factor.invariant.same;
      }
      | else-first w ↦ record {
        bounded = bounded;
        total = total;
        within = omega arith;
        running = omega arith;
        first = λ h. absurd (cc (h, w.first-is, w.if-first.false));
        same = ap (λ b. min (c.if-first.nodes + nodes_from b c.if-first.running (drop (i + 1) items)) 4294967295)
            (w.first-is ∙ w.if-first.false)
            ∙ preserved_later c.if-first.nodes c.if-first.running c.loop-factor.nodes c.loop-factor.running 4294967295
            goal_count c.loop-factor.first f (drop i items) (drop (i + 1) items)
            cut w.if-first.false (grind (arith, common_steps)) (grind (
              arith,
              common_steps,
            )) c.loop-factor.invariant.same;
      }
    ]

pub returns-after-loop-factor-clause-degree : goal.returns-after-loop-factor-clause-degree
returns-after-loop-factor-clause-degree t c =
    let over : drop c.loop-factor.factor-index c.as_slice-factor-items.result.now ≡ [] = grind (arith, common_steps) in
    let empty : degree_of_all (drop c.loop-factor.factor-index c.as_slice-factor-items.result.now) ≡ 0 =
    ap degree_of_all over in
    omega (arith, empty, c.loop-factor.invariant.total, c.loop-factor.invariant.bounded)

pub returns-after-loop-factor-clause-nodes : goal.returns-after-loop-factor-clause-nodes
returns-after-loop-factor-clause-nodes t c =
    let e : node_count c.args.expr.now ≡ nodes_from true 0 c.as_slice-factor-items.result.now =
    ap node_count c.in-Product.is ∙ node_count-Product c.in-Product.factors
    ∙ ap (nodes_from true 0) (sym c.as_slice-factor-items.ensures) in
    let over : drop c.loop-factor.factor-index c.as_slice-factor-items.result.now ≡ [] = grind (arith, common_steps) in
    let empty : nodes_from c.loop-factor.first c.loop-factor.running
    (drop c.loop-factor.factor-index c.as_slice-factor-items.result.now) ≡ 0 =
    ap (nodes_from c.loop-factor.first c.loop-factor.running) over
    ∙ nodes_from-nil c.loop-factor.first c.loop-factor.running in
    omega (arith, e, empty, c.loop-factor.invariant.same)
