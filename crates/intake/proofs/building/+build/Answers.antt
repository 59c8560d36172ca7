use Rattle.std.proofs.Common.{◌≡◌, ◌+◌, ◌-◌, ◌<◌, max, length, take, refl, sym, ◌∙◌, ap, subst, arith, rules}
use Rattle.std.specs.Prelude.{if◌then◌else◌}
use Rattle.std.specs.List.{All}
use Rattle.std.proofs.lemmas.Grind.{common_steps}
use Rattle.std.proofs.lemmas.Result.{IfOk-weaker}
use Rattle.ps_model.specs.declared.expr.Expr.{Expr, Sum, Product}
use Rattle.ps_model.specs.declared.expr.Expr.TheViews.{the_lemmas}
use Rattle.std.proofs.Common.{◌≤◌, List, []}
use Rattle.std.proofs.lemmas.Bool.Decides.{nat_tests}
use Rattle.ps_model.specs.Tree.{formal_degree, node_count, nodes_of_power, IsValidTree}
use Rattle.ps_model.proofs.TreeLists.{node_count-Power}
use Rattle.parts.specs.Rings.{modulus_of, variables_of}
use Rattle.series_graph.specs.GraphValue.{GraphValue, size_of}
use Rattle.series_graph.specs.declared.node.NodeId.{NodeId}
use Rattle.intake.specs.Slots.{AreIn, Builds}
use Rattle.intake.specs.declared.slots.Addend.{Addend}
use Rattle.intake.proofs.Built.{SumBuilt, ProductBuilt, sum_none, still_in, added_size}
use Rattle.intake.proofs.SumCases.{number_at, name_at, summand_tree, summand_divides, summand_room, summand_built}
use Rattle.intake.proofs.SumCases.{sums_room, sum_built, sign_minus, sign_plus, base_tree, base_divides, base_room}
use Rattle.intake.proofs.SumCases.{base_some, raised_room, raised_built, unraised_built, both_ok}
use Rattle.intake.proofs.ProductCases.{product_ring, product_in, factor_tree, factor_divides, factor_room}
use Rattle.intake.proofs.ProductCases.{factor_unit, factor_series, factors_room, begun, joined_given, product_built}
use Rattle.intake.proofs.building.+build.Goals as goal
use Rattle.intake.proofs.building.+build.Goals.{then-summand, else-summand, then-is_empty}
use Rattle.intake.proofs.building.+build.Goals.{else-is_empty+in_ok-slots-in-Product}

pub returns-in-Number : goal.returns-in-Number
returns-in-Number t c = IfOk-weaker c.flat.result _ _ (λ ids flat. number_at c.args.expr.now c.args.graph.now
    c.number.new.self ids.items c.number.result c.in-Number.c c.reduce.result c.args.modulus.value c.in-Number.is
    c.reduce.ensures c.requires.modulus c.number.ensures.ok flat) c.flat.ensures

pub build-requires : goal.build-requires
build-requires t c =
    let is = c.in-Sum.is ∙ ap Sum (sym c.as_slice-summand-items.ensures) in (
      search (rules, the_lemmas),
      (
        c.requires.modulus ∙ ap modulus_of (sym c.loop-summand.invariant.ring_is),
        (
          summand_tree c.args.graph.now c.loop-summand.graph c.args.expr.now c.as_slice-summand-items.result.now
              c.loop-summand.summand-index c.loop-summand.addends.items c.loop-summand.count is
              c.loop-summand.invariant c.requires.tree c.summand-item.result c.loop-summand-test.true c.summand-item.is,
          (
            summand_divides c.args.graph.now c.loop-summand.graph c.args.expr.now c.as_slice-summand-items.result.now
                c.loop-summand.summand-index c.loop-summand.addends.items c.loop-summand.count is
                c.loop-summand.invariant c.requires.tree c.summand-item.result c.loop-summand-test.true
                c.summand-item.is c.requires.divisions,
            summand_room c.args.graph.now c.loop-summand.graph c.args.expr.now c.as_slice-summand-items.result.now
                c.loop-summand.summand-index c.loop-summand.addends.items c.loop-summand.count is
                c.loop-summand.invariant c.requires.tree c.summand-item.result c.loop-summand-test.true
                c.summand-item.is c.requires.room,
          ),
        ),
      ),
    )

pub loop-summand-preserved : goal.loop-summand-preserved
loop-summand-preserved t c =
    let two = c.args.modulus.low in
    let sign : (c.if-summand.sign ≡ (if c.summand-item.result.minus then modulus_of c.args.graph.now.ring - 1 else 1))
    × (c.if-summand.sign < modulus_of c.args.graph.now.ring) =
    elim c.if-summand.branch [
      | then-summand w ↦ sign_minus c.summand-item.result.minus _ _ c.args.modulus.value _ w.if-summand.true w.sign-is
          w.neg-sign.ensures two c.requires.modulus
      | else-summand w ↦ sign_plus c.summand-item.result.minus _ c.args.modulus.value _ w.if-summand.false w.sign-is
          two c.requires.modulus
    ] in
    let most : c.max-count.result ≡ max c.loop-summand.count (length c.in_ok-slots-in-Sum.slots.items) =
    grind (arith, common_steps) in
    summand_built c.args.graph.now c.loop-summand.graph c.args.expr.now c.as_slice-summand-items.result.now
    c.loop-summand.summand-index c.loop-summand.addends.items c.loop-summand.count
    (c.in-Sum.is ∙ ap Sum (sym c.as_slice-summand-items.ensures)) c.loop-summand.invariant c.requires.tree
    c.summand-item.result c.loop-summand-test.true c.summand-item.is c.build.new.graph c.push.new.self.items
    (record { sign = c.if-summand.sign; slots = c.in_ok-slots-in-Sum.slots }) c.max-count.result
    c.in_ok-slots-in-Sum.ensures sign.0 sign.1 c.in_ok-push-in-Sum.ensures.items most

pub sums-requires-clause-residues : goal.sums-requires-clause-residues
sums-requires-clause-residues t c = subst
    (λ l. All (λ (a : Addend). a.sign < modulus_of c.loop-summand.graph.ring) l) (sym c.deref.ensures.value)
    (subst (λ m. All (λ (a : Addend). a.sign < m) c.loop-summand.addends.items)
    (ap modulus_of (sym c.loop-summand.invariant.ring_is)) c.loop-summand.invariant.signs)

pub sums-requires-clause-ids : goal.sums-requires-clause-ids
sums-requires-clause-ids t c = subst (λ l. All (λ (a : Addend). AreIn c.loop-summand.graph a.slots.items) l)
    (sym c.deref.ensures.value) c.loop-summand.invariant.within

pub sums-requires-clause-room : goal.sums-requires-clause-room
sums-requires-clause-room t c = sums_room c.args.graph.now c.loop-summand.graph c.args.expr.now
    c.as_slice-summand-items.result.now c.loop-summand.summand-index
    c.loop-summand.addends.items c.loop-summand.count (c.in-Sum.is ∙ ap Sum (sym c.as_slice-summand-items.ensures))
    c.loop-summand.invariant c.requires.tree c.loop-summand-test.false c.requires.room

pub returns-after-loop-summand : goal.returns-after-loop-summand
returns-after-loop-summand t c = IfOk-weaker c.sums.result _ _ (λ ids each. sum_built c.args.graph.now
    c.loop-summand.graph c.args.expr.now c.as_slice-summand-items.result.now c.loop-summand.summand-index
    c.loop-summand.addends.items c.loop-summand.count
    (c.in-Sum.is ∙ ap Sum (sym c.as_slice-summand-items.ensures)) c.loop-summand.invariant c.requires.tree
    c.loop-summand-test.false c.sums.new.graph c.deref.result.now ids.items c.deref.ensures.value each) c.sums.ensures

pub build-requires-in-Power : goal.build-requires-in-Power
build-requires-in-Power t c = (
  search (rules, the_lemmas),
  (
    c.requires.modulus,
    (
      base_tree c.args.graph.now c.args.expr.now c.in-Power.base c.get.result.now c.in-Power.exponent c.in-Power.is
          c.get.ensures c.requires.tree,
      (
        base_divides c.args.graph.now c.args.expr.now c.in-Power.base c.get.result.now c.in-Power.exponent c.in-Power.is
            c.get.ensures c.requires.tree c.requires.divisions,
        base_room c.args.graph.now c.args.expr.now c.in-Power.base c.get.result.now c.in-Power.exponent c.in-Power.is
            c.get.ensures c.requires.tree c.requires.room,
      ),
    ),
  ),
)

pub power-requires-clause-room : goal.power-requires-clause-room
power-requires-clause-room t c = raised_room c.args.graph.now c.args.expr.now c.in-Power.base c.get.result.now
    c.in-Power.exponent c.in-Power.is c.get.ensures c.requires.tree c.build-in-Power.new.graph
    c.in_ok-slots-in-Power.slots.items c.deref-in-Power.result.now c.deref-in-Power.ensures.value
    c.in_ok-slots-in-Power.ensures (omega arith) c.requires.room

pub returns-else-exponent-eq0 : goal.returns-else-exponent-eq0
returns-else-exponent-eq0 t c =
    let some : 0 < c.in-Power.exponent = omega arith in
    both_ok _ _ _ c.power.result (λ ids adds means. raised_built c.args.graph.now c.args.expr.now c.in-Power.base
    c.get.result.now c.in-Power.exponent c.in-Power.is c.get.ensures c.requires.tree c.build-in-Power.new.graph
    c.in_ok-slots-in-Power.slots.items c.deref-in-Power.result.now c.deref-in-Power.ensures.value
    c.in_ok-slots-in-Power.ensures c.power.new.graph ids.items some adds means) c.power.ensures.slots
    c.power.ensures.mean

pub returns-then-exponent-eq0 : goal.returns-then-exponent-eq0
returns-then-exponent-eq0 t c = IfOk-weaker c.flat-then-exponent-eq0.result _ _ (λ ids flat. unraised_built
    c.args.graph.now c.args.expr.now c.in-Power.base c.get.result.now c.in-Power.exponent c.in-Power.is c.get.ensures
    c.requires.tree c.build-in-Power.new.graph c.in_ok-slots-in-Power.slots.items c.in_ok-slots-in-Power.slots.items
    refl
    c.in_ok-slots-in-Power.ensures c.number-then-exponent-eq0.new.self ids.items c.number-then-exponent-eq0.result
    c.if-exponent-eq0.true c.number-then-exponent-eq0.ensures.ok flat) c.flat-then-exponent-eq0.ensures

pub build-requires-in-loop-factor : goal.build-requires-in-loop-factor
build-requires-in-loop-factor t c = (
  search (rules, the_lemmas),
  (
    c.requires.modulus ∙ ap modulus_of (sym (product_ring c.args.graph.now c.loop-factor.graph _ _
        c.loop-factor.invariant)),
    (
      factor_tree c.args.graph.now c.loop-factor.graph c.args.expr.now c.as_slice-factor-items.result.now
          c.loop-factor.factor-index c.loop-factor.slots.items (c.in-Product.is
          ∙ ap Product (sym c.as_slice-factor-items.ensures))
          c.loop-factor.invariant c.requires.tree c.factor-item.result c.loop-factor-test.true c.factor-item.is,
      (
        factor_divides c.args.graph.now c.loop-factor.graph c.args.expr.now c.as_slice-factor-items.result.now
            c.loop-factor.factor-index c.loop-factor.slots.items (c.in-Product.is
            ∙ ap Product (sym c.as_slice-factor-items.ensures))
            c.loop-factor.invariant c.requires.tree c.factor-item.result c.loop-factor-test.true c.factor-item.is
            c.requires.divisions,
        factor_room c.args.graph.now c.loop-factor.graph c.args.expr.now c.as_slice-factor-items.result.now
            c.loop-factor.factor-index c.loop-factor.slots.items (c.in-Product.is
            ∙ ap Product (sym c.as_slice-factor-items.ensures))
            c.loop-factor.invariant c.requires.tree c.factor-item.result c.loop-factor-test.true c.factor-item.is
            c.requires.room,
      ),
    ),
  ),
)

pub multiplied-requires-clause-unit : goal.multiplied-requires-clause-unit
multiplied-requires-clause-unit t c = λ id one by. factor_unit c.args.graph.now c.loop-factor.graph c.args.expr.now
    c.as_slice-factor-items.result.now
    c.loop-factor.factor-index c.loop-factor.slots.items (c.in-Product.is
    ∙ ap Product (sym c.as_slice-factor-items.ensures))
    c.loop-factor.invariant c.requires.tree c.factor-item.result c.loop-factor-test.true c.factor-item.is
    c.requires.divisions c.build-in-loop-factor.new.graph c.in_ok-of-in-Product.of.items c.in_ok-of-in-Product.ensures
    c.deref-else-is_empty-2.result.now id c.deref-else-is_empty-2.ensures.value one by

pub loop-factor-preserved : goal.loop-factor-preserved
loop-factor-preserved t c =
    elim c.if-is_empty.branch [
      | then-is_empty w ↦
          (let none : length c.loop-factor.slots.items ≡ 0 = grind (arith, nat_tests, common_steps) in
          subst (λ (g : GraphValue). ProductBuilt c.args.graph.now g (take (c.loop-factor.factor-index + 1)
          c.as_slice-factor-items.result.now) c.if-is_empty.slots.items) (sym w.graph-is)
          (subst (λ (l : List NodeId). ProductBuilt c.args.graph.now c.build-in-loop-factor.new.graph
          (take (c.loop-factor.factor-index + 1) c.as_slice-factor-items.result.now) l)
          (sym (ap (λ v. v.items) w.slots-is)) (begun c.args.graph.now c.loop-factor.graph c.args.expr.now
          c.as_slice-factor-items.result.now
          c.loop-factor.factor-index c.loop-factor.slots.items (c.in-Product.is
          ∙ ap Product (sym c.as_slice-factor-items.ensures))
          c.loop-factor.invariant c.requires.tree c.factor-item.result c.loop-factor-test.true c.factor-item.is
          c.requires.divisions c.build-in-loop-factor.new.graph c.in_ok-of-in-Product.of.items
          c.in_ok-of-in-Product.ensures none)))
      | else-is_empty+in_ok-slots-in-Product w ↦
          (let some : 0 < length c.loop-factor.slots.items = grind (arith, nat_tests, common_steps) in
          subst (λ (g : GraphValue). ProductBuilt c.args.graph.now g (take (c.loop-factor.factor-index + 1)
          c.as_slice-factor-items.result.now) c.if-is_empty.slots.items) (sym w.graph-is)
          (subst (λ (l : List NodeId). ProductBuilt c.args.graph.now w.multiplied.new.graph
          (take (c.loop-factor.factor-index + 1) c.as_slice-factor-items.result.now) l)
          (sym (ap (λ v. v.items) w.slots-is)) (joined_given c.args.graph.now c.loop-factor.graph c.args.expr.now
          c.as_slice-factor-items.result.now
          c.loop-factor.factor-index c.loop-factor.slots.items (c.in-Product.is
          ∙ ap Product (sym c.as_slice-factor-items.ensures))
          c.loop-factor.invariant c.requires.tree c.factor-item.result c.loop-factor-test.true c.factor-item.is
          c.requires.divisions c.build-in-loop-factor.new.graph c.in_ok-of-in-Product.of.items
          c.in_ok-of-in-Product.ensures
          w.multiplied.new.graph w.in_ok-slots-in-Product.slots.items w.deref-else-is_empty.result.now
          w.deref-else-is_empty-2.result.now w.deref-else-is_empty.ensures.value w.deref-else-is_empty-2.ensures.value
          some w.in_ok-slots-in-Product.ensures.slots w.in_ok-slots-in-Product.ensures.mean)))
    ]

pub returns-after-loop-factor : goal.returns-after-loop-factor
returns-after-loop-factor t c = product_built c.args.graph.now c.loop-factor.graph c.args.expr.now
    c.as_slice-factor-items.result.now
    c.loop-factor.factor-index c.loop-factor.slots.items (c.in-Product.is
    ∙ ap Product (sym c.as_slice-factor-items.ensures))
    c.loop-factor.invariant c.requires.tree c.loop-factor-test.false

pub multiplied-requires-clause-some : goal.multiplied-requires-clause-some
multiplied-requires-clause-some t c =
    let some : 0 < length c.loop-factor.slots.items = grind (arith, nat_tests, common_steps) in
    let other : 0 < length c.in_ok-of-in-Product.of.items =
    omega (arith, c.in_ok-of-in-Product.ensures.nodes.slots) in (
      subst (λ (l : List NodeId). 0 < length l) (sym c.deref-else-is_empty.ensures.value) some,
      subst (λ (l : List NodeId). 0 < length l) (sym c.deref-else-is_empty-2.ensures.value) other,
    )

pub multiplied-requires-clause-ids : goal.multiplied-requires-clause-ids
multiplied-requires-clause-ids t c =
    let some : 0 < length c.loop-factor.slots.items = grind (arith, nat_tests, common_steps) in (
      subst (λ (l : List NodeId). AreIn c.build-in-loop-factor.new.graph l) (sym c.deref-else-is_empty.ensures.value)
          (still_in _ _ c.loop-factor.graph c.build-in-loop-factor.new.graph c.in_ok-of-in-Product.of.items
          c.loop-factor.slots.items c.in_ok-of-in-Product.ensures.nodes
          (product_in c.args.graph.now c.loop-factor.graph (take c.loop-factor.factor-index
          c.as_slice-factor-items.result.now) c.loop-factor.slots.items c.loop-factor.invariant some)),
      subst (λ (l : List NodeId). AreIn c.build-in-loop-factor.new.graph l) (sym c.deref-else-is_empty-2.ensures.value)
          c.in_ok-of-in-Product.ensures.nodes.within,
    )

pub multiplied-requires-clause-series : goal.multiplied-requires-clause-series
multiplied-requires-clause-series t c = λ by. subst (λ (l : List NodeId). length l ≡ 1)
    (sym c.deref-else-is_empty-2.ensures.value) (factor_series c.args.graph.now c.loop-factor.graph c.args.expr.now
    c.as_slice-factor-items.result.now
    c.loop-factor.factor-index c.loop-factor.slots.items (c.in-Product.is
    ∙ ap Product (sym c.as_slice-factor-items.ensures))
    c.loop-factor.invariant c.requires.tree c.factor-item.result c.loop-factor-test.true c.factor-item.is
    c.requires.divisions c.build-in-loop-factor.new.graph c.in_ok-of-in-Product.of.items c.in_ok-of-in-Product.ensures
    by)

pub multiplied-requires-clause-room : goal.multiplied-requires-clause-room
multiplied-requires-clause-room t c =
    let some : 0 < length c.loop-factor.slots.items = grind (arith, nat_tests, common_steps) in
    subst (λ (p : List NodeId × List NodeId).
    size_of c.build-in-loop-factor.new.graph + (length p.0 + length p.1 - 1) ≤ 65536)
    (λ l. (sym c.deref-else-is_empty.ensures.value l, sym c.deref-else-is_empty-2.ensures.value l))
    (factors_room c.args.graph.now c.loop-factor.graph c.args.expr.now c.as_slice-factor-items.result.now
    c.loop-factor.factor-index c.loop-factor.slots.items (c.in-Product.is
    ∙ ap Product (sym c.as_slice-factor-items.ensures))
    c.loop-factor.invariant c.requires.tree c.factor-item.result c.loop-factor-test.true c.factor-item.is
    c.requires.divisions c.build-in-loop-factor.new.graph c.in_ok-of-in-Product.of.items c.in_ok-of-in-Product.ensures
    some c.requires.room)

pub loop-summand-init : goal.loop-summand-init
loop-summand-init t c = subst (λ (l : List Addend). SumBuilt c.args.graph.now c.args.graph.now [] l 1)
    (sym c.new-addends.ensures.items) (sum_none c.args.graph.now)

pub loop-factor-init : goal.loop-factor-init
loop-factor-init t c = (refl, c.new-slots.ensures.items)

pub flat-requires-clause-room : goal.flat-requires-clause-room
flat-requires-clause-room t c = λ full.
    let size = c.number.ensures.full.0 full in
    let one = ap node_count c.in-Number.is in
    omega (arith, size, one)

pub flat-requires-in-Name-clause-room : goal.flat-requires-in-Name-clause-room
flat-requires-in-Name-clause-room t c = λ full.
    let size = c.variable.ensures.full.0 full in
    let one = ap node_count c.in-Name.is in
    omega (arith, size, one)

pub flat-requires-then-exponent-eq0-clause-room : goal.flat-requires-then-exponent-eq0-clause-room
flat-requires-then-exponent-eq0-clause-room t c = λ full.
    let size = c.number-then-exponent-eq0.ensures.full.0 full in
    let built = added_size _ _ c.args.graph.now c.build-in-Power.new.graph c.in_ok-slots-in-Power.slots.items
    c.in_ok-slots-in-Power.ensures.nodes in
    let whole = ap node_count c.in-Power.is ∙ node_count-Power c.in-Power.base c.in-Power.exponent
    ∙ ap (nodes_of_power (node_count c.in-Power.base) (formal_degree c.in-Power.base)) c.if-exponent-eq0.true in
    let base = ap node_count c.get.ensures in
    omega (arith, size, built, whole, base)

pub variable-requires : goal.variable-requires
variable-requires t c = subst (λ (e : Expr). IsValidTree (variables_of c.args.graph.now.ring) e) c.in-Name.is
    c.requires.tree

pub returns-in-Name : goal.returns-in-Name
returns-in-Name t c = IfOk-weaker c.flat-in-Name.result _ _ (λ ids flat. name_at c.args.expr.now c.args.graph.now
    c.variable.new.self ids.items c.variable.result c.in-Name.i c.in-Name.is c.variable.ensures.ok flat)
    c.flat-in-Name.ensures

pub main_variable-requires : goal.main_variable-requires
main_variable-requires t c =
    let two = ap node_count c.in-MainVariable.is in
    omega (arith, two)

pub returns-in-MainVariable : goal.returns-in-MainVariable
returns-in-MainVariable t c = IfOk-weaker c.main_variable.result _ _ (λ ids builds. subst
    (λ (e : Expr). Builds e c.args.graph.now c.main_variable.new.graph ids.items) (sym c.in-MainVariable.is) builds)
    c.main_variable.ensures

pub power-requires-clause-ids : goal.power-requires-clause-ids
power-requires-clause-ids t c = subst (λ (l : List NodeId). AreIn c.build-in-Power.new.graph l)
    (sym c.deref-in-Power.ensures.value) c.in_ok-slots-in-Power.ensures.nodes.within

pub power-requires-clause-some : goal.power-requires-clause-some
power-requires-clause-some t c = (
  base_some c.args.graph.now c.args.expr.now c.in-Power.base c.get.result.now c.in-Power.exponent c.in-Power.is
      c.get.ensures c.requires.tree c.build-in-Power.new.graph c.in_ok-slots-in-Power.slots.items
      c.deref-in-Power.result.now c.deref-in-Power.ensures.value c.in_ok-slots-in-Power.ensures,
  omega arith,
)

pub flat-requires-clause-units : goal.flat-requires-clause-units
flat-requires-clause-units t c = c.number.ensures.units

pub flat-requires-in-Name-clause-units : goal.flat-requires-in-Name-clause-units
flat-requires-in-Name-clause-units t c = c.variable.ensures.units

pub flat-requires-then-exponent-eq0-clause-units : goal.flat-requires-then-exponent-eq0-clause-units
flat-requires-then-exponent-eq0-clause-units t c = c.number-then-exponent-eq0.ensures.units
