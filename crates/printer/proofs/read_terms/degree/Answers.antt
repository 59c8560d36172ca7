use Rattle.std.proofs.Common.{◌≡◌, ◌<◌, drop, ◌∙◌, sym, arith, subst}
use Rattle.std.proofs.lemmas.List.{get_or-take}
use Rattle.parts.specs.Rings.{eight_weights}
use Rattle.printer.specs.ReadForms.{IsNamed}
use Rattle.std.proofs.Common.{[]}
use Rattle.printer.proofs.ReadDegrees.{degree_is, dot_more, dot_end, product_small}
use Rattle.printer.proofs.read_terms.degree.Goals as goal

pub overflow_mul-degree : goal.overflow_mul-degree
overflow_mul-degree c =
    let small : c.from-power.result < 65536 = omega (arith, c.from-power.ensures, c.loop-i-test.element_fits) in
    omega (arith, product_small c.weight.result c.from-power.result c.weight.ensures.few small)

pub overflow_add-degree : goal.overflow_add-degree
overflow_add-degree c =
    let small : c.from-power.result < 65536 = omega (arith, c.from-power.ensures, c.loop-i-test.element_fits) in
    omega (
      arith,
      product_small c.weight.result c.from-power.result c.weight.ensures.few small,
      c.loop-i.invariant.small,
      c.loop-i-test.true,
      c.n-i-end.ensures.few,
    )

pub loop-i-preserved : goal.loop-i-preserved
loop-i-preserved c =
    let small : c.from-power.result < 65536 = omega (arith, c.from-power.ensures, c.loop-i-test.element_fits) in
    record {
      going = dot_more (eight_weights c.args.ring) c.args.term.now.powers c.loop-i.i c.loop-i.degree _
          c.weight.result c.from-power.result
          (omega (arith, c.args.ring.many, c.loop-i-test.true, c.n-i-end.ensures.few))
          (omega (arith, c.requires.all, c.loop-i-test.true, c.n-i-end.ensures.few))
          (c.weight.ensures.weight ∙ get_or-take c.args.ring.n c.args.ring.weights c.loop-i.i 0
          (omega (arith, c.loop-i-test.true, c.n-i-end.ensures.variables)))
          c.from-power.ensures c.loop-i.invariant.going;
      small = omega (
        arith,
        product_small c.weight.result c.from-power.result c.weight.ensures.few small,
        c.loop-i.invariant.small,
      );
    }

pub returns : goal.returns
returns c =
    let end : c.args.ring.n ≡ c.loop-i.i =
    omega (arith, c.n-i-end.ensures.variables, c.loop-i-test.false, c.loop-i.auto.i-end) in
    dot_end (eight_weights c.args.ring) c.args.term.now.powers c.loop-i.i c.loop-i.degree _
    (subst (λ n. IsNamed [] (drop n c.args.term.now.powers)) end c.requires.past) c.loop-i.invariant.going
    ∙ sym (degree_is (eight_weights c.args.ring) c.args.term.now c.args.ring.many c.requires.all c.args.ring.positive)
