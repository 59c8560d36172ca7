use Rattle.std.proofs.Common.{◌≤◌, All, sym, subst, arith}
use Rattle.ps_model.specs.Plain.{key_of}
use Rattle.ps_model.specs.PlainLists.{plain_degree}
use Rattle.parts.specs.Rings.{eight_weights}
use Rattle.comparison.proofs.ComparedViews.{same_start, same_next, same_end, first_here}
use Rattle.comparison.proofs.LowTerms.{low_terms}
use Rattle.comparison.proofs.polynomials.first_slice.Goals as goal

pub loop-power-init : goal.loop-power-init
loop-power-init g c =
    let view = c.args.view.now in
    same_start (g.V.BlockView.value view) (g.V.NameView.names view) (g.met.V.BlockView.lawful view) c.args.d
    c.requires.known c.args.of c.args.times c.requires.of c.args.other.now c.requires.within

pub by_degree-requires-clause-low : goal.by_degree-requires-clause-low
by_degree-requires-clause-low g c =
    let value = g.V.BlockView.value c.args.view.now in
    subst (λ r. All (λ t. plain_degree (eight_weights r) (key_of t) ≤ c.args.d) c.terms.result.now) (sym c.ring.ensures)
    (low_terms value.ring c.args.times c.args.d c.args.other.now c.requires.within c.terms.result.now
    c.terms.ensures.listed)

pub returns-in-Some-clause-some : goal.returns-in-Some-clause-some
returns-in-Some-clause-some g c =
    let view = c.args.view.now in
    first_here (g.V.BlockView.value view) (g.V.NameView.names view) (g.met.V.BlockView.lawful view) c.args.d
    c.requires.known c.args.of c.args.times c.requires.of c.args.other.now c.requires.within c.terms.result.now
    c.terms.ensures.listed c.loop-power.power (omega (arith, c.loop-power.auto.power)) c.ring.result c.ring.ensures
    c.in_ok-lists.lists.items c.deref.result.now c.deref.ensures.value c.in_ok-lists.ensures c.loop-power.invariant
    c.in-Some.degree c.in-Some.ensures.some

pub loop-power-preserved : goal.loop-power-preserved
loop-power-preserved g c =
    let view = c.args.view.now in
    let same = same_next (g.V.BlockView.value view) (g.V.NameView.names view) (g.met.V.BlockView.lawful view) c.args.d
    c.requires.known c.args.of c.args.times c.requires.of c.args.other.now c.requires.within c.terms.result.now
    c.terms.ensures.listed c.loop-power.power (omega (arith, c.loop-power.auto.power)) c.ring.result c.ring.ensures
    c.in_ok-lists.lists.items c.deref.result.now c.deref.ensures.value c.in_ok-lists.ensures c.loop-power.invariant
    c.in_default.ensures.none in
    λ h s le. same h s (omega (arith, le))

pub returns-in_default-clause-none : goal.returns-in_default-clause-none
returns-in_default-clause-none g c =
    let view = c.args.view.now in
    let same = same_next (g.V.BlockView.value view) (g.V.NameView.names view) (g.met.V.BlockView.lawful view) c.args.d
    c.requires.known c.args.of c.args.times c.requires.of c.args.other.now c.requires.within c.terms.result.now
    c.terms.ensures.listed c.loop-power.power (omega (arith, c.loop-power.auto.power)) c.ring.result c.ring.ensures
    c.in_ok-lists.lists.items c.deref.result.now c.deref.ensures.value c.in_ok-lists.ensures c.loop-power.invariant
    c.in_default.ensures.none in
    same_end (g.V.BlockView.value view) (g.V.NameView.names view) (g.met.V.BlockView.lawful view) c.args.d
    c.requires.known c.args.of c.args.times c.requires.of c.args.other.now c.requires.within
    (λ h s le. same h s (omega arith))
