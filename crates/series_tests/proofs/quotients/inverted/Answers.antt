use Rattle.std.proofs.Common.{◌≡◌, ◌<◌, ◌≤◌, length, sym, ◌∙◌, ap, subst, arith}
use Rattle.ps_model.specs.Notation.{one}
use Rattle.parts.specs.RowsOfParts.{parts_of}
use Rattle.units.specs.SeriesParts.{AreSeriesParts, AreQuotientParts, series_of}
use Rattle.series_tests.proofs.FirstParts.{first_none, first_one}
use Rattle.series_tests.proofs.quotients.inverted.Goals as goal

pub loop-init : goal.loop-init
loop-init c = first_none c.args.ring one (series_of c.args.ring (parts_of c.args.b.now)) c.new-own.result.items
    c.new-own.ensures.items

pub inverse_next-requires-clause-permitted : goal.inverse_next-requires-clause-permitted
inverse_next-requires-clause-permitted c =
    let seen = ap length c.deref.ensures.value in
    let count = c.loop.invariant.are.count in
    let low = c.requires.low in
    omega arith

pub inverse_next-requires-clause-enough : goal.inverse_next-requires-clause-enough
inverse_next-requires-clause-enough c =
    let seen = ap length c.deref.ensures.value in
    let count = c.loop.invariant.are.count in
    omega arith

pub inverse_next-requires-clause-own_parts : goal.inverse_next-requires-clause-own_parts
inverse_next-requires-clause-own_parts c = subst (λ row. AreSeriesParts c.args.ring (parts_of row))
    (sym c.deref.ensures.value) c.loop.invariant.are.parts

pub inverse_next-requires-clause-own_first : goal.inverse_next-requires-clause-own_first
inverse_next-requires-clause-own_first c = subst
    (λ row. AreQuotientParts c.args.ring one (series_of c.args.ring (parts_of c.args.b.now)) (parts_of row))
    (sym c.deref.ensures.value) c.loop.invariant.first

pub loop-preserved : goal.loop-preserved
loop-preserved c = first_one c.args.ring one (series_of c.args.ring (parts_of c.args.b.now)) c.loop.counter
    c.loop.own.items c.deref.result.now c.push.new.self.items c.in_ok-new.field-0 c.in_ok-part.part c.loop.invariant
    c.deref.ensures.value c.in_ok-push.ensures.items c.in_ok-new.ensures.ok c.in_ok-part.ensures.degree
    c.in_ok-part.ensures.part c.in_ok-part.ensures.first
