use Rattle.units.specs.SeriesParts.{series_of}
use Rattle.std.specs.Arc.{arc_value}
use Rattle.series_tests.proofs.FirstParts.{known_first_none, known_first_one}
use Rattle.series_tests.proofs.known_parts.divided.Goals as goal

pub loop-init : goal.loop-init
loop-init c = known_first_none c.args.ring (series_of c.args.ring c.args.a.now) (series_of c.args.ring c.args.b.now)
    c.new-own.result c.new-own.ensures

pub quotient_next_of-requires-clause-own_parts : goal.quotient_next_of-requires-clause-own_parts
quotient_next_of-requires-clause-own_parts c = c.loop.invariant.parts

pub quotient_next_of-requires-clause-own_first : goal.quotient_next_of-requires-clause-own_first
quotient_next_of-requires-clause-own_first c = c.loop.invariant.first

pub loop-preserved : goal.loop-preserved
loop-preserved c = known_first_one c.args.ring (series_of c.args.ring c.args.a.now)
    (series_of c.args.ring c.args.b.now) c.loop.counter c.loop.own c.push.new.self c.in_ok-part.part
    (arc_value c.in_ok-new.field-0) c.loop.invariant c.in_ok-push.ensures.ok c.in_ok-new.ensures.ok
    c.in_ok-part.ensures.degree c.in_ok-part.ensures.part c.in_ok-part.ensures.first
