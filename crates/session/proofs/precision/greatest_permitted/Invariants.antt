use Rattle.std.proofs.Common.{◌-◌, ◌<◌, ◌≤◌}
use Rattle.parts.specs.JobRows.{IsPermitted}
use Rattle.parts.specs.Rings.{weights_of}
use Rattle.session.proofs.precision.greatest_permitted.Given as goal

abbrev pub invariant-loop-least : goal.invariant-loop-least
invariant-loop-least l = record {
  permitted : IsPermitted (weights_of l.ring) l.least;
  past : IsPermitted (weights_of l.ring) l.past → ⊥;
  below : l.least < l.past;
  low : l.past ≤ 4096;
}

abbrev pub decreases-loop-least : goal.decreases-loop-least
decreases-loop-least l = l.past - l.least
