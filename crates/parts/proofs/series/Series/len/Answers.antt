use Rattle.std.proofs.Common.{arith}
use Rattle.std.proofs.lemmas.List.{length-map}
use Rattle.std.specs.Arc.{arc_value}
use Rattle.parts.proofs.series.Series.len.Goals as goal

pub returns-clause-low : goal.returns-clause-low
returns-clause-low c = omega (
  arith,
  c.len.ensures,
  c.self.invariant.few,
  length-map c.self.inside.parts.items arc_value,
  c.self.inside.parts.ok.0,
)
