use Rattle.std.proofs.Common.{◌-◌, length, take, ◌∙◌, ap}
use Rattle.parts.specs.SeriesParts.{SeriesValue}
use Rattle.parts.proofs.series.Series.pop.Goals as goal

pub returns : goal.returns
returns c = λ i. record {
  ring = ap (λ (s : SeriesValue). s.ring) c.self.view_is i;
  parts = (c.pop_part.ensures.parts ∙ ap (λ (s : SeriesValue). take (length s.parts - 1) s.parts) c.self.view_is) i;
}
