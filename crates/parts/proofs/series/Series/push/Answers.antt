use Rattle.std.proofs.Common.{◌≡◌, ◌++◌, ◌∷◌, [], ◌∙◌, ap}
use Rattle.std.proofs.lemmas.Result.{on_ok_weaker}
use Rattle.std.specs.Arc.{arc_value}
use Rattle.parts.specs.SeriesParts.{SeriesValue}
use Rattle.parts.proofs.series.Series.push.Goals as goal

pub returns-clause-ok : goal.returns-clause-ok
returns-clause-ok c = on_ok_weaker c.push_part.result (λ e. (λ i. record {
  ring = ap (λ (s : SeriesValue). s.ring) c.self.view_is i;
  parts = (e ∙ ap (λ (s : SeriesValue). s.parts ++ arc_value c.args.part.now ∷ []) c.self.view_is) i;
})) c.push_part.ensures.ok
