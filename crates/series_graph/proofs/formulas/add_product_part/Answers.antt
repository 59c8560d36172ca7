use Rattle.std.proofs.lemmas.Result.{on_ok_weaker}
use Rattle.std.proofs.Common.{subst}
use Rattle.ps_model.specs.SeriesRing.{Poly}
use Rattle.parts.specs.Series.{series}
use Rattle.units.specs.SeriesParts.{Changes}
use Rattle.units.proofs.Crossed.{crossed-swapped}
use Rattle.series_graph.proofs.formulas.add_product_part.Goals as goal

pub returns-then-nonzero : goal.returns-then-nonzero
returns-then-nonzero c = on_ok_weaker c.add_products.result
    (subst (λ (p : Poly (series c.args.sum.now.ring)). Changes c.args.sum.now.ring c.args.sum.now
    c.add_products.new.sum p)
    (crossed-swapped c.args.sum.now.ring c.args.a.now c.args.b.now c.args.r c.requires.a_parts c.requires.b_parts))
    c.add_products.ensures
