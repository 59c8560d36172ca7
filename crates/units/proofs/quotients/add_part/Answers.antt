use Rattle.std.proofs.Common.{◌∙◌, ap, subst}
use Rattle.ps_model.specs.SeriesRing.{ring as ring_of, Poly}
use Rattle.ps_model.proofs.Images.{scaled_one}
use Rattle.parts.specs.Series.{series, polynomial_in}
use Rattle.parts.proofs.Polynomials.{polynomial_in-empty}
use Rattle.units.specs.SeriesParts.{Changes}
use Rattle.units.proofs.Added.{changes-nothing, changes-multiple}
use Rattle.units.proofs.quotients.add_part.Goals as goal

pub returns-then-is_zero : goal.returns-then-is_zero
returns-then-is_zero c = changes-nothing c.args.sum.now.ring c.args.sum.now _
    (ap (polynomial_in c.args.sum.now.ring) (c.is_zero.ensures.0 c.if-is_zero.true)
    ∙ polynomial_in-empty c.args.sum.now.ring)

pub returns : goal.returns
returns c = subst (λ (p : Poly (series c.args.sum.now.ring)). Changes c.args.sum.now.ring c.args.sum.now
    c.add_scaled.new.self p) (scaled_one (ring_of (series c.args.sum.now.ring)) _)
    (changes-multiple c.args.sum.now c.add_scaled.new.self 1 c.args.f.now c.in_ok-add_scaled.ensures.ok)
