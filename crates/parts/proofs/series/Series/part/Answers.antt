use Rattle.std.proofs.Common.{◌≡◌, ◌<◌, length, sym, ◌∙◌, ap, subst, arith}
use Rattle.std.proofs.lemmas.List.{length-map}
use Rattle.std.specs.Arc.{arc_value}
use Rattle.parts.specs.PartValue.{PartValue, IsPartOf}
use Rattle.parts.specs.RowsOfParts.{parts_of, part_in}
use Rattle.parts.specs.SeriesParts.{SeriesValue}
use Rattle.parts.specs.declared.rings.Ring.{Ring}
use Rattle.parts.proofs.RowsRead.{part_read}
use Rattle.parts.proofs.series.Series.part.Goals as goal

inside : (c : goal.After-deref) → c.args.r < length (parts_of c.self.inside.parts.items)
inside c = subst (λ (s : SeriesValue). c.args.r < length s.parts) (sym c.self.view_is) c.requires

read : (c : goal.After-deref) → part_in (parts_of c.self.inside.parts.items) c.args.r ≡ c.deref.result.now
read c = part_read c.self.inside.parts.items c.args.r c.index.result.now
    (omega (arith, inside c, length-map c.self.inside.parts.items arc_value)) c.index.ensures ∙ sym c.deref.ensures

pub returns-clause-degree : goal.returns-clause-degree
returns-clause-degree c = subst (λ (p : PartValue). p.degree ≡ c.args.r) (read c)
    (c.self.invariant.parts_are c.args.r (inside c)).0

pub returns-clause-of_ring : goal.returns-clause-of_ring
returns-clause-of_ring c = subst (λ (R : Ring). IsPartOf R c.deref.result.now)
    (ap (λ (s : SeriesValue). s.ring) c.self.view_is)
    (subst (IsPartOf c.self.inside.ring) (read c) (c.self.invariant.parts_are c.args.r (inside c)).1)
