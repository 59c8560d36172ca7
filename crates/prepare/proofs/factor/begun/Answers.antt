use Rattle.std.proofs.Common.{◌≡◌, ◌++◌, ◌∷◌, [], length, sym, ◌∙◌, ap, subst, arith}
use Rattle.std.proofs.lemmas.Grind.{common_steps}
use Rattle.std.specs.Arc.{arc_value}
use Rattle.parts.specs.PartValue.{IsPartOf}
use Rattle.parts.specs.RowsOfParts.{parts_of}
use Rattle.parts.specs.SeriesParts.{SeriesValue, with_part}
use Rattle.parts.specs.declared.rings.Ring.{Ring}
use Rattle.prepare.proofs.Columns.{columns_first, first_part}
use Rattle.prepare.proofs.factor.begun.Goals as goal

pub push-requires-clause-of_ring : goal.push-requires-clause-of_ring
push-requires-clause-of_ring c =
    let first = first_part c.args.ring c.args.row.now c.loop-i.i c.index-row-i.result c.requires.parts
    (let places = c.requires.places in omega arith) c.index-row-i.is in
    subst (λ (R : Ring). IsPartOf R (arc_value c.index-row-i.result))
    (sym (ap (λ (s : SeriesValue). s.ring) c.new-series.ensures)) first.0.1

pub push-requires-clause-degree : goal.push-requires-clause-degree
push-requires-clause-degree c =
    let first = first_part c.args.ring c.args.row.now c.loop-i.i c.index-row-i.result c.requires.parts
    (let places = c.requires.places in omega arith) c.index-row-i.is in
    first.0.0 ∙ sym (ap (λ (s : SeriesValue). length s.parts) c.new-series.ensures)

pub loop-i-preserved : goal.loop-i-preserved
loop-i-preserved c =
    let items : c.push-in-loop-i.new.self.items ≡ c.loop-i.all.items ++ c.push.new.self ∷ [] =
    grind (arith, common_steps) in
    let first = first_part c.args.ring c.args.row.now c.loop-i.i c.index-row-i.result c.requires.parts
    (let places = c.requires.places in omega arith) c.index-row-i.is in
    columns_first c.args.ring (parts_of c.args.row.now) c.loop-i.i c.loop-i.all.items c.push.new.self
    c.push-in-loop-i.new.self.items c.loop-i.invariant items
    (c.in_ok-push.ensures.ok ∙ (λ l. with_part (c.new-series.ensures l) (first.1 l)))
