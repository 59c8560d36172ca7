use Rattle.std.proofs.Common.{List, ℕ, sym, ◌∙◌, ap, subst}
use Rattle.std.specs.declared.alloc.Global.{Global}
use Rattle.std.specs.declared.vec.Vec.{Vec}
use Rattle.residue.specs.ProductSums.{Gains}
use Rattle.parts.specs.RowsOfParts.{parts_of}
use Rattle.parts.specs.SeriesParts.{SeriesValue}
use Rattle.parts.specs.SeriesRows.{rows_in, crossed_entry}
use Rattle.parts.proofs.SeriesHeld.{product_at}
use Rattle.parts.proofs.series.Series.add_product_at.Goals as goal

pub returns : goal.returns
returns c = product_at c.self.inside.ring c.other.inside.ring c.args.self.now.ring
    (parts_of c.self.inside.parts.items) (parts_of c.other.inside.parts.items) c.args.self.now.parts
    c.args.other.now.parts (rows_in c.self.inside.rows.items) (rows_in c.other.inside.rows.items) c.args.monomial.now
    c.power.result c.power-2.result c.args.sum.now c.add_crossed.new.sum c.self.invariant c.other.invariant
    (ap (λ (s : SeriesValue). s.ring) c.self.view_is) (ap (λ (s : SeriesValue). s.ring) c.other.view_is ∙ c.requires.ring)
    (ap (λ (s : SeriesValue). s.parts) c.self.view_is) (ap (λ (s : SeriesValue). s.parts) c.other.view_is)
    c.requires.contiguous c.requires.key c.power.ensures c.power-2.ensures
    (subst (λ (rows : List (Vec ℕ Global)). Gains c.args.sum.now c.add_crossed.new.sum
    (crossed_entry (rows_in c.self.inside.rows.items) (rows_in rows) c.power-2.result c.power.result))
    c.deref-2.ensures.value
    (subst (λ (rows : List (Vec ℕ Global)). Gains c.args.sum.now c.add_crossed.new.sum
    (crossed_entry (rows_in rows) (rows_in c.deref-2.result.now) c.power-2.result c.power.result))
    c.deref.ensures.value c.add_crossed.ensures))
