use Rattle.std.proofs.Common.{◌∙◌, ap, refl, sym, arith, length, map}
use Rattle.parts.specs.Rings.{modulus_of, weights_of}
use Rattle.parts.specs.AccumulatorValue.{cells_map}
use Rattle.parts.proofs.Added.{terms_fit, terms_below, row_small, rows_fit, after_rows}
use Rattle.parts.proofs.Totals.{put_back}
use Rattle.parts.proofs.dense.DenseSum.add_product.Goals as goal

pub place_terms-requires-clause-fits : goal.place_terms-requires-clause-fits
place_terms-requires-clause-fits c =
    terms_fit _ _ c.self.view_is c.n-n.result c.weights-weights.result c.ready_cells.new.sizes
    c.ready_cells.new.cells.items c.n-n.ensures.variables c.weights-weights.ensures c.in_ok-ready_cells.ensures.length
    c.in_ok-ready_cells.ensures.few c.in_ok-ready_cells.ensures.sizes c.args.b.now c.terms.result.now
    c.terms.ensures.entries c.requires.b_part (omega (arith, c.requires.degrees))

pub add_rows-requires-clause-fits : goal.add_rows-requires-clause-fits
add_rows-requires-clause-fits c =
    terms_fit _ _ c.self.view_is c.n-n.result c.weights-weights.result c.ready_cells.new.sizes
    c.ready_cells.new.cells.items c.n-n.ensures.variables c.weights-weights.ensures c.in_ok-ready_cells.ensures.length
    c.in_ok-ready_cells.ensures.few c.in_ok-ready_cells.ensures.sizes c.args.a.now c.terms-2.result.now
    c.terms-2.ensures.entries c.requires.a_part (omega (arith, c.requires.degrees))

pub add_rows-requires-clause-below : goal.add_rows-requires-clause-below
add_rows-requires-clause-below c =
    terms_below _ _ c.self.view_is c.n-n.result c.weights-weights.result c.ready_cells.new.sizes
    c.ready_cells.new.cells.items c.n-n.ensures.variables c.weights-weights.ensures c.in_ok-ready_cells.ensures.length
    c.in_ok-ready_cells.ensures.few c.in_ok-ready_cells.ensures.sizes c.args.a.now c.terms-2.result.now
    c.terms-2.ensures.entries c.requires.a_part _ c.modulus-modulus.ensures

pub add_rows-requires-clause-row_below : goal.add_rows-requires-clause-row_below
add_rows-requires-clause-row_below c =
    row_small _ _ c.self.view_is c.n-n.result c.weights-weights.result c.ready_cells.new.sizes
    c.ready_cells.new.cells.items c.n-n.ensures.variables c.weights-weights.ensures c.in_ok-ready_cells.ensures.length
    c.in_ok-ready_cells.ensures.few c.in_ok-ready_cells.ensures.sizes c.args.b.now c.terms.result.now
    c.terms.ensures.entries c.requires.b_part c.deref.result.now
    (c.deref.ensures.value ∙ c.in_ok-place_terms.ensures)

pub add_rows-requires-clause-inside : goal.add_rows-requires-clause-inside
add_rows-requires-clause-inside c =
    rows_fit _ _ c.self.view_is c.n-n.result c.weights-weights.result c.ready_cells.new.sizes
    c.ready_cells.new.cells.items c.n-n.ensures.variables c.weights-weights.ensures c.in_ok-ready_cells.ensures.length
    c.in_ok-ready_cells.ensures.few c.in_ok-ready_cells.ensures.sizes c.args.b.now c.terms.result.now
    c.terms.ensures.entries c.requires.b_part c.deref.result.now
    (c.deref.ensures.value ∙ c.in_ok-place_terms.ensures) c.deref_mut.result.now c.deref_mut.ensures.value
    c.args.a.now c.terms-2.result.now c.terms-2.ensures.entries c.requires.a_part c.requires.degrees

pub returns-clause-ok : goal.returns-clause-ok
returns-clause-ok c = ap
    (λ l. record {
      ring = c.self.inside.ring;
      degree = c.self.inside.degree;
      map = cells_map (modulus_of c.self.inside.ring) (weights_of c.self.inside.ring) c.self.inside.degree l;
    })
    (put_back c.add_rows.new.cells c.ready_cells.new.cells.items c.ready_cells.new.cells.len
    (omega (arith, ap length c.deref_mut.ensures.value, c.add_rows.auto.cells, c.ready_cells.new.cells.ok.0))
    (sym c.ready_cells.new.cells.ok.0)) ∙
    after_rows _ _ c.self.view_is c.n-n.result c.weights-weights.result c.ready_cells.new.sizes
    c.ready_cells.new.cells.items c.n-n.ensures.variables c.weights-weights.ensures c.in_ok-ready_cells.ensures.length
    c.in_ok-ready_cells.ensures.few c.in_ok-ready_cells.ensures.sizes c.args.b.now c.terms.result.now
    c.terms.ensures.entries c.requires.b_part c.deref.result.now
    (c.deref.ensures.value ∙ c.in_ok-place_terms.ensures) c.deref_mut.result.now c.deref_mut.ensures.value
    c.add_rows.new.cells (omega (arith, c.add_rows.auto.cells)) _ c.modulus-modulus.ensures
    c.self.inside.cells.items refl c.in_ok-ready_cells.ensures.same
    c.args.a.now c.terms-2.result.now c.args.minus c.terms-2.ensures.entries c.requires.a_part c.requires.degrees
    c.add_rows.ensures.totals
