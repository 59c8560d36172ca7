use Rattle.std.proofs.Common.{◌∙◌, ap, refl, sym, arith, length, map}
use Rattle.parts.specs.Rings.{modulus_of, weights_of}
use Rattle.parts.specs.AccumulatorValue.{cells_map}
use Rattle.parts.proofs.Added.{terms_fit, row_small, row_fits, after_row}
use Rattle.parts.proofs.Totals.{put_back}
use Rattle.parts.proofs.dense.DenseSum.add_scaled.Goals as goal

pub place_terms-requires-clause-fits : goal.place_terms-requires-clause-fits
place_terms-requires-clause-fits c =
    terms_fit _ _ c.self.view_is c.n-n.result c.weights-weights.result c.ready_cells.new.sizes
    c.ready_cells.new.cells.items c.n-n.ensures.variables c.weights-weights.ensures c.in_ok-ready_cells.ensures.length
    c.in_ok-ready_cells.ensures.few c.in_ok-ready_cells.ensures.sizes c.args.a.now c.terms.result.now
    c.terms.ensures.entries c.requires.a_part (omega (arith, c.requires.degrees))

pub add_row-requires-clause-c_below : goal.add_row-requires-clause-c_below
add_row-requires-clause-c_below c = let h = c.self.inside.ring.modulus.high in
    omega (arith, h, c.requires.residue, ap (λ s. s.ring.modulus.value) c.self.view_is)

pub add_row-requires-clause-row_below : goal.add_row-requires-clause-row_below
add_row-requires-clause-row_below c =
    row_small _ _ c.self.view_is c.n-n.result c.weights-weights.result c.ready_cells.new.sizes
    c.ready_cells.new.cells.items c.n-n.ensures.variables c.weights-weights.ensures c.in_ok-ready_cells.ensures.length
    c.in_ok-ready_cells.ensures.few c.in_ok-ready_cells.ensures.sizes c.args.a.now c.terms.result.now
    c.terms.ensures.entries c.requires.a_part c.deref.result.now
    (c.deref.ensures.value ∙ c.in_ok-place_terms.ensures)

pub add_row-requires-clause-inside : goal.add_row-requires-clause-inside
add_row-requires-clause-inside c =
    row_fits _ _ c.self.view_is c.n-n.result c.weights-weights.result c.ready_cells.new.sizes
    c.ready_cells.new.cells.items c.n-n.ensures.variables c.weights-weights.ensures c.in_ok-ready_cells.ensures.length
    c.in_ok-ready_cells.ensures.few c.in_ok-ready_cells.ensures.sizes c.args.a.now c.terms.result.now
    c.terms.ensures.entries c.requires.a_part c.deref.result.now
    (c.deref.ensures.value ∙ c.in_ok-place_terms.ensures) c.deref_mut.result.now c.deref_mut.ensures.value
    c.requires.degrees

pub returns-clause-ok : goal.returns-clause-ok
returns-clause-ok c = ap
    (λ l. record {
      ring = c.self.inside.ring;
      degree = c.self.inside.degree;
      map = cells_map (modulus_of c.self.inside.ring) (weights_of c.self.inside.ring) c.self.inside.degree l;
    })
    (put_back c.add_row.new.cells c.ready_cells.new.cells.items c.ready_cells.new.cells.len
    (omega (arith, ap length c.deref_mut.ensures.value, c.add_row.auto.cells, c.ready_cells.new.cells.ok.0))
    (sym c.ready_cells.new.cells.ok.0)) ∙
    after_row _ _ c.self.view_is c.n-n.result c.weights-weights.result c.ready_cells.new.sizes
    c.ready_cells.new.cells.items c.n-n.ensures.variables c.weights-weights.ensures c.in_ok-ready_cells.ensures.length
    c.in_ok-ready_cells.ensures.few c.in_ok-ready_cells.ensures.sizes c.args.a.now c.terms.result.now
    c.terms.ensures.entries c.requires.a_part c.deref.result.now
    (c.deref.ensures.value ∙ c.in_ok-place_terms.ensures) c.deref_mut.result.now c.deref_mut.ensures.value
    c.add_row.new.cells (omega (arith, c.add_row.auto.cells)) _ c.self.invariant.0
    c.self.inside.cells.items refl c.in_ok-ready_cells.ensures.same
    c.args.c c.requires.degrees c.add_row.ensures.totals
