use Rattle.std.proofs.Common.{◌<◌, sym, subst, arith, take, [], All}
use Rattle.parts.specs.PartValue.{IsPartOf}
use Rattle.parts.specs.Rings.{weights_of}
use Rattle.parts.proofs.Added.{cells_below, cells_part, ring_few, terms_held}
use Rattle.parts.proofs.Gained.{all_take, cells_terms}
use Rattle.parts.proofs.dense.DenseSum.finish.Goals as goal

pub collect_terms-requires-clause-positive : goal.collect_terms-requires-clause-positive
collect_terms-requires-clause-positive c =
    subst (All (λ w. 0 < w)) (sym (λ i. take (c.n-n.ensures.variables i) (c.weights-weights.ensures i)))
    (all_take (λ w. 0 < w) c.self.inside.ring.n c.self.inside.ring.weights c.self.inside.ring.positive)

pub returns-then-is_empty-clause-part : goal.returns-then-is_empty-clause-part
returns-then-is_empty-clause-part c =
    subst (λ s. IsPartOf s.ring c.zero.result) c.self.view_is
    (cells_part c.self.inside.ring c.self.inside.degree [] (omega arith) c.zero.result c.zero.ensures.degree
    c.zero.ensures.map)

pub of_terms-requires : goal.of_terms-requires
of_terms-requires c =
    cells_terms c.self.inside.ring c.self.inside.degree c.self.inside.cells.items c.in_ok-terms.terms.items
    (ring_few c.self.inside.ring)
    (cells_below (weights_of c.self.inside.ring) c.self.inside.degree _ c.self.inside.cells.items c.self.invariant.2)
    (terms_held c.self.inside.ring c.self.inside.degree c.self.inside.cells.items _ _ _ _ c.in_ok-terms.terms.items
    c.n-n.ensures.variables c.weights-weights.ensures c.modulus.ensures c.deref.ensures.value c.in_ok-terms.ensures)

pub returns-clause-part : goal.returns-clause-part
returns-clause-part c = subst (λ s. IsPartOf s.ring c.of_terms.result) c.self.view_is c.of_terms.ensures.part
