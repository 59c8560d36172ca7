use Rattle.std.proofs.Common.{◌≡◌, ◌++◌, ◌∷◌, [], List, map, refl, ◌∙◌, ap, arith}
use Rattle.std.proofs.lemmas.Grind.{common_steps}
use Rattle.std.proofs.lemmas.List.{map_push}
use Rattle.std.specs.Arc.{arc_value}
use Rattle.std.specs.FinMap.{entries}
use Rattle.parts.specs.PartValue.{PartValue}
use Rattle.parts.specs.RowsOfParts.{parts_of}
use Rattle.parts.specs.SeriesRows.{rows_in}
use Rattle.parts.specs.Terms.{entry_of}
use Rattle.parts.specs.declared.terms.Term.{Term}
use Rattle.parts.proofs.SeriesHeld.{series_more, next_empty, next_low, terms_pairs}
use Rattle.parts.proofs.series.push_part.Goals as goal

listed : (ts : List Term) (p q : PartValue) → p ≡ q → map entry_of ts ≡ entries p.map → map entry_of ts ≡ entries q.map
listed ts p q e h = h ∙ ap (λ (t : PartValue). entries t.map) e

pub put_terms-requires-clause-places : goal.put_terms-requires-clause-places
put_terms-requires-clause-places c = c.in_ok-make_places.ensures.places

pub put_terms-requires-clause-pairs : goal.put_terms-requires-clause-pairs
put_terms-requires-clause-pairs c =
    (terms_pairs c.args.ring (c.if-not-is_contiguous.ensures.0 refl) (arc_value c.args.part.now) c.terms-terms.result.now
    c.requires.of_ring
    (listed c.terms-terms.result.now c.deref.result.now (arc_value c.args.part.now) c.deref.ensures c.terms-terms.ensures.entries))

pub put_terms-requires-clause-empty : goal.put_terms-requires-clause-empty
put_terms-requires-clause-empty c = next_empty c.args.ring (parts_of c.args.parts.now.items) (rows_in c.args.rows.now.items) c.requires.series
    (arc_value c.args.part.now)
    c.terms-terms.result.now (c.if-not-is_contiguous.ensures.0 refl) c.requires.degree c.requires.of_ring
    (listed c.terms-terms.result.now c.deref.result.now (arc_value c.args.part.now) c.deref.ensures c.terms-terms.ensures.entries)
    (rows_in c.make_places.new.rows.items) c.make_places.ensures.same
    (terms_pairs c.args.ring (c.if-not-is_contiguous.ensures.0 refl) (arc_value c.args.part.now) c.terms-terms.result.now
    c.requires.of_ring
    (listed c.terms-terms.result.now c.deref.result.now (arc_value c.args.part.now) c.deref.ensures c.terms-terms.ensures.entries))

pub returns-clause-series : goal.returns-clause-series
returns-clause-series c =
    let items : c.push-2.new.self.items ≡ c.args.parts.now.items ++ c.in_ok-shared.shared ∷ [] =
    grind (arith, common_steps) in
    let value : arc_value c.in_ok-shared.shared ≡ arc_value c.args.part.now = c.in_ok-shared.ensures in
    let more : parts_of c.push-2.new.self.items ≡ parts_of c.args.parts.now.items ++ arc_value c.args.part.now ∷ [] =
    ap parts_of items ∙ map_push arc_value c.args.parts.now.items c.in_ok-shared.shared ∙
    ap (λ (p : PartValue). parts_of c.args.parts.now.items ++ p ∷ []) value in
    series_more c.args.ring (parts_of c.args.parts.now.items) (rows_in c.args.rows.now.items) c.requires.series
    (arc_value c.args.part.now)
    (parts_of c.push-2.new.self.items) (rows_in c.make_places.new.rows.items)
    (rows_in c.put_terms.new.rows.items) c.terms-terms.result.now (c.if-not-is_contiguous.ensures.0 refl)
    c.requires.permitted c.requires.degree c.requires.of_ring more c.make_places.ensures.same
    (listed c.terms-terms.result.now c.deref.result.now (arc_value c.args.part.now) c.deref.ensures c.terms-terms.ensures.entries)
    c.put_terms.ensures.coefficients
    (next_low c.args.ring (parts_of c.args.parts.now.items) (rows_in c.args.rows.now.items) c.requires.series
    (arc_value c.args.part.now)
    c.terms-terms.result.now (rows_in c.make_places.new.rows.items) (rows_in c.put_terms.new.rows.items)
    (c.if-not-is_contiguous.ensures.0 refl) c.requires.of_ring
    (listed c.terms-terms.result.now c.deref.result.now (arc_value c.args.part.now) c.deref.ensures c.terms-terms.ensures.entries)
    c.make_places.ensures.same c.put_terms.ensures.low)
