use Rattle.std.proofs.Common.{◌≡◌, ◌++◌, ◌∷◌, [], ℕ, List, map, refl, ◌∙◌, ap, subst}
use Rattle.std.proofs.lemmas.Bool.{false≢true}
use Rattle.std.proofs.lemmas.List.{map_push}
use Rattle.std.specs.Arc.{arc_value}
use Rattle.std.specs.FinMap.{entries}
use Rattle.std.specs.declared.alloc.Global.{Global}
use Rattle.std.specs.declared.sync.Arc.{Arc}
use Rattle.parts.specs.PartValue.{PartValue}
use Rattle.parts.specs.RowsOfParts.{parts_of}
use Rattle.parts.specs.SeriesRows.{rows_in, IsSeries}
use Rattle.parts.specs.Terms.{entry_of}
use Rattle.parts.specs.declared.rings.Ring.{Ring}
use Rattle.parts.specs.declared.terms.Term.{Term}
use Rattle.parts.proofs.SeriesHeld.{series_less, series_less_none, last_is, last_held, last_places, terms_pairs}
use Rattle.parts.proofs.series.pop_part.Goals as goal

whole : (ring : Ring) (old new : List (Arc PartValue Global)) (last : Arc PartValue Global) (rows : List (List ℕ)) →
    old ≡ new ++ last ∷ [] → IsSeries ring (parts_of old) rows →
    IsSeries ring (parts_of new ++ arc_value last ∷ []) rows
whole ring old new last rows e h = subst (λ (ps : List PartValue). IsSeries ring ps rows)
    (ap parts_of e ∙ map_push arc_value new last) h

listed : (ts : List Term) (p q : PartValue) → p ≡ q → map entry_of ts ≡ entries p.map → map entry_of ts ≡ entries q.map
listed ts p q e h = h ∙ ap (λ (t : PartValue). entries t.map) e

pub clear_terms-requires-clause-pairs : goal.clear_terms-requires-clause-pairs
clear_terms-requires-clause-pairs c =
    (terms_pairs c.args.ring (c.if-is_contiguous.ensures.0 refl) (arc_value c.in-Some.last) c.terms.result.now
    (last_is c.args.ring (parts_of c.pop.new.self.items) (arc_value c.in-Some.last)
    (rows_in c.args.rows.now.items)
    (whole c.args.ring c.args.parts.now.items c.pop.new.self.items c.in-Some.last
    (rows_in c.args.rows.now.items) c.in-Some.ensures.items c.requires.series)).1
    (listed c.terms.result.now c.deref.result.now (arc_value c.in-Some.last) c.deref.ensures c.terms.ensures.entries))

pub clear_terms-requires-clause-held : goal.clear_terms-requires-clause-held
clear_terms-requires-clause-held c =
    (last_held c.args.ring (parts_of c.pop.new.self.items) (arc_value c.in-Some.last)
    (rows_in c.args.rows.now.items)
    (whole c.args.ring c.args.parts.now.items c.pop.new.self.items c.in-Some.last
    (rows_in c.args.rows.now.items) c.in-Some.ensures.items c.requires.series)
    c.terms.result.now (c.if-is_contiguous.ensures.0 refl)
    (listed c.terms.result.now c.deref.result.now (arc_value c.in-Some.last) c.deref.ensures c.terms.ensures.entries)
    c.terms.ensures.order.0
    (terms_pairs c.args.ring (c.if-is_contiguous.ensures.0 refl) (arc_value c.in-Some.last) c.terms.result.now
    (last_is c.args.ring (parts_of c.pop.new.self.items) (arc_value c.in-Some.last)
    (rows_in c.args.rows.now.items)
    (whole c.args.ring c.args.parts.now.items c.pop.new.self.items c.in-Some.last
    (rows_in c.args.rows.now.items) c.in-Some.ensures.items c.requires.series)).1
    (listed c.terms.result.now c.deref.result.now (arc_value c.in-Some.last) c.deref.ensures c.terms.ensures.entries)))

pub clear_terms-requires-clause-places : goal.clear_terms-requires-clause-places
clear_terms-requires-clause-places c = last_places c.args.ring (parts_of c.pop.new.self.items) (arc_value c.in-Some.last)
    (rows_in c.args.rows.now.items)
    (whole c.args.ring c.args.parts.now.items c.pop.new.self.items c.in-Some.last
    (rows_in c.args.rows.now.items) c.in-Some.ensures.items c.requires.series)
    c.terms.result.now c.terms.ensures.order.1
    (last_held c.args.ring (parts_of c.pop.new.self.items) (arc_value c.in-Some.last)
    (rows_in c.args.rows.now.items)
    (whole c.args.ring c.args.parts.now.items c.pop.new.self.items c.in-Some.last
    (rows_in c.args.rows.now.items) c.in-Some.ensures.items c.requires.series)
    c.terms.result.now (c.if-is_contiguous.ensures.0 refl)
    (listed c.terms.result.now c.deref.result.now (arc_value c.in-Some.last) c.deref.ensures c.terms.ensures.entries)
    c.terms.ensures.order.0
    (terms_pairs c.args.ring (c.if-is_contiguous.ensures.0 refl) (arc_value c.in-Some.last) c.terms.result.now
    (last_is c.args.ring (parts_of c.pop.new.self.items) (arc_value c.in-Some.last)
    (rows_in c.args.rows.now.items)
    (whole c.args.ring c.args.parts.now.items c.pop.new.self.items c.in-Some.last
    (rows_in c.args.rows.now.items) c.in-Some.ensures.items c.requires.series)).1
    (listed c.terms.result.now c.deref.result.now (arc_value c.in-Some.last) c.deref.ensures c.terms.ensures.entries)))

pub returns-then-is_contiguous-clause-series : goal.returns-then-is_contiguous-clause-series
returns-then-is_contiguous-clause-series c = series_less c.args.ring (parts_of c.pop.new.self.items) (arc_value c.in-Some.last)
    (rows_in c.args.rows.now.items)
    (whole c.args.ring c.args.parts.now.items c.pop.new.self.items c.in-Some.last
    (rows_in c.args.rows.now.items) c.in-Some.ensures.items c.requires.series)
    (rows_in c.clear_terms.new.rows.items) c.terms.result.now (c.if-is_contiguous.ensures.0 refl)
    (listed c.terms.result.now c.deref.result.now (arc_value c.in-Some.last) c.deref.ensures c.terms.ensures.entries)
    c.clear_terms.ensures

pub returns-clause-series : goal.returns-clause-series
returns-clause-series c = series_less_none c.args.ring (parts_of c.pop.new.self.items) (arc_value c.in-Some.last)
    (rows_in c.args.rows.now.items)
    (whole c.args.ring c.args.parts.now.items c.pop.new.self.items c.in-Some.last
    (rows_in c.args.rows.now.items) c.in-Some.ensures.items c.requires.series)
    (λ t. false≢true (c.if-is_contiguous.ensures.1 t))
