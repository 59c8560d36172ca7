use Rattle.std.proofs.Common.{[], get_or, take, sym, subst, arith, All}
use Rattle.std.proofs.lemmas.List.{take_more}
use Rattle.std.proofs.lemmas.List.Elements.{All-append, All-cons}
use Rattle.parts.specs.SeriesRows.{rows_in, HasPlace, HasPlaceOf, row_of_term, place_of_term}
use Rattle.parts.specs.declared.terms.Term.{Term}
use Rattle.parts.proofs.Built.{none}
use Rattle.parts.proofs.RowEntries.{same_through}
use Rattle.parts.proofs.row_terms.make_places.Goals as goal

pub loop-t-preserved : goal.loop-t-preserved
loop-t-preserved c =
    let here : HasPlace (rows_in c.make_place.new.rows.items)
    (row_of_term (get_or c.args.terms.now c.loop-t.t-index c.t-item.result))
    (place_of_term (get_or c.args.terms.now c.loop-t.t-index c.t-item.result)) =
    subst (λ (x : Term). HasPlace (rows_in c.make_place.new.rows.items) (row_of_term x) (place_of_term x)) c.t-item.is
    (subst (λ n. HasPlace (rows_in c.make_place.new.rows.items) n (place_of_term c.t-item.result)) c.row_of.ensures
    (subst (λ n. HasPlace (rows_in c.make_place.new.rows.items) c.row_of.result n) c.place_of.ensures
    c.in_ok-make_place.ensures.place)) in
    record {
      same = same_through (rows_in c.args.rows.now.items) (rows_in c.loop-t.rows.items)
          (rows_in c.make_place.new.rows.items) c.loop-t.invariant.same c.make_place.ensures.same;
      places = subst (All (HasPlaceOf (rows_in c.make_place.new.rows.items)))
          (sym (take_more c.args.terms.now c.loop-t.t-index c.t-item.result (omega arith)))
          (All-append (HasPlaceOf (rows_in c.make_place.new.rows.items)) _ _
          (λ i d lt. c.make_place.ensures.kept _ _ (c.loop-t.invariant.places i d lt))
          (All-cons (HasPlaceOf (rows_in c.make_place.new.rows.items))
          (get_or c.args.terms.now c.loop-t.t-index c.t-item.result) [] here
          (none (HasPlaceOf (rows_in c.make_place.new.rows.items)))));
    }
