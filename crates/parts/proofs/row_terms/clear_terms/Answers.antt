use Rattle.std.proofs.Common.{◌+◌, get_or, map, sym, ◌∙◌, ap, subst, arith, take_all}
use Rattle.ps_model.specs.Sums.{total}
use Rattle.parts.specs.SeriesRows.{rows_in, entry, pair_key, indicator, HasPlace, Puts, row_of_term, place_of_term}
use Rattle.parts.specs.Terms.{entry_of}
use Rattle.parts.specs.declared.terms.Term.{Term}
use Rattle.parts.proofs.RowEntries.{kept_through}
use Rattle.parts.proofs.RowTerms.{clear_step}
use Rattle.parts.proofs.row_terms.clear_terms.Goals as goal
use Rattle.parts.proofs.row_terms.clear_terms.Goals.{After-put}

-- the place of the term
pub put-requires : goal.put-requires
put-requires c =
    let h : HasPlace (rows_in c.loop-t.rows.items)
    (row_of_term (get_or c.args.terms.now c.loop-t.t-index c.t-item.result))
    (place_of_term (get_or c.args.terms.now c.loop-t.t-index c.t-item.result)) = c.loop-t.invariant.kept _ _
    (c.requires.places c.loop-t.t-index c.t-item.result (omega arith)) in
    let k : HasPlace (rows_in c.loop-t.rows.items) (row_of_term c.t-item.result) (place_of_term c.t-item.result) =
    subst (λ (x : Term). HasPlace (rows_in c.loop-t.rows.items) (row_of_term x) (place_of_term x))
    (sym c.t-item.is) h in
    subst (λ n. HasPlace (rows_in c.loop-t.rows.items) n c.place_of.result) (sym c.row_of.ensures)
    (subst (λ n. HasPlace (rows_in c.loop-t.rows.items) (row_of_term c.t-item.result) n) (sym c.place_of.ensures) k)

-- what was put
puts : (c : After-put) → Puts (row_of_term (get_or c.args.terms.now c.loop-t.t-index c.t-item.result))
    (place_of_term (get_or c.args.terms.now c.loop-t.t-index c.t-item.result)) 0
    (rows_in c.loop-t.rows.items) (rows_in c.put.new.rows.items)
puts c =
    subst (λ (x : Term). Puts (row_of_term x) (place_of_term x) 0 (rows_in c.loop-t.rows.items)
    (rows_in c.put.new.rows.items)) c.t-item.is
    (subst (λ n. Puts n (place_of_term c.t-item.result) 0 (rows_in c.loop-t.rows.items)
    (rows_in c.put.new.rows.items)) c.row_of.ensures
    (subst (λ n. Puts c.row_of.result n 0 (rows_in c.loop-t.rows.items)
    (rows_in c.put.new.rows.items)) c.place_of.ensures c.put.ensures.puts))

pub loop-t-preserved : goal.loop-t-preserved
loop-t-preserved c = record {
  kept = kept_through (rows_in c.args.rows.now.items) (rows_in c.loop-t.rows.items) (rows_in c.put.new.rows.items)
      c.loop-t.invariant.kept c.put.ensures.kept;
  coefficients = clear_step c.args.terms.now c.loop-t.t-index c.t-item.result (omega arith) c.requires.order.0
      (c.requires.pairs c.loop-t.t-index c.t-item.result (omega arith)) (rows_in c.args.rows.now.items)
      (rows_in c.loop-t.rows.items) (rows_in c.put.new.rows.items)
      (c.requires.held c.loop-t.t-index c.t-item.result (omega arith))
      (puts (goal.at.loop-t-preserved c).After-put) c.loop-t.invariant.coefficients;
}

pub returns : goal.returns
returns c = λ f p. c.loop-t.invariant.coefficients f p ∙
    ap (λ ts. entry (rows_in c.loop-t.rows.items) f p + total (indicator (pair_key p f)) (map entry_of ts))
    (take_all c.loop-t.t-index c.args.terms.now (omega arith))
