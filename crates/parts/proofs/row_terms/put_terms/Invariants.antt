use Rattle.std.proofs.Common.{◌≡◌, ℕ, ◌+◌, ◌<◌, take, map, All}
use Rattle.ps_model.specs.Sums.{total}
use Rattle.parts.specs.SeriesRows.{rows_in, entry, pair_key, indicator, KeepsPlaces}
use Rattle.parts.specs.Terms.{entry_of}
use Rattle.parts.proofs.row_terms.put_terms.Given as goal

abbrev pub invariant-loop-t : goal.invariant-loop-t
invariant-loop-t l = record {
  kept : KeepsPlaces (rows_in l.fn.rows.items) (rows_in l.rows.items);
  coefficients : (f p : ℕ) → entry (rows_in l.rows.items) f p ≡ entry (rows_in l.fn.rows.items) f p +
      total (indicator (pair_key p f)) (map entry_of (take l.t-index l.terms));
  low : (m : ℕ) → All (λ t. t.coefficient < m) l.terms → ((f p : ℕ) → entry (rows_in l.fn.rows.items) f p < m) →
      (f p : ℕ) → entry (rows_in l.rows.items) f p < m;
}
