use Rattle.std.proofs.Common.{suc, ◌+◌}
use Rattle.ps_model.specs.SeriesRing.{ring}
use Rattle.ps_model.proofs.PreparedRows.{rows_first, rows_next}
use Rattle.ps_model.proofs.RowsFollow.{row_p_is, row_u_is}
use Rattle.ps_model.proofs.RowsOf.{row_of_is_row}
use Rattle.ps_model.proofs.laws.preparation.prepared_row_laws.Goals as goal

pub returns : goal.returns
returns c = record {
  first = λ S G k q row_p row_u row_G powers is p_row u_row none unit low top same.
      rows_first (ring S) k q G powers row_p row_u row_G is p_row u_row none unit low top same;
  next = λ S G k q d e rows_p rows_u row_p row_u row_G powers is ps us n_p n_u places_p places_u top inverts before
      follows.
      let given = row_of_is_row (ring S) (k + q) (suc d) G row_G is in
      let p_row = row_p_is (ring S) k q d e rows_p rows_u row_p row_u row_G ps us n_p n_u places_p places_u given top
      follows in
      let u_row = row_u_is (ring S) k q d e rows_p rows_u row_p row_u row_G ps us n_p n_u places_p places_u given top
      follows in (
        p_row,
        u_row,
        rows_next (ring S) k q G powers d e rows_p rows_u row_p row_u row_G ps us n_p n_u p_row u_row is
            top inverts before follows,
      );
}
