use Rattle.ps_model.specs.SeriesRing.{ring}
use Rattle.ps_model.proofs.Rows.{slice_at-rows, rows_no_power_above, rows_no_degree_above, rows-truncated}
use Rattle.ps_model.proofs.RowsOf.{row_of_is_row, row_polynomial, row_from}
use Rattle.ps_model.proofs.OfMap.{of_map-map, map-of_map, of_map-sum, of_map-scale, of_map-product}
use Rattle.ps_model.proofs.laws.preparation.row_laws.Goals as goal

pub returns : goal.returns
returns c = record {
  slices = λ S K r j rows h. slice_at-rows (ring S) K r j rows h;
  no_power_above = λ S K rows h. rows_no_power_above (ring S) K rows h;
  no_degree_above = λ S K D rows h le. rows_no_degree_above (ring S) K D rows h le;
  truncated = λ S K d rows row h n is. rows-truncated (ring S) K d rows row h n is;
  row_of = λ S K r p row powers is. (row_of_is_row (ring S) K r p row is, row_polynomial (ring S) K r p row powers is);
  row_from = λ S K r p row own same. row_from (ring S) K r p row own same;
  of_map = λ S p. of_map-map (ring S) p;
  map_of = λ S m has. map-of_map (ring S) m has;
  sum = λ S. of_map-sum (ring S);
  scale = λ S. of_map-scale (ring S);
  product = λ S. of_map-product (ring S);
}
