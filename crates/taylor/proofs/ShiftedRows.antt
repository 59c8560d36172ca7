-- A row whose parts are those of the shift is the shifted row.
use Rattle.std.proofs.Common.{◌≡◌, ℕ, suc, ◌-◌, ◌*◌, ◌^◌, ◌<◌, ◌≤◌, List, length, get_or, sym, ◌∙◌, ap, arith}
use Rattle.std.proofs.lemmas.List.{length-map}
use Rattle.std.specs.Arc.{arc_value}
use Rattle.std.specs.declared.alloc.Global.{Global}
use Rattle.std.specs.declared.sync.Arc.{Arc}
use Rattle.ps_model.specs.Notation.{scaled, sum_between}
use Rattle.ps_model.specs.Rows.{part_of}
use Rattle.ps_model.specs.SeriesRing.{ring as ring_of}
use Rattle.ps_model.specs.Shift.{binomial}
use Rattle.ps_model.proofs.RowsOf.{shifted_row}
use Rattle.parts.specs.declared.rings.Ring.{Ring}
use Rattle.parts.specs.PartValue.{PartValue}
use Rattle.parts.specs.RowsOfParts.{nothing, parts_of, IsRowOfParts}
use Rattle.parts.specs.Series.{series, row_maps}
use Rattle.parts.proofs.Polynomials.{part_of-row}
use Rattle.parts.proofs.RowSlices.{row_is}
use Rattle.taylor.specs.Shifts.{shifted_up_to, IsPartOfShift, IsShiftedRow}

module _ (ring : Ring) (c K r : ℕ) (row out : List PartValue) (is : IsRowOfParts ring K r row)
    (same : length out ≡ length row)
    (each : (i : ℕ) (other : PartValue) → i < length row → IsPartOfShift ring c row i (get_or out i other)) where
  -- a row of the same degree
  pub is_row : IsRowOfParts ring K r out
  is_row = record {
    places = same ∙ is.places;
    degrees = λ i other lt. (each i other (omega arith)).degree ∙ is.degrees i nothing (omega arith);
    parts = λ i other lt. (each i other (omega arith)).part;
  }

  part_is : (i : ℕ) → i ≤ K → part_of (ring_of (series ring)) (row_maps ring out) i
      ≡ sum_between i (suc K)
      (λ j. scaled (binomial j i * c ^ (j - i)) (part_of (ring_of (series ring)) (row_maps ring row) j))
  part_is i le = part_of-row ring out i ∙ (each i nothing (let n = is.places in omega arith)).polynomial
      ∙ ap (shifted_up_to ring c row i) is.places
      ∙ λ l. sum_between i (suc K) (λ j. scaled (binomial j i * c ^ (j - i)) (sym (part_of-row ring row j) l))

  pub is_shifted : IsShiftedRow ring c K r row out
  is_shifted = record {
    row_is = row_is ring K r row is;
    out_is = row_is ring K r out is_row;
    polynomial = shifted_row (ring_of (series ring)) c K r (row_maps ring row) (row_maps ring out)
        (row_is ring K r row is) (row_is ring K r out is_row) part_is;
  }

-- the same of parts that are shared, n of which were made: as many as were given
module _ (ring : Ring) (c n : ℕ) (given made : List (Arc PartValue Global)) (count : length made ≡ n)
    (all : n ≡ length given)
    (part : (i : ℕ) (other : PartValue) → i < n
    → IsPartOfShift ring c (parts_of given) i (get_or (parts_of made) i other))
    (K r : ℕ) (is : IsRowOfParts ring K r (parts_of given)) where
  same : length (parts_of made) ≡ length (parts_of given)
  same = length-map made arc_value ∙ count ∙ all ∙ sym (length-map given arc_value)

  each : (i : ℕ) (other : PartValue) → i < length (parts_of given)
      → IsPartOfShift ring c (parts_of given) i (get_or (parts_of made) i other)
  each i other lt = part i other (let long = length-map given arc_value in omega arith)

  pub made_row : IsRowOfParts ring K r (parts_of made)
  made_row = is_row ring c K r (parts_of given) (parts_of made) is same each

  pub made_shifted : IsShiftedRow ring c K r (parts_of given) (parts_of made)
  made_shifted = is_shifted ring c K r (parts_of given) (parts_of made) is same each
