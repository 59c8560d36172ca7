-- The parts of a polynomial in Y, from which its coefficients are written.
--     row_in rows r      the row of degree r; none past the end
--     listed_part rows j r      the part of degree r at Y^j; the part without terms past the ends
--     terms_in p      the terms of a part, in order (none has the coefficient 0, which a map alone doesn't tell)
--     terms_up_to part D      the terms of the degrees 0 to D, where part tells the part of a degree
use Rattle.std.specs.Prelude.{ℕ, zero, suc, ◌==◌, not, List, [], ◌++◌, filter, slice_index_or}
use Rattle.std.specs.FinMap.{entries}
use Rattle.ps_model.specs.Keys.{Key}
use Rattle.parts.specs.PartValue.{PartValue}
use Rattle.parts.specs.RowsOfParts.{part_in}

abbrev pub row_in : List (List PartValue) → ℕ → List PartValue
row_in rows r = slice_index_or rows r []

abbrev pub listed_part : List (List PartValue) → ℕ → ℕ → PartValue
listed_part rows j r = part_in (row_in rows r) j

abbrev pub terms_in : PartValue → List (Key 8 × ℕ)
terms_in p = filter (λ e. not (e.1 == 0)) (entries p.map)

abbrev pub terms_up_to : (ℕ → PartValue) → ℕ → List (Key 8 × ℕ)
terms_up_to part zero = terms_in (part 0)
terms_up_to part (suc d) = terms_up_to part d ++ terms_in (part (suc d))
