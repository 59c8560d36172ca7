-- The texts of what a view has.
--     factor_to value D i      factor i up to degree D: the parts of its rows up to D, put together
--     factors_to value D      those of all factors
--     lead_to value D      the lead up to degree D
--     shown_lead value D      the lead where it is shown
--     view_text names value D      the block of precision D
--     view_degree_text names value r      the lines of degree r of a stream
--     degree_of rows      the greatest power of Y in rows: one less than the length of the first one
use Rattle.std.specs.Prelude.{ℕ, suc, ◌-◌, Option, Some, None, List, length, map, take, if◌then◌else◌}
use Rattle.ps_model.specs.BlockText.{block_text}
use Rattle.ps_model.specs.StreamText.{degree_text}
use Rattle.ps_model.specs.SeriesRing.{Poly}
use Rattle.parts.specs.Series.{series, polynomial_of}
use Rattle.parts.specs.PartValue.{PartValue}
use Rattle.printer.specs.Rows.{row_in}
use Rattle.printer.specs.View.{BlockValue, each_alone, rows_of}

abbrev pub factor_to : (value : BlockValue) → ℕ → ℕ → Poly (series value.ring)
factor_to value D i = polynomial_of value.ring (take (suc D) (rows_of value i))

abbrev pub factors_to : (value : BlockValue) → ℕ → List (Poly (series value.ring))
factors_to value D = map (λ rows. polynomial_of value.ring (take (suc D) rows)) value.rows

abbrev pub lead_to : (value : BlockValue) → ℕ → Poly (series value.ring)
lead_to value D = polynomial_of value.ring (take (suc D) (each_alone value.lead))

abbrev pub shown_lead : (value : BlockValue) → ℕ → Option (Poly (series value.ring))
shown_lead value D = if value.shows_lead then Some (lead_to value D) else None

abbrev pub view_text : List (List ℕ) → BlockValue → ℕ → List ℕ
view_text names value D =
    block_text (series value.ring) names (shown_lead value D) value.roots (factors_to value D) D

abbrev pub view_degree_text : List (List ℕ) → BlockValue → ℕ → List ℕ
view_degree_text names value r =
    degree_text (series value.ring) names (shown_lead value r) value.roots (factors_to value r) r

abbrev pub degree_of : List (List PartValue) → ℕ
degree_of rows = length (row_in rows 0) - 1
