-- The text of an input: the coefficients of its value, by falling power of Y.
--     input_text S names degree p D      the precision, the formal degree, and the lines from Y^degree to Y^0
use Rattle.std.specs.Prelude.{ℕ, List, ◌++◌, codes, decimal}
use Rattle.ps_model.specs.BlockText.{newline, power_lines}
use Rattle.ps_model.specs.SeriesRing.{SeriesRing, Poly}

abbrev pub input_text : (S : SeriesRing) → List (List ℕ) → ℕ → Poly S → ℕ → List ℕ
input_text S names degree p D =
    codes "precision " ++ decimal D ++ newline ++ codes "input degree " ++ decimal degree ++ newline
    ++ power_lines S names D p degree
