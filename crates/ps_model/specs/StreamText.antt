-- The text of a stream: degree by degree, the terms of the lead where it is shown, and of each factor's coefficients.
--     unless_none names head ts      the line of the terms behind its head; nothing where there are no terms
--     lead_line S names lead r      the line of the terms of degree r of the lead
--     lines_of S names r i f j      those of factor i, counted from 1, for the powers of Y from j down to 0
--     degree_text S names lead roots fs r      the lines of degree r
--     stream_text S names lead roots fs D      the stream up to degree D
use Rattle.std.specs.Prelude.{ℕ, zero, suc, List, [], ◌∷◌, ◌++◌, codes, decimal, Option, Some, None}
use Rattle.ps_model.specs.declared.job.Root.{Root}
use Rattle.ps_model.specs.BlockText.{newline, terms_text, terms_of_degree}
use Rattle.ps_model.specs.Keys.{Key}
use Rattle.ps_model.specs.SeriesRing.{SeriesRing, Poly}

abbrev pub unless_none : {n : ℕ} → List (List ℕ) → List ℕ → List (Key n × ℕ) → List ℕ
unless_none names head [] = []
unless_none names head (t ∷ ts) = head ++ terms_text names (t ∷ ts) ++ newline

module _ (S : SeriesRing) (names : List (List ℕ)) where
  abbrev pub lead_line : Option (Poly S) → ℕ → List ℕ
  lead_line None r = []
  lead_line (Some l) r = unless_none names (codes "lead: ") (terms_of_degree S l 0 r)

  abbrev pub lines_of : ℕ → ℕ → Poly S → ℕ → List ℕ
  lines_of r i f zero = unless_none names (decimal i ++ codes " Y^0: ") (terms_of_degree S f 0 r)
  lines_of r i f (suc j) =
      unless_none names (decimal i ++ codes " Y^" ++ decimal (suc j) ++ codes ": ") (terms_of_degree S f (suc j) r)
      ++ lines_of r i f j

  -- the factors are counted from i
  abbrev pub lines_of_all : ℕ → ℕ → List Root → List (Poly S) → List ℕ
  lines_of_all r i [] fs = []
  lines_of_all r i (root ∷ roots) [] = []
  lines_of_all r i (root ∷ roots) (f ∷ fs) = lines_of r i f root.times ++ lines_of_all r (suc i) roots fs

  module _ (lead : Option (Poly S)) (roots : List Root) (fs : List (Poly S)) where
    abbrev pub degree_text : ℕ → List ℕ
    degree_text r = codes "degree " ++ decimal r ++ newline ++ lead_line lead r ++ lines_of_all r 1 roots fs

    -- the degrees from 0 to r
    abbrev pub degrees_text : ℕ → List ℕ
    degrees_text zero = degree_text 0
    degrees_text (suc r) = degrees_text r ++ degree_text (suc r)

    abbrev pub stream_text : ℕ → List ℕ
    stream_text D = codes "stream " ++ decimal D ++ newline ++ degrees_text D ++ codes "end" ++ newline
