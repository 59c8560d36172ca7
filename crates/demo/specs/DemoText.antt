-- The text of a demonstration.
--     factor_line S i f      how many terms the factor i has, and the sum of their coefficients modulo the prime
--     factor_lines S i fs      those of the factors from i on; nothing for none
--     demo_text S seed degree fs      the whole summary of these factors up to degree 40: four roots and 41 degrees
--         take 164 steps
--     IsDemoText seed text      it is that of the list of factors of the seed's job
use Rattle.std.specs.Prelude.{◌≡◌, ℕ, suc, ◌%◌, List, [], ◌∷◌, ◌++◌, map, length, sum, codes, decimal}
use Rattle.ps_model.specs.Job.{IsFactors, job_ring}
use Rattle.ps_model.specs.Notation.{terms}
use Rattle.ps_model.specs.SeriesRing.{SeriesRing, Poly}
use Rattle.demo.specs.Generator.{degree_of, demo_job, prime}

module _ (S : SeriesRing) where
  abbrev pub factor_line : ℕ → Poly S → List ℕ
  factor_line i f = codes "factor " ++ decimal i ++ codes " terms " ++ decimal (length (terms f))
      ++ codes " sum " ++ decimal (sum (map (λ t. t.1) (terms f)) % prime) ++ codes "\n"

  abbrev pub factor_lines : ℕ → List (Poly S) → List ℕ
  factor_lines i [] = []
  factor_lines i (f ∷ fs) = factor_line i f ++ factor_lines (suc i) fs

  abbrev pub demo_text : ℕ → ℕ → List (Poly S) → List ℕ
  demo_text seed degree fs = codes "demo " ++ decimal seed ++ codes " degree " ++ decimal degree
      ++ codes "\nprecision 40\n" ++ factor_lines 1 fs ++ codes "steps 164\n"

pub record IsDemoText (seed : ℕ) (text : List ℕ) : Type 0 where
  pub factors : List (Poly (job_ring (demo_job seed)))
  pub are_factors : IsFactors (demo_job seed) 40 factors
  pub text_is : text ≡ demo_text (job_ring (demo_job seed)) seed (degree_of seed) factors
