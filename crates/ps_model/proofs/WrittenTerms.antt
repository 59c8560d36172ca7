-- The terms of the polynomial in two variables of the examples.
use Rattle.std.proofs.Common.{◌≡◌, ℕ, List, [], ◌∷◌, refl, lit<}
use Rattle.ps_model.specs.Keys.{Key}
use Rattle.ps_model.specs.Polynomial.{polynomial, terms}
use Rattle.ps_model.specs.SeriesRing.{SeriesRing, ring}
use Rattle.ps_model.specs.Job.{series_ring}
use Rattle.ps_model.specs.Examples.{key}
use Rattle.ps_model.proofs.FormalSums.{terms_are}

module _ (ws : List ℕ) where
  abbrev R : SeriesRing
  R = series_ring 7 ws

  abbrev unordered : List (Key R.variables × ℕ)
  unordered = (key R.variables (0 ∷ 2 ∷ []) 0, 6) ∷ (key R.variables (1 ∷ []) 1, 1) ∷ (key R.variables (1 ∷ []) 0, 3)
      ∷ (key R.variables (2 ∷ []) 0, 1) ∷ (key R.variables [] 0, 5) ∷ (key R.variables (1 ∷ 1 ∷ []) 0, 4)
      ∷ (key R.variables (0 ∷ 1 ∷ []) 0, 2) ∷ []

  abbrev ordered : List (Key R.variables × ℕ)
  ordered = (key R.variables (1 ∷ []) 1, 1) ∷ (key R.variables (2 ∷ []) 0, 1) ∷ (key R.variables (1 ∷ 1 ∷ []) 0, 4)
      ∷ (key R.variables (1 ∷ []) 0, 3) ∷ (key R.variables (0 ∷ 2 ∷ []) 0, 6) ∷ (key R.variables (0 ∷ 1 ∷ []) 0, 2)
      ∷ (key R.variables [] 0, 5) ∷ []

  pub two_variables-terms : terms (ring R) (polynomial (ring R) unordered) ≡ ordered
  unfolding series_ring
  two_variables-terms = terms_are (ring R) unordered ordered refl tt (
    lit< tt,
    lit< tt,
    (
      lit< tt,
      lit< tt,
      (
        lit< tt,
        lit< tt,
        (lit< tt, lit< tt, (lit< tt, lit< tt, (lit< tt, lit< tt, (lit< tt, lit< tt, tt)))),
      ),
    ),
  )
