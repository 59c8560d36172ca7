-- An input and the roots of a job at the origin, modulo m, in the ring of the weights ws.
--     roots_at m ws roots p      the coefficient of Y^p of the product of the root powers; that of 1
--         where there is no root
--     scaled_at m ws lead roots p      the coefficient of Y^p of lead times that product
--     AreCoefficients m ws row q      row holds the coefficients of the powers of Y of q, and 0 for
--         each power past its end
--     DiffersFirst m ws row lead roots d      d is the least power of Y at which the row and lead
--         times the product of the root powers differ, with both coefficients
--     IsFirstDifference m ws row lead roots found      that power, where there is one; of None, they
--         agree at each
use Rattle.std.specs.Prelude.{◌≡◌, ◌≢◌, ℕ, ◌<◌, List, Option, Some, None, slice_index}
use Rattle.ps_model.specs.declared.job.Root.{Root}
use Rattle.ps_model.specs.Keys.{y_key}
use Rattle.ps_model.specs.Notation.{coefficient, scaled}
use Rattle.ps_model.specs.SeriesRing.{Poly}
use Rattle.ps_model.specs.Factors.{root_powers}
use Rattle.ps_model.specs.Job.{series_ring}
use Rattle.intake.specs.declared.differences.Difference.{Difference}

unfoldable pub roots_at : ℕ → List ℕ → List Root → ℕ → ℕ
roots_at m ws roots p =
    let S = series_ring m ws in
    let powers : Poly S = root_powers roots in
    coefficient powers (y_key S.variables p)

unfoldable pub scaled_at : ℕ → List ℕ → ℕ → List Root → ℕ → ℕ
scaled_at m ws lead roots p =
    let S = series_ring m ws in
    let powers : Poly S = root_powers roots in
    coefficient (scaled lead powers) (y_key S.variables p)

abbrev pub AreCoefficients : (m : ℕ) (ws : List ℕ) → List ℕ → Poly (series_ring m ws) → Type 0
AreCoefficients m ws row q = (p : ℕ) → slice_index row p ≡ coefficient q (y_key (series_ring m ws).variables p)

pub record DiffersFirst (m : ℕ) (ws row : List ℕ) (lead : ℕ) (roots : List Root) (d : Difference) : Type 0 where
  pub row_is : d.input ≡ slice_index row d.power
  pub roots_is : d.roots ≡ scaled_at m ws lead roots d.power
  pub differ : d.input ≢ d.roots
  pub first : (p : ℕ) → p < d.power → slice_index row p ≡ scaled_at m ws lead roots p

abbrev pub IsFirstDifference : ℕ → List ℕ → List ℕ → ℕ → List Root → Option Difference → Type 0
IsFirstDifference m ws row lead roots None = (p : ℕ) → slice_index row p ≡ scaled_at m ws lead roots p
IsFirstDifference m ws row lead roots (Some d) = DiffersFirst m ws row lead roots d
