-- The rows of a session, put together, are the job's factors.
use Rattle.std.proofs.Common.{◌≡◌, ℕ, zero, suc, ◌<◌, ◌≤◌, List, [], ◌∷◌, length, map, take, get_or, refl, sym, ◌∙◌}
use Rattle.std.proofs.Common.{ap, subst, arith}
use Rattle.std.proofs.lemmas.List.{length-map, length-take-le, get_or-map, get_or-take, ext_get_or}
use Rattle.ps_model.specs.declared.job.JobData.{JobData}
use Rattle.ps_model.specs.declared.job.Root.{Root}
use Rattle.ps_model.specs.Factors.{IsFactor, EachIsFactor, each_truncated}
use Rattle.ps_model.specs.Job.{IsFactors}
use Rattle.ps_model.specs.Polynomial.{Polynomial, zero as nought}
use Rattle.ps_model.specs.Ring.{Ring as PolynomialRing}
use Rattle.ps_model.specs.Rows.{IsRowOf}
use Rattle.ps_model.specs.SeriesRing.{ring as ring_of, Poly}
use Rattle.ps_model.specs.Truncation.{truncated}
use Rattle.ps_model.proofs.Below.{truncated-below}
use Rattle.ps_model.proofs.Existence.{monic_y_degree}
use Rattle.ps_model.proofs.JobFactors.{factors_truncated}
use Rattle.ps_model.proofs.JobValues.{lawful_factors}
use Rattle.ps_model.proofs.KeptTerms.{kept_terms-zero}
use Rattle.ps_model.proofs.SliceValues.{slice_at-truncated}
use Rattle.parts.specs.PartValue.{PartValue}
use Rattle.parts.specs.Series.{series, row_maps, rows_maps, polynomial_of}
use Rattle.stages.specs.Slices.{AreSlices, factor_at}
use Rattle.stages.specs.Titles.{no_root, root_at, times_at}
use Rattle.stages.proofs.RowPairs.{AreRowsFor, together}
use Rattle.printer.specs.View.{HasUpTo, rows_of, row_at}
use Rattle.printer.specs.Texts.{factors_to}
use Rattle.session.specs.Factors.{job_in}
use Rattle.session.specs.Sessions.{SessionState, factor_rows, value_of, IsSession, HasItems}
use Rattle.session.specs.Views.{row_fits}
use Rattle.session.proofs.JobRings.{same_job, lawful_in}

module _ (R : PolynomialRing) where
  -- the factor at a place of a list that is truncated
  pub get_or-truncated : (r i : ℕ) (fs : List (Polynomial R))
      → get_or (each_truncated r fs) i (nought R) ≡ truncated R R.degree r (get_or fs i (nought R))
  unfolding truncated
  get_or-truncated r i [] = sym (kept_terms-zero R _)
  get_or-truncated r zero (f ∷ fs) = refl
  get_or-truncated r (suc i) (f ∷ fs) = get_or-truncated r i fs

  factor_here : (D : ℕ) (roots : List Root) (fs : List (Polynomial R)) → EachIsFactor D roots fs → (i : ℕ) (root : Root)
      → i < length roots → IsFactor D (get_or roots i root) (get_or fs i (nought R))
  factor_here D [] fs each i root lt = absurd (omega arith)
  factor_here D (r ∷ roots) [] each i root lt = absurd each
  factor_here D (r ∷ roots) (f ∷ fs) each zero root lt = each.0
  factor_here D (r ∷ roots) (f ∷ fs) each (suc i) root lt = factor_here D roots fs each.1 i root (omega arith)

  -- there are as many factors as roots
  length-each : (D : ℕ) (roots : List Root) (fs : List (Polynomial R)) → EachIsFactor D roots fs
      → length fs ≡ length roots
  length-each D [] [] each = refl
  length-each D [] (f ∷ fs) each = absurd each
  length-each D (r ∷ roots) [] each = absurd each
  length-each D (r ∷ roots) (f ∷ fs) each = ap suc (length-each D roots fs each.1)

  row_whole : (K r : ℕ) (p : Polynomial R) (row : _) → IsRowOf K r (truncated R R.degree r p) row → IsRowOf K r p row
  row_whole K r p row is = record {
    places = is.places;
    slices = λ j le. is.slices j le ∙ slice_at-truncated R r r j p (omega arith);
  }

module _ (s : SessionState) (holds : IsSession s) (fits : HasItems s) (D : ℕ) (up_to : HasUpTo (value_of s) D) where
  abbrev job : JobData
  job = job_in s.ring s.job.job

  abbrev R : PolynomialRing
  R = ring_of (series s.ring)

  same : job ≡ s.job.job
  same = same_job s.ring s.job.job holds.ring_is

  module _ (fs : List (Poly (series s.ring))) (are : IsFactors job D fs) where
    module _ (i : ℕ) (lt : i < length job.roots) where
      abbrev rows : List (List PartValue)
      rows = rows_of (value_of s) i

      abbrev factor : Polynomial R
      factor = get_or fs i (nought R)

      slices_here : (r : ℕ) → r < length rows
          → AreSlices job (times_at job i) r (factor_at job i) (row_at (value_of s) i r)
      slices_here r low = subst (λ (j : JobData).
          AreSlices j (times_at j i) r (factor_at j i) (row_at (value_of s) i r))
          (sym same) (row_fits s holds fits i lt r low)

      row_is : (r : ℕ) → r ≤ D → IsRowOf (times_at job i) r factor (row_maps s.ring (row_at (value_of s) i r))
      row_is r le = row_whole R (times_at job i) r factor (row_maps s.ring (row_at (value_of s) i r))
          (subst (λ p. IsRowOf (times_at job i) r p (row_maps s.ring (row_at (value_of s) i r)))
          (get_or-truncated R r i fs)
          ((slices_here r (let long = up_to.0 i lt in omega arith)).slices (each_truncated r fs)
          (factors_truncated job r D le fs are)))

      there : (r : ℕ) → r < suc D
          → get_or (rows_maps s.ring (take (suc D) rows)) r [] ≡ row_maps s.ring (row_at (value_of s) i r)
      there r low = get_or-map (row_maps s.ring) (take (suc D) rows) r [] []
          (let long = length-take-le (suc D) rows (up_to.0 i lt) in omega arith)
          ∙ ap (row_maps s.ring) (get_or-take (suc D) rows r [] low)

      rows_for : AreRowsFor R (times_at job i) (suc D) factor (rows_maps s.ring (take (suc D) rows))
      rows_for = record {
        count = length-map (take (suc D) rows) (row_maps s.ring) ∙ length-take-le (suc D) rows (up_to.0 i lt);
        row = λ r low. subst (IsRowOf (times_at job i) r factor) (sym (there r low)) (row_is r (omega arith));
      }

      is_factor : IsFactor D (root_at job i) factor
      is_factor = factor_here R D job.roots fs are.are_factors.each i no_root lt

      factor_is : polynomial_of s.ring (take (suc D) rows) ≡ factor
      factor_is = together R (times_at job i) D factor (rows_maps s.ring (take (suc D) rows)) rows_for
          (truncated-below R R.y_degree (times_at job i) factor
          ∙ monic_y_degree R (times_at job i) factor is_factor.monic)
          is_factor.within

    -- the factors are those of each list of factors
    pub factors_are : factors_to (value_of s) D ≡ fs
    factors_are = ext_get_or (nought R) (factors_to (value_of s) D) fs
        (many ∙ sym (length-each R D job.roots fs are.are_factors.each))
        (λ i lt. get_or-map (λ rows. polynomial_of s.ring (take (suc D) rows)) (map factor_rows s.stages) i []
        (nought R)
        (let count = length-map (map factor_rows s.stages) (λ rows. polynomial_of s.ring (take (suc D) rows)) in
        omega arith)
        ∙ factor_is i (let count = many in omega arith))
      where
        many : length (factors_to (value_of s) D) ≡ length job.roots
        many = length-map (map factor_rows s.stages) (λ rows. polynomial_of s.ring (take (suc D) rows))
            ∙ length-map s.stages factor_rows ∙ holds.of_job.count

  -- so they are a list of factors
  pub are_factors : IsFactors job D (factors_to (value_of s) D)
  are_factors =
      let one = lawful_factors job (lawful_in s.ring s.job.job holds.ring_is holds.of_job.accepted) D in
      subst (IsFactors job D) (sym (factors_are one.one_value one.meets)) one.meets
