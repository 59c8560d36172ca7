-- A lawful job: it has exactly one monic input, which is factorable by the roots, and exactly one list of factors.
use Rattle.std.proofs.Common.{◌≡◌, ℕ, ◌-◌, ◌<◌, true, false, List, [], ◌∷◌, refl, sym, ◌∙◌, ap, subst, arith}
use Rattle.std.specs.Prelude.{◌==◌}
use Rattle.std.proofs.lemmas.Bool.{eqb-true, eqb-false}
use Rattle.ps_model.specs.declared.job.JobData.{JobData}
use Rattle.ps_model.specs.declared.job.Root.{Root}
use Rattle.ps_model.specs.Ring.{Ring}
use Rattle.ps_model.specs.Polynomial.{Polynomial, coefficient, scaled}
use Rattle.ps_model.specs.Truncation.{truncated}
use Rattle.ps_model.specs.Bounds.{IsMonic, ExactlyOne}
use Rattle.ps_model.specs.SeriesRing.{SeriesRing, ring, degree, Poly}
use Rattle.ps_model.specs.Factors.{root_power, root_powers, IsFactorable}
use Rattle.ps_model.specs.Tree.{formal_degree}
use Rattle.ps_model.specs.Value.{variable}
use Rattle.ps_model.specs.Lead.{lead_in, IsMonicInput}
use Rattle.ps_model.specs.Job.{job_ring, RootsMismatch, DifferAt, IsFactors}
use Rattle.ps_model.specs.AcceptedJob.{IsLawfulJob}
use Rattle.ps_model.proofs.Coefficients.{same_coefficients}
use Rattle.ps_model.proofs.KeptTerms.{kept_terms-scaled}
use Rattle.ps_model.proofs.Truncations.{truncated-zero}
use Rattle.ps_model.proofs.Homogeneous.{IsHomogeneous, homogeneous-one, homogeneous-product, homogeneous-power}
use Rattle.ps_model.proofs.ShiftDegrees.{homogeneous-linear}
use Rattle.ps_model.proofs.Origin.{key_is-y, coefficient-above}
use Rattle.ps_model.proofs.Factors.{truncated-again, constant_flat, factors}
use Rattle.ps_model.proofs.UnitsDecided.{number_stable}
use Rattle.ps_model.proofs.TreeValues.{value-truncated}
use Rattle.ps_model.proofs.YCoefficients.{y_coefficient-truncated}
use Rattle.ps_model.proofs.MonicInputs.{one_input, input_monic, input_origin}
use Rattle.ps_model.proofs.InputValues.{no_least, valid_value}
use Rattle.ps_model.proofs.JobRoots.{valid_degree, valid_input, lawful_apart, lawful_lead}
use Rattle.ps_model.proofs.JobFactors.{list_factors, same_factors}

module _ (R : Ring) where
  -- polynomials of degree 0 are equal where they have the same coefficients at the powers of Y
  pub same_at_origin : (p q : Polynomial R) → truncated R R.degree 0 p ≡ p → truncated R R.degree 0 q ≡ q
      → ((j : ℕ) → coefficient R p (R.y j) ≡ coefficient R q (R.y j)) → p ≡ q
  same_at_origin p q hp hq same = same_coefficients R p q
      (λ k. elim (R.degree k == 0) as (λ b. (R.degree k == 0) ≡ b → coefficient R p k ≡ coefficient R q k) [
        | true ↦ λ e. ap (coefficient R p) (key_is-y R k (eqb-true _ _ e)) ∙ same (R.y_degree k)
            ∙ sym (ap (coefficient R q) (key_is-y R k (eqb-true _ _ e)))
        | false ↦ λ e. coefficient-above R R.degree 0 p hp k (positive _ (eqb-false _ _ e))
            ∙ sym (coefficient-above R R.degree 0 q hq k (positive _ (eqb-false _ _ e)))
      ] refl)
    where
      positive : (n : ℕ) → (n ≡ 0 → ⊥) → 0 < n
      positive n h = omega arith

  -- the product of the root powers has degree 0
  root_powers_part : (roots : List Root) → IsHomogeneous R R.degree 0 (root_powers {R = R} roots)
  root_powers_part [] = homogeneous-one R R.degree R.degree_adds
  root_powers_part (r ∷ rs) = homogeneous-product R R.degree R.degree_adds 0 0 (root_power {R = R} r)
      (root_powers {R = R} rs) (homogeneous-power R R.degree R.degree_adds r.times _
      (homogeneous-linear R (R.modulus - r.value))) (root_powers_part rs)

  pub root_powers_flat : (roots : List Root) → truncated R R.degree 0 (root_powers {R = R} roots)
      ≡ root_powers {R = R} roots
  root_powers_flat roots = truncated-zero R R.degree _ ∙ root_powers_part roots

  scaled_powers_flat : (c : ℕ) (roots : List Root) → truncated R R.degree 0 (scaled R c (root_powers {R = R} roots))
      ≡ scaled R c (root_powers {R = R} roots)
  scaled_powers_flat c roots = cut ∙ ap (scaled R c) (root_powers_flat roots)
    where
      cut : truncated R R.degree 0 (scaled R c (root_powers {R = R} roots))
          ≡ scaled R c (truncated R R.degree 0 (root_powers {R = R} roots))
      cut = unfold truncated in kept_terms-scaled R _ c _

module _ (job : JobData) where
  abbrev S : SeriesRing
  S = job_ring job

  module _ (ok : IsLawfulJob job) where
    -- at the origin the coefficients differ nowhere
    lawful_agrees : (p : ℕ) → DifferAt job p → ⊥
    lawful_agrees = no_least (DifferAt job) (λ p least. ok.valid (RootsMismatch p least.0.0 least.0.1)
        (least.0.2, least))

    -- exactly one monic input
    pub lawful_input : (D : ℕ) → ExactlyOne (IsMonicInput S D job.expr)
    lawful_input D = one_input S D job.expr (lawful_lead job ok)
        (valid_value S job.expr (valid_input job ok.valid) job.n ok.tree D)

    module _ (D : ℕ) (q : Poly S) (is : IsMonicInput S D job.expr q) where
      pub lawful_monic : IsMonic (formal_degree job.expr) q
      lawful_monic = input_monic S job.n D job.expr q ok.tree (lawful_lead job ok) is

      -- at the origin the value is the lead's constant term times the product of the root powers
      value_origin : truncated (ring S) (degree S) 0 is.value
          ≡ scaled (ring S) (coefficient (ring S) (lead_in S job.expr is.value) (ring S).origin)
          (root_powers {R = ring S} job.roots)
      value_origin = same_at_origin (ring S) _ _ (truncated-again (ring S) (degree S) 0 is.value)
          (scaled_powers_flat (ring S) _ job.roots)
          (λ j. number_stable _ _ (λ ne. lawful_agrees j (
            _,
            _,
            (
              truncated (ring S) (degree S) 0 is.value,
              value-truncated S (variable S) 0 D (omega arith) job.expr is.value is.is_value,
              refl,
              ap (λ c. coefficient (ring S) (scaled (ring S) c (root_powers {R = ring S} job.roots)) ((ring S).y j))
                  lead_there,
            ),
            ne,
          )))
        where
          lead_there : coefficient (ring S) (lead_in S job.expr is.value) (ring S).origin
              ≡ coefficient (ring S) (lead_in S job.expr (truncated (ring S) (degree S) 0 is.value)) (ring S).origin
          lead_there = sym (ap (λ l. coefficient (ring S) l (ring S).origin)
              (y_coefficient-truncated (ring S) 0 (formal_degree job.expr) is.value
              ∙ truncated-zero (ring S) (degree S) _)
              ∙ constant_flat (ring S) _)

      pub lawful_origin : truncated (ring S) (degree S) 0 q ≡ root_powers {R = ring S} job.roots
      lawful_origin = input_origin S D job.expr q (root_powers {R = ring S} job.roots) (lawful_lead job ok) is
          value_origin

      pub lawful_factorable : IsFactorable q job.roots
      lawful_factorable = record {
        monic = subst (λ k. IsMonic k q) (valid_degree job ok.valid) lawful_monic;
        at_origin = lawful_origin;
        apart = lawful_apart job ok;
      }

    -- a lawful job has exactly one list of factors
    pub lawful_factors : (D : ℕ) → ExactlyOne (IsFactors job D)
    lawful_factors D =
        let q = lawful_input D in
        let fs = factors (ring S) D job.roots q.one_value (lawful_factorable D q.one_value q.meets) in
        let are = list_factors job D q.one_value fs.one_value q.meets fs.meets in
        record {
          one_value = fs.one_value;
          meets = are;
          only = λ gs others. same_factors job ok D gs fs.one_value others are;
        }
