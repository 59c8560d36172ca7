-- Lists of factors of a job: those of its monic input, at most one, and truncated the list at the lower degree.
use Rattle.std.proofs.Common.{◌≡◌, ℕ, ◌≤◌, List, sym, ◌∙◌, ap, subst, arith}
use Rattle.ps_model.specs.declared.job.JobData.{JobData}
use Rattle.ps_model.specs.Polynomial.{product}
use Rattle.ps_model.specs.Truncation.{truncated}
use Rattle.ps_model.specs.SeriesRing.{SeriesRing, ring, degree, Poly}
use Rattle.ps_model.specs.Factors.{product_of, each_truncated, IsFactorable, IsFactorList}
use Rattle.ps_model.specs.Tree.{formal_degree}
use Rattle.ps_model.specs.Value.{variable}
use Rattle.ps_model.specs.Lead.{lead_in, IsMonicInput}
use Rattle.ps_model.specs.Job.{job_ring, IsFactors}
use Rattle.ps_model.specs.AcceptedJob.{IsLawfulJob}
use Rattle.ps_model.proofs.RingLaws.{product-comm}
use Rattle.ps_model.proofs.Truncations.{truncated-zero, truncated-product}
use Rattle.ps_model.proofs.Monic.{monic-truncated}
use Rattle.ps_model.proofs.Factors.{truncated-again, truncated-lower, truncated-product_right, monic_all, origin_all}
use Rattle.ps_model.proofs.Factors.{factors, each_factor_truncated, product-each_truncated}
use Rattle.ps_model.proofs.TreeValues.{value-truncated}
use Rattle.ps_model.proofs.YCoefficients.{y_coefficient-truncated}
use Rattle.ps_model.proofs.MonicInputs.{same_input}
use Rattle.ps_model.proofs.JobRoots.{lawful_apart, lawful_lead}

module _ (job : JobData) where
  abbrev S : SeriesRing
  S = job_ring job

  module _ (D : ℕ) (fs : List (Poly S)) (is : IsFactors job D fs) where
    -- the product of the factors, truncated, is the monic input
    pub product_is_input : IsMonicInput S D job.expr (truncated (ring S) (degree S) D (product_of fs))
    product_is_input = record {
      value = is.value;
      is_value = is.is_value;
      quotient = record {
        within = truncated-again (ring S) (degree S) D _;
        multiplies_back = ap (truncated (ring S) (degree S) D) (product-comm (ring S) _ _)
            ∙ sym (truncated-product_right (ring S) (degree S) (ring S).degree_adds D _ (product_of fs))
            ∙ is.are_factors.product_is;
      };
    }

    pub product_factorable : IsLawfulJob job
        → IsFactorable (truncated (ring S) (degree S) D (product_of fs)) job.roots
    product_factorable ok = record {
      monic = monic-truncated (ring S) D _ _ (monic_all (ring S) D job.roots fs is.are_factors.each);
      at_origin = truncated-lower (ring S) (degree S) 0 D _ (omega arith) ∙ truncated-zero (ring S) (degree S) _
          ∙ origin_all (ring S) D job.roots fs is.are_factors.each;
      apart = lawful_apart job ok;
    }

    pub product_list : IsFactorList D (truncated (ring S) (degree S) D (product_of fs)) job.roots fs
    product_list = record {
      each = is.are_factors.each;
      product_is = sym (truncated-again (ring S) (degree S) D _);
    }

  -- so the monic input of a lawful job with factors is factorable, and they are its list
  pub factorable_input : IsLawfulJob job → (D : ℕ) (fs : List (Poly S)) → IsFactors job D fs
      → (F : Poly S) × IsMonicInput S D job.expr F × IsFactorable F job.roots × IsFactorList D F job.roots fs
  factorable_input ok D fs is = (
    truncated (ring S) (degree S) D (product_of fs),
    product_is_input D fs is,
    product_factorable D fs is ok,
    product_list D fs is,
  )

  -- the lists of factors are those of the monic input
  pub factors_list : IsLawfulJob job → (D : ℕ) (q : Poly S) (fs : List (Poly S)) → IsMonicInput S D job.expr q
      → IsFactors job D fs → IsFactorList D q job.roots fs
  factors_list ok D q fs input is = subst (λ F. IsFactorList D F job.roots fs)
      (same_input S D job.expr _ q (lawful_lead job ok) (product_is_input D fs is) input) (product_list D fs is)

  pub list_factors : (D : ℕ) (q : Poly S) (fs : List (Poly S)) → IsMonicInput S D job.expr q
      → IsFactorList D q job.roots fs → IsFactors job D fs
  list_factors D q fs input list = record {
    value = input.value;
    is_value = input.is_value;
    are_factors = record {
      each = list.each;
      product_is = truncated-product_right (ring S) (degree S) (ring S).degree_adds D _ (product_of fs)
          ∙ ap (λ p. truncated (ring S) (degree S) D (product (ring S) (lead_in S job.expr input.value) p))
          (list.product_is ∙ input.quotient.within)
          ∙ ap (truncated (ring S) (degree S) D) (product-comm (ring S) _ q) ∙ input.quotient.multiplies_back;
    };
  }

  -- one list at most
  pub same_factors : IsLawfulJob job → (D : ℕ) (fs gs : List (Poly S)) → IsFactors job D fs → IsFactors job D gs
      → fs ≡ gs
  same_factors ok D fs gs is is' =
      let one = factors (ring S) D job.roots _ (product_factorable D fs is ok) in
      one.only fs (product_list D fs is) ∙ sym (one.only gs
      (factors_list ok D _ gs (product_is_input D fs is) is'))

  -- truncated, the list at the lower degree
  pub factors_truncated : (d D : ℕ) → d ≤ D → (fs : List (Poly S)) → IsFactors job D fs
      → IsFactors job d (each_truncated d fs)
  factors_truncated d D le fs is = record {
    value = truncated (ring S) (degree S) d is.value;
    is_value = value-truncated S (variable S) d D le job.expr is.value is.is_value;
    are_factors = record {
      each = each_factor_truncated (ring S) d D le job.roots fs is.are_factors.each;
      product_is = ap (λ l. truncated (ring S) (degree S) d (product (ring S) l (product_of (each_truncated d fs))))
          (y_coefficient-truncated (ring S) d (formal_degree job.expr) is.value)
          ∙ truncated-product_right (ring S) (degree S) (ring S).degree_adds d _ _
          ∙ ap (λ p. truncated (ring S) (degree S) d (product (ring S) (truncated (ring S) (degree S) d
          (lead_in S job.expr is.value)) p)) (product-each_truncated (ring S) d fs)
          ∙ sym (truncated-product (ring S) (degree S) (ring S).degree_adds d _ (product_of fs))
          ∙ sym (truncated-lower (ring S) (degree S) d D _ le)
          ∙ ap (truncated (ring S) (degree S) d) is.are_factors.product_is;
    };
  }

  -- and no other list is it
  pub factors_below : IsLawfulJob job → (d D : ℕ) → d ≤ D → (fs gs : List (Poly S)) → IsFactors job D fs
      → IsFactors job d gs → gs ≡ each_truncated d fs
  factors_below ok d D le fs gs is is' =
      same_factors ok d gs (each_truncated d fs) is' (factors_truncated d D le fs is)
