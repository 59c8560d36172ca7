-- Quotients and factors given by formal sums.
use Rattle.std.proofs.Common.{◌≡◌, ℕ, T, List, [], ◌∷◌, map, sym, ◌∙◌, ap}
use Rattle.std.specs.Prelude.{nat_le}
use Rattle.ps_model.specs.declared.job.JobData.{JobData}
use Rattle.ps_model.specs.declared.job.Root.{Root}
use Rattle.ps_model.specs.Sums.{kept}
use Rattle.ps_model.specs.Keys.{Key, y_key}
use Rattle.ps_model.specs.Polynomial.{polynomial, product}
use Rattle.ps_model.specs.Truncation.{truncated}
use Rattle.ps_model.specs.SeriesRing.{SeriesRing, ring, degree}
use Rattle.ps_model.specs.Prepared.{IsQuotient}
use Rattle.ps_model.specs.Factors.{IsFactor, EachIsFactor, product_of}
use Rattle.ps_model.specs.Slices.{y_coefficient}
use Rattle.ps_model.specs.Tree.{formal_degree}
use Rattle.ps_model.specs.Job.{job_ring, IsFactors}
use Rattle.ps_model.specs.Value.{IsValue}
use Rattle.ps_model.specs.Examples.{key}
use Rattle.ps_model.proofs.FormalSums.{normal, polynomial-normal, same_sums, one_listed, monomial_listed}
use Rattle.ps_model.proofs.FormalSums.{product_listed}
use Rattle.ps_model.proofs.FormalSums.{kept_listed}
use Rattle.ps_model.proofs.YCoefficients.{y_entries, y_coefficient_listed}
use Rattle.ps_model.proofs.Evaluated.{undivided, times, cut, truncated_listed, evaluated, is_value}
use Rattle.ps_model.proofs.AtOrigin.{root_entries, root_listed}

module _ (S : SeriesRing) (D : ℕ) where
  pub is_quotient : (ps bs qs : List (Key S.variables × ℕ)) → normal (ring S) (cut S D qs) ≡ normal (ring S) qs
      → normal (ring S) (cut S D (times S qs bs)) ≡ normal (ring S) ps
      → IsQuotient D (polynomial (ring S) ps) (polynomial (ring S) bs) (polynomial (ring S) qs)
  is_quotient ps bs qs within back = record {
    within = truncated_listed S D qs ∙ same_sums (ring S) _ _ within;
    multiplies_back = ap (truncated (ring S) (degree S) D) (product_listed (ring S) qs bs)
        ∙ truncated_listed S D (times S qs bs) ∙ same_sums (ring S) _ _ back;
  }

  pub is_factor : (r : Root) (es : List (Key S.variables × ℕ))
      → normal (ring S) (kept (λ k. nat_le r.times k.y) es) ≡ normal (ring S) ((y_key S.variables r.times, 1) ∷ [])
      → normal (ring S) (cut S 0 es) ≡ normal (ring S) (root_entries S r)
      → normal (ring S) (cut S D es) ≡ normal (ring S) es → IsFactor D r (polynomial (ring S) es)
  is_factor r es monic origin within = record {
    monic = kept_listed (ring S) _ es ∙ same_sums (ring S) _ _ monic ∙ sym (monomial_listed (ring S) 1 _);
    at_origin = truncated_listed S 0 es ∙ same_sums (ring S) _ _ origin ∙ sym (root_listed S r);
    within = truncated_listed S D es ∙ same_sums (ring S) _ _ within;
  }

  -- the product of a list
  abbrev pub product_entries : List (List (Key S.variables × ℕ)) → List (Key S.variables × ℕ)
  product_entries [] = (y_key S.variables 0, 1) ∷ []
  product_entries (es ∷ ess) = normal (ring S) (times S es (product_entries ess))

  product_of_listed : (ess : List (List (Key S.variables × ℕ))) → product_of {R = ring S}
      (map (polynomial (ring S)) ess) ≡ polynomial (ring S) (product_entries ess)
  product_of_listed [] = one_listed (ring S)
  product_of_listed (es ∷ ess) = ap (product (ring S) (polynomial (ring S) es)) (product_of_listed ess)
      ∙ product_listed (ring S) es (product_entries ess) ∙ sym (polynomial-normal (ring S) _)

  -- times the coefficient of Y^K of a polynomial
  pub product_is : (K : ℕ) (ess : List (List (Key S.variables × ℕ))) (vs : List (Key S.variables × ℕ))
      → normal (ring S) (cut S D (times S (y_entries (ring S) K vs) (product_entries ess))) ≡ normal (ring S) vs
      → truncated (ring S) (degree S) D (product (ring S) (y_coefficient (ring S) K (polynomial (ring S) vs))
      (product_of {R = ring S} (map (polynomial (ring S)) ess)))
      ≡ polynomial (ring S) vs
  product_is K ess vs same = ap (truncated (ring S) (degree S) D)
      ((λ i. product (ring S) (y_coefficient_listed (ring S) K vs i) (product_of_listed ess i))
      ∙ product_listed (ring S) (y_entries (ring S) K vs) (product_entries ess))
      ∙ truncated_listed S D (times S (y_entries (ring S) K vs) (product_entries ess)) ∙ same_sums (ring S) _ _ same

-- factors of a job, from its value and theirs
pub factors_listed : (job : JobData) (D : ℕ) (vs : List (Key (job_ring job).variables × ℕ))
    (ess : List (List (Key (job_ring job).variables × ℕ)))
    → IsValue (job_ring job) D job.expr (polynomial (ring (job_ring job)) vs)
    → EachIsFactor D job.roots (map (polynomial (ring (job_ring job))) ess)
    → normal (ring (job_ring job)) (cut (job_ring job) D (times (job_ring job)
    (y_entries (ring (job_ring job)) (formal_degree job.expr) vs) (product_entries (job_ring job) D ess)))
    ≡ normal (ring (job_ring job)) vs → IsFactors job D (map (polynomial (ring (job_ring job))) ess)
factors_listed job D vs ess is each same = record {
  value = polynomial (ring (job_ring job)) vs;
  is_value = is;
  are_factors = record { each = each; product_is = product_is (job_ring job) D (formal_degree job.expr) ess vs same };
}

-- the entries of what is written out
abbrev pub entries_of : (n : ℕ) → List (ℕ × List ℕ × ℕ) → List (Key n × ℕ)
entries_of n ts = map (λ t. (key n t.1 t.2, t.0)) ts

-- factors of a job without divisions
pub factors_written : (job : JobData) (D : ℕ) (tss : List (List (ℕ × List ℕ × ℕ))) → T (undivided job.expr)
    → EachIsFactor D job.roots (map (polynomial (ring (job_ring job)))
    (map (entries_of (job_ring job).variables) tss))
    → normal (ring (job_ring job)) (cut (job_ring job) D (times (job_ring job)
    (y_entries (ring (job_ring job)) (formal_degree job.expr) (evaluated (job_ring job) D job.expr))
    (product_entries (job_ring job) D (map (entries_of (job_ring job).variables) tss))))
    ≡ normal (ring (job_ring job)) (evaluated (job_ring job) D job.expr)
    → IsFactors job D (map (polynomial (ring (job_ring job))) (map (entries_of (job_ring job).variables) tss))
factors_written job D tss h each same = factors_listed job D (evaluated (job_ring job) D job.expr)
    (map (entries_of (job_ring job).variables) tss) (is_value (job_ring job) D job.expr h) each same
