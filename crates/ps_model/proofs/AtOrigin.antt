-- Values at the origin that compute: of trees without divisions, and of root powers.
use Rattle.std.proofs.Common.{◌≡◌, ℕ, ◌-◌, ◌*◌, ◌%◌, ◌<◌, T, List, [], ◌∷◌, refl, sym, ◌∙◌, ap, subst}
use Rattle.std.proofs.Common.{arith}
use Rattle.std.specs.Int.{IsGcd}
use Rattle.std.proofs.lemmas.Nat.Gcd.{IsGcd-from_zero, IsGcd-from_mod, IsGcd-swap}
use Rattle.ps_model.specs.declared.expr.Expr.{Expr}
use Rattle.ps_model.specs.declared.job.JobData.{JobData}
use Rattle.ps_model.specs.declared.job.Root.{Root}
use Rattle.ps_model.specs.Sums.{total, multiples}
use Rattle.ps_model.specs.Keys.{Key, y_key}
use Rattle.ps_model.specs.Polynomial.{polynomial, sum, scaled, product, power}
use Rattle.ps_model.specs.Shift.{linear}
use Rattle.ps_model.specs.Bounds.{IsUnit}
use Rattle.ps_model.specs.SeriesRing.{SeriesRing, ring, Poly}
use Rattle.ps_model.specs.Tree.{formal_degree}
use Rattle.ps_model.specs.Lead.{lead_in}
use Rattle.ps_model.specs.Factors.{root_power, root_powers}
use Rattle.ps_model.specs.Notation.{coefficient}
use Rattle.ps_model.specs.Divisions.{IsDivisor, Fails}
use Rattle.ps_model.specs.Job.{job_ring, LeadNotAUnit, IsFault, AreAtOrigin, DifferAt}
use Rattle.ps_model.proofs.Coefficients.{at_key, coefficient-polynomial}
use Rattle.ps_model.proofs.FormalSums.{normal, polynomial-normal, same_sums, one_listed, monomial_listed, sum_listed}
use Rattle.ps_model.proofs.FormalSums.{scaled_listed, product_listed}
use Rattle.ps_model.proofs.YCoefficients.{constant-y_coefficient}
use Rattle.ps_model.proofs.Evaluated.{undivided, times, power_entries, power_listed, evaluated, is_value, only_value}

module _ (S : SeriesRing) where
  -- Y + c, the power of a root, and the product of those of all
  abbrev pub linear_entries : ℕ → List (Key S.variables × ℕ)
  linear_entries c = (y_key S.variables 1, 1) ∷ (y_key S.variables 0, c) ∷ []

  abbrev pub root_entries : Root → List (Key S.variables × ℕ)
  root_entries r = power_entries S (linear_entries (S.modulus - r.value)) r.times

  abbrev pub roots_entries : List Root → List (Key S.variables × ℕ)
  roots_entries [] = (y_key S.variables 0, 1) ∷ []
  roots_entries (r ∷ rs) = normal (ring S) (times S (root_entries r) (roots_entries rs))

  pub linear_listed : (c : ℕ) → linear (ring S) c ≡ polynomial (ring S) (linear_entries c)
  unfolding linear
  linear_listed c = (λ i. sum (ring S) (monomial_listed (ring S) 1 (y_key S.variables 1) i)
      (monomial_listed (ring S) c (y_key S.variables 0) i)) ∙ sum_listed (ring S) _ _

  pub root_listed : (r : Root) → root_power {R = ring S} r ≡ polynomial (ring S) (root_entries r)
  root_listed r = ap (λ p. power (ring S) p r.times)
      (linear_listed (S.modulus - r.value)) ∙ power_listed S (linear_entries (S.modulus - r.value)) r.times

  pub roots_listed : (roots : List Root) → root_powers {R = ring S} roots ≡ polynomial (ring S) (roots_entries roots)
  roots_listed [] = one_listed (ring S)
  roots_listed (r ∷ rs) = (λ i. product (ring S) (root_listed r i) (roots_listed rs i))
      ∙ product_listed (ring S) (root_entries r) (roots_entries rs) ∙ sym (polynomial-normal (ring S) _)

  -- a coefficient of a formal sum
  abbrev pub number_at : List (Key S.variables × ℕ) → Key S.variables → ℕ
  number_at es k = total (at_key (ring S) k) es % S.modulus

module _ (job : JobData) where
  abbrev S : SeriesRing
  S = job_ring job

  abbrev pub tree_at : ℕ → ℕ
  tree_at p = number_at S (evaluated S 0 job.expr) (y_key S.variables p)

  -- the lead's constant term
  abbrev pub lead_at : ℕ
  lead_at = tree_at (formal_degree job.expr)

  abbrev pub roots_at : ℕ → ℕ
  roots_at p = number_at S (multiples lead_at (roots_entries S job.roots)) (y_key S.variables p)

  abbrev value : Poly S
  value = polynomial (ring S) (evaluated S 0 job.expr)

  lead_is : coefficient {R = ring S} (lead_in S job.expr value) (y_key S.variables 0) ≡ lead_at
  lead_is = constant-y_coefficient (ring S) (formal_degree job.expr) value
      ∙ coefficient-polynomial (ring S) (evaluated S 0 job.expr) (y_key S.variables (formal_degree job.expr))

  powers_listed : scaled (ring S) (coefficient {R = ring S} (lead_in S job.expr value) (y_key S.variables 0))
      (root_powers {R = ring S} job.roots)
      ≡ polynomial (ring S) (multiples lead_at (roots_entries S job.roots))
  powers_listed = (λ i. scaled (ring S) (lead_is i) (roots_listed S job.roots i)) ∙ scaled_listed (ring S) lead_at _

  -- the coefficients of Y^p
  pub at_origin : T (undivided job.expr) → (p : ℕ) → AreAtOrigin job p (tree_at p) (roots_at p)
  at_origin h p = (
    value,
    is_value S 0 job.expr h,
    sym (coefficient-polynomial (ring S) _ _),
    sym (ap (λ q. coefficient q (y_key S.variables p)) powers_listed ∙ coefficient-polynomial (ring S) _ _),
  )

  -- of any value
  of_value : (v : Poly S) → v ≡ value → (p input roots : ℕ) → input ≡ coefficient v (y_key S.variables p) → roots
      ≡ coefficient (scaled (ring S) (coefficient {R = ring S} (lead_in S job.expr v) (y_key S.variables 0))
      (root_powers {R = ring S} job.roots)) (y_key S.variables p)
      → (input ≡ tree_at p) × (roots ≡ roots_at p)
  of_value v e p input roots at at' = (
    at ∙ ap (λ v. coefficient v (y_key S.variables p)) e ∙ coefficient-polynomial (ring S) _ _,
    at' ∙ ap (λ v. coefficient (scaled (ring S) (coefficient {R = ring S} (lead_in S job.expr v) (y_key S.variables 0))
        (root_powers {R = ring S} job.roots)) (y_key S.variables p)) e
        ∙ ap (λ q. coefficient q (y_key S.variables p)) powers_listed ∙ coefficient-polynomial (ring S) _ _,
  )

  pub agree_at : T (undivided job.expr) → (p : ℕ) → tree_at p ≡ roots_at p → DifferAt job p → ⊥
  agree_at h p same (input, roots, (v, is, at, at'), differ) =
      let both = of_value v (only_value S 0 job.expr h v is) p input roots at at' in
      differ (both.0 ∙ same ∙ sym both.1)

  pub agree : T (undivided job.expr) → normal (ring S) (evaluated S 0 job.expr)
      ≡ normal (ring S) (multiples lead_at (roots_entries S job.roots)) → (p : ℕ) → DifferAt job p → ⊥
  agree h same p = agree_at h p (sym (coefficient-polynomial (ring S) _ _)
      ∙ ap (λ q. coefficient q (y_key S.variables p)) (same_sums (ring S) _ _ same)
      ∙ coefficient-polynomial (ring S) _ _)

  -- the lead's constant term, a unit or not
  pub lead_fault : T (undivided job.expr) → (gcd : ℕ) → (IsUnit S.modulus lead_at → ⊥)
      → IsGcd lead_at S.modulus gcd → IsFault job (LeadNotAUnit lead_at gcd)
  lead_fault h gcd not_unit is = (
    (lead_in S job.expr value, (value, is_value S 0 job.expr h, refl), sym lead_is),
    not_unit,
    is,
  )

  pub unit_lead : T (undivided job.expr) → IsUnit S.modulus lead_at → (v g : ℕ) → IsFault job (LeadNotAUnit v g) → ⊥
  unit_lead h unit v g ((l, (w, is, at), at'), not_unit, gcd) = not_unit (subst (IsUnit S.modulus) (sym (at'
      ∙ ap (λ l. coefficient {R = ring S} l (y_key S.variables 0)) (at
      ∙ ap (lead_in S job.expr) (only_value S 0 job.expr h w is)) ∙ lead_is)) unit)

  -- the value of a divisor at the origin
  abbrev pub divisor_at : Expr → ℕ
  divisor_at d = number_at S (evaluated S 0 d) (y_key S.variables 0)

  pub fails : (k : ℕ) (d : Expr) → T (undivided d) → IsDivisor job.expr k d → (IsUnit S.modulus (divisor_at d) → ⊥)
      → Fails S job.expr k (divisor_at d)
  fails k d h divisor not_unit = (
    d,
    divisor,
    polynomial (ring S) (evaluated S 0 d),
    is_value S 0 d h,
    sym (coefficient-polynomial (ring S) _ _),
    not_unit,
  )

-- numbers that are units, or not
pub no_zero : IsUnit 7 0 → ⊥
no_zero u = contradiction (u.inverse) (u.inverts)
  where
    contradiction : (e : ℕ) → (0 * e) % 7 ≡ 1 → ⊥
    contradiction e is = omega arith

pub no_three : IsUnit 6 3 → ⊥
no_three u = contradiction (u.inverse) (u.inverts)
  where
    contradiction : (e : ℕ) → (3 * e) % 6 ≡ 1 → ⊥
    contradiction e is = omega arith

pub gcd_zero : IsGcd 0 7 7
gcd_zero = IsGcd-swap 7 0 7 (IsGcd-from_zero 7 0 refl)

pub gcd_three : IsGcd 3 6 3
gcd_three = IsGcd-swap 6 3 3 (IsGcd-from_mod 6 3 3 (IsGcd-from_zero 3 0 refl))

pub unit : (m x e : ℕ) → e < m → (x * e) % m ≡ 1 → IsUnit m x
unit m x e lt is = record { inverse = e; is_residue = lt; inverts = is }

pub no_two : IsUnit 6 2 → ⊥
no_two u = contradiction (u.inverse) (u.inverts)
  where
    contradiction : (e : ℕ) → (2 * e) % 6 ≡ 1 → ⊥
    contradiction e is = omega arith

pub gcd_two : IsGcd 2 6 2
gcd_two = IsGcd-swap 6 2 2 (IsGcd-from_mod 6 2 2 (IsGcd-from_zero 2 0 refl))
