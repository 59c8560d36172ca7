-- A job without faults: its tree and its lead, its roots' multiplicities, and that they are apart.
use Rattle.std.proofs.Common.{◌≡◌, ℕ, zero, suc, ◌+◌, ◌-◌, ◌*◌, ◌%◌, ◌<◌, ◌≤◌, ◌⊎◌, inl, inr, List, [], ◌∷◌, refl, sym}
use Rattle.std.proofs.Common.{◌∙◌, ap, subst, arith}
use Rattle.std.specs.Prelude.{Some, slice_get, max}
use Rattle.std.specs.List.{All}
use Rattle.std.proofs.lemmas.Bool.Decides.{eqb_tells}
use Rattle.std.proofs.lemmas.Nat.{mul-mod_first}
use Rattle.ps_model.specs.declared.job.JobData.{JobData}
use Rattle.ps_model.specs.declared.job.Root.{Root}
use Rattle.ps_model.specs.Bounds.{IsUnit}
use Rattle.ps_model.specs.Factors.{total_times, IsApart, AreApart}
use Rattle.ps_model.specs.Tree.{formal_degree}
use Rattle.ps_model.specs.Input.{told_count, IsValidInput}
use Rattle.ps_model.specs.Job.{job_ring, series_ring, OfInput, LeadNotAUnit, DegreeMismatch, NotApart}
use Rattle.ps_model.specs.Job.{IsPairTooNear, IsValidJob}
use Rattle.ps_model.specs.AcceptedJob.{IsLawfulJob, IsAccepted}
use Rattle.ps_model.proofs.UnitsDecided.{number_stable, unit_decided, unit_stable, gcd_exists}
use Rattle.ps_model.proofs.MonicInputs.{HasUnitLead}
use Rattle.ps_model.proofs.InputValues.{small_degree}

-- where a job has no fault, its formal degree is the sum of the multiplicities
pub valid_degree : (job : JobData) → IsValidJob job → formal_degree job.expr ≡ total_times job.roots
valid_degree job valid = number_stable _ _ (λ ne. valid
    (DegreeMismatch (told_count (formal_degree job.expr)) (told_count (total_times job.roots))) (ne, refl, refl))

-- its tree is an input without a fault
pub valid_input : (job : JobData) → IsValidJob job → IsValidInput (job_ring job) job.expr
valid_input job valid f is = valid (OfInput f) is

pub valid_small : (job : JobData) → IsValidJob job → formal_degree job.expr ≤ 32
valid_small job valid = small_degree (job_ring job) job.expr (valid_input job valid)

-- and the lead's constant term is a unit
pub lawful_lead : (job : JobData) → IsLawfulJob job → HasUnitLead (job_ring job) job.expr
lawful_lead job ok l is = unit_stable (job_ring job).modulus _ (λ not.
    let gcd = gcd_exists _ (job_ring job).modulus in
    ok.valid (LeadNotAUnit _ gcd.0) ((l, is, refl), not, gcd.1))

-- the modulus of a job's ring is the job's
pub same_modulus : (job : JobData) → 2 ≤ job.modulus → (job_ring job).modulus ≡ job.modulus
unfolding series_ring
same_modulus job h = at_least job.modulus h
  where
    at_least : (m : ℕ) → 2 ≤ m → max 2 m ≡ m
    at_least m h = omega arith

-- a pair of places is before another, or the same, or behind it
in_order : (i j i' j' : ℕ) → (i' < i → ⊥) → (i' ≡ i → j' < j → ⊥) → (i < i') ⊎ ((i ≡ i') × (j ≤ j'))
in_order i j i' j' not_less not_first = elim (eqb_tells i i') [
  | inl same ↦ inr (same.1, at_least j j' (not_first (sym same.1)))
  | inr other ↦ inl (less i i' other.1 not_less)
]
  where
    at_least : (a b : ℕ) → (b < a → ⊥) → a ≤ b
    at_least a b h = omega arith

    less : (a b : ℕ) → (a ≡ b → ⊥) → (b < a → ⊥) → a < b
    less a b h k = omega arith

module _ (job : JobData) (valid : IsValidJob job) where
  -- by the earlier pairs, of which none is too near
  none_at : (i j d : ℕ) → ((i' j' d' : ℕ) → i' < i → IsPairTooNear job i' j' d' → ⊥)
      → ((i' j' d' : ℕ) → i' ≡ i → j' < j → IsPairTooNear job i' j' d' → ⊥) → IsPairTooNear job i j d → ⊥
  none_at i j d earlier same near =
      let gcd = gcd_exists d job.modulus in
      valid (NotApart i j d gcd.0) (
        near,
        gcd.1,
        λ i' j' d' near'. in_order i j i' j' (λ lt. earlier i' j' d' lt near') (λ is lt. same i' j' d' is lt near'),
      )

  none_in_row : (i k : ℕ) → ((i' j' d' : ℕ) → i' < i → IsPairTooNear job i' j' d' → ⊥) → (i' j d : ℕ) → i' ≡ i
      → j < k → IsPairTooNear job i' j d → ⊥
  none_in_row i zero earlier i' j d is lt near = absurd (omega arith)
  none_in_row i (suc k) earlier i' j d is lt near = none_at i' j d
      (λ a b c less. earlier a b c (omega arith))
      (λ a b c same less. none_in_row i k earlier a b c (omega arith) (omega arith)) near

  none_before : (n i j d : ℕ) → i < n → IsPairTooNear job i j d → ⊥
  none_before zero i j d lt near = absurd (omega arith)
  none_before (suc n) i j d lt near = none_in_row i (suc j)
      (λ a b c less. none_before n a b c (omega arith)) i j d refl (omega arith) near

  -- no two roots are too near
  pub valid_pairs : (i j d : ℕ) → IsPairTooNear job i j d → ⊥
  valid_pairs i j d near = none_before (suc i) i j d (omega arith) near

unit_of_residue : (m a b : ℕ) → IsUnit m ((a + b) % m) → IsUnit m (b + a)
unit_of_residue m a b u = record {
  inverse = u.inverse;
  is_residue = u.is_residue;
  inverts = ap (λ n. (n * u.inverse) % m) (swap a b) ∙ sym (mul-mod_first (a + b) u.inverse m) ∙ u.inverts;
}
  where
    swap : (a b : ℕ) → b + a ≡ a + b
    swap a b = omega arith

module _ (m : ℕ) where
  abbrev AreUnits : List Root → Type 0
  AreUnits roots = (i j : ℕ) (r s : Root) → i < j → slice_get roots i ≡ Some r → slice_get roots j ≡ Some s
      → IsUnit m ((m - s.value) + r.value)

  apart_from : (r : Root) (ss : List Root) → ((j : ℕ) (s : Root) → slice_get ss j ≡ Some s
      → IsUnit m ((m - s.value) + r.value)) → IsApart m r ss
  apart_from r [] h = tt
  apart_from r (s ∷ ss) h = (h 0 s refl, apart_from r ss (λ j t at. h (suc j) t at))

  are_apart : (roots : List Root) → All (λ r. r.value < m) roots → AreUnits roots → AreApart m roots
  are_apart [] residues units = tt
  are_apart (r ∷ rs) residues units = (
    residues 0 r (omega arith),
    apart_from r rs (λ j s at. units 0 (suc j) r s (omega arith) refl at),
    are_apart rs (λ k d lt. residues (suc k) d (omega arith))
        (λ i j a b lt at at'. units (suc i) (suc j) a b (omega arith) at at'),
  )

-- an accepted job is lawful
pub accepted_lawful : (job : JobData) → IsAccepted job → IsLawfulJob job
accepted_lawful job ok = record {
  modulus = ok.modulus.0;
  tree = ok.tree;
  residues = λ i d lt. (ok.roots i d lt).residue;
  valid = ok.valid;
}

-- the roots of a lawful job are apart
pub lawful_apart : (job : JobData) → IsLawfulJob job → AreApart (job_ring job).modulus job.roots
lawful_apart job ok = subst (λ m. AreApart m job.roots) (sym (same_modulus job ok.modulus))
    (are_apart job.modulus job.roots ok.residues units)
  where
    units : (i j : ℕ) (r s : Root) → i < j → slice_get job.roots i ≡ Some r → slice_get job.roots j ≡ Some s
        → IsUnit job.modulus ((job.modulus - s.value) + r.value)
    units i j r s lt at at' = elim (unit_decided job.modulus ((r.value + (job.modulus - s.value)) % job.modulus)) [
      | inl unit ↦ unit_of_residue job.modulus r.value (job.modulus - s.value) unit
      | inr not ↦ absurd (valid_pairs job ok.valid (suc i) (suc j)
          ((r.value + (job.modulus - s.value)) % job.modulus) (
            r,
            s,
            omega arith,
            omega arith,
            ap (slice_get job.roots) (back i) ∙ at,
            ap (slice_get job.roots) (back j) ∙ at',
            refl,
            not,
          ))
    ]
      where
        back : (k : ℕ) → suc k - 1 ≡ k
        back k = omega arith
