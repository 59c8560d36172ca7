-- Jobs: the ring in which one is computed, what is wrong with one, and its factors.
--     series_ring m ws      polynomials in Y and eight variables with these weights modulo m; a
--         weight that is 0 or missing is taken as 1, a modulus below 2 as 2
--     job_ring job      those of the job's modulus and weights
--     Fault      what may be wrong with a job, with the values that are told
--     order f      the faults' one order, from 1
--     IsFault job f      this is wrong with the job
--     IsFirstFault job f      it is, and nothing that comes earlier in the order
--     IsValidJob job      nothing is wrong with it
--     AreFactorsOf job D value fs      monic factors, at the origin the root powers, whose product
--         times the value's lead is the value, up to degree D
--     IsFactors job D fs      the same of the value of the job's tree: the list of factors of
--         Hensel's lemma
use Rattle.std.specs.Prelude.{◌≡◌, ◌≢◌, ℕ, ◌+◌, ◌-◌, ◌%◌, ◌<◌, ◌≤◌, ◌⊎◌, max, Some, List}
use Rattle.std.specs.Prelude.{slice_get}
use Rattle.std.specs.Int.{IsGcd}
use Rattle.std.proofs.Common.{arith}
use Rattle.ps_model.specs.declared.job.JobData.{JobData}
use Rattle.ps_model.specs.declared.job.Root.{Root}
use Rattle.ps_model.specs.Keys.{weights_from, y_key}
use Rattle.ps_model.specs.KeyLaws.{weights_from-positive}
use Rattle.ps_model.specs.Notation.{coefficient, constant_term, scaled, product, truncated}
use Rattle.ps_model.specs.Bounds.{IsUnit}
use Rattle.ps_model.specs.SeriesRing.{SeriesRing, Poly}
use Rattle.ps_model.specs.Factors.{total_times, product_of, root_powers, EachIsFactor}
use Rattle.ps_model.specs.Tree.{formal_degree}
use Rattle.ps_model.specs.Value.{IsValue}
use Rattle.ps_model.specs.Lead.{lead_in, IsLead}
use Rattle.ps_model.specs.Input.{InputFault, input_order, IsInputFault, IsLeast, told_count}

pub two_at_least : (m : ℕ) → 2 ≤ max 2 m
two_at_least m = omega arith

unfoldable pub series_ring : ℕ → List ℕ → SeriesRing
series_ring m ws = record {
  variables = 8;
  weights = weights_from 8 ws;
  positive = weights_from-positive 8 ws;
  modulus = max 2 m;
  at_least_two = two_at_least m;
}

abbrev pub job_ring : JobData → SeriesRing
job_ring job = series_ring job.modulus job.weights

pub data Fault : Type 0 where
  OfInput : InputFault → Fault
  LeadNotAUnit : ℕ → ℕ → Fault
  DegreeMismatch : ℕ → ℕ → Fault
  NotApart : ℕ → ℕ → ℕ → ℕ → Fault
  RootsMismatch : ℕ → ℕ → ℕ → Fault

abbrev pub order : Fault → ℕ
order (OfInput f) = input_order f
order (LeadNotAUnit value gcd) = 5
order (DegreeMismatch degree total) = 6
order (NotApart first second difference gcd) = 7
order (RootsMismatch power input roots) = 8

-- the lead's constant term
abbrev pub IsLeadAtOrigin : JobData → ℕ → Type 0
IsLeadAtOrigin job value =
    (l : Poly (job_ring job)) × IsLead (job_ring job) 0 job.expr l × (value ≡ constant_term l)

-- the roots i and j, counted from 1, have a difference that is no unit
abbrev pub IsPairTooNear : JobData → ℕ → ℕ → ℕ → Type 0
IsPairTooNear job i j difference =
    (r : Root) × (s : Root) × (0 < i) × (i < j)
    × (slice_get job.roots (i - 1) ≡ Some r) × (slice_get job.roots (j - 1) ≡ Some s)
    × (difference ≡ (r.value + (job.modulus - s.value)) % job.modulus)
    × (IsUnit job.modulus difference → ⊥)

-- the coefficients of Y ^ power at the origin: of the tree's value, and of the lead's constant term times the
-- product of the root powers
abbrev pub AreAtOrigin : JobData → ℕ → ℕ → ℕ → Type 0
AreAtOrigin job power input roots =
    let S = job_ring job in
    let powers : Poly S = root_powers job.roots in
    (v : Poly S) × IsValue S 0 job.expr v
    × (input ≡ coefficient v (y_key S.variables power))
    × (roots ≡ coefficient (scaled (constant_term (lead_in S job.expr v)) powers) (y_key S.variables power))

abbrev pub DifferAt : JobData → ℕ → Type 0
DifferAt job power = (input : ℕ) × (roots : ℕ) × AreAtOrigin job power input roots × (input ≢ roots)

abbrev pub IsFault : JobData → Fault → Type 0
IsFault job (OfInput f) = IsInputFault (job_ring job) job.expr f
IsFault job (LeadNotAUnit value gcd) =
    IsLeadAtOrigin job value × (IsUnit (job_ring job).modulus value → ⊥) × IsGcd value (job_ring job).modulus gcd
IsFault job (DegreeMismatch degree total) =
    (formal_degree job.expr ≢ total_times job.roots)
    × (degree ≡ told_count (formal_degree job.expr)) × (total ≡ told_count (total_times job.roots))
IsFault job (NotApart first second difference gcd) =
    IsPairTooNear job first second difference × IsGcd difference job.modulus gcd
    × ((i j d : ℕ) → IsPairTooNear job i j d → (first < i) ⊎ ((first ≡ i) × (second ≤ j)))
IsFault job (RootsMismatch power input roots) = AreAtOrigin job power input roots × IsLeast (DifferAt job) power

pub record IsFirstFault (job : JobData) (f : Fault) : Type 0 where
  pub holds : IsFault job f
  pub first : (g : Fault) → IsFault job g → order f ≤ order g

abbrev pub IsValidJob : JobData → Type 0
IsValidJob job = (f : Fault) → IsFault job f → ⊥

pub record AreFactorsOf (job : JobData) (D : ℕ) (value : Poly (job_ring job)) (fs : List (Poly (job_ring job))) :
    Type 0 where
  pub each : EachIsFactor D job.roots fs
  pub product_is : truncated D (product (lead_in (job_ring job) job.expr value) (product_of fs)) ≡ value

pub record IsFactors (job : JobData) (D : ℕ) (fs : List (Poly (job_ring job))) : Type 0 where
  pub value : Poly (job_ring job)
  pub is_value : IsValue (job_ring job) D job.expr value
  pub are_factors : AreFactorsOf job D value fs
