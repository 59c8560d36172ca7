-- What each test of a job's roots tells, from what was computed.
use Rattle.std.proofs.Common.{◌≡◌, ◌≢◌, ℕ, suc, ◌+◌, ◌-◌, ◌<◌, ◌≤◌, List, [], ◌∷◌, Option, None, Some, length, get_or}
use Rattle.std.proofs.Common.{refl, sym, ◌∙◌, ap, subst, arith}
use Rattle.std.specs.Int.{IsGcd}
use Rattle.std.specs.List.{All}
use Rattle.ps_model.specs.declared.job.JobData.{JobData}
use Rattle.ps_model.specs.declared.job.Root.{Root}
use Rattle.ps_model.specs.AcceptedJob.{IsAcceptedRoot}
use Rattle.ps_model.specs.Bounds.{IsUnit, ExactlyOne}
use Rattle.ps_model.specs.Factors.{root_powers, total_times}
use Rattle.ps_model.specs.Input.{told_count}
use Rattle.ps_model.specs.Job.{job_ring, LeadNotAUnit, DegreeMismatch, NotApart, RootsMismatch, AreAtOrigin}
use Rattle.ps_model.specs.Job.{DifferAt, IsFault, IsFirstFault, IsValidJob}
use Rattle.ps_model.specs.Lead.{lead_in}
use Rattle.ps_model.specs.Polynomial.{coefficient, scaled}
use Rattle.ps_model.specs.SeriesRing.{SeriesRing, ring, Poly}
use Rattle.ps_model.specs.Tree.{formal_degree}
use Rattle.ps_model.specs.Value.{IsValue}
use Rattle.ps_model.proofs.InputValues.{valid_value}
use Rattle.ps_model.proofs.YCoefficients.{constant-y_coefficient}
use Rattle.intake.specs.declared.differences.Difference.{Difference}
use Rattle.intake.specs.declared.roots.NearPair.{NearPair}
use Rattle.intake.specs.Apart.{IsNearPair}
use Rattle.intake.specs.Differences.{scaled_at, IsFirstDifference}
use Rattle.intake.specs.RootFaults.{IsJobOf}
use Rattle.intake.proofs.JobFaults.{lead_fault, mismatch_fault, told_same, apart_fault, roots_fault, no_fault}
use Rattle.intake.proofs.NearPairs.{no_unit, later, second_within}
use Rattle.intake.proofs.RootProducts.{modulus_is}

-- each root has some multiplicity, so there are at most as many roots as these add to
pub few_roots : (m : ℕ) (roots : List Root) → All (IsAcceptedRoot m) roots → length roots ≤ total_times roots
few_roots m [] all = omega arith
few_roots m (r ∷ rs) all =
    let some = (all 0 r (omega arith)).some in
    let rest = few_roots m rs (λ k d lt. all (suc k) d (omega arith)) in
    omega arith

pub residues : (m : ℕ) (roots : List Root) → All (IsAcceptedRoot m) roots → All (λ (r : Root). r.value < m) roots
residues m roots all = λ k d lt. (all k d lt).residue

-- a pair of them stands at small places
pub near_few : (m : ℕ) (roots : List Root) (pair : NearPair) (last t : ℕ) → All (IsAcceptedRoot m) roots
    → IsNearPair m roots (Some pair) → last ≤ 32 → last ≡ t → t ≡ told_count (total_times roots)
    → (pair.first < 33) × (pair.second < 33)
near_few m roots pair last t all near small same told =
    let few = few_roots m roots all in
    let inside = second_within m roots pair.first pair.second pair.difference near.near in
    let before = later m roots pair.first pair.second pair.difference near.near in
    let total : total_times roots ≤ 32 = told_few (total_times roots) t told (omega arith) in
    ((omega arith), (omega arith))
  where
    told_few : (n t : ℕ) → t ≡ told_count n → t ≤ 32 → n ≤ 32
    told_few n t is le = omega arith

-- a total that is told as a small degree is that degree
pub told_total : (n total t : ℕ) → 0 < n → n ≤ 33 → n - 1 ≡ t → t ≡ told_count total → n ≡ total + 1
told_total n total t some few same told = omega arith

at_least : (n k : ℕ) → (n < k → ⊥) → k ≤ n
at_least n k h = omega arith

module _ (m : ℕ) (row : List ℕ) (roots : List Root) (two : 2 ≤ m) (job : JobData) (is : IsJobOf m row roots job)
  where
    abbrev S : SeriesRing
    S = job_ring job

    abbrev power_y : ℕ
    power_y = formal_degree job.expr

    value : ExactlyOne (IsValue S 0 job.expr)
    value = valid_value S job.expr is.input job.n is.tree 0

    modulus_here : m ≡ S.modulus
    modulus_here = sym is.modulus ∙ sym (modulus_is job.modulus job.weights (subst (λ k. 2 ≤ k) (sym is.modulus) two))

    total_here : (t : ℕ) → t ≡ told_count (total_times roots) → t ≡ told_count (total_times job.roots)
    total_here t told = told ∙ ap (λ rs. told_count (total_times rs)) (sym is.roots_are)

    module _ (lead last : ℕ) (last_is : last ≡ length row - 1) (lead_is : lead ≡ get_or row last 0) where
      degree_is : last ≡ power_y
      degree_is = let count = is.length_is in omega arith

      lead_at : (w : Poly S) → IsValue S 0 job.expr w
          → lead ≡ coefficient (ring S) (lead_in S job.expr w) (ring S).origin
      lead_at w at = lead_is ∙ ap (λ k. get_or row k 0) degree_is ∙ is.at_origin w at power_y
          ∙ sym (constant-y_coefficient (ring S) power_y w)

      -- the test of the lead
      pub found_lead : (g : ℕ) → 1 < g → IsGcd lead m g → IsFirstFault job (LeadNotAUnit lead g)
      found_lead g above gcd = lead_fault job is.input lead g (
        (lead_in S job.expr value.one_value, (value.one_value, value.meets, refl), lead_at value.one_value value.meets),
        subst (λ k. IsUnit k lead → ⊥) modulus_here (no_unit m lead g above gcd),
        subst (λ k. IsGcd lead k g) modulus_here gcd,
      )

      found_unit : IsUnit m lead → (c g : ℕ) → IsFault job (LeadNotAUnit c g) → ⊥
      found_unit unit c g ((l, (w, at, l_is), c_is), not_unit, gcd) = not_unit (subst (IsUnit S.modulus)
          (lead_at w at ∙ ap (λ q. coefficient (ring S) q (ring S).origin) (sym l_is) ∙ sym c_is)
          (subst (λ k. IsUnit k lead) modulus_here unit))

      module _ (unit : IsUnit m lead) (t : ℕ) (told : t ≡ told_count (total_times roots)) where
        -- the test of the degree
        pub found_mismatch : last ≢ t → IsFirstFault job (DegreeMismatch last t)
        found_mismatch other = mismatch_fault job is.input (found_unit unit) last t degree_is (total_here t told) other

        module _ (same : last ≡ t) where
          same_degree : power_y ≡ total_times job.roots
          same_degree = told_same job is.input (found_unit unit) last t degree_is (total_here t told) same

          -- the search for a pair that is too near
          near_here : (o : Option NearPair) → IsNearPair m roots o → IsNearPair job.modulus job.roots o
          near_here o h = subst (λ k. IsNearPair k job.roots o) (sym is.modulus)
              (subst (λ rs. IsNearPair m rs o) (sym is.roots_are) h)

          pub found_near : (pair : NearPair) → IsNearPair m roots (Some pair)
              → IsFirstFault job (NotApart pair.first pair.second pair.difference pair.gcd)
          found_near pair h = let found = near_here (Some pair) h in
              apart_fault job is.input (found_unit unit) same_degree pair.first pair.second pair.difference pair.gcd
              (found.near, found.divisor, found.least)

          module _ (none : IsNearPair m roots None) where
            apart : (i j d g : ℕ) → IsFault job (NotApart i j d g) → ⊥
            apart i j d g fault = near_here None none i j d fault.0

            -- the search for a difference at the origin
            abbrev expected : ℕ → ℕ
            expected p = scaled_at job.modulus job.weights lead job.roots p

            at_here : (p : ℕ) → AreAtOrigin job p (get_or row p 0) (expected p)
            unfolding scaled_at
            at_here p = (
              value.one_value,
              value.meets,
              is.at_origin value.one_value value.meets p,
              ap (λ c. coefficient (ring S) (scaled (ring S) c (root_powers {R = ring S} job.roots)) ((ring S).y p))
                  (lead_at value.one_value value.meets),
            )

            agree_at : (p : ℕ) → get_or row p 0 ≡ expected p → DifferAt job p → ⊥
            unfolding scaled_at
            agree_at p equal (at_input, at_roots, (w, w_is, at, at'), ne) = ne (at ∙ sym (is.at_origin w w_is p) ∙ equal
                ∙ ap (λ c. coefficient (ring S) (scaled (ring S) c (root_powers {R = ring S} job.roots)) ((ring S).y p))
                (lead_at w w_is) ∙ sym at')

            difference_here : (o : Option Difference) → ((ws : List ℕ) → IsFirstDifference m ws row lead roots o)
                → IsFirstDifference job.modulus job.weights row lead job.roots o
            difference_here o h = subst (λ k. IsFirstDifference k job.weights row lead job.roots o) (sym is.modulus)
                (subst (λ rs. IsFirstDifference m job.weights row lead rs o) (sym is.roots_are) (h job.weights))

            pub found_none : ((ws : List ℕ) → IsFirstDifference m ws row lead roots None) → IsValidJob job
            found_none h = no_fault job is.input (found_unit unit) same_degree apart
                (λ p. agree_at p (difference_here None h p))

            pub found_difference : (x : Difference) → ((ws : List ℕ) → IsFirstDifference m ws row lead roots (Some x))
                → IsFirstFault job (RootsMismatch x.power x.input x.roots)
            found_difference x h =
                let found = difference_here (Some x) h in
                roots_fault job is.input (found_unit unit) same_degree apart x.power x.input x.roots
                (subst (λ k. AreAtOrigin job x.power k x.roots) (sym found.row_is)
                (subst (λ k. AreAtOrigin job x.power (get_or row x.power 0) k) (sym found.roots_is) (at_here x.power)))
                found.differ (λ i differ. at_least i x.power (λ lt. agree_at i (found.first i lt) differ))
