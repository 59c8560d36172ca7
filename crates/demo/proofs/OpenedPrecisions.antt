-- Of any weights there is a greatest degree that may be asked for, so that an opened session is fresh.
use Rattle.std.proofs.Common.{◌≡◌, ℕ, zero, suc, ◌+◌, ◌-◌, ◌*◌, ◌≤◌, List, [], ◌∷◌, All, subst, arith}
use Rattle.std.proofs.Common.{inl, inr}
use Rattle.std.proofs.lemmas.Bool.{cases_lt}
use Rattle.ps_model.specs.AcceptedJob.{IsAccepted}
use Rattle.parts.specs.Counting.{monomials_up_to}
use Rattle.parts.specs.JobRows.{IsPermitted}
use Rattle.parts.proofs.Counted.{count-below, count-more, count-one}
use Rattle.parts.proofs.Ordered.{ArePositive}
use Rattle.intake.specs.Jobs.{JobValue}
use Rattle.session.specs.Calls.{IsEven, IsFresh}
use Rattle.session.specs.Precisions.{weights_in, IsGreatestPermitted}
use Rattle.session.specs.Sessions.{SessionState}
use Rattle.session.proofs.EvenSteps.{fresh_even}
use Rattle.session.proofs.Greatest.{zero_permitted}

weights_positive : (ws : List ℕ) → All (λ w. (1 ≤ w) × (w ≤ 64)) ws → ArePositive ws
weights_positive [] are = tt
weights_positive (w ∷ ws) are =
    let first = are 0 w (omega arith) in
    (let some = first.0 in omega arith, weights_positive ws (λ k d lt. are (suc k) d (omega arith)))

module _ (ws : List ℕ) (positive : ArePositive ws) where
  -- a bound that isn't permitted itself can be lowered
  one_less : (n : ℕ) → ((e : ℕ) → IsPermitted ws e → e ≤ suc n) → (IsPermitted ws (suc n) → ⊥)
      → (e : ℕ) → IsPermitted ws e → e ≤ n
  one_less n above not e is = elim (cases_lt e (suc n)) [
    | inl lt ↦ omega arith
    | inr ge ↦
        let low = above e is in
        let same : e ≡ suc n = omega arith in
        absurd (not (subst (IsPermitted ws) same is))
  ]

  greatest_below : (n : ℕ) → ((e : ℕ) → IsPermitted ws e → e ≤ n) → (d : ℕ) × IsGreatestPermitted ws d
  greatest_below zero above = (0, record { permitted = zero_permitted ws positive; greatest = above })
  greatest_below (suc n) above = elim (cases_lt 4095 (suc n)) [
    | inl large ↦ greatest_below n (one_less n above (λ is. let low = is.0 in omega arith))
    | inr low ↦ elim (cases_lt 32768 (monomials_up_to ws (suc n))) [
      | inl many ↦ greatest_below n (one_less n above (λ is. let few = is.1 in omega arith))
      | inr few ↦ (suc n, record { permitted = (low, few); greatest = above })
    ]
  ]

  greatest : (d : ℕ) × IsGreatestPermitted ws d
  greatest = greatest_below 4095 (λ e is. is.0)

module _ (job : JobValue) (s : SessionState) (ok : IsAccepted job.job)
    (opened : (d : ℕ) → IsGreatestPermitted (weights_in job.job) d → IsFresh (d + 1) job s) where
  there : (d : ℕ) × IsGreatestPermitted (weights_in job.job) d
  there = greatest (weights_in job.job) (weights_positive (weights_in job.job) ok.weights.of_variables)

  fresh : IsFresh (there.0 + 1) job s
  fresh = opened there.0 there.1

  pub opened_even : IsEven 0 s
  opened_even = fresh_even (there.0 + 1) job s fresh

  pub opened_job : s.job ≡ job
  opened_job = fresh.same_job

-- two variables of weight 1 have few monomials up to degree 40
two_variables : (d : ℕ) → d ≤ 40 → monomials_up_to (1 ∷ 1 ∷ []) d ≤ 41 * (d + 1)
two_variables zero le = first _ _ (count-below 1 (1 ∷ []) 0 (omega arith)) (count-one 0)
  where
    first : (n m : ℕ) → n ≡ m → m ≡ 0 + 1 → n ≤ 41 * (0 + 1)
    first n m is is' = omega arith
two_variables (suc d) le = more _ _ _ d le (count-more 1 (1 ∷ []) (suc d) (omega arith) (omega arith))
    (count-one (suc d))
    (subst (λ e. monomials_up_to (1 ∷ 1 ∷ []) e ≤ 41 * (d + 1)) (let same : d ≡ suc d - 1 = omega arith in same)
    (two_variables d (omega arith)))
  where
    more : (n m k d : ℕ) → suc d ≤ 40 → n ≡ m + k → m ≡ suc d + 1 → k ≤ 41 * (d + 1) → n ≤ 41 * (suc d + 1)
    more n m k d le is first later = omega arith

pub permitted_40 : IsPermitted (1 ∷ 1 ∷ []) 40
permitted_40 = (omega arith, let few = two_variables 40 (omega arith) in omega arith)
