-- Sessions that are opened: there is a greatest degree that may be asked for, so nothing is known yet.
use Rattle.std.proofs.Common.{◌≡◌, ℕ, zero, suc, ◌+◌, ◌≤◌, List, [], ◌∷◌, All, length, sym, ap, subst, arith}
use Rattle.std.proofs.Common.{inl, inr}
use Rattle.std.proofs.lemmas.Bool.{cases_lt}
use Rattle.ps_model.specs.AcceptedJob.{IsAccepted}
use Rattle.parts.specs.Counting.{monomials_up_to}
use Rattle.parts.specs.JobRows.{IsPermitted}
use Rattle.parts.proofs.Ordered.{ArePositive}
use Rattle.intake.specs.Jobs.{JobValue}
use Rattle.stages.specs.States.{StageState, prepared_of}
use Rattle.session.specs.Calls.{IsFresh, IsFreshShared, IsEven}
use Rattle.session.specs.Precisions.{weights_in, IsGreatestPermitted}
use Rattle.session.specs.Sessions.{SessionState}
use Rattle.session.proofs.EvenSteps.{fresh_even}
use Rattle.session.proofs.Greatest.{zero_permitted}
use Rattle.commands.specs.Factorings.{factoring_of, IsFactoring}

weights_positive : (ws : List ℕ) → All (λ w. (1 ≤ w) × (w ≤ 64)) ws → ArePositive ws
weights_positive [] are = tt
weights_positive (w ∷ ws) are =
    let first = are 0 w (omega arith) in
    (let some = first.0 in omega arith, weights_positive ws (λ k d lt. are (suc k) d (omega arith)))

module _ (ws : List ℕ) (positive : ArePositive ws) where
  -- a bound that isn't permitted itself can be lowered
  one_less : (n : ℕ) → ((e : ℕ) → IsPermitted ws e → e ≤ suc n) → (IsPermitted ws (suc n) → ⊥)
      → (e : ℕ) → IsPermitted ws e → e ≤ n
  one_less n above not e is = elim (cases_lt e (suc n)) [
    | inl lt ↦ omega arith
    | inr ge ↦
        let low = above e is in
        let same : e ≡ suc n = omega arith in
        absurd (not (subst (IsPermitted ws) same is))
  ]

  greatest_below : (n : ℕ) → ((e : ℕ) → IsPermitted ws e → e ≤ n) → (d : ℕ) × IsGreatestPermitted ws d
  greatest_below zero above = (0, record { permitted = zero_permitted ws positive; greatest = above })
  greatest_below (suc n) above = elim (cases_lt 4095 (suc n)) [
    | inl large ↦ greatest_below n (one_less n above (λ is. let low = is.0 in omega arith))
    | inr low ↦ elim (cases_lt 32768 (monomials_up_to ws (suc n))) [
      | inl many ↦ greatest_below n (one_less n above (λ is. let few = is.1 in omega arith))
      | inr few ↦ (suc n, record { permitted = (low, few); greatest = above })
    ]
  ]

  greatest : (d : ℕ) × IsGreatestPermitted ws d
  greatest = greatest_below 4095 (λ e is. is.0)

module _ (job : JobValue) (s : SessionState) (ok : IsAccepted job.job) where
  there : (d : ℕ) × IsGreatestPermitted (weights_in job.job) d
  there = greatest (weights_in job.job) (weights_positive (weights_in job.job) ok.weights.of_variables)

  no_degrees : s.job ≡ job → s.lead ≡ [] → factoring_of s ≡ record { names = job.names; job = job.job; degrees = 0 }
  no_degrees same_job lead = λ i. record {
    names = (same_job i).names;
    job = (same_job i).job;
    degrees = ap length lead i;
  }

  module _ (opened : (d : ℕ) → IsGreatestPermitted (weights_in job.job) d → IsFresh (d + 1) job s) where
    fresh : IsFresh (there.0 + 1) job s
    fresh = opened there.0 there.1

    pub opened_even : IsFactoring s
    opened_even = subst (λ k. IsEven k s) (sym (ap length fresh.lead)) (fresh_even (there.0 + 1) job s fresh)

    pub opened_is : factoring_of s ≡ record { names = job.names; job = job.job; degrees = 0 }
    opened_is = no_degrees fresh.same_job fresh.lead

  -- over shared rows, which have names
  module _ (opened : (d : ℕ) → IsGreatestPermitted (weights_in job.job) d → IsFreshShared (d + 1) job s) where
    shared : IsFreshShared (there.0 + 1) job s
    shared = opened there.0 there.1

    pub shared_even : IsFactoring s
    shared_even = subst (λ k. IsEven k s) (sym (ap length shared.lead)) (record {
      stages = λ i d lt. (
        ap (λ (t : StageState). length t.items) (shared.stages.each i d lt),
        ap prepared_of (shared.stages.each i d lt),
      );
      lead = ap length shared.lead;
    })

    pub shared_is : factoring_of s ≡ record { names = job.names; job = job.job; degrees = 0 }
    shared_is = no_degrees shared.same_job shared.lead
