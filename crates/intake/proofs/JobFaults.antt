-- The first fault of a job whose input has none: the earlier ones are ruled out one by one.
use Rattle.std.proofs.Common.{◌≡◌, ◌≢◌, ℕ, ◌≤◌, sym, ◌∙◌, ap, arith, lit≤}
use Rattle.ps_model.specs.declared.job.JobData.{JobData}
use Rattle.ps_model.specs.Factors.{total_times}
use Rattle.ps_model.specs.Tree.{formal_degree}
use Rattle.ps_model.specs.Input.{DividesByY, TooManyNodes, DegreeTooLarge, NotAUnit, IsValidInput, told_count}
use Rattle.ps_model.specs.Job.{job_ring, LeadNotAUnit, DegreeMismatch, NotApart, RootsMismatch, AreAtOrigin}
use Rattle.ps_model.specs.Job.{DifferAt, IsFault, IsFirstFault, IsValidJob}
use Rattle.ps_model.proofs.FaultOrder.{own, after, all_ruled_out, same_degree}
use Rattle.ps_model.proofs.InputValues.{small_degree}

-- a small count is told as it is, and is the count where it is told
told_small : (n : ℕ) → n ≤ 32 → n ≡ told_count n
told_small n small = omega arith

told_as : (n t : ℕ) → n ≤ 32 → n ≡ told_count t → n ≡ t
told_as n t small is = omega arith

module _ (job : JobData) (input : IsValidInput (job_ring job) job.expr) where
  degree_small : formal_degree job.expr ≤ 32
  degree_small = small_degree (job_ring job) job.expr input

  pub lead_fault : (v g : ℕ) → IsFault job (LeadNotAUnit v g) → IsFirstFault job (LeadNotAUnit v g)
  lead_fault v g is = record {
    holds = is;
    first = after job 5 (λ lt k. input (DividesByY k)) (λ lt c. input (TooManyNodes c))
        (λ lt d. input (DegreeTooLarge d)) (λ lt k v g. input (NotAUnit k v g)) (own 5 5 (lit≤ tt))
        (own 5 6 (lit≤ tt)) (own 5 7 (lit≤ tt)) (own 5 8 (lit≤ tt));
  }

  module _ (unit : (v g : ℕ) → IsFault job (LeadNotAUnit v g) → ⊥) where
    pub mismatch_fault : (d t : ℕ) → d ≡ formal_degree job.expr → t ≡ told_count (total_times job.roots) → d ≢ t
        → IsFirstFault job (DegreeMismatch d t)
    mismatch_fault d t degree told other = record {
      holds = (
        λ e. other (degree ∙ told_small (formal_degree job.expr) degree_small ∙ ap told_count e ∙ sym told),
        degree ∙ told_small (formal_degree job.expr) degree_small,
        told,
      );
      first = after job 6 (λ lt k. input (DividesByY k)) (λ lt c. input (TooManyNodes c))
          (λ lt d. input (DegreeTooLarge d)) (λ lt k v g. input (NotAUnit k v g)) (λ lt. unit) (own 6 6 (lit≤ tt))
          (own 6 7 (lit≤ tt)) (own 6 8 (lit≤ tt));
    }

    -- where the degree is the total as it is told, it is the total
    pub told_same : (d t : ℕ) → d ≡ formal_degree job.expr → t ≡ told_count (total_times job.roots) → d ≡ t
        → formal_degree job.expr ≡ total_times job.roots
    told_same d t degree told same =
        told_as (formal_degree job.expr) (total_times job.roots) degree_small (sym degree ∙ same ∙ told)

    module _ (same : formal_degree job.expr ≡ total_times job.roots) where
      pub apart_fault : (i j d g : ℕ) → IsFault job (NotApart i j d g) → IsFirstFault job (NotApart i j d g)
      apart_fault i j d g is = record {
        holds = is;
        first = after job 7 (λ lt k. input (DividesByY k)) (λ lt c. input (TooManyNodes c))
            (λ lt d. input (DegreeTooLarge d)) (λ lt k v g. input (NotAUnit k v g)) (λ lt. unit)
            (λ lt. same_degree job same) (own 7 7 (lit≤ tt)) (own 7 8 (lit≤ tt));
      }

      module _ (apart : (i j d g : ℕ) → IsFault job (NotApart i j d g) → ⊥) where
        pub roots_fault : (p input roots : ℕ) → AreAtOrigin job p input roots → input ≢ roots
            → ((i : ℕ) → DifferAt job i → p ≤ i) → IsFirstFault job (RootsMismatch p input roots)
        roots_fault p at_input at_roots at differ least = record {
          holds = (at, ((at_input, at_roots, at, differ), least));
          first = after job 8 (λ lt k. input (DividesByY k)) (λ lt c. input (TooManyNodes c))
              (λ lt d. input (DegreeTooLarge d)) (λ lt k v g. input (NotAUnit k v g)) (λ lt. unit)
              (λ lt. same_degree job same) (λ lt. apart) (own 8 8 (lit≤ tt));
        }

        pub no_fault : ((p : ℕ) → DifferAt job p → ⊥) → IsValidJob job
        no_fault agree = all_ruled_out job (after job 9 (λ lt k. input (DividesByY k)) (λ lt c. input (TooManyNodes c))
            (λ lt d. input (DegreeTooLarge d)) (λ lt k v g. input (NotAUnit k v g)) (λ lt. unit)
            (λ lt. same_degree job same) (λ lt. apart) (λ lt p i r (at, (differ, least)). agree p differ))
