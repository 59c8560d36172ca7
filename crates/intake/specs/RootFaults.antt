-- Jobs of which the roots are to be tested.
--     IsJobOf m row roots job      the job is modulo m, its tree is one over its names and has no fault, its
--         roots are these, and the row is what its tree stands for at the origin: the coefficients of the
--         powers of Y from 0 to the formal degree
use Rattle.std.specs.Prelude.{◌≡◌, ℕ, suc, List, length}
use Rattle.ps_model.specs.declared.job.JobData.{JobData}
use Rattle.ps_model.specs.declared.job.Root.{Root}
use Rattle.ps_model.specs.Input.{IsValidInput}
use Rattle.ps_model.specs.Job.{job_ring}
use Rattle.ps_model.specs.SeriesRing.{Poly}
use Rattle.ps_model.specs.Tree.{IsValidTree, formal_degree}
use Rattle.ps_model.specs.Value.{IsValue}
use Rattle.intake.specs.Differences.{AreCoefficients}

pub record IsJobOf (m : ℕ) (row : List ℕ) (roots : List Root) (job : JobData) : Type 0 where
  pub modulus : job.modulus ≡ m
  pub roots_are : job.roots ≡ roots
  pub tree : IsValidTree job.n job.expr
  pub input : IsValidInput (job_ring job) job.expr
  pub length_is : length row ≡ suc (formal_degree job.expr)
  pub at_origin : (v : Poly (job_ring job)) → IsValue (job_ring job) 0 job.expr v
      → AreCoefficients job.modulus job.weights row v
