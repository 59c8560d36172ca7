-- Jobs that can be factored.
--     AreWeights n ws      eight weights, those of the first n variables from 1 to 64, the others 1
--     IsLawfulJob job      the tree is one over the job's names, the roots are residues, and nothing
--         is wrong with the job: it has exactly one list of factors at each degree
--     IsAcceptedRoot m r      the root is a residue modulo m, with a multiplicity from 1 to 32
--     IsAccepted job      the job's data are within their limits, and nothing is wrong with it
use Rattle.std.specs.Prelude.{ℕ, ◌≡◌, ◌^◌, ◌<◌, ◌≤◌, List, length, take, drop}
use Rattle.std.specs.List.{All}
use Rattle.ps_model.specs.declared.job.JobData.{JobData}
use Rattle.ps_model.specs.declared.job.Root.{Root}
use Rattle.ps_model.specs.Tree.{IsValidTree}
use Rattle.ps_model.specs.Job.{IsValidJob}

pub record AreWeights (n : ℕ) (ws : List ℕ) : Type 0 where
  pub eight : length ws ≡ 8
  pub of_variables : All (λ w. (1 ≤ w) × (w ≤ 64)) (take n ws)
  pub others : All (λ w. w ≡ 1) (drop n ws)

pub record IsAcceptedRoot (m : ℕ) (r : Root) : Type 0 where
  pub residue : r.value < m
  pub some : 1 ≤ r.times
  pub few : r.times ≤ 32

pub record IsLawfulJob (job : JobData) : Type 0 where
  pub modulus : 2 ≤ job.modulus
  pub tree : IsValidTree job.n job.expr
  pub residues : All (λ r. r.value < job.modulus) job.roots
  pub valid : IsValidJob job

pub record IsAccepted (job : JobData) : Type 0 where
  pub modulus : (2 ≤ job.modulus) × (job.modulus < 2 ^ 63)
  pub variables : (1 ≤ job.n) × (job.n ≤ 8)
  pub weights : AreWeights job.n job.weights
  pub tree : IsValidTree job.n job.expr
  pub some : 0 < length job.roots
  pub roots : All (IsAcceptedRoot job.modulus) job.roots
  pub valid : IsValidJob job
