-- The greatest precision that may be asked for.
--     weights_in job      the weights of the job's variables
--     IsGreatestPermitted ws d      the degree d may be asked for with variables of these weights, and none above it
use Rattle.std.specs.Prelude.{ℕ, ◌≤◌, List, take}
use Rattle.ps_model.specs.declared.job.JobData.{JobData}
use Rattle.parts.specs.JobRows.{IsPermitted}

abbrev pub weights_in : JobData → List ℕ
weights_in job = take job.n job.weights

pub record IsGreatestPermitted (ws : List ℕ) (d : ℕ) : Type 0 where
  pub permitted : IsPermitted ws d
  pub greatest : (e : ℕ) → IsPermitted ws e → e ≤ d
