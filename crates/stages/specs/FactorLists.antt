-- The factors that the rows of a job's stages tell.
--     factor_rows s      the rows of parts of a stage's factor, by degree
--     factor_up_to job D s      the sum of the parts of degrees up to D, each times its power of Y; 0 of no item
--     factors_up_to job D states      these of all stages
use Rattle.std.specs.Prelude.{ℕ, suc, List, map, take}
use Rattle.ps_model.specs.declared.job.JobData.{JobData}
use Rattle.ps_model.specs.Job.{job_ring}
use Rattle.ps_model.specs.Rows.{polynomial_of_rows}
use Rattle.ps_model.specs.SeriesRing.{ring, Poly}
use Rattle.parts.specs.PartValue.{PartValue}
use Rattle.parts.specs.Series.{maps_modulo}
use Rattle.stages.specs.States.{StageState}

abbrev pub factor_rows : StageState → List (List PartValue)
factor_rows s = map (λ item. item.factor) s.items

abbrev pub factor_up_to : (job : JobData) → ℕ → StageState → Poly (job_ring job)
factor_up_to job D s = polynomial_of_rows (ring (job_ring job))
    (map (maps_modulo job.modulus job.weights) (take (suc D) (factor_rows s)))

abbrev pub factors_up_to : (job : JobData) → ℕ → List StageState → List (Poly (job_ring job))
factors_up_to job D states = map (factor_up_to job D) states
