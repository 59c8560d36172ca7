-- What may be asked for of a ring may be asked for of its job.
use Rattle.std.proofs.Common.{ℕ, take, subst}
use Rattle.ps_model.specs.declared.job.JobData.{JobData}
use Rattle.parts.specs.JobRows.{IsPermitted, IsRingOf}
use Rattle.parts.specs.Rings.{weights_of}
use Rattle.parts.specs.declared.rings.Ring.{Ring}

pub permitted_for : (ring : Ring) (job : JobData) (d : ℕ) → IsRingOf ring job → IsPermitted (weights_of ring) d
    → IsPermitted (take job.n job.weights) d
permitted_for ring job d is h = subst (λ ws. IsPermitted ws d) (λ i. take (is.1 i) (is.2 i)) h
