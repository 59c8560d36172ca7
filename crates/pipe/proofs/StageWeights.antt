-- The weights of the stages of a job that can be factored.
use Rattle.std.proofs.Common.{◌≡◌, suc, ◌+◌, ◌*◌, ◌≤◌, List, [], ◌∷◌, length, sum, refl, ap, arith, mul-le-mul_left}
use Rattle.std.proofs.lemmas.List.Sums.{sum_by-cons}
use Rattle.ps_model.specs.AcceptedJob.{IsAccepted}
use Rattle.ps_model.specs.Factors.{total_times}
use Rattle.ps_model.specs.declared.job.JobData.{JobData}
use Rattle.ps_model.specs.declared.job.Root.{Root}
use Rattle.ps_model.proofs.JobRoots.{valid_degree, valid_small}
use Rattle.pipe.specs.Cuts.{root_weights}

pub accepted_times : (job : JobData) → IsAccepted job → total_times job.roots ≤ 32
accepted_times job ok =
    let same = valid_degree job ok.valid in
    let small = valid_small job ok.valid in
    omega arith

-- as many weights as roots
pub weights-length : (roots : List Root) → length (root_weights roots) ≡ length roots
weights-length [] = refl
weights-length (root ∷ roots) = ap suc (weights-length roots)

-- they are small
pub weights_small : (roots : List Root) → total_times roots ≤ 32 → sum (root_weights roots) ≤ total_times roots * 33
weights_small [] few = omega arith
weights_small (root ∷ roots) few =
    let fits : total_times roots + 1 ≤ 33 = omega arith in
    let own = mul-le-mul_left root.times fits in
    let others = weights_small roots (omega arith) in
    let whole = sum_by-cons (λ x. x) (root.times * (total_times roots + 1)) (root_weights roots) in
    omega arith
