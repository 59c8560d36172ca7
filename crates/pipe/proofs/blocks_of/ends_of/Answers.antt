use Rattle.std.proofs.Common.{◌≡◌, length, sum, ap, ◌∙◌, arith}
use Rattle.ps_model.specs.Factors.{total_times}
use Rattle.pipe.specs.Cuts.{root_weights, stage_weights}
use Rattle.stages.proofs.LineTitles.{few_roots}
use Rattle.pipe.proofs.StageWeights.{accepted_times, weights-length, weights_small}
use Rattle.pipe.proofs.blocks_of.ends_of.Goals as goal

pub weights_of-requires : goal.weights_of-requires
weights_of-requires c =
    let few = accepted_times c.args.job.now c.requires.accepted in
    let same = ap total_times c.as_slice.ensures in
    record { few = omega arith }

pub cut_blocks-requires : goal.cut_blocks-requires
cut_blocks-requires c =
    let job = c.args.job.now in
    let accepted = c.requires.accepted in
    let are : c.deref.result.now ≡ stage_weights job =
    c.deref.ensures.value ∙ c.in_ok-weights.ensures ∙ ap root_weights c.as_slice.ensures in
    let count = ap length are ∙ weights-length job.roots in
    let roots = few_roots job accepted in
    let some = accepted.some in
    let few = accepted_times job accepted in
    let small = weights_small job.roots few in
    let all = ap sum are in
    record { some = omega arith; few = omega arith; total = omega arith; workers = c.requires.workers }
