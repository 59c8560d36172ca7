use Rattle.std.proofs.lemmas.Result.{IfOk-weaker}
use Rattle.pipe.specs.Cuts.{IsCutWithin, IsLightest}
use Rattle.pipe.proofs.CutsWithin.{lightest}
use Rattle.pipe.proofs.cut.cut_blocks.Goals as goal

pub returns : goal.returns
returns c =
    let ws = c.args.weights.now in
    let limit = c.least_limit-limit.result in
    IfOk-weaker c.ends_within.result (λ ends. IsCutWithin c.args.workers limit ws ends.items)
    (λ ends. IsLightest c.args.workers ws ends.items)
    (λ ends. lightest c.args.workers limit ws ends.items c.least_limit-limit.ensures.least) c.ends_within.ensures
