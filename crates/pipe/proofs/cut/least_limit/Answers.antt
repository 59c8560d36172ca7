use Rattle.std.proofs.Common.{sym, subst, arith}
use Rattle.pipe.specs.Cuts.{HasCut}
use Rattle.pipe.proofs.CutsWithin.{cut_fits, one_block}
use Rattle.pipe.proofs.cut.least_limit.Goals as goal

pub loop-low-init : goal.loop-low-init
loop-low-init c =
    let ws = c.args.weights.now in
    record {
      each = c.greatest-low.ensures.each;
      enough = subst (λ n. HasCut c.args.workers n ws) (sym c.total-high.ensures)
          (one_block c.args.workers ws c.requires.some c.requires.workers);
      least = λ limit cut. c.greatest-low.ensures.least limit (cut_fits c.args.workers limit ws cut);
    }

pub returns-clause-least : goal.returns-clause-least
returns-clause-least c limit cut =
    let least = c.loop-low.invariant.least limit cut in
    omega arith
