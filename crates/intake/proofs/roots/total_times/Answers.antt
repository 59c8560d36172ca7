-- No root is left.
use Rattle.std.proofs.Common.{◌≡◌, drop, ap, arith}
use Rattle.std.proofs.Math.ListN.{drop_of_length-le}
use Rattle.ps_model.specs.Factors.{total_times}
use Rattle.intake.proofs.roots.total_times.Goals as goal

pub returns : goal.returns
returns c =
    let none : total_times (drop c.loop-root.root-index c.args.roots.now) ≡ 0 =
    ap total_times (drop_of_length-le c.args.roots.now c.loop-root-test.false) in
    omega arith
