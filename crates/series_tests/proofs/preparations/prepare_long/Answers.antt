use Rattle.std.proofs.Common.{◌≡◌, ◌∙◌, length, ap, arith}
use Rattle.std.specs.FinMap.{entries}
use Rattle.parts.proofs.Gained.{none_listed}
use Rattle.series_tests.proofs.preparations.prepare_long.Goals as goal

pub row-requires-in-loop-r-clause-part : goal.row-requires-in-loop-r-clause-part
row-requires-in-loop-r-clause-part c =
    let none : length (entries c.zero-zero.result.map) ≡ 0 =
    ap (λ m. length (entries m)) c.zero-zero.ensures.map ∙ ap length none_listed in
    λ k d lt. absurd (omega (arith, none, lt))
