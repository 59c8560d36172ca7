use Rattle.std.proofs.Common.{◌≡◌, suc, replicate, ◌∙◌, ap, arith, List, []}
use Rattle.ps_model.specs.declared.plain.PlainTerm.{PlainTerm}
use Rattle.comparison.proofs.slices.empty_lists.Goals as goal

pub returns : goal.returns
returns c =
    let end : c.loop-r._r ≡ suc c.args.d = omega (arith, c.loop-r-test.false, c.loop-r.auto._r-end) in
    c.loop-r.invariant ∙ ap (λ n. replicate {A = List PlainTerm} n []) end
