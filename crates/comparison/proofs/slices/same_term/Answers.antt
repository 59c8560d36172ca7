use Rattle.std.proofs.Common.{arith}
use Rattle.std.proofs.lemmas.Bool.{eqb-true, eq-eqb}
use Rattle.comparison.proofs.SameLists.{terms_meet, coefficients_meet}
use Rattle.comparison.proofs.slices.same_term.Goals as goal

pub returns : goal.returns
returns c =
    let t = c.args.t.now in
    let u = c.args.u.now in (
      λ e. terms_meet t u (λ k lt. c.loop-i.invariant k (omega (arith, lt, c.loop-i-test.false)))
          (eqb-true t.coefficient u.coefficient e),
      λ same. eq-eqb t.coefficient u.coefficient (coefficients_meet t u same),
    )
