-- proofs/plain/factors/same/Answers.antt
use Rattle.std.proofs.Common.{◌≡◌, ap}
use Rattle.std.specs.Prelude.{IsTrue}
use Rattle.ps_model.specs.PlainPolynomial.{plain_polynomial}
use Rattle.ps_model.proofs.PlainPolynomials.{same_maps}
use Rattle.ps_model.proofs.PlainChecks.{same_listed}
use Rattle.ps_model.proofs.plain.factors.same.Goals as goal

equal : (c : goal.After-same_terms) → (IsTrue c.same_terms.result → c.args.a.now ≡ c.args.b.now)
    × (c.args.a.now ≡ c.args.b.now → IsTrue c.same_terms.result)
equal c = same_listed c.terms.result.now c.terms-2.result.now c.args.a.now c.args.b.now c.same_terms.result
    c.terms.ensures.listed c.terms-2.ensures.listed c.same_terms.ensures

pub returns-clause-entries : goal.returns-clause-entries
returns-clause-entries c = equal c

pub returns-clause-polynomials : goal.returns-clause-polynomials
returns-clause-polynomials c = λ m ws two hp hq. (
  λ t. ap (plain_polynomial m ws) ((equal c).0 t),
  λ e. (equal c).1 (same_maps m ws two c.args.a.now c.args.b.now c.terms.result.now c.terms-2.result.now
      c.terms.ensures.listed c.terms.ensures.in_order c.terms-2.ensures.listed c.terms-2.ensures.in_order hp hq e),
)
