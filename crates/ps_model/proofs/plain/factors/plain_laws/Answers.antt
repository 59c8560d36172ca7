-- proofs/plain/factors/plain_laws/Answers.antt
use Rattle.ps_model.proofs.PlainPolynomials.{sum_polynomial, product_polynomial, cut_polynomial}
use Rattle.ps_model.proofs.plain.factors.plain_laws.Goals as goal

pub returns-clause-sum : goal.returns-clause-sum
returns-clause-sum c = sum_polynomial

pub returns-clause-product : goal.returns-clause-product
returns-clause-product c = product_polynomial

pub returns-clause-cut : goal.returns-clause-cut
returns-clause-cut c = cut_polynomial
