-- proofs/plain/arithmetic/plain_cut/Answers.antt
use Rattle.std.specs.Prelude.{nat_le}
use Rattle.ps_model.specs.PlainLists.{plain_degree}
use Rattle.ps_model.proofs.PlainKept.{passing_in_order, map_passing, map_listed}
use Rattle.ps_model.proofs.plain.arithmetic.plain_cut.Goals as goal

pub invariant_of-result : goal.invariant_of-result
invariant_of-result c = passing_in_order (λ k. nat_le (plain_degree c.args.weights.now k) c.args.d) c.terms.result.now
    c.in_ok-terms.terms.items
    c.terms.ensures.in_order c.in_ok-terms.ensures

pub returns : goal.returns
returns c = map_passing (λ k. nat_le (plain_degree c.args.weights.now k) c.args.d) c.terms.result.now
    c.in_ok-terms.terms.items
    c.args.a.now
    (map_listed c.terms.result.now c.args.a.now c.terms.ensures.listed) c.in_ok-terms.ensures
