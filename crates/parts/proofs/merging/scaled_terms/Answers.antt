use Rattle.std.proofs.Common.{◌≡◌, ◌+◌, ◌*◌, ◌%◌, ◌∙◌, ap, sym, subst, map, arith, drop, get_or, ◌++◌}
use Rattle.ps_model.specs.Sums.{multiples}
use Rattle.ps_model.proofs.Totals.{total-multiples}
use Rattle.parts.specs.Rings.{modulus_of}
use Rattle.parts.specs.Terms.{entry_of}
use Rattle.parts.specs.declared.terms.Term.{Term}
use Rattle.parts.specs.TermLists.{terms_total, IsBefore, AreTermsOf, unless_zero}
use Rattle.parts.proofs.Built.{IsBuilt, scaled_at, built_whole, total_past}
use Rattle.parts.proofs.merging.scaled_terms.Goals as goal

pub loop-t-preserved : goal.loop-t-preserved
loop-t-preserved c = record {
  a_terms = next.0;
  built = subst (λ ts. IsBuilt c.args.ring c.args.degree (λ f. c.args.c * terms_total f c.args.a.now)
      (λ f. c.args.c * terms_total f (drop (c.loop-t.t-index + 1) c.args.a.now))
      (λ k. IsBefore k (drop (c.loop-t.t-index + 1) c.args.a.now)) ts) (sym (c.in_ok-push_nonzero.ensures ∙
      ap (λ (t : Term). c.loop-t.terms.items ++ unless_zero (record {
        monomial = t.monomial;
        coefficient = c.reduce_wide-coefficient.result;
      })) c.t-item.is)) next.1;
}
  where
    value : c.reduce_wide-coefficient.result ≡
        (c.args.c * (get_or c.args.a.now c.loop-t.t-index c.t-item.result).coefficient) % modulus_of c.args.ring
    value = c.reduce_wide-coefficient.ensures ∙
        (λ i. (c.from.ensures i * (c.from-in-loop-t.ensures ∙ ap (λ (t : Term). t.coefficient) c.t-item.is) i) %
        c.modulus-modulus.ensures i)

    next : AreTermsOf c.args.ring c.args.degree (drop (c.loop-t.t-index + 1) c.args.a.now) ×
        IsBuilt c.args.ring c.args.degree (λ f. c.args.c * terms_total f c.args.a.now)
        (λ f. c.args.c * terms_total f (drop (c.loop-t.t-index + 1) c.args.a.now))
        (λ k. IsBefore k (drop (c.loop-t.t-index + 1) c.args.a.now))
        (c.loop-t.terms.items ++
        unless_zero (record {
          monomial = (get_or c.args.a.now c.loop-t.t-index c.t-item.result).monomial;
          coefficient =
              c.reduce_wide-coefficient.result;
        }))
    next = scaled_at c.args.ring c.args.degree (λ f. c.args.c * terms_total f c.args.a.now) c.loop-t.terms.items
        c.args.a.now c.loop-t.t-index c.t-item.result c.args.c
        c.reduce_wide-coefficient.result
        (omega arith) c.loop-t.invariant.built c.loop-t.invariant.a_terms value

pub returns : goal.returns
returns c = built_whole c.args.ring c.args.degree (multiples c.args.c (map entry_of c.args.a.now))
    (λ f. c.args.c * terms_total f c.args.a.now)
    (λ f. c.args.c * terms_total f (drop c.loop-t.t-index c.args.a.now))
    (λ k. IsBefore k (drop c.loop-t.t-index c.args.a.now)) c.loop-t.terms.items c.loop-t.invariant.built
    (λ f. ap (λ n. c.args.c * n) (total_past f c.loop-t.t-index c.args.a.now (omega arith)) ∙ omega arith)
    (λ f. sym (total-multiples f c.args.c (map entry_of c.args.a.now)))
