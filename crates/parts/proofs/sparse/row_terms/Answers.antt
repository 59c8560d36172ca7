use Rattle.std.proofs.Common.{◌≡◌, ◌+◌, ◌*◌, ◌%◌, ◌≤◌, ◌∙◌, ◌++◌, ap, sym, subst, arith, drop, get_or}
use Rattle.ps_model.specs.Keys.{add_keys}
use Rattle.ps_model.specs.Sums.{total}
use Rattle.parts.specs.Rings.{modulus_of}
use Rattle.parts.specs.Terms.{key_of}
use Rattle.parts.specs.TermLists.{AreTermsOf, row_of, unless_zero}
use Rattle.parts.specs.declared.terms.Term.{Term}
use Rattle.parts.proofs.Built.{IsBuilt}
use Rattle.parts.proofs.Rows.{IsBeforeRow, powers_fit, row_at}
use Rattle.parts.proofs.sparse.row_terms.Goals as goal

pub times-requires : goal.times-requires
times-requires c =
    λ i lt. subst (λ (t : Term). get_or c.args.x.now.monomial.powers i 0 + get_or t.monomial.powers i 0 ≤ 4095)
    (sym c.t-item.is) (powers_fit c.args.ring c.args.left c.args.right c.args.terms.now c.args.x.now c.loop-t.t-index
    c.t-item.result
    c.requires.x_terms c.loop-t.invariant.rest (omega arith) c.requires.low i lt)

pub loop-t-preserved : goal.loop-t-preserved
loop-t-preserved c = record {
  rest = next.0;
  built = subst (λ ts. IsBuilt c.args.ring (c.args.left + c.args.right)
      (λ f. total f (row_of (key_of c.args.x.now.monomial) c.args.c c.args.terms.now))
      (λ f. total f (row_of (key_of c.args.x.now.monomial) c.args.c
      (drop (c.loop-t.t-index + 1) c.args.terms.now)))
      (λ k. IsBeforeRow k (key_of c.args.x.now.monomial) (drop (c.loop-t.t-index + 1) c.args.terms.now)) ts)
      (sym c.in_ok-push_nonzero.ensures) next.1;
}
  where
    value : c.reduce_wide-coefficient.result ≡
        (c.args.c * (get_or c.args.terms.now c.loop-t.t-index c.t-item.result).coefficient) % modulus_of c.args.ring
    value = c.reduce_wide-coefficient.ensures ∙
        (λ i. (c.from.ensures i * (c.from-in-loop-t.ensures ∙ ap (λ (t : Term). t.coefficient) c.t-item.is) i) %
        c.modulus-modulus.ensures i)

    next : AreTermsOf c.args.ring c.args.right (drop (c.loop-t.t-index + 1) c.args.terms.now) ×
        IsBuilt c.args.ring (c.args.left + c.args.right)
        (λ f. total f (row_of (key_of c.args.x.now.monomial) c.args.c c.args.terms.now))
        (λ f. total f (row_of (key_of c.args.x.now.monomial) c.args.c
        (drop (c.loop-t.t-index + 1) c.args.terms.now)))
        (λ k. IsBeforeRow k (key_of c.args.x.now.monomial) (drop (c.loop-t.t-index + 1) c.args.terms.now))
        (c.loop-t.row.items ++ unless_zero
        (record {
          monomial = c.times.result;
          coefficient =
              c.reduce_wide-coefficient.result;
        }))
    next = row_at c.args.ring c.args.left c.args.right c.args.terms.now c.args.x.now c.loop-t.t-index c.t-item.result
        c.requires.x_terms c.loop-t.invariant.rest (omega arith)
        (λ f. total f (row_of (key_of c.args.x.now.monomial) c.args.c c.args.terms.now)) c.loop-t.row.items
        (record {
          monomial = c.times.result;
          coefficient =
              c.reduce_wide-coefficient.result;
        }) c.args.c (c.times.ensures ∙
        ap (λ (t : Term). add_keys 8 (key_of c.args.x.now.monomial) (key_of t.monomial)) c.t-item.is)
        value c.loop-t.invariant.built
