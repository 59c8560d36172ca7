use Rattle.std.proofs.Common.{◌+◌, sym, subst, map, ◌++◌, arith, drop}
use Rattle.ps_model.proofs.Totals.{total-append}
use Rattle.parts.specs.Terms.{entry_of}
use Rattle.parts.specs.TermLists.{terms_total, IsBefore}
use Rattle.parts.proofs.Built.{IsBuilt, merged_step, built_whole, total_past}
use Rattle.parts.proofs.merging.merged.Goals as goal

pub loop-left-preserved : goal.loop-left-preserved
loop-left-preserved c = record {
  left_inside = c.next_term-next.ensures.left_inside;
  right_inside = c.next_term-next.ensures.right_inside;
  a_terms = c.next_term-next.ensures.next.rest_c;
  b_terms = c.next_term-next.ensures.next.rest_e;
  built = subst (λ ts. IsBuilt c.args.ring c.args.degree
      (λ f. terms_total f c.args.a.now + terms_total f c.args.b.now)
      (λ f. terms_total f (drop c.next_term-next.result.left c.args.a.now) +
      terms_total f (drop c.next_term-next.result.right c.args.b.now))
      (λ k. IsBefore k (drop c.next_term-next.result.left c.args.a.now) ×
      IsBefore k (drop c.next_term-next.result.right c.args.b.now)) ts) (sym c.in_ok-push_nonzero.ensures)
      (merged_step c.args.ring c.args.degree _ c.loop-left.terms.items (drop c.loop-left.left c.args.a.now)
      (drop c.loop-left.right c.args.b.now) (drop c.next_term-next.result.left c.args.a.now)
      (drop c.next_term-next.result.right c.args.b.now) c.next_term-next.result.term
      c.loop-left.invariant.built c.next_term-next.ensures.next);
}

pub returns : goal.returns
returns c = built_whole c.args.ring c.args.degree (map entry_of c.args.a.now ++ map entry_of c.args.b.now)
    (λ f. terms_total f c.args.a.now + terms_total f c.args.b.now)
    (λ f. terms_total f (drop c.loop-left.left c.args.a.now) + terms_total f (drop c.loop-left.right c.args.b.now))
    (λ k. IsBefore k (drop c.loop-left.left c.args.a.now) × IsBefore k (drop c.loop-left.right c.args.b.now))
    c.loop-left.terms.items c.loop-left.invariant.built
    (λ f. omega (
      arith,
      total_past f c.loop-left.left c.args.a.now (omega arith),
      total_past f c.loop-left.right c.args.b.now (omega arith),
    ))
    (λ f. sym (total-append f (map entry_of c.args.a.now) (map entry_of c.args.b.now)))
