use Rattle.std.proofs.Common.{◌+◌, ◌-◌, ◌≤◌, length, drop}
use Rattle.parts.specs.TermLists.{terms_total, IsBefore, AreTermsOf}
use Rattle.parts.proofs.Built.{IsBuilt}
use Rattle.parts.proofs.merging.merged.Given as goal

abbrev pub invariant-loop-left : goal.invariant-loop-left
invariant-loop-left l = record {
  left_inside : l.left ≤ length l.a;
  right_inside : l.right ≤ length l.b;
  a_terms : AreTermsOf l.ring l.degree (drop l.left l.a);
  b_terms : AreTermsOf l.ring l.degree (drop l.right l.b);
  built : IsBuilt l.ring l.degree (λ f. terms_total f l.a + terms_total f l.b)
      (λ f. terms_total f (drop l.left l.a) + terms_total f (drop l.right l.b))
      (λ k. IsBefore k (drop l.left l.a) × IsBefore k (drop l.right l.b)) l.terms.items;
}

abbrev pub decreases-loop-left : goal.decreases-loop-left
decreases-loop-left l = (length l.a + length l.b) - (l.left + l.right)
