use Rattle.std.proofs.Common.{◌*◌, drop}
use Rattle.parts.specs.TermLists.{terms_total, IsBefore, AreTermsOf}
use Rattle.parts.proofs.Built.{IsBuilt}
use Rattle.parts.proofs.merging.scaled_terms.Given as goal

abbrev pub invariant-loop-t : goal.invariant-loop-t
invariant-loop-t l = record {
  a_terms : AreTermsOf l.fn.ring l.fn.degree (drop l.t-index l.a);
  built : IsBuilt l.fn.ring l.fn.degree (λ f. l.c * terms_total f l.a) (λ f. l.c * terms_total f (drop l.t-index l.a))
      (λ k. IsBefore k (drop l.t-index l.a)) l.terms.items;
}
