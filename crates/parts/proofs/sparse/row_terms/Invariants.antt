use Rattle.std.proofs.Common.{◌+◌, drop}
use Rattle.ps_model.specs.Sums.{total}
use Rattle.parts.specs.Terms.{key_of}
use Rattle.parts.specs.TermLists.{AreTermsOf, row_of}
use Rattle.parts.proofs.Built.{IsBuilt}
use Rattle.parts.proofs.Rows.{IsBeforeRow}
use Rattle.parts.proofs.sparse.row_terms.Given as goal

abbrev pub invariant-loop-t : goal.invariant-loop-t
invariant-loop-t l = record {
  rest : AreTermsOf l.fn.ring l.fn.right (drop l.t-index l.terms);
  built : IsBuilt l.fn.ring (l.fn.left + l.fn.right) (λ f. total f (row_of (key_of l.x.monomial) l.c l.terms))
      (λ f. total f (row_of (key_of l.x.monomial) l.c (drop l.t-index l.terms)))
      (λ k. IsBeforeRow k (key_of l.x.monomial) (drop l.t-index l.terms)) l.row.items;
}
