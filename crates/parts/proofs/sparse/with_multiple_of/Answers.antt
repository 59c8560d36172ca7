use Rattle.std.proofs.Common.{◌++◌, subst, map}
use Rattle.ps_model.specs.Sums.{multiples}
use Rattle.parts.specs.Terms.{entry_of}
use Rattle.parts.specs.TermLists.{IsTotal}
use Rattle.parts.proofs.Products.{total_through}
use Rattle.parts.proofs.sparse.with_multiple_of.Goals as goal

pub returns : goal.returns
returns c = total_through c.args.ring c.args.degree (map entry_of c.args.sum.now)
    (multiples c.args.c (map entry_of c.args.a.now)) c.in_ok-row.row.items c.in_ok-terms.terms.items c.in_ok-row.ensures
    (subst (λ l. IsTotal c.args.ring c.args.degree (map entry_of c.args.sum.now ++ map entry_of l)
    c.in_ok-terms.terms.items) c.deref.ensures.value c.in_ok-terms.ensures)
