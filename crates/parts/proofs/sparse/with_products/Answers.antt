use Rattle.std.proofs.Common.{◌≡◌, ◌+◌, ◌-◌, ◌%◌, ◌∙◌, ◌++◌, ap, sym, subst, arith, cond, get_or, map}
use Rattle.parts.specs.Rings.{modulus_of}
use Rattle.parts.specs.Terms.{entry_of, key_of}
use Rattle.parts.specs.TermLists.{IsTotal, row_of}
use Rattle.parts.specs.declared.terms.Term.{Term}
use Rattle.parts.proofs.Products.{products_step}
use Rattle.parts.proofs.sparse.with_products.Goals as goal
use Rattle.parts.proofs.sparse.with_products.Goals.{then-minus, else-minus}

pub loop-x-preserved : goal.loop-x-preserved
loop-x-preserved c = products_step c.args.ring (c.args.left + c.args.right) c.args.minus
    (map entry_of c.args.sum.now) c.args.a.now c.args.b.now c.loop-x.terms.items c.in_ok-row.row.items
    c.in_ok-terms.terms.items c.loop-x.x-index c.x-item.result c.if-minus.c (omega arith)
    (c.requires.a_terms.entries c.loop-x.x-index c.x-item.result (omega arith)).1 signed c.loop-x.invariant
    (subst (λ (t : Term). IsTotal c.args.ring (c.args.left + c.args.right)
    (row_of (key_of t.monomial) c.if-minus.c c.args.b.now) c.in_ok-row.row.items) c.x-item.is c.in_ok-row.ensures)
    (subst (λ l. IsTotal c.args.ring (c.args.left + c.args.right)
    (map entry_of l ++ map entry_of c.in_ok-row.row.items) c.in_ok-terms.terms.items) c.deref.ensures.value
    (subst (λ l. IsTotal c.args.ring (c.args.left + c.args.right)
    (map entry_of c.deref.result.now ++ map entry_of l) c.in_ok-terms.terms.items)
    c.deref-in-loop-x.ensures.value c.in_ok-terms.ensures))
  where
    plain : c.if-minus.c ≡ cond c.args.minus
        ((modulus_of c.args.ring - c.x-item.result.coefficient) % modulus_of
        c.args.ring) c.x-item.result.coefficient
    plain = elim c.if-minus.branch [
      | then-minus w ↦ w.c-is ∙ w.neg-c.ensures ∙
          (λ i. (c.modulus-modulus.ensures i - c.x-item.result.coefficient) %
          c.modulus-modulus.ensures i) ∙
          ap (λ b. cond b ((modulus_of c.args.ring - c.x-item.result.coefficient) %
          modulus_of c.args.ring) c.x-item.result.coefficient) (sym w.if-minus.true)
      | else-minus w ↦ w.c-is ∙
          ap (λ b. cond b ((modulus_of c.args.ring - c.x-item.result.coefficient) %
          modulus_of c.args.ring) c.x-item.result.coefficient) (sym w.if-minus.false)
    ]

    signed : c.if-minus.c ≡ cond c.args.minus
        ((modulus_of c.args.ring - (get_or c.args.a.now c.loop-x.x-index c.x-item.result).coefficient) % modulus_of
        c.args.ring) (get_or c.args.a.now c.loop-x.x-index c.x-item.result).coefficient
    signed = plain ∙ ap (λ (t : Term). cond c.args.minus
        ((modulus_of c.args.ring - t.coefficient) % modulus_of c.args.ring) t.coefficient) c.x-item.is
