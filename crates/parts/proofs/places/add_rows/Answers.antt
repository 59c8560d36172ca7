use Rattle.std.proofs.Common.{◌≡◌, ℕ, ◌+◌, ◌-◌, ◌%◌, ◌∙◌, ap, sym, cond, arith, get_or}
use Rattle.parts.specs.Places.{dot}
use Rattle.parts.specs.Cells.{cells_total, row_total}
use Rattle.parts.specs.declared.terms.Term.{Term}
use Rattle.parts.proofs.Totals.{rows_step}
use Rattle.parts.proofs.places.add_rows.Goals as goal
use Rattle.parts.proofs.places.add_rows.Goals.{then-minus, else-minus}

pub loop-t-preserved : goal.loop-t-preserved
loop-t-preserved c = record {
  low = c.add_row.ensures.low;
  totals = λ f. rows_step c.args.modulus.value f c.args.cells.now c.loop-t.cells c.add_row.new.cells
      c.args.sizes.now c.args.terms.now c.args.row.now c.loop-t.t-index c.t-item.result c.args.minus c.if-minus.c
      (omega arith) (c.requires.below c.loop-t.t-index c.t-item.result (omega arith)) either (moved f)
      (c.loop-t.invariant.totals f);
}
  where
    plain : c.if-minus.c ≡ cond c.args.minus
        ((c.args.modulus.value - c.t-item.result.coefficient) %
        c.args.modulus.value) c.t-item.result.coefficient
    plain = elim c.if-minus.branch [
      | then-minus w ↦ w.c-is ∙ w.neg-c.ensures ∙
          ap (λ b. cond b ((c.args.modulus.value - c.t-item.result.coefficient) %
          c.args.modulus.value) c.t-item.result.coefficient) (sym w.if-minus.true)
      | else-minus w ↦ w.c-is ∙
          ap (λ b. cond b ((c.args.modulus.value - c.t-item.result.coefficient) %
          c.args.modulus.value) c.t-item.result.coefficient) (sym w.if-minus.false)
    ]

    either : c.if-minus.c ≡ cond c.args.minus
        ((c.args.modulus.value - (get_or c.args.terms.now c.loop-t.t-index c.t-item.result).coefficient) %
        c.args.modulus.value) (get_or c.args.terms.now c.loop-t.t-index c.t-item.result).coefficient
    either = plain ∙ ap (λ (t : Term). cond c.args.minus
        ((c.args.modulus.value - t.coefficient) % c.args.modulus.value) t.coefficient) c.t-item.is

    moved : (f : ℕ → ℕ) → cells_total f 0 c.add_row.new.cells % c.args.modulus.value ≡
        (cells_total f 0 c.loop-t.cells +
        row_total f (dot c.args.sizes.now (get_or c.args.terms.now c.loop-t.t-index c.t-item.result).monomial.powers)
        c.if-minus.c c.args.row.now) % c.args.modulus.value
    moved f = ap (λ m. cells_total f 0 c.add_row.new.cells % m) (sym c.requires.of_modulus) ∙
        c.add_row.ensures.totals f ∙
        (λ i. (cells_total f 0 c.loop-t.cells + row_total f
        ((c.place.ensures ∙ ap (λ (t : Term). dot c.args.sizes.now t.monomial.powers) c.t-item.is) i) c.if-minus.c
        c.args.row.now) %
        (c.requires.of_modulus i))
