use Rattle.std.proofs.Common.{◌≡◌, ◌<◌, ◌-◌, [], List, length, map, get_or, All, sym, ◌∙◌, subst, arith, ℕ}
use Rattle.std.proofs.lemmas.List.{length-map}
use Rattle.std.specs.declared.alloc.Global.{Global}
use Rattle.std.specs.declared.vec.Vec.{Vec}
use Rattle.residue.specs.Products.{sum_below}
use Rattle.residue.specs.ProductSums.{Gains}
use Rattle.parts.specs.SeriesRows.{rows_in, row_products, crossed_entry, Overlap}
use Rattle.parts.proofs.Overlaps.{gains_none, gains_next, gains_rows, crossed-start, crossed-end}
use Rattle.parts.proofs.RowEntries.{row_read, row_low}
use Rattle.parts.proofs.contiguous.add_crossed.Goals as goal

-- of the rows' numbers
abbrev rows_overlap : (a w : List (Vec ℕ Global)) (f from to : ℕ) → Overlap (length a) (length w) f from to →
    Overlap (length (rows_in a)) (length (rows_in w)) f from to
rows_overlap a w f from to lap =
    subst (λ n. Overlap n (length (rows_in w)) f from to) (sym (length-map a (λ (row : Vec ℕ Global). row.items)))
    (subst (λ n. Overlap (length a) n f from to) (sym (length-map w (λ (row : Vec ℕ Global). row.items))) lap)

left_read : (c : goal.After-deref-in-loop-i) →
    get_or (rows_in c.args.a.now) c.loop-i.i [] ≡ c.deref.result.now
left_read c = row_read c.args.a.now c.loop-i.i c.index-a-i.result c.index-a-i.result
    (omega (arith, c.overlap-from.ensures.inside)) c.index-a-i.is ∙ sym c.deref.ensures.value

right_read : (c : goal.After-deref-in-loop-i) →
    get_or (rows_in c.args.w.now) (c.args.f - c.loop-i.i) [] ≡ c.deref-in-loop-i.result.now
right_read c = row_read c.args.w.now (c.args.f - c.loop-i.i) c.index-w-f.result c.index-w-f.result
    (omega (arith, c.overlap-from.ensures.low, c.overlap-from.ensures.high)) c.index-w-f.is ∙
    sym c.deref-in-loop-i.ensures.value

pub loop-i-init : goal.loop-i-init
loop-i-init c = record {
  low = c.overlap-from.ensures.start;
  gains = gains_none c.args.sum.now _ (crossed-start (rows_in c.args.a.now) (rows_in c.args.w.now) c.args.f c.args.p
      c.overlap-from.result.0 c.overlap-from.result.1 (rows_overlap c.args.a.now c.args.w.now c.args.f
      c.overlap-from.result.0 c.overlap-from.result.1 c.overlap-from.ensures));
}

pub add_rows_product-requires-clause-a_residues : goal.add_rows_product-requires-clause-a_residues
add_rows_product-requires-clause-a_residues c =
    subst (λ m. All (λ x. x < m) c.deref.result.now) (sym c.loop-i.invariant.gains.modulus_is)
    (row_low c.args.sum.now.modulus c.args.a.now c.loop-i.i c.deref.result.now c.requires.a_residues (left_read c))

pub add_rows_product-requires-clause-w_residues : goal.add_rows_product-requires-clause-w_residues
add_rows_product-requires-clause-w_residues c =
    subst (λ m. All (λ x. x < m) c.deref-in-loop-i.result.now) (sym c.loop-i.invariant.gains.modulus_is)
    (row_low c.args.sum.now.modulus c.args.w.now (c.args.f - c.loop-i.i) c.deref-in-loop-i.result.now
    c.requires.w_residues (right_read c))

pub loop-i-preserved : goal.loop-i-preserved
loop-i-preserved c = record {
  low = omega (arith, c.overlap-from.ensures.low);
  gains = gains_next c.args.sum.now c.loop-i.sum c.add_rows_product.new.sum c.loop-i.i
      (row_products (rows_in c.args.a.now) (rows_in c.args.w.now) c.args.f c.args.p) c.loop-i.invariant.gains
      (gains_rows c.loop-i.sum c.add_rows_product.new.sum (rows_in c.args.a.now) (rows_in c.args.w.now) c.args.f
      c.args.p c.loop-i.i c.deref.result.now c.deref-in-loop-i.result.now
      (row_read c.args.a.now c.loop-i.i c.index-a-i.result c.index-a-i.result
      (omega (arith, c.overlap-from.ensures.inside)) c.index-a-i.is ∙ sym c.deref.ensures.value)
      (row_read c.args.w.now (c.args.f - c.loop-i.i) c.index-w-f.result c.index-w-f.result
      (omega (arith, c.overlap-from.ensures.low, c.overlap-from.ensures.high)) c.index-w-f.is ∙
      sym c.deref-in-loop-i.ensures.value) c.add_rows_product.ensures);
}

pub returns : goal.returns
returns c = subst (λ n. Gains c.args.sum.now c.loop-i.sum n)
    (crossed-end (rows_in c.args.a.now) (rows_in c.args.w.now) c.args.f c.args.p c.overlap-from.result.0
    c.overlap-from.result.1 (rows_overlap c.args.a.now c.args.w.now c.args.f c.overlap-from.result.0
    c.overlap-from.result.1 c.overlap-from.ensures) c.loop-i.i c.loop-i-test.false c.loop-i.invariant.low)
    c.loop-i.invariant.gains
