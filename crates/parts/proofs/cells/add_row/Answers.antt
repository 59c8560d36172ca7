use Rattle.std.proofs.Common.{◌≡◌, ℕ, ◌+◌, ◌*◌, ◌%◌, ◌^◌, ◌<◌, get_or, length, sym, ◌∙◌, ap, subst, arith}
use Rattle.std.proofs.lemmas.List.Elements.{All-set}
use Rattle.parts.specs.declared.cells.Placed.{Placed}
use Rattle.parts.proofs.Totals.{row_step, fits_below, taken}
use Rattle.parts.proofs.cells.add_row.Goals as goal
use Rattle.parts.proofs.cells.add_row.Goals.{then-sum, else-sum}

abbrev none : Placed
none = record { place = 0; coefficient = 0 }

pub overflow_add-sum : goal.overflow_add-sum
overflow_add-sum c = rw (c.from.ensures, c.from-in-loop-p.ensures)
    (omega (
      arith,
      fits_below _ c.args.c _
          (c.loop-p.invariant.low (c.args.start + (get_or c.args.row.now c.loop-p.p-index none).place) 0
          (omega (arith, c.requires.inside c.loop-p.p-index none (omega arith)))) c.requires.c_below
          (c.requires.row_below c.loop-p.p-index none (omega arith)),
    ))

pub loop-p-preserved : goal.loop-p-preserved
loop-p-preserved c = record {
  low = All-set (λ x. x < 2 ^ 127) c.loop-p.cells
      (c.args.start + (get_or c.args.row.now c.loop-p.p-index none).place) c.if-sum.cells below c.loop-p.invariant.low;
  totals = λ f. row_step c.args.fold.now.modulus.value f c.args.cells.now c.loop-p.cells c.args.start c.args.c
      c.args.row.now c.loop-p.p-index none c.if-sum.cells (let two = c.args.fold.now.modulus.low in
      omega arith) (omega arith) inside same (c.loop-p.invariant.totals f);
}
  where
    at : ℕ
    at = c.args.start + (get_or c.args.row.now c.loop-p.p-index none).place

    inside : at < length c.loop-p.cells
    inside = omega (arith, c.requires.inside c.loop-p.p-index none (omega arith))

    sum : ℕ
    sum = get_or c.loop-p.cells at 0 + c.from.result * c.from-in-loop-p.result

    is : sum ≡ get_or c.loop-p.cells at 0 + c.args.c * (get_or c.args.row.now c.loop-p.p-index none).coefficient
    is = λ i. get_or c.loop-p.cells at 0 + c.from.ensures i * c.from-in-loop-p.ensures i

    fits : sum < 2 ^ 127 + 2 ^ 126
    fits = subst (λ n. n < 2 ^ 127 + 2 ^ 126) (sym is)
        (fits_below (get_or c.loop-p.cells at 0) c.args.c _ (c.loop-p.invariant.low at 0 inside) c.requires.c_below
        (c.requires.row_below c.loop-p.p-index none (omega arith)))

    below : c.if-sum.cells < 2 ^ 127
    below = elim c.if-sum.branch [
      | then-sum w ↦ let low = c.args.fold.now.low in omega (arith, w.cells-is, fits)
      | else-sum w ↦ omega (arith, w.cells-is, w.if-sum.false)
    ]

    same : c.if-sum.cells % c.args.fold.now.modulus.value ≡
        (get_or c.loop-p.cells at 0 + c.args.c * (get_or c.args.row.now c.loop-p.p-index none).coefficient) %
        c.args.fold.now.modulus.value
    same = elim c.if-sum.branch [
      | then-sum w ↦ ap (λ n. n % c.args.fold.now.modulus.value) w.cells-is ∙
          taken c.args.fold.now.modulus.value sum c.args.fold.now.multiple (let two =
          c.args.fold.now.modulus.low in omega arith) (let high = c.args.fold.now.high in
          omega (arith, w.if-sum.true)) c.args.fold.now.whole ∙ ap (λ n. n % c.args.fold.now.modulus.value) is
      | else-sum w ↦ ap (λ n. n % c.args.fold.now.modulus.value) (w.cells-is ∙ is)
    ]
