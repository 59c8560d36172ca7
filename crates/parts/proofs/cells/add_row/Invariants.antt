use Rattle.std.proofs.Common.{◌≡◌, ℕ, ◌+◌, ◌%◌, ◌^◌, ◌<◌, take, All}
use Rattle.parts.specs.Cells.{cells_total, row_total}
use Rattle.parts.proofs.cells.add_row.Given as goal

abbrev pub invariant-loop-p : goal.invariant-loop-p
invariant-loop-p l = record {
  low : All (λ x. x < 2 ^ 127) l.cells;
  totals : (f : ℕ → ℕ) → cells_total f 0 l.cells % l.fold.modulus.value ≡
      (cells_total f 0 l.initial.cells + row_total f l.start l.c (take l.p-index l.row)) % l.fold.modulus.value;
}
