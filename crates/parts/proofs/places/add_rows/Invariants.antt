use Rattle.std.proofs.Common.{◌≡◌, ℕ, ◌+◌, ◌*◌, ◌%◌, ◌^◌, ◌<◌, take, All}
use Rattle.parts.specs.Cells.{cells_total}
use Rattle.parts.specs.Terms.{products_total, sign}
use Rattle.parts.proofs.places.add_rows.Given as goal

abbrev pub invariant-loop-t : goal.invariant-loop-t
invariant-loop-t l = record {
  low : All (λ x. x < 2 ^ 127) l.cells;
  totals : (f : ℕ → ℕ) → cells_total f 0 l.cells % l.modulus.value ≡
      (cells_total f 0 l.initial.cells + sign l.modulus.value l.minus * products_total f l.sizes
      (take l.t-index l.terms) l.row) % l.modulus.value;
}
