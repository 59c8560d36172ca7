-- Slices past the end of their rows.
use Rattle.std.proofs.Common.{◌≡◌, ℕ, ◌<◌, ◌≤◌, ◌⊎◌, inl, inr, List, [], length, get_or, ◌∙◌, ap}
use Rattle.std.proofs.Common.{arith}
use Rattle.std.proofs.lemmas.Bool.{cases_lt}
use Rattle.std.proofs.Math.ListN.{get_or-eq_default}
use Rattle.ps_model.specs.Notation.{zero as nought}
use Rattle.parts.specs.PartValue.{PartValue}
use Rattle.parts.specs.RowsOfParts.{nothing, part_in, AreRowsOfParts}
use Rattle.parts.specs.declared.rings.Ring.{Ring}
use Rattle.parts.proofs.Polynomials.{part_at-rows, polynomial_in-empty}
use Rattle.prepare.specs.Recurrence.{poly, slices}

-- past the end of its row there is no part
part_beyond : (ring : Ring) (q : ℕ) (rows : List (List PartValue)) → AreRowsOfParts ring q rows → (s h : ℕ) → q < h
    → part_in (get_or rows s []) h ≡ nothing
part_beyond ring q rows are s h lt = get_or-eq_default (get_or rows s []) nothing (short (cases_lt s (length rows)))
  where
    short : (s < length rows) ⊎ (length rows ≤ s) → length (get_or rows s []) ≤ h
    short (inl low) = let row = are s low in omega (arith, row.places)
    short (inr high) = omega (arith, ap (length {A = PartValue}) (get_or-eq_default rows [] high))

pub slice_beyond : (ring : Ring) (q : ℕ) (rows : List (List PartValue)) → AreRowsOfParts ring q rows → (s h : ℕ)
    → q < h → slices ring rows s h ≡ nought
slice_beyond ring q rows are s h lt = part_at-rows ring rows s h ∙ ap (poly ring) (part_beyond ring q rows are s h lt)
    ∙ polynomial_in-empty ring
