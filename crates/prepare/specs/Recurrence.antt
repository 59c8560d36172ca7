-- The rows of the next degree, by the recurrences.
--     poly ring p      the polynomial of a part
--     slices ring rows s j      that of the part at place j of row s, 0 past the ends
--     next_p ring e n rows_p rows_u row last i      what the recurrence gives for p at Y^i of degree n: the
--         row of degree n of the input is row, and last has the parts of p before
--     next_u ring k n rows_p rows_u row last j      the same for u at Y^j, where last is the row of p
--     IsNextOfP ring k e rows_p rows_u row next      the next row of p, up to Y^k, where its part is zero
--     IsNextOfU ring k q rows_p last rows_u row next      the next row of u, last being that of p
use Rattle.std.specs.Prelude.{◌≡◌, ℕ, ◌+◌, ◌-◌, ◌<◌, ◌≤◌, List, [], ◌∷◌, ◌++◌, length}
use Rattle.std.specs.FinMap.{empty}
use Rattle.ps_model.specs.Notation.{sum, scaled, difference, product, sum_between}
use Rattle.ps_model.specs.Recurrences.{crossed_product}
use Rattle.ps_model.specs.Rows.{part_at}
use Rattle.ps_model.specs.SeriesRing.{ring as ring_of, Poly}
use Rattle.parts.specs.PartValue.{PartValue}
use Rattle.parts.specs.declared.rings.Ring.{Ring}
use Rattle.parts.specs.RowsOfParts.{part_in, IsRowOfParts}
use Rattle.parts.specs.Series.{series, polynomial_in, rows_maps}

abbrev pub poly : (ring : Ring) → PartValue → Poly (series ring)
poly ring p = polynomial_in ring p.map

abbrev pub slices : (ring : Ring) → List (List PartValue) → ℕ → ℕ → Poly (series ring)
slices ring rows = part_at (ring_of (series ring)) (rows_maps ring rows)

-- p at Y^i of degree n; e is the inverse of the constant term of u
abbrev pub next_p : (ring : Ring) → ℕ → ℕ → (rows_p rows_u : List (List PartValue)) → (row last : List PartValue) → ℕ
    → Poly (series ring)
next_p ring e n rows_p rows_u row last i = scaled e (difference (poly ring (part_in row i)) (sum
    (sum_between 0 i (λ h. crossed_product n (slices ring (rows_p ++ last ∷ [])) (slices ring rows_u) h (i - h)))
    (sum_between 1 n (λ s. product (slices ring (rows_p ++ last ∷ []) s i) (slices ring rows_u (n - s) 0)))))

-- u at Y^j of degree n
abbrev pub next_u : (ring : Ring) → ℕ → ℕ → (rows_p rows_u : List (List PartValue)) → (row last : List PartValue) → ℕ
    → Poly (series ring)
next_u ring k n rows_p rows_u row last j = difference (poly ring (part_in row (k + j)))
    (sum_between 0 k (λ i. crossed_product n (slices ring (rows_p ++ last ∷ [])) (slices ring rows_u) i (k + j - i)))

pub record IsNextOfP (ring : Ring) (k e : ℕ) (rows_p rows_u : List (List PartValue)) (row next : List PartValue)
    : Type 0 where
  pub row_is : IsRowOfParts ring k (length rows_p) next
  pub top : (part_in next k).map ≡ empty
  pub parts : (i : ℕ) → i < k → poly ring (part_in next i) ≡ next_p ring e (length rows_p) rows_p rows_u row next i

pub record IsNextOfU (ring : Ring) (k q : ℕ) (rows_p : List (List PartValue)) (last : List PartValue)
    (rows_u : List (List PartValue)) (row next : List PartValue) : Type 0 where
  pub row_is : IsRowOfParts ring q (length rows_p) next
  pub parts : (j : ℕ) → j ≤ q → poly ring (part_in next j) ≡ next_u ring k (length rows_p) rows_p rows_u row last j
