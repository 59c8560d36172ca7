-- The formal sum that is left of a part less products of series.
--     pieces n f      the formal sums f 0, .. , f (n - 1), one after the other
--     entries_at ps s      the entries of the part of degree s, none past the end
--     crossed_entries r a w      the products of terms of two series that have degree r
--     all_crossed r n a w      the same of the n first of two families of series
--     left_entries m r start n a w factor      factor times what start less these is, modulo m
--     left_in ring start a w l factor      the same of what belongs to Y^l in the product of two polynomials in Y
use Rattle.std.specs.Prelude.{ℕ, zero, suc, ◌-◌, List, [], ◌++◌, length}
use Rattle.std.specs.FinMap.{FinMap, entries}
use Rattle.ps_model.specs.Keys.{Key, key_compare, add_keys}
use Rattle.ps_model.specs.Sums.{multiples, products}
use Rattle.parts.specs.PartValue.{PartValue}
use Rattle.parts.specs.Rings.{modulus_of}
use Rattle.parts.specs.RowsOfParts.{part_in}
use Rattle.parts.specs.SeriesParts.{SeriesValue, parts_at}
use Rattle.parts.specs.declared.rings.Ring.{Ring}

-- the entries of a part, by its place
abbrev pub entries_at : List PartValue → ℕ → List (Key 8 × ℕ)
entries_at ps s = entries (part_in ps s).map

-- formal sums f 0, .. , f (n - 1), one after the other
abbrev pub pieces : {K : Type 0} → ℕ → (ℕ → List (K × ℕ)) → List (K × ℕ)
pieces zero f = []
pieces (suc n) f = pieces n f ++ f n

-- the products of two series that have degree r, and those of families of series
abbrev pub crossed_entries : ℕ → List PartValue → List PartValue → List (Key 8 × ℕ)
crossed_entries r a w = pieces (suc r) (λ s. products (add_keys 8) (entries_at a s) (entries_at w (r - s)))

abbrev pub all_crossed : ℕ → ℕ → (a w : ℕ → List PartValue) → List (Key 8 × ℕ)
all_crossed r n a w = pieces n (λ h. crossed_entries r (a h) (w h))

-- what is left of a part, times a factor
abbrev pub left_entries : ℕ → ℕ → FinMap (key_compare 8) ℕ → ℕ → (a w : ℕ → List PartValue) → ℕ → List (Key 8 × ℕ)
left_entries m r start n a w factor =
    multiples factor (entries start ++ multiples (m - 1) (all_crossed r n a w))

-- the same of what belongs to Y^l in a product of polynomials in Y with series
abbrev pub left_in : Ring → PartValue → (a w : List SeriesValue) → ℕ → ℕ → List (Key 8 × ℕ)
left_in ring start a w l factor =
    left_entries (modulus_of ring) start.degree start.map (length a) (parts_at a) (λ h. parts_at w (l - h)) factor
