-- Finite maps from keys to numbers, ordered by a comparison of keys, as polynomials modulo m.
--     value_at p k      the number at k, 0 where k is absent
--     put p k v      p with v at k; where v is 0, with nothing at k
--     collected m es      the map of a formal sum: at each key the remainder by m of the sum of
--         the coefficients there, where it isn't 0
--     sum_maps, scale_map, product_maps      sum, multiple and product of maps
use Rattle.std.specs.Prelude.{ℕ, ◌+◌, ◌%◌, ◌==◌, if◌then◌else◌, List, [], ◌∷◌, ◌++◌}
use Rattle.std.specs.Option.{unwrap_or}
use Rattle.std.specs.declared.cmp.Ordering.{Ordering}
use Rattle.std.specs.FinMap.{FinMap, empty, get, insert, remove, entries}
use Rattle.ps_model.specs.Sums.{multiples, products}

module _ {K : Type 0} (compare : K → K → Ordering) where
  abbrev pub value_at : FinMap compare ℕ → K → ℕ
  value_at p k = unwrap_or (get p k) 0

  unfoldable pub put : FinMap compare ℕ → K → ℕ → FinMap compare ℕ
  put p k v = if v == 0 then remove p k else insert p k v

  unfoldable pub collected : ℕ → List (K × ℕ) → FinMap compare ℕ
  collected m [] = empty
  collected m (e ∷ es) = put (collected m es) e.0 ((e.1 + value_at (collected m es) e.0) % m)

  abbrev pub sum_maps : ℕ → FinMap compare ℕ → FinMap compare ℕ → FinMap compare ℕ
  sum_maps m p q = collected m (entries p ++ entries q)

  abbrev pub scale_map : ℕ → ℕ → FinMap compare ℕ → FinMap compare ℕ
  scale_map m c p = collected m (multiples c (entries p))

  abbrev pub product_maps : (K → K → K) → ℕ → FinMap compare ℕ → FinMap compare ℕ → FinMap compare ℕ
  product_maps add m p q = collected m (products add (entries p) (entries q))
