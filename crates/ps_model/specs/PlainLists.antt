-- Lists of terms in order, and what is added to a map.
--     map_of ts      the finite map of a list of terms
--     key_order t u      the order of their keys
--     AreBefore ts i t      the first i terms stand before the key of t
--     IsPlaceOf ts t r      r is the place of the key of t, or, as an error, the one where it would stand
--     IsInRange k      each power fits 16 bits, and that of Y 32
--     HasProductsInRange es fs      so does each sum of a key of es and one of fs
--     added m es p      the formal sum es added to the map p, modulo m
--     multiplied e es      the formal sum es times the entry e
--     without_y e      the entry without its power of Y
--     y_terms k es      the entries with Y^k, without it
--     plain_degree ws k      the degree by these weights; one that is 0 or missing counts as 1
--     cut_map ws d p      the entries of degree at most d
use Rattle.std.specs.Prelude.{◌≡◌, ℕ, ◌+◌, ◌*◌, ◌%◌, ◌^◌, ◌<◌, ◌≤◌, ◌==◌, nat_le, List, [], ◌∷◌, map, filter, length}
use Rattle.std.specs.Prelude.{slice_index_or}
use Rattle.std.specs.Prelude.{Result, MatchResult}
use Rattle.std.specs.List.{All}
use Rattle.std.specs.FinMap.{FinMap, from_entries, retain_keys}
use Rattle.std.specs.declared.cmp.Ordering.TheVariants.{Less, Equal, Greater}
use Rattle.std.specs.declared.cmp.Ordering.{Ordering}
use Rattle.ps_model.specs.Keys.{Key, key_compare, numbers, weights_from, add_keys, weighted}
use Rattle.ps_model.specs.FiniteMaps.{put}
use Rattle.ps_model.specs.Plain.{key_of, entry_of, value_in}
use Rattle.ps_model.specs.declared.plain.PlainTerm.{PlainTerm}

abbrev pub map_of : List PlainTerm → FinMap (key_compare 8) ℕ
map_of ts = from_entries (map entry_of ts)

unfoldable pub key_order : PlainTerm → PlainTerm → Ordering
key_order t u = key_compare 8 (key_of t) (key_of u)

abbrev pub AreBefore : List PlainTerm → ℕ → PlainTerm → Type 0
AreBefore ts i t = (j : ℕ) (d : PlainTerm) → j < i → key_order (slice_index_or ts j d) t ≡ Less

abbrev pub IsPlaceOf : List PlainTerm → PlainTerm → Result ℕ ℕ → Type 0
IsPlaceOf ts t r = MatchResult r
    (λ i. (i < length ts) × AreBefore ts i t × ((d : PlainTerm) → key_order (slice_index_or ts i d) t ≡ Equal))
    (λ i. (i ≤ length ts) × AreBefore ts i t
    × ((d : PlainTerm) → i < length ts → key_order (slice_index_or ts i d) t ≡ Greater))

unfoldable pub IsInRange : Key 8 → Type 0
IsInRange k = All (λ x. x < 2 ^ 16) (numbers 8 k.powers) × (k.y < 2 ^ 32)

abbrev pub HasProductsInRange : List (Key 8 × ℕ) → List (Key 8 × ℕ) → Type 0
HasProductsInRange es fs = All (λ e. All (λ f. IsInRange (add_keys 8 e.0 f.0)) fs) es

unfoldable pub added : ℕ → List (Key 8 × ℕ) → FinMap (key_compare 8) ℕ → FinMap (key_compare 8) ℕ
added m [] p = p
added m (e ∷ es) p = put (key_compare 8) (added m es p) e.0 ((e.1 + value_in (added m es p) e.0) % m)

abbrev pub multiplied : Key 8 × ℕ → List (Key 8 × ℕ) → List (Key 8 × ℕ)
multiplied e es = map (λ f. (add_keys 8 e.0 f.0, e.1 * f.1)) es

abbrev pub without_y : Key 8 × ℕ → Key 8 × ℕ
without_y e = (record { powers = e.0.powers; y = 0 }, e.1)

abbrev pub y_terms : ℕ → List (Key 8 × ℕ) → List (Key 8 × ℕ)
y_terms k es = map without_y (filter (λ e. e.0.y == k) es)

unfoldable pub plain_degree : List ℕ → Key 8 → ℕ
plain_degree ws k = weighted 8 (weights_from 8 ws) k.powers

abbrev pub cut_map : List ℕ → ℕ → FinMap (key_compare 8) ℕ → FinMap (key_compare 8) ℕ
cut_map ws d p = retain_keys p (λ k. nat_le (plain_degree ws k) d)
