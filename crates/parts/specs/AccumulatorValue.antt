-- What contracts see of an accumulator: its ring, its degree, and the map of what was added so far.
--     with_product m minus p a b      the map p with the product of a and b added, or subtracted
--     with_multiple m c p a      the map p with c times a added
--     after_product s minus a b, after_multiple s c a      the same of whole accumulators
use Rattle.std.specs.Prelude.{◌≡◌, ℕ, ◌^◌, ◌<◌, ◌≤◌, List, length, take, ◌++◌, Bool, true, false, map, refl}
use Rattle.std.specs.List.{All}
use Rattle.std.specs.FinMap.{FinMap, code, entries, from_entries}
use Rattle.std.specs.Coded.{Coded, code_by, coded×, coded_ℕ}
use Rattle.ps_model.specs.Plain.{coded_key}
use Rattle.parts.specs.contracts.rings.Ring.{the_row}
use Rattle.ps_model.specs.Sums.{multiples, products}
use Rattle.ps_model.specs.FiniteMaps.{collected}
use Rattle.ps_model.specs.Keys.{key_compare, add_keys}
use Rattle.parts.specs.declared.rings.Ring.{Ring}
use Rattle.parts.specs.Rings.{modulus_of}
use Rattle.parts.specs.PartValue.{PartValue}
use Rattle.parts.specs.Places.{size, multipliers}
use Rattle.parts.specs.declared.terms.Term.{Term}
use Rattle.parts.specs.Terms.{entry_of, finished, key_at, sign}

pub record AccumulatorValue : Type 0 where
  pub ring : Ring
  pub degree : ℕ
  pub map : FinMap (key_compare 8) ℕ

abbrev pub accumulator_code : Coded AccumulatorValue
accumulator_code =
    code_by (Ring × (ℕ × FinMap (key_compare 8) ℕ)) (coded× the_row.coded (coded× coded_ℕ (code coded_key coded_ℕ)))
    (λ a. (a.ring, (a.degree, a.map))) (λ p. record { ring = p.0; degree = p.1.0; map = p.1.1 }) (λ _. refl)

-- the map that cells hold
abbrev pub cells_map : ℕ → List ℕ → ℕ → List ℕ → FinMap (key_compare 8) ℕ
cells_map m ws d cells = from_entries (finished m (key_at d ws) 0 cells)

-- cells are small; once made they are all that degree d has
pub record AreCells (ws : List ℕ) (d : ℕ) (sizes cells : List ℕ) : Type 0 where
  pub low : All (λ x. x < 2 ^ 127) cells
  pub few : length cells ≤ 2 ^ 24
  pub made : 0 < length cells → length cells ≡ size d ws
  pub sizes_are : 0 < length cells → take (length ws) sizes ≡ multipliers d ws

-- a map and a product, or the product's negative
abbrev pub with_product : ℕ → Bool → FinMap (key_compare 8) ℕ → FinMap (key_compare 8) ℕ → FinMap (key_compare 8) ℕ
    → FinMap (key_compare 8) ℕ
with_product m minus p a b =
    collected (key_compare 8) m (entries p ++ multiples (sign m minus) (products (add_keys 8) (entries a) (entries b)))

-- a map and c times another
abbrev pub with_multiple : ℕ → ℕ → FinMap (key_compare 8) ℕ → FinMap (key_compare 8) ℕ → FinMap (key_compare 8) ℕ
with_multiple m c p a = collected (key_compare 8) m (entries p ++ multiples c (entries a))

-- an accumulator with a product added, or subtracted
abbrev pub after_product : AccumulatorValue → Bool → PartValue → PartValue → AccumulatorValue
after_product s minus a b =
    record { ring = s.ring; degree = s.degree; map = with_product (modulus_of s.ring) minus s.map a.map b.map }

-- an accumulator with a multiple added
abbrev pub after_multiple : AccumulatorValue → ℕ → PartValue → AccumulatorValue
after_multiple s c a =
    record { ring = s.ring; degree = s.degree; map = with_multiple (modulus_of s.ring) c s.map a.map }

-- the map of a sum that is kept in cells, or as terms
abbrev pub held_map : Bool → FinMap (key_compare 8) ℕ → List Term → FinMap (key_compare 8) ℕ
held_map true p ts = p
held_map false p ts = from_entries (map entry_of ts)
