-- The coefficients of a series in rows, each along the first variable.
--     rows_in rows      the lists of numbers that the rows are
--     entry rows f p      the number at place p of row f, 0 past the ends
--     pair_key p f      the key with power p of the first variable and f of the second
--     indicator k x      1 where x is k, else 0
--     all_entries parts      the entries of all parts, one part after the other
--     crossed_total g a w      the value of a linear form at the product of two series
--     crossed_totals g n a w      the sum of these for the n first of two families of series
--     AreRows m rows parts      at place p of row f stands the coefficient of pair_key p f, which is a residue
--     IsContiguous ring      the series of the ring have rows: those in one variable and in two
--     IsSeries ring parts rows      the parts are those of a series of the ring, at most 4,096, and the rows have
--         their coefficients where the ring's series have rows
--     HasPlace rows f p      row f is there, and place p of it
--     SameEntries, KeepsPlaces old new      no number changed, places at most added
--     Puts f p c old new      c at place p of row f, else no number changed
--     Overlap n k p from to      a list of n numbers and one of k, read from place p backwards, overlap from one
--         place up to another
--     IsPairKey x      a monomial's key has powers of the first two variables alone
--     HasPlaceOf rows t, IsPairTerm t, IsHeld rows c t      the term's place is there, it is in two
--         variables, and c of it stands at its place
--     crossed_entry a w f p      the number at place p of row f of the product of two series of rows
use Rattle.std.specs.Prelude.{◌≡◌, ℕ, suc, ◌+◌, ◌-◌, ◌*◌, ◌<◌, ◌≤◌, cond, List, [], ◌∷◌, ◌++◌, length}
use Rattle.std.specs.Prelude.{map, slice_index, slice_index_or}
use Rattle.std.specs.FinMap.{entries}
use Rattle.std.specs.Ordering.{eq_by_cmp}
use Rattle.std.specs.declared.alloc.Global.{Global}
use Rattle.std.specs.declared.vec.Vec.{Vec}
use Rattle.ps_model.specs.Keys.{Key, key_compare, add_keys}
use Rattle.ps_model.specs.Sums.{total}
use Rattle.residue.specs.Products.{sum_below}
use Rattle.parts.specs.Keys.{key_from, MonomialValue}
use Rattle.parts.specs.PartValue.{PartValue}
use Rattle.parts.specs.SeriesParts.{AreSeriesParts}
use Rattle.parts.specs.Rings.{modulus_of, variables_of}
use Rattle.parts.specs.Terms.{key_of}
use Rattle.parts.specs.declared.terms.Term.{Term}
use Rattle.parts.specs.declared.rings.Ring.{Ring}

abbrev pub rows_in : List (Vec ℕ Global) → List (List ℕ)
rows_in rows = map (λ row. row.items) rows

abbrev pub entry : List (List ℕ) → ℕ → ℕ → ℕ
entry rows f p = slice_index (slice_index_or rows f []) p

abbrev pub pair_key : ℕ → ℕ → Key 8
pair_key p f = key_from (p ∷ f ∷ [])

abbrev pub indicator : Key 8 → Key 8 → ℕ
indicator k x = cond (eq_by_cmp (key_compare 8) k x) 1 0

abbrev pub all_entries : List PartValue → List (Key 8 × ℕ)
all_entries [] = []
all_entries (p ∷ ps) = entries p.map ++ all_entries ps

-- the value of a linear form at a product of series
abbrev pub crossed_total : (Key 8 → ℕ) → List PartValue → List PartValue → ℕ
crossed_total g a w = total (λ x. total (λ y. g (add_keys 8 x y)) (all_entries w)) (all_entries a)

abbrev pub crossed_totals : (Key 8 → ℕ) → ℕ → (a w : ℕ → List PartValue) → ℕ
crossed_totals g n a w = sum_below n (λ h. crossed_total g (a h) (w h))

-- the rows have the coefficients of the parts
pub record AreRows (m : ℕ) (rows : List (List ℕ)) (parts : List PartValue) : Type 0 where
  pub residues : (f p : ℕ) → entry rows f p < m
  pub coefficients : (f p : ℕ) → entry rows f p ≡ total (indicator (pair_key p f)) (all_entries parts)

-- which series have rows
abbrev pub IsContiguous : Ring → Type 0
IsContiguous ring = variables_of ring ≤ 2

-- what is true of every series
pub record IsSeries (ring : Ring) (parts : List PartValue) (rows : List (List ℕ)) : Type 0 where
  pub parts_are : AreSeriesParts ring parts
  pub few : length parts ≤ 4096
  pub rows_are : IsContiguous ring → AreRows (modulus_of ring) rows parts

abbrev pub HasPlace : List (List ℕ) → ℕ → ℕ → Type 0
HasPlace rows f p = (f < length rows) × (p < length (slice_index_or rows f []))

abbrev pub SameEntries : List (List ℕ) → List (List ℕ) → Type 0
SameEntries old new = (f p : ℕ) → entry new f p ≡ entry old f p

abbrev pub KeepsPlaces : List (List ℕ) → List (List ℕ) → Type 0
KeepsPlaces old new = (f p : ℕ) → HasPlace old f p → HasPlace new f p

-- one number is new
pub record Puts (f p c : ℕ) (old new : List (List ℕ)) : Type 0 where
  pub here : entry new f p ≡ c
  pub others : (i j : ℕ) → ((i ≡ f) × (j ≡ p) → ⊥) → entry new i j ≡ entry old i j

-- what row i of one and the row of the other that faces it add to place p of row f of a product
abbrev pub row_products : List (List ℕ) → List (List ℕ) → ℕ → ℕ → ℕ → ℕ
row_products a w f p i = sum_below (suc p) (λ j. entry a i j * entry w (f - i) (p - j))

-- the coefficient at place p of row f of a product
abbrev pub crossed_entry : List (List ℕ) → List (List ℕ) → ℕ → ℕ → ℕ
crossed_entry a w f p = sum_below (suc f) (row_products a w f p)

-- the numbers from which on, and up to which, two lists overlap
pub record Overlap (n k p from to : ℕ) : Type 0 where
  pub before : (i : ℕ) → i < from → i ≤ p → k ≤ p - i
  pub behind : (i : ℕ) → to ≤ i → i ≤ p → n ≤ i
  pub inside : to ≤ n
  pub low : to ≤ p + 1
  pub start : from ≤ p + 1
  pub high : p < from + k

-- a monomial in two variables
abbrev pub IsPairKey : MonomialValue → Type 0
IsPairKey x = key_of x ≡ pair_key (slice_index x.powers 0) (slice_index x.powers 1)

-- a term in two variables, and its place
abbrev pub row_of_term : Term → ℕ
row_of_term t = slice_index t.monomial.powers 1

abbrev pub place_of_term : Term → ℕ
place_of_term t = slice_index t.monomial.powers 0

abbrev pub HasPlaceOf : List (List ℕ) → Term → Type 0
HasPlaceOf rows t = HasPlace rows (row_of_term t) (place_of_term t)

abbrev pub IsPairTerm : Term → Type 0
IsPairTerm t = IsPairKey t.monomial

abbrev pub IsHeld : List (List ℕ) → (Term → ℕ) → Term → Type 0
IsHeld rows c t = entry rows (row_of_term t) (place_of_term t) ≡ c t
