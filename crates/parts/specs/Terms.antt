-- Terms as entries of finite maps.
--     powers_in x      the powers of a monomial;  key_of x, its key;  entry_of t, the key of a term
--         and its coefficient
--     TermsInOrder ts      the keys stand in order, and no coefficient is 0; so of no term
--     IsKeyOf ws d k      k is a key of degree d by the weights ws, without Y and without variables
--         past them
use Rattle.std.specs.Prelude.{◌≡◌, ℕ, suc, length, take, ◌+◌, ◌-◌, ◌*◌, ◌%◌, ◌<◌, ◌==◌, Bool, cond, T, List, [], ◌∷◌}
use Rattle.std.specs.Prelude.{◌++◌, map, Option, Some, None}
use Rattle.std.specs.Option.{option_map}
use Rattle.std.specs.List.{All}
use Rattle.std.specs.FinMap.{is_sorted}
use Rattle.ps_model.specs.Keys.{Key, numbers, key_compare}
use Rattle.parts.specs.Keys.{key_from, MonomialValue}
use Rattle.parts.specs.Places.{dot, powers_at}
use Rattle.parts.specs.Cells.{cells_total, row_total}
use Rattle.parts.specs.declared.terms.Term.{Term}
use Rattle.parts.specs.declared.cells.Placed.{Placed}

-- a key of degree d by the weights, without Y and without variables past them
pub record IsKeyOf (ws : List ℕ) (d : ℕ) (k : Key 8) : Type 0 where
  pub weighs : dot ws (numbers 8 k.powers) ≡ d
  pub is : k ≡ key_from (take (length ws) (numbers 8 k.powers))

abbrev pub powers_in : MonomialValue → List ℕ
powers_in x = x.powers

abbrev pub key_of : MonomialValue → Key 8
key_of x = key_from (powers_in x)

abbrev pub entry_of : Term → Key 8 × ℕ
entry_of t = (key_of t.monomial, t.coefficient)

abbrev pub TermsInOrder : List Term → Type 0
TermsInOrder ts = T (is_sorted (key_compare 8) (map entry_of ts)) × All (λ t. 0 < t.coefficient) ts

-- the place and the coefficient of a term
abbrev pub placed_term : List ℕ → Term → Placed
placed_term ms t = record { place = dot ms (powers_in t.monomial); coefficient = t.coefficient }

-- minus 1 modulo m, or 1
abbrev pub sign : ℕ → Bool → ℕ
sign m minus = cond minus (m - 1) 1

-- the total of all products of a term and a placed one
abbrev pub products_total : (ℕ → ℕ) → List ℕ → List Term → List Placed → ℕ
products_total f ms [] row = 0
products_total f ms (t ∷ ts) row =
    row_total f (dot ms (powers_in t.monomial)) t.coefficient row + products_total f ms ts row

-- the cells new are the cells old with the products of all terms and a row added, or subtracted, modulo m
abbrev pub GainsRows : ℕ → Bool → List ℕ → List Term → List Placed → List ℕ → List ℕ → Type 0
GainsRows m minus ms ts row old new = (f : ℕ → ℕ) → cells_total f 0 new % m
    ≡ (cells_total f 0 old + sign m minus * products_total f ms ts row) % m

-- the key at a place, for degree d and these weights
abbrev pub key_at : ℕ → List ℕ → ℕ → Option (Key 8)
key_at d ws i = option_map key_from (powers_at d ws d i)

-- the entries that cells hold, by falling place
abbrev pub kept_entry : Option (Key 8) → ℕ → List (Key 8 × ℕ)
kept_entry None v = []
kept_entry (Some k) v = cond (v == 0) [] ((k, v) ∷ [])

abbrev pub finished : ℕ → (ℕ → Option (Key 8)) → ℕ → List ℕ → List (Key 8 × ℕ)
finished m key i [] = []
finished m key i (x ∷ xs) = finished m key (suc i) xs ++ kept_entry (key i) (x % m)
