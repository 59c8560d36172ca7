-- The terms of a polynomial, as a list.
--     IsTermList es      no key stands twice, and no coefficient is 0
--     IsSortingOf es fs      fs has the entries of es, in the order of their keys
--     HasTerms p es      at each key the map has what the list has
--     HaveTerms ps ess      so do as many maps and lists, pair by pair
use Rattle.std.specs.Prelude.{◌≡◌, ℕ, ◌<◌, ◌≤◌, List, [], ◌∷◌, T}
use Rattle.std.specs.FinMap.{get, find, is_sorted}
use Rattle.std.specs.List.{All, count_by}
use Rattle.std.specs.List.Sorted.{IsPermutation}
use Rattle.std.specs.Ordering.{eq_by_cmp}
use Rattle.ps_model.specs.Keys.{Key, key_compare}
use Rattle.printer.specs.ReadText.{Coefficients}

pub record IsTermList (es : List (Key 8 × ℕ)) : Type 0 where
  pub once : (k : Key 8) → count_by (λ e. eq_by_cmp (key_compare 8) k e.0) es ≤ 1
  pub some : All (λ e. 0 < e.1) es

pub record IsSortingOf (es fs : List (Key 8 × ℕ)) : Type 0 where
  pub permutes : IsPermutation es fs
  pub in_order : T (is_sorted (key_compare 8) fs)

pub record HasTerms (p : Coefficients) (es : List (Key 8 × ℕ)) : Type 0 where
  pub at : (k : Key 8) → get p k ≡ find (key_compare 8) k es

abbrev pub HaveTerms : List Coefficients → List (List (Key 8 × ℕ)) → Type 0
HaveTerms [] [] = Unit {0}
HaveTerms [] (es ∷ ess) = ⊥
HaveTerms (p ∷ ps) [] = ⊥
HaveTerms (p ∷ ps) (es ∷ ess) = HasTerms p es × HaveTerms ps ess
