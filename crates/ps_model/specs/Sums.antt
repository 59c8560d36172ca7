-- Formal sums: lists of entries, each a key and a coefficient.
--     total f es      the sum over the entries of coefficient * f key; 0 of no entry
--     multiples c es      each coefficient multiplied by c
--     products add es fs      all pairs of an entry of es and one of fs: the keys added, the
--         coefficients multiplied
--     replaced image es      each entry gives way to its coefficient times the image of its key
--     kept test es      the entries whose keys pass the test
use Rattle.std.specs.Prelude.{ℕ, ◌+◌, ◌*◌, Bool, List, [], ◌∷◌, ◌++◌, map}
use Rattle.std.specs.List.{filter}

abbrev pub total : {K : Type 0} → (K → ℕ) → List (K × ℕ) → ℕ
total f [] = 0
total f (e ∷ es) = e.1 * f e.0 + total f es

abbrev pub multiples : {K : Type 0} → ℕ → List (K × ℕ) → List (K × ℕ)
multiples c es = map (λ e. (e.0, c * e.1)) es

abbrev pub products : {K : Type 0} → (K → K → K) → List (K × ℕ) → List (K × ℕ) → List (K × ℕ)
products add [] fs = []
products add (e ∷ es) fs = map (λ g. (add e.0 g.0, e.1 * g.1)) fs ++ products add es fs

abbrev pub replaced : {K L : Type 0} → (K → List (L × ℕ)) → List (K × ℕ) → List (L × ℕ)
replaced image [] = []
replaced image (e ∷ es) = multiples e.1 (image e.0) ++ replaced image es

abbrev pub kept : {K : Type 0} → (K → Bool) → List (K × ℕ) → List (K × ℕ)
kept test es = filter (λ e. test e.0) es
