-- The text of a block: the lead where it is shown, and each factor's coefficients, by falling power of Y.
--     power_text name p      *NAME, *NAME^P from the second power on, and nothing for the power 0
--     term_text names t      a coefficient and the powers of its monomial
--     terms_text names ts      terms joined by plus signs; 0 where there are none
--     terms_of_degree S p j r      the terms of degree r of the coefficient of Y^j, by falling
--         powers of the first variable, then of the next
--     printed_terms S p j D      those of the degrees 0 to D, one degree after another
--     power_line S names D p j      the line of the coefficient of Y^j
--     lead_text S names D lead      the line of the lead, a polynomial without Y; nothing for None
--     block_text S names lead roots fs D      the block: the precision, the lead, and for each root
--         its factor's lines from Y^times to Y^0
use Rattle.std.specs.Prelude.{ℕ, zero, suc, ◌==◌, ◌&&◌, List, [], ◌∷◌, ◌++◌, filter, codes, decimal}
use Rattle.std.specs.Prelude.{Option, Some, None}
use Rattle.std.specs.List.{flat_map}
use Rattle.ps_model.specs.declared.job.Root.{Root}
use Rattle.ps_model.specs.Keys.{Key, numbers}
use Rattle.ps_model.specs.Notation.{terms}
use Rattle.ps_model.specs.SeriesRing.{SeriesRing, degree, Poly}

abbrev pub newline : List ℕ
newline = 10 ∷ []

abbrev pub power_text : List ℕ → ℕ → List ℕ
power_text name zero = []
power_text name (suc zero) = codes "*" ++ name
power_text name (suc (suc p)) = codes "*" ++ name ++ codes "^" ++ decimal (suc (suc p))

abbrev pub powers_text : List (List ℕ) → List ℕ → List ℕ
powers_text [] powers = []
powers_text (name ∷ names) [] = []
powers_text (name ∷ names) (p ∷ powers) = power_text name p ++ powers_text names powers

abbrev pub term_text : {n : ℕ} → List (List ℕ) → Key n × ℕ → List ℕ
term_text {n} names t = decimal t.1 ++ powers_text names (numbers n t.0.powers)

abbrev pub terms_text : {n : ℕ} → List (List ℕ) → List (Key n × ℕ) → List ℕ
terms_text names [] = codes "0"
terms_text names (t ∷ ts) = term_text names t ++ flat_map (λ u. codes " + " ++ term_text names u) ts

module _ (S : SeriesRing) where
  abbrev pub terms_of_degree : Poly S → ℕ → ℕ → List (Key S.variables × ℕ)
  terms_of_degree p j r = filter (λ t. (t.0.y == j) && (degree S t.0 == r)) (terms p)

  abbrev pub printed_terms : Poly S → ℕ → ℕ → List (Key S.variables × ℕ)
  printed_terms p j zero = terms_of_degree p j 0
  printed_terms p j (suc d) = printed_terms p j d ++ terms_of_degree p j (suc d)

  module _ (names : List (List ℕ)) (D : ℕ) where
    abbrev pub power_line : Poly S → ℕ → List ℕ
    power_line p j = codes "Y^" ++ decimal j ++ codes ": " ++ terms_text names (printed_terms p j D) ++ newline

    -- the lines of the powers from j down to 0
    abbrev pub power_lines : Poly S → ℕ → List ℕ
    power_lines p zero = power_line p 0
    power_lines p (suc j) = power_line p (suc j) ++ power_lines p j

    abbrev pub factor_text : ℕ → Root → Poly S → List ℕ
    factor_text i root f =
        codes "factor " ++ decimal i ++ codes " root " ++ decimal root.value ++ codes " times " ++ decimal root.times
        ++ newline ++ power_lines f root.times

    -- the factors are counted from i
    abbrev pub factor_texts : ℕ → List Root → List (Poly S) → List ℕ
    factor_texts i [] fs = []
    factor_texts i (root ∷ roots) [] = []
    factor_texts i (root ∷ roots) (f ∷ fs) = factor_text i root f ++ factor_texts (suc i) roots fs

    abbrev pub lead_text : Option (Poly S) → List ℕ
    lead_text None = []
    lead_text (Some l) = codes "lead: " ++ terms_text names (printed_terms l 0 D) ++ newline

  abbrev pub block_text : List (List ℕ) → Option (Poly S) → List Root → List (Poly S) → ℕ → List ℕ
  block_text names lead roots fs D =
      codes "precision " ++ decimal D ++ newline ++ lead_text names D lead ++ factor_texts names D 1 roots fs
