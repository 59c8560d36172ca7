-- The canonical spelling of a tree.
--     tightness e      how tightly a tree holds together: 1 of a sum, 2 of a product, 3 of a power, 4 of a base
--     inside outer e text      the text of e inside a tree of this tightness: in parentheses where e holds together no
--         more tightly
--     spelling names e      the canonical spelling of e; a name's is the name, and that of Y is `Y`
--     nesting e      how deep its parentheses nest; 0 without any
use Rattle.std.specs.Prelude.{ℕ, ◌+◌, max, Bool, true, false, if◌then◌else◌, nat_le, List, [], ◌++◌, codes}
use Rattle.std.specs.Prelude.{slice_get, unwrap_or}
use Rattle.std.specs.Fmt.{decimal}
use Rattle.ps_model.specs.declared.expr.Expr.{Expr, Number, Name, MainVariable, Sum', Product', Power'}
use Rattle.ps_model.specs.declared.expr.Expr.{end_of-Expr, more_of-Expr}
use Rattle.ps_model.specs.declared.expr.Expr.{Row_of-Summand, end_of-Summand, more_of-Summand}
use Rattle.ps_model.specs.declared.expr.Expr.{Row_of-Factor, end_of-Factor, more_of-Factor}

abbrev pub tightness : Expr → ℕ
tightness (Sum' shape summands) = 1
tightness (Product' shape factors) = 2
tightness (Power' shape base exponent) = 3
tightness (Number c) = 4
tightness (Name i) = 4
tightness MainVariable = 4

abbrev pub inside : ℕ → Expr → List ℕ → List ℕ
inside outer of text = if nat_le (tightness of) outer then codes "(" ++ text ++ codes ")" else text

-- what stands before a summand, from whether it is the first and has a minus
abbrev pub sign : Bool → Bool → List ℕ
sign true true = codes "-"
sign true false = []
sign false true = codes " - "
sign false false = codes " + "

-- what stands before a factor, from whether it is the first and divides
abbrev pub operator : Bool → Bool → List ℕ
operator true divide = []
operator false true = codes "/"
operator false false = codes "*"

abbrev mutual
  pub spelling : List (List ℕ) → Expr → List ℕ
  spelling names (Number c) = decimal c
  spelling names (Name i) = unwrap_or (slice_get names i) []
  spelling names MainVariable = codes "Y"
  spelling names (Sum' shape summands) = summands_text names true summands
  spelling names (Product' shape factors) = factors_text names true factors
  spelling names (Power' shape (more_of-Expr base end_of-Expr) exponent) =
      inside 3 base (spelling names base) ++ codes "^" ++ decimal exponent

  pub summands_text : {m : _} → List (List ℕ) → Bool → Row_of-Summand m → List ℕ
  summands_text names first end_of-Summand = []
  summands_text names first (more_of-Summand minus of rest) =
      sign first minus ++ inside 1 of (spelling names of) ++ summands_text names false rest

  pub factors_text : {m : _} → List (List ℕ) → Bool → Row_of-Factor m → List ℕ
  factors_text names first end_of-Factor = []
  factors_text names first (more_of-Factor divide of rest) =
      operator first divide ++ inside 2 of (spelling names of) ++ factors_text names false rest

abbrev pub nest_inside : ℕ → Expr → ℕ → ℕ
nest_inside outer of depth = if nat_le (tightness of) outer then depth + 1 else depth

abbrev mutual
  pub nesting : Expr → ℕ
  nesting (Number c) = 0
  nesting (Name i) = 0
  nesting MainVariable = 0
  nesting (Sum' shape summands) = summands_nesting summands
  nesting (Product' shape factors) = factors_nesting factors
  nesting (Power' shape (more_of-Expr base end_of-Expr) exponent) = nest_inside 3 base (nesting base)

  pub summands_nesting : {m : _} → Row_of-Summand m → ℕ
  summands_nesting end_of-Summand = 0
  summands_nesting (more_of-Summand minus of rest) = max (nest_inside 1 of (nesting of)) (summands_nesting rest)

  pub factors_nesting : {m : _} → Row_of-Factor m → ℕ
  factors_nesting end_of-Factor = 0
  factors_nesting (more_of-Factor divide of rest) = max (nest_inside 2 of (nesting of)) (factors_nesting rest)
