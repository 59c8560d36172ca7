-- Induction over trees, with plain lists of summands and factors.
use Rattle.std.proofs.Common.{◌≡◌, ◌∙◌, sym, ap, subst, refl, ℕ, List, [], ◌∷◌}
use Rattle.ps_model.specs.declared.expr.Expr.{Expr, Number, Name, MainVariable, Sum, Product, Power, Sum', Product'}
use Rattle.ps_model.specs.declared.expr.Expr.{Power', end_of-Expr, more_of-Expr, Row_of-Summand, end_of-Summand}
use Rattle.ps_model.specs.declared.expr.Expr.{more_of-Summand, Row_of-Factor, end_of-Factor, more_of-Factor}
use Rattle.ps_model.specs.declared.expr.Summand.{Summand}
use Rattle.ps_model.specs.declared.expr.Factor.{Factor}
use Rattle.ps_model.specs.declared.expr.Expr.TheBlock.{shown-the_row-Summand-0, shown-the_row-Factor-1}
use Rattle.ps_model.specs.declared.expr.Expr.TheBlock.{hidden-the_row-Expr-2}
use Rattle.ps_model.specs.declared.expr.Expr.TheViews.{outs-Sum', rolls-Sum, outs-Product', rolls-Product, roll-Expr}
use Rattle.ps_model.specs.declared.expr.Expr.TheViews.{out-Expr, the_lemmas}
use Rattle.ps_model.specs.declared.expr.Expr.TheOpen as layer
use denote.Hole.Carrier.{shown, hidden}

abbrev pub summands_in : {m : _} → Row_of-Summand m → List Summand
summands_in end_of-Summand = []
summands_in (more_of-Summand minus of rest) = record { minus = minus; of = of } ∷ summands_in rest

abbrev pub factors_in : {m : _} → Row_of-Factor m → List Factor
factors_in end_of-Factor = []
factors_in (more_of-Factor divide of rest) = record { divide = divide; of = of } ∷ factors_in rest

summands_shown : (shape : List (Unit {0})) (row : Row_of-Summand _) →
    shown-the_row-Summand-0 shape row ≡ summands_in row
unfolding shown-the_row-Summand-0 shown
summands_shown [] end_of-Summand = refl
summands_shown (u ∷ shape) (more_of-Summand minus of rest) =
    ap (λ (ss : List Summand). record { minus = minus; of = of } ∷ ss) (summands_shown shape rest)

factors_shown : (shape : List (Unit {0})) (row : Row_of-Factor _) → shown-the_row-Factor-1 shape row ≡ factors_in row
unfolding shown-the_row-Factor-1 shown
factors_shown [] end_of-Factor = refl
factors_shown (u ∷ shape) (more_of-Factor divide of rest) =
    ap (λ (fs : List Factor). record { divide = divide; of = of } ∷ fs) (factors_shown shape rest)

out_roll : (e : Expr) → roll-Expr (out-Expr e) ≡ e
out_roll e = search the_lemmas

Sum-is : (shape : List (Unit {0})) (row : Row_of-Summand _) → Sum (summands_in row) ≡ Sum' shape row
Sum-is shape row = sym (rolls-Sum (summands_in row)) ∙
    ap (λ (ss : List Summand). roll-Expr (layer.Sum ss)) (sym (summands_shown shape row)) ∙
    ap roll-Expr (sym (outs-Sum' shape row)) ∙ out_roll (Sum' shape row)

Product-is : (shape : List (Unit {0})) (row : Row_of-Factor _) → Product (factors_in row) ≡ Product' shape row
Product-is shape row = sym (rolls-Product (factors_in row)) ∙
    ap (λ (fs : List Factor). roll-Expr (layer.Product fs)) (sym (factors_shown shape row)) ∙
    ap roll-Expr (sym (outs-Product' shape row)) ∙ out_roll (Product' shape row)

Power-is : (b : Expr) (n : ℕ) → Power b n ≡ Power' _ (more_of-Expr b end_of-Expr) n
unfolding hidden-the_row-Expr-2 hidden
Power-is b n = refl

-- a fact of each summand's tree, or of each factor's
abbrev pub OfSummands : (Expr → Type 0) → List Summand → Type 0
OfSummands P [] = Unit {0}
OfSummands P (s ∷ ss) = P s.of × OfSummands P ss

abbrev pub OfFactors : (Expr → Type 0) → List Factor → Type 0
OfFactors P [] = Unit {0}
OfFactors P (f ∷ fs) = P f.of × OfFactors P fs

module _ (P : Expr → Type 0)
    (number : (c : ℕ) → P (Number c)) (name : (i : ℕ) → P (Name i)) (main : P MainVariable)
    (sum : (ss : List Summand) → OfSummands P ss → P (Sum ss))
    (product : (fs : List Factor) → OfFactors P fs → P (Product fs))
    (power : (b : Expr) (n : ℕ) → P b → P (Power b n)) where
  mutual
    pub induct : (e : Expr) → P e
    induct (Number c) = number c
    induct (Name i) = name i
    induct MainVariable = main
    induct (Sum' shape row) = subst P (Sum-is shape row) (sum (summands_in row) (each_summand row))
    induct (Product' shape row) = subst P (Product-is shape row) (product (factors_in row) (each_factor row))
    induct (Power' shape (more_of-Expr b end_of-Expr) n) = subst P (Power-is b n) (power b n (induct b))

    each_summand : {m : _} (row : Row_of-Summand m) → OfSummands P (summands_in row)
    each_summand end_of-Summand = tt
    each_summand (more_of-Summand minus of rest) = (induct of, each_summand rest)

    each_factor : {m : _} (row : Row_of-Factor m) → OfFactors P (factors_in row)
    each_factor end_of-Factor = tt
    each_factor (more_of-Factor divide of rest) = (induct of, each_factor rest)
