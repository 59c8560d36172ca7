-- A loop over the summands or factors of a tree that looks for one in which a variable or Y stands.
use Rattle.std.proofs.Common.{◌≡◌, ℕ, ◌+◌, ◌<◌, ◌≤◌, true, false, List, ◌&&◌, length, get_or, drop}
use Rattle.std.proofs.Common.{sym, ◌∙◌, ap}
use Rattle.std.proofs.Math.ListN.{drop_of_length-le}
use Rattle.ps_model.specs.declared.expr.Expr.{Expr, Sum, Product, Power}
use Rattle.ps_model.specs.declared.expr.Summand.{Summand}
use Rattle.ps_model.specs.declared.expr.Factor.{Factor}
use Rattle.ps_model.specs.Tree.{is_number}
use Rattle.intake.proofs.TreePasses.{left_here}
use Rattle.intake.proofs.TreeRows.{is_number-Sum_none, is_number-Sum_more, is_number-Product_none}
use Rattle.intake.proofs.TreeRows.{is_number-Product_more, is_number-Power}

module _ (whole : Expr) where
  abbrev pub SumNumber : List Summand → ℕ → Type 0
  SumNumber items i = is_number (Sum (drop i items)) ≡ is_number whole

  sum_number : (items : List Summand) (i : ℕ) (s : Summand) → i < length items → s ≡ get_or items i s
      → is_number (Sum (drop i items)) ≡ (is_number s.of && is_number (Sum (drop (i + 1) items)))
  sum_number items i s lt is = ap (λ ss. is_number (Sum ss)) (left_here items i s lt is) ∙ is_number-Sum_more s _

  pub sum_number-start : (items ss : List Summand) → whole ≡ Sum ss → items ≡ ss → SumNumber items 0
  sum_number-start items ss is same = sym (ap is_number (is ∙ ap Sum (sym same)))

  pub sum_number-more : (items : List Summand) (i : ℕ) (s : Summand) → i < length items → s ≡ get_or items i s
      → is_number s.of ≡ true → SumNumber items i → SumNumber items (i + 1)
  sum_number-more items i s lt is here h =
      sym (sum_number items i s lt is ∙ ap (λ b. b && is_number (Sum (drop (i + 1) items))) here) ∙ h

  pub sum_number-stop : (items : List Summand) (i : ℕ) (s : Summand) → i < length items → s ≡ get_or items i s
      → is_number s.of ≡ false → SumNumber items i → false ≡ is_number whole
  sum_number-stop items i s lt is here h =
      sym (sum_number items i s lt is ∙ ap (λ b. b && is_number (Sum (drop (i + 1) items))) here) ∙ h

  pub sum_number-end : (items : List Summand) (i : ℕ) → length items ≤ i → SumNumber items i → true ≡ is_number whole
  sum_number-end items i le h =
      sym (ap (λ ss. is_number (Sum ss)) (drop_of_length-le items le) ∙ is_number-Sum_none) ∙ h

  abbrev pub ProductNumber : List Factor → ℕ → Type 0
  ProductNumber items i = is_number (Product (drop i items)) ≡ is_number whole

  product_number : (items : List Factor) (i : ℕ) (f : Factor) → i < length items → f ≡ get_or items i f
      → is_number (Product (drop i items)) ≡ (is_number f.of && is_number (Product (drop (i + 1) items)))
  product_number items i f lt is =
      ap (λ fs. is_number (Product fs)) (left_here items i f lt is) ∙ is_number-Product_more f _

  pub product_number-start : (items fs : List Factor) → whole ≡ Product fs → items ≡ fs → ProductNumber items 0
  product_number-start items fs is same = sym (ap is_number (is ∙ ap Product (sym same)))

  pub product_number-more : (items : List Factor) (i : ℕ) (f : Factor) → i < length items → f ≡ get_or items i f
      → is_number f.of ≡ true → ProductNumber items i → ProductNumber items (i + 1)
  product_number-more items i f lt is here h =
      sym (product_number items i f lt is ∙ ap (λ b. b && is_number (Product (drop (i + 1) items))) here) ∙ h

  pub product_number-stop : (items : List Factor) (i : ℕ) (f : Factor) → i < length items → f ≡ get_or items i f
      → is_number f.of ≡ false → ProductNumber items i → false ≡ is_number whole
  product_number-stop items i f lt is here h =
      sym (product_number items i f lt is ∙ ap (λ b. b && is_number (Product (drop (i + 1) items))) here) ∙ h

  pub product_number-end : (items : List Factor) (i : ℕ) → length items ≤ i → ProductNumber items i
      → true ≡ is_number whole
  product_number-end items i le h =
      sym (ap (λ fs. is_number (Product fs)) (drop_of_length-le items le) ∙ is_number-Product_none) ∙ h

-- a power is a number where its base is one
pub number-of_power : (whole base seen_base : Expr) (exponent : ℕ) → whole ≡ Power base exponent → seen_base ≡ base
    → is_number seen_base ≡ is_number whole
number-of_power whole base seen_base exponent is same =
    ap is_number same ∙ sym (is_number-Power base exponent) ∙ ap is_number (sym is)
