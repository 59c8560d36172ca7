-- Nodes of the leaves of a tree, and of the power 0.
use Rattle.std.proofs.Common.{◌≡◌, ℕ, zero, suc, ◌+◌, ◌%◌, ◌<◌, List, [], ◌∷◌, ◌++◌, length, refl, sym, ◌∙◌, ap, subst}
use Rattle.std.proofs.Common.{arith}
use Rattle.ps_model.specs.declared.expr.Expr.{Expr, Number, Name, MainVariable, Power}
use Rattle.ps_model.specs.Bounds.{HasNoPowerAbove}
use Rattle.ps_model.specs.Keys.{y_key}
use Rattle.ps_model.specs.Notation.{zero as nought, one, monomial, power, truncated, y_coefficient}
use Rattle.ps_model.specs.Polynomial.{zero as zero_of, one as one_of, monomial as monomial_of}
use Rattle.ps_model.specs.SeriesRing.{SeriesRing, ring, Poly}
use Rattle.ps_model.specs.Tree.{formal_degree, node_count}
use Rattle.ps_model.specs.Value.{variable, IsValue}
use Rattle.ps_model.proofs.PowerBounds.{truncated-monomial, truncated-nothing, power_bound-truncated}
use Rattle.ps_model.proofs.TopTerms.{monomial-mod, monomial-nothing}
use Rattle.ps_model.proofs.TreeLists.{formal_degree-Power, node_count-Power}
use Rattle.ps_model.proofs.TreeValues.{variable_flat}
use Rattle.ps_model.proofs.YCoefficients.{y_coefficient-truncated, y_coefficient_listed}
use Rattle.parts.specs.Rings.{modulus_of}
use Rattle.series_graph.specs.Calls.{AddsNode}
use Rattle.series_graph.specs.Formula.{Formula, Number as NumberNode, Variable}
use Rattle.series_graph.specs.GraphValue.{GraphValue}
use Rattle.series_graph.specs.Meaning.{IsMeaning, AreMeanings}
use Rattle.series_graph.specs.declared.node.NodeId.{NodeId}
use Rattle.intake.specs.Slots.{slot_at, Mean, AddsEach, AddsSlots, Builds}
use Rattle.intake.proofs.Built.{adds_both, adds_same}
use Rattle.intake.proofs.SlotPolynomials.{y_coefficient-above, y_coefficient-own}
use Rattle.intake.proofs.SlotSteps.{adds_none, adds_next}
use Rattle.intake.proofs.SlotsAdded.{slots_of_each, added_meaning}
use Rattle.intake.proofs.ValueRows.{power_value}

-- one node
one_adds : (formula : Formula) (old new : GraphValue) (id : NodeId) → AddsNode formula old new id
    → AddsEach (formula ∷ []) old new (id ∷ [])
one_adds formula old new id node = adds_next [] formula old old new [] id (adds_none old) node

module _ (S : SeriesRing) (D : ℕ) where
  abbrev pub MeansAlone : Formula → Poly S → Type 0
  MeansAlone formula v = (f : ℕ → Poly S) (p : Poly S) → IsMeaning S D f formula p → p ≡ v

  flat_at : (formula : Formula) (old new : GraphValue) (id : NodeId) (v : Poly S)
      → AddsEach (formula ∷ []) old new (id ∷ []) → HasNoPowerAbove 0 v → MeansAlone formula v → (f : ℕ → Poly S)
      → AreMeanings S D new.formulas f → (j : ℕ) → slot_at S f (id ∷ []) j ≡ y_coefficient j v
  flat_at formula old new id v each flat alone f are zero =
      alone f _ (added_meaning S D (formula ∷ []) old new (id ∷ []) each f are 0 (omega arith))
      ∙ sym (y_coefficient-own (ring S) v flat)
  flat_at formula old new id v each flat alone f are (suc j) =
      sym (y_coefficient-above (ring S) 0 (suc j) v flat (omega arith))

  pub flat_mean : (formula : Formula) (old new : GraphValue) (id : NodeId) (v : Poly S) → AddsNode formula old new id
      → HasNoPowerAbove 0 v → MeansAlone formula v → Mean S D new.formulas (id ∷ []) v
  flat_mean formula old new id v node flat alone =
      flat_at formula old new id v (one_adds formula old new id node) flat alone

  number_flat : (c : ℕ) → HasNoPowerAbove 0 (truncated D (monomial {R = ring S} c (y_key S.variables 0)))
  number_flat c = power_bound-truncated (ring S) D 0 _
      (truncated-monomial (ring S) (ring S).y_degree 0 c (y_key S.variables 0) (omega arith))

  -- the coefficients of Y
  y_none : y_coefficient 0 (monomial {R = ring S} 1 (y_key S.variables 1)) ≡ nought
  unfolding zero_of monomial_of
  y_none = y_coefficient_listed (ring S) 0 ((y_key S.variables 1, 1) ∷ [])

  y_one : y_coefficient 1 (monomial {R = ring S} 1 (y_key S.variables 1)) ≡ monomial 1 (y_key S.variables 0)
  unfolding monomial_of
  y_one = y_coefficient_listed (ring S) 1 ((y_key S.variables 1, 1) ∷ [])

  pub y_at : (old new : GraphValue) (x y : NodeId) → AddsEach (NumberNode 0 ∷ NumberNode 1 ∷ []) old new (x ∷ y ∷ [])
      → (f : ℕ → Poly S) → AreMeanings S D new.formulas f → (j : ℕ)
      → slot_at S f (x ∷ y ∷ []) j ≡ y_coefficient j (truncated D (monomial 1 (y_key S.variables 1)))
  y_at old new x y each f are zero =
      added_meaning S D (NumberNode 0 ∷ NumberNode 1 ∷ []) old new (x ∷ y ∷ []) each f are 0 (omega arith)
      ∙ ap (truncated D) (monomial-nothing (ring S) (y_key S.variables 0) ∙ sym y_none)
      ∙ sym (y_coefficient-truncated (ring S) D 0 _)
  y_at old new x y each f are (suc zero) =
      added_meaning S D (NumberNode 0 ∷ NumberNode 1 ∷ []) old new (x ∷ y ∷ []) each f are 1 (omega arith)
      ∙ ap (truncated D) (sym y_one) ∙ sym (y_coefficient-truncated (ring S) D 1 _)
  y_at old new x y each f are (suc (suc j)) = sym (y_coefficient-above (ring S) 1 (suc (suc j)) _
      (power_bound-truncated (ring S) D 1 _
      (truncated-monomial (ring S) (ring S).y_degree 1 1 (y_key S.variables 1) (omega arith))) (omega arith))

pub number_built : (old new : GraphValue) (id : NodeId) (c r : ℕ) → r ≡ c % modulus_of old.ring
    → AddsNode (NumberNode r) old new id → Builds (Number c) old new (id ∷ [])
number_built old new id c r e node = record {
  nodes = slots_of_each 1 (NumberNode r ∷ []) old new (id ∷ []) refl (one_adds (NumberNode r) old new id node);
  mean = λ S is D v value. flat_mean S D (NumberNode r) old new id v node
      (subst (HasNoPowerAbove 0) (sym value) (number_flat S D c))
      (λ f p at. at ∙ ap (λ k. truncated D (monomial {R = ring S} k (y_key S.variables 0)))
      (e ∙ ap (λ m. c % m) (sym is))
      ∙ ap (truncated D) (monomial-mod (ring S) c (y_key S.variables 0)) ∙ sym value);
}

pub name_built : (old new : GraphValue) (id : NodeId) (i : ℕ) → AddsNode (Variable i) old new id
    → Builds (Name i) old new (id ∷ [])
name_built old new id i node = record {
  nodes = slots_of_each 1 (Variable i ∷ []) old new (id ∷ []) refl (one_adds (Variable i) old new id node);
  mean = λ S is D v value. flat_mean S D (Variable i) old new id v node
      (subst (HasNoPowerAbove 0) (sym value) (power_bound-truncated (ring S) D 0 (variable S i) (variable_flat S i)))
      (λ f p at. at ∙ sym value);
}

pub y_built : (old mid new : GraphValue) (x y : NodeId) → AddsNode (NumberNode 0) old mid x
    → AddsNode (NumberNode 1) mid new y → Builds MainVariable old new (x ∷ y ∷ [])
y_built old mid new x y first second = record {
  nodes = slots_of_each 2 (NumberNode 0 ∷ NumberNode 1 ∷ []) old new (x ∷ y ∷ []) refl each;
  mean = λ S is D v value. subst (λ (p : Poly S). Mean S D new.formulas (x ∷ y ∷ []) p) (sym value)
      (y_at S D old new x y (adds_next (NumberNode 0 ∷ []) (NumberNode 1) old mid new (x ∷ []) y
      (one_adds (NumberNode 0) old mid x first) second));
}
  where
    each : AddsEach (NumberNode 0 ∷ NumberNode 1 ∷ []) old new (x ∷ y ∷ [])
    each = adds_next (NumberNode 0 ∷ []) (NumberNode 1) old mid new (x ∷ []) y
        (one_adds (NumberNode 0) old mid x first) second

one_flat : (S : SeriesRing) (D : ℕ) (v : Poly S) → HasNoPowerAbove 0 (truncated D (power v 0))
unfolding one_of
one_flat S D v = number_flat S D 1

one_is : (S : SeriesRing) (D : ℕ) (v : Poly S)
    → truncated D (monomial {R = ring S} 1 (y_key S.variables 0)) ≡ truncated D (power v 0)
unfolding one_of
one_is S D v = refl

pub power_none : (old mid new : GraphValue) (base : Expr) (slots : List NodeId) (id : NodeId)
    → Builds base old mid slots
    → AddsNode (NumberNode 1) mid new id → Builds (Power base 0) old new (id ∷ [])
power_none old mid new base slots id builds node = record {
  nodes = adds_same _ _ _ _ old new (id ∷ []) (sym (node_count-Power base 0)) degree
      (adds_both _ _ _ _ old mid new slots (id ∷ []) builds.nodes
      (slots_of_each 1 (NumberNode 1 ∷ []) mid new (id ∷ []) refl (one_adds (NumberNode 1) mid new id node)));
  mean = λ S is D v value.
      let whole = power_value S D base 0 v value in
      flat_mean S D (NumberNode 1) mid new id v node (subst (HasNoPowerAbove 0) (sym whole.2) (one_flat S D whole.0))
      (λ f p at. at ∙ one_is S D whole.0 ∙ sym whole.2);
}
  where
    degree : 1 ≡ suc (formal_degree (Power base 0))
    degree = let e = formal_degree-Power base 0 in omega (arith, e)
