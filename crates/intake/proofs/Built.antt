-- Nodes that are built for a tree, piece by piece.
--     IsAddendOf m formulas s a      a has the sign of the summand s modulo m, and the slots of its value
--     SumBuilt old new done addends count      the nodes of these summands are added, and count is one more than
--         their greatest degree
--     ProductBuilt old new done slots      the nodes of the product of these factors are added; none of no factor
use Rattle.std.proofs.Common.{◌≡◌, ℕ, zero, suc, ◌+◌, ◌-◌, ◌*◌, ◌<◌, ◌≤◌, max, Bool, true, false}
use Rattle.std.proofs.Common.{List, [], ◌∷◌, ◌++◌, length, get_or, append_assoc, length-append}
use Rattle.std.proofs.Common.{inl, inr, refl, sym, ◌∙◌, ap, subst, arith}
use Rattle.std.specs.Prelude.{if◌then◌else◌, MatchBool, slice_get}
use Rattle.std.specs.List.{All, AllZip}
use Rattle.std.proofs.lemmas.List.Elements.{All-nil, All-push, All-head, All-tail, All-weaker}
use Rattle.ps_model.specs.declared.expr.Expr.{Expr, Sum, Product, Power}
use Rattle.ps_model.specs.declared.expr.Summand.{Summand}
use Rattle.ps_model.specs.declared.expr.Factor.{Factor}
use Rattle.ps_model.specs.Bounds.{HasNoPowerAbove, HasNoDegreeAbove, IsUnit, ExactlyOne}
use Rattle.ps_model.specs.Notation.{zero as nought, constant_term, sum, negative, scaled, product, power, truncated}
use Rattle.ps_model.specs.Notation.{y_coefficient}
use Rattle.ps_model.specs.Polynomial.{negative as negative_of}
use Rattle.ps_model.specs.Prepared.{IsQuotient}
use Rattle.ps_model.specs.SeriesRing.{SeriesRing, ring, Poly}
use Rattle.ps_model.specs.Tree.{formal_degree, node_count, has_y, power_nodes, IsValidTree}
use Rattle.ps_model.specs.Value.{variable, IsValue}
use Rattle.ps_model.proofs.Images.{scaled_one}
use Rattle.ps_model.proofs.PowerBounds.{truncated-nothing, power_bound-more, power_bound-truncated, power_bound-product}
use Rattle.ps_model.proofs.PowerBounds.{power_bound-quotient}
use Rattle.ps_model.proofs.SlicesShifted.{scaled-zero}
use Rattle.ps_model.proofs.TreeLeads.{value_powers}
use Rattle.ps_model.proofs.TreeLists.{greatest_of, degree_of_all, nodes_of_all, nodes_after, nodes_from}
use Rattle.ps_model.proofs.TreeLists.{formal_degree-Sum, formal_degree-Product, formal_degree-Power}
use Rattle.ps_model.proofs.TreeLists.{node_count-Sum, node_count-Product, node_count-Power}
use Rattle.ps_model.proofs.TreeDivisions.{tree_value}
use Rattle.ps_model.proofs.TreeValues.{variable_flat, value_flat, value_within}
use Rattle.parts.specs.Rings.{modulus_of}
use Rattle.parts.specs.Series.{series}
use Rattle.parts.proofs.Polynomials.{modulus_is}
use Rattle.series_graph.specs.Formula.{place_of, Formula, Number, Combination}
use Rattle.series_graph.specs.GraphValue.{GraphValue, size_of, IsIdOf}
use Rattle.series_graph.specs.Meaning.{combination, IsMeaning, AreMeanings}
use Rattle.series_graph.specs.declared.node.NodeId.{NodeId}
use Rattle.intake.specs.Slots.{slot_at, Mean, Multiplies, AreIn, term_at, terms_of, sums_of, AddsEach, AddsSlots}
use Rattle.intake.specs.Slots.{Builds}
use Rattle.intake.specs.Slots.{IsUnitAt, DividesWell}
use Rattle.intake.specs.declared.slots.Addend.{Addend}
use Rattle.intake.proofs.SlotMeanings.{combination-append, combination-term, mean_kept}
use Rattle.intake.proofs.SlotPolynomials.{y_coefficient-sum, y_coefficient-scaled, y_coefficient-above}
use Rattle.intake.proofs.SlotPolynomials.{y_coefficient-own}
use Rattle.intake.proofs.SlotSteps.{length_both}
use Rattle.intake.proofs.SlotsAdded.{within_or_past, each_to-length, each_to-at, slot_past, added_meaning}
use Rattle.intake.proofs.SlotsAdded.{meanings_then}
use Rattle.intake.proofs.SlotsAdded.{slots_of_each}
use Rattle.intake.proofs.ValueRows.{sum_value-none, sum_value-more, IsStep, product_value-one, product_value-last}
use Rattle.intake.proofs.ValueRows.{power_value, IsGoodDivisor, flat_degree}

-- lists of nodes that are added one behind the other
pub added_size : (n count : ℕ) (old new : GraphValue) (ids : List NodeId) → AddsSlots n count old new ids
    → size_of new ≡ size_of old + n
added_size n count old new ids adds =
    let size = ap (λ (l : List Formula). length l) adds.formulas_are ∙ length_both old.formulas adds.added in
    omega (arith, size, adds.nodes)

pub still_in : (n count : ℕ) (old new : GraphValue) (ids slots : List NodeId) → AddsSlots n count old new ids
    → AreIn old slots → AreIn new slots
still_in n count old new ids slots adds within k d lt =
    let size = added_size n count old new ids adds in
    let here = within k d lt in
    omega (arith, size, here)

pub adds_both : (n k i j : ℕ) (old mid new : GraphValue) (first second : List NodeId) → AddsSlots n i old mid first
    → AddsSlots k j mid new second → AddsSlots (n + k) j old new second
adds_both n k i j old mid new first second a b = record {
  ring_is = b.ring_is ∙ a.ring_is;
  added = a.added ++ b.added;
  formulas_are = b.formulas_are ∙ ap (λ (fs : List Formula). fs ++ b.added) a.formulas_are
      ∙ append_assoc old.formulas a.added b.added;
  nodes = length_both a.added b.added ∙ (λ l. a.nodes l + b.nodes l);
  slots = b.slots;
  within = b.within;
}

pub adds_same : (n k i j : ℕ) (old new : GraphValue) (ids : List NodeId) → n ≡ k → i ≡ j → AddsSlots n i old new ids
    → AddsSlots k j old new ids
adds_same n k i j old new ids e f a = record {
  ring_is = a.ring_is;
  added = a.added;
  formulas_are = a.formulas_are;
  nodes = a.nodes ∙ e;
  slots = a.slots ∙ f;
  within = a.within;
}

pub mean_then : (S : SeriesRing) (D n count : ℕ) (old new : GraphValue) (ids slots : List NodeId) (v : Poly S)
    → AddsSlots n count old new ids → Mean S D old.formulas slots v → Mean S D new.formulas slots v
mean_then S D n count old new ids slots v adds mean = subst (λ (fs : List Formula). Mean S D fs slots v)
    (sym adds.formulas_are) (mean_kept S D old.formulas adds.added slots v mean)

-- sums
pub record IsAddendOf (m : ℕ) (formulas : List Formula) (s : Summand) (a : Addend) : Type 0 where
  pub sign_is : a.sign ≡ (if s.minus then m - 1 else 1)
  pub mean : (S : SeriesRing) → S.modulus ≡ m → (D : ℕ) (v : Poly S) → IsValue S D s.of v
      → Mean S D formulas a.slots.items v

pub record SumBuilt (old new : GraphValue) (done : List Summand) (addends : List Addend) (count : ℕ) : Type 0 where
  pub ring_is : new.ring ≡ old.ring
  pub added : List Formula
  pub formulas_are : new.formulas ≡ old.formulas ++ added
  pub nodes : length added ≡ nodes_of_all done
  pub addends_are : AllZip (IsAddendOf (modulus_of old.ring) new.formulas) done addends
  pub within : All (λ a. AreIn new a.slots.items) addends
  pub signs : All (λ a. a.sign < modulus_of old.ring) addends
  pub count_is : count ≡ suc (greatest_of done)

greatest_of-last : (ss : List Summand) (s : Summand) → greatest_of (ss ++ s ∷ []) ≡ max (greatest_of ss)
    (formal_degree s.of)
greatest_of-last [] s = omega arith
greatest_of-last (t ∷ ss) s =
    let h = greatest_of-last ss s in
    omega (arith, h)

pub nodes_of_all-append : (ss ts : List Summand) → nodes_of_all (ss ++ ts) ≡ nodes_of_all ss + nodes_of_all ts
nodes_of_all-append [] ts = omega arith
nodes_of_all-append (s ∷ ss) ts =
    let h = nodes_of_all-append ss ts in
    omega (arith, h)

addends_kept : (m : ℕ) (xs ys zs : List Formula) (ss : List Summand) (addends : List Addend) → ys ≡ xs ++ zs
    → AllZip (IsAddendOf m xs) ss addends → AllZip (IsAddendOf m ys) ss addends
addends_kept m xs ys zs [] [] e zip = tt
addends_kept m xs ys zs [] (a ∷ addends) e zip = absurd zip
addends_kept m xs ys zs (s ∷ ss) [] e zip = absurd zip
addends_kept m xs ys zs (s ∷ ss) (a ∷ addends) e zip = (
  record {
    sign_is = zip.0.sign_is;
    mean = λ S is D v at. subst (λ (fs : List Formula). Mean S D fs a.slots.items v) (sym e)
        (mean_kept S D xs zs a.slots.items v (zip.0.mean S is D v at));
  },
  addends_kept m xs ys zs ss addends e zip.1,
)

addends_push : (m : ℕ) (formulas : List Formula) (ss : List Summand) (addends : List Addend) (s : Summand) (a : Addend)
    → AllZip (IsAddendOf m formulas) ss addends → IsAddendOf m formulas s a
    → AllZip (IsAddendOf m formulas) (ss ++ s ∷ []) (addends ++ a ∷ [])
addends_push m formulas [] [] s a zip one = (one, tt)
addends_push m formulas [] (b ∷ addends) s a zip one = absurd zip
addends_push m formulas (t ∷ ss) [] s a zip one = absurd zip
addends_push m formulas (t ∷ ss) (b ∷ addends) s a zip one =
    (zip.0, addends_push m formulas ss addends s a zip.1 one)

pub sum_none : (graph : GraphValue) → SumBuilt graph graph [] [] 1
sum_none graph = record {
  ring_is = refl;
  added = [];
  formulas_are = none graph.formulas;
  nodes = refl;
  addends_are = tt;
  within = All-nil (λ (a : Addend). AreIn graph a.slots.items);
  signs = All-nil (λ (a : Addend). a.sign < modulus_of graph.ring);
  count_is = refl;
}
  where
    none : (xs : List Formula) → xs ≡ xs ++ []
    none [] = refl
    none (x ∷ xs) = ap (λ ys. x ∷ ys) (none xs)

pub sum_more : (old mid new : GraphValue) (done : List Summand) (addends : List Addend) (count : ℕ) (s : Summand)
    (a : Addend) → SumBuilt old mid done addends count → Builds s.of mid new a.slots.items
    → a.sign ≡ (if s.minus then modulus_of old.ring - 1 else 1) → a.sign < modulus_of old.ring
    → SumBuilt old new (done ++ s ∷ []) (addends ++ a ∷ []) (max count (length a.slots.items))
sum_more old mid new done addends count s a built builds sign small = record {
  ring_is = builds.nodes.ring_is ∙ built.ring_is;
  added = built.added ++ builds.nodes.added;
  formulas_are = builds.nodes.formulas_are ∙ ap (λ (fs : List Formula). fs ++ builds.nodes.added) built.formulas_are
      ∙ append_assoc old.formulas built.added builds.nodes.added;
  nodes = (
      let both = length_both built.added builds.nodes.added in
      let all = nodes_of_all-append done (s ∷ []) in
      omega (arith, both, all, built.nodes, builds.nodes.nodes));
  addends_are = addends_push (modulus_of old.ring) new.formulas done addends s a
      (addends_kept (modulus_of old.ring) mid.formulas new.formulas builds.nodes.added done addends
      builds.nodes.formulas_are built.addends_are)
      (record { sign_is = sign; mean = λ S is D v at. builds.mean S (is ∙ ap modulus_of (sym built.ring_is)) D v at });
  within = All-push (λ (x : Addend). AreIn new x.slots.items) addends a
      (All-weaker (λ (x : Addend). AreIn mid x.slots.items) (λ (x : Addend). AreIn new x.slots.items)
      (λ x within. still_in _ _ mid new a.slots.items x.slots.items builds.nodes within) addends built.within)
      builds.nodes.within;
  signs = All-push (λ (x : Addend). x.sign < modulus_of old.ring) addends a built.signs small;
  count_is = (
      let last = greatest_of-last done s in
      omega (arith, last, built.count_is, builds.nodes.slots));
}

module _ (S : SeriesRing) (D : ℕ) where
  signed_is : (minus : Bool) (c : ℕ) (v : Poly S) → c ≡ (if minus then S.modulus - 1 else 1)
      → scaled c v ≡ (if minus then negative v else v)
  unfolding negative_of
  signed_is true c v e = ap (λ c. scaled c v) e
  signed_is false c v e = ap (λ c. scaled c v) e ∙ scaled_one (ring S) v

  nothing : (j : ℕ) → y_coefficient j (nought {R = ring S}) ≡ nought
  nothing j = ap (y_coefficient j) (sym (scaled-zero (ring S) 0 nought refl))
      ∙ y_coefficient-scaled (ring S) j 0 nought ∙ scaled-zero (ring S) 0 _ refl

  sum_at : (m : ℕ) (formulas : List Formula) (f : ℕ → Poly S) → S.modulus ≡ m → AreMeanings S D formulas f
      → (ss : List Summand) (addends : List Addend) (p : Poly S) (j : ℕ) → AllZip (IsAddendOf m formulas) ss addends
      → IsValue S D (Sum ss) p → combination S f (terms_of addends j) ≡ y_coefficient j p
  sum_at m formulas f is are [] [] p j zip at = sym (nothing j)
      ∙ ap (y_coefficient j) (sym (sum_value-none S D p at))
  sum_at m formulas f is are [] (a ∷ addends) p j zip at = absurd zip
  sum_at m formulas f is are (s ∷ ss) [] p j zip at = absurd zip
  sum_at m formulas f is are (s ∷ ss) (a ∷ addends) p j zip at =
      let parts = sum_value-more S D s ss p at in
      combination-append S f (term_at a.sign (slice_get a.slots.items j)) (terms_of addends j)
      ∙ (λ i. sum (first parts.0 parts.2 i) (sum_at m formulas f is are ss addends parts.1 j zip.1 parts.3 i))
      ∙ sym (y_coefficient-sum (ring S) j _ parts.1) ∙ ap (y_coefficient j) (sym parts.4)
    where
      first : (v : Poly S) → IsValue S D s.of v → combination S f (term_at a.sign (slice_get a.slots.items j))
          ≡ y_coefficient j (if s.minus then negative v else v)
      first v value = combination-term S f a.sign (slice_get a.slots.items j)
          ∙ ap (scaled a.sign) (zip.0.mean S is D v value f are j)
          ∙ sym (y_coefficient-scaled (ring S) j a.sign v)
          ∙ ap (y_coefficient j) (signed_is s.minus a.sign v
          (zip.0.sign_is ∙ ap (λ m. if s.minus then m - 1 else 1) (sym is)))

pub sum_all : (names : ℕ) (old mid new : GraphValue) (ss : List Summand) (addends : List Addend) (count : ℕ)
    (ids : List NodeId) → IsValidTree names (Sum ss) → SumBuilt old mid ss addends count
    → AddsEach (sums_of addends count) mid new ids → Builds (Sum ss) old new ids
sum_all names old mid new ss addends count ids valid built each = record {
  nodes = record {
    ring_is = each.ring_is ∙ built.ring_is;
    added = built.added ++ sums_of addends count;
    formulas_are = each.formulas_are ∙ ap (λ (fs : List Formula). fs ++ sums_of addends count) built.formulas_are
        ∙ append_assoc old.formulas built.added (sums_of addends count);
    nodes = (
        let both = length_both built.added (sums_of addends count) in
        let long = each_to-length count (λ j. Combination (terms_of addends j)) in
        let all = node_count-Sum ss in
        let degree = formal_degree-Sum ss in
        omega (arith, both, long, all, degree, built.nodes, built.count_is));
    slots = (
        let long = each_to-length count (λ j. Combination (terms_of addends j)) in
        let degree = formal_degree-Sum ss in
        omega (arith, long, degree, each.count, built.count_is));
    within = (slots_of_each (length (sums_of addends count)) (sums_of addends count) mid new ids refl each).within;
  };
  mean = λ S is D v value f are j. elim (within_or_past j count) [
    | inl lt ↦ subst (λ (formula : Formula). IsMeaning S D f formula (slot_at S f ids j))
        (each_to-at count (λ j. Combination (terms_of addends j)) j (Number 0) lt)
        (added_meaning S D (sums_of addends count) mid new ids each f are j
        (omega (arith, lt, each_to-length count (λ j. Combination (terms_of addends j)))))
        ∙ sum_at S D (modulus_of old.ring) mid.formulas f is
        (meanings_then S D (sums_of addends count) mid new ids each f are) ss addends v j built.addends_are value
    | inr past ↦ slot_past S D f ids j
        (omega (arith, past, each.count, each_to-length count (λ j. Combination (terms_of addends j))))
        ∙ sym (y_coefficient-above (ring S) (formal_degree (Sum ss)) j v
        (value_powers S (variable S) (variable_flat S) D names (Sum ss) v valid value)
        (omega (arith, past, built.count_is, formal_degree-Sum ss)))
  ];
}

-- products
abbrev pub degree_added : Factor → ℕ
degree_added g = if g.divide then 0 else formal_degree g.of

pub record FactorsBuilt (old new : GraphValue) (done : List Factor) (slots : List NodeId) : Type 0 where
  pub builds : Builds (Product done) old new slots
  pub bound : (S : SeriesRing) (D : ℕ) (p : Poly S) → IsValue S D (Product done) p
      → HasNoPowerAbove (formal_degree (Product done)) p

abbrev pub ProductBuilt : GraphValue → GraphValue → List Factor → List NodeId → Type 0
ProductBuilt old new [] slots = (new ≡ old) × (slots ≡ [])
ProductBuilt old new (f ∷ fs) slots = FactorsBuilt old new (f ∷ fs) slots

degree_of_all-append : (fs gs : List Factor) → degree_of_all (fs ++ gs) ≡ degree_of_all fs + degree_of_all gs
degree_of_all-append [] gs = omega arith
degree_of_all-append (f ∷ fs) gs =
    let h = degree_of_all-append fs gs in
    omega (arith, h)

nodes_after-append : (r : ℕ) (fs gs : List Factor) → nodes_after r (fs ++ gs)
    ≡ nodes_after r fs + nodes_after (r + degree_of_all fs) gs
nodes_after-append r [] gs = ap (λ k. nodes_after k gs) (none r) ∙ zero_plus (nodes_after (r + 0) gs)
  where
    none : (r : ℕ) → r ≡ r + 0
    none r = omega arith

    zero_plus : (n : ℕ) → n ≡ 0 + n
    zero_plus n = omega arith
nodes_after-append r (f ∷ fs) gs = ap (λ k. node_count f.of + (r + degree_added f + 1) + k)
    (nodes_after-append (r + degree_added f) fs gs ∙ ap (λ k. nodes_after (r + degree_added f) fs + nodes_after k gs)
    (regroup r (degree_added f) (degree_of_all fs)))
    ∙ regroup_sum (node_count f.of + (r + degree_added f + 1)) _ _
  where
    regroup : (a b c : ℕ) → a + b + c ≡ a + (b + c)
    regroup a b c = omega arith

    regroup_sum : (a b c : ℕ) → a + (b + c) ≡ a + b + c
    regroup_sum a b c = omega arith

-- the nodes of one more factor
pub nodes-last : (f : Factor) (fs : List Factor) (g : Factor) → f.divide ≡ false
    → node_count (Product ((f ∷ fs) ++ g ∷ [])) ≡ node_count (Product (f ∷ fs))
    + (node_count g.of + (formal_degree (Product (f ∷ fs)) + degree_added g + 1))
nodes-last f fs g first =
    let whole = node_count-Product ((f ∷ fs) ++ g ∷ []) in
    let part = node_count-Product (f ∷ fs) in
    let degree = formal_degree-Product (f ∷ fs) in
    let kept : degree_added f ≡ formal_degree f.of = ap (λ (b : Bool). if b then 0 else formal_degree f.of) first in
    let split = nodes_after-append (formal_degree f.of) fs (g ∷ []) in
    omega (arith, whole, part, degree, kept, split)

pub degree-last : (f : Factor) (fs : List Factor) (g : Factor)
    → formal_degree (Product ((f ∷ fs) ++ g ∷ [])) ≡ formal_degree (Product (f ∷ fs)) + degree_added g
degree-last f fs g =
    let whole = formal_degree-Product ((f ∷ fs) ++ g ∷ []) in
    let part = formal_degree-Product (f ∷ fs) in
    let split = degree_of_all-append fs (g ∷ []) in
    omega (arith, whole, part, split)

-- a part of the factors has no more nodes than all
pub nodes-part : (f : Factor) (fs gs : List Factor)
    → node_count (Product (f ∷ fs)) ≤ node_count (Product ((f ∷ fs) ++ gs))
nodes-part f fs gs =
    let whole = node_count-Product ((f ∷ fs) ++ gs) in
    let part = node_count-Product (f ∷ fs) in
    let split = nodes_after-append (formal_degree f.of) fs gs in
    omega (arith, whole, part, split)

pub product_first : (names : ℕ) (f : Factor) (old new : GraphValue) (ids : List NodeId) → IsValidTree names f.of
    → f.divide ≡ false → Builds f.of old new ids → FactorsBuilt old new (f ∷ []) ids
product_first names f old new ids valid kept builds = record {
  builds = record {
    nodes = adds_same _ _ _ _ old new ids nodes (ap suc degree) builds.nodes;
    mean = λ S is D v value. builds.mean S is D v (product_value-one S D f v value);
  };
  bound = λ S D p value. subst (λ (K : ℕ). HasNoPowerAbove K p) degree
      (value_powers S (variable S) (variable_flat S) D names f.of p valid (product_value-one S D f p value));
}
  where
    nodes : node_count f.of ≡ node_count (Product (f ∷ []))
    nodes = let whole = node_count-Product (f ∷ []) in omega (arith, whole)

    degree : formal_degree f.of ≡ formal_degree (Product (f ∷ []))
    degree =
        let whole = formal_degree-Product (f ∷ []) in
        let first : degree_added f ≡ formal_degree f.of = ap (λ (b : Bool). if b then 0 else formal_degree f.of) kept in
        omega (arith, whole, first)

module _ (S : SeriesRing) (D : ℕ) where
  step_bound : (flat : Type 0) (divide : Bool) (K d : ℕ) (first v next : Poly S) → HasNoPowerAbove K first
      → HasNoPowerAbove d v → (divide ≡ true → HasNoPowerAbove 0 v)
      → MatchBool divide (flat × IsUnit S.modulus (constant_term v) × IsQuotient D first v next)
      (next ≡ truncated D (product first v)) → HasNoPowerAbove (K + (if divide then 0 else d)) next
  step_bound flat true K d first v next h k none step = power_bound-more (ring S) K (K + 0) next (omega arith)
      (power_bound-quotient (ring S) D K first v next (none refl) step.1 h step.2)
  step_bound flat false K d first v next h k none step = subst (HasNoPowerAbove (K + d)) (sym step)
      (power_bound-truncated (ring S) D (K + d) (product first v) (power_bound-product (ring S) K d first v h k))

  step_multiplies : (flat : Type 0) (divide : Bool) (first v next : Poly S) → (divide ≡ true → HasNoPowerAbove 0 v)
      → MatchBool divide (flat × IsUnit S.modulus (constant_term v) × IsQuotient D first v next)
      (next ≡ truncated D (product first v)) → Multiplies S D divide first v next
  step_multiplies flat true first v next none step = (none refl, step.1, step.2)
  step_multiplies flat false first v next none step = step

-- what a product's or a quotient's slots mean
abbrev pub MeansMultiplied : Bool → GraphValue → GraphValue → List NodeId → List NodeId → List NodeId → Type 0
MeansMultiplied divide old new a b ids = (S : SeriesRing) (D : ℕ) (u v w : Poly S) → HasNoPowerAbove (length a - 1) u
    → HasNoPowerAbove (length b - 1) v → Mean S D old.formulas a u → Mean S D old.formulas b v
    → Multiplies S D divide u v w → Mean S D new.formulas ids w

pub added_whole : (divide : Bool) (d : ℕ) → (divide ≡ true → d ≡ 0) → (if divide then 0 else d) ≡ d
added_whole true d h = sym (h refl)
added_whole false d h = refl

pub product_more : (names : ℕ) (old mid now new : GraphValue) (f : Factor) (fs : List Factor) (g : Factor)
    (slots of ids : List NodeId) → f.divide ≡ false → IsValidTree names g.of → (g.divide ≡ true → has_y g.of ≡ false)
    → FactorsBuilt old mid (f ∷ fs) slots → Builds g.of mid now of
    → AddsSlots (length slots + length of - 1) (length slots + length of - 1) now new ids
    → MeansMultiplied g.divide now new slots of ids → FactorsBuilt old new ((f ∷ fs) ++ g ∷ []) ids
product_more names old mid now new f fs g slots of ids first valid flat built builds adds means = record {
  builds = record {
    nodes = adds_same _ _ _ _ old new ids nodes count (adds_both _ _ _ _ old mid new slots ids built.builds.nodes
        (adds_both _ _ _ _ mid now new of ids builds.nodes adds));
    mean = λ S is D v value.
        let last = product_value-last S D f fs g v value in
        means S D last.0 last.2.value v
        (subst (λ (K : ℕ). HasNoPowerAbove K last.0) before (built.bound S D last.0 last.1))
        (subst (λ (K : ℕ). HasNoPowerAbove K last.2.value) (own S D last.2.value)
        (value_powers S (variable S) (variable_flat S) D names g.of last.2.value valid last.2.is_value))
        (mean_then S D _ _ mid now of slots last.0 builds.nodes (built.builds.mean S is D last.0 last.1))
        (builds.mean S (is ∙ ap modulus_of (sym built.builds.nodes.ring_is)) D last.2.value last.2.is_value)
        (step_multiplies S D (has_y g.of ≡ false) g.divide last.0 last.2.value v
        (λ e. value_flat S (variable S) (variable_flat S) D g.of last.2.value (flat e) last.2.is_value) last.2.step);
  };
  bound = λ S D p value.
      let last = product_value-last S D f fs g p value in
      subst (λ (K : ℕ). HasNoPowerAbove K p) (sym (degree-last f fs g))
      (step_bound S D (has_y g.of ≡ false) g.divide (formal_degree (Product (f ∷ fs))) (formal_degree g.of)
      last.0 last.2.value p (built.bound S D last.0 last.1)
      (value_powers S (variable S) (variable_flat S) D names g.of last.2.value valid last.2.is_value)
      (λ e. value_flat S (variable S) (variable_flat S) D g.of last.2.value (flat e) last.2.is_value) last.2.step);
}
  where
    nodes : node_count (Product (f ∷ fs)) + (node_count g.of + (length slots + length of - 1))
        ≡ node_count (Product ((f ∷ fs) ++ g ∷ []))
    nodes =
        let last = nodes-last f fs g first in
        let whole = added_whole g.divide (formal_degree g.of) (λ e. flat_degree g.of (flat e)) in
        omega (arith, last, whole, built.builds.nodes.slots, builds.nodes.slots)

    count : length slots + length of - 1 ≡ suc (formal_degree (Product ((f ∷ fs) ++ g ∷ [])))
    count =
        let last = degree-last f fs g in
        let whole = added_whole g.divide (formal_degree g.of) (λ e. flat_degree g.of (flat e)) in
        omega (arith, last, whole, built.builds.nodes.slots, builds.nodes.slots)

    before : formal_degree (Product (f ∷ fs)) ≡ length slots - 1
    before = omega (arith, built.builds.nodes.slots)

    own : (S : SeriesRing) (D : ℕ) (v : Poly S) → formal_degree g.of ≡ length of - 1
    own S D v = omega (arith, builds.nodes.slots)

-- a divisor's slot means a unit
pub unit_at : (names : ℕ) (e : Expr) (old new : GraphValue) (ids : List NodeId) (id : NodeId) → IsValidTree names e
    → DividesWell new.ring e → IsGoodDivisor (series new.ring) e → Builds e old new ids → ids ≡ id ∷ []
    → IsUnitAt new.ring new.formulas id
unit_at names e old new ids id valid divides good builds one f are =
    subst (λ (m : ℕ). IsUnit m (constant_term (f (place_of id)))) (modulus_is new.ring)
    (subst (λ (p : Poly (series new.ring)). IsUnit (series new.ring).modulus (constant_term p)) (sym means)
    (good.unit value.one_value value.meets))
  where
    value : ExactlyOne (IsValue (series new.ring) 0 e)
    value = tree_value (series new.ring) (variable (series new.ring)) names 0 e valid divides

    means : f (place_of id) ≡ (tree_value (series new.ring) (variable
        (series new.ring)) names 0 e valid divides).one_value
    means = ap (λ (l : List NodeId). slot_at (series new.ring) f l 0) (sym one)
        ∙ builds.mean (series new.ring) (modulus_is new.ring ∙ ap modulus_of builds.nodes.ring_is) 0 _
        (tree_value (series new.ring) (variable (series new.ring)) names 0 e valid divides).meets f are 0
        ∙ y_coefficient-own (ring (series new.ring)) _ (good.no_power 0 _
        (tree_value (series new.ring) (variable (series new.ring)) names 0 e valid divides).meets)

-- powers
abbrev pub MeansPower : ℕ → GraphValue → GraphValue → List NodeId → List NodeId → Type 0
MeansPower e old new base ids = (S : SeriesRing) (D : ℕ) (v : Poly S) → HasNoPowerAbove (length base - 1) v
    → HasNoDegreeAbove D v → Mean S D old.formulas base v → Mean S D new.formulas ids (truncated D (power v e))

pub power_built : (names : ℕ) (old mid new : GraphValue) (base : Expr) (e : ℕ) (slots ids : List NodeId)
    → IsValidTree names base → Builds base old mid slots
    → AddsSlots (power_nodes (length slots - 1) (suc e)) (suc (suc e * (length slots - 1))) mid new ids
    → MeansPower (suc e) mid new slots ids → Builds (Power base (suc e)) old new ids
power_built names old mid new base e slots ids valid builds adds means = record {
  nodes = adds_same _ _ _ _ old new ids nodes degree (adds_both _ _ _ _ old mid new slots ids builds.nodes adds);
  mean = λ S is D v value.
      let whole = power_value S D base (suc e) v value in
      subst (λ (p : Poly S). Mean S D new.formulas ids p) (sym whole.2) (means S D whole.0
      (subst (λ (K : ℕ). HasNoPowerAbove K whole.0) one_less
      (value_powers S (variable S) (variable_flat S) D names base whole.0 valid whole.1))
      (value_within S (variable S) D base whole.0 whole.1) (builds.mean S is D whole.0 whole.1));
}
  where
    one_less : formal_degree base ≡ length slots - 1
    one_less = omega (arith, builds.nodes.slots)

    nodes : node_count base + power_nodes (length slots - 1) (suc e) ≡ node_count (Power base (suc e))
    nodes = ap (λ (d : ℕ). node_count base + power_nodes d (suc e)) (sym one_less) ∙ sym (node_count-Power base (suc e))

    degree : suc (suc e * (length slots - 1)) ≡ suc (formal_degree (Power base (suc e)))
    degree = ap (λ (d : ℕ). suc (suc e * d)) (sym one_less) ∙ ap suc (sym (formal_degree-Power base (suc e)))
