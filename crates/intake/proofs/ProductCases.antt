-- The case of a product: what a call within needs, and what is built with one more factor and at the end.
use Rattle.std.proofs.Common.{◌≡◌, ℕ, zero, suc, ◌+◌, ◌-◌, ◌*◌, ◌<◌, ◌≤◌, Bool, true, false, List, [], ◌∷◌, ◌++◌}
use Rattle.std.proofs.Common.{length, get_or}
use Rattle.std.proofs.Common.{take, drop, refl, sym, ◌∙◌, ap, subst, arith, append_assoc}
use Rattle.std.specs.Prelude.{if◌then◌else◌, IsTrue}
use Rattle.std.proofs.lemmas.List.{take_more, take_all}
use Rattle.ps_model.specs.declared.expr.Expr.{Expr, Product}
use Rattle.ps_model.specs.declared.expr.Factor.{Factor}
use Rattle.ps_model.specs.Tree.{formal_degree, node_count, has_y, IsValidTree}
use Rattle.ps_model.proofs.TreeLists.{node_count-Product}
use Rattle.parts.specs.Rings.{modulus_of, variables_of}
use Rattle.parts.specs.Series.{series}
use Rattle.parts.specs.declared.rings.Ring.{Ring}
use Rattle.series_graph.specs.GraphValue.{GraphValue, size_of}
use Rattle.series_graph.specs.declared.node.NodeId.{NodeId}
use Rattle.intake.specs.Slots.{AreIn, AddsSlots, Builds, DividesWell, IsUnitAt}
use Rattle.intake.proofs.Built.{FactorsBuilt, ProductBuilt, MeansMultiplied, added_size, still_in, nodes-last}
use Rattle.intake.proofs.Built.{nodes-part}
use Rattle.intake.proofs.Built.{degree_added, added_whole, product_first, product_more, unit_at}
use Rattle.intake.proofs.ValueRows.{IsValidFactor, DividesBy, IsGoodDivisor, valid_factors, product_divides}
use Rattle.intake.proofs.ValueRows.{first_factor}
use Rattle.intake.proofs.ValueRows.{no_factors, flat_degree}

-- a list is cut at a place
pub cut_at : (items : List Factor) (i : ℕ) (d : Factor) → i < length items
    → items ≡ take i items ++ get_or items i d ∷ drop (suc i) items
cut_at [] i d lt = absurd (omega arith)
cut_at (x ∷ items) zero d lt = refl
cut_at (x ∷ items) (suc i) d lt = ap (λ (xs : List Factor). x ∷ xs) (cut_at items i d (omega arith))

pub product_ring : (old mid : GraphValue) (done : List Factor) (slots : List NodeId) → ProductBuilt old mid done slots
    → mid.ring ≡ old.ring
product_ring old mid [] slots built = ap (λ (g : GraphValue). g.ring) built.0
product_ring old mid (f ∷ fs) slots built = built.builds.nodes.ring_is

pub product_in : (old mid : GraphValue) (done : List Factor) (slots : List NodeId) → ProductBuilt old mid done slots
    → 0 < length slots → AreIn mid slots
product_in old mid [] slots built some =
    let none = ap (λ (l : List NodeId). length l) built.1 in
    absurd (omega (arith, none, some))
product_in old mid (f ∷ fs) slots built some = built.builds.nodes.within

-- there is room for the next factor
pub product_room : (names : ℕ) (old mid : GraphValue) (done : List Factor) (g : Factor) (rest : List Factor)
    (slots : List NodeId) → IsValidTree names (Product (done ++ g ∷ rest)) → ProductBuilt old mid done slots
    → size_of old + node_count (Product (done ++ g ∷ rest)) ≤ 65536 → size_of mid + node_count g.of ≤ 65536
product_room names old mid [] g rest slots tree built room =
    let size = ap size_of built.0 in
    let whole = node_count-Product (g ∷ rest) in
    omega (arith, size, whole, room)
product_room names old mid (f ∷ fs) g rest slots tree built room =
    let size = added_size _ _ old mid slots built.builds.nodes in
    let last = nodes-last f fs g (first_factor names f (fs ++ g ∷ rest) tree) in
    let part = nodes-part f (fs ++ g ∷ []) rest in
    let same = ap (λ (l : List Factor). node_count (Product (f ∷ l))) (append_assoc fs (g ∷ []) rest) in
    omega (arith, size, last, part, same, room)

-- and for its product with what is built
pub joined_room : (names : ℕ) (old mid now : GraphValue) (done : List Factor) (g : Factor) (rest : List Factor)
    (slots of : List NodeId) → IsValidTree names (Product (done ++ g ∷ rest)) → ProductBuilt old mid done slots
    → 0 < length slots → (g.divide ≡ true → has_y g.of ≡ false) → Builds g.of mid now of
    → size_of old + node_count (Product (done ++ g ∷ rest)) ≤ 65536
    → size_of now + (length slots + length of - 1) ≤ 65536
joined_room names old mid now [] g rest slots of tree built some flat builds room =
    let none = ap (λ (l : List NodeId). length l) built.1 in
    absurd (omega (arith, none, some))
joined_room names old mid now (f ∷ fs) g rest slots of tree built some flat builds room =
    let size = added_size _ _ old mid slots built.builds.nodes in
    let next = added_size _ _ mid now of builds.nodes in
    let last = nodes-last f fs g (first_factor names f (fs ++ g ∷ rest) tree) in
    let part = nodes-part f (fs ++ g ∷ []) rest in
    let same = ap (λ (l : List Factor). node_count (Product (f ∷ l))) (append_assoc fs (g ∷ []) rest) in
    let whole = added_whole g.divide (formal_degree g.of) (λ e. flat_degree g.of (flat e)) in
    omega (arith, size, next, last, part, same, whole, room, built.builds.nodes.slots, builds.nodes.slots)

pub product_begun : (names : ℕ) (old mid now : GraphValue) (done : List Factor) (g : Factor) (rest : List Factor)
    (slots of : List NodeId) → IsValidTree names (Product (done ++ g ∷ rest)) → IsValidTree names g.of
    → ProductBuilt old mid done slots → length slots ≡ 0 → Builds g.of mid now of
    → ProductBuilt old now (done ++ g ∷ []) of
product_begun names old mid now [] g rest slots of tree valid built none builds =
    product_first names g old now of valid (first_factor names g rest tree)
    (subst (λ (graph : GraphValue). Builds g.of graph now of) built.0 builds)
product_begun names old mid now (f ∷ fs) g rest slots of tree valid built none builds =
    absurd (omega (arith, none, built.builds.nodes.slots))

pub product_joined : (names : ℕ) (old mid now new : GraphValue) (done : List Factor) (g : Factor) (rest : List Factor)
    (slots of ids : List NodeId) → IsValidTree names (Product (done ++ g ∷ rest)) → IsValidTree names g.of
    → ProductBuilt old mid done slots → 0 < length slots → (g.divide ≡ true → has_y g.of ≡ false)
    → Builds g.of mid now of
    → AddsSlots (length slots + length of - 1) (length slots + length of - 1) now new ids
    → MeansMultiplied g.divide now new slots of ids → ProductBuilt old new (done ++ g ∷ []) ids
product_joined names old mid now new [] g rest slots of ids tree valid built some flat builds adds means =
    let none = ap (λ (l : List NodeId). length l) built.1 in
    absurd (omega (arith, none, some))
product_joined names old mid now new (f ∷ fs) g rest slots of ids tree valid built some flat builds adds means =
    product_more names old mid now new f fs g slots of ids (first_factor names f (fs ++ g ∷ rest) tree) valid flat built
    builds adds means

pub product_all : (names : ℕ) (old new : GraphValue) (items : List Factor) (slots : List NodeId)
    → IsValidTree names (Product items) → ProductBuilt old new items slots → Builds (Product items) old new slots
product_all names old new [] slots tree built = absurd (no_factors names tree)
product_all names old new (f ∷ fs) slots tree built = built.builds

-- at a place of the loop
module _ (old mid : GraphValue) (e : Expr) (items : List Factor) (i : ℕ) (slots : List NodeId) (is : e ≡ Product items)
    (built : ProductBuilt old mid (take i items) slots) (tree : IsValidTree (variables_of old.ring) e) where
  whole_tree : IsValidTree (variables_of old.ring) (Product items)
  whole_tree = subst (λ (e : Expr). IsValidTree (variables_of old.ring) e) is tree

  module _ (g : Factor) (lt : i < length items) (at : g ≡ get_or items i g) where
    cut : items ≡ take i items ++ g ∷ drop (suc i) items
    cut = cut_at items i g lt ∙ ap (λ (x : Factor). take i items ++ x ∷ drop (suc i) items) (sym at)

    cut_tree : IsValidTree (variables_of old.ring) (Product (take i items ++ g ∷ drop (suc i) items))
    cut_tree = subst (λ (l : List Factor). IsValidTree (variables_of old.ring) (Product l)) cut whole_tree

    own_tree : IsValidTree (variables_of old.ring) g.of
    own_tree = subst (λ (x : Factor). IsValidTree (variables_of old.ring) x.of) (sym at)
        (valid_factors (variables_of old.ring) items whole_tree i g lt)

    cut_room : size_of old + node_count e ≤ 65536
        → size_of old + node_count (Product (take i items ++ g ∷ drop (suc i) items)) ≤ 65536
    cut_room room = subst (λ (n : ℕ). size_of old + n ≤ 65536)
        (ap node_count (is ∙ ap (λ (l : List Factor). Product l) cut)) room

    pub factor_tree : IsValidTree (variables_of mid.ring) g.of
    factor_tree = subst (λ (R : Ring). IsValidTree (variables_of R) g.of)
        (sym (product_ring old mid (take i items) slots built)) own_tree

    pub factor_room : size_of old + node_count e ≤ 65536 → size_of mid + node_count g.of ≤ 65536
    factor_room room = product_room (variables_of old.ring) old mid (take i items) g (drop (suc i) items) slots cut_tree
        built (cut_room room)

    module _ (divides : DividesWell old.ring e) where
      by_factor : DividesWell old.ring g.of × (g.divide ≡ true → IsGoodDivisor (series old.ring) g.of)
      by_factor = subst (λ (x : Factor). DividesWell old.ring x.of
          × (x.divide ≡ true → IsGoodDivisor (series old.ring) x.of)) (sym at)
          (product_divides (series old.ring) items (subst (λ (e : Expr). DividesWell old.ring e) is divides) i g lt)

      pub factor_divides : DividesWell mid.ring g.of
      factor_divides = subst (λ (R : Ring). DividesWell R g.of)
          (sym (product_ring old mid (take i items) slots built)) by_factor.0

      flat : g.divide ≡ true → has_y g.of ≡ false
      flat e = (by_factor.1 e).without_y

      module _ (now : GraphValue) (of : List NodeId) (builds : Builds g.of mid now of) where
        ring_now : now.ring ≡ old.ring
        ring_now = builds.nodes.ring_is ∙ product_ring old mid (take i items) slots built

        pub factor_unit : (given : List NodeId) (id : NodeId) → given ≡ of → given ≡ id ∷ [] → IsTrue g.divide
            → IsUnitAt now.ring now.formulas id
        factor_unit given id same one by = unit_at (variables_of old.ring) g.of mid now of id own_tree
            (subst (λ (R : Ring). DividesWell R g.of) (sym ring_now) by_factor.0)
            (subst (λ (R : Ring). IsGoodDivisor (series R) g.of) (sym ring_now) (by_factor.1 by)) builds
            (sym same ∙ one)

        pub factor_series : IsTrue g.divide → length of ≡ 1
        factor_series by =
            let degree = flat_degree g.of (flat by) in
            omega (arith, degree, builds.nodes.slots)

        pub factors_room : 0 < length slots → size_of old + node_count e ≤ 65536
            → size_of now + (length slots + length of - 1) ≤ 65536
        factors_room some room = joined_room (variables_of old.ring) old mid now (take i items) g (drop (suc i) items)
            slots of cut_tree built some flat builds (cut_room room)

        next_is : take i items ++ g ∷ [] ≡ take (i + 1) items
        next_is = sym (take_more items i g lt ∙ ap (λ (x : Factor). take i items ++ x ∷ []) (sym at))

        pub begun : length slots ≡ 0 → ProductBuilt old now (take (i + 1) items) of
        begun none = subst (λ (l : List Factor). ProductBuilt old now l of) next_is
            (product_begun (variables_of old.ring) old mid now (take i items) g (drop (suc i) items) slots of cut_tree
            own_tree built none builds)

        pub joined : (new : GraphValue) (ids : List NodeId) → 0 < length slots
            → AddsSlots (length slots + length of - 1) (length slots + length of - 1) now new ids
            → MeansMultiplied g.divide now new slots of ids → ProductBuilt old new (take (i + 1) items) ids
        joined new ids some adds means = subst (λ (l : List Factor). ProductBuilt old new l ids) next_is
            (product_joined (variables_of old.ring) old mid now new (take i items) g (drop (suc i) items) slots of ids
            cut_tree own_tree built some flat builds adds means)

        pub joined_given : (new : GraphValue) (ids a b : List NodeId) → a ≡ slots → b ≡ of → 0 < length slots
            → AddsSlots (length a + length b - 1) (length a + length b - 1) now new ids
            → MeansMultiplied g.divide now new a b ids → ProductBuilt old new (take (i + 1) items) ids
        joined_given new ids a b same_a same_b some adds means = joined new ids some
            (subst (λ (p : List NodeId × List NodeId).
            AddsSlots (length p.0 + length p.1 - 1) (length p.0 + length p.1 - 1) now new ids)
            (λ l. (same_a l, same_b l)) adds)
            (subst (λ (p : List NodeId × List NodeId). MeansMultiplied g.divide now new p.0 p.1 ids)
            (λ l. (same_a l, same_b l)) means)

  pub product_built : length items ≤ i → Builds e old mid slots
  product_built past = subst (λ (e : Expr). Builds e old mid slots) (sym is)
      (product_all (variables_of old.ring) old mid items slots whole_tree
      (subst (λ (l : List Factor). ProductBuilt old mid l slots) (take_all i items past) built))
