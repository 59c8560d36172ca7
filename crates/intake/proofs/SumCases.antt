-- The cases of building a tree: what a call within needs, and what is built at the end.
use Rattle.std.proofs.Common.{◌≡◌, ℕ, zero, suc, ◌+◌, ◌-◌, ◌*◌, ◌%◌, ◌<◌, ◌≤◌, Bool, true, false, List, [], ◌∷◌, ◌++◌}
use Rattle.std.proofs.Common.{length, get_or, take, max}
use Rattle.std.proofs.Common.{Result, Ok, Err, IfOk, refl, sym, ◌∙◌, ap, subst, arith}
use Rattle.std.proofs.Math.Nat.{mod-eq_of_lt}
use Rattle.std.proofs.lemmas.List.{take_more, take_all}
use Rattle.std.specs.Prelude.{if◌then◌else◌}
use Rattle.std.specs.List.{All}
use Rattle.ps_model.specs.declared.expr.Expr.{Expr, Number, Name, Sum, Product, Power}
use Rattle.ps_model.specs.declared.expr.Summand.{Summand}
use Rattle.ps_model.specs.Tree.{formal_degree, node_count, nodes_of_power, power_nodes, IsValidTree}
use Rattle.ps_model.proofs.TreeLists.{greatest_of, nodes_of_all, formal_degree-Sum, node_count-Sum, node_count-Power}
use Rattle.parts.specs.Rings.{modulus_of, variables_of}
use Rattle.parts.specs.Series.{series}
use Rattle.parts.specs.declared.rings.Ring.{Ring}
use Rattle.series_graph.specs.Calls.{AddsNode}
use Rattle.series_graph.specs.Formula.{Formula, Number as NumberNode, Variable}
use Rattle.series_graph.specs.GraphValue.{GraphValue, size_of}
use Rattle.series_graph.specs.declared.error.GraphError.{GraphError}
use Rattle.series_graph.specs.declared.node.NodeId.{NodeId}
use Rattle.intake.specs.Slots.{AreIn, IsFlatSlot, AddsEach, AddsSlots, Builds, DividesWell, sums_of}
use Rattle.intake.specs.declared.slots.Addend.{Addend}
use Rattle.intake.proofs.Built.{SumBuilt, sum_more, sum_all, added_size, power_built, MeansPower}
use Rattle.intake.proofs.Leaves.{number_built, name_built, power_none}
use Rattle.intake.proofs.SlotSteps.{length_both, answered}
use Rattle.intake.proofs.ValueRows.{IsValidSummand, DividesIn, valid_summands, sum_divides, valid_power, power_divides}

-- leaves
pub number_at : (e : Expr) (old new : GraphValue) (ids : List NodeId) (r : Result NodeId GraphError) (c n m : ℕ)
    → e ≡ Number c → n ≡ c % m → m ≡ modulus_of old.ring → IfOk r (AddsNode (NumberNode n) old new) → IsFlatSlot r ids
    → Builds e old new ids
number_at e old new ids r c n m is at same ok (id, made, one) = subst (λ (e : Expr). Builds e old new ids) (sym is)
    (subst (λ (l : List NodeId). Builds (Number c) old new l) (sym one) (number_built old new id c n
    (at ∙ ap (λ k. c % k) same) (answered (AddsNode (NumberNode n) old new) r id ok made)))

pub name_at : (e : Expr) (old new : GraphValue) (ids : List NodeId) (r : Result NodeId GraphError) (i : ℕ)
    → e ≡ Name i → IfOk r (AddsNode (Variable i) old new) → IsFlatSlot r ids → Builds e old new ids
name_at e old new ids r i is ok (id, made, one) = subst (λ (e : Expr). Builds e old new ids) (sym is)
    (subst (λ (l : List NodeId). Builds (Name i) old new l) (sym one) (name_built old new id i
    (answered (AddsNode (Variable i) old new) r id ok made)))

-- sums
module _ (old mid : GraphValue) (e : Expr) (items : List Summand) (i : ℕ) (addends : List Addend) (count : ℕ)
    (is : e ≡ Sum items) (built : SumBuilt old mid (take i items) addends count)
    (tree : IsValidTree (variables_of old.ring) e) where
  module _ (s : Summand) (lt : i < length items) (at : s ≡ get_or items i s) where
    pub summand_tree : IsValidTree (variables_of mid.ring) s.of
    summand_tree = subst (λ (R : Ring). IsValidTree (variables_of R) s.of) (sym built.ring_is)
        (subst (λ (x : Summand). IsValidTree (variables_of old.ring) x.of) (sym at)
        (valid_summands (variables_of old.ring) items
        (subst (λ (e : Expr). IsValidTree (variables_of old.ring) e) is tree) i s lt))

    pub summand_divides : DividesWell old.ring e → DividesWell mid.ring s.of
    summand_divides divides = subst (λ (R : Ring). DividesWell R s.of) (sym built.ring_is)
        (subst (λ (x : Summand). DividesWell old.ring x.of) (sym at)
        (sum_divides (series old.ring) items (subst (λ (e : Expr). DividesWell old.ring e) is divides) i s lt))

    pub summand_room : size_of old + node_count e ≤ 65536 → size_of mid + node_count s.of ≤ 65536
    summand_room room =
        let size = ap (λ (l : List Formula). length l) built.formulas_are ∙ length_both old.formulas built.added in
        let whole = ap node_count is ∙ node_count-Sum items in
        let part = up_to items i in
        let here = ap (λ (x : Summand). node_count x.of) at in
        omega (arith, size, whole, part lt, here, built.nodes)
      where
        up_to : (items : List Summand) (i : ℕ) → i < length items
            → nodes_of_all (take i items) + node_count (get_or items i s).of ≤ nodes_of_all items
        up_to [] i lt = absurd (omega arith)
        up_to (x ∷ items) zero lt = omega arith
        up_to (x ∷ items) (suc i) lt = let h = up_to items i (omega arith) in omega (arith, h)

    pub summand_built : (new : GraphValue) (more : List Addend) (a : Addend) (next : ℕ)
        → Builds s.of mid new a.slots.items → a.sign ≡ (if s.minus then modulus_of old.ring - 1 else 1)
        → a.sign < modulus_of old.ring → more ≡ addends ++ a ∷ []
        → next ≡ max count (length a.slots.items) → SumBuilt old new (take (i + 1) items) more next
    summand_built new more a next builds sign small push most =
        subst (λ (l : List Addend). SumBuilt old new (take (i + 1) items) l next) (sym push)
        (subst (λ (n : ℕ). SumBuilt old new (take (i + 1) items) (addends ++ a ∷ []) n) (sym most)
        (subst (λ (l : List Summand). SumBuilt old new l (addends ++ a ∷ []) (max count (length a.slots.items)))
        (sym (take_more items i s lt ∙ ap (λ (x : Summand). take i items ++ x ∷ []) (sym at)))
        (sum_more old mid new (take i items) addends count s a built builds sign small)))

  module _ (past : length items ≤ i) where
    whole_built : SumBuilt old mid items addends count
    whole_built = subst (λ (l : List Summand). SumBuilt old mid l addends count) (take_all i items past) built

    pub sums_room : size_of old + node_count e ≤ 65536 → size_of mid + count ≤ 65536
    sums_room room =
        let size = ap (λ (l : List Formula). length l) whole_built.formulas_are
        ∙ length_both old.formulas whole_built.added in
        let whole = ap node_count is ∙ node_count-Sum items in
        let degree = formal_degree-Sum items in
        omega (arith, size, whole, degree, whole_built.nodes, whole_built.count_is)

    pub sum_built : (new : GraphValue) (given : List Addend) (ids : List NodeId) → given ≡ addends
        → AddsEach (sums_of given count) mid new ids → Builds e old new ids
    sum_built new given ids same each = subst (λ (e : Expr). Builds e old new ids) (sym is)
        (sum_all (variables_of old.ring) old mid new items addends count ids
        (subst (λ (e : Expr). IsValidTree (variables_of old.ring) e) is tree) whole_built
        (subst (λ (l : List Addend). AddsEach (sums_of l count) mid new ids) same each))

pub sign_minus : (minus : Bool) (sign n m k : ℕ) → minus ≡ true → sign ≡ n → n ≡ (m - 1) % m → 2 ≤ m → m ≡ k
    → (sign ≡ (if minus then k - 1 else 1)) × (sign < k)
sign_minus minus sign n m k is at neg two same =
    let small : m - 1 < m = omega arith in
    let e : sign ≡ m - 1 = at ∙ neg ∙ mod-eq_of_lt small in
    (e ∙ ap (λ x. x - 1) same ∙ ap (λ (b : Bool). if b then k - 1 else 1) (sym is), omega arith)

pub sign_plus : (minus : Bool) (sign m k : ℕ) → minus ≡ false → sign ≡ 1 → 2 ≤ m → m ≡ k
    → (sign ≡ (if minus then k - 1 else 1)) × (sign < k)
sign_plus minus sign m k is at two same = (at ∙ ap (λ (b : Bool). if b then k - 1 else 1) (sym is), omega arith)

-- from two facts of what a call answers
pub both_ok : {X E : Type 0} (P Q R : X → Type 0) (r : Result X E) → ((x : X) → P x → Q x → R x) → IfOk r P → IfOk r Q
    → IfOk r R
both_ok P Q R (Ok x) f p q = f x p q
both_ok P Q R (Err e) f p q = p

-- powers
module _ (old : GraphValue) (e b given : Expr) (n : ℕ) (is : e ≡ Power b n) (got : given ≡ b)
    (tree : IsValidTree (variables_of old.ring) e) where
  pub base_tree : IsValidTree (variables_of old.ring) given
  base_tree = subst (λ (x : Expr). IsValidTree (variables_of old.ring) x) (sym got)
      (valid_power (variables_of old.ring) b n (subst (λ (e : Expr). IsValidTree (variables_of old.ring) e) is tree)).0

  pub base_divides : DividesWell old.ring e → DividesWell old.ring given
  base_divides divides = subst (λ (x : Expr). DividesWell old.ring x) (sym got)
      (power_divides (series old.ring) b n (subst (λ (e : Expr). DividesWell old.ring e) is divides))

  nodes_least : (k d n : ℕ) → k ≤ nodes_of_power k d n
  nodes_least k d zero = omega arith
  nodes_least k d (suc n) = omega arith

  pub base_room : size_of old + node_count e ≤ 65536 → size_of old + node_count given ≤ 65536
  base_room room =
      let whole = ap node_count is ∙ node_count-Power b n in
      let least = nodes_least (node_count b) (formal_degree b) n in
      let here = ap node_count got in
      omega (arith, whole, least, here)

  module _ (mid : GraphValue) (slots base : List NodeId) (same : base ≡ slots)
      (builds : Builds given old mid slots) where
    one_less : formal_degree given ≡ length base - 1
    one_less =
        let long = ap (λ (l : List NodeId). length l) same in
        omega (arith, long, builds.nodes.slots)

    pub base_some : 0 < length base
    base_some =
        let long = ap (λ (l : List NodeId). length l) same in
        omega (arith, long, builds.nodes.slots)

    nodes_above : (k d n : ℕ) → 0 < n → k + power_nodes d n ≡ nodes_of_power k d n
    nodes_above k d zero lt = absurd (omega arith)
    nodes_above k d (suc n) lt = refl

    pub raised_room : 0 < n → size_of old + node_count e ≤ 65536
        → size_of mid + power_nodes (length base - 1) n ≤ 65536
    raised_room some room =
        let size = added_size _ _ old mid slots builds.nodes in
        let whole = ap node_count is ∙ node_count-Power b n in
        let above = nodes_above (node_count b) (formal_degree b) n some in
        let here = ap node_count got in
        let degree = ap (λ (d : ℕ). power_nodes d n) (sym one_less ∙ ap formal_degree got) in
        omega (arith, size, whole, above, here, degree)

    pub raised_built : (new : GraphValue) (ids : List NodeId) → 0 < n
        → AddsSlots (power_nodes (length base - 1) n) (suc (n * (length base - 1))) mid new ids
        → MeansPower n mid new base ids → Builds e old new ids
    raised_built new ids some adds means = subst (λ (x : Expr). Builds x old new ids)
        (sym (is ∙ ap (λ (x : Expr). Power x n) (sym got))) (from n some adds means)
      where
        from : (n : ℕ) → 0 < n
            → AddsSlots (power_nodes (length base - 1) n) (suc (n * (length base - 1))) mid new ids
            → MeansPower n mid new base ids → Builds (Power given n) old new ids
        from zero lt adds means = absurd (omega arith)
        from (suc n) lt adds means = power_built (variables_of old.ring) old mid new given n base ids base_tree
            (subst (λ (l : List NodeId). Builds given old mid l) (sym same) builds) adds means

    pub unraised_built : (new : GraphValue) (ids : List NodeId) (r : Result NodeId GraphError) → n ≡ 0
        → IfOk r (AddsNode (NumberNode 1) mid new) → IsFlatSlot r ids → Builds e old new ids
    unraised_built new ids r none ok (id, made, one) = subst (λ (x : Expr). Builds x old new ids)
        (sym (is ∙ ap (λ (x : Expr). Power x n) (sym got) ∙ ap (Power given) none))
        (subst (λ (l : List NodeId). Builds (Power given 0) old new l) (sym one)
        (power_none old mid new given slots id builds (answered (AddsNode (NumberNode 1) mid new) r id ok made)))
