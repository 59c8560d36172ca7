-- Sums of constant terms, modulo the modulus: what is added up and what is left are the whole.
use Rattle.std.proofs.Common.{◌≡◌, ℕ, ◌+◌, ◌*◌, ◌%◌, ◌<◌, List, length, get_or, drop, sym, ◌∙◌, ap}
use Rattle.std.proofs.Common.{subst, arith}
use Rattle.std.proofs.Math.Nat.{add-mod, mod-mod}
use Rattle.std.proofs.lemmas.List.{get_or-map, drop_more}
use Rattle.series_graph.specs.Formula.{place_of}
use Rattle.series_graph.specs.GraphValue.{combined, multiplied}
use Rattle.series_graph.specs.Nodes.{constants_in}
use Rattle.series_graph.specs.declared.node.Node.{Node}
use Rattle.series_graph.specs.declared.node.NodeId.{NodeId}

-- the constant term that a node holds
constant_read : (nodes : List Node) (i : ℕ) (x : Node) → i < length nodes
    → get_or (constants_in nodes) i 0 ≡ (get_or nodes i x).constant
constant_read nodes i x lt = get_or-map (λ (n : Node). n.constant) nodes i x 0 lt

step : (m sum term rest new whole : ℕ) → new ≡ (sum + term % m) % m → (sum + (term + rest)) % m ≡ whole
    → (new + rest) % m ≡ whole
step m sum term rest new whole is before = ap (λ n. (n + rest) % m) is ∙ add-mod _ rest m
    ∙ ap (λ n. (n + rest % m) % m) (mod-mod _ m ∙ add-mod sum _ m ∙ ap (λ n. (sum % m + n) % m) (mod-mod term m)
    ∙ sym (add-mod sum term m)) ∙ sym (add-mod (sum + term) rest m) ∙ ap (λ n. n % m) (omega arith) ∙ before

module _ (m : ℕ) (nodes : List Node) (n sum new : ℕ) where
  pub combined-more : (of : List (ℕ × NodeId)) (d : ℕ × NodeId) (x : Node) (multiple : ℕ) → n < length of
      → place_of (get_or of n d).1 < length nodes
      → multiple ≡ ((get_or of n d).0 * (get_or nodes (place_of (get_or of n d).1) x).constant) % m
      → new ≡ (sum + multiple) % m
      → (sum + combined (constants_in nodes) (drop n of)) % m ≡ combined (constants_in nodes) of % m
      → (new + combined (constants_in nodes) (drop (n + 1) of)) % m ≡ combined (constants_in nodes) of % m
  combined-more of d x multiple lt within multiple_is new_is before =
      step m sum ((get_or of n d).0 * get_or (constants_in nodes) (place_of (get_or of n d).1) 0) _ new _
      (new_is ∙ ap (λ k. (sum + k) % m) (multiple_is ∙ ap (λ c. ((get_or of n d).0 * c) % m)
      (sym (constant_read nodes (place_of (get_or of n d).1) x within))))
      (subst (λ (ts : List (ℕ × NodeId)). (sum + combined (constants_in nodes) ts) % m
      ≡ combined (constants_in nodes) of % m) (drop_more of n d lt) before)

  pub multiplied-more : (of : List (NodeId × NodeId)) (d : NodeId × NodeId) (x y : Node) (multiple : ℕ) → n < length of
      → (place_of (get_or of n d).0 < length nodes) × (place_of (get_or of n d).1 < length nodes)
      → multiple ≡ ((get_or nodes (place_of (get_or of n d).0) x).constant
      * (get_or nodes (place_of (get_or of n d).1) y).constant) % m
      → new ≡ (sum + multiple) % m
      → (sum + multiplied (constants_in nodes) (drop n of)) % m ≡ multiplied (constants_in nodes) of % m
      → (new + multiplied (constants_in nodes) (drop (n + 1) of)) % m ≡ multiplied (constants_in nodes) of % m
  multiplied-more of d x y multiple lt within multiple_is new_is before =
      step m sum (get_or (constants_in nodes) (place_of (get_or of n d).0) 0
      * get_or (constants_in nodes) (place_of (get_or of n d).1) 0) _ new _
      (new_is ∙ ap (λ k. (sum + k) % m) (multiple_is
      ∙ (λ i. (sym (constant_read nodes (place_of (get_or of n d).0) x within.0) i
      * sym (constant_read nodes (place_of (get_or of n d).1) y within.1) i) % m)))
      (subst (λ (ts : List (NodeId × NodeId)). (sum + multiplied (constants_in nodes) ts) % m
      ≡ multiplied (constants_in nodes) of % m) (drop_more of n d lt) before)
