-- Graphs with a node more, of which no part is known.
use Rattle.std.proofs.Common.{◌≡◌, ℕ, zero, suc, ◌+◌, ◌*◌, ◌%◌, ◌<◌, ◌≤◌, inl, inr, List, [], ◌∷◌, ◌++◌, length, get_or}
use Rattle.std.proofs.Common.{refl, sym, ◌∙◌, ap, subst, arith}
use Rattle.std.specs.List.{All}
use Rattle.std.proofs.lemmas.Bool.{cases_lt}
use Rattle.std.proofs.lemmas.List.{length_push, get_or_append_left, get_or_past}
use Rattle.std.proofs.lemmas.List.Elements.{All-head, All-tail}
use Rattle.std.proofs.Math.Seq.{get_or-append_seam}
use Rattle.ps_model.specs.Bounds.{IsUnit}
use Rattle.parts.specs.PartValue.{PartValue}
use Rattle.parts.specs.Rings.{modulus_of}
use Rattle.parts.specs.RowsOfParts.{part_in}
use Rattle.parts.specs.declared.rings.Ring.{Ring}
use Rattle.series_graph.specs.Formula.{place_of, Formula, Number, Variable, Combination, Dot, Quotient, EachNamed}
use Rattle.series_graph.specs.Meaning.{formula_at}
use Rattle.series_graph.specs.GraphValue.{GraphValue, size_of, constant_at, known_at, combined, multiplied, IsConstant}
use Rattle.series_graph.specs.GraphValue.{IsKnownPart, IsLawful, IsGraph}
use Rattle.series_graph.specs.declared.node.NodeId.{NodeId}
use Rattle.series_graph.proofs.Named.{each-weaker, names_earlier}
use Rattle.series_graph.proofs.Longer.{formula-earlier, known-longer}

module _ (cs ds : List ℕ) where
  lawful-longer : (ring : Ring) (i : ℕ) (φ : Formula) → i ≤ length cs → IsLawful ring cs i φ
      → IsLawful ring (cs ++ ds) i φ
  lawful-longer ring i (Number c) le lawful = lawful
  lawful-longer ring i (Variable v) le lawful = lawful
  lawful-longer ring i (Combination of) le lawful = lawful
  lawful-longer ring i (Dot of) le lawful = lawful
  lawful-longer ring i (Quotient a b) le lawful = (
    lawful.0,
    lawful.1,
    subst (IsUnit (modulus_of ring)) (sym (get_or_append_left cs ds 0 (place_of b)
        (let lt = lawful.1 in omega arith))) lawful.2,
  )

  combined-longer : (of : List (ℕ × NodeId)) → All (λ t. place_of t.1 < length cs) of
      → combined (cs ++ ds) of ≡ combined cs of
  combined-longer [] within = refl
  combined-longer (t ∷ ts) within = λ i. t.0 * get_or_append_left cs ds 0 (place_of t.1)
      (All-head (λ (t : ℕ × NodeId). place_of t.1 < length cs) t ts within) i
      + combined-longer ts (All-tail (λ (t : ℕ × NodeId). place_of t.1 < length cs) t ts within) i

  multiplied-longer : (of : List (NodeId × NodeId))
      → All (λ t. (place_of t.0 < length cs) × (place_of t.1 < length cs)) of
      → multiplied (cs ++ ds) of ≡ multiplied cs of
  multiplied-longer [] within = refl
  multiplied-longer (t ∷ ts) within =
      let first = All-head (λ (t : NodeId × NodeId). (place_of t.0 < length cs) × (place_of t.1 < length cs)) t ts
      within in
      λ i. get_or_append_left cs ds 0 (place_of t.0) first.0 i * get_or_append_left cs ds 0 (place_of t.1) first.1 i
      + multiplied-longer ts
      (All-tail (λ (t : NodeId × NodeId). (place_of t.0 < length cs) × (place_of t.1 < length cs)) t ts within) i

  constant-longer : (m c : ℕ) (φ : Formula) → EachNamed (λ j. j < length cs) φ → IsConstant m cs φ c
      → IsConstant m (cs ++ ds) φ c
  constant-longer m c (Number n) named is = is
  constant-longer m c (Variable v) named is = is
  constant-longer m c (Combination of) named is = is ∙ ap (λ n. n % m) (sym (combined-longer of named))
  constant-longer m c (Dot of) named is = is ∙ ap (λ n. n % m) (sym (multiplied-longer of named))
  constant-longer m c (Quotient a b) named is = (
    is.0,
    ap (λ n. (c * n) % m) (get_or_append_left cs ds 0 (place_of b) named.1) ∙ is.1
        ∙ sym (get_or_append_left cs ds 0 (place_of a) named.0),
  )

-- an element more that is the default
default-more : {X : Type 0} (xs : List X) (d : X) (i : ℕ) → get_or (xs ++ d ∷ []) i d ≡ get_or xs i d
default-more [] d zero = refl
default-more [] d (suc i) = refl
default-more (x ∷ xs) d zero = refl
default-more (x ∷ xs) d (suc i) = default-more xs d i

each-always : (P : ℕ → Type 0) → ((j : ℕ) → P j) → (φ : Formula) → EachNamed P φ
each-always P h (Number c) = tt
each-always P h (Variable i) = tt
each-always P h (Combination of) = λ k d lt. h _
each-always P h (Dot of) = λ k d lt. (h _, h _)
each-always P h (Quotient a b) = (h _, h _)

abbrev pub with_node : GraphValue → Formula → ℕ → GraphValue
with_node graph φ c = record {
  ring = graph.ring;
  formulas = graph.formulas ++ φ ∷ [];
  constants = graph.constants ++ c ∷ [];
  known = graph.known ++ [] ∷ [];
}

module _ (graph : GraphValue) (φ : Formula) (c : ℕ) (is : IsGraph graph) where
  known_same : (i : ℕ) → known_at (with_node graph φ c) i ≡ known_at graph i
  known_same i = default-more graph.known [] i

  none_known : (i : ℕ) → size_of graph ≤ i → length (known_at graph i) ≡ 0
  none_known i past = ap length (get_or_past graph.known i [] (let n = is.known_count in omega arith))

  -- what holds of the earlier nodes and of the last one
  of_each : (P : ℕ → Type 0) → ((i : ℕ) → i < size_of graph → P i) → P (size_of graph) → (i : ℕ)
      → i < size_of (with_node graph φ c) → P i
  of_each P earlier last i lt = elim (cases_lt i (size_of graph)) as (λ _. P i) [
    | inl low ↦ earlier i low
    | inr high ↦
        let end : size_of graph ≡ i = omega (arith, length_push graph.formulas φ) in
        subst P end last
  ]

  pub node_graph : size_of graph < 65536 → IsLawful graph.ring graph.constants (size_of graph) φ
      → IsConstant (modulus_of graph.ring) graph.constants φ c → IsGraph (with_node graph φ c)
  node_graph room lawful constant = record {
    few = let n = length_push graph.formulas φ in omega arith;
    constants_count = let n = length_push graph.formulas φ in let m = length_push graph.constants c in
        let same = is.constants_count in omega arith;
    known_count = let n = length_push graph.formulas φ in let m = length_push graph.known [] in
        let same = is.known_count in omega arith;
    lawful = of_each (λ i. IsLawful graph.ring (graph.constants ++ c ∷ []) i (formula_at (graph.formulas ++ φ ∷ []) i))
        (λ i lt. subst (IsLawful graph.ring (graph.constants ++ c ∷ []) i)
        (sym (formula-earlier graph.formulas (φ ∷ []) i lt))
        (lawful-longer graph.constants (c ∷ []) graph.ring i (formula_at graph.formulas i)
        (let n = is.constants_count in omega arith) (is.lawful i lt)))
        (subst (IsLawful graph.ring (graph.constants ++ c ∷ []) (size_of graph)) (sym last_formula)
        (lawful-longer graph.constants (c ∷ []) graph.ring (size_of graph) φ
        (let n = is.constants_count in omega arith) lawful));
    constants_are = of_each (λ i. IsConstant (modulus_of graph.ring) (graph.constants ++ c ∷ [])
        (formula_at (graph.formulas ++ φ ∷ []) i) (get_or (graph.constants ++ c ∷ []) i 0))
        (λ i lt. subst (λ (ψ : Formula). IsConstant (modulus_of graph.ring) (graph.constants ++ c ∷ []) ψ
        (get_or (graph.constants ++ c ∷ []) i 0)) (sym (formula-earlier graph.formulas (φ ∷ []) i lt))
        (subst (IsConstant (modulus_of graph.ring) (graph.constants ++ c ∷ []) (formula_at graph.formulas i))
        (sym (get_or_append_left graph.constants (c ∷ []) 0 i (let n = is.constants_count in omega arith)))
        (constant-longer graph.constants (c ∷ []) (modulus_of graph.ring) (constant_at graph i)
        (formula_at graph.formulas i) (within i (formula_at graph.formulas i) (omega arith) (is.lawful i lt))
        (is.constants_are i lt))))
        (subst (λ (ψ : Formula). IsConstant (modulus_of graph.ring) (graph.constants ++ c ∷ []) ψ
        (get_or (graph.constants ++ c ∷ []) (size_of graph) 0)) (sym last_formula)
        (subst (IsConstant (modulus_of graph.ring) (graph.constants ++ c ∷ []) φ) (sym last_constant)
        (constant-longer graph.constants (c ∷ []) (modulus_of graph.ring) c φ
        (within (size_of graph) φ (omega arith) lawful) constant)));
    known_few = λ i. subst (λ (ps : List PartValue). length ps ≤ 4096) (sym (known_same i)) (is.known_few i);
    known_are = λ i r lt below. subst
        (λ (ps : List PartValue). IsKnownPart graph.ring (graph.formulas ++ φ ∷ []) i r (part_in ps r))
        (sym (known_same i)) (parts_are i r (subst (λ (ps : List PartValue). r < length ps) (known_same i) below));
    falling = of_each (λ i. EachNamed
        (λ j. length (known_at (with_node graph φ c) i) ≤ length (known_at (with_node graph φ c) j))
        (formula_at (graph.formulas ++ φ ∷ []) i))
        (λ i lt. subst (EachNamed
        (λ j. length (known_at (with_node graph φ c) i) ≤ length (known_at (with_node graph φ c) j)))
        (sym (formula-earlier graph.formulas (φ ∷ []) i lt))
        (each-weaker (λ j. length (known_at graph i) ≤ length (known_at graph j))
        (λ j. length (known_at (with_node graph φ c) i) ≤ length (known_at (with_node graph φ c) j))
        (λ j le. let a = ap length (known_same i) in let b = ap length (known_same j) in omega arith)
        (formula_at graph.formulas i) (is.falling i lt)))
        (each-always (λ j. length (known_at (with_node graph φ c) (size_of graph))
        ≤ length (known_at (with_node graph φ c) j))
        (λ j. let a = ap length (known_same (size_of graph)) in let b = none_known (size_of graph) (omega arith) in
        omega arith) (formula_at (graph.formulas ++ φ ∷ []) (size_of graph)));
  }
    where
      last_formula : formula_at (graph.formulas ++ φ ∷ []) (size_of graph) ≡ φ
      last_formula = get_or-append_seam graph.formulas φ [] (Number 0)

      last_constant : get_or (graph.constants ++ c ∷ []) (size_of graph) 0 ≡ c
      last_constant = ap (λ n. get_or (graph.constants ++ c ∷ []) n 0) (sym is.constants_count)
          ∙ get_or-append_seam graph.constants c [] 0

      within : (i : ℕ) (ψ : Formula) → i ≤ size_of graph → IsLawful graph.ring graph.constants i ψ
          → EachNamed (λ j. j < length graph.constants) ψ
      within i ψ le lawful = each-weaker (λ j. j < i) (λ j. j < length graph.constants)
          (λ j lt. let n = is.constants_count in omega arith) ψ
          (names_earlier graph.ring graph.constants i ψ lawful)

      parts_are : (i r : ℕ) → r < length (known_at graph i)
          → IsKnownPart graph.ring (graph.formulas ++ φ ∷ []) i r (part_in (known_at graph i) r)
      parts_are i r below = elim (cases_lt i (size_of graph)) as
          (λ _. IsKnownPart graph.ring (graph.formulas ++ φ ∷ []) i r (part_in (known_at graph i) r)) [
            | inl low ↦ known-longer graph.formulas (φ ∷ []) graph.ring i r _ (is.known_are i r low below)
            | inr high ↦ let none = none_known i high in absurd (omega arith)
          ]
