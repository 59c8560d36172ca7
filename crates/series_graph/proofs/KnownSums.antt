-- Sums of the known parts of nodes, one term after the other.
use Rattle.std.proofs.Common.{◌≡◌, ℕ, ◌+◌, ◌<◌, ◌⊎◌, inl, inr, List, [], ◌∷◌, length, get_or, drop, refl}
use Rattle.std.proofs.Common.{sym, ◌∙◌, ap, subst, arith}
use Rattle.std.specs.FinMap.{empty}
use Rattle.std.proofs.lemmas.Bool.{cases_lt}
use Rattle.std.proofs.lemmas.List.{get_or-map, get_or_past, length-map, drop_more}
use Rattle.std.proofs.Math.Seq.{drop-length}
use Rattle.ps_model.specs.Notation.{zero as nought, sum, scaled, sum_to}
use Rattle.ps_model.specs.SeriesRing.{ring as ring_of, Poly}
use Rattle.ps_model.proofs.Images.{scaled_one}
use Rattle.ps_model.proofs.RingLaws.{sum-zero}
use Rattle.parts.specs.AccumulatorValue.{AccumulatorValue}
use Rattle.parts.specs.PartValue.{PartValue}
use Rattle.parts.specs.RowsOfParts.{part_in}
use Rattle.parts.specs.Series.{series, polynomial_in}
use Rattle.parts.specs.declared.rings.Ring.{Ring}
use Rattle.parts.proofs.Polynomials.{polynomial_in-empty}
use Rattle.units.specs.SeriesParts.{IsPartAt, AreSeriesParts, Changes}
use Rattle.units.proofs.Added.{no_multiple}
use Rattle.units.proofs.Crossed.{crossed}
use Rattle.series_graph.specs.Formula.{place_of, formula_of}
use Rattle.series_graph.specs.GraphValue.{known_at, IsGraph}
use Rattle.series_graph.specs.Meaning.{combination}
use Rattle.series_graph.specs.Nodes.{known_in, graph_of}
use Rattle.series_graph.specs.Sums.{part_known, product_known, products_known, IsPartWith}
use Rattle.series_graph.specs.declared.node.Node.{Node}
use Rattle.series_graph.specs.declared.node.NodeId.{NodeId}
use Rattle.series_graph.proofs.SumsSoFar.{IsSumSoFar, sum-more}

-- the parts that a node holds
pub known_read : (nodes : List Node) (i : ℕ) (x : Node) → i < length nodes
    → (get_or nodes i x).known ≡ get_or (known_in nodes) i []
known_read nodes i x lt = sym (get_or-map (λ (n : Node). n.known) nodes i x [] lt)

-- a node with a part is there
pub known_within : (nodes : List Node) (i r : ℕ) → r < length (get_or (known_in nodes) i []) → i < length nodes
known_within nodes i r lt = elim (cases_lt i (length nodes)) as (λ _. i < length nodes) [
  | inl low ↦ low
  | inr high ↦
      let count = length-map nodes (λ (n : Node). n.known) in
      let none = ap length (get_or_past (known_in nodes) i [] (omega arith)) in absurd (omega arith)
]

module _ (ring : Ring) (nodes : List Node) (is : IsGraph (graph_of ring nodes)) (i : ℕ) (x : Node)
    (lt : i < length nodes) where
  pub node_parts : AreSeriesParts ring (get_or nodes i x).known
  node_parts = subst (AreSeriesParts ring) (sym (known_read nodes i x lt))
      (λ r below. (is.known_are i r
      (let n = length-map nodes (λ (n : Node). formula_of n.form) in omega arith) below).part)

  -- a known part that is read
  pub node_part : (r : ℕ) (p : PartValue) → r < length (known_at (graph_of ring nodes) i) → p ≡ part_in (get_or nodes i x).known r
      → (p ≡ part_in (get_or (known_in nodes) i []) r) × IsPartAt ring r p
  node_part r p some read =
      let count = ap length (known_read nodes i x lt) in (
        read ∙ ap (λ ps. part_in ps r) (known_read nodes i x lt),
        subst (IsPartAt ring r) (sym read) (node_parts r (omega arith)),
      )

-- the sum of each number times the part of degree r of its node
unfoldable pub multiples_known : (ring : Ring) → List (List PartValue) → ℕ → List (ℕ × NodeId) → Poly (series ring)
multiples_known ring known r of = combination (series ring) (λ j. part_known ring known j r) of

module _ (ring : Ring) (known : List (List PartValue)) (r : ℕ) where
  pub multiples_are : (of : List (ℕ × NodeId))
      → multiples_known ring known r of ≡ combination (series ring) (λ j. part_known ring known j r) of
  unfolding multiples_known
  multiples_are of = refl

  multiples-cons : (t : ℕ × NodeId) (ts : List (ℕ × NodeId)) → multiples_known ring known r (t ∷ ts)
      ≡ sum (scaled t.0 (part_known ring known (place_of t.1) r)) (multiples_known ring known r ts)
  unfolding multiples_known
  multiples-cons t ts = refl

  multiples-nil : multiples_known ring known r [] ≡ nought
  unfolding multiples_known
  multiples-nil = refl

  pub multiples-none : (of : List (ℕ × NodeId)) (n : ℕ) → n ≡ length of
      → multiples_known ring known r (drop n of) ≡ nought
  multiples-none of n end = ap (multiples_known ring known r) (ap (λ k. drop k of) end ∙ drop-length of) ∙ multiples-nil

  pub multiples-more : (of : List (ℕ × NodeId)) (n : ℕ) (d : ℕ × NodeId) (acc new : AccumulatorValue) (p : PartValue)
      → n < length of
      → IsSumSoFar ring r (multiples_known ring known r of) (multiples_known ring known r (drop n of)) acc
      → p ≡ part_in (get_or known (place_of (get_or of n d).1) []) r
      → Changes acc.ring acc new (scaled (get_or of n d).0 (polynomial_in acc.ring p.map))
      → IsSumSoFar ring r (multiples_known ring known r of) (multiples_known ring known r (drop (n + 1) of)) new
  multiples-more of n d acc new p lt before is added = sum-more ring r (multiples_known ring known r of)
      (scaled (get_or of n d).0 (part_known ring known (place_of (get_or of n d).1) r))
      (multiples_known ring known r (drop n of)) (multiples_known ring known r (drop (n + 1) of)) acc new
      (ap (multiples_known ring known r) (drop_more of n d lt) ∙ multiples-cons (get_or of n d) (drop (n + 1) of))
      before
      (subst (λ (q : PartValue). Changes ring acc new (scaled (get_or of n d).0 (polynomial_in ring q.map))) is
      (subst (λ (R : Ring). Changes R acc new (scaled (get_or of n d).0 (polynomial_in R p.map))) before.ring_is added))

  -- one node alone, once or without a term
  pub multiples-one : (of : List (ℕ × NodeId)) (d : ℕ × NodeId) (p : PartValue) → length of ≡ 1
      → p ≡ part_in (get_or known (place_of (get_or of 0 d).1) []) r → IsPartAt ring r p
      → ((get_or of 0 d).0 ≡ 1) ⊎ (p.map ≡ empty) → IsPartWith ring r (multiples_known ring known r of) p
  multiples-one [] d p one is part so = absurd (omega arith)
  multiples-one (t ∷ []) d p one is part so = (
    part,
    sym (multiples-cons t [] ∙ ap (sum (scaled t.0 (part_known ring known (place_of t.1) r))) multiples-nil
        ∙ sum-zero (ring_of (series ring)) _ ∙ ap (λ (q : PartValue). scaled t.0 (polynomial_in ring q.map)) (sym is)
        ∙ once so),
  )
    where
      once : (t.0 ≡ 1) ⊎ (p.map ≡ empty) → scaled t.0 (polynomial_in ring p.map) ≡ polynomial_in ring p.map
      once (inl e) = ap (λ c. scaled c (polynomial_in ring p.map)) e ∙ scaled_one (ring_of (series ring)) _
      once (inr e) = no_multiple ring t.0 p e ∙ sym (ap (polynomial_in ring) e ∙ polynomial_in-empty ring)
  multiples-one (t ∷ u ∷ us) d p one is part so = absurd (omega arith)

  pub dots-none : (of : List (NodeId × NodeId)) (n : ℕ) → n ≡ length of
      → products_known ring known r (drop n of) ≡ nought
  dots-none of n end = ap (products_known ring known r) (ap (λ k. drop k of) end ∙ drop-length of)

  pub dots-more : (of : List (NodeId × NodeId)) (n : ℕ) (d : NodeId × NodeId) (acc new : AccumulatorValue)
      (xs ys : List PartValue) → n < length of
      → IsSumSoFar ring r (products_known ring known r of) (products_known ring known r (drop n of)) acc
      → xs ≡ get_or known (place_of (get_or of n d).0) [] → ys ≡ get_or known (place_of (get_or of n d).1) []
      → Changes acc.ring acc new (sum_to r (crossed acc.ring xs ys r))
      → IsSumSoFar ring r (products_known ring known r of) (products_known ring known r (drop (n + 1) of)) new
  dots-more of n d acc new xs ys lt before xs_are ys_are added = sum-more ring r (products_known ring known r of)
      (product_known ring known r (place_of (get_or of n d).0) (place_of (get_or of n d).1))
      (products_known ring known r (drop n of)) (products_known ring known r (drop (n + 1) of)) acc new
      (ap (products_known ring known r) (drop_more of n d lt)) before
      (subst (λ (zs : List PartValue). Changes ring acc new (sum_to r (crossed ring
      (get_or known (place_of (get_or of n d).0) []) zs r))) ys_are
      (subst (λ (zs : List PartValue). Changes ring acc new (sum_to r (crossed ring zs ys r))) xs_are
      (subst (λ (R : Ring). Changes R acc new (sum_to r (crossed R xs ys r))) before.ring_is added)))
