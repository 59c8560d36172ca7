-- What the nodes of a graph mean, from what is true of every graph.
use Rattle.std.proofs.Common.{◌≡◌, ℕ, ◌<◌, sym, subst}
use Rattle.ps_model.specs.Bounds.{ExactlyOne}
use Rattle.ps_model.specs.Notation.{constant_term}
use Rattle.ps_model.specs.SeriesRing.{ring as ring_of, Poly}
use Rattle.ps_model.proofs.Coefficients.{small}
use Rattle.parts.specs.Rings.{modulus_of}
use Rattle.parts.specs.Series.{series}
use Rattle.parts.proofs.Polynomials.{modulus_is}
use Rattle.series_graph.specs.GraphValue.{GraphValue, IsGraph, size_of, constant_at}
use Rattle.series_graph.specs.Meaning.{Means}
use Rattle.series_graph.proofs.Meanings.{sound_graph, means_is}
use Rattle.series_graph.proofs.Existence.{means_one}

module _ (graph : GraphValue) (is : IsGraph graph) (i : ℕ) (inside : i < size_of graph) where
  -- a node means one polynomial up to each degree
  pub graph_means : (D : ℕ) → ExactlyOne (Means (series graph.ring) D graph.formulas i)
  graph_means D = means_one graph.ring graph.constants graph.formulas (sound_graph graph is) D i inside

  -- the constant term of what it means
  pub graph_constant : (D : ℕ) (p : Poly (series graph.ring)) → Means (series graph.ring) D graph.formulas i p
      → constant_at graph i ≡ constant_term p
  graph_constant D p means =
      sym (means_is graph.ring graph.constants graph.formulas (sound_graph graph is) D i p inside means).constant

  pub graph_residue : constant_at graph i < modulus_of graph.ring
  graph_residue =
      let one = graph_means 0 in
      subst (λ n. n < modulus_of graph.ring) (sym (graph_constant 0 one.one_value one.meets))
      (subst (λ m. constant_term one.one_value < m) (modulus_is graph.ring)
      (small (ring_of (series graph.ring)) one.one_value _))
