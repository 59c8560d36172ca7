-- Divisors: the constant term of a quotient by a unit, and those that are none.
use Rattle.std.proofs.Common.{◌≡◌, ℕ, ◌*◌, ◌%◌, ◌<◌, sym, ◌∙◌, ap, subst, arith}
use Rattle.std.specs.Int.{IsGcd}
use Rattle.std.proofs.Math.Nat.{mod-lt, mod-eq_of_lt, mul-one}
use Rattle.std.proofs.lemmas.Nat.{mul-mod_first}
use Rattle.std.proofs.lemmas.Nat.Gcd.{same_from_IsGcd}
use Rattle.ps_model.specs.Bounds.{IsUnit}
use Rattle.ps_model.proofs.RingLaws.{mul-mod_last}
use Rattle.residue.specs.Residues.{number_of, IsInverse}
use Rattle.residue.specs.declared.Modulus.{Modulus}
use Rattle.parts.specs.Rings.{modulus_of}
use Rattle.units.proofs.Constants.{no_unit}
use Rattle.series_graph.specs.Formula.{place_of}
use Rattle.series_graph.specs.GraphValue.{GraphValue, size_of, constant_at}
use Rattle.series_graph.specs.Calls.{IsWithoutInverse}
use Rattle.series_graph.specs.declared.node.NodeId.{NodeId}

quotient_times : (m a b e : ℕ) → a < m → (b * e) % m ≡ 1 → ((a * e) % m * b) % m ≡ a
quotient_times m a b e lt inverts = mul-mod_first (a * e) b m
    ∙ ap (λ n. n % m) (let regroup : (a * e) * b ≡ a * (b * e) = omega arith in regroup)
    ∙ sym (mul-mod_last a (b * e) m) ∙ ap (λ n. (a * n) % m) inverts ∙ ap (λ n. n % m) (mul-one a) ∙ mod-eq_of_lt lt

module _ (graph : GraphValue) (M : Modulus) (same : number_of M ≡ modulus_of graph.ring) (b : NodeId) (value : ℕ)
    (is : value ≡ constant_at graph (place_of b)) where
  -- the constant term of a quotient
  pub divided : (a : NodeId) (c e x : ℕ) → c ≡ constant_at graph (place_of a)
      → c < modulus_of graph.ring
      → IsInverse M value e → x ≡ (c * e) % number_of M → (x < modulus_of graph.ring)
      × ((x * constant_at graph (place_of b)) % modulus_of graph.ring ≡ constant_at graph (place_of a))
  divided a c e x at lt inverse is_x = subst
      (λ m. (x < m) × ((x * constant_at graph (place_of b)) % m ≡ constant_at graph (place_of a))) same (
        subst (λ n. n < number_of M) (sym is_x) (mod-lt (c * e) (let lt = below in omega arith)),
        (λ i. (is_x i * sym is i) % number_of M) ∙ quotient_times (number_of M) c value e below inverse.product ∙ at,
      )
    where
      below : c < number_of M
      below = subst (λ m. c < m) (sym same) lt

  -- where the constant term has an inverse, no divisor is refused
  pub has_inverse : (e v gcd : ℕ) → IsInverse M value e → IsWithoutInverse graph b v gcd → ⊥
  has_inverse e v gcd inverse without = no_unit (modulus_of graph.ring) v gcd without.above without.divisor
      (subst (IsUnit (modulus_of graph.ring)) (is ∙ sym without.value_is)
      (subst (λ m. IsUnit m value) same (record {
        inverse = e;
        is_residue = inverse.residue;
        inverts = inverse.product;
      })))

  -- where it has none, with a common divisor
  module _ (g : ℕ) (room : size_of graph < 65536) (above : 1 < g) (common : IsGcd value (number_of M) g) where
    common_in : IsGcd value (modulus_of graph.ring) g
    common_in = subst (λ m. IsGcd value m g) same common

    pub refused : (v gcd : ℕ) → value ≡ v → g ≡ gcd → IsWithoutInverse graph b v gcd
    refused v gcd e e' = subst (λ (t : ℕ × ℕ). IsWithoutInverse graph b t.0 t.1) (λ i. (e i, e' i)) (record {
      room = room;
      value_is = is;
      above = above;
      divisor = common_in;
    })

    pub refused_only : (v gcd : ℕ) → IsWithoutInverse graph b v gcd → (value ≡ v) × (g ≡ gcd)
    refused_only v gcd without = (
      is ∙ sym without.value_is,
      same_from_IsGcd value (modulus_of graph.ring) g gcd common_in
          (subst (λ n. IsGcd n (modulus_of graph.ring) gcd) (without.value_is ∙ sym is) without.divisor),
    )
