-- The constant terms of quotients, and divisors without an inverse.
use Rattle.std.proofs.Common.{◌≡◌, ℕ, ◌*◌, ◌%◌, ◌<◌, ◌≤◌, refl, sym, ◌∙◌, ap, subst, arith}
use Rattle.std.specs.Int.{IsGcd}
use Rattle.std.proofs.Math.Nat.{mod-mod, mod-eq_of_lt, mul-one}
use Rattle.std.proofs.lemmas.Nat.Gcd.{same_from_IsGcd}
use Rattle.ps_model.specs.Bounds.{IsUnit}
use Rattle.ps_model.proofs.Coefficients.{times-mod}
use Rattle.parts.specs.Rings.{modulus_of}
use Rattle.units.proofs.Constants.{no_unit}
use Rattle.series_graph.specs.Formula.{place_of}
use Rattle.series_graph.specs.GraphValue.{GraphValue, constant_at}
use Rattle.series_graph.specs.Calls.{IsWithoutInverse}
use Rattle.series_graph.specs.declared.node.NodeId.{NodeId}

-- a times the inverse e of b is what times b leaves a
pub divided : (m n a b e x : ℕ) → n ≡ m → 2 ≤ m → a < m → (b * e) % n ≡ 1 → x ≡ (a * e) % n
    → (x < m) × ((x * b) % m ≡ a)
divided m n a b e x same low residue inverts is = (
  subst (λ k. k < m) (sym x_is) (below (a * e)),
  times-mod m x (a * e) b b (ap (λ k. k % m) x_is ∙ mod-mod (a * e) m) refl
      ∙ ap (λ k. k % m) regrouped
      ∙ times-mod m a a (b * e) 1 refl (ap (λ k. (b * e) % k) (sym same) ∙ inverts ∙ sym (mod-eq_of_lt (omega arith)))
      ∙ ap (λ k. k % m) (mul-one a) ∙ mod-eq_of_lt residue,
)
  where
    below : (k : ℕ) → k % m < m
    below k = omega arith

    regrouped : (a * e) * b ≡ a * (b * e)
    regrouped = omega arith

    x_is : x ≡ (a * e) % m
    x_is = is ∙ ap (λ k. (a * e) % k) same

pub unit_by : (m n b e : ℕ) → n ≡ m → e < n → (b * e) % n ≡ 1 → IsUnit m b
unit_by m n b e same residue inverts = record {
  inverse = e;
  is_residue = omega arith;
  inverts = ap (λ k. (b * e) % k) (sym same) ∙ inverts;
}

module _ (graph : GraphValue) (b : NodeId) (value gcd : ℕ) (without : IsWithoutInverse graph b value gcd) where
  pub not_without : IsUnit (modulus_of graph.ring) (constant_at graph (place_of b)) → ⊥
  not_without unit = no_unit (modulus_of graph.ring) (constant_at graph (place_of b)) gcd without.above
      (subst (λ n. IsGcd n (modulus_of graph.ring) gcd) without.value_is without.divisor) unit

  -- the common divisor is told
  pub same_gcd : (n v g : ℕ) → n ≡ modulus_of graph.ring → v ≡ constant_at graph (place_of b) → IsGcd v n g → g ≡ gcd
  same_gcd n v g same is greatest = same_from_IsGcd (constant_at graph (place_of b)) (modulus_of graph.ring) g gcd
      (subst (λ k. IsGcd k (modulus_of graph.ring) g) is (subst (λ k. IsGcd v k g) same greatest))
      (subst (λ k. IsGcd k (modulus_of graph.ring) gcd) without.value_is without.divisor)
