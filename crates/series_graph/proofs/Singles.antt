-- The parts of numbers and of variables.
use Rattle.std.proofs.Common.{◌≡◌, ℕ, zero, suc, ◌<◌, List, [], ◌∷◌, get_or, replicate}
use Rattle.std.proofs.Common.{set, length}
use Rattle.std.proofs.Common.{refl, sym, ◌∙◌, ap, subst, arith}
use Rattle.std.specs.FinMap.{empty}
use Rattle.ps_model.specs.FiniteMaps.{collected}
use Rattle.ps_model.specs.Job.{series_ring}
use Rattle.std.specs.Prelude.{max}
use Rattle.std.specs.List.{All}
use Rattle.std.proofs.lemmas.List.{get_or-take}
use Rattle.std.proofs.lemmas.List.Elements.{All-head, All-tail}
use Rattle.ps_model.specs.KeyLaws.{weighted-none}
use Rattle.ps_model.specs.Keys.{weighted, weights_from, powers_of, key_compare, y_key, no_powers}
use Rattle.ps_model.specs.Notation.{monomial, homogeneous_part}
use Rattle.ps_model.specs.Polynomial.{of_map as map_polynomial, monomial as monomial_of}
use Rattle.ps_model.specs.SeriesRing.{ring as ring_of}
use Rattle.ps_model.specs.Value.{one_power, variable}
use Rattle.ps_model.proofs.Homogeneous.{homogeneous-monomial, IsHomogeneous}
use Rattle.ps_model.proofs.OfMap.{of_map-collected}
use Rattle.parts.specs.PartValue.{PartValue, IsPartOf, single_map, variable_key}
use Rattle.parts.specs.Rings.{weights_of}
use Rattle.parts.specs.Series.{series, polynomial_modulo, polynomial_in}
use Rattle.parts.specs.declared.rings.Ring.{Ring}
use Rattle.parts.proofs.Polynomials.{modulus_is, polynomial_in-empty}
use Rattle.units.proofs.Constants.{single_constant, zero_part}
use Rattle.units.proofs.Parts.{other_part, part_homogeneous}
use Rattle.series_graph.specs.Sums.{IsPartWith}

constant_homogeneous : (ring : Ring) (c : ℕ)
    → IsHomogeneous (ring_of (series ring)) (ring_of (series ring)).degree 0
    (monomial c (y_key (series ring).variables 0))
constant_homogeneous ring c = subst (λ n. IsHomogeneous (ring_of (series ring)) (ring_of (series ring)).degree n
    (monomial c (y_key (series ring).variables 0))) (ring_of (series ring)).degree_adds.1
    (homogeneous-monomial (ring_of (series ring)) (ring_of (series ring)).degree c (y_key (series ring).variables 0))

-- the part of degree 0 of a number
pub number_first : (ring : Ring) (c r : ℕ) (p : PartValue) → r ≡ 0 → p.degree ≡ 0
    → p.map ≡ single_map ring (y_key 8 0) c → IsPartOf ring p
    → IsPartWith ring r (homogeneous_part r (monomial c (y_key (series ring).variables 0))) p
number_first ring c r p is degree map part = subst
    (λ n. IsPartWith ring n (homogeneous_part n (monomial c (y_key (series ring).variables 0))) p) (sym is) (
      (degree, part),
      ap (polynomial_in ring) map ∙ single_constant ring c ∙ sym (constant_homogeneous ring c),
    )

-- and the others
pub number_later : (ring : Ring) (c r : ℕ) (p : PartValue) → (r ≡ 0 → ⊥) → p.degree ≡ r → p.map ≡ empty
    → IsPartWith ring r (homogeneous_part r (monomial c (y_key (series ring).variables 0))) p
number_later ring c r p other degree is = (
  zero_part ring r p degree is,
  ap (polynomial_in ring) is ∙ polynomial_in-empty ring
      ∙ sym (other_part (ring_of (series ring)) r 0 _ (constant_homogeneous ring c) other),
)

zero_powers : (n : ℕ) → powers_of n [] ≡ powers_of n (replicate n 0)
zero_powers zero = refl
zero_powers (suc n) = λ j. (0, zero_powers n j)

unit_powers : (n i : ℕ) → one_power n i ≡ powers_of n (set (replicate n 0) i 1)
unit_powers zero i = refl
unit_powers (suc n) zero = λ j. (1, (none n ∙ zero_powers n) j)
  where
    none : (n : ℕ) → no_powers n ≡ powers_of n []
    none zero = refl
    none (suc n) = λ j. (0, none n j)
unit_powers (suc n) (suc i) = λ j. (0, unit_powers n i j)

-- the map of a variable
single_variable : (ring : Ring) (i : ℕ) → polynomial_in ring (single_map ring (variable_key i) 1)
    ≡ variable (series ring) i
unfolding series_ring polynomial_modulo monomial_of
single_variable ring i = ap (λ m. map_polynomial (ring_of (series ring))
    (collected (key_compare 8) m ((variable_key i, 1) ∷ []))) (sym (modulus_is ring))
    ∙ of_map-collected (ring_of (series ring)) ((variable_key i, 1) ∷ [])
    ∙ (λ j. monomial 1 (record { powers = sym (unit_powers 8 i) j; y = 0 }))

-- the part of a variable of the degree that is its weight
pub variable_there : (ring : Ring) (i r w : ℕ) (p : PartValue) → r ≡ w → p.degree ≡ w
    → p.map ≡ single_map ring (variable_key i) 1 → IsPartOf ring p
    → IsPartWith ring r (homogeneous_part r (variable (series ring) i)) p
variable_there ring i r w p is degree map part = (
  (degree ∙ sym is, part),
  value ∙ sym (subst (λ q. IsHomogeneous (ring_of (series ring)) (ring_of (series ring)).degree r q) value
      (part_homogeneous ring r p (degree ∙ sym is, part))),
)
  where
    value : polynomial_in ring p.map ≡ variable (series ring) i
    value = ap (polynomial_in ring) map ∙ single_variable ring i

positive_kept : (w : ℕ) → 0 < w → max 1 w ≡ w
positive_kept w some = omega arith

unit_weight : (n i : ℕ) (ws : List ℕ) → i < n → i < length ws → All (λ w. 0 < w) ws
    → weighted n (weights_from n ws) (one_power n i) ≡ get_or ws i 0
unit_weight zero i ws lt within some = absurd (omega arith)
unit_weight (suc n) i [] lt within some = absurd (omega arith)
unit_weight (suc n) zero (w ∷ ws) lt within some =
    omega (arith, weighted-none n (weights_from n ws), positive_kept w (All-head (λ w. 0 < w) w ws some))
unit_weight (suc n) (suc i) (w ∷ ws) lt within some =
    omega (arith, unit_weight n i ws (omega arith) (omega arith) (All-tail (λ w. 0 < w) w ws some))

variable_homogeneous : (ring : Ring) (i : ℕ) → i < ring.n
    → IsHomogeneous (ring_of (series ring)) (ring_of (series ring)).degree (get_or ring.weights i 0)
    (variable (series ring) i)
unfolding series_ring
variable_homogeneous ring i lt = subst (λ n. IsHomogeneous (ring_of (series ring)) (ring_of (series ring)).degree n
    (variable (series ring) i)) (unit_weight 8 i ring.weights (let few = ring.few in omega arith)
    (let many = ring.many in let few = ring.few in omega arith) ring.positive)
    (homogeneous-monomial (ring_of (series ring)) (ring_of (series ring)).degree 1
    (record { powers = one_power 8 i; y = 0 }))

-- and the others
pub variable_elsewhere : (ring : Ring) (i r w : ℕ) (p : PartValue) → i < ring.n → w ≡ get_or (weights_of ring) i 0
    → (r ≡ w → ⊥) → p.degree ≡ r → p.map ≡ empty
    → IsPartWith ring r (homogeneous_part r (variable (series ring) i)) p
variable_elsewhere ring i r w p lt at other degree is = (
  zero_part ring r p degree is,
  ap (polynomial_in ring) is ∙ polynomial_in-empty ring
      ∙ sym (other_part (ring_of (series ring)) r (get_or ring.weights i 0) _ (variable_homogeneous ring i lt)
      (λ e. other (e ∙ weight))),
)
  where
    weight : get_or ring.weights i 0 ≡ w
    weight = sym (get_or-take ring.n ring.weights i 0 lt) ∙ sym at
