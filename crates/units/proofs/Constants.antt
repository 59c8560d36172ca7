-- Constant terms of parts, and their inverses.
use Rattle.std.proofs.Common.{◌≡◌, ℕ, ◌%◌, ◌*◌, ◌<◌, [], ◌∷◌, length, sym, ◌∙◌, ap, subst, arith}
use Rattle.std.specs.FinMap.{FinMap, empty, entries, len-empty, len-entries}
use Rattle.std.specs.Int.{IsGcd, ◌∣◌}
use Rattle.std.proofs.Math.Nat.{dvd-mod_iff, dvd-mul_right_of_dvd, eq-one_of_dvd-one}
use Rattle.ps_model.specs.Bounds.{IsUnit}
use Rattle.ps_model.specs.FiniteMaps.{collected, scale_map}
use Rattle.ps_model.specs.Job.{series_ring}
use Rattle.ps_model.specs.Keys.{key_compare, y_key}
use Rattle.ps_model.specs.Notation.{monomial, one, scaled, homogeneous_part}
use Rattle.ps_model.specs.Polynomial.{of_map as map_polynomial, monomial as monomial_of, one as one_of}
use Rattle.ps_model.proofs.Homogeneous.{homogeneous-one}
use Rattle.ps_model.proofs.OfMap.{of_map-collected}
use Rattle.ps_model.proofs.Recurrences.{scaled-scaled, scaled-unit}
use Rattle.ps_model.specs.SeriesRing.{ring as ring_of}
use Rattle.ps_model.proofs.SliceValues.{slice_at-constant}
use Rattle.parts.specs.PartValue.{PartValue, single_map}
use Rattle.parts.specs.Rings.{modulus_of}
use Rattle.parts.specs.Series.{series, polynomial_modulo, polynomial_in, constant_of}
use Rattle.parts.specs.declared.rings.Ring.{Ring}
use Rattle.parts.proofs.Accumulated.{scaled-is}
use Rattle.parts.proofs.Polynomials.{modulus_is, polynomial_in-empty}
use Rattle.parts.proofs.RowSlices.{part_slice}
use Rattle.ps_model.specs.Bounds.{IsSlice}
use Rattle.units.specs.SeriesParts.{IsPartAt}
use Rattle.units.proofs.Added.{no_multiple}
use Rattle.units.proofs.Parts.{other_part}

-- what has a common divisor with the modulus is no unit
pub no_unit : (m a g : ℕ) → 1 < g → IsGcd a m g → IsUnit m a → ⊥
no_unit m a g above (of_a, of_m, greatest) unit = contradiction g above
    (eq-one_of_dvd-one (subst (λ n. g ∣ n) unit.inverts
    ((dvd-mod_iff g of_m).1 (dvd-mul_right_of_dvd g of_a unit.inverse))))
  where
    contradiction : (g : ℕ) → 1 < g → g ≡ 1 → ⊥
    contradiction g above is = omega arith

-- a part of degree 0 is its constant term
pub constant_part : (ring : Ring) (p : PartValue) → IsPartAt ring 0 p
    → polynomial_in ring p.map ≡ monomial (constant_of ring p) (ring_of (series ring)).origin
constant_part ring p is = sym (subst (λ n. IsSlice n (polynomial_in ring p.map)) is.0 (part_slice ring p is.1))
    ∙ slice_at-constant (ring_of (series ring)) 0 (polynomial_in ring p.map)

-- a number times what was divided by it: of a zero part, by 1, by its inverse e
pub divided_nothing : (ring : Ring) (c : ℕ) (p : PartValue) → p.map ≡ empty
    → scaled c (polynomial_in ring p.map) ≡ polynomial_in ring p.map
divided_nothing ring c p is = no_multiple ring c p is ∙ sym (ap (polynomial_in ring) is ∙ polynomial_in-empty ring)

pub divided_one : (ring : Ring) (c e : ℕ) (p : PartValue) → (c * e) % modulus_of ring ≡ 1 → e ≡ 1
    → scaled c (polynomial_in ring p.map) ≡ polynomial_in ring p.map
divided_one ring c e p inverts one = scaled-unit (ring_of (series ring)) c (polynomial_in ring p.map)
    (ap (λ m. c % m) (modulus_is ring)
    ∙ ap (λ n. n % modulus_of ring) (let same : c ≡ c * 1 = omega arith in same ∙ ap (λ n. c * n) (sym one)) ∙ inverts)

pub divided_by : (ring : Ring) (c e : ℕ) (x y : PartValue) → (c * e) % modulus_of ring ≡ 1
    → y.map ≡ scale_map (key_compare 8) (modulus_of ring) e x.map
    → scaled c (polynomial_in ring y.map) ≡ polynomial_in ring x.map
divided_by ring c e x y inverts is = ap (scaled c) (ap (polynomial_in ring) is ∙ scaled-is ring e x.map)
    ∙ scaled-scaled (ring_of (series ring)) c e (polynomial_in ring x.map)
    ∙ scaled-unit (ring_of (series ring)) (c * e) (polynomial_in ring x.map)
    (ap (λ m. (c * e) % m) (modulus_is ring) ∙ inverts)

-- the map of a constant
pub single_constant : (ring : Ring) (c : ℕ)
    → polynomial_in ring (single_map ring (y_key 8 0) c) ≡ monomial c (ring_of (series ring)).origin
unfolding series_ring polynomial_modulo monomial_of
single_constant ring c = ap (λ m. map_polynomial (ring_of (series ring))
    (collected (key_compare 8) m ((y_key 8 0, c) ∷ []))) (sym (modulus_is ring))
    ∙ of_map-collected (ring_of (series ring)) ((y_key 8 0, c) ∷ [])

-- the parts of 1
pub one_first : (ring : Ring) (p : PartValue) → p.map ≡ single_map ring (y_key 8 0) 1
    → homogeneous_part 0 one ≡ polynomial_in ring p.map
unfolding one_of
one_first ring p is = homogeneous-one (ring_of (series ring)) (ring_of (series ring)).degree
    (ring_of (series ring)).degree_adds ∙ sym (ap (polynomial_in ring) is ∙ single_constant ring 1)

pub one_later : (ring : Ring) (r : ℕ) (p : PartValue) → (r ≡ 0 → ⊥) → p.map ≡ empty
    → homogeneous_part r one ≡ polynomial_in ring p.map
one_later ring r p other is = other_part (ring_of (series ring)) r 0 one
    (homogeneous-one (ring_of (series ring)) (ring_of (series ring)).degree (ring_of (series ring)).degree_adds) other
    ∙ sym (ap (polynomial_in ring) is ∙ polynomial_in-empty ring)

-- a zero part
pub zero_part : (ring : Ring) (r : ℕ) (p : PartValue) → p.degree ≡ r → p.map ≡ empty → IsPartAt ring r p
zero_part ring r p degree is = (
  degree,
  λ k d lt. let none : length (entries p.map) ≡ 0 = ap (λ (m : FinMap (key_compare 8) ℕ). length (entries m)) is
      ∙ sym (len-entries empty) ∙ len-empty (key_compare 8) ℕ in
      absurd (omega arith),
)
