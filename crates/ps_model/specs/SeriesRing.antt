-- The polynomials in Y and n variables with positive weights, modulo m.
--     SeriesRing      a number of variables, their weights, none 0, and a modulus from 2 on
--     ring_of n m h w positive      the ring of n variables with the weights w, modulo m
--     ring S      its ring
--     degree S k      the ring's degree: the sum of weight times power, in which Y doesn't count
--     Poly S      a polynomial
--     PartMap S      a finite map from keys to numbers, as a part of a series is seen
--     Row S      a list of such maps
use Rattle.std.specs.Prelude.{ℕ, ◌+◌, ◌≤◌, List}
use Rattle.std.specs.FinMap.{FinMap}
use Rattle.std.proofs.Common.{refl, sym, ◌∙◌, add_assoc, add_comm, zero-add}
use Rattle.ps_model.specs.Ring.{Ring}
use Rattle.ps_model.specs.Polynomial.{Polynomial}
use Rattle.ps_model.specs.Keys.{Powers, no_powers, add_powers, weighted, ArePositive, Key, add_keys, y_key}
use Rattle.ps_model.specs.Keys.{key_compare}
use Rattle.ps_model.specs.KeyLaws.{key_compare_total, key_compare-IsAntisymmetric, add_powers-assoc, add_powers-comm}
use Rattle.ps_model.specs.KeyLaws.{no_powers-add, weighted-add, weighted-none, weighted_zero}

pub record SeriesRing : Type 0 where
  pub variables : ℕ
  pub weights : Powers variables
  pub positive : ArePositive variables weights
  pub modulus : ℕ
  pub at_least_two : 2 ≤ modulus

abbrev pub ring_of : (n m : ℕ) → 2 ≤ m → (w : Powers n) → ArePositive n w → Ring
ring_of n m h w positive = record {
  Key = Key n;
  compare = key_compare n;
  total_order = key_compare_total n;
  antisymmetric = key_compare-IsAntisymmetric n;
  ◌⊕◌ = add_keys n;
  origin = y_key n 0;
  plus-assoc = λ x y z i. record {
    powers = add_powers-assoc n x.powers y.powers z.powers i;
    y =
        add_assoc x.y y.y z.y i;
  };
  plus-comm = λ x y i. record { powers = add_powers-comm n x.powers y.powers i; y = add_comm x.y y.y i };
  origin-plus = λ x i. record { powers = no_powers-add n x.powers i; y = zero-add x.y i };
  modulus = m;
  at_least_two = h;
  degree = λ x. weighted n w x.powers;
  y_degree = λ x. x.y;
  degree_adds = (λ x z. weighted-add n w x.powers z.powers, weighted-none n w);
  y_degree_adds = (λ x z. refl, refl);
  y = y_key n;
  rest = λ x. record { powers = x.powers; y = 0 };
  rest-y = λ x i. record {
    powers = (add_powers-comm n x.powers (no_powers n) ∙ no_powers-add n x.powers) i;
    y =
        zero-add x.y i;
  };
  rest-plus = λ x z i. record { powers = add_powers n x.powers z.powers; y = sym (zero-add 0) i };
  rest_of-y = λ j. refl;
  y-zero = refl;
  y-plus = λ i j l. record { powers = sym (no_powers-add n (no_powers n)) l; y = i + j };
  y_degree-y = λ j. refl;
  y_degree-rest = λ x. refl;
  degree-y = λ j. weighted-none n w;
  degree_zero = λ x e i. record { powers = weighted_zero n w x.powers positive e i; y = 0 };
}

abbrev pub ring : SeriesRing → Ring
ring S = ring_of S.variables S.modulus S.at_least_two S.weights S.positive

abbrev pub degree : (S : SeriesRing) → Key S.variables → ℕ
degree S x = weighted S.variables S.weights x.powers

abbrev pub Poly : SeriesRing → Type 0
Poly S = Polynomial (ring S)

abbrev pub PartMap : SeriesRing → Type 0
PartMap S = FinMap (key_compare S.variables) ℕ

abbrev pub Row : SeriesRing → Type 0
Row S = List (PartMap S)
