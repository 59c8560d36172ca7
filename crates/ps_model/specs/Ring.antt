-- What polynomials are made over: keys that add, and the residues modulo a number.
--     Ring      keys with a total order and a sum, and a modulus from 2 on, prime or not. A key
--         is a key without Y, its rest, and a power of Y; of degree 0 are the powers of Y alone
--     IsDegree R d      d of a sum of keys is the sum of both, and 0 at the origin, the key of 1
use Rattle.std.specs.Prelude.{◌≡◌, ℕ, ◌+◌, ◌≤◌}
use Rattle.std.specs.declared.cmp.Ordering.{Ordering}
use Rattle.std.specs.Cmp.{IsTotalOrder}
use Rattle.std.specs.FinMap.{IsAntisymmetric}

pub record Ring : Type 1 where
  pub Key : Type 0
  pub compare : Key → Key → Ordering
  pub total_order : IsTotalOrder compare
  pub antisymmetric : IsAntisymmetric compare
  infixl 30 ◌⊕◌
  pub ◌⊕◌ : Key → Key → Key
  pub origin : Key
  pub plus-assoc : (x y z : Key) → (x ⊕ y) ⊕ z ≡ x ⊕ (y ⊕ z)
  pub plus-comm : (x y : Key) → x ⊕ y ≡ y ⊕ x
  pub origin-plus : (x : Key) → origin ⊕ x ≡ x
  pub modulus : ℕ
  pub at_least_two : 2 ≤ modulus
  -- the degree in the variables, and the power of Y
  pub degree : Key → ℕ
  pub y_degree : Key → ℕ
  pub degree_adds : ((x y : Key) → degree (x ⊕ y) ≡ degree x + degree y) × (degree origin ≡ 0)
  pub y_degree_adds : ((x y : Key) → y_degree (x ⊕ y) ≡ y_degree x + y_degree y) × (y_degree origin ≡ 0)
  -- the key of Y^j, and a key without its power of Y
  pub y : ℕ → Key
  pub rest : Key → Key
  pub rest-y : (x : Key) → rest x ⊕ y (y_degree x) ≡ x
  pub rest-plus : (x z : Key) → rest (x ⊕ z) ≡ rest x ⊕ rest z
  pub rest_of-y : (j : ℕ) → rest (y j) ≡ origin
  pub y-zero : y 0 ≡ origin
  pub y-plus : (i j : ℕ) → y (i + j) ≡ y i ⊕ y j
  pub y_degree-y : (j : ℕ) → y_degree (y j) ≡ j
  pub y_degree-rest : (x : Key) → y_degree (rest x) ≡ 0
  pub degree-y : (j : ℕ) → degree (y j) ≡ 0
  pub degree_zero : (x : Key) → degree x ≡ 0 → rest x ≡ origin

abbrev pub IsDegree : (R : Ring) → (R.Key → ℕ) → Type 0
IsDegree R d = ((x y : R.Key) → d (R.◌⊕◌ x y) ≡ d x + d y) × (d R.origin ≡ 0)
