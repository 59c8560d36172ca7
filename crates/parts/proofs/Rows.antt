-- The products of a term with a list of terms: their keys, their order, their totals.
use Rattle.std.proofs.Common.{◌≡◌, ℕ, zero, suc, ◌+◌, ◌*◌, ◌%◌, ◌<◌, ◌≤◌, List, [], ◌∷◌, ◌++◌, length, get_or}
use Rattle.std.proofs.Common.{take, drop, refl, sym, ◌∙◌, ap, subst, arith, All, inl, inr}
use Rattle.std.specs.Ordering.{nat_cmp, ordering_then}
use Rattle.std.specs.Cmp.{nat_cmp_is}
use Rattle.std.specs.Cmp.Lexicographic.{slice_cmp}
use Rattle.std.specs.declared.cmp.Ordering.TheVariants.{Less, Equal, Greater}
use Rattle.std.proofs.lemmas.Bool.{cases_order, cases_lt}
use Rattle.std.proofs.lemmas.Nat.{mul-mod_first}
use Rattle.std.proofs.Math.Nat.{mod-lt}
use Rattle.ps_model.specs.Keys.{Key, Powers, powers_of, numbers, add_powers, key_compare, add_keys}
use Rattle.ps_model.specs.Sums.{total}
use Rattle.ps_model.proofs.Coefficients.{plus-mod}
use Rattle.parts.specs.declared.rings.Ring.{Ring}
use Rattle.parts.specs.declared.terms.Term.{Term}
use Rattle.parts.specs.Keys.{key_from}
use Rattle.parts.specs.Rings.{modulus_of, weights_of}
use Rattle.parts.specs.Terms.{key_of, IsKeyOf}
use Rattle.parts.specs.TermLists.{AreTermsOf, unless_zero, row_of}
use Rattle.parts.proofs.Ordered.{ArePositive}
use Rattle.parts.proofs.Collected.{IsKeyOf-add}
use Rattle.parts.proofs.Built.{IsBuilt, built_push, rest_of, after_first, first_at}
use Rattle.parts.proofs.Gained.{positive_take}
use Rattle.parts.proofs.LowPowers.{dot_bound}

pub sums_are : (n : ℕ) (zs xs ys : List ℕ) → length zs ≡ n →
    ((k : ℕ) → k < n → get_or zs k 0 ≡ get_or xs k 0 + get_or ys k 0) →
    powers_of n zs ≡ add_powers n (powers_of n xs) (powers_of n ys)
sums_are zero zs xs ys e h = refl
sums_are (suc n) [] xs ys e h = absurd (omega arith)
sums_are (suc n) (z ∷ zs) [] [] e h =
    λ i. (h 0 (omega arith) i, sums_are n zs [] [] (omega arith) (λ k lt. h (suc k) (omega arith)) i)
sums_are (suc n) (z ∷ zs) (x ∷ xs) [] e h =
    λ i. (h 0 (omega arith) i, sums_are n zs xs [] (omega arith) (λ k lt. h (suc k) (omega arith)) i)
sums_are (suc n) (z ∷ zs) [] (y ∷ ys) e h =
    λ i. (h 0 (omega arith) i, sums_are n zs [] ys (omega arith) (λ k lt. h (suc k) (omega arith)) i)
sums_are (suc n) (z ∷ zs) (x ∷ xs) (y ∷ ys) e h =
    λ i. (h 0 (omega arith) i, sums_are n zs xs ys (omega arith) (λ k lt. h (suc k) (omega arith)) i)

-- adding a key keeps the order
shifted_cmp : (a x y : ℕ) → nat_cmp (a + x) (a + y) ≡ nat_cmp x y
shifted_cmp a x y = elim (cases_order x y) [
  | inl e ↦ sym (nat_cmp_is (a + x) (a + y) Equal (omega arith)) ∙ nat_cmp_is x y Equal e
  | inr d ↦ elim d [
    | inl l ↦ sym (nat_cmp_is (a + x) (a + y) Less (omega arith)) ∙ nat_cmp_is x y Less l
    | inr g ↦ sym (nat_cmp_is (a + x) (a + y) Greater (omega arith)) ∙ nat_cmp_is x y Greater g
  ]
]

shifted_numbers : (n : ℕ) (k x y : Powers n) →
    slice_cmp nat_cmp (numbers n (add_powers n k x)) (numbers n (add_powers n k y)) ≡
    slice_cmp nat_cmp (numbers n x) (numbers n y)
shifted_numbers zero k x y = refl
shifted_numbers (suc n) k x y = λ i. ordering_then (shifted_cmp k.0 x.0 y.0 i) (shifted_numbers n k.1 x.1 y.1 i)

pub shifted_order : (k x y : Key 8) → key_compare 8 (add_keys 8 k x) (add_keys 8 k y) ≡ key_compare 8 x y
shifted_order k x y = λ i. ordering_then (shifted_cmp k.y y.y x.y i) (shifted_numbers 8 k.powers y.powers x.powers i)

number_at : (n : ℕ) (xs : List ℕ) (i : ℕ) → i < n → get_or (numbers n (powers_of n xs)) i 0 ≡ get_or xs i 0
number_at zero xs i lt = absurd (omega arith)
number_at (suc n) [] zero lt = refl
number_at (suc n) [] (suc i) lt = number_at n [] i (omega arith)
number_at (suc n) (x ∷ xs) zero lt = refl
number_at (suc n) (x ∷ xs) (suc i) lt = number_at n xs i (omega arith)

past_take : (n : ℕ) (xs : List ℕ) (i : ℕ) → n ≤ i → get_or (take n xs) i 0 ≡ 0
past_take zero xs i le = refl
past_take (suc n) [] i le = refl
past_take (suc n) (x ∷ xs) zero le = absurd (omega arith)
past_take (suc n) (x ∷ xs) (suc i) le = past_take n xs i (omega arith)

-- a power is at most the degree
pub power_bound : (ws : List ℕ) (d : ℕ) (xs : List ℕ) (i : ℕ) → ArePositive ws → IsKeyOf ws d (key_from xs) →
    i < 8 → get_or xs i 0 ≤ d
power_bound ws d xs i p h lt = elim (cases_lt i (length ws)) [
  | inl l ↦ omega (arith, number_at 8 xs i lt, dot_bound ws (numbers 8 (powers_of 8 xs)) i p l, h.weighs)
  | inr g ↦ let e : get_or xs i 0 ≡ 0 =
      sym (number_at 8 xs i lt) ∙ ap (λ k. get_or (numbers 8 k.powers) i 0) h.is ∙
      number_at 8 (take (length ws) (numbers 8 (powers_of 8 xs))) i lt ∙
      past_take (length ws) (numbers 8 (powers_of 8 xs)) i g in omega arith
]

-- the key stands before all products of the key k and the terms
abbrev pub IsBeforeRow : Key 8 → Key 8 → List Term → Type 0
IsBeforeRow l k ts = All (λ t. key_compare 8 l (add_keys 8 k (key_of t.monomial)) ≡ Less) ts

pub row_step : (ring : Ring) (d e : ℕ) (goal : (Key 8 → ℕ) → ℕ) (ts us : List Term) (x u t : Term) (c : ℕ) →
    IsKeyOf (weights_of ring) d (key_of x.monomial) → AreTermsOf ring e (u ∷ us)
    → key_of t.monomial ≡ add_keys 8 (key_of x.monomial) (key_of u.monomial) →
    t.coefficient ≡ (c * u.coefficient) % modulus_of ring
    → IsBuilt ring (d + e) goal (λ f. total f (row_of (key_of x.monomial) c (u ∷ us)))
    (λ l. IsBeforeRow l (key_of x.monomial) (u ∷ us)) ts
    → IsBuilt ring (d + e) goal (λ f. total f (row_of (key_of x.monomial) c us))
    (λ l. IsBeforeRow l (key_of x.monomial) us) (ts ++ unless_zero t)
row_step ring d e goal ts us x u t c x_key terms same is h =
    built_push ring (d + e) goal (λ f. total f (row_of (key_of x.monomial) c (u ∷ us)))
    (λ f. total f (row_of (key_of x.monomial) c us)) (λ l. IsBeforeRow l (key_of x.monomial) (u ∷ us))
    (λ l. IsBeforeRow l (key_of x.monomial) us) ts t h (
      subst (IsKeyOf (weights_of ring) (d + e)) (sym same)
          (IsKeyOf-add (weights_of ring) d e _ _ x_key (terms.entries 0 u (omega arith)).0),
      subst (λ n. n < modulus_of ring) (sym is) (mod-lt _ (let two = ring.modulus.low in omega arith)),
    )
    (λ f. plus-mod (modulus_of ring) _
    ((c * u.coefficient) * f (add_keys 8 (key_of x.monomial) (key_of u.monomial))) _ _
    ((λ i. (is i * f (same i)) % modulus_of ring) ∙
    mul-mod_first (c * u.coefficient) (f (add_keys 8 (key_of x.monomial) (key_of u.monomial)))
    (modulus_of ring)) refl)
    (λ l p. subst (λ k. key_compare 8 l k ≡ Less) (sym same) (p 0 u (omega arith)))
    (λ l p i y lt. p (suc i) y (omega arith))
    (λ i y lt. subst (λ k. key_compare 8 k (add_keys 8 (key_of x.monomial) (key_of (get_or us i y).monomial)) ≡
    Less) (sym same) (shifted_order (key_of x.monomial) (key_of u.monomial)
    (key_of (get_or us i y).monomial) ∙ after_first ring e u us terms i y lt))

module _ (ring : Ring) (d e : ℕ) (us : List Term) (x : Term) (j : ℕ) (z : Term)
    (x_terms : AreTermsOf ring d (x ∷ [])) (terms : AreTermsOf ring e (drop j us)) (lt : j < length us) where
  terms_here : AreTermsOf ring e (get_or us j z ∷ drop (j + 1) us)
  terms_here = subst (AreTermsOf ring e) (first_at us j z lt) terms

  pub powers_fit : d + e ≤ 4095 → (i : ℕ) → i < 8 →
      get_or x.monomial.powers i 0 + get_or (get_or us j z).monomial.powers i 0 ≤ 4095
  powers_fit low i at = omega (
    arith,
    power_bound (weights_of ring) d x.monomial.powers i (positive_take ring.n ring.weights ring.positive)
        (x_terms.entries 0 x (omega arith)).0 at,
    power_bound (weights_of ring) e (get_or us j z).monomial.powers i
        (positive_take ring.n ring.weights ring.positive) (terms_here.entries 0 z (omega arith)).0 at,
  )

  pub row_at : (goal : (Key 8 → ℕ) → ℕ) (ts : List Term) (t : Term) (c : ℕ) →
      key_of t.monomial ≡ add_keys 8 (key_of x.monomial) (key_of (get_or us j z).monomial) →
      t.coefficient ≡ (c * (get_or us j z).coefficient) % modulus_of ring
      → IsBuilt ring (d + e) goal (λ f. total f (row_of (key_of x.monomial) c (drop j us)))
      (λ l. IsBeforeRow l (key_of x.monomial) (drop j us)) ts
      → AreTermsOf ring e (drop (j + 1) us) ×
      IsBuilt ring (d + e) goal (λ f. total f (row_of (key_of x.monomial) c (drop (j + 1) us)))
      (λ l. IsBeforeRow l (key_of x.monomial) (drop (j + 1) us)) (ts ++ unless_zero t)
  row_at goal ts t c same is h = (
    rest_of ring e (get_or us j z) (drop (j + 1) us) terms_here,
    row_step ring d e goal ts (drop (j + 1) us) x (get_or us j z) t c (x_terms.entries 0 x (omega arith)).0
        terms_here same is
        (subst (λ l. IsBuilt ring (d + e) goal (λ f. total f (row_of (key_of x.monomial) c l))
        (λ k. IsBeforeRow k (key_of x.monomial) l) ts) (first_at us j z lt) h),
  )
