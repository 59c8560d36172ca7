-- The coefficients of a shifted polynomial, by binomials.
use Rattle.std.proofs.Common.{◌≡◌, ℕ, zero, suc, ◌+◌, ◌-◌, ◌*◌, ◌%◌, ◌^◌, ◌<◌, ◌≤◌, Bool, true, false, cond, refl}
use Rattle.std.proofs.Common.{sym}
use Rattle.std.proofs.Common.{◌∙◌, ap, arith, inl, inr, zero-add}
use Rattle.std.specs.Prelude.{◌==◌}
use Rattle.std.specs.Ordering.{eq_by_cmp}
use Rattle.std.proofs.Math.Dec.{ltb}
use Rattle.std.proofs.lemmas.Bool.{cases_lt, eq-eqb, ne_eqb, eqb-true, ltb-true}
use Rattle.std.proofs.lemmas.Bool.Decides.{nat_tests}
use Rattle.std.proofs.Math.Nat.{add-mod, add-mod-mod, mod-add-mod, one-mul, pow-suc, pow-zero}
use Rattle.ps_model.specs.Ring.{Ring}
use Rattle.ps_model.proofs.Below.{below}
use Rattle.ps_model.specs.Shift.{linear, shifted_key, shifted, binomial, numbers_to}
use Rattle.ps_model.specs.Polynomial.{Polynomial, coefficient, product, power}
use Rattle.ps_model.proofs.Coefficients.{linear_form, at_key, itself, coefficient-linear_form}
use Rattle.ps_model.proofs.Values.{linear_form-mod, linear_form-plus, linear_form-times, linear_form-monomial}
use Rattle.ps_model.proofs.Values.{linear_form-one, linear_form-sum, linear_form-product, linear_form-kept_terms}
use Rattle.ps_model.proofs.Values.{linear_form-image, linear_form-residue}
use Rattle.ps_model.proofs.RingLaws.{mul-mod_last}
use Rattle.ps_model.proofs.Origin.{key_cases, same_key}
use Rattle.ps_model.proofs.Monic.{when}

-- sums of numbers
pub numbers-same : (n : ℕ) (f g : ℕ → ℕ) → ((i : ℕ) → i ≤ n → f i ≡ g i) → numbers_to n f ≡ numbers_to n g
numbers-same zero f g h = h 0 (omega arith)
numbers-same (suc n) f g h = λ i. numbers-same n f g (λ j le. h j (omega arith)) i + h (suc n) (omega arith) i

numbers-plus : (n : ℕ) (f g : ℕ → ℕ) → numbers_to n (λ i. f i + g i) ≡ numbers_to n f + numbers_to n g
numbers-plus zero f g = refl
numbers-plus (suc n) f g = omega (arith, numbers-plus n f g)

numbers-times : (n c : ℕ) (f : ℕ → ℕ) → numbers_to n (λ i. c * f i) ≡ c * numbers_to n f
numbers-times zero c f = refl
numbers-times (suc n) c f = omega (arith, numbers-times n c f)

numbers-first : (n : ℕ) (f : ℕ → ℕ) → numbers_to (suc n) f ≡ f 0 + numbers_to n (λ i. f (suc i))
numbers-first zero f = refl
numbers-first (suc n) f = omega (arith, numbers-first n f)

-- a sum of which one term counts
numbers-none : (n i : ℕ) (u : ℕ → ℕ) → n < i → numbers_to n (λ l. u l * cond (l == i) 1 0) ≡ 0
numbers-none zero i u h = rw (ne_eqb 0 i (λ e. omega arith)) (omega arith)
numbers-none (suc n) i u h = rw (ne_eqb (suc n) i (λ e. omega arith)) (omega (arith, numbers-none n i u (omega arith)))

numbers-one : (n i : ℕ) (u : ℕ → ℕ) → i ≤ n → numbers_to n (λ l. u l * cond (l == i) 1 0) ≡ u i
numbers-one zero i u h = let e : i ≡ 0 = omega arith in rw e (omega arith)
numbers-one (suc n) i u h =
    elim (suc n == i) as (λ b. (suc n == i) ≡ b → numbers_to n (λ l. u l * cond (l == i) 1 0) + u (suc n) * cond b 1 0
    ≡ u i) [
      | true ↦ λ e. ap (λ s. s + u (suc n) * 1) (numbers-none n i u (let is = eqb-true (suc n) i e in omega arith))
          ∙ (let is = eqb-true (suc n) i e in rw (← is) (omega arith))
      | false ↦ λ e. omega (arith, numbers-one n i u (smaller e))
    ] refl
  where
    smaller : (suc n == i) ≡ false → i ≤ n
    smaller e = grind (arith, nat_tests)

-- the coefficient of Y^i in (Y + c)^j
abbrev tail : ℕ → ℕ → ℕ → ℕ
tail c zero zero = 1
tail c zero (suc i) = 0
tail c (suc j) zero = c * tail c j zero
tail c (suc j) (suc i) = tail c j i + c * tail c j (suc i)

tail-above : (c j i : ℕ) → j < i → tail c j i ≡ 0
tail-above c zero zero h = absurd (omega arith)
tail-above c zero (suc i) h = refl
tail-above c (suc j) zero h = absurd (omega arith)
tail-above c (suc j) (suc i) h = rw (tail-above c j i (omega arith), tail-above c j (suc i) (omega arith)) (omega arith)

pub binomial-above : (j i : ℕ) → j < i → binomial j i ≡ 0
binomial-above j zero h = absurd (omega arith)
binomial-above zero (suc i) h = refl
binomial-above (suc j) (suc i) h = omega (
  arith,
  binomial-above j i (omega arith),
  binomial-above j (suc i)
      (omega arith),
)

tail-binomial : (c j i : ℕ) → tail c j i ≡ binomial j i * c ^ (j - i)
tail-binomial c zero zero = rw pow-zero refl
tail-binomial c zero (suc i) = omega arith
tail-binomial c (suc j) zero = ap (λ n. c * n) (tail-binomial c j zero) ∙ raise j (j - zero) (suc j - zero)
    (omega arith) (omega arith)
  where
    raise : (n a b : ℕ) → a ≡ n → b ≡ suc n → c * (1 * c ^ a) ≡ 1 * c ^ b
    raise n a b p q = rw (p, q, pow-suc) (omega arith)
tail-binomial c (suc j) (suc i) = (λ l. tail-binomial c j i l + c * tail-binomial c j (suc i) l)
    ∙ elim (cases_lt i j) as (λ _. binomial j i * c ^ (j - i) + c * (binomial j (suc i) * c ^ (j - suc i))
    ≡ (binomial j i + binomial j (suc i)) * c ^ (suc j - suc i)) [
      | inl h ↦
          raise (binomial j i) (binomial j (suc i)) (j - suc i) (j - i) (suc j - suc i) (omega arith) (omega arith)
      | inr h ↦ flat (binomial j i) (binomial j (suc i)) (j - i) (suc j - suc i) (c ^ (j - suc i))
          (binomial-above j (suc i) (omega arith)) (omega arith)
    ]
  where
    raise : (x z n a b : ℕ) → a ≡ suc n → b ≡ suc n → x * c ^ a + c * (z * c ^ n) ≡ (x + z) * c ^ b
    raise x z n a b p q = rw (p, q, pow-suc) (omega arith)

    flat : (x z a b w : ℕ) → z ≡ 0 → b ≡ a → x * c ^ a + c * (z * w) ≡ (x + z) * c ^ b
    flat x z a b w p q = rw (p, q) (omega arith)

pascal : (c j : ℕ) (g : ℕ → ℕ) → numbers_to (suc j) (λ i. tail c (suc j) i * g i) ≡ numbers_to j
    (λ i. tail c j i * g (suc i)) + c * numbers_to j (λ i. tail c j i * g i)
pascal c j g = numbers-first j _ ∙ ap (λ s. (c * tail c j 0) * g 0 + s)
    (numbers-same j _ (λ i. tail c j i * g (suc i) + c * (tail c j (suc i) * g (suc i))) (λ i le. omega arith)
    ∙ numbers-plus j _ _)
    ∙ omega (
      arith,
      numbers-times j c (λ i. tail c j (suc i) * g (suc i)),
      ap (λ n. c * n)
          (numbers-first j (λ i. tail c j i * g i)),
      ap (λ n. c * n) above,
    )
  where
    above : tail c j (suc j) * g (suc j) ≡ 0
    above = rw (tail-above c j (suc j) (omega arith)) (omega arith)

module _ (R : Ring) where
  linear_form-linear_product : (f : R.Key → ℕ) (c : ℕ) (q : Polynomial R) → linear_form R f (product R (linear R c) q)
      ≡ (linear_form R (λ z. f (R.◌⊕◌ (R.y 1) z)) q + c * linear_form R f q) % R.modulus
  unfolding linear
  linear_form-linear_product f c q = simp (
    linear_form-product,
    linear_form-sum,
    linear_form-monomial,
    R.origin-plus,
    add-mod-mod,
    mod-add-mod,
    one-mul,
  )

  linear_form-linear_power : (f : R.Key → ℕ) (c j : ℕ) → linear_form R f (power R (linear R c) j) ≡ numbers_to j
      (λ i. tail c j i * f (R.y i)) % R.modulus
  linear_form-linear_power f c zero = linear_form-one R f
      ∙ ap (λ n. n % R.modulus) (sym (one-mul _) ∙ ap (λ z. 1 * f z) (sym R.y-zero))
  linear_form-linear_power f c (suc j) = linear_form-linear_product f c (power R (linear R c) j)
      ∙ rw (linear_form-linear_power f c j, linear_form-linear_power (λ z. f (R.◌⊕◌ (R.y 1) z)) c j)
      (added (numbers_to j (λ i. tail c j i * f (R.◌⊕◌ (R.y 1) (R.y i))))
      (numbers_to j (λ i. tail c j i * f (R.y i)))
      ∙ ap (λ n. n % R.modulus) (ap (λ n. n + c * numbers_to j (λ i. tail c j i * f (R.y i)))
      (numbers-same j _ _ (λ i le. ap (λ z. tail c j i * f z) (sym (R.y-plus 1 i) ∙ ap R.y (omega arith))))
      ∙ sym (pascal c j (λ i. f (R.y i)))))
    where
      added : (a b : ℕ) → (a % R.modulus + c * (b % R.modulus)) % R.modulus ≡ (a + c * b) % R.modulus
      added a b = mod-add-mod a R.modulus (c * (b % R.modulus)) ∙ sym (add-mod-mod a (c * (b % R.modulus)) R.modulus)
          ∙ ap (λ n. (a + n) % R.modulus) (mul-mod_last c b R.modulus) ∙ add-mod-mod a (c * b) R.modulus

  linear_form-shifted_key : (f : R.Key → ℕ) (c : ℕ) (x : R.Key) → linear_form R f (shifted_key R c x)
      ≡ numbers_to (R.y_degree x) (λ i. tail c (R.y_degree x) i * f (R.◌⊕◌ (R.rest x) (R.y i))) % R.modulus
  unfolding shifted_key
  linear_form-shifted_key f c x = simp (linear_form-product, linear_form-monomial, one-mul, linear_form-residue)
      (linear_form-linear_power (λ z. f (R.◌⊕◌ (R.rest x) z)) c (R.y_degree x))

  linear_form-shifted : (f : R.Key → ℕ) (c : ℕ) (p : Polynomial R) → linear_form R f (shifted R c p) ≡ linear_form R
      (λ x. linear_form R f (shifted_key R c x)) p
  unfolding shifted
  linear_form-shifted f c p = linear_form-image R f (shifted_key R c) p

  own_rest : (e : R.Key) → R.y_degree e ≡ 0 → R.rest e ≡ e
  own_rest e he = sym (R.plus-comm _ _ ∙ R.origin-plus _) ∙ ap (R.◌⊕◌ (R.rest e)) (sym R.y-zero ∙ ap R.y (sym he))
      ∙ R.rest-y e

  rest_of_place : (e : R.Key) (i : ℕ) → R.y_degree e ≡ 0 → R.rest (R.◌⊕◌ e (R.y i)) ≡ e
  rest_of_place e i he = R.rest-plus e (R.y i) ∙ ap (R.◌⊕◌ (R.rest e)) (R.rest_of-y i) ∙ R.plus-comm _ _
      ∙ R.origin-plus _ ∙ own_rest e he

  height_of_place : (e : R.Key) (i : ℕ) → R.y_degree e ≡ 0 → R.y_degree (R.◌⊕◌ e (R.y i)) ≡ i
  height_of_place e i he = R.y_degree_adds.0 e (R.y i) ∙ (λ l. he l + R.y_degree-y i l) ∙ zero-add i

  apart_place : (e x : R.Key) (i j : ℕ) (s t : Bool) → eq_by_cmp R.compare e x ≡ s → (j == i) ≡ t
      → (R.◌⊕◌ e (R.y i) ≡ R.◌⊕◌ x (R.y j) → ⊥) → ◌≡◌ {A = ℕ} 0 (cond s 1 0 * cond t 1 0)
  apart_place e x i j true true p q h = absurd (h λ l. R.◌⊕◌ (same_key R e x p l) (R.y (sym (eqb-true j i q) l)))
  apart_place e x i j true false p q h = refl
  apart_place e x i j false true p q h = refl
  apart_place e x i j false false p q h = refl

  -- of keys without Y, with Y^i and Y^j
  same_place : (e x : R.Key) (i j : ℕ) → R.y_degree e ≡ 0 → R.y_degree x ≡ 0 → at_key R (R.◌⊕◌ e (R.y i))
      (R.◌⊕◌ x (R.y j)) ≡ cond (eq_by_cmp R.compare e x) 1 0 * cond (j == i) 1 0
  same_place e x i j he hx = key_cases R (R.◌⊕◌ e (R.y i)) (R.◌⊕◌ x (R.y j))
      (λ b. ◌≡◌ {A = ℕ} (cond b 1 0) (cond (eq_by_cmp R.compare e x) 1 0 * cond (j == i) 1 0))
      (λ is. let key : e ≡ x = sym (rest_of_place e i he) ∙ ap R.rest is ∙ rest_of_place x j hx in
      let power : j ≡ i = sym (height_of_place x j hx) ∙ sym (ap R.y_degree is) ∙ height_of_place e i he in
      let tied : eq_by_cmp R.compare e x ≡ true = ap (eq_by_cmp R.compare e) (sym key)
      ∙ itself R.compare R.total_order R.antisymmetric e in
      rw (eq-eqb j i power, tied) refl)
      (λ differs. apart_place e x i j _ _ refl refl differs)

  -- at the key x of p, what it gives to the coefficient at e and Y^i
  given : (c K i n : ℕ) (E : ℕ) → n ≤ K → numbers_to n (λ l. tail c n l * (E * cond (l == i) 1 0)) ≡ numbers_to K
      (λ j. (binomial j i * c ^ (j - i)) * (E * cond (n == j) 1 0))
  given c K i n E le = numbers-same n _ (λ l. (E * tail c n l) * cond (l == i) 1 0) (λ l _. omega arith) ∙ first
      ∙ sym (numbers-same K _ (λ j. (E * tail c j i) * cond (j == n) 1 0) (λ j _. turned j)
      ∙ numbers-one K n (λ j. E * tail c j i) le)
    where
      first : numbers_to n (λ l. (E * tail c n l) * cond (l == i) 1 0) ≡ E * tail c n i
      first = elim (cases_lt n i) as (λ _. numbers_to n (λ l. (E * tail c n l) * cond (l == i) 1 0) ≡ E * tail c n i) [
        | inl h ↦ numbers-none n i (λ l. E * tail c n l) h ∙ rw (tail-above c n i h) (omega arith)
        | inr h ↦ numbers-one n i (λ l. E * tail c n l) h
      ]

      turn : (a b : ℕ) → (a == b) ≡ (b == a)
      turn a b = grind (arith, nat_tests)

      turned : (j : ℕ) → (binomial j i * c ^ (j - i)) * (E * cond (n == j) 1 0) ≡ (E * tail c j i) * cond (j == n) 1 0
      turned j = rw (← tail-binomial c j i, turn n j) (omega arith)

  linear_form-numbers : (K : ℕ) (t : ℕ → ℕ) (F : ℕ → R.Key → ℕ) (p : Polynomial R)
      → numbers_to K (λ j. t j * linear_form R (F j) p) % R.modulus ≡ linear_form R
      (λ x. numbers_to K (λ j. t j * F j x)) p
  linear_form-numbers zero t F p = sym (linear_form-times R (t 0) (F 0) p)
  linear_form-numbers (suc K) t F p = add-mod _ _ R.modulus
      ∙ (λ i. (linear_form-numbers K t F p i + sym (linear_form-times R (t (suc K)) (F (suc K)) p) i) % R.modulus)
      ∙ sym (linear_form-plus R _ _ p)

  -- forms that agree below Y^(K+1)
  linear_form-below : (K : ℕ) (f g : R.Key → ℕ) (p : Polynomial R) → ((x : R.Key) → R.y_degree x ≤ K → f x ≡ g x)
      → linear_form R f (below R R.y_degree (suc K) p) ≡ linear_form R g (below R R.y_degree (suc K) p)
  unfolding below
  linear_form-below K f g p same = linear_form-kept_terms R f _ p
      ∙ (λ i. linear_form R
      (λ x. when (ltb (R.y_degree x) (suc K)) _ _
      (λ e. same x (let lt = ltb-true (R.y_degree x) (suc K) e in omega arith)) i) p)
      ∙ sym (linear_form-kept_terms R g _ p)

  pub coefficient-shifted : (c K : ℕ) (p : Polynomial R) → below R R.y_degree (suc K) p ≡ p → (e : R.Key) (i : ℕ)
      → R.y_degree e ≡ 0
      → coefficient R (shifted R c p) (R.◌⊕◌ e (R.y i)) ≡ numbers_to K
      (λ j. (binomial j i * c ^ (j - i)) * coefficient R p (R.◌⊕◌ e (R.y j))) % R.modulus
  coefficient-shifted c K p within e i he = sym (coefficient-linear_form R _ _)
      ∙ linear_form-shifted (at_key R (R.◌⊕◌ e (R.y i))) c p
      ∙ (λ l. linear_form R (λ x. linear_form-shifted_key (at_key R (R.◌⊕◌ e (R.y i))) c x l) p) ∙ linear_form-mod R _ p
      ∙ ap (linear_form R left) (sym within) ∙ linear_form-below K left right p same
      ∙ ap (linear_form R right) within
      ∙ sym (ap (λ n. n % R.modulus)
      (numbers-same K _ _ (λ j _. ap (λ n. (binomial j i * c ^ (j - i)) * n) (sym (coefficient-linear_form R p _))))
      ∙ linear_form-numbers K (λ j. binomial j i * c ^ (j - i)) (λ j. at_key R (R.◌⊕◌ e (R.y j))) p)
    where
      left : R.Key → ℕ
      left x = numbers_to (R.y_degree x) (λ l. tail c (R.y_degree x) l * at_key R (R.◌⊕◌ e (R.y i))
          (R.◌⊕◌ (R.rest x) (R.y l)))

      right : R.Key → ℕ
      right x = numbers_to K (λ j. (binomial j i * c ^ (j - i)) * at_key R (R.◌⊕◌ e (R.y j)) x)

      same : (x : R.Key) → R.y_degree x ≤ K → left x ≡ right x
      same x le = numbers-same (R.y_degree x) _ _
          (λ l _. ap (λ n. tail c (R.y_degree x) l * n) (same_place e (R.rest x) i l he (R.y_degree-rest x)))
          ∙ given c K i (R.y_degree x) (cond (eq_by_cmp R.compare e (R.rest x)) 1 0) le
          ∙ sym (numbers-same K _ _ (λ j _. ap (λ n. (binomial j i * c ^ (j - i)) * n)
          (ap (at_key R (R.◌⊕◌ e (R.y j))) (sym (R.rest-y x)) ∙ same_place e (R.rest x) j (R.y_degree x) he
          (R.y_degree-rest x))))
