-- The coefficient of a product of formal sums in two variables, by its places.
use Rattle.std.proofs.Common.{◌≡◌, ℕ, zero, suc, ◌+◌, ◌-◌, ◌*◌, ◌<◌, ◌≤◌, ◌⊎◌, inl, inr, List, [], ◌∷◌, get_or, All, refl, sym}
use Rattle.std.proofs.Common.{◌∙◌, ap, subst, arith}
use Rattle.std.proofs.lemmas.Bool.{cases_lt}
use Rattle.ps_model.specs.Keys.{Key, add_keys}
use Rattle.ps_model.specs.Sums.{total}
use Rattle.residue.specs.Products.{sum_below}
use Rattle.residue.proofs.Products.{sum_below-same, sum_below-zero, sum_below-add}
use Rattle.parts.specs.SeriesRows.{indicator, pair_key}
use Rattle.parts.proofs.Indicators.{indicator-same, indicator-other, indicator-both, IsPair, first_power, second_power}
use Rattle.parts.proofs.Indicators.{total-agree, total-none}

pub sum_below-linear : (n c : ℕ) (u v : ℕ → ℕ) →
    sum_below n (λ i. c * u i + v i) ≡ c * sum_below n u + sum_below n v
sum_below-linear zero c u v = omega arith
sum_below-linear (suc n) c u v = omega (arith, sum_below-linear n c u v)

-- one number alone counts
pub sum_below-one : (n j : ℕ) (f : ℕ → ℕ) → j < n → ((i : ℕ) → i < n → (i ≡ j → ⊥) → f i ≡ 0) → sum_below n f ≡ f j
sum_below-one zero j f lt h = absurd (omega arith)
sum_below-one (suc n) j f lt h = elim (cases_lt j n) [
  | inl l ↦ omega (
    arith,
    sum_below-one n j f l (λ i k ne. h i (omega arith) ne),
    h n (omega arith) (λ e. omega arith),
  )
  | inr g ↦ let same : j ≡ n = omega arith in
      let none : sum_below n f ≡ 0 = sum_below-zero n f (λ i k. h i (omega arith) (λ e. omega arith)) in
      let here : f n ≡ f j = ap f (sym same) in omega arith
]

-- nothing counts from a number on
pub sum_below-past : (n k : ℕ) (f : ℕ → ℕ) → ((i : ℕ) → n ≤ i → f i ≡ 0) → sum_below (n + k) f ≡ sum_below n f
sum_below-past n k f h =
    omega (arith, sum_below-add n k f, sum_below-zero k (λ i. f (n + i)) (λ i lt. h (n + i) (omega arith)))

module _ (p f : ℕ) (W : List (Key 8 × ℕ)) (pairs : All (λ e. IsPair e.0) W) where
  -- what stands beside a place
  abbrev pub beside : ℕ → ℕ → ℕ
  beside i j = total (indicator (pair_key (p - j) (f - i))) W

  -- one key has one place
  one_key : (q e : ℕ) → sum_below (suc f) (λ i. sum_below (suc p) (λ j. indicator (pair_key j i) (pair_key q e) *
      beside i j)) ≡ total (λ y. indicator (pair_key p f) (add_keys 8 (pair_key q e) y)) W
  one_key q e = elim (cases_lt f e) [
    | inl l ↦ sum_below-zero (suc f) _ (λ i lt. sum_below-zero (suc p) _ (λ j _.
        gone i j (indicator-other (pair_key j i) (pair_key q e)
        (λ s. let t = second_power j i q e s in omega arith)))) ∙ sym (none_beyond (inr l))
    | inr g ↦ elim (cases_lt p q) [
      | inl l ↦ sum_below-zero (suc f) _ (λ i _. sum_below-zero (suc p) _ (λ j lt.
          gone i j (indicator-other (pair_key j i) (pair_key q e)
          (λ s. let t = first_power j i q e s in omega arith)))) ∙ sym (none_beyond (inl l))
      | inr h ↦ sum_below-one (suc f) e _ (omega arith) (λ i lt ne. sum_below-zero (suc p) _ (λ j _.
          gone i j (indicator-other (pair_key j i) (pair_key q e) (λ s. ne (second_power j i q e s)))))
          ∙ sum_below-one (suc p) q _ (omega arith) (λ j lt ne.
          gone e j (indicator-other (pair_key j e) (pair_key q e) (λ s. ne (first_power j e q e s))))
          ∙ itself_once ∙ total-agree (indicator (pair_key (p - q) (f - e)))
          (λ y. indicator (pair_key p f) (add_keys 8 (pair_key q e) y)) W
          (λ i d lt. moved h g (get_or W i d).0 (pairs i d lt))
    ]
  ]
    where
      gone : (i j : ℕ) {n : ℕ} → n ≡ 0 → n * beside i j ≡ 0
      gone i j z = rw z (omega arith)

      itself_once : indicator (pair_key q e) (pair_key q e) * beside e q ≡ beside e q
      itself_once = let one : indicator (pair_key q e) (pair_key q e) ≡ 1 =
          indicator-same (pair_key q e) (pair_key q e) refl in rw one (omega arith)

      -- past p or f there is no product with the key
      beyond_pair : (p < q) ⊎ (f < e) → (y : Key 8) → pair_key p f ≡ add_keys 8 (pair_key q e) y → ⊥
      beyond_pair (inl l) y s = let t = ap (λ (k : Key 8). k.powers.0) s in omega arith
      beyond_pair (inr l) y s = let t = ap (λ (k : Key 8). k.powers.1.0) s in omega arith

      none_beyond : (p < q) ⊎ (f < e) → total (λ y. indicator (pair_key p f) (add_keys 8 (pair_key q e) y)) W ≡ 0
      none_beyond h = total-none (λ y. indicator (pair_key p f) (add_keys 8 (pair_key q e) y)) W
          (λ i d lt. indicator-other (pair_key p f) (add_keys 8 (pair_key q e) (get_or W i d).0)
          (beyond_pair h (get_or W i d).0))

      moved : q ≤ p → e ≤ f → (y : Key 8) → IsPair y →
          indicator (pair_key (p - q) (f - e)) y ≡ indicator (pair_key p f) (add_keys 8 (pair_key q e) y)
      moved h g y is =
          subst (λ (z : Key 8). indicator (pair_key (p - q) (f - e)) z ≡
          indicator (pair_key p f) (add_keys 8 (pair_key q e) z)) (sym is)
          (at_pair y.powers.0 y.powers.1.0)
        where
          at_pair : (a b : ℕ) → indicator (pair_key (p - q) (f - e)) (pair_key a b) ≡
              indicator (pair_key p f) (add_keys 8 (pair_key q e) (pair_key a b))
          at_pair a b = indicator-both _ _ _ _
              (λ s. let u = first_power (p - q) (f - e) a b s in let v = second_power (p - q) (f - e) a b s in
              let k : p ≡ q + a = omega arith in let l : f ≡ e + b = omega arith in λ i. pair_key (k i) (l i))
              (λ s. let u = first_power p f (q + a) (e + b) s in let v = second_power p f (q + a) (e + b) s in
              let k : p - q ≡ a = omega arith in let l : f - e ≡ b = omega arith in λ i. pair_key (k i) (l i))

  one_key_at : (x : Key 8) → IsPair x → sum_below (suc f) (λ i. sum_below (suc p) (λ j. indicator (pair_key j i) x *
      beside i j)) ≡ total (λ y. indicator (pair_key p f) (add_keys 8 x y)) W
  one_key_at x is = subst (λ (z : Key 8). sum_below (suc f) (λ i. sum_below (suc p) (λ j. indicator (pair_key j i) z *
      beside i j)) ≡ total (λ y. indicator (pair_key p f) (add_keys 8 z y)) W) (sym is)
      (one_key x.powers.0 x.powers.1.0)

  pub crossed_pairs : (A : List (Key 8 × ℕ)) → All (λ e. IsPair e.0) A →
      sum_below (suc f) (λ i. sum_below (suc p) (λ j. total (indicator (pair_key j i)) A * beside i j)) ≡
      total (λ x. total (λ y. indicator (pair_key p f) (add_keys 8 x y)) W) A
  crossed_pairs [] h = sum_below-zero (suc f) _ (λ i _. sum_below-zero (suc p) _ (λ j _. nought (beside i j)))
    where
      nought : (n : ℕ) → 0 * n ≡ 0
      nought n = omega arith
  crossed_pairs (a ∷ A) h =
      sum_below-same (suc f) _ _ (λ i _. sum_below-same (suc p) _ _ (λ j _.
      spread a.1 (indicator (pair_key j i) a.0) (total (indicator (pair_key j i)) A) (beside i j)) ∙
      sum_below-linear (suc p) a.1 (λ j. indicator (pair_key j i) a.0 * beside i j)
      (λ j. total (indicator (pair_key j i)) A * beside i j))
      ∙ sum_below-linear (suc f) a.1 (λ i. sum_below (suc p) (λ j. indicator (pair_key j i) a.0 * beside i j))
      (λ i. sum_below (suc p) (λ j. total (indicator (pair_key j i)) A * beside i j))
      ∙ (λ l. a.1 * one_key_at a.0 (h 0 a (omega arith)) l + crossed_pairs A (λ i d lt. h (suc i) d (omega arith)) l)
    where
      spread : (c u t v : ℕ) → (c * u + t) * v ≡ c * (u * v) + t * v
      spread c u t v = omega arith
