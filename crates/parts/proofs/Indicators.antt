-- Forms that are 1 at one key alone; keys with powers of the first two variables alone.
use Rattle.std.proofs.Common.{◌≡◌, ℕ, ◌+◌, ◌*◌, true, false, cond, List, [], ◌∷◌, All}
use Rattle.std.proofs.Common.{refl, sym, ap, subst, arith, suc}
use Rattle.std.specs.Ordering.{eq_by_cmp}
use Rattle.ps_model.specs.Keys.{Key, key_compare, add_keys}
use Rattle.ps_model.specs.KeyLaws.{key_compare_total, key_compare-IsAntisymmetric}
use Rattle.ps_model.specs.Sums.{total}
use Rattle.ps_model.proofs.Coefficients.{tie, itself}
use Rattle.parts.specs.SeriesRows.{indicator, pair_key}

same_key : (k x : Key 8) → eq_by_cmp (key_compare 8) k x ≡ true → k ≡ x
same_key k x e = tie (key_compare 8) (key_compare_total 8) (key_compare-IsAntisymmetric 8) k x e

equal_itself : (k : Key 8) → eq_by_cmp (key_compare 8) k k ≡ true
equal_itself k = itself (key_compare 8) (key_compare_total 8) (key_compare-IsAntisymmetric 8) k

pub indicator-same : (k x : Key 8) → k ≡ x → indicator k x ≡ 1
indicator-same k x e =
    ap (λ b. cond b 1 0) (subst (λ z. eq_by_cmp (key_compare 8) k z ≡ true) e (equal_itself k))

pub indicator-other : (k x : Key 8) → (k ≡ x → ⊥) → indicator k x ≡ 0
indicator-other k x ne =
    elim (eq_by_cmp (key_compare 8) k x) as (λ b. eq_by_cmp (key_compare 8) k x ≡ b → ◌≡◌ {A = ℕ} (cond b 1 0) 0) [
      | true ↦ λ e. absurd (ne (same_key k x e))
      | false ↦ λ e. refl
    ] refl

-- two are equal where one is 1 just where the other is
pub indicator-both : (k x l y : Key 8) → (k ≡ x → l ≡ y) → (l ≡ y → k ≡ x) → indicator k x ≡ indicator l y
indicator-both k x l y to back =
    elim (eq_by_cmp (key_compare 8) k x) as
    (λ b. eq_by_cmp (key_compare 8) k x ≡ b → ◌≡◌ {A = ℕ} (cond b 1 0) (indicator l y)) [
      | true ↦ λ e. sym (indicator-same l y (to (same_key k x e)))
      | false ↦ λ e. sym (indicator-other l y (λ s. differ e (back s)))
    ] refl
  where
    differ : eq_by_cmp (key_compare 8) k x ≡ false → k ≡ x → ⊥
    differ e s =
        let t : eq_by_cmp (key_compare 8) k x ≡ true =
        subst (λ z. eq_by_cmp (key_compare 8) k z ≡ true) s (equal_itself k) in cc

-- a key with no powers but of the first two variables
abbrev pub IsPair : Key 8 → Type 0
IsPair k = k ≡ pair_key k.powers.0 k.powers.1.0

pub first_power : (p f q e : ℕ) → pair_key p f ≡ pair_key q e → p ≡ q
first_power p f q e s = ap (λ (k : Key 8). k.powers.0) s

pub second_power : (p f q e : ℕ) → pair_key p f ≡ pair_key q e → f ≡ e
second_power p f q e s = ap (λ (k : Key 8). k.powers.1.0) s

pub pair_key-add : (p f q e : ℕ) → add_keys 8 (pair_key p f) (pair_key q e) ≡ pair_key (p + q) (f + e)
pair_key-add p f q e = refl

-- forms that agree at all keys of a formal sum
pub total-agree : {K : Type 0} (f g : K → ℕ) (es : List (K × ℕ)) → All (λ e. f e.0 ≡ g e.0) es → total f es ≡ total g es
total-agree f g [] h = refl
total-agree f g (e ∷ es) h =
    (λ i. e.1 * h 0 e (omega arith) i + total-agree f g es (λ j d lt. h (suc j) d (omega arith)) i)

pub total-none : {K : Type 0} (f : K → ℕ) (es : List (K × ℕ)) → All (λ e. f e.0 ≡ 0) es → total f es ≡ 0
total-none f [] h = refl
total-none f (e ∷ es) h =
    let here : f e.0 ≡ 0 = h 0 e (omega arith) in
    let rest : total f es ≡ 0 = total-none f es (λ j d lt. h (suc j) d (omega arith)) in
    rw (here, rest) (omega arith)
