-- Sums of products of lists of terms, one row after the other.
use Rattle.std.proofs.Common.{◌≡◌, ℕ, ◌+◌, ◌-◌, ◌*◌, ◌%◌, ◌<◌, Bool, cond, List, [], ◌∷◌, ◌++◌, length, get_or, take}
use Rattle.std.proofs.Common.{map, refl, sym, ◌∙◌, ap, arith}
use Rattle.std.proofs.lemmas.List.{take_more}
use Rattle.std.proofs.lemmas.Nat.{mul-mod_first}
use Rattle.std.specs.FinMap.{FinMap, entries, from_entries}
use Rattle.ps_model.specs.FiniteMaps.{collected}
use Rattle.ps_model.specs.Keys.{Key, add_keys, key_compare}
use Rattle.ps_model.specs.Sums.{total, multiples, products}
use Rattle.ps_model.proofs.Totals.{total-append, total-multiples}
use Rattle.ps_model.proofs.Coefficients.{plus-mod}
use Rattle.parts.specs.declared.rings.Ring.{Ring}
use Rattle.parts.specs.declared.terms.Term.{Term}
use Rattle.parts.specs.Rings.{modulus_of}
use Rattle.parts.specs.Terms.{key_of, entry_of, sign}
use Rattle.parts.specs.TermLists.{IsTotal, row_of}
use Rattle.parts.specs.AccumulatorValue.{with_product, with_multiple}
use Rattle.parts.proofs.Built.{total_is}
use Rattle.parts.proofs.Totals.{sign_is}

-- a list of terms may stand for what it is the total of
pub total_through : (ring : Ring) (d : ℕ) (xs es : List (Key 8 × ℕ)) (row ts : List Term) → IsTotal ring d es row →
    IsTotal ring d (xs ++ map entry_of row) ts → IsTotal ring d (xs ++ es) ts
total_through ring d xs es row ts h k = record {
  terms = k.terms;
  totals = λ f. k.totals f ∙ ap (λ n. n % modulus_of ring) (total-append f xs (map entry_of row)) ∙
      plus-mod (modulus_of ring) _ _ _ _ refl (h.totals f) ∙ ap (λ n. n % modulus_of ring) (sym (total-append f xs es));
}

total-row_of : (f : Key 8 → ℕ) (k : Key 8) (c : ℕ) (us : List Term) →
    total f (row_of k c us) ≡ c * total (λ y. f (add_keys 8 k y)) (map entry_of us)
total-row_of f k c [] = omega arith
total-row_of f k c (u ∷ us) = omega (arith, total-row_of f k c us)

products_more : (f : Key 8 → ℕ) (xs : List Term) (x : Term) (b : List Term) →
    total f (products (add_keys 8) (map entry_of (xs ++ x ∷ [])) (map entry_of b)) ≡
    total f (products (add_keys 8) (map entry_of xs) (map entry_of b)) +
    total f (row_of (key_of x.monomial) x.coefficient b)
products_more f [] x b = total-append f (row_of (key_of x.monomial) x.coefficient b) [] ∙ omega arith
products_more f (y ∷ ys) x b =
    total-append f (row_of (key_of y.monomial) y.coefficient b)
    (products (add_keys 8) (map entry_of (ys ++ x ∷ [])) (map entry_of b)) ∙ omega (
      arith,
      products_more f ys x b,
      total-append f (row_of (key_of y.monomial) y.coefficient b)
          (products (add_keys 8) (map entry_of ys) (map entry_of b)),
    )

module _ (ring : Ring) (d : ℕ) (minus : Bool) (xs : List (Key 8 × ℕ)) (a b : List Term) where
  pub products_step : (ts row new : List Term) (i : ℕ) (x : Term) (c : ℕ) → i < length a →
      (get_or a i x).coefficient < modulus_of ring →
      c ≡ cond minus ((modulus_of ring - (get_or a i x).coefficient) % modulus_of ring) (get_or a i x).coefficient
      → IsTotal ring d (xs ++ multiples (sign (modulus_of ring) minus)
      (products (add_keys 8) (map entry_of (take i a)) (map entry_of b))) ts
      → IsTotal ring d (row_of (key_of (get_or a i x).monomial) c b) row →
      IsTotal ring d (map entry_of ts ++ map entry_of row) new
      → IsTotal ring d (xs ++ multiples (sign (modulus_of ring) minus)
      (products (add_keys 8) (map entry_of (take (i + 1) a)) (map entry_of b))) new
  products_step ts row new i x c lt small is so_far row_is new_is = record {
    terms = new_is.terms;
    totals = λ f. new_is.totals f ∙ ap (λ n. n % modulus_of ring) (total-append f (map entry_of ts) (map entry_of row))
        ∙ plus-mod (modulus_of ring) _ _ _ _ (so_far.totals f) (row_is.totals f ∙ signed f)
        ∙ ap (λ n. n % modulus_of ring) (whole f);
  }
    where
      s : ℕ
      s = sign (modulus_of ring) minus

      before : List (Key 8 × ℕ)
      before = products (add_keys 8) (map entry_of (take i a)) (map entry_of b)

      after : List (Key 8 × ℕ)
      after = products (add_keys 8) (map entry_of (take (i + 1) a)) (map entry_of b)

      k : Term
      k = get_or a i x

      signed : (f : Key 8 → ℕ) →
          total f (row_of (key_of k.monomial) c b) % modulus_of ring ≡
          (s * total f (row_of (key_of k.monomial) k.coefficient b)) % modulus_of ring
      signed f = ap (λ n. n % modulus_of ring) (total-row_of f (key_of k.monomial) c b)
          ∙ sym (mul-mod_first c _ (modulus_of ring)) ∙
          ap (λ n. (n * total (λ y. f (add_keys 8 (key_of k.monomial) y)) (map entry_of b)) % modulus_of ring)
          (sign_is (modulus_of ring) k.coefficient c minus small is)
          ∙ mul-mod_first (s * k.coefficient) _ (modulus_of ring)
          ∙ ap (λ n. n % modulus_of ring)
          (regrouped s k.coefficient (total (λ y. f (add_keys 8 (key_of k.monomial) y)) (map entry_of b)) ∙
          ap (λ n. s * n) (sym (total-row_of f (key_of k.monomial) k.coefficient b)))
        where
          regrouped : (p q r : ℕ) → (p * q) * r ≡ p * (q * r)
          regrouped p q r = omega arith

      whole : (f : Key 8 → ℕ) →
          total f (xs ++ multiples s before) + s * total f (row_of (key_of k.monomial) k.coefficient b) ≡
          total f (xs ++ multiples s after)
      whole f = (λ i. (total-append f xs (multiples s before) ∙
          ap (λ n. total f xs + n) (total-multiples f s before)) i +
          s * total f (row_of (key_of k.monomial) k.coefficient b))
          ∙ spread s (total f xs) (total f before) (total f (row_of (key_of k.monomial) k.coefficient b))
          ∙ ap (λ n. total f xs + s * n)
          (sym (ap (λ l. total f (products (add_keys 8) (map entry_of l) (map entry_of b)))
          (take_more a i x lt) ∙ products_more f (take i a) k b))
          ∙ sym (total-append f xs (multiples s after) ∙ ap (λ n. total f xs + n) (total-multiples f s after))
        where
          spread : (s p q r : ℕ) → p + s * q + s * r ≡ p + s * (q + r)
          spread s p q r = omega arith

module _ (ring : Ring) (d : ℕ) (terms sum : List Term)
    (listed : entries (from_entries {R = key_compare 8} (map entry_of terms)) ≡ map entry_of terms) where
  pub sparse_product : (minus : Bool) (a b : List Term) (p q : FinMap (key_compare 8) ℕ) →
      map entry_of a ≡ entries p → map entry_of b ≡ entries q
      → IsTotal ring d (map entry_of terms ++
      multiples (sign (modulus_of ring) minus) (products (add_keys 8) (map entry_of a) (map entry_of b))) sum
      → from_entries {R = key_compare 8} (map entry_of sum) ≡
      with_product (modulus_of ring) minus (from_entries (map entry_of terms)) p q
  sparse_product minus a b p q at_p at_q h =
      total_is ring d _ sum h ∙
      (λ i. collected (key_compare 8) (modulus_of ring)
      (sym listed i ++ multiples (sign (modulus_of ring) minus) (products (add_keys 8) (at_p i) (at_q i))))

  pub sparse_multiple : (c : ℕ) (a : List Term) (p : FinMap (key_compare 8) ℕ) → map entry_of a ≡ entries p
      → IsTotal ring d (map entry_of terms ++ multiples c (map entry_of a)) sum
      → from_entries {R = key_compare 8} (map entry_of sum) ≡
      with_multiple (modulus_of ring) c (from_entries (map entry_of terms)) p
  sparse_multiple c a p at_p h =
      total_is ring d _ sum h ∙
      (λ i. collected (key_compare 8) (modulus_of ring) (sym listed i ++ multiples c (at_p i)))
