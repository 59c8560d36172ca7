-- Constants and variables, as lists of at most one term.
use Rattle.std.proofs.Common.{◌≡◌, ℕ, zero, suc, ◌+◌, ◌*◌, ◌%◌, ◌<◌, ◌≤◌, List, [], ◌∷◌, length, take, replicate, ◌++◌}
use Rattle.std.proofs.Common.{get_or}
use Rattle.std.proofs.Common.{refl, sym, ◌∙◌, ap, subst, arith}
use Rattle.std.specs.declared.cmp.Ordering.TheVariants.{Less}
use Rattle.std.proofs.Math.ListN.{set}
use Rattle.std.proofs.Math.Nat.{mod-lt}
use Rattle.std.proofs.lemmas.List.{length-set}
use Rattle.std.proofs.lemmas.Nat.{mul-mod_first}
use Rattle.ps_model.specs.Keys.{Key, powers_of, numbers, key_compare}
use Rattle.ps_model.specs.Sums.{total}
use Rattle.ps_model.proofs.Maps.{numbers_of}
use Rattle.parts.specs.declared.rings.Ring.{Ring}
use Rattle.parts.specs.declared.terms.Term.{Term}
use Rattle.parts.specs.Keys.{key_from}
use Rattle.parts.specs.Rings.{modulus_of, weights_of}
use Rattle.parts.specs.Places.{dot}
use Rattle.parts.specs.Terms.{key_of, entry_of, IsKeyOf}
use Rattle.parts.specs.PartValue.{IsEntryOf}
use Rattle.parts.specs.TermLists.{IsTotal, unless_zero}
use Rattle.parts.proofs.Built.{built_none, built_push, built_whole}

pub single : (ring : Ring) (d : ℕ) (t : Term) (k : Key 8) (c : ℕ) →
    IsEntryOf (modulus_of ring) (weights_of ring) d (entry_of t) → key_of t.monomial ≡ k →
    t.coefficient ≡ c % modulus_of ring → IsTotal ring d ((k, c) ∷ []) (unless_zero t)
single ring d t k c entry same is =
    built_whole ring d ((k, c) ∷ []) (λ f. total f ((k, c) ∷ [])) (λ f. 0) (λ l. Unit {0}) (unless_zero t)
    (built_push ring d (λ f. total f ((k, c) ∷ [])) (λ f. total f ((k, c) ∷ [])) (λ f. 0)
    (λ l. key_compare 8 l (key_of t.monomial) ≡ Less) (λ l. Unit {0}) [] t (built_none ring d _ _) entry
    (λ f. ap (λ n. n % modulus_of ring) (plus_none (t.coefficient * f (key_of t.monomial))) ∙
    (λ i. (is i * f (same i)) % modulus_of ring) ∙ mul-mod_first c (f k) (modulus_of ring) ∙
    ap (λ n. n % modulus_of ring) (sym (plus_none (c * f k))))
    (λ l p. p) (λ l p. tt) tt) (λ f. refl) (λ f. refl)
  where
    plus_none : (n : ℕ) → n + 0 ≡ n
    plus_none n = omega arith

dot-zeros : (ws : List ℕ) (k : ℕ) → dot ws (replicate k 0) ≡ 0
dot-zeros [] k = refl
dot-zeros (w ∷ ws) zero = refl
dot-zeros (w ∷ ws) (suc k) = omega (arith, dot-zeros ws k)

zero_powers : (k : ℕ) → powers_of k [] ≡ powers_of k (replicate k 0)
zero_powers zero = refl
zero_powers (suc k) = λ i. (0, zero_powers k i)

zero_take : (k j : ℕ) → powers_of k (replicate k 0) ≡ powers_of k (take j (replicate k 0))
zero_take zero j = refl
zero_take (suc k) zero = λ i. (0, sym (zero_powers k) i)
zero_take (suc k) (suc j) = λ i. (0, zero_take k j i)

unit_take : (k n i : ℕ) → i < n → powers_of k (set (replicate k 0) i 1) ≡ powers_of k (take n (set (replicate k 0) i 1))
unit_take zero n i lt = refl
unit_take (suc k) zero i lt = absurd (omega arith)
unit_take (suc k) (suc n) zero lt = λ j. (1, zero_take k n j)
unit_take (suc k) (suc n) (suc i) lt = λ j. (0, unit_take k n i (omega arith) j)

unit_weighs : (ws : List ℕ) (k i : ℕ) → i < length ws → i < k → dot ws (set (replicate k 0) i 1) ≡ get_or ws i 0
unit_weighs [] k i lt at = absurd (omega arith)
unit_weighs (w ∷ ws) zero i lt at = absurd (omega arith)
unit_weighs (w ∷ ws) (suc k) zero lt at = omega (arith, dot-zeros ws k)
unit_weighs (w ∷ ws) (suc k) (suc i) lt at = omega (arith, unit_weighs ws k i (omega arith) (omega arith))

pub constant_key : (ws : List ℕ) → IsKeyOf ws 0 (key_from (replicate 8 0))
constant_key ws = record {
  weighs = dot-zeros ws 8;
  is = λ i. record { powers = zero_take 8 (length ws) i; y = 0 };
}

pub variable_key_is : (ws : List ℕ) (i : ℕ) → i < length ws → length ws ≤ 8 →
    IsKeyOf ws (get_or ws i 0) (key_from (set (replicate 8 0) i 1))
variable_key_is ws i lt few = record {
  weighs = ap (dot ws) numbers_are ∙ unit_weighs ws 8 i lt (omega arith);
  is = (λ j. record { powers = unit_take 8 (length ws) i lt j; y = 0 }) ∙
      (λ j. key_from (take (length ws) (sym numbers_are j)));
}
  where
    numbers_are : numbers 8 (powers_of 8 (set (replicate 8 0) i 1)) ≡ set (replicate 8 0) i 1
    numbers_are = numbers_of 8 (set (replicate 8 0) i 1) (length-set (replicate 8 0) i 1)

-- the list of one term that is pushed, unless its coefficient is 0
pub single_pushed : (ring : Ring) (d : ℕ) (t : Term) (c : ℕ) (none ts : List Term) → none ≡ [] →
    ts ≡ none ++ unless_zero t → IsKeyOf (weights_of ring) d (key_of t.monomial) → t.coefficient ≡ c % modulus_of ring →
    IsTotal ring d ((key_of t.monomial, c) ∷ []) ts
single_pushed ring d t c none ts empty are key is =
    subst (IsTotal ring d ((key_of t.monomial, c) ∷ [])) (sym (are ∙ ap (λ l. l ++ unless_zero t) empty))
    (single ring d t (key_of t.monomial) c (
      key,
      subst (λ n. n < modulus_of ring) (sym is) (mod-lt c (let two = ring.modulus.low in omega arith)),
    ) refl is)
