-- Counting terms, step by step.
use Rattle.std.proofs.Common.{◌≡◌, ℕ, suc, ◌+◌, ◌*◌, ◌%◌, ◌^◌, ◌<◌, ◌≤◌, List, [], ◌∷◌, Some, length, map, take, get_or}
use Rattle.std.proofs.Common.{refl, sym, ◌∙◌, ap, subst, arith}
use Rattle.std.specs.Prelude.{slice_get, sum, sum_by}
use Rattle.std.proofs.Math.Nat.{mod-eq_of_lt, mod-mod}
use Rattle.std.proofs.lemmas.List.Sums.{sum_by-cons, sum_by_more}
use Rattle.ps_model.specs.Notation.{terms}
use Rattle.ps_model.specs.declared.job.Root.{Root}
use Rattle.ps_model.proofs.Coefficients.{plus-mod}
use Rattle.parts.specs.PartValue.{PartValue}
use Rattle.parts.specs.Terms.{entry_of}
use Rattle.parts.specs.declared.terms.Term.{Term}
use Rattle.printer.specs.Rows.{terms_in}
use Rattle.printer.specs.Texts.{factor_to}
use Rattle.printer.specs.View.{BlockValue, HasUpTo, IsBlockValue, part_at, rows_of}
use Rattle.printer.proofs.ViewTexts.{rows_are_parts, rows_long}
use Rattle.demo.specs.Counts.{number_in, numbers_at, sum_below, total_in, totals_at}
use Rattle.demo.proofs.CellSums.{sum_below-same, weight, weight-number, weight-total}
use Rattle.demo.proofs.FactorTerms.{terms_by_part}

-- one number more, modulo m
pub sum_more : (m start a c s : ℕ) → s ≡ (start + a) % m → (s + c) % m ≡ (start + (a + c)) % m
sum_more m start a c s is =
    plus-mod m s (start + a) c c (ap (λ n. n % m) is ∙ mod-mod (start + a) m) refl
    ∙ ap (λ n. n % m) (grouped start a c)
  where
    grouped : (x y z : ℕ) → x + y + z ≡ x + (y + z)
    grouped x y z = omega arith

pub reduced_more : (m start a c s : ℕ) → s ≡ (start + a) % m → (s + c % m) % m ≡ (start + (a + c)) % m
reduced_more m start a c s is = plus-mod m s s (c % m) c refl (mod-mod c m) ∙ sum_more m start a c s is

pub sum_none : (m s : ℕ) → s < m → s ≡ (s + 0) % m
sum_none m s lt = sym (mod-eq_of_lt lt) ∙ ap (λ n. n % m) (nothing s)
  where
    nothing : (s : ℕ) → s ≡ s + 0
    nothing s = omega arith

-- the coefficients of terms
abbrev pub coefficients : List Term → ℕ
coefficients ts = sum_by (λ (t : Term). t.coefficient) ts

pub coefficients_are : (ts : List Term) → coefficients ts ≡ sum (map (λ t. t.1) (map entry_of ts))
coefficients_are [] = refl
coefficients_are (t ∷ ts) = sum_by-cons (λ (t : Term). t.coefficient) t ts
    ∙ ap (λ n. t.coefficient + n) (coefficients_are ts)
    ∙ sym (sum_by-cons (λ x. x) t.coefficient (map (λ t. t.1) (map entry_of ts)))

pub coefficient_more : (m start s i : ℕ) (ts : List Term) (t : Term) → i < length ts
    → s ≡ (start + coefficients (take i ts)) % m
    → (s + (get_or ts i t).coefficient % m) % m ≡ (start + coefficients (take (i + 1) ts)) % m
coefficient_more m start s i ts t lt is =
    reduced_more m start (coefficients (take i ts)) (get_or ts i t).coefficient s is
    ∙ ap (λ n. (start + n) % m) (sym (sum_by_more (λ (t : Term). t.coefficient) ts i t lt))

-- sums with one place more
pub below_more : (n : ℕ) (f : ℕ → ℕ) → sum_below (n + 1) f ≡ sum_below n f + f n
below_more n f = let same : n + 1 ≡ suc n = omega arith in ap (λ k. sum_below k f) same

-- what is told behind n places, where f and g tell the numbers and the totals of each
pub record AreTold (m first start bound n : ℕ) (f g : ℕ → ℕ) (terms total : ℕ) : Type 0 where
  pub number : terms ≡ first + sum_below n f
  pub few : terms ≤ first + n * bound
  pub total_is : total ≡ (start + sum_below n g) % m
  pub residue : total < m

pub told_none : (m first start bound : ℕ) (f g : ℕ → ℕ) → start < m → AreTold m first start bound 0 f g first start
told_none m first start bound f g lt = record {
  number = omega arith;
  few = omega arith;
  total_is = sum_none m start lt;
  residue = lt;
}

pub told_more : (m first start bound n : ℕ) (f g : ℕ → ℕ) (t s t' s' : ℕ) → AreTold m first start bound n f g t s
    → t' ≡ t + f n → t' ≤ t + bound → s' ≡ (s + g n) % m → s' < m → AreTold m first start bound (n + 1) f g t' s'
told_more m first start bound n f g t s t' s' told is le is' lt = record {
  number = counted _ _ _ _ _ _ is told.number (below_more n f);
  few = bounded t t' n bound first le told.few;
  total_is = is' ∙ sum_more m start (sum_below n g) (g n) s told.total_is
      ∙ ap (λ k. (start + k) % m) (sym (below_more n g));
  residue = lt;
}
  where
    counted : (t t' first a x a' : ℕ) → t' ≡ t + x → t ≡ first + a → a' ≡ a + x → t' ≡ first + a'
    counted t t' first a x a' p q r = omega arith

    bounded : (t t' n b first : ℕ) → t' ≤ t + b → t ≤ first + n * b → t' ≤ first + (n + 1) * b
    bounded t t' n b first p q = omega arith

-- one part more
pub part_told : (m m' first start n : ℕ) (f g : ℕ → ℕ) (t s t' s' : ℕ) (part : PartValue)
    → AreTold m first start (2 ^ 64) n f g t s → m' ≡ m → number_in part ≡ f n → total_in part ≡ g n
    → t' ≡ t + number_in part → t' ≤ t + 2 ^ 64 → s' ≡ (s + total_in part) % m' → s' < m'
    → AreTold m first start (2 ^ 64) (n + 1) f g t' s'
part_told m m' first start n f g t s t' s' part told same number total is le is' lt =
    told_more m first start (2 ^ 64) n f g t s t' s' told (is ∙ ap (λ k. t + k) number) le
    (is' ∙ (λ i. (s + total i) % same i)) (subst (λ k. s' < k) same lt)

-- all parts of a factor
module _ (value : BlockValue) (names : List (List ℕ)) (is : IsBlockValue names value) (has : HasUpTo value 40) (i : ℕ)
    (root : Root) (at : slice_get value.roots i ≡ Some root) where
  by_part : (w : ℕ → ℕ)
      → sum_below (suc root.times) (λ j. sum_below 41 (λ r. weight w (terms_in (part_at value i j r))))
      ≡ weight w (terms (factor_to value 40 i))
  by_part w = terms_by_part value.ring root.times 40 (rows_of value i) (rows_are_parts value names is 40 has i root at)
      (rows_long value names is 40 has i root at) w

  pub number_is : sum_below (suc root.times) (numbers_at value i) ≡ length (terms (factor_to value 40 i))
  number_is =
      sum_below-same (suc root.times) _ _ (λ j lt. sum_below-same 41 _ _ (λ r lt'.
      sym (weight-number (terms_in (part_at value i j r)))))
      ∙ by_part (λ c. 1) ∙ weight-number (terms (factor_to value 40 i))

  pub total_is : sum_below (suc root.times) (totals_at value i) ≡ sum (map (λ t. t.1) (terms (factor_to value 40 i)))
  total_is =
      sum_below-same (suc root.times) _ _ (λ j lt. sum_below-same 41 _ _ (λ r lt'.
      sym (weight-total (terms_in (part_at value i j r)))))
      ∙ by_part (λ c. c) ∙ weight-total (terms (factor_to value 40 i))
