-- Pairs of roots whose difference is no unit, in the order in which they are looked for.
use Rattle.std.proofs.Common.{◌≡◌, ℕ, ◌+◌, ◌-◌, ◌%◌, ◌<◌, ◌≤◌, ◌⊎◌, inl, inr, List, length, get_or}
use Rattle.std.proofs.Common.{sym, ◌∙◌, ap, subst, arith}
use Rattle.std.specs.Prelude.{slice_get}
use Rattle.std.specs.Int.{IsGcd, ◌∣◌}
use Rattle.std.proofs.Math.Nat.{dvd-mod_iff, dvd-mul_right_of_dvd, eq-one_of_dvd-one}
use Rattle.std.proofs.lemmas.Bool.{cases_lt}
use Rattle.std.proofs.lemmas.Option.{get_or_from_slice_get, slice_get-get_or, slice_get_within}
use Rattle.ps_model.specs.declared.job.Root.{Root}
use Rattle.ps_model.specs.Bounds.{IsUnit}
use Rattle.residue.specs.declared.Modulus.{Modulus}
use Rattle.residue.specs.Residues.{number_of, IsInverse}
use Rattle.intake.specs.declared.roots.NearPair.{NearPair}
use Rattle.intake.specs.Apart.{AreTooNear, IsNextNear, IsFirstNearPair}

-- what has an inverse is a unit, and what has a common divisor with the modulus is none
pub unit_of_inverse : (m : Modulus) (a x : ℕ) → IsInverse m a x → IsUnit (number_of m) a
unit_of_inverse m a x is = record { inverse = x; is_residue = is.residue; inverts = is.product }

pub no_unit : (m a g : ℕ) → 1 < g → IsGcd a m g → IsUnit m a → ⊥
no_unit m a g above (of_a, of_m, greatest) unit = contradiction g above
    (eq-one_of_dvd-one (subst (λ n. g ∣ n) unit.inverts
    ((dvd-mod_iff g of_m).1 (dvd-mul_right_of_dvd g of_a unit.inverse))))
  where
    contradiction : (g : ℕ) → 1 < g → g ≡ 1 → ⊥
    contradiction g above is = omega arith

-- the roots of a pair stand in the list
pub first_within : (m : ℕ) (roots : List Root) (i j d : ℕ) → AreTooNear m roots i j d → i ≤ length roots
first_within m roots i j d (r, s, some, lt, at, at', is, other) =
    let h = slice_get_within roots (i - 1) r at in omega arith

pub second_within : (m : ℕ) (roots : List Root) (i j d : ℕ) → AreTooNear m roots i j d → j ≤ length roots
second_within m roots i j d (r, s, some, lt, at, at', is, other) =
    let h = slice_get_within roots (j - 1) s at' in omega arith

pub later : (m : ℕ) (roots : List Root) (i j d : ℕ) → AreTooNear m roots i j d → i < j
later m roots i j d (r, s, some, lt, at, at', is, other) = lt

pub some_first : (m : ℕ) (roots : List Root) (i j d : ℕ) → AreTooNear m roots i j d → 0 < i
some_first m roots i j d (r, s, some, lt, at, at', is, other) = some

-- the number n + 1 counts from 1
pub behind : (n : ℕ) → n + 1 - 1 ≡ n
behind n = omega arith

module _ (m : ℕ) (roots : List Root) (place second : ℕ) (e : Root) where
  abbrev pub difference : ℕ
  difference = ((get_or roots place e).value + (m - (get_or roots second e).value)) % m

  -- the roots at these places, counted from 0, are apart
  not_near : (j d : ℕ) → IsUnit m difference → AreTooNear m roots (place + 1) j d → j ≡ second + 1 → ⊥
  not_near j d unit (r, s, some, lt, at, at', value, other) here =
      other (subst (IsUnit m) (sym (value ∙ (λ i. ((first i).value + (m - (last i).value)) % m))) unit)
    where
      first : r ≡ get_or roots place e
      first = sym (ap (λ k. get_or roots k e) (sym (behind place)) ∙ get_or_from_slice_get roots _ r e at)

      last : s ≡ get_or roots second e
      last = sym (ap (λ k. get_or roots k e) (sym (ap (λ k. k - 1) here ∙ behind second))
          ∙ get_or_from_slice_get roots _ s e at')

  pub later_pair : IsUnit m difference → ((j d : ℕ) → AreTooNear m roots (place + 1) j d → second < j) → (j d : ℕ)
      → AreTooNear m roots (place + 1) j d → second + 1 < j
  later_pair unit before j d near = beyond (before j d near) (not_near j d unit near)
    where
      beyond : second < j → (j ≡ second + 1 → ⊥) → second + 1 < j
      beyond lt ne = omega arith

  -- the roots at these places are too near
  pub near_here : (d : ℕ) → d ≡ difference → place < second → second < length roots → (IsUnit m d → ⊥)
      → AreTooNear m roots (place + 1) (second + 1) d
  near_here d is lt inside other = (
    get_or roots place e,
    get_or roots second e,
    omega arith,
    omega arith,
    ap (slice_get roots) (behind place) ∙ slice_get-get_or roots place e (omega arith),
    ap (slice_get roots) (behind second) ∙ slice_get-get_or roots second e inside,
    is,
    other,
  )

-- the first pair with a root is the first of all where no earlier root has one
pub first_of_all : (m : ℕ) (roots : List Root) (place : ℕ) (pair : NearPair) → IsNextNear m roots (place + 1) pair
    → ((i j d : ℕ) → AreTooNear m roots i j d → place < i) → IsFirstNearPair m roots pair
first_of_all m roots place pair next before = record {
  near = subst (λ i. AreTooNear m roots i pair.second pair.difference) (sym next.at) next.near;
  divisor = next.divisor;
  least = λ i j d near. by_first i j d near (before i j d near);
}
  where
    by_first : (i j d : ℕ) → AreTooNear m roots i j d → place < i
        → (pair.first < i) ⊎ ((pair.first ≡ i) × (pair.second ≤ j))
    by_first i j d near lt = elim (cases_lt pair.first i) [
      | inl less ↦ inl less
      | inr least ↦
          let same : i ≡ place + 1 = let at = next.at in omega arith in
          inr (next.at ∙ sym same, next.least j d (subst (λ k. AreTooNear m roots k j d) same near))
    ]

-- behind the last root there is no pair
pub none_left : (m : ℕ) (roots : List Root) (i j d n : ℕ) → length roots ≤ n → n < i → AreTooNear m roots i j d → ⊥
none_left m roots i j d n le lt near = let h = first_within m roots i j d near in omega arith

pub none_later : (m : ℕ) (roots : List Root) (i j d n : ℕ) → length roots ≤ n → n < j → AreTooNear m roots i j d → ⊥
none_later m roots i j d n le lt near = let h = second_within m roots i j d near in omega arith

pub no_pair_before : (m : ℕ) (roots : List Root) (place : ℕ)
    → ((j d : ℕ) → AreTooNear m roots (place + 1) j d → ⊥) → ((i j d : ℕ) → AreTooNear m roots i j d → place < i)
    → (i j d : ℕ) → AreTooNear m roots i j d → place + 1 < i
no_pair_before m roots place none before i j d near = beyond (before i j d near)
    (λ is. none j d (subst (λ k. AreTooNear m roots k j d) is near))
  where
    beyond : place < i → (i ≡ place + 1 → ⊥) → place + 1 < i
    beyond lt ne = omega arith
