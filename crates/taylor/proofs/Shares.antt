-- The part of a shifted row as a sum that grows by one multiple after another.
--     IsShares ring c row i n s      s has the shares of the first n parts
use Rattle.std.proofs.Common.{◌≡◌, ℕ, suc, ◌+◌, ◌-◌, ◌*◌, ◌^◌, ◌%◌, ◌<◌, ◌≤◌, List, length, ◌++◌}
use Rattle.std.proofs.Common.{refl, sym, ◌∙◌, ap, subst, arith}
use Rattle.std.specs.Prelude.{Result, Ok, Err, IfOk}
use Rattle.std.specs.FinMap.{FinMap, empty, entries}
use Rattle.std.proofs.Math.Nat.{mod-mod, mod-lt, mod-eq_of_lt, pow-suc, pow-zero}
use Rattle.ps_model.specs.Ring as rings
use Rattle.ps_model.specs.Sums.{multiples}
use Rattle.ps_model.specs.FiniteMaps.{collected}
use Rattle.ps_model.specs.Job.{series_ring}
use Rattle.ps_model.specs.Keys.{key_compare}
use Rattle.ps_model.specs.Notation.{sum as plus, scaled as times}
use Rattle.ps_model.specs.Polynomial.{Polynomial, polynomial, of_map, sum, scaled}
use Rattle.ps_model.specs.SeriesRing.{ring as ring_of}
use Rattle.ps_model.specs.Shift.{binomial}
use Rattle.ps_model.proofs.Coefficients.{times-mod}
use Rattle.ps_model.proofs.OfMap.{of_map-collected}
use Rattle.ps_model.proofs.FormalSums.{sum_listed, scaled_listed}
use Rattle.ps_model.proofs.SlicesShifted.{scaled-residue}
use Rattle.ps_model.proofs.SumsBetween.{sum_between-suc, sum_between-none}
use Rattle.parts.specs.declared.rings.Ring.{Ring}
use Rattle.parts.specs.Rings.{modulus_of}
use Rattle.parts.specs.PartValue.{PartValue, IsPartOf}
use Rattle.parts.specs.AccumulatorValue.{AccumulatorValue, with_multiple, after_multiple}
use Rattle.parts.specs.RowsOfParts.{part_in}
use Rattle.parts.specs.Series.{polynomial_modulo, series, polynomial_in}
use Rattle.parts.proofs.Polynomials.{modulus_is, polynomial_in-empty}
use Rattle.taylor.specs.Shifts.{shifted_up_to, IsPartOfShift}

pub record IsShares (ring : Ring) (c : ℕ) (row : List PartValue) (i n : ℕ) (s : AccumulatorValue) : Type 0 where
  pub same_ring : s.ring ≡ ring
  pub degree : s.degree ≡ (part_in row i).degree
  pub polynomial : polynomial_in ring s.map ≡ shifted_up_to ring c row i n

-- the map with a multiple added
map_more : (R : rings.Ring) (c : ℕ) (p a : FinMap R.compare ℕ)
    → of_map R (collected R.compare R.modulus (entries p ++ multiples c (entries a)))
    ≡ sum R (of_map R p) (scaled R c (of_map R a))
unfolding of_map
map_more R c p a = of_map-collected R _ ∙ sym (sum_listed R (entries p) (multiples c (entries a)))
    ∙ ap (sum R (polynomial R (entries p))) (sym (scaled_listed R c (entries a)))

-- the same of a part
multiple_more : (ring : Ring) (c : ℕ) (p a : FinMap (key_compare 8) ℕ)
    → polynomial_in ring (with_multiple (modulus_of ring) c p a)
    ≡ plus (polynomial_in ring p) (times c (polynomial_in ring a))
unfolding series_ring polynomial_modulo
multiple_more ring c p a = ap (λ m. of_map (ring_of (series ring)) (with_multiple m c p a)) (sym (modulus_is ring))
    ∙ map_more (ring_of (series ring)) c p a

-- a multiple by a residue
same_multiple : (R : rings.Ring) (m b k n power x : ℕ) (p : Polynomial R) → R.modulus ≡ m → x ≡ (n * power) % m
    → n ≡ b % m → power ≡ k % m → scaled R x p ≡ scaled R (b * k) p
same_multiple R m b k n power x p same is of_n of_power =
    ap (λ y. scaled R y p) (is ∙ times-mod m n b power k (ap (λ y. y % m) of_n ∙ mod-mod b m)
    (ap (λ y. y % m) of_power ∙ mod-mod k m) ∙ ap (λ m. (b * k) % m) (sym same)) ∙ scaled-residue R (b * k) p

add_one : (n : ℕ) → suc n ≡ n + 1
add_one n = omega arith

module _ (ring : Ring) (c : ℕ) (row : List PartValue) (i : ℕ) where
  -- no share
  pub shares_none : (d : ℕ) (s : AccumulatorValue) → s ≡ record { ring = ring; degree = d; map = empty }
      → d ≡ (part_in row i).degree → IsShares ring c row i i s
  shares_none d s is of_degree = record {
    same_ring = ap (λ s. s.ring) is;
    degree = ap (λ s. s.degree) is ∙ of_degree;
    polynomial = ap (λ s. polynomial_in ring s.map) is ∙ polynomial_in-empty ring
        ∙ sym (sum_between-none (ring_of (series ring)) i i _ (self i));
  }
    where
      self : (i : ℕ) → i ≤ i
      self i = omega arith

  -- one more share
  pub shares_more : (j n power x : ℕ) (s t : AccumulatorValue) (p : PartValue) → i ≤ j → p ≡ part_in row j
      → x ≡ (n * power) % modulus_of ring → n ≡ binomial j i % modulus_of ring
      → power ≡ c ^ (j - i) % modulus_of ring → IsShares ring c row i j s → t ≡ after_multiple s x p
      → IsShares ring c row i (j + 1) t
  shares_more j n power x s t p le of_p of_x of_n of_power are is = record {
    same_ring = ap (λ s. s.ring) is ∙ are.same_ring;
    degree = ap (λ s. s.degree) is ∙ are.degree;
    polynomial = ap (λ s. polynomial_in ring s.map) is
        ∙ ap (λ r. polynomial_in ring (with_multiple (modulus_of r) x s.map p.map)) are.same_ring
        ∙ multiple_more ring x s.map p.map
        ∙ (λ l. sum (ring_of (series ring)) (are.polynomial l)
        (same_multiple (ring_of (series ring)) (modulus_of ring) (binomial j i) (c ^ (j - i)) n power x
        (polynomial_in ring p.map) (modulus_is ring) of_x of_n of_power l))
        ∙ ap (λ q. sum (ring_of (series ring)) (shifted_up_to ring c row i j)
        (scaled (ring_of (series ring)) (binomial j i * c ^ (j - i)) (polynomial_in ring q.map))) of_p
        ∙ sym (sum_between-suc (ring_of (series ring)) i j _ le) ∙ ap (shifted_up_to ring c row i) (add_one j);
  }

-- the next power of c
pub next_power : (m c i j power x : ℕ) → i ≤ j → power ≡ c ^ (j - i) % m → x ≡ (power * c) % m
    → x ≡ c ^ (j + 1 - i) % m
next_power m c i j power x le of_power is = is
    ∙ times-mod m power (c ^ (j - i)) c c (ap (λ y. y % m) of_power ∙ mod-mod (c ^ (j - i)) m) refl
    ∙ ap (λ y. y % m) (raise (j - i) (j + 1 - i) (omega arith))
  where
    raise : (a b : ℕ) → b ≡ suc a → c ^ a * c ≡ c ^ b
    raise a b e = rw (e, pow-suc) (omega arith)

-- the first power of c
pub first_power : (m c i : ℕ) → 2 ≤ m → 1 ≡ c ^ (i - i) % m
first_power m c i two = sym (mod-eq_of_lt (omega arith)) ∙ ap (λ y. y % m) (none (i - i) (omega arith))
  where
    none : (a : ℕ) → a ≡ 0 → 1 ≡ c ^ a
    none a e = rw (e, pow-zero) refl

-- a remainder is a residue
pub remainder_low : (x b k m : ℕ) → x ≡ b % k → k ≡ m → 2 ≤ m → x < m
remainder_low x b k m is same two = subst (λ y. y < m) (sym (is ∙ ap (λ n. b % n) same)) (mod-lt b (omega arith))

-- all shares are the part
pub finished : {E : Type 0} (r : Result PartValue E) (ring : Ring) (c : ℕ) (row : List PartValue) (i n : ℕ)
    (s : AccumulatorValue) → IsShares ring c row i n s → n ≡ length row → IfOk r (λ p. p.degree ≡ s.degree)
    → IfOk r (λ p. p.map ≡ s.map) → IfOk r (IsPartOf s.ring) → IfOk r (IsPartOfShift ring c row i)
finished (Ok p) ring c row i n s are all of_degree of_map_p part = record {
  degree = of_degree ∙ are.degree;
  part = subst (λ r. IsPartOf r p) are.same_ring part;
  polynomial = ap (polynomial_in ring) of_map_p ∙ are.polynomial ∙ ap (shifted_up_to ring c row i) all;
}
finished (Err e) ring c row i n s are all of_degree of_map_p part = tt
