-- Powers are at most the degree, so that they fit a monomial.
use Rattle.std.proofs.Common.{◌≡◌, ℕ, zero, suc, ◌<◌, ◌≤◌, List, [], ◌∷◌, ◌++◌, length, get_or, drop, replicate, All}
use Rattle.std.proofs.Common.{subst, arith}
use Rattle.std.specs.Prelude.{Some}
use Rattle.std.proofs.Math.Nat.{le-mul_of_pos_right}
use Rattle.std.proofs.lemmas.List.{get_or_default}
use Rattle.std.proofs.lemmas.List.Elements.{All-append, All-drop, All-replicate}
use Rattle.parts.specs.Places.{dot, powers_at}
use Rattle.parts.proofs.Ordered.{ArePositive, weighs}

pub dot_bound : (ws xs : List ℕ) (i : ℕ) → ArePositive ws → i < length ws → get_or xs i 0 ≤ dot ws xs
dot_bound [] xs i p lt = absurd (omega arith)
dot_bound (w ∷ ws) [] i p lt = omega arith
dot_bound (w ∷ ws) (x ∷ xs) zero p lt = omega (arith, le-mul_of_pos_right x p.0)
dot_bound (w ∷ ws) (x ∷ xs) (suc i) p lt = omega (arith, dot_bound ws xs i p.1 (omega arith))

are_positive : (ws : List ℕ) → All (λ w. 0 < w) ws → ArePositive ws
are_positive [] h = tt
are_positive (w ∷ ws) h = (h 0 0 (omega arith), are_positive ws (λ k d lt. h (suc k) d (omega arith)))

at_low : (d : ℕ) (ws xs : List ℕ) (i : ℕ) → ArePositive ws → d ≤ 4095 → powers_at d ws d i ≡ Some xs →
    All (λ p. p ≤ 4095) xs
at_low d [] xs i positive low found = absurd (cc)
at_low d (w ∷ ws) xs i positive low found = λ k e lt. subst (λ p. p ≤ 4095) (get_or_default xs k 0 e lt)
    (omega (arith, weights.0, weights.1, dot_bound (w ∷ ws) xs k positive (omega (arith, weights.1)), low))
  where
    weights : (dot (w ∷ ws) xs ≡ d) × (length xs ≡ suc (length ws))
    weights = weighs d w ws xs d i found

-- the powers at a place, with zeros behind them
pub filled_low : (d : ℕ) (ws xs : List ℕ) (i n : ℕ) → All (λ w. 0 < w) ws → d ≤ 4095 →
    powers_at d ws d i ≡ Some xs → All (λ p. p ≤ 4095) (xs ++ drop n (replicate 8 0))
filled_low d ws xs i n positive low found = All-append (λ p. p ≤ 4095) xs (drop n (replicate 8 0))
    (at_low d ws xs i (are_positive ws positive) low found)
    (All-drop (λ p. p ≤ 4095) n (replicate 8 0) (All-replicate (λ p. p ≤ 4095) 8 0 (omega arith)))
