-- The formulas for the slices of degree r of a prepared pair p, u of G: those of p below Y^k from
-- earlier ones, then those of u. Here a s i and w s j are the slices of degree s of p at Y^i and
-- of u at Y^j, and b l is the slice of degree r of G at Y^l.
--     crossed_product r a w i h      the part of degree r of a_i * w_h, where a_i has no degree 0
--     FollowsRecurrences k q r e b a w      the slices of degree r follow from the earlier ones
--         and e, the inverse of u's constant term
use Rattle.std.specs.Prelude.{◌≡◌, ℕ, suc, ◌+◌, ◌-◌, ◌<◌, ◌≤◌}
use Rattle.ps_model.specs.Ring.{Ring}
use Rattle.ps_model.specs.Polynomial.{Polynomial}
use Rattle.ps_model.specs.Notation.{sum, scaled, difference, product, sum_between}

module _ {R : Ring} where
  abbrev pub crossed_product : ℕ → (a w : ℕ → ℕ → Polynomial R) → ℕ → ℕ → Polynomial R
  crossed_product r a w i h = sum_between 1 (suc r) (λ s. product (a s i) (w (r - s) h))

  pub record FollowsRecurrences (k q r e : ℕ) (b : ℕ → Polynomial R) (a w : ℕ → ℕ → Polynomial R) : Type 0 where
    pub of_p : (i : ℕ) → i < k → a r i ≡ scaled e (difference (b i) (sum
        (sum_between 0 i (λ h. crossed_product r a w h (i - h)))
        (sum_between 1 r (λ s. product (a s i) (w (r - s) 0)))))
    pub of_u : (j : ℕ) → j ≤ q → w r j ≡ difference (b (k + j))
        (sum_between 0 k (λ i. crossed_product r a w i (k + j - i)))
