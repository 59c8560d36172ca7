-- Differences taken in turn.
use Rattle.std.proofs.Common.{◌≡◌, ℕ, ◌+◌, ◌≤◌, sym, ◌∙◌, ap, add-one}
use Rattle.ps_model.specs.Ring.{Ring}
use Rattle.ps_model.specs.Polynomial.{Polynomial, zero as nought, sum, negative, difference, sum_between}
use Rattle.ps_model.proofs.RingLaws.{sum-assoc, sum-zero, scaled-sum}
use Rattle.ps_model.proofs.SumsBetween.{sum_between-suc, sum_between-none}
use Rattle.ps_model.proofs.SlicesShifted.{scaled-nothing}

module _ (R : Ring) where
  -- two differences in turn
  pub difference-difference : (p q r : Polynomial R) → difference R (difference R p q) r ≡ difference R p (sum R q r)
  unfolding difference negative
  difference-difference p q r = sum-assoc R p _ _ ∙ ap (sum R p) (sym (scaled-sum R _ q r))

  -- less nothing
  pub difference-zero : (p : Polynomial R) → difference R p (nought R) ≡ p
  unfolding difference negative
  difference-zero p = ap (sum R p) (scaled-nothing R _) ∙ sum-zero R p

  -- one more term of a sum
  pub difference-more : (a b : ℕ) (f : ℕ → Polynomial R) (p acc new : Polynomial R) → a ≤ b
      → acc ≡ difference R p (sum_between R a b f) → new ≡ difference R acc (f b)
      → new ≡ difference R p (sum_between R a (b + 1) f)
  difference-more a b f p acc new le before is = is ∙ ap (λ t. difference R t (f b)) before
      ∙ difference-difference p _ _ ∙ ap (difference R p) (sym (sum_between-suc R a b f le)
      ∙ ap (λ n. sum_between R a n f) (sym (add-one b)))

  -- less a sum of no terms
  pub difference-none : (a b : ℕ) (f : ℕ → Polynomial R) (p : Polynomial R) → b ≤ a
      → p ≡ difference R p (sum_between R a b f)
  difference-none a b f p le = sym (ap (difference R p) (sum_between-none R a b f le) ∙ difference-zero p)
