-- The roots 0 to 3 differ by units: the differences are 1, 2 and 3 and their negatives.
use Rattle.std.proofs.Common.{◌≡◌, ℕ, zero, suc, ◌+◌, ◌-◌, ◌%◌, ◌<◌, refl, sym, ◌∙◌, ap, subst, lit<, arith}
use Rattle.std.specs.Prelude.{Some, slice_get}
use Rattle.std.proofs.lemmas.Option.{none-some, same_Some}
use Rattle.ps_model.specs.declared.job.Root.{Root}
use Rattle.ps_model.specs.Bounds.{IsUnit}
use Rattle.ps_model.specs.Examples.{root}
use Rattle.ps_model.specs.Job.{IsPairTooNear}
use Rattle.ps_model.proofs.AtOrigin.{unit}
use Rattle.demo.specs.Generator.{job_by, prime, roots_by}

-- the root at a place has that value
placed : (k1 k2 k3 k4 i : ℕ) (r : Root) → slice_get (roots_by k1 k2 k3 k4) i ≡ Some r → (r.value ≡ i) × (i < 4)
placed k1 k2 k3 k4 zero r e = (ap (λ (x : Root). x.value) (same_Some r (root 0 k1) (sym e)), omega arith)
placed k1 k2 k3 k4 (suc zero) r e = (ap (λ (x : Root). x.value) (same_Some r (root 1 k2) (sym e)), omega arith)
placed k1 k2 k3 k4 (suc (suc zero)) r e = (ap (λ (x : Root). x.value) (same_Some r (root 2 k3) (sym e)), omega arith)
placed k1 k2 k3 k4 (suc (suc (suc zero))) r e =
    (ap (λ (x : Root). x.value) (same_Some r (root 3 k4) (sym e)), omega arith)
placed k1 k2 k3 k4 (suc (suc (suc (suc i)))) r e = absurd (none-some r e)

difference_unit : (x y : ℕ) → x < y → y < 4 → IsUnit prime ((x + (prime - y)) % prime)
difference_unit zero (suc zero) lt few = unit 1000003 1000002 1000002 (lit< tt) refl
difference_unit zero (suc (suc zero)) lt few = unit 1000003 1000001 500001 (lit< tt) refl
difference_unit zero (suc (suc (suc zero))) lt few = unit 1000003 1000000 333334 (lit< tt) refl
difference_unit (suc zero) (suc (suc zero)) lt few = unit 1000003 1000002 1000002 (lit< tt) refl
difference_unit (suc zero) (suc (suc (suc zero))) lt few = unit 1000003 1000001 500001 (lit< tt) refl
difference_unit (suc (suc zero)) (suc (suc (suc zero))) lt few = unit 1000003 1000002 1000002 (lit< tt) refl
difference_unit x y lt few = absurd (omega arith)

pub no_pair : (k1 k2 k3 k4 : ℕ) (a b : ℕ → ℕ) (i j d : ℕ) → IsPairTooNear (job_by k1 k2 k3 k4 a b) i j d → ⊥
no_pair k1 k2 k3 k4 a b i j d (r, s, pos, lt, at, at', is, not_unit) =
    let first = placed k1 k2 k3 k4 (i - 1) r at in
    let second = placed k1 k2 k3 k4 (j - 1) s at' in
    not_unit (subst (IsUnit prime)
    (sym (is ∙ (λ l. (first.0 l + (prime - second.0 l)) % prime)))
    (difference_unit (i - 1) (j - 1) (omega arith) second.1))
