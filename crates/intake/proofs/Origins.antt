-- Values at the origin as numbers: one at most, and where there is one the divisors are units.
use Rattle.std.proofs.Common.{◌≡◌, ℕ, ◌+◌, ◌-◌, ◌*◌, ◌%◌, ◌^◌, ◌<◌, Bool, true, false, ◌∷◌}
use Rattle.std.proofs.Common.{refl, sym, ◌∙◌, ap, arith}
use Rattle.std.specs.Prelude.{if◌then◌else◌}
use Rattle.std.specs.List.{All}
use Rattle.std.proofs.Math.Nat.{one-mul, mod-eq_of_lt}
use Rattle.std.proofs.lemmas.Nat.{mul-mod_first}
use Rattle.std.proofs.lemmas.List.Elements.{All-nil, All-cons, All-append}
use Rattle.ps_model.specs.declared.expr.Expr.{Expr, Number, Name, MainVariable, Sum', Product', Power'}
use Rattle.ps_model.specs.declared.expr.Expr.{end_of-Expr, more_of-Expr}
use Rattle.ps_model.specs.declared.expr.Expr.{Row_of-Summand, end_of-Summand, more_of-Summand}
use Rattle.ps_model.specs.declared.expr.Expr.{Row_of-Factor, end_of-Factor, more_of-Factor}
use Rattle.ps_model.specs.Bounds.{IsUnit}
use Rattle.ps_model.specs.Tree.{divisors, summand_divisors, factor_divisors}
use Rattle.intake.specs.Origin.{IsShare, HasOrigin, HasSumOrigin, HasProductOrigin, IsByUnit}

-- a residue has one inverse at most
pub inverse_once : (m x e f : ℕ) → e < m → f < m → (x * e) % m ≡ 1 → (x * f) % m ≡ 1 → e ≡ f
inverse_once m x e f he hf p q = sym (back e f q he) ∙ ap (λ n. n % m) (swap x e f) ∙ back f e p hf
  where
    swap : (x e f : ℕ) → (x * f) * e ≡ (x * e) * f
    swap x e f = omega arith

    back : (e f : ℕ) → (x * f) % m ≡ 1 → e < m → ((x * f) * e) % m ≡ e
    back e f q he = sym (mul-mod_first (x * f) e m) ∙ ap (λ n. (n * e) % m) q ∙ ap (λ n. n % m) (one-mul e)
        ∙ mod-eq_of_lt he

module _ (m : ℕ) where
  share_once : (divide : Bool) (a a' b b' : ℕ) → a ≡ a' → IsShare m divide a b → IsShare m divide a' b' → b ≡ b'
  share_once true a a' b b' e h k = inverse_once m a b b' h.0 k.0 h.1 (ap (λ n. (n * b') % m) e ∙ k.1)
  share_once false a a' b b' e h k = h ∙ e ∙ sym k

  mutual
    -- one value at most
    pub origin_once : (e : Expr) (n k : ℕ) → HasOrigin m e n → HasOrigin m e k → n ≡ k
    origin_once (Number c) n k h h' = h ∙ sym h'
    origin_once (Name i) n k h h' = h ∙ sym h'
    origin_once MainVariable n k h h' = h ∙ sym h'
    origin_once (Sum' shape summands) n k h h' = sum_once summands 0 0 n k refl h h'
    origin_once (Product' shape factors) n k h h' = product_once factors 1 1 n k refl h h'
    origin_once (Power' shape (more_of-Expr base end_of-Expr) exponent) n k (a, h, e) (a', h', e') =
        e ∙ ap (λ x. (x ^ exponent) % m) (origin_once base a a' h h') ∙ sym e'

    sum_once : {r : _} (row : Row_of-Summand r) (s s' n k : ℕ) → s ≡ s' → HasSumOrigin m s row n
        → HasSumOrigin m s' row k → n ≡ k
    sum_once end_of-Summand s s' n k e h h' = h ∙ e ∙ sym h'
    sum_once (more_of-Summand minus of rest) s s' n k e (a, h, later) (a', h', later') =
        let same = origin_once of a a' h h' in
        sum_once rest _ _ n k (λ i. (e i + (if minus then m - same i else same i)) % m) later later'

    product_once : {r : _} (row : Row_of-Factor r) (s s' n k : ℕ) → s ≡ s' → HasProductOrigin m s row n
        → HasProductOrigin m s' row k → n ≡ k
    product_once end_of-Factor s s' n k e h h' = h ∙ e ∙ sym h'
    product_once (more_of-Factor divide of rest) s s' n k e (a, b, h, share, later) (a', b', h', share', later') =
        let same = share_once divide a a' b b' (origin_once of a a' h h') share share' in
        product_once rest _ _ n k (λ i. (e i * same i) % m) later later'

  -- a divisor whose value is a unit
  pub by_unit : (of : Expr) (a b : ℕ) → HasOrigin m of a → IsShare m true a b → IsByUnit m of
  by_unit of a b h share n k = record {
    inverse = b;
    is_residue = share.0;
    inverts = ap (λ x. (x * b) % m) (origin_once of n a k h) ∙ share.1;
  }

  abbrev pub HasUnit : Expr → Type 0
  HasUnit d = (a : ℕ) × HasOrigin m d a × IsUnit m a

  mutual
    -- where there is a value, each divisor has one that is a unit
    pub divides_by_units : (e : Expr) (n : ℕ) → HasOrigin m e n
        → All HasUnit (divisors e)
    divides_by_units (Number c) n h = All-nil HasUnit
    divides_by_units (Name i) n h = All-nil HasUnit
    divides_by_units MainVariable n h = All-nil HasUnit
    divides_by_units (Sum' shape summands) n h = summands_by_units summands 0 n h
    divides_by_units (Product' shape factors) n h = factors_by_units factors 1 n h
    divides_by_units (Power' shape (more_of-Expr base end_of-Expr) exponent) n (a, h, e) = divides_by_units base a h

    summands_by_units : {r : _} (row : Row_of-Summand r) (s n : ℕ) → HasSumOrigin m s row n
        → All HasUnit (summand_divisors row)
    summands_by_units end_of-Summand s n h = All-nil HasUnit
    summands_by_units (more_of-Summand minus of rest) s n (a, h, later) =
        All-append HasUnit (divisors of) (summand_divisors rest) (divides_by_units of a h)
        (summands_by_units rest _ n later)

    factors_by_units : {r : _} (row : Row_of-Factor r) (s n : ℕ) → HasProductOrigin m s row n
        → All HasUnit (factor_divisors row)
    factors_by_units end_of-Factor s n h = All-nil HasUnit
    factors_by_units (more_of-Factor true of rest) s n (a, b, h, share, later) =
        All-append HasUnit (of ∷ divisors of) (factor_divisors rest)
        (All-cons HasUnit of (divisors of) (a, h, by_unit of a b h share a h) (divides_by_units of a h))
        (factors_by_units rest _ n later)
    factors_by_units (more_of-Factor false of rest) s n (a, b, h, share, later) =
        All-append HasUnit (divisors of) (factor_divisors rest) (divides_by_units of a h)
        (factors_by_units rest _ n later)
