-- A loop over the summands or factors of a tree that adds or multiplies their values at the origin, and what a factor's
-- value tells of its divisors.
use Rattle.std.proofs.Common.{◌≡◌, ℕ, ◌+◌, ◌-◌, ◌*◌, ◌%◌, ◌^◌, ◌<◌, ◌≤◌, true, false, List, length}
use Rattle.std.proofs.Common.{get_or, drop, refl, sym, ◌∙◌, ap, subst}
use Rattle.std.specs.Prelude.{if◌then◌else◌, slice_get}
use Rattle.std.proofs.Math.ListN.{drop_of_length-le}
use Rattle.ps_model.specs.declared.expr.Expr.{Expr, Sum, Product, Power}
use Rattle.ps_model.specs.declared.expr.Summand.{Summand}
use Rattle.ps_model.specs.declared.expr.Factor.{Factor}
use Rattle.ps_model.specs.declared.expr.Expr.TheBlock.{hidden-the_row-Expr-2}
use Rattle.ps_model.specs.Bounds.{IsUnit}
use Rattle.ps_model.specs.Input.{told_count}
use Rattle.ps_model.specs.Tree.{divisors}
use Rattle.intake.specs.Origin.{HasOrigin, IsShare, IsByUnit, IsByNoUnit}
use Rattle.intake.specs.Passes.{ArePassed, IsStopped, divisors_of}
use Rattle.intake.proofs.Origins.{HasUnit, origin_once, by_unit, divides_by_units}
use Rattle.intake.proofs.Passing.{passed-cons, stopped-cons, none_at, at_stop}
use Rattle.intake.proofs.TreePasses.{left_here, divisors_of-divides, stopped_itself}
use Rattle.intake.proofs.TreeRows.{SumFrom, sum-none, sum-more, sum-all, ProductFrom, product-none, product-more}
use Rattle.intake.proofs.TreeRows.{product-all}
use denote.Hole.Carrier.{hidden}

module _ (m : ℕ) where
  pub origin-Power : (b : Expr) (e a n : ℕ) → HasOrigin m b a → n ≡ (a ^ e) % m → HasOrigin m (Power b e) n
  unfolding hidden-the_row-Expr-2 hidden
  origin-Power b e a n h is = (a, h, is)

  pub share-multiplies : (f : Factor) (a : ℕ) → f.divide ≡ false → IsShare m f.divide a a
  share-multiplies f a e = subst (λ b. IsShare m b a a) (sym e) refl

  pub share-divides : (f : Factor) (a b : ℕ) → f.divide ≡ true → b < m → (a * b) % m ≡ 1 → IsShare m f.divide a b
  share-divides f a b e small one = subst (λ d. IsShare m d a b) (sym e) (small, one)

  -- a tree in which a divisor is no unit has no value at the origin
  pub no_origin : (e : Expr) (value seen place : ℕ)
      → IsStopped (IsByUnit m) (IsByNoUnit m value) (divisors e) seen place → (n : ℕ) → HasOrigin m e n → ⊥
  no_origin e value seen place h n has =
      h.bad.1 (subst (IsUnit m) (origin_once m h.one unit.0 value unit.1 h.bad.0) unit.2)
    where
      unit : HasUnit m h.one
      unit = none_at (HasUnit m) (divisors e) (length h.before) h.one (divides_by_units m e n has)
          (ap (λ ds. slice_get ds (length h.before)) h.split ∙ at_stop h.before h.after h.one)

  -- a factor that divides: it fails within, it fails itself, and it is passed
  pub stopped_within : (f : Factor) (value seen now place : ℕ) → f.divide ≡ true → now ≡ told_count (seen + 1)
      → IsStopped (IsByUnit m) (IsByNoUnit m value) (divisors f.of) now place
      → IsStopped (IsByUnit m) (IsByNoUnit m value) (divisors_of f) seen place
  stopped_within f value seen now place e told h =
      subst (λ ds. IsStopped (IsByUnit m) (IsByNoUnit m value) ds seen place) (sym (divisors_of-divides f e))
      (stopped-cons (IsByUnit m) (IsByNoUnit m value) f.of (divisors f.of) seen now place
      (λ n has. absurd (no_origin f.of value now place h n has)) told h)

  pub stopped_here : (f : Factor) (value seen place : ℕ) → f.divide ≡ true → place ≡ told_count (seen + 1)
      → HasOrigin m f.of value → (IsUnit m value → ⊥)
      → IsStopped (IsByUnit m) (IsByNoUnit m value) (divisors_of f) seen place
  stopped_here f value seen place e told has no_unit =
      stopped_itself (IsByUnit m) (IsByNoUnit m value) f seen place e (has, no_unit) told

  pub passed_here : (f : Factor) (a b seen now next : ℕ) → f.divide ≡ true → now ≡ told_count (seen + 1)
      → HasOrigin m f.of a → b < m → (a * b) % m ≡ 1 → ArePassed (IsByUnit m) (divisors f.of) now next
      → ArePassed (IsByUnit m) (divisors_of f) seen next
  passed_here f a b seen now next e told has small one h =
      subst (λ ds. ArePassed (IsByUnit m) ds seen next) (sym (divisors_of-divides f e))
      (passed-cons (IsByUnit m) f.of (divisors f.of) seen now next (by_unit m f.of a b has (small, one)) told h)

module _ (m : ℕ) (whole : Expr) where
  -- the value of what is left, with the sum so far, is that of the whole
  abbrev pub SumOrigin : List Summand → ℕ → ℕ → Type 0
  SumOrigin items i so_far = (n : ℕ) → SumFrom m so_far (drop i items) n → HasOrigin m whole n

  pub sum_origin-start : (items ss : List Summand) → whole ≡ Sum ss → items ≡ ss → SumOrigin items 0 0
  sum_origin-start items ss is same =
      λ n h. subst (λ e. HasOrigin m e n) (sym (is ∙ ap Sum (sym same))) (sum-all m items n h)

  pub sum_origin-more : (items : List Summand) (i so_far next a : ℕ) (s : Summand) → i < length items
      → s ≡ get_or items i s → HasOrigin m s.of a → next ≡ (so_far + (if s.minus then m - a else a)) % m
      → SumOrigin items i so_far → SumOrigin items (i + 1) next
  sum_origin-more items i so_far next a s lt is has next_is h =
      λ n later. h n (subst (λ ss. SumFrom m so_far ss n) (sym (left_here items i s lt is))
      (sum-more m so_far a n s (drop (i + 1) items) has
      (subst (λ x. SumFrom m x (drop (i + 1) items) n) next_is later)))

  pub sum_origin-end : (items : List Summand) (i so_far : ℕ) → length items ≤ i → SumOrigin items i so_far
      → HasOrigin m whole so_far
  sum_origin-end items i so_far le h =
      h so_far (subst (λ ss. SumFrom m so_far ss so_far) (sym (drop_of_length-le items le)) (sum-none m so_far))

  -- that of what is left, with the product so far
  abbrev pub ProductOrigin : List Factor → ℕ → ℕ → Type 0
  ProductOrigin items i so_far = (n : ℕ) → ProductFrom m so_far (drop i items) n → HasOrigin m whole n

  pub product_origin-start : (items fs : List Factor) → whole ≡ Product fs → items ≡ fs → ProductOrigin items 0 1
  product_origin-start items fs is same =
      λ n h. subst (λ e. HasOrigin m e n) (sym (is ∙ ap Product (sym same))) (product-all m items n h)

  pub product_origin-more : (items : List Factor) (i so_far next b : ℕ) (f : Factor) → i < length items
      → f ≡ get_or items i f → (a : ℕ) × HasOrigin m f.of a × IsShare m f.divide a b → next ≡ (so_far * b) % m
      → ProductOrigin items i so_far → ProductOrigin items (i + 1) next
  product_origin-more items i so_far next b f lt is has next_is h =
      λ n later. h n (subst (λ fs. ProductFrom m so_far fs n) (sym (left_here items i f lt is))
      (product-more m so_far has.0 b n f (drop (i + 1) items) has.1 has.2
      (subst (λ x. ProductFrom m x (drop (i + 1) items) n) next_is later)))

  pub product_origin-end : (items : List Factor) (i so_far : ℕ) → length items ≤ i → ProductOrigin items i so_far
      → HasOrigin m whole so_far
  product_origin-end items i so_far le h =
      h so_far (subst (λ fs. ProductFrom m so_far fs so_far) (sym (drop_of_length-le items le)) (product-none m so_far))
