-- The first fault of an input without roots: the earlier ones are ruled out one by one.
use Rattle.std.proofs.Common.{◌≡◌, ℕ, ◌-◌, ◌<◌, ◌≤◌, List, Some, sym, ◌∙◌, ap, subst, arith, lit≤}
use Rattle.std.specs.Int.{IsGcd}
use Rattle.std.specs.Prelude.{slice_get}
use Rattle.std.proofs.lemmas.Nat.Gcd.{same_from_IsGcd}
use Rattle.ps_model.specs.declared.expr.Expr.{Expr}
use Rattle.ps_model.specs.Divisions.{IsByY, Fails}
use Rattle.ps_model.specs.Input.{InputFault, DividesByY, TooManyNodes, DegreeTooLarge, NotAUnit, input_order}
use Rattle.ps_model.specs.Input.{IsInputFault, IsFirstInputFault, IsValidInput, IsLeast, told_count}
use Rattle.ps_model.specs.Job.{series_ring}
use Rattle.ps_model.specs.Notation.{constant_term}
use Rattle.ps_model.specs.SeriesRing.{SeriesRing, Poly}
use Rattle.ps_model.specs.Tree.{formal_degree, node_count, divisors}
use Rattle.ps_model.specs.Value.{variable, IsValue}
use Rattle.ps_model.proofs.FaultOrder.{own}
use Rattle.ps_model.proofs.TreeValues.{variable_flat, same_value}
use Rattle.intake.specs.InputErrors.{error_of}
use Rattle.intake.specs.declared.free_error.FreeError.{FreeError}
use Rattle.intake.proofs.RootProducts.{modulus_is}

at_least : (n k : ℕ) → (k < n → ⊥) → n ≤ k
at_least n k h = omega arith

-- a count that is told as more than a small number is more, and one that is told as no more is no more
above_told : (limit n t : ℕ) → limit < t → t ≡ told_count n → limit < n
above_told limit n t lt is = omega arith

pub below_told : (limit n t : ℕ) → limit ≤ 4096 → t ≤ limit → t ≡ told_count n → n ≤ limit
below_told limit n t small le is = omega arith

not_both : (limit n : ℕ) → n ≤ limit → limit < n → ⊥
not_both limit n le lt = omega arith

module _ (S : SeriesRing) (e : Expr) where
  input_after : (n : ℕ) → (1 < n → (k : ℕ) → IsInputFault S e (DividesByY k) → ⊥)
      → (2 < n → (c : ℕ) → IsInputFault S e (TooManyNodes c) → ⊥)
      → (3 < n → (d : ℕ) → IsInputFault S e (DegreeTooLarge d) → ⊥)
      → (4 < n → (k v g : ℕ) → IsInputFault S e (NotAUnit k v g) → ⊥)
      → (f : InputFault) → IsInputFault S e f → n ≤ input_order f
  input_after n a b c d (DividesByY k) is = at_least n 1 (λ lt. a lt k is)
  input_after n a b c d (TooManyNodes k) is = at_least n 2 (λ lt. b lt k is)
  input_after n a b c d (DegreeTooLarge k) is = at_least n 3 (λ lt. c lt k is)
  input_after n a b c d (NotAUnit k v g) is = at_least n 4 (λ lt. d lt k v g is)

  pub first_by_y_fault : (k : ℕ) → IsLeast (IsByY e) k → IsFirstInputFault S e (DividesByY k)
  first_by_y_fault k least = record {
    holds = least;
    first = input_after 1 (own 1 1 (lit≤ tt)) (own 1 2 (lit≤ tt)) (own 1 3 (lit≤ tt)) (own 1 4 (lit≤ tt));
  }

  module _ (not_by_y : (k : ℕ) → IsByY e k → ⊥) where
    pub nodes_fault : (c : ℕ) → 4096 < c → c ≡ told_count (node_count e) → IsFirstInputFault S e (TooManyNodes c)
    nodes_fault c large told = record {
      holds = (above_told 4096 (node_count e) c large told, told);
      first = input_after 2 (λ lt k h. not_by_y k h.0) (own 2 2 (lit≤ tt)) (own 2 3 (lit≤ tt)) (own 2 4 (lit≤ tt));
    }

    module _ (few : node_count e ≤ 4096) where
      no_nodes : (c : ℕ) → IsInputFault S e (TooManyNodes c) → ⊥
      no_nodes c h = not_both 4096 (node_count e) few h.0

      pub degree_fault : (d : ℕ) → 32 < d → d ≡ told_count (formal_degree e)
          → IsFirstInputFault S e (DegreeTooLarge d)
      degree_fault d large told = record {
        holds = (above_told 32 (formal_degree e) d large told, told);
        first = input_after 3 (λ lt k h. not_by_y k h.0) (λ lt. no_nodes) (own 3 3 (lit≤ tt)) (own 3 4 (lit≤ tt));
      }

      module _ (small : formal_degree e ≤ 32) where
        no_degree : (d : ℕ) → IsInputFault S e (DegreeTooLarge d) → ⊥
        no_degree d h = not_both 32 (formal_degree e) small h.0

        pub unit_fault : (k v g : ℕ) → IsInputFault S e (NotAUnit k v g) → IsFirstInputFault S e (NotAUnit k v g)
        unit_fault k v g is = record {
          holds = is;
          first = input_after 4 (λ lt k h. not_by_y k h.0) (λ lt. no_nodes) (λ lt. no_degree) (own 4 4 (lit≤ tt));
        }

        pub no_input_fault : ((k c : ℕ) → Fails S e k c → ⊥) → IsValidInput S e
        no_input_fault none (DividesByY k) h = not_by_y k h.0
        no_input_fault none (TooManyNodes c) h = no_nodes c h
        no_input_fault none (DegreeTooLarge d) h = no_degree d h
        no_input_fault none (NotAUnit k v g) h = none k v h.0

-- the divisor of a number and the modulus, in a ring of that modulus
pub ring_gcd : (m : ℕ) (ws : List ℕ) (v g : ℕ) → 2 ≤ m → IsGcd v m g → IsGcd v (series_ring m ws).modulus g
ring_gcd m ws v g two is = subst (λ n. IsGcd v n g) (sym (modulus_is m ws two)) is

-- an input has one first fault
module _ (S : SeriesRing) (e : Expr) where
  least_once : (P : ℕ → Type 0) (k l : ℕ) → IsLeast P k → IsLeast P l → k ≡ l
  least_once P k l h j = both k l (h.1 l j.0) (j.1 k h.0)
    where
      both : (a b : ℕ) → a ≤ b → b ≤ a → a ≡ b
      both a b x y = omega arith

  same_some : (a b : Expr) → Some a ≡ Some b → a ≡ b
  same_some a b is = cc

  same_failing : (k l v w : ℕ) → k ≡ l → Fails S e k v → Fails S e l w → v ≡ w
  same_failing k l v w same (d, at, p, is, at_v, a) (b, there, q, of, at_w, c) =
      let other : b ≡ d =
      same_some b d (sym there.1 ∙ ap (λ n. slice_get (divisors e) (n - 1)) (sym same) ∙ at.1) in
      at_v ∙ ap constant_term (same_value S (variable S) (variable_flat S) 0 d p q is
      (subst (λ (x : Expr). IsValue S 0 x q) other of)) ∙ sym at_w

  same_unit : (k v g l w h : ℕ) → IsInputFault S e (NotAUnit k v g) → IsInputFault S e (NotAUnit l w h)
      → NotAUnit k v g ≡ NotAUnit l w h
  same_unit k v g l w h a b =
      let place : k ≡ l = least_once _ k l a.1 b.1 in
      let value : v ≡ w = same_failing k l v w place a.0 b.0 in
      let divisor : g ≡ h = same_from_IsGcd v S.modulus g h a.2
      (subst (λ n. IsGcd n S.modulus h) (sym value) b.2) in
      λ i. NotAUnit (place i) (value i) (divisor i)

  pub one_fault : (f g : InputFault) → IsFirstInputFault S e f → IsFirstInputFault S e g → f ≡ g
  one_fault (DividesByY k) (DividesByY l) h j = ap DividesByY (least_once (IsByY e) k l h.holds j.holds)
  one_fault (TooManyNodes c) (TooManyNodes d) h j = ap TooManyNodes (h.holds.1 ∙ sym j.holds.1)
  one_fault (DegreeTooLarge c) (DegreeTooLarge d) h j = ap DegreeTooLarge (h.holds.1 ∙ sym j.holds.1)
  one_fault (NotAUnit k v g) (NotAUnit l w d) h j = same_unit k v g l w d h.holds j.holds
  one_fault (DividesByY k) (TooManyNodes c) h j = absurd (let p = j.first (DividesByY k) h.holds in omega (arith, p))
  one_fault (DividesByY k) (DegreeTooLarge c) h j = absurd (let p = j.first (DividesByY k) h.holds in omega (arith, p))
  one_fault (DividesByY k) (NotAUnit l w d) h j = absurd (let p = j.first (DividesByY k) h.holds in omega (arith, p))
  one_fault (TooManyNodes c) (DividesByY k) h j = absurd (let p = h.first (DividesByY k) j.holds in omega (arith, p))
  one_fault (TooManyNodes c) (DegreeTooLarge d) h j = absurd (let p = j.first (TooManyNodes c) h.holds in omega (
    arith,
    p,
  ))
  one_fault (TooManyNodes c) (NotAUnit l w d) h j = absurd (let p = j.first (TooManyNodes c) h.holds in omega (
    arith,
    p,
  ))
  one_fault (DegreeTooLarge c) (DividesByY k) h j = absurd (let p = h.first (DividesByY k) j.holds in omega (arith, p))
  one_fault (DegreeTooLarge c) (TooManyNodes d) h j = absurd (let p = h.first (TooManyNodes d) j.holds in omega (
    arith,
    p,
  ))
  one_fault (DegreeTooLarge c) (NotAUnit l w d) h j = absurd (let p = j.first (DegreeTooLarge c) h.holds in
      omega (arith, p))
  one_fault (NotAUnit l w d) (DividesByY k) h j = absurd (let p = h.first (DividesByY k) j.holds in omega (arith, p))
  one_fault (NotAUnit l w d) (TooManyNodes c) h j = absurd (let p = h.first (TooManyNodes c) j.holds in omega (
    arith,
    p,
  ))
  one_fault (NotAUnit l w d) (DegreeTooLarge c) h j = absurd (let p = h.first (DegreeTooLarge c) j.holds in
      omega (arith, p))

  -- so the error that tells a first fault tells the other
  pub told_error : (f g : InputFault) (error : FreeError) → IsFirstInputFault S e f → error ≡ error_of f
      → IsFirstInputFault S e g → error ≡ error_of g
  told_error f g error is told other = told ∙ ap error_of (one_fault f g is other)
