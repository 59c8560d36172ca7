-- A place gives its monomial back, and places stand in the order of monomials.
use Rattle.std.proofs.Common.{◌≡◌, ℕ, zero, suc, ◌+◌, ◌-◌, ◌*◌, ◌/◌, ◌%◌, ◌<◌, ◌≤◌, Bool, true, false, cond, List, []}
use Rattle.std.proofs.Common.{◌∷◌, length, take, refl, sym, ◌∙◌, ap, subst, arith}
use Rattle.std.specs.Prelude.{Option, Some, None, ◌==◌, nat_le}
use Rattle.std.specs.Option.{option_map}
use Rattle.std.specs.Ordering.{nat_cmp}
use Rattle.std.specs.Cmp.{nat_cmp_is}
use Rattle.std.specs.Cmp.Lexicographic.{slice_cmp}
use Rattle.std.specs.declared.cmp.Ordering.TheVariants.{Less, Equal}
use Rattle.std.specs.Ordering.{ordering_then}
use Rattle.std.proofs.Math.Nat.{mul-mod_left, mod-lt, div-add-mod, mul-div_cancel, mul-div-le, mul-le-mul_right}
use Rattle.std.proofs.Math.Nat.{mul-le-mul_left, div-mul-le_self}
use Rattle.std.proofs.lemmas.Nat.{mul-lt, le-div, div-mul-add, mod-mul-add}
use Rattle.std.proofs.lemmas.Bool.{eqb-true, eq-eqb, le-leb, leb-true, leb-false}
use Rattle.ps_model.specs.Keys.{Powers, numbers, add_powers}
use Rattle.parts.specs.Places.{dot, size_from, multipliers, powers_from}

abbrev pub ArePositive : List ℕ → Type 0
ArePositive [] = Unit {0}
ArePositive (w ∷ ws) = (0 < w) × ArePositive ws

-- the products' places add
pub dot-add : (ms : List ℕ) (n : ℕ) (x z : Powers n) →
    dot ms (numbers n (add_powers n x z)) ≡ dot ms (numbers n x) + dot ms (numbers n z)
dot-add [] n x z = omega arith
dot-add (m ∷ ms) zero x z = omega arith
dot-add (m ∷ ms) (suc n) x z = omega (arith, dot-add ms n x.1 z.1)

pub dot-take : (ws xs : List ℕ) → dot ws (take (length ws) xs) ≡ dot ws xs
dot-take [] xs = refl
dot-take (w ∷ ws) [] = refl
dot-take (w ∷ ws) (x ∷ xs) = omega (arith, dot-take ws xs)

pub size-positive : (d w : ℕ) (ws : List ℕ) → 0 < size_from d w ws
size-positive d w [] = omega arith
size-positive d w (v ∷ ws) = let h = size-positive d v ws in
    omega (arith, mul-lt 0 0 (suc (d / w)) (size_from d v ws) (omega arith) h)

-- a power's share of the degree bounds it
share : (w x left : ℕ) → 0 < w → w * x ≤ left → x ≤ left / w
share w x left some h = le-div x left w some (omega arith)

-- what a place with another variable gives
record Step (b : Bool) (q : ℕ) (o : Option (List ℕ)) (xs : List ℕ) : Type 0 where
  passes : b ≡ true
  tail : List ℕ
  at_tail : o ≡ Some tail
  is : xs ≡ q ∷ tail

step : (b : Bool) (q : ℕ) (o : Option (List ℕ)) (xs : List ℕ) →
    cond b (option_map (λ zs. q ∷ zs) o) None ≡ Some xs → Step b q o xs
step true q (Some zs) xs e = record { passes = refl; tail = zs; at_tail = refl; is = cc }
step true q None xs e = absurd (cc)
step false q o xs e = absurd (cc)

-- the last variable's power
record Last (b : Bool) (q : ℕ) (xs : List ℕ) : Type 0 where
  passes : b ≡ true
  is : xs ≡ q ∷ []

last : (b : Bool) (q : ℕ) (xs : List ℕ) → cond b (Some (q ∷ [])) None ≡ Some xs → Last b q xs
last true q xs e = record { passes = refl; is = cc }
last false q xs e = absurd (cc)

quotients : (i j s : ℕ) → 0 < s → j ≤ i → j / s ≤ i / s
quotients i j s some le = le-div (j / s) i s some (omega (arith, div-mul-le_self j s))

more_places : (x q s r : ℕ) → x ≤ q → r < s → x * s + r < suc q * s
more_places x q s r h k = let e : x * s ≤ q * s = mul-le-mul_right s h in omega (arith, e)

ordered_by : (x y : ℕ) (xs ys : List ℕ) → y ≤ x → (y ≡ x → slice_cmp nat_cmp ys xs ≡ Less) →
    slice_cmp nat_cmp (y ∷ ys) (x ∷ xs) ≡ Less
ordered_by x y xs ys le h = elim (nat_le x y) as (λ b. nat_le x y ≡ b → slice_cmp nat_cmp (y ∷ ys) (x ∷ xs) ≡ Less) [
  | true ↦ λ e. let l = leb-true x y e in let same : y ≡ x = omega arith in
      ap (λ o. ordering_then o (slice_cmp nat_cmp ys xs)) (sym (nat_cmp_is y x Equal same)) ∙ h same
  | false ↦ λ e. let l = leb-false x y e in
      ap (λ o. ordering_then o (slice_cmp nat_cmp ys xs)) (sym (nat_cmp_is y x Less l))
] refl

module _ (d : ℕ) where
  pub place-below : (w : ℕ) (ws xs : List ℕ) (left : ℕ) → length xs ≡ suc (length ws) → (0 < w) × ArePositive ws →
      dot (w ∷ ws) xs ≡ left → left ≤ d → dot (multipliers d (w ∷ ws)) xs < size_from d w ws
  place-below w ws [] left long positive e le = absurd (omega arith)
  place-below w [] (x ∷ xs) left long positive e le = omega arith
  place-below w (v ∷ ws) (x ∷ xs) left long positive e le =
      subst (λ n. n < suc (d / w) * size_from d v ws) (flipped)
      (more_places x (d / w) (size_from d v ws) (dot (multipliers d (v ∷ ws)) xs)
      (share w x d positive.0 (omega arith))
      (place-below v ws xs (dot (v ∷ ws) xs) (omega arith) positive.1 refl (omega arith)))
    where
      flipped : x * size_from d v ws + dot (multipliers d (v ∷ ws)) xs ≡ size_from d v ws * x +
          dot (multipliers d (v ∷ ws)) xs
      flipped = omega arith

  pub placed : (w : ℕ) (ws xs : List ℕ) (left : ℕ) → length xs ≡ suc (length ws) → (0 < w) × ArePositive ws →
      dot (w ∷ ws) xs ≡ left → left ≤ d → powers_from d w ws left (dot (multipliers d (w ∷ ws)) xs) ≡ Some xs
  placed w ws [] left long positive e le = absurd (omega arith)
  placed w [] (x ∷ []) left long positive e le = ap (λ n. cond (n % w == 0) (Some (n / w ∷ [])) None) whole ∙
      ap (λ b. cond b (Some ((x * w) / w ∷ [])) None) (eq-eqb _ 0 (mul-mod_left x w)) ∙
      ap (λ n. Some (n ∷ [])) (mul-div_cancel x positive.0)
    where
      whole : left ≡ x * w
      whole = omega arith
  placed w [] (x ∷ y ∷ xs) left long positive e le = absurd (omega arith)
  placed w (v ∷ ws) (x ∷ xs) left long positive e le =
      (λ i. cond (nat_le (at i) (left / w))
      (option_map (λ zs. at i ∷ zs) (powers_from d v ws (left - w * at i) (rest i))) None)
      ∙ ap (λ b. cond b (option_map (λ zs. x ∷ zs)
      (powers_from d v ws (left - w * x) (dot (multipliers d (v ∷ ws)) xs))) None)
      (le-leb x (left / w) (share w x left positive.0 (omega arith)))
      ∙ ap (option_map (λ zs. x ∷ zs))
      (placed v ws xs (left - w * x) (omega arith) positive.1 (omega arith) (omega arith))
    where
      below : dot (multipliers d (v ∷ ws)) xs < size_from d v ws
      below = place-below v ws xs (dot (v ∷ ws) xs) (omega arith) positive.1 refl (omega arith)

      flipped : size_from d v ws * x + dot (multipliers d (v ∷ ws)) xs ≡ x * size_from d v ws +
          dot (multipliers d (v ∷ ws)) xs
      flipped = omega arith

      at : (size_from d v ws * x + dot (multipliers d (v ∷ ws)) xs) / size_from d v ws ≡ x
      at = ap (λ n. n / size_from d v ws) flipped ∙ div-mul-add x (size_from d v ws) _ below

      rest : (size_from d v ws * x + dot (multipliers d (v ∷ ws)) xs) % size_from d v ws ≡
          dot (multipliers d (v ∷ ws)) xs
      rest = ap (λ n. n % size_from d v ws) flipped ∙ mod-mul-add x (size_from d v ws) _ below

  -- the powers at a place have the degree
  pub weighs : (w : ℕ) (ws xs : List ℕ) (left i : ℕ) → powers_from d w ws left i ≡ Some xs →
      (dot (w ∷ ws) xs ≡ left) × (length xs ≡ suc (length ws))
  weighs w [] xs left i e =
      subst (λ zs. (dot (w ∷ []) zs ≡ left) × (length zs ≡ 1)) (sym l.is) (
        let r = eqb-true _ 0 l.passes in
            whole r,
        omega arith,
      )
    where
      l : Last (left % w == 0) (left / w) xs
      l = last _ _ xs e

      whole : left % w ≡ 0 → w * (left / w) + 0 ≡ left
      whole r = omega (arith, div-add-mod left w)
  weighs w (v ∷ ws) xs left i e = let h : (dot (v ∷ ws) s.tail ≡ left - w * (i / size_from d v ws)) ×
      (length s.tail ≡ suc (length ws)) =
      weighs v ws s.tail (left - w * (i / size_from d v ws)) (i % size_from d v ws) s.at_tail in
      subst (λ zs. (dot (w ∷ v ∷ ws) zs ≡ left) × (length zs ≡ suc (suc (length ws)))) (sym s.is)
      (omega (arith, h.0, mul-div-le left w, mul-le-mul_left w (leb-true _ _ s.passes)), omega (arith, h.1))
    where
      s : Step (nat_le (i / size_from d v ws) (left / w)) (i / size_from d v ws)
          (powers_from d v ws (left - w * (i / size_from d v ws)) (i % size_from d v ws)) xs
      s = step _ _ _ xs e

  -- a smaller place has the smaller powers
  pub ordered : (w : ℕ) (ws xs ys : List ℕ) (left i j : ℕ) → j < i → i < size_from d w ws →
      powers_from d w ws left i ≡ Some xs → powers_from d w ws left j ≡ Some ys → slice_cmp nat_cmp ys xs ≡ Less
  ordered w [] xs ys left i j lt below p q = absurd (omega arith)
  ordered w (v ∷ ws) xs ys left i j lt below p q =
      (λ k. slice_cmp nat_cmp (t.is k) (s.is k)) ∙
      ordered_by (i / size_from d v ws) (j / size_from d v ws) s.tail t.tail
      (quotients i j (size_from d v ws) (size-positive d v ws) (omega arith))
      (λ same. ordered v ws s.tail t.tail (left - w * (i / size_from d v ws)) (i % size_from d v ws)
      (j % size_from d v ws)
      (omega (
        arith,
        div-add-mod i (size_from d v ws),
        div-add-mod j (size_from d v ws),
        ap (λ n. size_from d v ws * n) same,
      ))
      (mod-lt i (size-positive d v ws)) s.at_tail
      (subst (λ n. powers_from d v ws (left - w * n) (j % size_from d v ws) ≡ Some t.tail) same t.at_tail))
    where
      s : Step (nat_le (i / size_from d v ws) (left / w)) (i / size_from d v ws)
          (powers_from d v ws (left - w * (i / size_from d v ws)) (i % size_from d v ws)) xs
      s = step _ _ _ xs p

      t : Step (nat_le (j / size_from d v ws) (left / w)) (j / size_from d v ws)
          (powers_from d v ws (left - w * (j / size_from d v ws)) (j % size_from d v ws)) ys
      t = step _ _ _ ys q
