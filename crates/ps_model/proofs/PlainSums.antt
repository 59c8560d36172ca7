-- What is added to a map term by term is the map of a formal sum.
use Rattle.std.proofs.Common.{◌≡◌, ℕ, zero, suc, ◌+◌, ◌-◌, ◌*◌, ◌%◌, ◌^◌, ◌<◌, ◌≤◌, List, [], ◌∷◌, ◌++◌, length}
use Rattle.std.proofs.Common.{get_or, map, drop, refl, sym, ◌∙◌, ap, subst, arith, All}
use Rattle.std.proofs.Common.{◌≢◌, get_or-set_other, get_or-set_same, below_more, zero-add}
use Rattle.std.proofs.Math.ListN.{set}
use Rattle.std.specs.Prelude.{max}
use Rattle.std.specs.FinMap.{FinMap, empty, entries}
use Rattle.std.proofs.lemmas.Nat.{mul-le}
use Rattle.std.proofs.lemmas.List.{get_or-map, length-map, drop_more, drop_all, append-nil}
use Rattle.ps_model.specs.Keys.{Key, Powers, powers_of, numbers, weights_from, add_powers, add_keys, key_compare}
use Rattle.ps_model.specs.Keys.{weighted}
use Rattle.ps_model.specs.Sums.{products}
use Rattle.ps_model.specs.FiniteMaps.{collected, put, sum_maps}
use Rattle.ps_model.specs.Plain.{key_of, entry_of, value_in}
use Rattle.ps_model.specs.PlainLists.{IsInRange, HasProductsInRange, added, multiplied, plain_degree}
use Rattle.ps_model.specs.declared.plain.PlainTerm.{PlainTerm}
use Rattle.ps_model.proofs.Coefficients.{collected-nil, collected-cons}

abbrev Map : Type 0
Map = FinMap (key_compare 8) ℕ

abbrev Entries : Type 0
Entries = List (Key 8 × ℕ)

pub added-nil : (m : ℕ) (p : Map) → added m [] p ≡ p
unfolding added
added-nil m p = refl

pub added-cons : (m : ℕ) (k : Key 8) (c : ℕ) (es : Entries) (p : Map) → added m ((k, c) ∷ es) p
    ≡ put (key_compare 8) (added m es p) k ((c + value_in (added m es p) k) % m)
unfolding added
added-cons m k c es p = refl

pub collected-append : (m : ℕ) (es fs : Entries) → collected (key_compare 8) m (es ++ fs)
    ≡ added m es (collected (key_compare 8) m fs)
collected-append m [] fs = sym (added-nil m _)
collected-append m (e ∷ es) fs = collected-cons (key_compare 8) m e.0 e.1 (es ++ fs)
    ∙ (λ i. put (key_compare 8) (collected-append m es fs i) e.0
    ((e.1 + value_in (collected-append m es fs i) e.0) % m))
    ∙ sym (added-cons m e.0 e.1 es (collected (key_compare 8) m fs))

pub collected_is : (m : ℕ) (es : Entries) → collected (key_compare 8) m es ≡ added m es empty
collected_is m es = ap (collected (key_compare 8) m) (sym (append-nil es)) ∙ collected-append m es []
    ∙ ap (added m es) (collected-nil (key_compare 8) m)

pub sum_is : (m : ℕ) (a b p q r : Map) → p ≡ empty → q ≡ added m (entries b) p → r ≡ added m (entries a) q
    → r ≡ sum_maps (key_compare 8) m a b
sum_is m a b p q r none first second = second
    ∙ ap (added m (entries a)) (first ∙ ap (added m (entries b)) none ∙ sym (collected_is m (entries b)))
    ∙ sym (collected-append m (entries a) (entries b))

length-mapped : {X Y : Type 0} (f : X → Y) (xs : List X) → length (map f xs) ≡ length xs
length-mapped f [] = refl
length-mapped f (x ∷ xs) = ap suc (length-mapped f xs)

-- a loop from the end
drop_down : {X : Type 0} (xs : List X) (i : ℕ) (x : X) → 0 < i → i ≤ length xs → get_or xs (i - 1) x ≡ x
    → drop (i - 1) xs ≡ x ∷ drop i xs
drop_down xs i x some le is = drop_more xs (i - 1) x (omega arith)
    ∙ (λ j. is j ∷ drop (whole j) xs)
  where
    whole : (i - 1) + 1 ≡ i
    whole = omega arith

drop_end : {X : Type 0} (xs : List X) → drop (length xs) xs ≡ []
drop_end xs = drop_all (length xs) xs (omega arith)

-- nothing is left of a list whose rest begins at 0
pub from_start : {X Y : Type 0} (f : List X → Y) (xs ys : List X) (i : ℕ) → i ≤ 0 → xs ≡ ys → f (drop i xs) ≡ f ys
from_start f xs ys i h e = ap (λ j. f (drop j xs)) none ∙ ap f e
  where
    none : i ≡ 0
    none = omega arith

module _ (m : ℕ) where
  pub added_none : (fs : Entries) (i : ℕ) (p : Map) → i ≡ length fs → p ≡ added m (drop i fs) p
  added_none fs i p e = sym (ap (λ l. added m l p) (ap (λ j. drop j fs) e ∙ drop_end fs) ∙ added-nil m p)

  pub added_more : (fs : Entries) (i : ℕ) (k : Key 8) (c : ℕ) (old now new : Map) → 0 < i → i ≤ length fs
      → get_or fs (i - 1) (k, c) ≡ (k, c) → now ≡ added m (drop i fs) old
      → new ≡ put (key_compare 8) now k ((c + value_in now k) % m) → new ≡ added m (drop (i - 1) fs) old
  added_more fs i k c old now new some le is so_far step = step
      ∙ (λ j. put (key_compare 8) (so_far j) k ((c + value_in (so_far j) k) % m))
      ∙ sym (ap (λ l. added m l old) (drop_down fs i (k, c) some le is) ∙ added-cons m k c (drop i fs) old)

  -- the terms of a polynomial are added from the last one on
  pub terms_none : (ts : List PlainTerm) (p : Map) → p ≡ added m (drop (length ts) (map entry_of ts)) p
  terms_none ts p = added_none (map entry_of ts) (length ts) p (sym (length-mapped entry_of ts))

  pub terms_more : (ts : List PlainTerm) (i : ℕ) (d : PlainTerm) (old now new : Map) → 0 < i → i ≤ length ts
      → now ≡ added m (drop i (map entry_of ts)) old
      → new ≡ put (key_compare 8) now (key_of (get_or ts (i - 1) d))
      (((get_or ts (i - 1) d).coefficient + value_in now (key_of (get_or ts (i - 1) d))) % m)
      → new ≡ added m (drop (i - 1) (map entry_of ts)) old
  terms_more ts i d old now new some le so_far step = added_more (map entry_of ts) i (key_of (get_or ts (i - 1) d))
      (get_or ts (i - 1) d).coefficient old now new some (rw length-map le)
      (get_or-map entry_of ts (i - 1) d (entry_of (get_or ts (i - 1) d)) (omega arith)) so_far step

  -- and so are their multiples
  pub multiples_none : (by : Key 8 × ℕ) (ts : List PlainTerm) (p : Map)
      → p ≡ added m (drop (length ts) (multiplied by (map entry_of ts))) p
  multiples_none by ts p = added_none (multiplied by (map entry_of ts)) (length ts) p
      (sym (length-mapped (λ f. (add_keys 8 by.0 f.0, by.1 * f.1)) (map entry_of ts) ∙ length-mapped entry_of ts))

  pub multiples_more : (by : Key 8 × ℕ) (ts : List PlainTerm) (i : ℕ) (d : PlainTerm) (k : Key 8) (old now new : Map)
      → 0 < i → i ≤ length ts → k ≡ add_keys 8 by.0 (key_of (get_or ts (i - 1) d))
      → now ≡ added m (drop i (multiplied by (map entry_of ts))) old
      → new ≡ put (key_compare 8) now k ((by.1 * (get_or ts (i - 1) d).coefficient + value_in now k) % m)
      → new ≡ added m (drop (i - 1) (multiplied by (map entry_of ts))) old
  multiples_more by ts i d k old now new some le is so_far step = added_more (multiplied by (map entry_of ts)) i k
      (by.1 * (get_or ts (i - 1) d).coefficient) old now new some
      (rw length-map (rw length-map le))
      (get_or-map (λ f. (add_keys 8 by.0 f.0, by.1 * f.1)) (map entry_of ts) (i - 1) (entry_of d) _ inside
      ∙ ap (λ (f : Key 8 × ℕ). (add_keys 8 by.0 f.0, by.1 * f.1))
      (get_or-map entry_of ts (i - 1) d (entry_of d) (omega arith))
      ∙ (λ j. (sym is j, by.1 * (get_or ts (i - 1) d).coefficient))) so_far step
    where
      inside : i - 1 < length (map entry_of ts)
      inside = rw length-map (omega arith)

  -- the rows of a product are added from the last one on
  pub rows_none : (ts : List PlainTerm) (fs : Entries) (p : Map) → p ≡ empty
      → p ≡ collected (key_compare 8) m (products (add_keys 8) (drop (length ts) (map entry_of ts)) fs)
  rows_none ts fs p none = none ∙ sym (ap (λ l. collected (key_compare 8) m (products (add_keys 8) l fs))
      (ap (λ j. drop j (map entry_of ts)) (sym (length-mapped entry_of ts)) ∙ drop_end (map entry_of ts))
      ∙ collected-nil (key_compare 8) m)

  pub rows_more : (ts : List PlainTerm) (fs : Entries) (i : ℕ) (d : PlainTerm) (now new : Map) → 0 < i → i ≤ length ts
      → now ≡ collected (key_compare 8) m (products (add_keys 8) (drop i (map entry_of ts)) fs)
      → new ≡ added m (multiplied (entry_of (get_or ts (i - 1) d)) fs) now
      → new ≡ collected (key_compare 8) m (products (add_keys 8) (drop (i - 1) (map entry_of ts)) fs)
  rows_more ts fs i d now new some le so_far step = step
      ∙ ap (added m (multiplied (entry_of (get_or ts (i - 1) d)) fs)) so_far
      ∙ sym (ap (λ l. collected (key_compare 8) m (products (add_keys 8) l fs))
      (drop_down (map entry_of ts) i (entry_of (get_or ts (i - 1) d)) some (rw length-map le)
      (get_or-map entry_of ts (i - 1) d (entry_of (get_or ts (i - 1) d)) (omega arith)))
      ∙ collected-append m (multiplied (entry_of (get_or ts (i - 1) d)) fs)
      (products (add_keys 8) (drop i (map entry_of ts)) fs))

-- a row of the products in range
pub row_in_range : (ts : List PlainTerm) (i : ℕ) (d : PlainTerm) (es fs : Entries) → i < length ts →
    map entry_of ts ≡ es
    → HasProductsInRange es fs → All (λ f. IsInRange (add_keys 8 (key_of (get_or ts i d)) f.0)) fs
row_in_range ts i d es fs lt is h = subst (λ (e : Key 8 × ℕ). All (λ f. IsInRange (add_keys 8 e.0 f.0)) fs)
    (get_or-map entry_of ts i d (entry_of d) lt) (all i (entry_of d) (rw length-map lt))
  where
    all : HasProductsInRange (map entry_of ts) fs
    all = subst (λ es. HasProductsInRange es fs) (sym is) h

pub entry_in_range : (by : Key 8) (ts : List PlainTerm) (i : ℕ) (d : PlainTerm) (es : Entries) → i < length ts
    → map entry_of ts ≡ es → All (λ e. IsInRange (add_keys 8 by e.0)) es
    → IsInRange (add_keys 8 by (key_of (get_or ts i d)))
entry_in_range by ts i d es lt is h = subst (λ (e : Key 8 × ℕ). IsInRange (add_keys 8 by e.0))
    (get_or-map entry_of ts i d (entry_of d) lt) (all i (entry_of d) (rw length-map lt))
  where
    all : All (λ e. IsInRange (add_keys 8 by e.0)) (map entry_of ts)
    all = subst (All (λ e. IsInRange (add_keys 8 by e.0))) (sym is) h

-- powers by their places
get_or-rest : (xs : List ℕ) (i : ℕ) → get_or (drop 1 xs) i 0 ≡ get_or xs (suc i) 0
get_or-rest [] zero = refl
get_or-rest [] (suc i) = refl
get_or-rest (x ∷ xs) i = refl

powers_of-suc : (n : ℕ) (xs : List ℕ) → powers_of (suc n) xs ≡ (get_or xs 0 0, powers_of n (drop 1 xs))
powers_of-suc n [] = refl
powers_of-suc n (x ∷ xs) = refl

pub powers_add : (n : ℕ) (xs ys zs : List ℕ) → ((i : ℕ) → i < n → get_or zs i 0 ≡ get_or xs i 0 + get_or ys i 0)
    → powers_of n zs ≡ add_powers n (powers_of n xs) (powers_of n ys)
powers_add zero xs ys zs h = refl
powers_add (suc n) xs ys zs h = powers_of-suc n zs
    ∙ (λ i. (h 0 (omega arith) i, powers_add n (drop 1 xs) (drop 1 ys) (drop 1 zs) later i))
    ∙ sym (λ i. add_powers (suc n) (powers_of-suc n xs i) (powers_of-suc n ys i))
  where
    later : (i : ℕ) → i < n → get_or (drop 1 zs) i 0 ≡ get_or (drop 1 xs) i 0 + get_or (drop 1 ys) i 0
    later i lt = get_or-rest zs i ∙ h (suc i) (omega arith) ∙ sym (λ j. get_or-rest xs i j + get_or-rest ys i j)

number_at : (n : ℕ) (xs ys : List ℕ) (i d : ℕ) → i < n →
    get_or (numbers n (add_powers n (powers_of n xs) (powers_of n ys))) i d
    ≡ get_or xs i 0 + get_or ys i 0
number_at zero xs ys i d h = absurd (omega arith)
number_at (suc n) xs ys zero d h = λ j. (powers_of-suc n xs j).0 + (powers_of-suc n ys j).0
number_at (suc n) xs ys (suc i) d h =
    (λ j. get_or (numbers n (add_powers n (powers_of-suc n xs j).1 (powers_of-suc n ys j).1)) i d)
    ∙ number_at n (drop 1 xs) (drop 1 ys) i d (omega arith) ∙ (λ j. get_or-rest xs i j + get_or-rest ys i j)

length-numbers : (n : ℕ) (x : Powers n) → length (numbers n x) ≡ n
length-numbers zero x = refl
length-numbers (suc n) x = omega (arith, length-numbers n x.1)

pub power_fits : (a b : PlainTerm) (i : ℕ) → IsInRange (add_keys 8 (key_of a) (key_of b)) → i < 8
    → get_or a.powers i 0 + get_or b.powers i 0 < 2 ^ 16
unfolding IsInRange
power_fits a b i h lt = subst (λ n. n < 2 ^ 16) (number_at 8 a.powers b.powers i 0 lt)
    (h.0 i 0 (rw length-numbers lt))

pub y_fits : (a b : PlainTerm) → IsInRange (add_keys 8 (key_of a) (key_of b)) → a.y + b.y < 2 ^ 32
unfolding IsInRange
y_fits a b h = h.1

-- the degree, one variable more at a time
weights_from-suc : (n : ℕ) (ws : List ℕ) → weights_from (suc n) ws ≡ (max 1 (get_or ws 0 0), weights_from n (drop 1 ws))
weights_from-suc n [] = refl
weights_from-suc n (w ∷ ws) = refl

-- what the variables from i on add to a degree
abbrev pub later_degree : List ℕ → List ℕ → ℕ → ℕ → ℕ
later_degree ws xs i n = weighted n (weights_from n (drop i ws)) (powers_of n (drop i xs))

get_or-drop : (xs : List ℕ) (i : ℕ) → get_or (drop i xs) 0 0 ≡ get_or xs i 0
get_or-drop xs zero = refl
get_or-drop [] (suc i) = refl
get_or-drop (x ∷ xs) (suc i) = get_or-drop xs i

drop_next : (xs : List ℕ) (i : ℕ) → drop 1 (drop i xs) ≡ drop (suc i) xs
drop_next xs zero = refl
drop_next [] (suc i) = refl
drop_next (x ∷ xs) (suc i) = drop_next xs i

later_degree-next : (ws xs : List ℕ) (i n : ℕ) → later_degree ws xs i (suc n)
    ≡ max 1 (get_or ws i 0) * get_or xs i 0 + later_degree ws xs (suc i) n
later_degree-next ws xs i n =
    (λ j. weighted (suc n) (weights_from-suc n (drop i ws) j) (powers_of-suc n (drop i xs) j))
    ∙ (λ j. max 1 (get_or-drop ws i j) * get_or-drop xs i j
    + weighted n (weights_from n (drop_next ws i j)) (powers_of n (drop_next xs i j)))

pub degree_begun : (ws : List ℕ) (t : PlainTerm) → 0 + later_degree ws t.powers 0 8 ≡ plain_degree ws (key_of t)
unfolding plain_degree
degree_begun ws t = zero-add _

pub degree_more : (ws xs : List ℕ) (i degree whole w x : ℕ) → i < 8 → w ≡ max 1 (get_or ws i 0) → x ≡ get_or xs i 0
    → degree + later_degree ws xs i (8 - i) ≡ whole
    → (degree + w * x) + later_degree ws xs (i + 1) (8 - (i + 1)) ≡ whole
degree_more ws xs i degree whole w x lt ew ex is = (λ j. (degree + ew j * ex j) + later_degree ws xs (next j)
    (8 - next j))
    ∙ omega (arith, later_degree-next ws xs i (8 - suc i), is, ap (later_degree ws xs i) left)
  where
    next : i + 1 ≡ suc i
    next = omega arith

    left : 8 - i ≡ suc (8 - suc i)
    left = omega arith

pub degree_grows : (i degree w x : ℕ) → w < 65536 → x < 65536 → degree ≤ 4294836225 * i
    → degree + w * x ≤ 4294836225 * (i + 1)
degree_grows i degree w x hw hx h = omega (arith, mul-le w x 65535 65535 (omega arith) (omega arith), h)

pub next_fits : (a b : PlainTerm) (i x : ℕ) → IsInRange (add_keys 8 (key_of a) (key_of b)) → i < 8
    → x ≡ get_or a.powers i 0 → x + get_or b.powers i 0 < 2 ^ 16
next_fits a b i x h lt e = subst (λ n. n + get_or b.powers i 0 < 2 ^ 16) (sym e) (power_fits a b i h lt)

-- a power that is added, and those that are left
pub powers_more : (xs ys zs : List ℕ) (i : ℕ) → i < length zs
    → ((j : ℕ) → j < i → get_or zs j 0 ≡ get_or xs j 0 + get_or ys j 0) → get_or zs i 0 ≡ get_or xs i 0
    → (j : ℕ) → j < i + 1
    → get_or (set zs i (get_or zs i 0 + get_or ys i 0)) j 0 ≡ get_or xs j 0 + get_or ys j 0
powers_more xs ys zs i lt before here = below_more _ _
    (λ j h. let other : j ≢ i = omega arith in rw get_or-set_other (before j h))
    (rw get_or-set_same (ap (λ n. n + get_or ys i 0) here))

pub powers_left : (xs zs : List ℕ) (i v : ℕ) → ((j : ℕ) → i ≤ j → get_or zs j 0 ≡ get_or xs j 0)
    → (j : ℕ) → i + 1 ≤ j → get_or (set zs i v) j 0 ≡ get_or xs j 0
powers_left xs zs i v h j le = let other : j ≢ i = omega arith in rw get_or-set_other (h j (omega arith))
