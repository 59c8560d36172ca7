-- The entries that cells hold are the map of a formal sum with the same totals.
use Rattle.std.proofs.Common.{◌≡◌, ℕ, zero, suc, ◌+◌, ◌*◌, ◌%◌, ◌<◌, ◌≤◌, true, false, cond, T, List, [], ◌∷◌, ◌++◌}
use Rattle.std.proofs.Common.{length, map, take, refl, sym, ◌∙◌, ap, subst, arith, All}
use Rattle.std.specs.Prelude.{Option, Some, None, ◌==◌}
use Rattle.std.specs.Option.{option_map}
use Rattle.std.specs.FinMap.{from_entries, is_sorted}
use Rattle.std.specs.Ordering.{nat_cmp}
use Rattle.std.specs.declared.cmp.Ordering.TheVariants.{Less}
use Rattle.std.specs.Cmp.Lexicographic.{slice_cmp}
use Rattle.std.proofs.Math.Nat.{mod-lt}
use Rattle.std.proofs.lemmas.Nat.{mul-mod_first}
use Rattle.std.proofs.lemmas.Bool.{eqb-true, eqb-false}
use Rattle.std.proofs.lemmas.List.{append-nil}
use Rattle.std.proofs.lemmas.List.Elements.{All-append, All-cons}
use Rattle.ps_model.specs.Sums.{total, products}
use Rattle.ps_model.specs.FiniteMaps.{collected}
use Rattle.ps_model.specs.Keys.{Key, Powers, powers_of, numbers, add_powers, key_compare, add_keys}
use Rattle.ps_model.specs.KeyLaws.{weights_from-positive}
use Rattle.ps_model.specs.Keys.{weights_from}
use Rattle.ps_model.specs.SeriesRing.{ring_of}
use Rattle.ps_model.proofs.Totals.{total-append}
use Rattle.ps_model.proofs.Maps.{is_sorted-push}
use Rattle.ps_model.proofs.Coefficients.{plus-mod, at}
use Rattle.ps_model.proofs.Collected.{AreResidues, is_collected}
use Rattle.parts.specs.Cells.{cells_total, row_total}
use Rattle.parts.specs.Places.{dot, size_from, size, multipliers, powers_from}
use Rattle.parts.specs.Keys.{key_from}
use Rattle.parts.specs.Terms.{IsKeyOf, entry_of, key_at, kept_entry, finished, products_total, placed_term}
use Rattle.parts.specs.declared.terms.Term.{Term}
use Rattle.parts.proofs.Ordered.{ArePositive, dot-add, dot-take, placed, weighs, ordered, place-below}
use Rattle.std.specs.Ordering.{ordering_then}
use Rattle.std.specs.declared.cmp.Ordering.TheVariants.{Equal, Greater}

-- g of the key at a place, 0 where there is none
abbrev pub at_place : (Key 8 → ℕ) → Option (Key 8) → ℕ
at_place g None = 0
at_place g (Some k) = g k

total-kept_entry : (g : Key 8 → ℕ) (o : Option (Key 8)) (v : ℕ) → total g (kept_entry o v) ≡ v * at_place g o
total-kept_entry g None v = omega arith
total-kept_entry g (Some k) v = elim (v == 0) as (λ b. (v == 0) ≡ b → total g (cond b [] ((k, v) ∷ [])) ≡ v * g k) [
  | true ↦ λ e. sym (ap (λ n. n * g k) (eqb-true v 0 e) ∙ omega arith)
  | false ↦ λ e. omega arith
] refl

module _ (m : ℕ) (key : ℕ → Option (Key 8)) where
  pub total-finished : (g : Key 8 → ℕ) (i : ℕ) (xs : List ℕ) →
      total g (finished m key i xs) % m ≡ cells_total (λ j. at_place g (key j)) i xs % m
  total-finished g i [] = refl
  total-finished g i (x ∷ xs) =
      ap (λ n. n % m) (total-append g (finished m key (suc i) xs) (kept_entry (key i) (x % m)) ∙
      ap (λ n. total g (finished m key (suc i) xs) + n) (total-kept_entry g (key i) (x % m)))
      ∙ plus-mod m _ _ _ _ (total-finished g (suc i) xs) (mul-mod_first x (at_place g (key i)) m)
      ∙ ap (λ n. n % m) (omega arith)

  residues-append : (es fs : List (Key 8 × ℕ)) → AreResidues m es → AreResidues m fs → AreResidues m (es ++ fs)
  residues-append [] fs h k = k
  residues-append (e ∷ es) fs h k = (h.0, h.1, residues-append es fs h.2 k)

  residue-kept : (o : Option (Key 8)) (x : ℕ) → 0 < m → AreResidues m (kept_entry o (x % m))
  residue-kept None x some = tt
  residue-kept (Some k) x some =
      elim (x % m == 0) as (λ b. (x % m == 0) ≡ b → AreResidues m (cond b [] ((k, x % m) ∷ []))) [
        | true ↦ λ e. tt
        | false ↦ λ e. (let n = eqb-false (x % m) 0 e in omega arith, mod-lt x some, tt)
      ] refl

  pub residues-finished : (i : ℕ) (xs : List ℕ) → 0 < m → AreResidues m (finished m key i xs)
  residues-finished i [] some = tt
  residues-finished i (x ∷ xs) some =
      residues-append _ _ (residues-finished (suc i) xs some) (residue-kept (key i) x some)

  -- keys fall as places rise
  abbrev pub IsFalling : ℕ → Type 0
  IsFalling n = (i j : ℕ) → j < i → i < n → (x z : Key 8) → key i ≡ Some x → key j ≡ Some z → key_compare 8 x z ≡ Less

  before-kept : (n i j : ℕ) (x : ℕ) (o : Option (Key 8)) (z : Key 8) → IsFalling n → j < i → i < n →
      key j ≡ Some z → key i ≡ o → All (λ (e : Key 8 × ℕ). key_compare 8 e.0 z ≡ Less) (kept_entry o (x % m))
  before-kept n i j x None z falls lt below is e = λ k d h. absurd (omega arith)
  before-kept n i j x (Some y) z falls lt below is e =
      elim (x % m == 0) as (λ b. All (λ (e : Key 8 × ℕ). key_compare 8 e.0 z ≡ Less) (cond b [] ((y, x % m) ∷ []))) [
        | true ↦ λ k d h. absurd (omega arith)
        | false ↦ All-cons (λ (e : Key 8 × ℕ). key_compare 8 e.0 z ≡ Less) (y, x % m) [] (falls i j lt below y z e is)
            (λ k d h. absurd (omega arith))
      ]

  all_before : (n i j : ℕ) (xs : List ℕ) (z : Key 8) → IsFalling n → j < i → i + length xs ≤ n → key j ≡ Some z →
      All (λ (e : Key 8 × ℕ). key_compare 8 e.0 z ≡ Less) (finished m key i xs)
  all_before n i j [] z falls lt below is = λ k d h. absurd (omega arith)
  all_before n i j (x ∷ xs) z falls lt below is =
      All-append (λ (e : Key 8 × ℕ). key_compare 8 e.0 z ≡ Less) (finished m key (suc i) xs)
      (kept_entry (key i) (x % m)) (all_before n (suc i) j xs z falls (omega arith) (omega arith) is)
      (before-kept n i j x (key i) z falls lt (omega arith) is refl)

  sorted-kept : (es : List (Key 8 × ℕ)) (o : Option (Key 8)) (v : ℕ) → T (is_sorted (key_compare 8) es) →
      ((z : Key 8) → o ≡ Some z → All (λ (e : Key 8 × ℕ). key_compare 8 e.0 z ≡ Less) es) →
      T (is_sorted (key_compare 8) (es ++ kept_entry o v))
  sorted-kept es None v h before = subst (λ l. T (is_sorted (key_compare 8) l)) (sym (append-nil es)) h
  sorted-kept es (Some z) v h before =
      elim (v == 0) as (λ b. T (is_sorted (key_compare 8) (es ++ cond b [] ((z, v) ∷ [])))) [
        | true ↦ subst (λ l. T (is_sorted (key_compare 8) l)) (sym (append-nil es)) h
        | false ↦ is_sorted-push (key_compare 8) z v es (λ i d lt. before z refl i d lt) h
      ]

  pub sorted-finished : (n i : ℕ) (xs : List ℕ) → IsFalling n → i + length xs ≤ n →
      T (is_sorted (key_compare 8) (finished m key i xs))
  sorted-finished n i [] falls below = tt
  sorted-finished n i (x ∷ xs) falls below =
      sorted-kept (finished m key (suc i) xs) (key i) (x % m) (sorted-finished n (suc i) xs falls (omega arith))
      (λ z e. all_before n (suc i) i xs z falls (omega arith) (omega arith) e)

  pub collected_from : (n : ℕ) (two : 2 ≤ m) (cells : List ℕ) (es : List (Key 8 × ℕ)) → IsFalling n →
      length cells ≤ n → ((g : Key 8 → ℕ) → cells_total (λ j. at_place g (key j)) 0 cells % m ≡ total g es % m) →
      from_entries {R = key_compare 8} (finished m key 0 cells) ≡ collected (key_compare 8) m es
  collected_from n two cells es falls below same =
      is_collected (ring_of 8 m two (weights_from 8 []) (weights_from-positive 8 [])) (finished m key 0 cells) es
      (sorted-finished n 0 cells falls (omega arith)) (residues-finished 0 cells (omega arith))
      (λ q. total-finished (at (key_compare 8) q) 0 cells ∙ same (at (key_compare 8) q))

-- powers of equal length compare as their keys
padded_less : (n : ℕ) (xs ys : List ℕ) → length xs ≡ length ys → length xs ≤ n → slice_cmp nat_cmp ys xs ≡ Less →
    slice_cmp nat_cmp (numbers n (powers_of n ys)) (numbers n (powers_of n xs)) ≡ Less
padded_less n [] [] same short h = absurd (cc)
padded_less n [] (y ∷ ys) same short h = absurd (omega arith)
padded_less n (x ∷ xs) [] same short h = absurd (omega arith)
padded_less zero (x ∷ xs) (y ∷ ys) same short h = absurd (omega arith)
padded_less (suc n) (x ∷ xs) (y ∷ ys) same short h =
    elim (nat_cmp y x) as (λ r. ordering_then r (slice_cmp nat_cmp ys xs) ≡ Less →
    ordering_then r (slice_cmp nat_cmp (numbers n (powers_of n ys)) (numbers n (powers_of n xs))) ≡ Less) [
      | Less ↦ λ e. refl
      | Equal ↦ λ e. padded_less n xs ys (omega arith) (omega arith) e
      | Greater ↦ λ e. e
    ] h

pub record Found (o : Option (List ℕ)) (k : Key 8) : Type 0 where
  pub powers : List ℕ
  pub at_powers : o ≡ Some powers
  pub is : k ≡ key_from powers

pub found : (o : Option (List ℕ)) (k : Key 8) → option_map key_from o ≡ Some k → Found o k
found None k e = absurd (cc)
found (Some xs) k e = record { powers = xs; at_powers = refl; is = cc }

pub falls : (m d : ℕ) (ws : List ℕ) → length ws ≤ 8 → IsFalling m (key_at d ws) (size d ws)
falls m d [] few i j lt below x z p q = absurd (omega arith)
falls m d (w ∷ ws) few i j lt below x z p q =
    (λ k. key_compare 8 (f.is k) (g.is k)) ∙
    padded_less 8 f.powers g.powers
    (omega (arith, (weighs d w ws f.powers d i f.at_powers).1, (weighs d w ws g.powers d j g.at_powers).1))
    (omega (arith, (weighs d w ws f.powers d i f.at_powers).1))
    (ordered d w ws f.powers g.powers d i j lt below f.at_powers g.at_powers)
  where
    f : Found (powers_from d w ws d i) x
    f = found (powers_from d w ws d i) x p

    g : Found (powers_from d w ws d j) z
    g = found (powers_from d w ws d j) z q

-- a key of degree d has a place, and the place has it
take-numbers : (n k : ℕ) (x : Powers k) → n ≤ k → length (take n (numbers k x)) ≡ n
take-numbers zero k x h = refl
take-numbers (suc n) zero x h = absurd (omega arith)
take-numbers (suc n) (suc k) x h = omega (arith, take-numbers n k x.1 (omega arith))

pub length-multipliers : (d : ℕ) (ws : List ℕ) → length (multipliers d ws) ≡ length ws
length-multipliers d [] = refl
length-multipliers d (w ∷ ws) = omega (arith, length-multipliers d ws)

dot-front : (ms xs : List ℕ) (n : ℕ) → length ms ≡ n → dot ms (take n xs) ≡ dot ms xs
dot-front ms xs n e = subst (λ j. dot ms (take j xs) ≡ dot ms xs) e (dot-take ms xs)

pub key_at-place : (d : ℕ) (ws : List ℕ) (k : Key 8) → 0 < length ws → length ws ≤ 8 → ArePositive ws →
    IsKeyOf ws d k → key_at d ws (dot (multipliers d ws) (numbers 8 k.powers)) ≡ Some k
key_at-place d [] k some few positive is = absurd (omega arith)
key_at-place d (w ∷ ws) k some few positive is =
    ap (λ i. key_at d (w ∷ ws) i)
    (sym (dot-front (multipliers d (w ∷ ws)) (numbers 8 k.powers) (suc (length ws)) (length-multipliers d (w ∷ ws))))
    ∙ ap (option_map key_from)
    (placed d w ws (take (suc (length ws)) (numbers 8 k.powers)) d
    (take-numbers (suc (length ws)) 8 k.powers few) positive (dot-take (w ∷ ws) (numbers 8 k.powers) ∙
    is.weighs) (omega arith))
    ∙ ap Some (sym is.is)

pub place-below-size : (d e : ℕ) (ws : List ℕ) (k : Key 8) → 0 < length ws → length ws ≤ 8 → ArePositive ws →
    IsKeyOf ws e k → e ≤ d → dot (multipliers d ws) (numbers 8 k.powers) < size d ws
place-below-size d e [] k some few positive is le = absurd (omega arith)
place-below-size d e (w ∷ ws) k some few positive is le =
    subst (λ n. n < size_from d w ws)
    (dot-front (multipliers d (w ∷ ws)) (numbers 8 k.powers) (suc (length ws)) (length-multipliers d (w ∷ ws)))
    (place-below d w ws (take (suc (length ws)) (numbers 8 k.powers)) e
    (take-numbers (suc (length ws)) 8 k.powers few) positive (dot-take (w ∷ ws) (numbers 8 k.powers) ∙
    is.weighs) le)

no_powers-twice : (k : ℕ) → powers_of k [] ≡ add_powers k (powers_of k []) (powers_of k [])
no_powers-twice zero = refl
no_powers-twice (suc k) = λ i. (two i, no_powers-twice k i)
  where
    two : 0 ≡ 0 + 0
    two = omega arith

front-add : (n k : ℕ) (x z : Powers k) →
    powers_of k (take n (numbers k (add_powers k x z))) ≡
    add_powers k (powers_of k (take n (numbers k x))) (powers_of k (take n (numbers k z)))
front-add zero k x z = no_powers-twice k
front-add (suc n) zero x z = refl
front-add (suc n) (suc k) x z = λ i. (x.0 + z.0, front-add n k x.1 z.1 i)

pub IsKeyOf-add : (ws : List ℕ) (d e : ℕ) (x z : Key 8) → IsKeyOf ws d x → IsKeyOf ws e z →
    IsKeyOf ws (d + e) (add_keys 8 x z)
IsKeyOf-add ws d e x z h g = record {
  weighs = dot-add ws 8 x.powers z.powers ∙ (λ i. h.weighs i + g.weighs i);
  is = (λ i. add_keys 8 (h.is i) (g.is i)) ∙
      (λ i. record { powers = sym (front-add (length ws) 8 x.powers z.powers) i; y = sym zeros i });
}
  where
    zeros : 0 ≡ 0 + 0
    zeros = omega arith

dot-nil : (ms : List ℕ) → dot ms [] ≡ 0
dot-nil [] = refl
dot-nil (m ∷ ms) = refl

pub dot-padded : (ms : List ℕ) (n : ℕ) (xs : List ℕ) → length ms ≤ n → dot ms (numbers n (powers_of n xs)) ≡ dot ms xs
dot-padded [] n xs h = refl
dot-padded (m ∷ ms) zero xs h = absurd (omega arith)
dot-padded (m ∷ ms) (suc n) [] h = omega (arith, dot-padded ms n [] (omega arith), dot-nil ms)
dot-padded (m ∷ ms) (suc n) (x ∷ xs) h = omega (arith, dot-padded ms n xs (omega arith))

-- the products of terms, at their places
module _ (d e : ℕ) (ws : List ℕ) (some : 0 < length ws) (few : length ws ≤ 8) (positive : ArePositive ws)
    (g : Key 8 → ℕ) where
  row_products : (t : Term) (us : List Term) → IsKeyOf ws d (key_from t.monomial.powers) →
      All (λ u. IsKeyOf ws e (key_from u.monomial.powers)) us
      → row_total (λ j. at_place g (key_at (d + e) ws j)) (dot (multipliers (d + e) ws) t.monomial.powers)
      t.coefficient (map (placed_term (multipliers (d + e) ws)) us) ≡
      total g (map (λ (f : Key 8 × ℕ). (add_keys 8 (key_from t.monomial.powers) f.0, t.coefficient * f.1))
      (map entry_of us))
  row_products t [] h all = refl
  row_products t (u ∷ us) h all =
      (λ i. (t.coefficient * u.coefficient) * value i + row_products t us h (λ k x lt. all (suc k) x (omega arith)) i)
    where
      short : length (multipliers (d + e) ws) ≤ 8
      short = omega (arith, length-multipliers (d + e) ws)

      same : dot (multipliers (d + e) ws) t.monomial.powers + dot (multipliers (d + e) ws) u.monomial.powers ≡
          dot (multipliers (d + e) ws)
          (numbers 8 (add_keys 8 (key_from t.monomial.powers) (key_from u.monomial.powers)).powers)
      same = sym (dot-add (multipliers (d + e) ws) 8 (powers_of 8 t.monomial.powers)
          (powers_of 8 u.monomial.powers) ∙
          (λ i. dot-padded (multipliers (d + e) ws) 8 t.monomial.powers short i +
          dot-padded (multipliers (d + e) ws) 8 u.monomial.powers short i))

      value : at_place g (key_at (d + e) ws
          (dot (multipliers (d + e) ws) t.monomial.powers + dot (multipliers (d + e) ws) u.monomial.powers)) ≡
          g (add_keys 8 (key_from t.monomial.powers) (key_from u.monomial.powers))
      value = ap (λ j. at_place g (key_at (d + e) ws j)) same ∙
          ap (at_place g) (key_at-place (d + e) ws
          (add_keys 8 (key_from t.monomial.powers) (key_from u.monomial.powers)) some few positive
          (IsKeyOf-add ws d e _ _ h (all 0 u (omega arith))))

  pub products_are : (ts us : List Term) → All (λ t. IsKeyOf ws d (key_from t.monomial.powers)) ts →
      All (λ u. IsKeyOf ws e (key_from u.monomial.powers)) us
      → products_total (λ j. at_place g (key_at (d + e) ws j)) (multipliers (d + e) ws) ts
      (map (placed_term (multipliers (d + e) ws)) us) ≡
      total g (products (add_keys 8) (map entry_of ts) (map entry_of us))
  products_are [] us h all = refl
  products_are (t ∷ ts) us h all =
      (λ i. row_products t us (h 0 t (omega arith)) all i +
      products_are ts us (λ k x lt. h (suc k) x (omega arith)) all i)
      ∙ sym (total-append g (map
      (λ (f : Key 8 × ℕ). (add_keys 8 (key_from t.monomial.powers) f.0, t.coefficient * f.1))
      (map entry_of us)) (products (add_keys 8) (map entry_of ts) (map entry_of us)))
