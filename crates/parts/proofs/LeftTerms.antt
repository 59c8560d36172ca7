-- What is left of a part less products of series, place by place.
use Rattle.std.proofs.Common.{◌≡◌, ℕ, suc, ◌+◌, ◌-◌, ◌*◌, ◌%◌, ◌<◌, ◌≤◌, List, [], ◌∷◌, ◌++◌, length, take, drop, All}
use Rattle.std.proofs.Common.{replicate, true, false, cond, sym, ◌∙◌, ap, subst, arith}
use Rattle.std.specs.Prelude.{Option, Some, None}
use Rattle.std.specs.FinMap.{find, entries, get-entries}
use Rattle.std.specs.Option.{option_map, unwrap_or}
use Rattle.std.specs.Ordering.{eq_by_cmp}
use Rattle.std.proofs.lemmas.List.{drop-replicate}
use Rattle.std.proofs.Math.Nat.{mod-lt, mod-mod, mod-eq_of_lt}
use Rattle.ps_model.specs.FiniteMaps.{value_at}
use Rattle.ps_model.specs.Keys.{Key, key_compare}
use Rattle.ps_model.specs.Sums.{total}
use Rattle.residue.specs.ProductSums.{ProductSumValue, Gains}
use Rattle.parts.specs.CrossedEntries.{left_in}
use Rattle.parts.specs.Keys.{key_from, MonomialValue}
use Rattle.parts.specs.PartValue.{PartValue, IsPartOf}
use Rattle.parts.specs.Places.{size, powers_at}
use Rattle.parts.specs.Rings.{modulus_of, variables_of, weights_of}
use Rattle.parts.specs.SeriesParts.{SeriesValue, AreSeriesParts, parts_at}
use Rattle.parts.specs.SeriesRows.{indicator, crossed_totals, IsContiguous, IsPairKey}
use Rattle.parts.specs.TermLists.{IsTotal, unless_zero}
use Rattle.parts.specs.Terms.{IsKeyOf, key_of, key_at}
use Rattle.parts.specs.declared.rings.Ring.{Ring}
use Rattle.parts.specs.declared.terms.Term.{Term}
use Rattle.parts.proofs.Added.{ring_some, ring_few, ring_positive}
use Rattle.parts.proofs.Finished.{padded_key}
use Rattle.parts.proofs.Gained.{key_weighs}
use Rattle.parts.proofs.LeftValues.{left_keys, left_at_key, left_is}
use Rattle.parts.proofs.PlacesBuilt.{ArePlacesFrom, places_none, places_skip, places_push, places_all}
use Rattle.parts.proofs.SeriesHeld.{monomial_pair}

-- powers with zeros behind them
key_padded : (n : ℕ) (xs : List ℕ) → key_from (xs ++ drop n (replicate 8 0)) ≡ key_from xs
key_padded n xs = ap (λ t. key_from (xs ++ t)) (drop-replicate n 8 0) ∙ padded_key (8 - n) xs

-- a coefficient of a part is a residue
find_low : (m : ℕ) (k : Key 8) (es : List (Key 8 × ℕ)) → 0 < m → All (λ e. e.1 < m) es →
    unwrap_or (find (key_compare 8) k es) 0 < m
find_low m k [] some h = some
find_low m k (e ∷ es) some h = elim (eq_by_cmp (key_compare 8) k e.0) as
    (λ b. unwrap_or (cond b (Some e.1) (find (key_compare 8) k es)) 0 < m) [
      | true ↦ h 0 e (omega arith)
      | false ↦ find_low m k es some (λ i d lt. h (suc i) d (omega arith))
    ]

pub value_low : (ring : Ring) (p : PartValue) → IsPartOf ring p → (k : Key 8) →
    value_at (key_compare 8) p.map k < modulus_of ring
value_low ring p is k = subst (λ o. unwrap_or o 0 < modulus_of ring) (sym (get-entries p.map k))
    (find_low (modulus_of ring) k (entries p.map) (let two = ring.modulus.low in omega arith) (λ i d lt. (is i d lt).1))

-- the residue of a sum
sum_residue : (m x r : ℕ) (s : ProductSumValue) → Gains (record { modulus = m; residue = 0 }) s x → r ≡ s.residue →
    r < s.modulus → r ≡ x % m
sum_residue m x r s gains is low =
    let below : r < m = subst (λ n. r < n) gains.modulus_is low in
    sym (mod-eq_of_lt below) ∙ ap (λ n. n % m) is ∙ gains.residue_is ∙ ap (λ n. n % m) (omega arith)

module _ (ring : Ring) (two : IsContiguous ring) (start : PartValue) (is : IsPartOf ring start)
    (a w : List SeriesValue) (l factor : ℕ) (a_are : (h : ℕ) → AreSeriesParts ring (parts_at a h))
    (w_are : (h : ℕ) → AreSeriesParts ring (parts_at w h)) where
  abbrev pub left : List (Key 8 × ℕ)
  left = left_in ring start a w l factor

  keys : All (λ e. IsKeyOf (weights_of ring) start.degree e.0) left
  keys = left_keys ring (modulus_of ring) start (length a) (parts_at a) (λ h. parts_at w (l - h)) factor is
      (λ h. (a_are h, w_are (l - h)))

  pub left_none : (n : ℕ) → n ≡ size start.degree (weights_of ring) → ArePlacesFrom ring start.degree left n []
  left_none n e =
      places_none ring start.degree (ring_some ring) (ring_few ring) (ring_positive ring) left keys n e

  pub left_all : (n : ℕ) (ts : List Term) → n ≡ 0 → ArePlacesFrom ring start.degree left n ts →
      IsTotal ring start.degree left ts
  left_all n ts e h =
      places_all ring start.degree (ring_some ring) (ring_few ring) (ring_positive ring) left keys n ts e h

  -- the coefficient at a key, as it is computed
  pub left_value_at : (z : Key 8) → IsKeyOf (weights_of ring) start.degree z → (m c rest less out : ℕ)
      (s : ProductSumValue) → m ≡ modulus_of ring → c ≡ value_at (key_compare 8) start.map z →
      Gains (record { modulus = modulus_of ring; residue = 0 }) s (crossed_totals (indicator z) (length a) (parts_at a)
      (λ h. parts_at w (l - h))) → rest ≡ s.residue → rest < s.modulus → less ≡ (c + (m - rest)) % m →
      out ≡ (less * factor) % m → out ≡ total (indicator z) left % modulus_of ring
  left_value_at z z_is m c rest less out s m_is c_is gains rest_is low less_is out_is =
      out_is ∙ (λ i. (less_is i * factor) % m) ∙
      (λ i. ((c_is i + (m_is i - rest)) % m_is i * factor) % m_is i) ∙
      left_is (modulus_of ring) (value_at (key_compare 8) start.map z) (crossed_totals (indicator z) (length a)
      (parts_at a) (λ h. parts_at w (l - h))) rest factor (let two = ring.modulus.low in omega arith)
      (sum_residue (modulus_of ring) _ rest s gains rest_is low) ∙
      ap (λ n. n % modulus_of ring) (sym (left_at_key ring start.degree z z_is (modulus_of ring) start.map (length a)
      (parts_at a) (λ h. parts_at w (l - h)) factor (λ h. (a_are h, w_are (l - h)))))

  -- at a place, whose powers are read under other names
  module _ (at n d : ℕ) (all : List ℕ) (n_is : n ≡ variables_of ring) (all_is : all ≡ ring.weights)
      (d_is : d ≡ start.degree) where
    same_place : (o : Option (List ℕ)) → powers_at d (take n all) d at ≡ o →
        key_at start.degree (weights_of ring) at ≡ option_map key_from o
    same_place o e = ap (option_map key_from)
        ((λ i. powers_at (sym d_is i) (take (sym n_is i) (sym all_is i)) (sym d_is i) at) ∙ e)

    pub left_skip : (m : ℕ) (ts : List Term) → m ≡ suc at → powers_at d (take n all) d at ≡ None →
        ArePlacesFrom ring start.degree left m ts → ArePlacesFrom ring start.degree left at ts
    left_skip m ts m_is e h =
        places_skip ring start.degree (ring_some ring) (ring_few ring) (ring_positive ring) left keys at ts
        (same_place None e) (subst (λ k. ArePlacesFrom ring start.degree left k ts) m_is h)

    module _ (xs : List ℕ) (x : MonomialValue) (found : powers_at d (take n all) d at ≡ Some xs)
        (x_is : x.powers ≡ xs ++ drop n (replicate 8 0)) where
      place_key : key_at start.degree (weights_of ring) at ≡ Some (key_of x)
      place_key = same_place (Some xs) found ∙ ap Some (sym (ap key_from x_is ∙ key_padded n xs))

      pub left_key : IsKeyOf (weights_of ring) start.degree (key_of x)
      left_key = key_weighs start.degree (weights_of ring) at (key_of x) (ring_few ring) place_key

      pub left_pair : IsPairKey x
      left_pair = monomial_pair ring two start.degree x left_key

      pub left_push : (m count c : ℕ) (ts new : List Term) → m ≡ suc at → m ≤ count →
          count ≡ size d (take n all) → c ≡ total (indicator (key_of x)) left % modulus_of ring →
          new ≡ ts ++ unless_zero (record { monomial = x; coefficient = c }) →
          ArePlacesFrom ring start.degree left m ts → ArePlacesFrom ring start.degree left at new
      left_push m count c ts new m_is le count_is c_is new_is h =
          subst (ArePlacesFrom ring start.degree left at) (sym new_is)
          (places_push ring start.degree (ring_some ring) (ring_few ring) (ring_positive ring) left keys at ts
          (record { monomial = x; coefficient = c }) (omega (arith, whole)) place_key (
            left_key,
            subst (λ k. k < modulus_of ring) (sym c_is) (mod-lt (total (indicator (key_of x)) left)
                (let two = ring.modulus.low in omega arith)),
          )
          (ap (λ k. k % modulus_of ring) c_is ∙ mod-mod (total (indicator (key_of x)) left) (modulus_of ring))
          (subst (λ k. ArePlacesFrom ring start.degree left k ts) m_is h))
        where
          whole : count ≡ size start.degree (weights_of ring)
          whole = count_is ∙ (λ i. size (d_is i) (take (n_is i) (all_is i)))
