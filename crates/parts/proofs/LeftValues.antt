-- What is left of a part less products of series: its keys, and its coefficient at one.
use Rattle.std.proofs.Common.{◌≡◌, ℕ, zero, suc, ◌+◌, ◌-◌, ◌*◌, ◌%◌, ◌<◌, List, [], ◌∷◌, length, get_or, All}
use Rattle.std.proofs.Common.{refl, sym, ◌∙◌, ap, subst, arith, inl, inr}
use Rattle.std.specs.FinMap.{FinMap, entries, entries_sorted, get-entries}
use Rattle.std.specs.Option.{unwrap_or}
use Rattle.std.proofs.Math.Nat.{mod-mod, mod_self, mul-mod_right}
use Rattle.std.proofs.lemmas.Bool.{cases_lt}
use Rattle.std.proofs.lemmas.List.Elements.{All-append, All-map}
use Rattle.std.proofs.lemmas.Nat.{mul-mod_first}
use Rattle.ps_model.specs.FiniteMaps.{value_at}
use Rattle.ps_model.specs.Keys.{Key, key_compare, add_keys}
use Rattle.ps_model.specs.KeyLaws.{key_compare_total, key_compare-IsAntisymmetric}
use Rattle.ps_model.specs.Sums.{total, multiples, products}
use Rattle.ps_model.proofs.Coefficients.{found_total, plus-mod, times-mod}
use Rattle.residue.proofs.Arithmetic.{cancelled, plus}
use Rattle.parts.specs.CrossedEntries.{pieces, entries_at, crossed_entries, all_crossed, left_entries}
use Rattle.parts.specs.PartValue.{PartValue, IsPartOf}
use Rattle.parts.specs.Rings.{weights_of}
use Rattle.parts.specs.SeriesParts.{AreSeriesParts}
use Rattle.parts.specs.SeriesRows.{indicator, crossed_totals}
use Rattle.parts.specs.Terms.{IsKeyOf}
use Rattle.parts.specs.declared.rings.Ring.{Ring}
use Rattle.parts.proofs.Collected.{IsKeyOf-add}
use Rattle.parts.proofs.CrossedPolynomials.{AreFacing, left_value}
use Rattle.parts.proofs.SeriesSums.{entries_past, indicator-degree}

abbrev pub AreKeysOf : List ℕ → ℕ → List (Key 8 × ℕ) → Type 0
AreKeysOf ws d es = All (λ e. IsKeyOf ws d e.0) es

none_keys : (ws : List ℕ) (d : ℕ) → AreKeysOf ws d []
none_keys ws d = λ i e lt. absurd (omega arith)

multiples_keys : (ws : List ℕ) (d c : ℕ) (es : List (Key 8 × ℕ)) → AreKeysOf ws d es → AreKeysOf ws d (multiples c es)
multiples_keys ws d c es h =
    All-map (λ (e : Key 8 × ℕ). IsKeyOf ws d e.0) (λ (e : Key 8 × ℕ). (e.0, c * e.1)) es h

products_keys : (ws : List ℕ) (d t : ℕ) (es fs : List (Key 8 × ℕ)) → AreKeysOf ws d es → AreKeysOf ws t fs →
    AreKeysOf ws (d + t) (products (add_keys 8) es fs)
products_keys ws d t [] fs h k = none_keys ws (d + t)
products_keys ws d t (e ∷ es) fs h k = All-append (λ (x : Key 8 × ℕ). IsKeyOf ws (d + t) x.0) _ _
    (All-map (λ (x : Key 8 × ℕ). IsKeyOf ws (d + t) x.0) (λ (g : Key 8 × ℕ). (add_keys 8 e.0 g.0, e.1 * g.1)) fs
    (λ i x lt. IsKeyOf-add ws d t e.0 _ (h 0 e (omega arith)) (k i x lt)))
    (products_keys ws d t es fs (λ i x lt. h (suc i) x (omega arith)) k)

pieces_keys : (ws : List ℕ) (d n : ℕ) (f : ℕ → List (Key 8 × ℕ)) → ((s : ℕ) → s < n → AreKeysOf ws d (f s)) →
    AreKeysOf ws d (pieces n f)
pieces_keys ws d zero f h = none_keys ws d
pieces_keys ws d (suc n) f h = All-append (λ (x : Key 8 × ℕ). IsKeyOf ws d x.0) (pieces n f) (f n)
    (pieces_keys ws d n f (λ s lt. h s (omega arith))) (h n (omega arith))

module _ (ring : Ring) where
  at_keys : (ps : List PartValue) → AreSeriesParts ring ps → (s : ℕ) → AreKeysOf (weights_of ring) s (entries_at ps s)
  at_keys ps are s = elim (cases_lt s (length ps)) [
    | inl lt ↦ λ i e k. subst (λ n. IsKeyOf (weights_of ring) n (get_or (entries_at ps s) i e).0) (are s lt).0
        ((are s lt).1 i e k).0
    | inr past ↦ subst (AreKeysOf (weights_of ring) s) (sym (entries_past ps s past)) (none_keys (weights_of ring) s)
  ]

  crossed_keys : (r : ℕ) (a w : List PartValue) → AreSeriesParts ring a → AreSeriesParts ring w →
      AreKeysOf (weights_of ring) r (crossed_entries r a w)
  crossed_keys r a w p q = pieces_keys (weights_of ring) r (suc r) _ (λ s lt.
      subst (λ n. AreKeysOf (weights_of ring) n (products (add_keys 8) (entries_at a s) (entries_at w (r - s))))
      (let e : s + (r - s) ≡ r = omega arith in e)
      (products_keys (weights_of ring) s (r - s) (entries_at a s) (entries_at w (r - s)) (at_keys a p s)
      (at_keys w q (r - s))))

  pub left_keys : (m : ℕ) (start : PartValue) (n : ℕ) (a w : ℕ → List PartValue) (factor : ℕ) →
      IsPartOf ring start → AreFacing ring a w →
      AreKeysOf (weights_of ring) start.degree (left_entries m start.degree start.map n a w factor)
  left_keys m start n a w factor is are = multiples_keys (weights_of ring) start.degree factor _
      (All-append (λ (x : Key 8 × ℕ). IsKeyOf (weights_of ring) start.degree x.0) (entries start.map) _
      (λ i e lt. (is i e lt).0)
      (multiples_keys (weights_of ring) start.degree (m - 1) (all_crossed start.degree n a w)
      (pieces_keys (weights_of ring) start.degree n _
      (λ h _. crossed_keys start.degree (a h) (w h) (are h).0 (are h).1))))

-- the value at a key, as a total
pub value-total : (p : FinMap (key_compare 8) ℕ) (k : Key 8) →
    value_at (key_compare 8) p k ≡ total (indicator k) (entries p)
value-total p k = ap (λ o. unwrap_or o 0) (get-entries p k) ∙
    found_total (key_compare 8) (key_compare_total 8) (key_compare-IsAntisymmetric 8) k (entries p) (entries_sorted p)

-- the negative of a residue
pub negative-is : (m x : ℕ) → 0 < m → (m - x % m) % m ≡ ((m - 1) * x) % m
negative-is m x some = cancelled m (m - x % m) ((m - 1) * x) (x % m) some
    (ap (λ n. n % m) (let low : x % m < m = omega arith in let e : m - x % m + x % m ≡ m = omega arith in e) ∙
    mod_self m ∙ sym (plus m ((m - 1) * x) ((m - 1) * x) (x % m) x refl (mod-mod x m) ∙
    ap (λ n. n % m) (more m some) ∙ mul-mod_right m x))
  where
    more : (m : ℕ) → 0 < m → (m - 1) * x + x ≡ m * x
    more zero h = absurd (omega arith)
    more (suc p) h = let e : suc p - 1 ≡ p = omega arith in rw e (omega arith)

-- what is left, as it is computed
pub left_is : (m c x r factor : ℕ) → 0 < m → r ≡ x % m →
    ((c + (m - r)) % m * factor) % m ≡ (factor * (c + (m - 1) * x)) % m
left_is m c x r factor some is = mul-mod_first (c + (m - r)) factor m ∙
    times-mod m (c + (m - r)) (c + (m - 1) * x) factor factor
    (plus-mod m c c (m - r) ((m - 1) * x) refl (ap (λ n. (m - n) % m) is ∙ negative-is m x some)) refl ∙
    ap (λ n. n % m) (let e : (c + (m - 1) * x) * factor ≡ factor * (c + (m - 1) * x) = omega arith in e)

pub left_at_key : (ring : Ring) (r : ℕ) (z : Key 8) → IsKeyOf (weights_of ring) r z → (m : ℕ)
    (start : FinMap (key_compare 8) ℕ) (n : ℕ) (a w : ℕ → List PartValue) (factor : ℕ) → AreFacing ring a w →
    total (indicator z) (left_entries m r start n a w factor) ≡
    factor * (value_at (key_compare 8) start z + (m - 1) * crossed_totals (indicator z) n a w)
left_at_key ring r z is m start n a w factor are =
    left_value ring r (indicator z) (indicator-degree (weights_of ring) r z is) m start n a w factor are ∙
    ap (λ k. factor * (k + (m - 1) * crossed_totals (indicator z) n a w)) (sym (value-total start z))
