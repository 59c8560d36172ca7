-- What an accumulator's calls know once its cells are made: terms of parts have places among them.
use Rattle.std.proofs.Common.{◌≡◌, ℕ, ◌+◌, ◌*◌, ◌%◌, ◌^◌, ◌<◌, ◌≤◌, ◌∙◌, Bool, List, ap, sym, subst, arith, length}
use Rattle.std.proofs.Common.{take, map}
use Rattle.std.proofs.Common.{All, [], ◌∷◌}
use Rattle.std.specs.FinMap.{entries, from_entries}
use Rattle.parts.specs.Cells.{cells_total, row_total, GainsRow}
use Rattle.parts.specs.Places.{dot, size, multipliers}
use Rattle.parts.specs.Rings.{modulus_of, weights_of}
use Rattle.parts.specs.Terms.{entry_of, finished, key_at, placed_term, products_total, sign, GainsRows}
use Rattle.parts.specs.PartValue.{PartValue, IsPartOf, IsEntryOf}
use Rattle.parts.specs.AccumulatorValue.{AccumulatorValue, AreCells, cells_map, after_product, after_multiple}
use Rattle.parts.specs.AccumulatorValue.{with_product, with_multiple}
use Rattle.parts.specs.declared.cells.Placed.{Placed}
use Rattle.parts.specs.declared.rings.Ring.{Ring}
use Rattle.parts.specs.declared.terms.Term.{Term}
use Rattle.parts.proofs.Ordered.{ArePositive}
use Rattle.parts.proofs.Gained.{positive_take, long_take, places_fit, coefficients_below, row_below, row_inside}
use Rattle.parts.proofs.Gained.{places_inside, gained, gained_multiple, part_of}

pub ring_long : (ring : Ring) → length (weights_of ring) ≡ ring.n
ring_long ring = long_take ring.n ring.weights (let h = ring.few in omega (arith, ring.many))

pub ring_some : (ring : Ring) → 0 < length (weights_of ring)
ring_some ring = let h = ring.some in omega (arith, ring_long ring)

pub ring_few : (ring : Ring) → length (weights_of ring) ≤ 8
ring_few ring = let h = ring.few in omega (arith, ring_long ring)

pub ring_positive : (ring : Ring) → ArePositive (weights_of ring)
ring_positive ring = positive_take ring.n ring.weights ring.positive

-- cells are none, or all of their degree
pub cells_below : (ws : List ℕ) (d : ℕ) (sizes cells : List ℕ) → AreCells ws d sizes cells → length cells ≤ size d ws
cells_below ws d sizes [] h = omega arith
cells_below ws d sizes (x ∷ xs) h = omega (arith, h.made (omega arith))

-- the part that cells hold
pub cells_part : (ring : Ring) (d : ℕ) (cells : List ℕ) → length cells ≤ size d (weights_of ring) → (p : PartValue) →
    p.degree ≡ d → p.map ≡ from_entries (finished (modulus_of ring) (key_at d (weights_of ring)) 0 cells) →
    IsPartOf ring p
cells_part ring d cells below p at_d is =
    subst (IsPartOf ring) (λ i. record { degree = sym at_d i; map = sym is i })
    (part_of (modulus_of ring) d (weights_of ring) cells (let h = ring.modulus.low in
    omega arith) (ring_few ring) below)

-- the terms that cells hold, of a ring's modulus and weights under other names
module _ (ring : Ring) (d : ℕ) (cells old weights : List ℕ) (m n : ℕ) (ts : List Term) (n_is : n ≡ ring.n)
    (weights_are : weights ≡ ring.weights) (m_is : m ≡ modulus_of ring) (old_is : old ≡ cells)
    (listed : map entry_of ts ≡ finished m (key_at d (take n weights)) 0 old) where
  pub terms_held : map entry_of ts ≡ finished (modulus_of ring) (key_at d (weights_of ring)) 0 cells
  terms_held = listed ∙ (λ i. finished (m_is i) (key_at d (take (n_is i) (weights_are i))) 0 (old_is i))

-- the accumulator s, seen as t, has its cells made
module _ (s t : AccumulatorValue) (view_is : s ≡ t) (n : ℕ) (weights sizes cells : List ℕ) (n_is : n ≡ s.ring.n)
    (weights_are : weights ≡ s.ring.weights) (made : length cells ≡ size s.degree (take n weights))
    (few : size s.degree (take n weights) ≤ 2 ^ 24)
    (sized : take (length (take n weights)) sizes ≡ multipliers s.degree (take n weights)) where
  at_weights : take n weights ≡ weights_of s.ring
  at_weights = λ i. take (n_is i) (weights_are i)

  sizes_are : take n sizes ≡ multipliers s.degree (weights_of s.ring)
  sizes_are = (λ i. take ((n_is ∙ sym (ring_long s.ring)) i) sizes) ∙
      subst (λ l. take (length l) sizes ≡ multipliers s.degree l) at_weights sized

  cells_long : length cells ≡ size s.degree (weights_of s.ring)
  cells_long = made ∙ ap (size s.degree) at_weights

  cells_few : size s.degree (weights_of s.ring) ≤ 2 ^ 24
  cells_few = subst (λ l. size s.degree l ≤ 2 ^ 24) at_weights few

  at_degree : t.degree ≡ s.degree
  at_degree = sym (ap (λ v. v.degree) view_is)

  -- a part of the accumulator's ring, with its terms
  module _ (b : PartValue) (us : List Term) (listed : map entry_of us ≡ entries b.map) (is : IsPartOf t.ring b) where
    here : IsPartOf s.ring b
    here = subst (λ v. IsPartOf v.ring b) (sym view_is) is

    pub terms_fit : b.degree ≤ t.degree → All (λ u. dot (take n sizes) u.monomial.powers < 2 ^ 63) us
    terms_fit le =
        places_fit (modulus_of s.ring) (weights_of s.ring) (ring_some s.ring) (ring_few s.ring)
        (ring_positive s.ring) b.degree us (entries b.map) listed here s.degree (take n sizes) sizes_are
        (omega (arith, le, at_degree)) cells_few

    pub terms_below : (m : ℕ) → m ≡ modulus_of s.ring → All (λ u. u.coefficient < m) us
    terms_below m m_is =
        subst (λ m. All (λ u. u.coefficient < m) us) (sym m_is)
        (coefficients_below (modulus_of s.ring) (weights_of s.ring) (ring_some s.ring) (ring_few s.ring)
        (ring_positive s.ring) b.degree us (entries b.map) listed here)

    -- the terms as a row of placed ones
    module _ (row : List Placed) (row_is : row ≡ map (placed_term (take n sizes)) us) where
      pub row_small : All (λ p. p.coefficient < 2 ^ 63) row
      row_small =
          row_below (modulus_of s.ring) (weights_of s.ring) (ring_some s.ring) (ring_few s.ring)
          (ring_positive s.ring) b.degree us (entries b.map) listed here (take n sizes) row row_is
          (let h = s.ring.modulus.high in h)

      placed : row ≡ map (placed_term (multipliers s.degree (weights_of s.ring))) us
      placed = row_is ∙ ap (λ ms. map (placed_term ms) us) sizes_are

      -- other cells, of which there are as many
      module _ (old : List ℕ) (old_is : old ≡ cells) where
        pub row_fits : b.degree ≡ t.degree → All (λ p. 0 + p.place < length old) row
        row_fits same =
            row_inside (modulus_of s.ring) (weights_of s.ring) (ring_some s.ring) (ring_few s.ring)
            (ring_positive s.ring) b.degree us (entries b.map) listed here s.degree (length old) (take n sizes)
            row (same ∙ at_degree) sizes_are row_is (ap length old_is ∙ cells_long)

        pub rows_fit : (a : PartValue) (ts : List Term) → map entry_of ts ≡ entries a.map → IsPartOf t.ring a →
            a.degree + b.degree ≡ t.degree →
            All (λ u. All (λ p. dot (take n sizes) u.monomial.powers + p.place < length old) row) ts
        rows_fit a ts ta a_is sum =
            places_inside (modulus_of s.ring) (weights_of s.ring) (ring_some s.ring) (ring_few s.ring)
            (ring_positive s.ring) b.degree us (entries b.map) listed here s.degree a.degree (length old)
            (take n sizes) row ts (entries a.map) (sum ∙ at_degree) sizes_are row_is ta
            (subst (λ v. IsPartOf v.ring a) (sym view_is) a_is) (ap length old_is ∙ cells_long)

        -- new cells, and what they had gained from those that stand for the sum so far
        module _ (new : List ℕ) (long : length new ≡ length old) (m : ℕ) (m_is : m ≡ modulus_of s.ring)
            (before : List ℕ) (s_is : s.map ≡ cells_map (modulus_of s.ring) (weights_of s.ring) s.degree before)
            (same : (m : ℕ) → finished m (key_at s.degree (take n weights)) 0 cells ≡
            finished m (key_at s.degree (take n weights)) 0 before) where
          held : cells_map (modulus_of s.ring) (weights_of s.ring) s.degree cells ≡ s.map
          held = ap from_entries (subst (λ l. finished (modulus_of s.ring) (key_at s.degree l) 0 cells ≡
              finished (modulus_of s.ring) (key_at s.degree l) 0 before) at_weights (same (modulus_of s.ring))) ∙
              sym s_is

          pub after_row : (c : ℕ) → b.degree ≡ t.degree → GainsRow m 0 c row old new →
              ◌≡◌ {A = AccumulatorValue}
              (record {
                ring = s.ring;
                degree = s.degree;
                map = cells_map (modulus_of s.ring) (weights_of s.ring) s.degree new;
              }) (after_multiple t c b)
          after_row c at_b gains = ap (λ p. record { ring = s.ring; degree = s.degree; map = p })
              (gained_multiple (modulus_of s.ring) s.degree c (let h = s.ring.modulus.low in h) (weights_of s.ring)
              cells new us (entries b.map) (ring_some s.ring) (ring_few s.ring) (ring_positive s.ring)
              (omega (arith, cells_long)) (omega (arith, cells_long, long, ap length old_is)) listed
              (subst (λ d. All (IsEntryOf (modulus_of s.ring) (weights_of s.ring) d) (entries b.map))
              (at_b ∙ at_degree) here) totals ∙
              ap (λ p. with_multiple (modulus_of s.ring) c p b.map) held) ∙ ap (λ v. after_multiple v c b) view_is
            where
              totals : (f : ℕ → ℕ) → cells_total f 0 new % modulus_of s.ring ≡ (cells_total f 0 cells +
                  row_total f 0 c (map (placed_term (multipliers s.degree (weights_of s.ring))) us)) % modulus_of s.ring
              totals f = ap (λ m. cells_total f 0 new % m) (sym m_is) ∙ gains f ∙
                  (λ i. (cells_total f 0 (old_is i) + row_total f 0 c (placed i)) % (m_is i))

          pub after_rows : (a : PartValue) (ts : List Term) (minus : Bool) → map entry_of ts ≡ entries a.map →
              IsPartOf t.ring a → a.degree + b.degree ≡ t.degree → GainsRows m minus (take n sizes) ts row old new →
              ◌≡◌ {A = AccumulatorValue}
              (record {
                ring = s.ring;
                degree = s.degree;
                map = cells_map (modulus_of s.ring) (weights_of s.ring) s.degree new;
              }) (after_product t minus a b)
          after_rows a ts minus ta a_is sum gains = ap (λ p. record { ring = s.ring; degree = s.degree; map = p })
              (gained (modulus_of s.ring) a.degree b.degree s.degree (let h = s.ring.modulus.low in h)
              (weights_of s.ring) minus cells new ts us (entries a.map) (entries b.map) (sum ∙ at_degree)
              (ring_some s.ring) (ring_few s.ring) (ring_positive s.ring)
              (omega (arith, cells_long)) (omega (arith, cells_long, long, ap length old_is)) ta listed
              (subst (λ v. IsPartOf v.ring a) (sym view_is) a_is) here totals ∙
              ap (λ p. with_product (modulus_of s.ring) minus p a.map b.map) held) ∙
              ap (λ v. after_product v minus a b) view_is
            where
              totals : (f : ℕ → ℕ) → cells_total f 0 new % modulus_of s.ring ≡ (cells_total f 0 cells +
                  sign (modulus_of s.ring) minus * products_total f (multipliers s.degree (weights_of s.ring)) ts
                  (map (placed_term (multipliers s.degree (weights_of s.ring))) us)) % modulus_of s.ring
              totals f = ap (λ m. cells_total f 0 new % m) (sym m_is) ∙ gains f ∙
                  (λ i. (cells_total f 0 (old_is i) +
                  sign (m_is i) minus * products_total f (sizes_are i) ts (placed i)) % (m_is i))
