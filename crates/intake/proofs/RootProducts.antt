-- Products of root powers by the coefficients of their powers of Y.
use Rattle.std.proofs.Common.{◌≡◌, ℕ, zero, suc, ◌+◌, ◌-◌, ◌*◌, ◌%◌, ◌<◌, ◌≤◌, List, [], ◌∷◌, length, get_or, drop}
use Rattle.std.proofs.Common.{refl, sym, ◌∙◌, ap, subst, arith}
use Rattle.std.proofs.Math.Nat.{mod-mod, mod-eq_of_lt}
use Rattle.std.proofs.Math.ListN.{drop_of_length-le}
use Rattle.std.proofs.lemmas.List.{drop_more}
use Rattle.ps_model.specs.declared.job.Root.{Root}
use Rattle.ps_model.specs.SeriesRing.{ring, Poly}
use Rattle.ps_model.specs.Polynomial.{one, product, power, coefficient}
use Rattle.ps_model.specs.Shift.{linear}
use Rattle.ps_model.specs.Keys.{y_key}
use Rattle.ps_model.specs.Factors.{root_powers, total_times}
use Rattle.ps_model.specs.Job.{series_ring}
use Rattle.ps_model.proofs.Coefficients.{plus-mod, times-mod, small}
use Rattle.ps_model.proofs.RingLaws.{one-product, product-one, product-assoc, product-comm}
use Rattle.ps_model.proofs.SlicesShifted.{coefficient-scaled}
use Rattle.intake.specs.Differences.{roots_at, scaled_at, AreCoefficients}
use Rattle.intake.proofs.LinearProducts.{lower, product_linear, one-zero, one-suc, y_coefficient}
use Rattle.intake.proofs.NumberRows.{next_number}

pub modulus_is : (m : ℕ) (ws : List ℕ) → 2 ≤ m → (series_ring m ws).modulus ≡ m
unfolding series_ring
modulus_is m ws two = omega arith

-- coefficients are residues
pub coefficients-small : (m : ℕ) (ws row : List ℕ) (f : Poly (series_ring m ws)) → 2 ≤ m
    → AreCoefficients m ws row f → (p : ℕ) → get_or row p 0 < m
coefficients-small m ws row f two are p = subst (λ n. n < m) (sym (are p)) (subst
    (λ n. coefficient (ring (series_ring m ws)) f (y_key (series_ring m ws).variables p) < n) (modulus_is m ws two)
    (small (ring (series_ring m ws)) f (y_key (series_ring m ws).variables p)))

-- the row of 1
pub row_of_one : (m : ℕ) (ws : List ℕ) → AreCoefficients m ws (1 ∷ []) (one (ring (series_ring m ws)))
row_of_one m ws zero = sym (one-zero (series_ring m ws))
row_of_one m ws (suc p) = sym (one-suc (series_ring m ws) p)

-- the row of a product with Y - value
pub next_product : (m : ℕ) (ws : List ℕ) (value : ℕ) (row : List ℕ) (f : Poly (series_ring m ws)) → 2 ≤ m
    → AreCoefficients m ws row f → (p : ℕ) → next_number m ((m - value) % m) row p
    ≡ y_coefficient (series_ring m ws) (product (ring (series_ring m ws))
    (linear (ring (series_ring m ws)) ((series_ring m ws).modulus - value)) f) p
next_product m ws value row f two is p =
    plus-mod m _ _ _ _ (ap (λ n. n % m) (one_lower p)) (times-mod m _ _ _ _ (mod-mod (m - value) m)
    (ap (λ n. n % m) (is p)))
    ∙ ap (λ n. (lower (y_coefficient (series_ring m ws) f) p + (n - value) * y_coefficient (series_ring m ws) f p) % n)
    (sym (modulus_is m ws two))
    ∙ sym (product_linear (series_ring m ws) ((series_ring m ws).modulus - value) f p)
  where
    one_lower : (p : ℕ) → get_or (0 ∷ row) p 0 ≡ lower (y_coefficient (series_ring m ws) f) p
    one_lower zero = refl
    one_lower (suc p) = is p

module _ (m : ℕ) (ws : List ℕ) where
  -- (Y - value)^k * f
  abbrev pub times_power : ℕ → ℕ → Poly (series_ring m ws) → Poly (series_ring m ws)
  times_power value k f = product (ring (series_ring m ws))
      (power (ring (series_ring m ws)) (linear (ring (series_ring m ws)) ((series_ring m ws).modulus - value)) k) f

  -- the row of that product
  abbrev pub IsTimesPower : ℕ → ℕ → List ℕ → List ℕ → Type 0
  IsTimesPower value k row next = (f : Poly (series_ring m ws)) → AreCoefficients m ws row f
      → AreCoefficients m ws next (times_power value k f)

  pub times_none : (value : ℕ) (row : List ℕ) → IsTimesPower value 0 row row
  times_none value row f are = λ p. are p
      ∙ ap (λ q. y_coefficient (series_ring m ws) q p) (sym (one-product (ring (series_ring m ws)) f))

  pub times_more : (value k : ℕ) (row now next : List ℕ) → 2 ≤ m
      → ((p : ℕ) → get_or next p 0 ≡ next_number m ((m - value) % m) now p) → IsTimesPower value k row now
      → IsTimesPower value (k + 1) row next
  times_more value k row now next two is so_far f are = λ p. is p
      ∙ next_product m ws value now (times_power value k f) two (so_far f are) p
      ∙ ap (λ q. y_coefficient (series_ring m ws) q p) (sym (product-assoc (ring (series_ring m ws)) _ _ f))
      ∙ ap (λ n. y_coefficient (series_ring m ws) (times_power value n f) p) (more k)
    where
      more : (n : ℕ) → suc n ≡ n + 1
      more n = omega arith

  -- the row of the first i roots: its product with the powers of the others is that of all
  pub record IsProductSoFar (roots : List Root) (i : ℕ) (row : List ℕ) : Type 0 where
    pub of : Poly (series_ring m ws)
    pub are : AreCoefficients m ws row of
    pub rest : product (ring (series_ring m ws)) of (root_powers (drop i roots)) ≡ root_powers roots
    pub size : length row + total_times (drop i roots) ≡ total_times roots + 1

  pub product_none : (roots : List Root) (row : List ℕ) → row ≡ 1 ∷ [] → IsProductSoFar roots 0 row
  product_none roots row is = record {
    of = one (ring (series_ring m ws));
    are = λ p. ap (λ l. get_or l p 0) is ∙ row_of_one m ws p;
    rest = one-product (ring (series_ring m ws)) _;
    size = ap (λ l. length l + total_times roots) is ∙ omega arith;
  }

  pub product_more : (roots : List Root) (i : ℕ) (r d : Root) (now next : List ℕ) → i < length roots
      → r ≡ get_or roots i d → IsProductSoFar roots i now → IsTimesPower r.value r.times now next
      → length next ≡ length now + r.times → IsProductSoFar roots (i + 1) next
  product_more roots i r d now next inside is so_far times size = record {
    of = times_power r.value r.times so_far.of;
    are = times so_far.of so_far.are;
    rest = ap (λ q. product (ring (series_ring m ws)) q (root_powers (drop (i + 1) roots)))
        (product-comm (ring (series_ring m ws)) _ so_far.of) ∙ product-assoc (ring (series_ring m ws)) so_far.of _ _
        ∙ ap (λ rs. product (ring (series_ring m ws)) so_far.of (root_powers rs)) (sym left) ∙ so_far.rest;
    size = let e : total_times (drop i roots) ≡ r.times + total_times (drop (i + 1) roots) = ap total_times left in
        let before = so_far.size in omega arith;
  }
    where
      left : drop i roots ≡ r ∷ drop (i + 1) roots
      left = drop_more roots i d inside ∙ ap (λ s. s ∷ drop (i + 1) roots) (sym is)

  pub product_size : (roots : List Root) (i : ℕ) (row : List ℕ) → length roots ≤ i → IsProductSoFar roots i row
      → length row ≡ total_times roots + 1
  product_size roots i row le so_far =
      let e : total_times (drop i roots) ≡ 0 = ap total_times (drop_of_length-le roots le) in
      let all = so_far.size in omega arith

  pub product_all : (roots : List Root) (i : ℕ) (row : List ℕ) → length roots ≤ i → IsProductSoFar roots i row
      → (p : ℕ) → get_or row p 0 ≡ roots_at m ws roots p
  unfolding roots_at
  product_all roots i row le so_far p = so_far.are p ∙ ap (λ q. y_coefficient (series_ring m ws) q p)
      (sym (ap (λ rs. product (ring (series_ring m ws)) so_far.of (root_powers rs)) (drop_of_length-le roots le)
      ∙ product-one (ring (series_ring m ws)) so_far.of) ∙ so_far.rest)

module _ (m : ℕ) (ws : List ℕ) where
  -- no power of Y above n
  abbrev EndsAt : ℕ → Poly (series_ring m ws) → Type 0
  EndsAt n f = (p : ℕ) → n < p → y_coefficient (series_ring m ws) f p ≡ 0

  nothing : (c n : ℕ) → 2 ≤ n → (0 + c * 0) % n ≡ 0
  nothing c n two = omega arith

  ends-linear : (c n : ℕ) (f : Poly (series_ring m ws)) → EndsAt n f
      → EndsAt (suc n) (product (ring (series_ring m ws)) (linear (ring (series_ring m ws)) c) f)
  ends-linear c n f ends zero lt = absurd (omega arith)
  ends-linear c n f ends (suc p) lt = product_linear (series_ring m ws) c f (suc p)
      ∙ (λ i. (ends p (omega arith) i + c * ends (suc p) (omega arith) i) % (series_ring m ws).modulus)
      ∙ nothing c (series_ring m ws).modulus (series_ring m ws).at_least_two

  ends-power : (value k n : ℕ) (f : Poly (series_ring m ws)) → EndsAt n f → EndsAt (k + n) (times_power m ws value k f)
  ends-power value zero n f ends p lt =
      ap (λ q. y_coefficient (series_ring m ws) q p) (one-product (ring (series_ring m ws)) f) ∙ ends p (omega arith)
  ends-power value (suc k) n f ends p lt =
      ap (λ q. y_coefficient (series_ring m ws) q p) (product-assoc (ring (series_ring m ws)) _ _ f)
      ∙ ends-linear ((series_ring m ws).modulus - value) (k + n) (times_power m ws value k f)
      (ends-power value k n f ends) p (omega arith)

  -- above the sum of the multiplicities the product of the root powers has nothing
  ends-roots : (roots : List Root) → EndsAt (total_times roots) (root_powers {R = ring (series_ring m ws)} roots)
  ends-roots [] zero lt = absurd (omega arith)
  ends-roots [] (suc p) lt = one-suc (series_ring m ws) p
  ends-roots (r ∷ rs) p lt = ends-power r.value r.times (total_times rs) (root_powers {R = ring (series_ring m ws)} rs)
      (ends-roots rs) p lt

  pub roots_above : (roots : List Root) (p : ℕ) → total_times roots < p → roots_at m ws roots p ≡ 0
  unfolding roots_at
  roots_above roots p lt = ends-roots roots p lt

-- the coefficients of a multiple
pub scaled_at-roots : (m : ℕ) (ws : List ℕ) (lead : ℕ) (roots : List Root) (p : ℕ) → 2 ≤ m
    → scaled_at m ws lead roots p ≡ (lead * roots_at m ws roots p) % m
unfolding roots_at scaled_at
scaled_at-roots m ws lead roots p two = coefficient-scaled (ring (series_ring m ws)) lead (root_powers roots) _
    ∙ ap (λ n. (lead * coefficient (ring (series_ring m ws)) (root_powers roots)
    (y_key (series_ring m ws).variables p)) % n) (modulus_is m ws two)

-- a number that was computed as one of the multiple
pub scaled_here : (m : ℕ) (ws : List ℕ) (lead : ℕ) (roots : List Root) (p a n : ℕ) → 2 ≤ m → a ≡ (lead * n) % m
    → n ≡ roots_at m ws roots p → a ≡ scaled_at m ws lead roots p
scaled_here m ws lead roots p a n two is at = is ∙ ap (λ k. (lead * k) % m) at
    ∙ sym (scaled_at-roots m ws lead roots p two)

pub scaled_above : (m : ℕ) (ws : List ℕ) (lead : ℕ) (roots : List Root) (p : ℕ) → 2 ≤ m → total_times roots < p
    → scaled_at m ws lead roots p ≡ 0
scaled_above m ws lead roots p two lt = scaled_at-roots m ws lead roots p two
    ∙ ap (λ k. (lead * k) % m) (roots_above m ws roots p lt) ∙ none lead
  where
    none : (c : ℕ) → (c * 0) % m ≡ 0
    none c = ap (λ k. k % m) (nothing c) ∙ mod-eq_of_lt (omega arith)
      where
        nothing : (c : ℕ) → c * 0 ≡ 0
        nothing c = omega arith

pub roots_small : (m : ℕ) (ws : List ℕ) (roots : List Root) (p : ℕ) → 2 ≤ m → roots_at m ws roots p < m
unfolding roots_at
roots_small m ws roots p two = subst (λ n. coefficient (ring (series_ring m ws)) (root_powers roots)
    (y_key (series_ring m ws).variables p) < n) (modulus_is m ws two)
    (small (ring (series_ring m ws)) (root_powers roots) (y_key (series_ring m ws).variables p))
