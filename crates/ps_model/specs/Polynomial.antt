-- Polynomials over a ring's residues, in its keys. The laws say these words without the ring R:
-- see Notation.
--     Polynomial R      a finite map from keys to residues other than 0
--     polynomial R es      that of a formal sum: at each key the sum of the coefficients there
--     of_map R m      the polynomial of a finite map
--     terms R p      the entries of p, in order
--     coefficient R p k      the coefficient at k, 0 where k is absent
--     zero, monomial, one      0, c times the key k, and 1
--     sum, scaled, negative, difference, product      as in algebra
--     power R p e      p ^ e; 1 where e is 0
--     kept_terms R test p      the entries of p whose keys pass the test
--     image R f p      each entry of p gives way to its coefficient times f of its key
--     sum_to R r f      f 0 + f 1 + .. + f r
--     sum_between R a b f      f a + .. + f (b - 1), and 0 where b is at most a
use Rattle.std.specs.Prelude.{ℕ, zero as nought, suc, ◌-◌, Bool, nat_le, if◌then◌else◌, List, [], ◌∷◌, ◌++◌}
use Rattle.std.specs.FinMap.{FinMap, entries}
use Rattle.ps_model.specs.Sums.{multiples, products, kept, replaced}
use Rattle.ps_model.specs.Ring.{Ring}
use Rattle.ps_model.specs.FiniteMaps.{value_at, collected}
use Rattle.ps_model.specs.Residues.{HasResidues, HasResidues-collected}

pub record Polynomial (R : Ring) : Type 0 where
  pub map : FinMap R.compare ℕ
  pub has_residues : HasResidues R map

module _ (R : Ring) where
  unfoldable pub polynomial : List (R.Key × ℕ) → Polynomial R
  polynomial es = record { map = collected R.compare R.modulus es; has_residues = HasResidues-collected R es }

  unfoldable pub of_map : FinMap R.compare ℕ → Polynomial R
  of_map p = polynomial (entries p)

  abbrev pub terms : Polynomial R → List (R.Key × ℕ)
  terms p = entries p.map

  abbrev pub coefficient : Polynomial R → R.Key → ℕ
  coefficient p k = value_at R.compare p.map k

  unfoldable pub zero : Polynomial R
  zero = polynomial []

  unfoldable pub monomial : ℕ → R.Key → Polynomial R
  monomial c k = polynomial ((k, c) ∷ [])

  unfoldable pub one : Polynomial R
  one = monomial 1 R.origin

  unfoldable pub sum : Polynomial R → Polynomial R → Polynomial R
  sum p q = polynomial (terms p ++ terms q)

  unfoldable pub scaled : ℕ → Polynomial R → Polynomial R
  scaled c p = polynomial (multiples c (terms p))

  unfoldable pub negative : Polynomial R → Polynomial R
  negative p = scaled (R.modulus - 1) p

  unfoldable pub difference : Polynomial R → Polynomial R → Polynomial R
  difference p q = sum p (negative q)

  unfoldable pub product : Polynomial R → Polynomial R → Polynomial R
  product p q = polynomial (products R.◌⊕◌ (terms p) (terms q))

  abbrev pub power : Polynomial R → ℕ → Polynomial R
  power p nought = one
  power p (suc e) = product p (power p e)

  unfoldable pub kept_terms : (R.Key → Bool) → Polynomial R → Polynomial R
  kept_terms test p = polynomial (kept test (terms p))

  unfoldable pub image : (R.Key → Polynomial R) → Polynomial R → Polynomial R
  image f p = polynomial (replaced (λ k. terms (f k)) (terms p))

  abbrev pub sum_to : ℕ → (ℕ → Polynomial R) → Polynomial R
  sum_to nought f = f 0
  sum_to (suc r) f = sum (sum_to r f) (f (suc r))

  abbrev pub sum_between : ℕ → ℕ → (ℕ → Polynomial R) → Polynomial R
  sum_between a nought f = zero
  sum_between a (suc b) f = if nat_le a b then sum (sum_between a b f) (f b) else zero
