-- Lists of terms of one ring and one degree, and what they stand for.
--     terms_total f ts      the value of a linear form at the terms; 0 of no term
--     IsBefore k ts      the key k stands before the key of each term
--     AreTermsOf ring d ts      terms in order, each of the ring and of degree d, none with
--         coefficient 0
--     IsTotal ring d es ts      terms in order, which are the formal sum es modulo the ring's
--         modulus
--     row_of k c ts      the entries of the terms, each key with k added and each coefficient times
--         c
--     IsNext ring d a b t c e      t is the first term of the sum of a and b, or the 0 in its
--         place, and c and e are left
use Rattle.std.specs.Prelude.{◌≡◌, ℕ, ◌+◌, ◌*◌, ◌%◌, ◌==◌, cond, List, [], ◌∷◌, map}
use Rattle.std.specs.List.{All}
use Rattle.std.specs.declared.cmp.Ordering.TheVariants.{Less}
use Rattle.ps_model.specs.Keys.{Key, key_compare, add_keys}
use Rattle.ps_model.specs.Sums.{total}
use Rattle.parts.specs.declared.rings.Ring.{Ring}
use Rattle.parts.specs.declared.terms.Term.{Term}
use Rattle.parts.specs.Rings.{modulus_of, weights_of}
use Rattle.parts.specs.Terms.{key_of, entry_of, TermsInOrder}
use Rattle.parts.specs.PartValue.{IsEntryOf}

abbrev pub terms_total : (Key 8 → ℕ) → List Term → ℕ
terms_total f ts = total f (map entry_of ts)

abbrev pub IsBefore : Key 8 → List Term → Type 0
IsBefore k ts = All (λ t. key_compare 8 k (key_of t.monomial) ≡ Less) ts

pub record AreTermsOf (ring : Ring) (d : ℕ) (ts : List Term) : Type 0 where
  pub order : TermsInOrder ts
  pub entries : All (λ t. IsEntryOf (modulus_of ring) (weights_of ring) d (entry_of t)) ts

pub record IsTotal (ring : Ring) (d : ℕ) (es : List (Key 8 × ℕ)) (ts : List Term) : Type 0 where
  pub terms : AreTermsOf ring d ts
  pub totals : (f : Key 8 → ℕ) → terms_total f ts % modulus_of ring ≡ total f es % modulus_of ring

-- the term in a list of its own, or nothing where its coefficient is 0
abbrev pub unless_zero : Term → List Term
unless_zero t = cond (t.coefficient == 0) [] (t ∷ [])

pub record IsNext (ring : Ring) (d : ℕ) (a b : List Term) (t : Term) (c e : List Term) : Type 0 where
  pub totals : (f : Key 8 → ℕ) →
      (t.coefficient * f (key_of t.monomial) + (terms_total f c + terms_total f e)) % modulus_of ring
      ≡ (terms_total f a + terms_total f b) % modulus_of ring
  pub entry : IsEntryOf (modulus_of ring) (weights_of ring) d (entry_of t)
  pub first : (k : Key 8) → IsBefore k a → IsBefore k b → key_compare 8 k (key_of t.monomial) ≡ Less
  pub before_c : IsBefore (key_of t.monomial) c
  pub before_e : IsBefore (key_of t.monomial) e
  pub rest_c : AreTermsOf ring d c
  pub rest_e : AreTermsOf ring d e

abbrev pub row_of : Key 8 → ℕ → List Term → List (Key 8 × ℕ)
row_of k c ts = map (λ (e : Key 8 × ℕ). (add_keys 8 k e.0, c * e.1)) (map entry_of ts)
