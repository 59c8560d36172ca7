-- What slots mean: where nodes are added, and of the terms of a sum and the pairs of a product.
use Rattle.std.proofs.Common.{◌≡◌, ℕ, zero, suc, ◌-◌, ◌<◌, List, [], ◌∷◌, ◌++◌, length, get_or, Option, Some, None}
use Rattle.std.proofs.Common.{refl, sym, ◌∙◌, ap, subst, arith}
use Rattle.std.specs.Prelude.{slice_get}
use Rattle.ps_model.specs.Notation.{zero as nought, sum, scaled, product, sum_to, truncated, y_coefficient}
use Rattle.ps_model.specs.SeriesRing.{SeriesRing, ring, Poly}
use Rattle.ps_model.proofs.RingLaws.{sum-assoc, sum-zero, zero-sum, zero-product, product-zero}
use Rattle.ps_model.proofs.SlicesShifted.{scaled-nothing}
use Rattle.ps_model.proofs.Truncations.{sum_to-same}
use Rattle.series_graph.specs.Formula.{place_of, Formula, Number}
use Rattle.series_graph.specs.Meaning.{combination, products, IsMeaning, AreMeanings}
use Rattle.series_graph.specs.declared.node.NodeId.{NodeId}
use Rattle.intake.specs.Slots.{meaning_of, slot_at, Mean, term_at, pair_at, pairs_to}
use Rattle.intake.proofs.SlotPolynomials.{y_coefficient-product}

-- the places of a longer list
pub get_or-before : {X : Type 0} (xs ys : List X) (i : ℕ) (d : X) → i < length xs
    → get_or (xs ++ ys) i d ≡ get_or xs i d
get_or-before [] ys i d lt = absurd (omega arith)
get_or-before (x ∷ xs) ys zero d lt = refl
get_or-before (x ∷ xs) ys (suc i) d lt = get_or-before xs ys i d (omega arith)

pub get_or-at_end : {X : Type 0} (xs : List X) (y d : X) → get_or (xs ++ y ∷ []) (length xs) d ≡ y
get_or-at_end [] y d = refl
get_or-at_end (x ∷ xs) y d = get_or-at_end xs y d

pub before_longer : {X : Type 0} (xs ys : List X) (i : ℕ) → i < length xs → i < length (xs ++ ys)
before_longer [] ys i lt = absurd (omega arith)
before_longer (x ∷ xs) ys zero lt = omega arith
before_longer (x ∷ xs) ys (suc i) lt = let h = before_longer xs ys i (omega arith) in omega arith

module _ (S : SeriesRing) where
  module _ (D : ℕ) where
    -- more nodes leave the meanings of the earlier ones
    pub meanings_before : (xs ys : List Formula) (f : ℕ → Poly S) → AreMeanings S D (xs ++ ys) f → AreMeanings S D xs f
    meanings_before xs ys f are i lt = subst (λ (formula : Formula). IsMeaning S D f formula (f i))
        (get_or-before xs ys i (Number 0) lt) (are i (before_longer xs ys i lt))

    pub mean_kept : (xs ys : List Formula) (ids : List NodeId) (v : Poly S) → Mean S D xs ids v
        → Mean S D (xs ++ ys) ids v
    mean_kept xs ys ids v mean f are = mean f (meanings_before xs ys f are)

  module _ (f : ℕ → Poly S) where
    pub combination-append : (xs ys : List (ℕ × NodeId)) → combination S f (xs ++ ys)
        ≡ sum (combination S f xs) (combination S f ys)
    combination-append [] ys = sym (zero-sum (ring S) _)
    combination-append (x ∷ xs) ys = ap (sum (scaled x.0 (f (place_of x.1)))) (combination-append xs ys)
        ∙ sym (sum-assoc (ring S) _ _ _)

    pub products-append : (xs ys : List (NodeId × NodeId)) → products S f (xs ++ ys)
        ≡ sum (products S f xs) (products S f ys)
    products-append [] ys = sym (zero-sum (ring S) _)
    products-append (x ∷ xs) ys = ap (sum (product (f (place_of x.0)) (f (place_of x.1)))) (products-append xs ys)
        ∙ sym (sum-assoc (ring S) _ _ _)

    pub combination-term : (c : ℕ) (slot : Option NodeId) → combination S f (term_at c slot)
        ≡ scaled c (meaning_of S f slot)
    combination-term c None = sym (scaled-nothing (ring S) c)
    combination-term c (Some id) = sum-zero (ring S) _

    pub products-pair : (x y : Option NodeId) → products S f (pair_at x y)
        ≡ product (meaning_of S f x) (meaning_of S f y)
    products-pair None y = sym (zero-product (ring S) _)
    products-pair (Some x) None = sym (product-zero (ring S) _)
    products-pair (Some x) (Some y) = sum-zero (ring S) _

    pub products-pairs : (a b : List NodeId) (j n : ℕ) → products S f (pairs_to a b j (suc n))
        ≡ sum_to n (λ i. product (slot_at S f a i) (slot_at S f b (j - i)))
    products-pairs a b j zero = products-pair _ _
    products-pairs a b j (suc n) = products-append (pairs_to a b j (suc n)) _
        ∙ (λ i. sum (products-pairs a b j n i)
        (products-pair (slice_get a (suc n)) (slice_get b (j - suc n)) i))

    -- the pairs of slots of two polynomials have the product's coefficient as their sum
    pub products-of_pairs : (a b : List NodeId) (u v : Poly S) (j : ℕ)
        → ((i : ℕ) → slot_at S f a i ≡ y_coefficient i u) → ((i : ℕ) → slot_at S f b i ≡ y_coefficient i v)
        → products S f (pairs_to a b j (suc j)) ≡ y_coefficient j (product u v)
    products-of_pairs a b u v j of_a of_b = products-pairs a b j j
        ∙ sum_to-same (ring S) j _ _ (λ i le l. product (of_a i l) (of_b (j - i) l))
        ∙ sym (y_coefficient-product (ring S) j u v)
