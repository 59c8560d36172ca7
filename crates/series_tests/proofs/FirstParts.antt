-- Parts that are found one by one, from none on.
use Rattle.std.proofs.Common.{◌≡◌, ℕ, suc, ◌+◌, ◌<◌, List, [], ◌∷◌, ◌++◌, length, refl, sym, ◌∙◌, ap, subst, arith}
use Rattle.std.proofs.lemmas.List.{length_push, map-append}
use Rattle.std.specs.Arc.{arc_value}
use Rattle.std.specs.declared.alloc.Global.{Global}
use Rattle.std.specs.declared.sync.Arc.{Arc}
use Rattle.ps_model.specs.SeriesRing.{Poly}
use Rattle.parts.specs.PartValue.{PartValue, IsPartOf}
use Rattle.parts.specs.RowsOfParts.{parts_of}
use Rattle.parts.specs.Series.{series}
use Rattle.parts.specs.declared.rings.Ring.{Ring}
use Rattle.units.specs.SeriesParts.{IsPartAt, AreSeriesParts, AreQuotientParts}
use Rattle.units.proofs.Parts.{parts-more}
use Rattle.units.proofs.PartsRead.{parts_count}

-- n parts of a series
pub record AreParts (ring : Ring) (n : ℕ) (row : List (Arc PartValue Global)) : Type 0 where
  pub count : length row ≡ n
  pub parts : AreSeriesParts ring (parts_of row)

pub parts_none : (ring : Ring) → AreParts ring 0 []
parts_none ring = record { count = refl; parts = λ r lt. absurd (omega arith) }

pub parts_pushed : (row : List (Arc PartValue Global)) (x : Arc PartValue Global) (p : PartValue) → arc_value x ≡ p
    → parts_of (row ++ x ∷ []) ≡ parts_of row ++ p ∷ []
parts_pushed row x p is = map-append arc_value row (x ∷ []) ∙ ap (λ (t : PartValue). parts_of row ++ t ∷ []) is

pub parts_one : (ring : Ring) (n : ℕ) (row : List (Arc PartValue Global)) (x : Arc PartValue Global) (p : PartValue)
    → AreParts ring n row → arc_value x ≡ p → IsPartAt ring n p → AreParts ring (n + 1) (row ++ x ∷ [])
parts_one ring n row x p before is part = record {
  count = length_push row x ∙ (let count = before.count in omega arith);
  parts = subst (AreSeriesParts ring) (sym (parts_pushed row x p is)) (parts-more ring (parts_of row) p before.parts
      (subst (λ k. IsPartAt ring k p) (sym (parts_count row ∙ before.count)) part));
}

-- n parts of a quotient
pub record AreFirst (ring : Ring) (a b : Poly (series ring)) (n : ℕ) (row : List (Arc PartValue Global)) : Type 0 where
  pub are : AreParts ring n row
  pub first : AreQuotientParts ring a b (parts_of row)

pub first_none : (ring : Ring) (a b : Poly (series ring)) (row : List (Arc PartValue Global)) → row ≡ []
    → AreFirst ring a b 0 row
first_none ring a b row none = subst (AreFirst ring a b 0) (sym none)
    (record { are = parts_none ring; first = λ D is. absurd (omega arith) })

-- one more, where the row is seen through a reference
pub first_one : (ring : Ring) (a b : Poly (series ring)) (n : ℕ) (row seen new : List (Arc PartValue Global))
    (x : Arc PartValue Global) (p : PartValue) → AreFirst ring a b n row → seen ≡ row → new ≡ row ++ x ∷ []
    → arc_value x ≡ p → p.degree ≡ length seen → IsPartOf ring p
    → AreQuotientParts ring a b (parts_of seen ++ p ∷ []) → AreFirst ring a b (n + 1) new
first_one ring a b n row seen new x p before same new_is is degree part first =
    subst (AreFirst ring a b (n + 1)) (sym new_is) (record {
      are = parts_one ring n row x p before.are is (degree ∙ ap length same ∙ before.are.count, part);
      first = subst (AreQuotientParts ring a b) (sym (parts_pushed row x p is))
          (subst (λ (xs : List (Arc PartValue Global)). AreQuotientParts ring a b (parts_of xs ++ p ∷ [])) same first);
    })

-- n parts of a quotient that are known
pub record AreKnownFirst (ring : Ring) (a b : Poly (series ring)) (n : ℕ) (own : List PartValue) : Type 0 where
  pub count : length own ≡ n
  pub parts : AreSeriesParts ring own
  pub first : AreQuotientParts ring a b own

pub known_first_none : (ring : Ring) (a b : Poly (series ring)) (own : List PartValue) → own ≡ []
    → AreKnownFirst ring a b 0 own
known_first_none ring a b own none = subst (AreKnownFirst ring a b 0) (sym none) (record {
  count = refl;
  parts = λ r lt. absurd (omega arith);
  first = λ D is. absurd (omega arith);
})

pub known_first_one : (ring : Ring) (a b : Poly (series ring)) (n : ℕ) (own new : List PartValue) (p q : PartValue)
    → AreKnownFirst ring a b n own → new ≡ own ++ q ∷ [] → q ≡ p → p.degree ≡ length own → IsPartOf ring p
    → AreQuotientParts ring a b (own ++ p ∷ []) → AreKnownFirst ring a b (n + 1) new
known_first_one ring a b n own new p q before new_is same degree part first =
    subst (AreKnownFirst ring a b (n + 1)) (sym (new_is ∙ ap (λ (t : PartValue). own ++ t ∷ []) same)) (record {
      count = length_push own p ∙ ap (λ k. k + 1) before.count;
      parts = parts-more ring own p before.parts (degree, part);
      first = first;
    })
