-- Lists of formulas with more behind them: the earlier nodes mean what they meant.
use Rattle.std.proofs.Common.{◌≡◌, ℕ, ◌<◌, List, [], ◌∷◌, ◌++◌, length, get_or, ◌∙◌, subst, arith, length-append}
use Rattle.std.proofs.lemmas.List.{get_or_append_left}
use Rattle.std.proofs.Math.Seq.{get_or-append_seam}
use Rattle.ps_model.specs.SeriesRing.{SeriesRing, Poly}
use Rattle.parts.specs.PartValue.{PartValue}
use Rattle.parts.specs.Rings.{modulus_of}
use Rattle.parts.specs.Series.{series}
use Rattle.parts.specs.declared.rings.Ring.{Ring}
use Rattle.series_graph.specs.Formula.{Formula, Number}
use Rattle.series_graph.specs.GraphValue.{IsKnownPart, IsLawful, IsConstant}
use Rattle.series_graph.specs.Meaning.{formula_at, IsMeaning, AreMeanings, Means}
use Rattle.series_graph.proofs.Existence.{meanings_exist, same_meanings}
use Rattle.series_graph.proofs.Meanings.{AreSound}

module _ (xs ys : List Formula) where
  pub formula-earlier : (i : ℕ) → i < length xs → formula_at (xs ++ ys) i ≡ formula_at xs i
  formula-earlier i lt = get_or_append_left xs ys (Number 0) i lt

  pub still_inside : (i : ℕ) → i < length xs → i < length (xs ++ ys)
  still_inside i lt = omega (arith, length-append xs ys)

  module _ (S : SeriesRing) (D : ℕ) where
    pub meanings-shorter : (f : ℕ → Poly S) → AreMeanings S D (xs ++ ys) f → AreMeanings S D xs f
    meanings-shorter f are i lt = subst (λ (φ : Formula). IsMeaning S D f φ (f i)) (formula-earlier i lt)
        (are i (still_inside i lt))

    pub means-shorter : (i : ℕ) (p : Poly S) → Means S D (xs ++ ys) i p → Means S D xs i p
    means-shorter i p (f, are, is) = (f, meanings-shorter f are, is)

  pub known-longer : (ring : Ring) (i r : ℕ) (p : PartValue) → IsKnownPart ring xs i r p
      → IsKnownPart ring (xs ++ ys) i r p
  known-longer ring i r p known = record {
    part = known.part;
    meaning = λ D q le is. known.meaning D q le (means-shorter (series ring) D i q is);
  }

  -- where the longer list is lawful, what the shorter one means has a longer family
  module _ (ring : Ring) (constants : List ℕ) (sound : AreSound ring constants (xs ++ ys)) (D : ℕ) where
    pub sound-shorter : AreSound ring constants xs
    sound-shorter = record {
      lawful = λ i lt. subst (λ (φ : Formula). IsLawful ring constants i φ) (formula-earlier i lt)
          (sound.lawful i (still_inside i lt));
      constants_are = λ i lt. subst
          (λ (φ : Formula). IsConstant (modulus_of ring) constants φ (get_or constants i 0)) (formula-earlier i lt)
          (sound.constants_are i (still_inside i lt));
    }

    pub means-longer : (i : ℕ) (p : Poly (series ring)) → i < length xs → Means (series ring) D xs i p
        → Means (series ring) D (xs ++ ys) i p
    means-longer i p lt (f, are, is) =
        let whole = meanings_exist ring constants (xs ++ ys) sound D in (
          whole.0,
          whole.1,
          is ∙ same_meanings ring constants xs sound-shorter D f whole.0 are
              (meanings-shorter (series ring) D whole.0 whole.1) i lt,
        )

-- of a list with one formula more, the last node
pub meaning-last : (S : SeriesRing) (D : ℕ) (xs : List Formula) (φ : Formula) (f : ℕ → Poly S)
    → AreMeanings S D (xs ++ φ ∷ []) f → IsMeaning S D f φ (f (length xs))
meaning-last S D xs φ f are = subst (λ (ψ : Formula). IsMeaning S D f ψ (f (length xs)))
    (get_or-append_seam xs φ [] (Number 0)) (are (length xs) (omega (arith, length-append xs (φ ∷ []))))
