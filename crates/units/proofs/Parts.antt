-- The parts of a series that is given by its parts.
use Rattle.std.proofs.Common.{◌≡◌, ℕ, zero, suc, ◌+◌, ◌<◌, ◌≤◌, inl, inr, List, [], ◌∷◌, ◌++◌, length}
use Rattle.std.proofs.Common.{sym, ◌∙◌, ap, subst, arith, zero-add}
use Rattle.std.proofs.lemmas.Bool.{cases_lt}
use Rattle.std.proofs.lemmas.List.{get_or_append_left, length_push}
use Rattle.std.proofs.Math.Seq.{get_or-append_seam}
use Rattle.ps_model.specs.Notation.{zero as nought, sum, homogeneous_part}
use Rattle.ps_model.specs.Bounds.{HasNoDegreeAbove}
use Rattle.ps_model.specs.Ring.{Ring as AnyRing}
use Rattle.ps_model.specs.Polynomial.{Polynomial}
use Rattle.ps_model.specs.Truncation as by_degree
use Rattle.ps_model.specs.SeriesRing.{ring as ring_of}
use Rattle.ps_model.proofs.Below.{truncated-below, below-nothing, homogeneous_part-other}
use Rattle.ps_model.proofs.Degrees.{homogeneous-below}
use Rattle.ps_model.proofs.Homogeneous.{IsHomogeneous}
use Rattle.ps_model.proofs.RingLaws.{sum-zero, zero-sum}
use Rattle.ps_model.proofs.SliceValues.{part-nothing, slice_degree}
use Rattle.ps_model.proofs.Truncations.{homogeneous_part-sum, truncated-sum}
use Rattle.parts.specs.PartValue.{PartValue}
use Rattle.parts.specs.RowsOfParts.{nothing, part_in}
use Rattle.parts.specs.Series.{series, polynomial_in}
use Rattle.parts.specs.declared.rings.Ring.{Ring}
use Rattle.parts.proofs.Polynomials.{polynomial_in-empty}
use Rattle.parts.proofs.RowSlices.{part_slice}
use Rattle.units.specs.SeriesParts.{IsPartAt, AreSeriesParts, series_of}

-- a homogeneous polynomial has no part of another degree
pub other_part : (R : AnyRing) (e r : ℕ) (p : Polynomial R) → IsHomogeneous R R.degree r p → (e ≡ r → ⊥)
    → by_degree.homogeneous_part R R.degree e p ≡ nought
other_part R e r p is other = ap (by_degree.homogeneous_part R R.degree e) (sym is)
    ∙ homogeneous_part-other R R.degree e r p other

-- nor anything above its degree
pub within_degree : (R : AnyRing) (D r : ℕ) (p : Polynomial R) → IsHomogeneous R R.degree r p → r ≤ D
    → by_degree.truncated R R.degree D p ≡ p
within_degree R D r p is le = truncated-below R R.degree D p ∙ homogeneous-below R R.degree r (suc D) p (omega arith) is

module _ (ring : Ring) where
  pub part_homogeneous : (r : ℕ) (p : PartValue) → IsPartAt ring r p
      → IsHomogeneous (ring_of (series ring)) (ring_of (series ring)).degree r (polynomial_in ring p.map)
  part_homogeneous r p is = subst
      (λ n. IsHomogeneous (ring_of (series ring)) (ring_of (series ring)).degree n (polynomial_in ring p.map)) is.0
      (slice_degree (ring_of (series ring)) p.degree (polynomial_in ring p.map) (part_slice ring p is.1))

  -- parts of the degrees from n on
  abbrev AreFrom : ℕ → List PartValue → Type 0
  AreFrom n ps = (k : ℕ) → k < length ps → IsPartAt ring (n + k) (part_in ps k)

  first_from : (n : ℕ) (p : PartValue) (ps : List PartValue) → AreFrom n (p ∷ ps) → IsPartAt ring n p
  first_from n p ps are = subst (λ m. IsPartAt ring m p) (omega arith) (are 0 (omega arith))

  later_from : (n : ℕ) (p : PartValue) (ps : List PartValue) → AreFrom n (p ∷ ps) → AreFrom (suc n) ps
  later_from n p ps are = λ k lt. subst (λ m. IsPartAt ring m (part_in ps k)) (omega arith) (are (suc k) (omega arith))

  none_below : (n : ℕ) (ps : List PartValue) → AreFrom n ps → (e : ℕ) → e < n
      → homogeneous_part e (series_of ring ps) ≡ nought
  none_below n [] are e lt = part-nothing (ring_of (series ring)) (ring_of (series ring)).degree e
  none_below n (p ∷ ps) are e lt =
      homogeneous_part-sum (ring_of (series ring)) (ring_of (series ring)).degree e _ _
      ∙ (λ i. sum (other_part (ring_of (series ring)) e n (polynomial_in ring p.map)
      (part_homogeneous n p (first_from n p ps are)) (λ same. omega arith) i)
      (none_below (suc n) ps (later_from n p ps are) e (omega arith) i))
      ∙ zero-sum (ring_of (series ring)) nought

  parts_from : (n : ℕ) (ps : List PartValue) → AreFrom n ps → (k : ℕ)
      → homogeneous_part (n + k) (series_of ring ps) ≡ polynomial_in ring (part_in ps k).map
  parts_from n [] are k = part-nothing (ring_of (series ring)) (ring_of (series ring)).degree (n + k)
      ∙ sym (polynomial_in-empty ring)
  parts_from n (p ∷ ps) are zero =
      ap (λ m. homogeneous_part m (series_of ring (p ∷ ps))) (let e : n + 0 ≡ n = omega arith in e)
      ∙ homogeneous_part-sum (ring_of (series ring)) (ring_of (series ring)).degree n _ _
      ∙ (λ i. sum (part_homogeneous n p (first_from n p ps are) i)
      (none_below (suc n) ps (later_from n p ps are) n (omega arith) i))
      ∙ sum-zero (ring_of (series ring)) (polynomial_in ring p.map)
  parts_from n (p ∷ ps) are (suc k) =
      homogeneous_part-sum (ring_of (series ring)) (ring_of (series ring)).degree (n + suc k) _ _
      ∙ (λ i. sum (other_part (ring_of (series ring)) (n + suc k) n (polynomial_in ring p.map)
      (part_homogeneous n p (first_from n p ps are)) (λ same. omega arith) i)
      ((ap (λ m. homogeneous_part m (series_of ring ps)) (let e : n + suc k ≡ suc n + k = omega arith in e)
      ∙ parts_from (suc n) ps (later_from n p ps are) k) i))
      ∙ zero-sum (ring_of (series ring)) _

  within_from : (n D : ℕ) (ps : List PartValue) → AreFrom n ps → n + length ps ≤ suc D
      → HasNoDegreeAbove D (series_of ring ps)
  within_from n D [] are le = truncated-below (ring_of (series ring)) (ring_of (series ring)).degree D nought
      ∙ below-nothing (ring_of (series ring)) (ring_of (series ring)).degree (suc D)
  within_from n D (p ∷ ps) are le =
      truncated-sum (ring_of (series ring)) (ring_of (series ring)).degree D _ _
      ∙ (λ i. sum (within_degree (ring_of (series ring)) D n (polynomial_in ring p.map)
      (part_homogeneous n p (first_from n p ps are)) (omega arith) i)
      (within_from (suc n) D ps (later_from n p ps are) (omega arith) i))

  from_zero : (ps : List PartValue) → AreSeriesParts ring ps → AreFrom 0 ps
  from_zero ps are = λ k lt. subst (λ m. IsPartAt ring m (part_in ps k)) (sym (zero-add k)) (are k lt)

  -- the part of degree k is the one at place k
  pub series_part : (ps : List PartValue) → AreSeriesParts ring ps → (k : ℕ)
      → homogeneous_part k (series_of ring ps) ≡ polynomial_in ring (part_in ps k).map
  series_part ps are k = ap (λ m. homogeneous_part m (series_of ring ps)) (sym (zero-add k))
      ∙ parts_from 0 ps (from_zero ps are) k

  -- there is nothing above the last one
  pub series_within : (ps : List PartValue) → AreSeriesParts ring ps → (D : ℕ) → length ps ≤ suc D
      → HasNoDegreeAbove D (series_of ring ps)
  series_within ps are D le = within_from 0 D ps (from_zero ps are) (omega arith)

  -- one part more
  pub parts-more : (ps : List PartValue) (p : PartValue) → AreSeriesParts ring ps → IsPartAt ring (length ps) p
      → AreSeriesParts ring (ps ++ p ∷ [])
  parts-more ps p are is r lt = elim (cases_lt r (length ps)) as (λ _. IsPartAt ring r (part_in (ps ++ p ∷ []) r)) [
    | inl low ↦ subst (IsPartAt ring r) (sym (get_or_append_left ps (p ∷ []) nothing r low)) (are r low)
    | inr high ↦
        let end : length ps ≡ r = omega (arith, length_push ps p) in
        subst (λ n. IsPartAt ring n (part_in (ps ++ p ∷ []) n)) end
        (subst (IsPartAt ring (length ps)) (sym (get_or-append_seam ps p [] nothing)) is)
  ]
