-- The row of degree 0 before a stage, which has a preparation.
use Rattle.std.proofs.Common.{◌≡◌, ℕ, zero, suc, ◌+◌, ◌%◌, ◌<◌, List, [], ◌∷◌, length, map}
use Rattle.std.proofs.Common.{refl, sym, ◌∙◌, ap, subst}
use Rattle.std.proofs.Common.{arith, cond, Some, All}
use Rattle.std.specs.Int.{◌∣◌}
use Rattle.std.proofs.Math.Nat.{dvd-mod_iff, dvd-mul_right_of_dvd, eq-one_of_dvd-one, mod-eq_of_lt}
use Rattle.std.specs.FinMap.{FinMap, entries, empty, find, get-entries, same_entries_map}
use Rattle.std.specs.Option.{unwrap_or}
use Rattle.ps_model.specs.AcceptedJob.{IsAccepted}
use Rattle.ps_model.specs.Bounds.{IsUnit, ExactlyOne}
use Rattle.ps_model.specs.FiniteMaps.{value_at}
use Rattle.ps_model.specs.Job.{series_ring, IsFactors}
use Rattle.ps_model.specs.KeyLaws.{key_compare_total, key_compare-IsAntisymmetric}
use Rattle.ps_model.specs.Keys.{Key, key_compare}
use Rattle.ps_model.specs.Notation.{constant_term}
use Rattle.ps_model.specs.Polynomial.{coefficient, monomial, zero as nought}
use Rattle.ps_model.specs.Prepared.{IsPreparable}
use Rattle.ps_model.specs.Rows.{IsRowOf, part_of}
use Rattle.ps_model.specs.SeriesRing.{Poly, ring as ring_of}
use Rattle.ps_model.proofs.Coefficients.{itself}
use Rattle.ps_model.proofs.JobRoots.{same_modulus, accepted_lawful}
use Rattle.ps_model.proofs.JobValues.{lawful_factors}
use Rattle.ps_model.proofs.OfMap.{coefficient-of_map}
use Rattle.ps_model.proofs.Origin.{coefficient-zero}
use Rattle.ps_model.proofs.PreparedRows.{coefficient-slice_at}
use Rattle.ps_model.proofs.SliceValues.{slice_at-constant}
use Rattle.ps_model.proofs.TopTerms.{monomial-nothing}
use Rattle.parts.specs.declared.rings.Ring.{Ring}
use Rattle.parts.specs.declared.terms.Term.{Term}
use Rattle.parts.specs.JobRows.{IsRingOf}
use Rattle.parts.specs.PartValue.{PartValue, IsPartOf, IsEntryOf}
use Rattle.parts.specs.Rings.{modulus_of, weights_of, eight_weights}
use Rattle.parts.specs.RowsOfParts.{part_in}
use Rattle.parts.specs.Series.{series, polynomial_in, polynomial_modulo, maps_modulo, constant_of}
use Rattle.parts.specs.Terms.{entry_of, TermsInOrder}
use Rattle.parts.proofs.Gained.{none_listed}
use Rattle.parts.proofs.Polynomials.{modulus_is}
use Rattle.prepare.specs.Calls.{IsLowest, IsWithoutInverse}
use Rattle.stages.specs.Preparing.{CanBegin}
use Rattle.stages.specs.Slices.{AreSlices}
use Rattle.stages.specs.Titles.{TitleValue, times_at, later_times}
use Rattle.stages.proofs.Prepares.{before, facts}

-- the polynomial at a place of a row
part_here : (m : ℕ) (ws : List ℕ) (row : List PartValue) (j : ℕ)
    → part_of (ring_of (series_ring m ws)) (maps_modulo m ws row) j
    ≡ polynomial_modulo m ws (part_in row j).map
unfolding series_ring polynomial_modulo maps_modulo
part_here m ws [] j = refl
part_here m ws (p ∷ row) zero = refl
part_here m ws (p ∷ row) (suc j) = part_here m ws row j

-- modulo m
abbrev CanAt : ℕ → List ℕ → ℕ → List PartValue → Type 0
CanAt m ws k row = ((i : ℕ) → i < k → polynomial_modulo m ws (part_in row i).map ≡ nought (ring_of (series_ring m ws)))
    × IsUnit m (constant_term (polynomial_modulo m ws (part_in row k).map))

can_at : (m : ℕ) (ws : List ℕ) (k q : ℕ) (G : Poly (series_ring m ws)) (row : List PartValue)
    → (series_ring m ws).modulus ≡ m
    → IsPreparable G k q → IsRowOf (k + q) 0 G (maps_modulo m ws row) → CanAt m ws k row
can_at m ws k q G row same can is = (
  λ i lt. sym (part_here m ws row i) ∙ is.slices i (omega arith) ∙ slice_at-constant (ring_of (series_ring m ws)) i G
      ∙ ap (λ c. monomial (ring_of (series_ring m ws)) c (ring_of (series_ring m ws)).origin) (can.lower i lt)
      ∙ monomial-nothing (ring_of (series_ring m ws)) (ring_of (series_ring m ws)).origin,
  subst (λ n. IsUnit n (constant_term (polynomial_modulo m ws (part_in row k).map))) same
      (subst (IsUnit (series_ring m ws).modulus) (sym (constant)) can.unit),
)
  where
    constant : constant_term (polynomial_modulo m ws (part_in row k).map)
        ≡ coefficient (ring_of (series_ring m ws)) G ((ring_of (series_ring m ws)).y k)
    constant = ap (λ p. coefficient (ring_of (series_ring m ws)) p (ring_of (series_ring m ws)).origin)
        (sym (part_here m ws row k) ∙ is.slices k (omega arith))
        ∙ coefficient-slice_at (ring_of (series_ring m ws)) k G

-- the row of a polynomial that can be prepared
pub can_begin : (ring : Ring) (m : ℕ) (ws : List ℕ) (k q : ℕ) (G : Poly (series_ring m ws)) (row : List PartValue)
    → modulus_of ring ≡ m
    → eight_weights ring ≡ ws → (series_ring m ws).modulus ≡ m → IsPreparable G k q
    → IsRowOf (k + q) 0 G (maps_modulo m ws row) → CanBegin ring k row
can_begin ring m ws k q G row modulus weights same can is =
    let at = subst (λ (p : ℕ × List ℕ). CanAt p.0 p.1 k row) (λ i. (
      sym modulus i,
      sym weights i,
    )) (can_at m ws k q G row same can is) in
    record { lower = at.0; unit = at.1 }

-- what a part of which nothing is left has at a key
value_nothing : (ring : Ring) (p : FinMap (key_compare 8) ℕ) → polynomial_in ring p ≡ nought (ring_of (series ring))
    → (k : Key 8) → value_at (key_compare 8) p k % modulus_of ring ≡ 0
unfolding series_ring polynomial_modulo
value_nothing ring p none k = ap (λ n. value_at (key_compare 8) p k % n) (sym (modulus_is ring))
    ∙ sym (coefficient-of_map (ring_of (series ring)) p k)
    ∙ ap (λ q. coefficient (ring_of (series ring)) q k) none
    ∙ coefficient-zero (ring_of (series ring)) k

-- a part of which nothing is left has no term
pub no_terms : (ring : Ring) (p : PartValue) (ts : List Term) → map entry_of ts ≡ entries p.map → TermsInOrder ts
    → IsPartOf ring p → polynomial_in ring p.map ≡ nought (ring_of (series ring)) → p.map ≡ empty
no_terms ring p [] listed order is none = same_entries_map p.map empty (sym listed ∙ sym none_listed)
no_terms ring p (t ∷ ts) listed order is none = absurd (
    let some = order.1 0 t (omega arith) in
    let left = sym (mod-eq_of_lt small) ∙ ap (λ n. n % modulus_of ring) (sym value_here)
    ∙ value_nothing ring p.map none (entry_of t).0 in
    omega arith)
  where
    value_here : value_at (key_compare 8) p.map (entry_of t).0 ≡ t.coefficient
    value_here = ap (λ o. unwrap_or o 0) (get-entries p.map (entry_of t).0
        ∙ ap (λ es. find (key_compare 8) (entry_of t).0 es) (sym listed)
        ∙ ap (λ b. cond b (Some t.coefficient) (find (key_compare 8) (entry_of t).0 (map entry_of ts)))
        (itself (key_compare 8) (key_compare_total 8) (key_compare-IsAntisymmetric 8) (entry_of t).0))

    small : t.coefficient < modulus_of ring
    small = (subst (λ es. All (IsEntryOf (modulus_of ring) (weights_of ring) p.degree) es) (sym listed)
        is 0 (entry_of t) (omega arith)).1

-- so none is lowest
pub none_lowest : (ring : Ring) (k : ℕ) (row : List PartValue) (power : ℕ) → CanBegin ring k row → IsLowest k row power
    → (ts : List Term) → map entry_of ts ≡ entries (part_in row power).map → TermsInOrder ts
    → IsPartOf ring (part_in row power) → ⊥
none_lowest ring k row power can is ts listed order part =
    is.some (no_terms ring (part_in row power) ts listed order part (can.lower power is.below))

-- and the constant term has an inverse
pub has_inverse : (ring : Ring) (k : ℕ) (row : List PartValue) (g : ℕ) → CanBegin ring k row
    → IsWithoutInverse ring k row g → ⊥
has_inverse ring k row g can is =
    let c : ℕ = constant_of ring (part_in row k) in
    let divides = (dvd-mod_iff g is.divisor.1).1 (dvd-mul_right_of_dvd g is.divisor.0 can.unit.inverse) in
    let one = eq-one_of_dvd-one (subst (λ n. g ∣ n) can.unit.inverts divides) in
    let above = is.above in
    omega arith

-- the row before a stage, shifted by its root
module _ (title : TitleValue) (ok : IsAccepted title.job) (lt : title.stage < length title.job.roots) (ring : Ring)
    (ring_is : IsRingOf ring title.job) where
  pub first_row : (row : List PartValue)
      → AreSlices title.job (times_at title.job title.stage + later_times title.job title.stage) 0
      (before title ok lt 0) row
      → CanBegin ring (times_at title.job title.stage) row
  first_row row are = can_begin ring title.job.modulus title.job.weights (times_at title.job title.stage)
      (later_times title.job title.stage) (before title ok lt 0 list.one_value) row ring_is.0 ring_is.2
      (same_modulus title.job ok.modulus.0)
      (facts title ok lt 0 list.one_value list.meets).can (are.slices list.one_value list.meets)
    where
      list : ExactlyOne (IsFactors title.job 0)
      list = lawful_factors title.job (accepted_lawful title.job ok) 0
