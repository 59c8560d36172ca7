-- The rows of a stage's preparation, from the pairs that its calls promise.
use Rattle.std.proofs.Common.{◌≡◌, ℕ, zero, suc, ◌<◌, ◌≤◌, List, [], ◌∷◌, length, map, get_or, refl, sym, ◌∙◌}
use Rattle.std.proofs.Common.{ap, subst, take, All, arith}
use Rattle.std.specs.FinMap.{entries}
use Rattle.std.proofs.lemmas.List.{get_or-map, length-map}
use Rattle.ps_model.specs.AcceptedJob.{IsAccepted}
use Rattle.ps_model.specs.declared.job.JobData.{JobData}
use Rattle.ps_model.specs.declared.job.Root.{Root}
use Rattle.ps_model.specs.Factors.{product_from, each_truncated, EachIsFactor}
use Rattle.ps_model.specs.Job.{series_ring, job_ring, IsFactors}
use Rattle.ps_model.specs.Polynomial.{Polynomial, zero as nought}
use Rattle.ps_model.specs.Prepared.{IsPrepared}
use Rattle.ps_model.specs.Ring.{Ring as AnyRing}
use Rattle.ps_model.specs.Rows.{polynomial_of_rows, AreRows, IsRowOf}
use Rattle.ps_model.specs.SeriesRing.{Poly, ring as ring_of}
use Rattle.ps_model.specs.Shift.{shifted}
use Rattle.ps_model.specs.Slices.{slice_at}
use Rattle.ps_model.specs.Truncation.{truncated}
use Rattle.ps_model.proofs.JobRoots.{accepted_lawful}
use Rattle.ps_model.proofs.JobFactors.{factorable_input, factors_truncated}
use Rattle.ps_model.proofs.ShiftDegrees.{truncated-shifted}
use Rattle.ps_model.proofs.SliceValues.{slice_at-truncated}
use Rattle.ps_model.proofs.Stages.{StageFacts, stage, stage_back, product_from-truncated}
use Rattle.parts.specs.declared.rings.Ring.{Ring}
use Rattle.parts.specs.JobRows.{IsRingOf}
use Rattle.parts.specs.PartValue.{PartValue, IsEntryOf}
use Rattle.parts.specs.Rings.{modulus_of, weights_of}
use Rattle.parts.specs.RowsOfParts.{IsRowOfParts, AreRowsOfParts}
use Rattle.parts.specs.Series.{maps_modulo}
use Rattle.parts.proofs.RowSlices.{rows_are}
use Rattle.stages.specs.Titles.{TitleValue, no_root, root_at, times_at, later_times}
use Rattle.stages.specs.Slices.{AreSlices, factor_at}
use Rattle.stages.specs.Splitters.{ArePrepared}
use Rattle.stages.proofs.RowPairs.{pair_of_rows, row_together}

-- a member of a list that is truncated
member-truncated : (R : AnyRing) (r s : ℕ) (fs : List (Polynomial R)) → s < length fs
    → get_or (each_truncated r fs) s (nought R) ≡ truncated R R.degree r (get_or fs s (nought R))
member-truncated R r s [] lt = absurd (omega arith)
member-truncated R r zero (f ∷ fs) lt = refl
member-truncated R r (suc s) (f ∷ fs) lt = member-truncated R r s fs (omega arith)

-- a list has a factor for each root
each-length : (R : AnyRing) (D : ℕ) (roots : List Root) (fs : List (Polynomial R)) → EachIsFactor D roots fs
    → length roots ≡ length fs
each-length R D [] [] is = refl
each-length R D [] (f ∷ fs) is = absurd is
each-length R D (r ∷ roots) [] is = absurd is
each-length R D (r ∷ roots) (f ∷ fs) is = ap suc (each-length R D roots fs is.1)

-- parts of one ring of a job are parts of another
pub parts_same : (ring other : Ring) (job : JobData) (K r : ℕ) (row : List PartValue) → IsRingOf ring job
    → IsRingOf other job
    → IsRowOfParts ring K r row → IsRowOfParts other K r row
parts_same ring other job K r row is also are = record {
  places = are.places;
  degrees = are.degrees;
  parts = λ i d low. subst (λ ws. All (IsEntryOf (modulus_of other) ws (get_or row i d).degree) (entries
      (get_or row i d).map))
      weights (subst (λ m. All (IsEntryOf m (weights_of ring) (get_or row i d).degree) (entries (get_or row i d).map))
      (is.0 ∙ sym also.0) (are.parts i d low));
}
  where
    weights : weights_of ring ≡ weights_of other
    weights = λ i. take ((is.1 ∙ sym also.1) i) ((is.2 ∙ sym also.2) i)

-- the polynomial of rows of parts modulo m
abbrev pub rows_modulo : (m : ℕ) (ws : List ℕ) → List (List PartValue) → Poly (series_ring m ws)
rows_modulo m ws rows = polynomial_of_rows (ring_of (series_ring m ws)) (map (maps_modulo m ws) rows)

-- rows of parts of a ring are rows modulo the job's modulus
pub rows_of_job : (ring : Ring) (job : JobData) (K : ℕ) (rows : List (List PartValue)) → IsRingOf ring job
    → AreRowsOfParts ring K rows → AreRows (ring_of (job_ring job)) K (map (maps_modulo job.modulus job.weights) rows)
rows_of_job ring job K rows is are =
    subst (λ (p : ℕ × List ℕ). AreRows (ring_of (series_ring p.0 p.1)) K (map (maps_modulo p.0 p.1) rows))
    (λ i. (is.0 i, is.2 i)) (rows_are ring K rows are)

module _ (title : TitleValue) (ok : IsAccepted title.job) (lt : title.stage < length title.job.roots) where
  abbrev R : AnyRing
  R = ring_of (job_ring title.job)

  abbrev c : ℕ
  c = (root_at title.job title.stage).value

  abbrev k : ℕ
  k = times_at title.job title.stage

  abbrev q : ℕ
  q = later_times title.job title.stage

  -- the polynomial before the stage, shifted
  abbrev pub before : ℕ → List (Poly (job_ring title.job)) → Poly (job_ring title.job)
  before D fs = shifted R c (product_from D title.stage fs)

  pub facts : (D : ℕ) (fs : List (Poly (job_ring title.job))) → IsFactors title.job D fs
      → StageFacts R D title.stage (root_at title.job title.stage) q fs
  facts D fs is = let f = factorable_input title.job (accepted_lawful title.job ok) D fs is in
      stage R D title.stage no_root title.job.roots f.0 fs f.2 f.3 lt

  -- a row that fits the list up to its own degree has the slices of the list's polynomial up to a greater one
  pub at_list : (K r D : ℕ) (f : List (Poly (job_ring title.job)) → Poly (job_ring title.job)) (row : List PartValue)
      (p : Poly (job_ring title.job)) (fs : List (Poly (job_ring title.job))) → AreSlices title.job K r f row → r ≤ D
      → IsFactors title.job D fs → f (each_truncated r fs) ≡ truncated R R.degree r p
      → IsRowOf K r p (maps_modulo title.job.modulus title.job.weights row)
  at_list K r D f row p fs are le is same =
      let own : IsRowOf K r (f (each_truncated r fs)) (maps_modulo title.job.modulus title.job.weights row) =
      are.slices (each_truncated r fs) (factors_truncated title.job r D le fs is) in
      record {
        places = own.places;
        slices = λ j lj. own.slices j lj ∙ ap (slice_at R r j) same ∙ slice_at-truncated R r r j p (omega arith);
      }

  factor_slices : (r D : ℕ) (fs : List (Poly (job_ring title.job))) → IsFactors title.job D fs
      → shifted R c (factor_at title.job title.stage (each_truncated r fs))
      ≡ truncated R R.degree r (shifted R c (factor_at title.job title.stage fs))
  factor_slices r D fs is = ap (shifted R c) (member-truncated R r title.stage fs
      (let same : length title.job.roots ≡ length fs = each-length R D title.job.roots fs is.are_factors.each in
      omega arith))
      ∙ sym (truncated-shifted R r c (factor_at title.job title.stage fs))

  left_slices : (r D : ℕ) (fs : List (Poly (job_ring title.job))) → r ≤ D
      → shifted R c (product_from r (suc title.stage) (each_truncated r fs))
      ≡ truncated R R.degree r (shifted R c (product_from D (suc title.stage) fs))
  left_slices r D fs le = ap (shifted R c) (product_from-truncated R r D (suc title.stage) fs le)
      ∙ sym (truncated-shifted R r c (product_from D (suc title.stage) fs))

  -- the rows so far are the prepared pair for each list
  pub pair_at : (D : ℕ) (rows_p rows_u : List (List PartValue)) → length rows_p ≡ suc D → length rows_u ≡ suc D
      → ((r : ℕ) → r < suc D → ArePrepared title r (get_or rows_p r []) (get_or rows_u r []))
      → (fs : List (Poly (job_ring title.job))) → IsFactors title.job D fs
      → IsPrepared (before D fs) k q D (rows_modulo title.job.modulus title.job.weights rows_p)
      (rows_modulo title.job.modulus title.job.weights rows_u)
  pair_at D rows_p rows_u count_p count_u rows fs is = pair_of_rows R (before D fs) k q D
      (shifted R c (factor_at title.job title.stage fs)) (shifted R c (product_from D (suc title.stage) fs))
      (map (maps_modulo title.job.modulus title.job.weights) rows_p) (map
      (maps_modulo title.job.modulus title.job.weights) rows_u) (facts D fs is).is
      (record {
        count = length-map rows_p (maps_modulo title.job.modulus title.job.weights) ∙ count_p;
        row = λ r low. subst (IsRowOf k r (shifted R c (factor_at title.job title.stage fs)))
            (sym (get_or-map (maps_modulo title.job.modulus title.job.weights) rows_p r [] [] (omega arith)))
            (at_list k r D _ (get_or rows_p r []) (shifted R c (factor_at title.job title.stage fs)) fs
            (rows r low).polynomial (omega arith) is (factor_slices r D fs is));
      })
      (record {
        count = length-map rows_u (maps_modulo title.job.modulus title.job.weights) ∙ count_u;
        row = λ r low. subst (IsRowOf q r (shifted R c (product_from D (suc title.stage) fs)))
            (sym (get_or-map (maps_modulo title.job.modulus title.job.weights) rows_u r [] [] (omega arith)))
            (at_list q r D _ (get_or rows_u r []) (shifted R c (product_from D (suc title.stage) fs)) fs
            (rows r low).unit (omega arith) is (left_slices r D fs (omega arith)));
      })

  -- where the rows are the pair for each list, the last ones are those of the stage
  pub last_rows : (D : ℕ) (ring : Ring) (rows_p rows_u : List (List PartValue)) → IsRingOf ring title.job
      → AreRowsOfParts ring k rows_p → AreRowsOfParts ring q rows_u → D < length rows_p → D < length rows_u
      → ((fs : List (Poly (job_ring title.job))) → IsFactors title.job D fs
      → IsPrepared (before D fs) k q D (rows_modulo title.job.modulus title.job.weights rows_p)
      (rows_modulo title.job.modulus title.job.weights rows_u))
      → ArePrepared title D (get_or rows_p D []) (get_or rows_u D [])
  last_rows D ring rows_p rows_u ring_is are_p are_u low_p low_u pairs = record {
    polynomial = record {
      parts = λ other is. parts_same ring other title.job k D (get_or rows_p D []) ring_is is (are_p D low_p);
      slices = λ fs is. subst (IsRowOf k D (shifted R c (factor_at title.job title.stage fs)))
          (get_or-map (maps_modulo title.job.modulus title.job.weights) rows_p D [] [] low_p)
          (row_together R k D _ (map (maps_modulo title.job.modulus title.job.weights) rows_p)
          (rows_of_job ring title.job k rows_p ring_is are_p) (back fs is).0
          (subst (λ n. D < n) (sym (length-map rows_p (maps_modulo title.job.modulus title.job.weights))) low_p));
    };
    unit = record {
      parts = λ other is. parts_same ring other title.job q D (get_or rows_u D []) ring_is is (are_u D low_u);
      slices = λ fs is. subst (IsRowOf q D (shifted R c (product_from D (suc title.stage) fs)))
          (get_or-map (maps_modulo title.job.modulus title.job.weights) rows_u D [] [] low_u)
          (row_together R q D _ (map (maps_modulo title.job.modulus title.job.weights) rows_u)
          (rows_of_job ring title.job q rows_u ring_is are_u) (back fs is).1
          (subst (λ n. D < n) (sym (length-map rows_u (maps_modulo title.job.modulus title.job.weights))) low_u));
    };
  }
    where
      back : (fs : List (Poly (job_ring title.job))) → IsFactors title.job D fs
          → (rows_modulo title.job.modulus title.job.weights rows_p ≡ shifted R c (factor_at title.job title.stage fs))
          × (rows_modulo title.job.modulus title.job.weights rows_u ≡ shifted R c (product_from D (suc title.stage) fs))
      back fs is =
          let f = factorable_input title.job (accepted_lawful title.job ok) D fs is in
          let both = stage_back R D title.stage no_root title.job.roots f.0 fs f.2 f.3 lt
          (rows_modulo title.job.modulus title.job.weights rows_p)
          (rows_modulo title.job.modulus title.job.weights rows_u) (pairs fs is) in
          (both.0, both.1)
