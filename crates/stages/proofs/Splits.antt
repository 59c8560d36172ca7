-- What a stage's preparation is after each call, and what its rows are once they are shifted back.
use Rattle.std.proofs.Common.{◌≡◌, ℕ, zero, suc, ◌+◌, ◌-◌, ◌%◌, ◌<◌, ◌≤◌, List, [], ◌∷◌, ◌++◌, length, get_or, drop}
use Rattle.std.proofs.Common.{refl, sym}
use Rattle.std.proofs.Common.{◌∙◌, ap, subst, arith, ◌⊎◌, inl, inr, length-append}
use Rattle.std.proofs.Math.Nat.{add-mod-mod, mod_self}
use Rattle.std.proofs.Math.ListN.{get_or-append}
use Rattle.std.proofs.lemmas.Bool.{cases_lt}
use Rattle.ps_model.specs.AcceptedJob.{IsAccepted}
use Rattle.ps_model.specs.Bounds.{HasNoPowerAbove}
use Rattle.ps_model.specs.declared.job.JobData.{JobData}
use Rattle.ps_model.specs.declared.job.Root.{Root}
use Rattle.ps_model.specs.Factors.{total_times, product_from, each_truncated}
use Rattle.ps_model.specs.Job.{series_ring, job_ring, IsFactors}
use Rattle.ps_model.specs.Prepared.{IsPrepared}
use Rattle.ps_model.specs.Ring.{Ring as AnyRing}
use Rattle.ps_model.specs.Rows.{polynomial_of_row, IsRow, IsRowOf}
use Rattle.ps_model.specs.SeriesRing.{Poly, ring as ring_of}
use Rattle.ps_model.specs.Shift.{shifted}
use Rattle.ps_model.specs.Truncation.{truncated}
use Rattle.ps_model.proofs.Below.{truncated-below}
use Rattle.ps_model.proofs.Existence.{monic_y_degree}
use Rattle.ps_model.proofs.Factors.{truncated-again}
use Rattle.ps_model.proofs.JobFactors.{factors_truncated}
use Rattle.ps_model.proofs.JobRoots.{valid_degree, valid_small, same_modulus}
use Rattle.ps_model.proofs.RowsOf.{shifted_row_of}
use Rattle.ps_model.proofs.Monic.{shifted-y_degree}
use Rattle.ps_model.proofs.ShiftDegrees.{truncated-shifted}
use Rattle.ps_model.proofs.Shifts.{shifted-shifted}
use Rattle.ps_model.proofs.Stages.{product_from-truncated, prepared-same}
use Rattle.parts.specs.declared.rings.Ring.{Ring}
use Rattle.parts.specs.JobRows.{IsRingOf}
use Rattle.parts.specs.PartValue.{PartValue}
use Rattle.parts.specs.Rings.{modulus_of, eight_weights}
use Rattle.parts.specs.RowsOfParts.{IsRowOfParts, AreRowsOfParts}
use Rattle.parts.specs.Series.{maps_modulo}
use Rattle.prepare.specs.Calls.{Begins, Adds}
use Rattle.prepare.specs.PrepValue.{PrepValue, degrees_of}
use Rattle.prepare.proofs.Stepped.{rows_more}
use Rattle.taylor.specs.Shifts.{IsShiftedRow}
use Rattle.stages.specs.Titles.{TitleValue, no_root, root_at, times_at, later_times}
use Rattle.stages.specs.Slices.{AreSlices, factor_at, IsUpstream, HasShift}
use Rattle.stages.specs.Items.{IsItem}
use Rattle.stages.specs.Splitters.{ArePrepared, IsPreparationOf}
use Rattle.stages.proofs.Prepares.{rows_modulo, parts_same, before, facts, pair_at, last_rows}

-- the multiplicities from a stage on are its own and the later ones
pub times_from : (roots : List Root) (s : ℕ) (d : Root) → s < length roots
    → total_times (drop s roots) ≡ (get_or roots s d).times + total_times (drop (suc s) roots)
times_from [] s d lt = absurd (omega arith)
times_from (r ∷ roots) zero d lt = refl
times_from (r ∷ roots) (suc s) d lt = times_from roots s d (omega arith)

pub times_few : (roots : List Root) (s : ℕ) → total_times (drop s roots) ≤ total_times roots
times_few roots zero = omega arith
times_few [] (suc s) = omega arith
times_few (r ∷ roots) (suc s) = let few = times_few roots s in omega arith

pub accepted_few : (job : JobData) (s : ℕ) → IsAccepted job → total_times (drop s job.roots) ≤ 32
accepted_few job s ok =
    let few = times_few job.roots s in let small = valid_small job ok.valid in let same = valid_degree job ok.valid in
    omega arith

-- the negative of a residue
negative_is : (m c : ℕ) → c < m → (c + (m - c) % m) % m ≡ 0
negative_is m c lt = add-mod-mod c (m - c) m ∙ ap (λ n. n % m) (omega arith) ∙ mod_self m

-- what a pair is promised for, modulo m
abbrev Pairs : (m : ℕ) (ws : List ℕ) (k q d r : ℕ) → List PartValue → List (List PartValue) → List (List PartValue)
    → Type 0
Pairs m ws k q d r row rows_p rows_u = (G : Poly (series_ring m ws)) → HasNoPowerAbove (k + q) G
    → IsRowOf (k + q) r G (maps_modulo m ws row) → IsPrepared G k q d (rows_modulo m ws rows_p)
    (rows_modulo m ws rows_u)

pairs_moved : (m n : ℕ) (ws xs : List ℕ) (k k' q q' d d' r : ℕ) (row : List PartValue) (rows_p rows_u : List
    (List PartValue)) → m ≡ n → ws ≡ xs → k ≡ k'
    → q ≡ q' → d ≡ d' → Pairs m ws k q d r row rows_p rows_u → Pairs n xs k' q' d' r row rows_p rows_u
pairs_moved m n ws xs k k' q q' d d' r row rows_p rows_u e e' f g h pairs =
    subst (λ x. Pairs n xs k' q' x r row rows_p rows_u) h (subst (λ x. Pairs n xs k' x d r row rows_p rows_u) g
    (subst (λ x. Pairs n xs x q d r row rows_p rows_u) f (subst (λ (p : ℕ
    × List ℕ). Pairs p.0 p.1 k q d r row rows_p rows_u) (λ i. (e i, e' i)) pairs)))

abbrev NextPairs : (m : ℕ) (ws : List ℕ) (k q d e r : ℕ) → List PartValue
    → (rows_p rows_u new_p new_u : List (List PartValue)) → Type 0
NextPairs m ws k q d e r row rows_p rows_u new_p new_u = (G : Poly (series_ring m ws)) → HasNoPowerAbove (k + q) G
    → IsRowOf (k + q) r G (maps_modulo m ws row) → IsPrepared G k q d (rows_modulo m ws rows_p)
    (rows_modulo m ws rows_u)
    → IsPrepared G k q e (rows_modulo m ws new_p) (rows_modulo m ws new_u)

next_moved : (m n : ℕ) (ws xs : List ℕ) (k k' q q' d d' e e' r r' : ℕ) (row : List PartValue)
    (rows_p rows_u new_p new_u : List (List PartValue))
    → m ≡ n → ws ≡ xs → k ≡ k' → q ≡ q' → d ≡ d' → e ≡ e' → r ≡ r'
    → NextPairs m ws k q d e r row rows_p rows_u new_p new_u
    → NextPairs n xs k' q' d' e' r' row rows_p rows_u new_p new_u
next_moved m n ws xs k k' q q' d d' e e' r r' row rows_p rows_u new_p new_u a a' b c' d1 e1 f pairs =
    subst (λ x. NextPairs n xs k' q' d' e' x row rows_p rows_u new_p new_u) f
    (subst (λ x. NextPairs n xs k' q' d' x r row rows_p rows_u new_p new_u) e1
    (subst (λ x. NextPairs n xs k' q' x e r row rows_p rows_u new_p new_u) d1
    (subst (λ x. NextPairs n xs k' x d e r row rows_p rows_u new_p new_u) c'
    (subst (λ x. NextPairs n xs x q d e r row rows_p rows_u new_p new_u) b
    (subst (λ (p : ℕ × List ℕ). NextPairs p.0 p.1 k q d e r row rows_p rows_u new_p new_u) (λ i. (a i, a' i)) pairs)))))

module _ (title : TitleValue) (ok : IsAccepted title.job) (lt : title.stage < length title.job.roots) (ring : Ring)
    (ring_is : IsRingOf ring title.job) where
  abbrev R : AnyRing
  R = ring_of (job_ring title.job)

  abbrev k : ℕ
  k = times_at title.job title.stage

  abbrev q : ℕ
  q = later_times title.job title.stage

  abbrev c : ℕ
  c = (root_at title.job title.stage).value

  abbrev m : ℕ
  m = title.job.modulus

  abbrev ws : List ℕ
  ws = title.job.weights

  -- a row of slices that is shifted
  shifted_slices : (b K r : ℕ) (f g : List (Poly (job_ring title.job)) → Poly (job_ring title.job))
      (row out : List PartValue) → AreSlices title.job K r f row → HasShift ring b row out
      → ((fs : List (Poly (job_ring title.job))) → IsFactors title.job r fs → HasNoPowerAbove K (f fs))
      → ((fs : List (Poly (job_ring title.job))) → IsFactors title.job r fs → shifted R b (f fs) ≡ g fs)
      → AreSlices title.job K r g out
  shifted_slices b K r f g row out are shift powers same = record {
    parts = λ other also. parts_same ring other title.job K r out ring_is also row_of_parts;
    slices = λ fs at. subst (λ p. IsRowOf K r p (maps_modulo m ws out)) (same fs at)
        (shifted_row_of R b K r (f fs) (maps_modulo m ws row) (maps_modulo m ws out) (powers fs at)
        (are.slices fs at) row_here
        polynomial_here);
  }
    where
      here : IsRowOfParts ring K r row
      here = are.parts ring ring_is

      row_of_parts : IsRowOfParts ring K r out
      row_of_parts = (shift K r here).0

      is : IsShiftedRow ring b K r row out
      is = (shift K r here).1

      series_is : ◌≡◌ {A = ℕ × List ℕ} (modulus_of ring, eight_weights ring) (m, ws)
      series_is = λ i. (ring_is.0 i, ring_is.2 i)

      row_here : IsRow R K r (maps_modulo m ws out)
      row_here = subst (λ (n : ℕ × List ℕ). IsRow (ring_of (series_ring n.0 n.1)) K r
          (maps_modulo n.0 n.1 out)) series_is
          is.out_is

      polynomial_here : polynomial_of_row R 0 (maps_modulo m ws out) ≡ shifted R b (polynomial_of_row R 0
          (maps_modulo m ws row))
      polynomial_here = subst (λ (n : ℕ × List ℕ). polynomial_of_row (ring_of (series_ring n.0 n.1)) 0
          (maps_modulo n.0 n.1 out)
          ≡ shifted (ring_of (series_ring n.0 n.1)) b (polynomial_of_row (ring_of (series_ring n.0 n.1)) 0
          (maps_modulo n.0 n.1 row))) series_is is.polynomial

  powers_of_factor : (D : ℕ) (fs : List (Poly (job_ring title.job))) → IsFactors title.job D fs
      → HasNoPowerAbove k (shifted R c (factor_at title.job title.stage fs))
  powers_of_factor D fs is = truncated-below R R.y_degree k _
      ∙ monic_y_degree R k (shifted R c (factor_at title.job title.stage fs)) (facts title ok lt D fs is).is.monic

  pub residue : c < m
  residue = (ok.roots title.stage no_root lt).residue

  modulus_is : R.modulus ≡ m
  modulus_is = same_modulus title.job ok.modulus.0

  -- shifted back by the negative of the root
  back_forth : (p : Poly (job_ring title.job)) → shifted R ((m - c) % m) (shifted R c p) ≡ p
  back_forth p = shifted-shifted R ((m - c) % m) c
      (ap (λ n. (c + (m - c) % m) % n) modulus_is ∙ negative_is m c residue) p

  -- the rows of the pair, shifted back, are those of the factor and of what is left
  pub factor_back : (r : ℕ) (row_p row_u out : List PartValue) → ArePrepared title r row_p row_u
      → HasShift ring ((m - c) % m) row_p out → AreSlices title.job k r (factor_at title.job title.stage) out
  factor_back r row_p row_u out are is = shifted_slices ((m - c) % m) k r _ (factor_at title.job title.stage) row_p out
      are.polynomial is (powers_of_factor r) (λ fs at. back_forth (factor_at title.job title.stage fs))

  pub left_back : (r : ℕ) (row_p row_u out : List PartValue) → ArePrepared title r row_p row_u
      → HasShift ring ((m - c) % m) row_u out
      → AreSlices title.job q r (λ fs. product_from r (suc title.stage) fs) out
  left_back r row_p row_u out are is = shifted_slices ((m - c) % m) q r _ (λ fs. product_from r (suc title.stage) fs)
      row_u out are.unit is (λ fs at. (facts title ok lt r fs at).is.u_no_power_above)
      (λ fs at. back_forth (product_from r (suc title.stage) fs))

  -- the polynomial before the stage has no higher power, since its shift has none
  powers_before : (D : ℕ) (fs : List (Poly (job_ring title.job))) → IsFactors title.job D fs
      → HasNoPowerAbove (k + q) (product_from D title.stage fs)
  powers_before D fs is = subst (HasNoPowerAbove (k + q)) (back_forth (product_from D title.stage fs))
      (truncated-below R R.y_degree (k + q) _ ∙ shifted-y_degree R ((m - c) % m) (suc (k + q)) _
      (sym (truncated-below R R.y_degree (k + q) _) ∙ (facts title ok lt D fs is).can.no_power_above))

  -- the row before the stage, shifted
  pub before_shifted : (r : ℕ) (row out : List PartValue)
      → AreSlices title.job (k + q) r (λ fs. product_from r title.stage fs) row → HasShift ring c row out
      → AreSlices title.job (k + q) r (before title ok lt r) out
  before_shifted r row out are is = shifted_slices c (k + q) r _ (before title ok lt r) row out are is (powers_before r)
      (λ fs at. refl)

  at_begin : (up : List PartValue) (prep : PrepValue) → Begins ring k up prep → prep.q ≡ q
      → AreSlices title.job (k + q) 0 (before title ok lt 0) up
      → (fs : List (Poly (job_ring title.job))) → IsFactors title.job 0 fs
      → IsPrepared (before title ok lt 0 fs) k q 0 (rows_modulo m ws prep.rows_p) (rows_modulo m ws prep.rows_u)
  at_begin up prep begins q_is are fs is =
      pairs_moved (modulus_of prep.ring) m (eight_weights prep.ring) ws prep.k k prep.q q
      (degrees_of prep - 1) 0 0 up prep.rows_p prep.rows_u
      (ap modulus_of begins.ring_is ∙ ring_is.0) (ap eight_weights begins.ring_is
      ∙ ring_is.2) begins.k_is q_is (let n = begins.degrees in omega arith) begins.pair
      (before title ok lt 0 fs) (facts title ok lt 0 fs is).can.no_power_above (are.slices fs is)

  -- what is prepared once it is begun
  pub begun : (up : List PartValue) (prep : PrepValue) → Begins ring k up prep → length up ≡ suc (k + q)
      → AreSlices title.job (k + q) 0 (before title ok lt 0) up → IsPreparationOf title ring prep
  begun up prep begins places are = record {
    ring_is = begins.ring_is;
    k_is = begins.k_is;
    q_is = q_is;
    some = let n = begins.degrees in omega arith;
    same = begins.same ∙ sym begins.degrees;
    rows = λ r low. let none : 0 ≡ r = let n = begins.degrees in omega arith in
        subst (λ d. ArePrepared title d (get_or prep.rows_p d []) (get_or prep.rows_u d [])) none first;
  }
    where
      q_is : prep.q ≡ q
      q_is = let n = begins.q_is in let h = begins.k_is in omega arith

      rows_of : (K K' : ℕ) (rows : List (List PartValue)) → K ≡ K' → AreRowsOfParts prep.ring K rows
          → AreRowsOfParts ring K' rows
      rows_of K K' rows same are = subst (λ t. AreRowsOfParts t K' rows) begins.ring_is
          (subst (λ n. AreRowsOfParts prep.ring n rows) same are)

      first : ArePrepared title 0 (get_or prep.rows_p 0 []) (get_or prep.rows_u 0 [])
      first = last_rows title ok lt 0 ring prep.rows_p prep.rows_u ring_is
          (rows_of prep.k k prep.rows_p begins.k_is begins.p_rows) (rows_of prep.q q prep.rows_u q_is begins.u_rows)
          (let n = begins.degrees in omega arith) (let n = begins.same in omega arith)
          (at_begin up prep begins q_is are)

  -- the rows so far, for the list at the next degree
  before_next : (D : ℕ) (old : PrepValue) → IsPreparationOf title ring old → degrees_of old ≡ suc D
      → (fs : List (Poly (job_ring title.job))) → IsFactors title.job (suc D) fs
      → IsPrepared (before title ok lt (suc D) fs) k q D (rows_modulo m ws old.rows_p) (rows_modulo m ws old.rows_u)
  before_next D old so_far degrees fs is = prepared-same R (before title ok lt D (each_truncated D fs))
      (before title ok lt (suc D) fs) k q D (rows_modulo m ws old.rows_p) (rows_modulo m ws old.rows_u) same
      (pair_at title ok lt D old.rows_p old.rows_u degrees (so_far.same ∙ degrees)
      (λ r low. so_far.rows r (omega arith)) (each_truncated D fs)
      (factors_truncated title.job D (suc D) (omega arith) fs is))
    where
      same : truncated R R.degree D (before title ok lt D (each_truncated D fs))
          ≡ truncated R R.degree D (before title ok lt (suc D) fs)
      same = ap (λ t. truncated R R.degree D (shifted R c t)) (product_from-truncated R D (suc D) title.stage fs
          (omega arith))
          ∙ ap (truncated R R.degree D) (sym (truncated-shifted R D c (product_from (suc D) title.stage fs)))
          ∙ truncated-again R R.degree D (before title ok lt (suc D) fs)

  at_next : (D : ℕ) (old new : PrepValue) (up : List PartValue) → IsPreparationOf title ring old
      → degrees_of old ≡ suc D
      → (adds : Adds up old new) → AreSlices title.job (k + q) (suc D) (before title ok lt (suc D)) up
      → (fs : List (Poly (job_ring title.job))) → IsFactors title.job (suc D) fs
      → IsPrepared (before title ok lt (suc D) fs) k q (suc D) (rows_modulo m ws (old.rows_p ++ adds.row_p ∷ []))
      (rows_modulo m ws (old.rows_u ++ adds.row_u ∷ []))
  at_next D old new up so_far degrees adds are fs is =
      next_moved (modulus_of old.ring) m (eight_weights old.ring) ws old.k k old.q q (degrees_of old - 1) D
      (length (old.rows_p ++ adds.row_p ∷ []) - 1) (suc D) (degrees_of old) (suc D) up old.rows_p old.rows_u
      (old.rows_p ++ adds.row_p ∷ []) (old.rows_u ++ adds.row_u ∷ [])
      (ap modulus_of so_far.ring_is ∙ ring_is.0) (ap eight_weights so_far.ring_is
      ∙ ring_is.2) so_far.k_is so_far.q_is (omega arith)
      (omega (arith, length-append old.rows_p (adds.row_p ∷ []))) degrees adds.pair
      (before title ok lt (suc D) fs) (facts title ok lt (suc D) fs is).can.no_power_above (are.slices fs is)
      (before_next D old so_far degrees fs is)

  -- what is prepared once a degree is added
  pub further : (D : ℕ) (old new : PrepValue) (up : List PartValue) → IsPreparationOf title ring old
      → degrees_of old ≡ suc D → Adds up old new
      → AreSlices title.job (k + q) (suc D) (before title ok lt (suc D)) up → IsPreparationOf title ring new
  further D old new up so_far degrees adds are = subst (IsPreparationOf title ring) (sym adds.new_is) (record {
    ring_is = so_far.ring_is;
    k_is = so_far.k_is;
    q_is = so_far.q_is;
    some = omega (arith, length-append old.rows_p (adds.row_p ∷ []));
    same = length-append old.rows_u (adds.row_u ∷ []) ∙ ap (λ n. n + 1) so_far.same
        ∙ sym (length-append old.rows_p (adds.row_p ∷ []));
    rows = λ r low. rows r low (cases_lt r (suc D));
  })
    where
      old_p : AreRowsOfParts ring k old.rows_p
      old_p = λ r low. (so_far.rows r low).polynomial.parts ring ring_is

      old_u : AreRowsOfParts ring q old.rows_u
      old_u = λ r low. (so_far.rows r (let n = so_far.same in omega arith)).unit.parts ring ring_is

      row_here : (K K' : ℕ) (row : List PartValue) → K ≡ K' → IsRowOfParts old.ring K (degrees_of old) row
          → IsRowOfParts ring K' (degrees_of old) row
      row_here K K' row same is = subst (λ t. IsRowOfParts t K' (degrees_of old) row) so_far.ring_is
          (subst (λ n. IsRowOfParts old.ring n (degrees_of old) row) same is)

      last : ArePrepared title (suc D) (get_or (old.rows_p ++ adds.row_p ∷ []) (suc D) [])
          (get_or (old.rows_u ++ adds.row_u ∷ []) (suc D) [])
      last = last_rows title ok lt (suc D) ring (old.rows_p ++ adds.row_p ∷ []) (old.rows_u ++ adds.row_u ∷ []) ring_is
          (rows_more ring k old.rows_p adds.row_p old_p (row_here old.k k adds.row_p so_far.k_is adds.p_is))
          (rows_more ring q old.rows_u adds.row_u old_u (subst (λ n. IsRowOfParts ring q n adds.row_u) (sym so_far.same)
          (row_here old.q q adds.row_u so_far.q_is adds.u_is)))
          (omega (arith, length-append old.rows_p (adds.row_p ∷ [])))
          (let n = so_far.same in omega (arith, length-append old.rows_u (adds.row_u ∷ [])))
          (at_next D old new up so_far degrees adds are)

      rows : (r : ℕ) → r < length (old.rows_p ++ adds.row_p ∷ []) → (r < suc D) ⊎ (suc D ≤ r)
          → ArePrepared title r (get_or (old.rows_p ++ adds.row_p ∷ []) r []) (get_or
          (old.rows_u ++ adds.row_u ∷ []) r [])
      rows r low (inl early) =
          subst (λ t. ArePrepared title r t (get_or (old.rows_u ++ adds.row_u ∷ []) r []))
          (sym (get_or-append old.rows_p (adds.row_p ∷ []) [] r (omega arith)))
          (subst (ArePrepared title r (get_or old.rows_p r []))
          (sym (get_or-append old.rows_u (adds.row_u ∷ []) [] r (let n = so_far.same in omega arith)))
          (so_far.rows r (omega arith)))
      rows r low (inr late) =
          let is : suc D ≡ r = omega (arith, length-append old.rows_p (adds.row_p ∷ [])) in
          subst (λ d. ArePrepared title d (get_or (old.rows_p ++ adds.row_p ∷ []) d [])
          (get_or (old.rows_u ++ adds.row_u ∷ []) d [])) is last

  -- one degree more is counted
  pub counted : (old new : PrepValue) (up : List PartValue) → Adds up old new → degrees_of new ≡ degrees_of old + 1
  counted old new up adds = ap degrees_of adds.new_is ∙ length-append old.rows_p (adds.row_p ∷ [])

  from_here : total_times (drop title.stage title.job.roots) ≡ k + q
  from_here = times_from title.job.roots title.stage no_root lt

  -- the row before the stage
  pub upstream_here : (r : ℕ) (row : List PartValue) → IsUpstream title.job title.stage r row
      → AreSlices title.job (k + q) r (λ fs. product_from r title.stage fs) row
  upstream_here r row is = subst (λ K. AreSlices title.job K r (λ fs. product_from r title.stage fs) row) from_here is

  -- and once it is shifted
  pub upstream_shifted : (r : ℕ) (row out : List PartValue) → IsUpstream title.job title.stage r row
      → HasShift ring c row out
      → AreSlices title.job (k + q) r (before title ok lt r) out
  upstream_shifted r row out is shift = before_shifted r row out (upstream_here r row is) shift

  pub few : k + q ≤ 32
  few = subst (λ n. n ≤ 32) from_here (accepted_few title.job title.stage ok)

  pub some : 1 ≤ k
  some = (ok.roots title.stage no_root lt).some

  -- the item of a degree that is prepared
  pub item_is : (r back : ℕ) (prep : PrepValue) (row_p row_u factor left : List PartValue)
      → IsPreparationOf title ring prep → r < degrees_of prep → row_p ≡ get_or prep.rows_p r []
      → row_u ≡ get_or prep.rows_u r [] → back ≡ (m - c) % m
      → HasShift ring back row_p factor → HasShift ring back row_u left
      → IsItem title r (record { factor = factor; left = left })
  item_is r back prep row_p row_u factor left is lt_degrees p_is u_is back_is factor_shifts left_shifts = record {
    factor = factor_back r row_p row_u factor are (subst (λ n. HasShift ring n row_p factor) back_is factor_shifts);
    left = left_back r row_p row_u left are (subst (λ n. HasShift ring n row_u left) back_is left_shifts);
  }
    where
      are : ArePrepared title r row_p row_u
      are = subst (λ t. ArePrepared title r t row_u) (sym p_is)
          (subst (ArePrepared title r (get_or prep.rows_p r [])) (sym u_is) (is.rows r lt_degrees))
