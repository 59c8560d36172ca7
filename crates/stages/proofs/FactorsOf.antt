-- The rows of a job's stages, put together, are the job's factors.
use Rattle.std.proofs.Common.{◌≡◌, ℕ, zero, suc, ◌+◌, ◌<◌, ◌≤◌, List, [], ◌∷◌, length, map, take, get_or, refl, sym, ◌∙◌}
use Rattle.std.proofs.Common.{ap, subst, arith, None}
use Rattle.std.proofs.lemmas.List.{length-map, length-take-le, get_or-map, get_or-take, ext_get_or}
use Rattle.std.proofs.lemmas.Option.{slice_get-get_or}
use Rattle.ps_model.specs.declared.job.JobData.{JobData}
use Rattle.ps_model.specs.declared.job.Root.{Root}
use Rattle.ps_model.specs.Factors.{IsFactor, EachIsFactor, each_truncated}
use Rattle.ps_model.specs.Job.{IsFactors, job_ring}
use Rattle.ps_model.specs.Polynomial.{Polynomial, zero as nought}
use Rattle.ps_model.specs.Ring.{Ring as PolynomialRing}
use Rattle.ps_model.specs.Rows.{IsRowOf, polynomial_of_rows}
use Rattle.ps_model.specs.SeriesRing.{ring as ring_of, Poly, Row}
use Rattle.ps_model.specs.Truncation.{truncated}
use Rattle.ps_model.proofs.Below.{truncated-below}
use Rattle.ps_model.proofs.Existence.{monic_y_degree}
use Rattle.ps_model.proofs.JobFactors.{factors_truncated}
use Rattle.ps_model.proofs.JobRoots.{accepted_lawful}
use Rattle.ps_model.proofs.JobValues.{lawful_factors}
use Rattle.ps_model.proofs.KeptTerms.{kept_terms-zero}
use Rattle.ps_model.proofs.SliceValues.{slice_at-truncated}
use Rattle.parts.specs.declared.rings.Ring.{Ring}
use Rattle.parts.specs.PartValue.{PartValue}
use Rattle.parts.specs.Series.{maps_modulo}
use Rattle.rows.specs.Fits.{AllFit}
use Rattle.stages.specs.FactorLists.{factor_up_to, factors_up_to}
use Rattle.stages.specs.Items.{StageItemValue, IsItem}
use Rattle.stages.specs.Lines.{AreStagesOf, AllHave}
use Rattle.stages.specs.Slices.{AreSlices, factor_at}
use Rattle.stages.specs.States.{StageState}
use Rattle.stages.specs.Titles.{no_root, root_at, times_at}
use Rattle.stages.proofs.LineTitles.{each_there}
use Rattle.stages.proofs.RowPairs.{AreRowsFor, together}

module _ (R : PolynomialRing) where
  -- the factor at a place of a list that is truncated
  pub get_or-truncated : (r i : ℕ) (fs : List (Polynomial R))
      → get_or (each_truncated r fs) i (nought R) ≡ truncated R R.degree r (get_or fs i (nought R))
  unfolding truncated
  get_or-truncated r i [] = sym (kept_terms-zero R _)
  get_or-truncated r zero (f ∷ fs) = refl
  get_or-truncated r (suc i) (f ∷ fs) = get_or-truncated r i fs

  factor_here : (D : ℕ) (roots : List Root) (fs : List (Polynomial R)) → EachIsFactor D roots fs → (i : ℕ) (root : Root)
      → i < length roots → IsFactor D (get_or roots i root) (get_or fs i (nought R))
  factor_here D [] fs each i root lt = absurd (omega arith)
  factor_here D (r ∷ roots) [] each i root lt = absurd each
  factor_here D (r ∷ roots) (f ∷ fs) each zero root lt = each.0
  factor_here D (r ∷ roots) (f ∷ fs) each (suc i) root lt = factor_here D roots fs each.1 i root (omega arith)

  -- there are as many factors as roots
  pub length-each : (D : ℕ) (roots : List Root) (fs : List (Polynomial R)) → EachIsFactor D roots fs
      → length fs ≡ length roots
  length-each D [] [] each = refl
  length-each D [] (f ∷ fs) each = absurd each
  length-each D (r ∷ roots) [] each = absurd each
  length-each D (r ∷ roots) (f ∷ fs) each = ap suc (length-each D roots fs each.1)

  row_whole : (K r : ℕ) (p : Polynomial R) (row : _) → IsRowOf K r (truncated R R.degree r p) row → IsRowOf K r p row
  row_whole K r p row is = record {
    places = is.places;
    slices = λ j le. is.slices j le ∙ slice_at-truncated R r r j p (omega arith);
  }

module _ (job : JobData) where
  abbrev S : PolynomialRing
  S = ring_of (job_ring job)

  abbrev no_item : StageItemValue
  no_item = record { factor = []; left = [] }

  module _ (D : ℕ) (fs : List (Poly (job_ring job))) (are : IsFactors job D fs) (i : ℕ) (lt : i < length job.roots)
      (items : List StageItemValue) (fits : AllFit (IsItem (record { job = job; stage = i })) items)
      (up_to : D < length items) where
    abbrev rows : List (List PartValue)
    rows = map (λ item. item.factor) items

    abbrev factor : Polynomial S
    factor = get_or fs i (nought S)

    abbrev maps : List PartValue → Row (job_ring job)
    maps = maps_modulo job.modulus job.weights

    long : length rows ≡ length items
    long = length-map items (λ item. item.factor)

    slices_here : (r : ℕ) → r < length items
        → AreSlices job (times_at job i) r (factor_at job i) (get_or rows r [])
    slices_here r low = subst (AreSlices job (times_at job i) r (factor_at job i))
        (sym (get_or-map (λ item. item.factor) items r no_item [] low))
        (fits r (get_or items r no_item) (slice_get-get_or items r no_item low)).factor

    row_is : (r : ℕ) → r ≤ D → IsRowOf (times_at job i) r factor (maps (get_or rows r []))
    row_is r le = row_whole S (times_at job i) r factor (maps (get_or rows r []))
        (subst (λ p. IsRowOf (times_at job i) r p (maps (get_or rows r [])))
        (get_or-truncated S r i fs)
        ((slices_here r (omega arith)).slices (each_truncated r fs) (factors_truncated job r D le fs are)))

    enough : suc D ≤ length rows
    enough = let same = long in omega arith

    there : (r : ℕ) → r < suc D → get_or (map maps (take (suc D) rows)) r [] ≡ maps (get_or rows r [])
    there r low = get_or-map maps (take (suc D) rows) r [] []
        (let count = length-take-le (suc D) rows enough in omega arith)
        ∙ ap maps (get_or-take (suc D) rows r [] low)

    rows_for : AreRowsFor S (times_at job i) (suc D) factor (map maps (take (suc D) rows))
    rows_for = record {
      count = length-map (take (suc D) rows) maps ∙ length-take-le (suc D) rows enough;
      row = λ r low. subst (IsRowOf (times_at job i) r factor) (sym (there r low)) (row_is r (omega arith));
    }

    is_factor : IsFactor D (root_at job i) factor
    is_factor = factor_here S D job.roots fs are.are_factors.each i no_root lt

    -- the rows of one stage are its factor
    pub factor_is : polynomial_of_rows S (map maps (take (suc D) rows)) ≡ factor
    factor_is = together S (times_at job i) D factor (map maps (take (suc D) rows)) rows_for
        (truncated-below S S.y_degree (times_at job i) factor
        ∙ monic_y_degree S (times_at job i) factor is_factor.monic)
        is_factor.within

  module _ (states : List StageState) (line : AreStagesOf job states)
      (fits : (i : ℕ) (d : StageState) → i < length states
      → AllFit (IsItem (record { job = job; stage = i })) (get_or states i d).items)
      (D : ℕ) (have : AllHave (suc D) states) where
    -- those of all stages are each list of factors
    pub factors_are : (ring : Ring) (fs : List (Poly (job_ring job))) → IsFactors job D fs → factors_up_to job D states ≡ fs
    factors_are ring fs are = ext_get_or (nought S) (factors_up_to job D states) fs
        (many ∙ sym (length-each S D job.roots fs are.are_factors.each))
        (λ i lt.
        let low : i < length states = (let count = length-map states (factor_up_to job D) in omega arith) in
        get_or-map (factor_up_to job D) states i past (nought S) low
        ∙ factor_is D fs are i (let count = line.count in omega arith) (get_or states i past).items (fits i past low)
        (let enough = have i past low in omega arith))
      where
        many : length (factors_up_to job D states) ≡ length job.roots
        many = length-map states (factor_up_to job D) ∙ line.count

        -- the state past the last
        past : StageState
        past = record {
          title = record { job = job; stage = 0 };
          ring = ring;
          capacity = 0;
          name = [];
          items = [];
          preparation = None;
        }

    -- so they are the list of factors
    pub are_factors : (ring : Ring) → IsFactors job D (factors_up_to job D states)
    are_factors ring =
        let one = lawful_factors job (accepted_lawful job line.accepted) D in
        subst (IsFactors job D) (sym (factors_are ring one.one_value one.meets)) one.meets

-- the items of all rows fit, where those of each row do
pub stages_fit : {T : Type 0} (see : T → StageState) (xs : List T) (job : JobData) → AreStagesOf job (map see xs)
    → ((x : T) → AllFit (IsItem (see x).title) (see x).items) → (i : ℕ) (d : StageState) → i < length (map see xs)
    → AllFit (IsItem (record { job = job; stage = i })) (get_or (map see xs) i d).items
stages_fit see xs job line each i d lt =
    subst (λ t. AllFit (IsItem t) (get_or (map see xs) i d).items) (line.title i d lt)
    (each_there (λ _ s. AllFit (IsItem s.title) s.items) see xs (λ k x low. each (get_or xs k x)) i d lt)

-- where the items of each row fit, the rows of a line are its factors
pub line_factors : {T : Type 0} (see : T → StageState) (xs : List T) (job : JobData) → AreStagesOf job (map see xs)
    → ((x : T) → AllFit (IsItem (see x).title) (see x).items) → Ring → (D : ℕ) → AllHave (D + 1) (map see xs)
    → IsFactors job D (factors_up_to job D (map see xs))
line_factors see xs job line each ring D have = are_factors job (map see xs) line (stages_fit see xs job line each) D
    (λ s d lt. let enough = have s d lt in omega arith) ring
