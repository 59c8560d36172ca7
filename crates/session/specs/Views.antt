-- That what is true of each session is what its traits say.
--     stages_fit      the items of a line's stages fit, where those of each row do
--     block_value      what a writer sees is a value of a view
use Rattle.std.specs.Prelude.{◌≡◌, ℕ, ◌<◌, List, [], ◌∷◌, length, map, slice_index_or, None}
use Rattle.std.proofs.Common.{refl, sym, ◌∙◌, ap, subst, arith}
use Rattle.std.proofs.lemmas.List.{length-map, get_or-map, get_or_default}
use Rattle.std.proofs.lemmas.Option.{slice_get-get_or}
use Rattle.ps_model.specs.declared.job.JobData.{JobData}
use Rattle.ps_model.specs.declared.job.Root.{Root}
use Rattle.parts.specs.PartValue.{PartValue, IsPartOf}
use Rattle.parts.specs.RowsOfParts.{nothing, part_in, IsRowOfParts, AreRowsOfParts}
use Rattle.units.specs.SeriesParts.{IsPartAt}
use Rattle.rows.specs.Fits.{AllFit}
use Rattle.stages.specs.Items.{StageItemValue, IsItem}
use Rattle.stages.specs.Lines.{AreStagesOf}
use Rattle.stages.specs.Slices.{AreSlices, factor_at}
use Rattle.stages.specs.States.{StageState}
use Rattle.stages.specs.Titles.{no_root, times_at}
use Rattle.stages.proofs.LineTitles.{each_there}
use Rattle.expr_reader.specs.NameLists.{as_names}
use Rattle.printer.specs.View.{rows_of, row_at, each_alone, IsBlockValue}
use Rattle.session.specs.Sessions.{SessionState, factor_rows, value_of, IsSession, HasItems}

pub stages_fit : {T : Type 0} (see : T → StageState) (xs : List T) (job : JobData) → AreStagesOf job (map see xs)
    → ((x : T) → AllFit (IsItem (see x).title) (see x).items) → (i : ℕ) (d : StageState) → i < length (map see xs)
    → AllFit (IsItem (record { job = job; stage = i })) (slice_index_or (map see xs) i d).items
stages_fit see xs job line each i d lt =
    subst (λ t. AllFit (IsItem t) (slice_index_or (map see xs) i d).items) (line.title i d lt)
    (each_there (λ _ s. AllFit (IsItem s.title) s.items) see xs (λ k x low. each (slice_index_or xs k x)) i d lt)

module _ (s : SessionState) (holds : IsSession s) (fits : HasItems s) where
  abbrev pub job_of : JobData
  job_of = s.job.job

  -- the state past the last stage
  abbrev pub no_stage : StageState
  no_stage = record {
    title = record { job = job_of; stage = 0 };
    ring = s.ring;
    capacity = 0;
    name = [];
    items = [];
    preparation = None;
  }

  abbrev pub no_item : StageItemValue
  no_item = record { factor = []; left = [] }

  module _ (i : ℕ) (lt : i < length job_of.roots) where
    abbrev stage : StageState
    stage = slice_index_or s.stages i no_stage

    there : i < length s.stages
    there = let count = holds.of_job.count in omega arith

    pub rows_are : rows_of (value_of s) i ≡ factor_rows stage
    rows_are = get_or-map factor_rows s.stages i no_stage [] there

    pub items_count : length (rows_of (value_of s) i) ≡ length stage.items
    items_count = ap length rows_are ∙ length-map stage.items (λ item. item.factor)

    module _ (r : ℕ) (low : r < length (rows_of (value_of s) i)) where
      within : r < length stage.items
      within = let count = items_count in omega arith

      row_is : row_at (value_of s) i r ≡ (slice_index_or stage.items r no_item).factor
      row_is = ap (λ rows. slice_index_or rows r []) rows_are
          ∙ get_or-map (λ item. item.factor) stage.items r no_item [] within

      -- the row of a degree is that of the job's factor
      pub row_fits : AreSlices job_of (times_at job_of i) r (factor_at job_of i) (row_at (value_of s) i r)
      row_fits = subst (AreSlices job_of (times_at job_of i) r (factor_at job_of i)) (sym row_is)
          (fits.each i no_stage there r (slice_index_or stage.items r no_item)
          (slice_get-get_or stage.items r no_item within)).factor

    pub rows_fit : (root : Root)
        → AreRowsOfParts s.ring (slice_index_or job_of.roots i root).times (rows_of (value_of s) i)
    rows_fit root r low = subst (λ k. IsRowOfParts s.ring k r (row_at (value_of s) i r))
        (ap (λ (x : Root). x.times) (get_or_default job_of.roots i no_root root lt))
        ((row_fits r low).parts s.ring holds.ring_is)

  lead_alone : AreRowsOfParts s.ring 0 (each_alone s.lead)
  lead_alone r low = subst (IsRowOfParts s.ring 0 r) (sym here) (record {
    places = refl;
    degrees = λ k d lt. subst (λ j. (slice_index_or (part_in s.lead r ∷ []) j d).degree ≡ r) (first k lt) is.0;
    parts = λ k d lt. subst (λ j. IsPartOf s.ring (slice_index_or (part_in s.lead r ∷ []) j d)) (first k lt) is.1;
  })
    where
      within : r < length s.lead
      within = let count = length-map s.lead (λ (p : PartValue). p ∷ []) in omega arith

      here : slice_index_or (each_alone s.lead) r [] ≡ part_in s.lead r ∷ []
      here = get_or-map (λ p. p ∷ []) s.lead r nothing [] within

      is : IsPartAt s.ring r (part_in s.lead r)
      is = (holds.lead r within).part s.ring holds.ring_is

      first : (k : ℕ) → k < 1 → 0 ≡ k
      first k lt = omega arith

  pub block_value : IsBlockValue (as_names s.job.names) (value_of s)
  block_value = record {
    named = let n = holds.ring_is.1 in let some = holds.named in omega arith;
    some = holds.of_job.accepted.some;
    residues = λ i d lt. subst (λ m. (slice_index_or job_of.roots i d).value < m) (sym holds.ring_is.0)
        (holds.of_job.accepted.roots i d lt).residue;
    factors = length-map s.stages factor_rows ∙ holds.of_job.count;
    rows = λ i root lt. rows_fit i lt root;
    lead_parts = lead_alone;
  }
