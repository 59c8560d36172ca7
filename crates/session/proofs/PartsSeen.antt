-- Single parts of a session: of a factor, by the items of its stage.
use Rattle.std.proofs.Common.{◌≡◌, ℕ, zero, suc, ◌<◌, ◌≤◌, List, [], ◌∷◌, length, get_or, Some, refl}
use Rattle.std.proofs.Common.{sym, ◌∙◌, ap, subst, arith}
use Rattle.std.specs.Prelude.{slice_get}
use Rattle.std.proofs.lemmas.List.{length-map, get_or-map, get_or_default}
use Rattle.std.proofs.lemmas.Option.{slice_get_within, get_or_from_slice_get}
use Rattle.std.specs.Arc.{arc_value}
use Rattle.std.specs.declared.alloc.Global.{Global}
use Rattle.std.specs.declared.sync.Arc.{Arc}
use Rattle.ps_model.specs.declared.job.JobData.{JobData}
use Rattle.ps_model.specs.Job.{series_ring}
use Rattle.ps_model.specs.Rows.{part_of}
use Rattle.ps_model.specs.SeriesRing.{ring as ring_of}
use Rattle.parts.specs.declared.rings.Ring.{Ring}
use Rattle.parts.specs.JobRows.{IsRingOf}
use Rattle.parts.specs.PartValue.{PartValue}
use Rattle.parts.specs.RowsOfParts.{parts_of, nothing, part_in}
use Rattle.parts.specs.Series.{polynomial_modulo, maps_modulo}
use Rattle.parts.proofs.RowsRead.{part_read}
use Rattle.stages.specs.Items.{StageItemValue, IsItem}
use Rattle.stages.specs.Slices.{AreSlices, factor_at}
use Rattle.stages.specs.States.{StageState}
use Rattle.stages.specs.Titles.{times_at}
use Rattle.printer.specs.View.{HasUpTo, row_at}
use Rattle.session.specs.FactorParts.{IsFactorPart}
use Rattle.session.specs.Sessions.{SessionState, IsSession, HasItems, value_of}
use Rattle.session.specs.Views.{no_stage, no_item, rows_are, items_count}

-- the map of a row of parts at a place
part_of-maps : (m : ℕ) (ws : List ℕ) (row : List PartValue) (j : ℕ) → j < length row
    → part_of (ring_of (series_ring m ws)) (maps_modulo m ws row) j ≡ polynomial_modulo m ws (part_in row j).map
unfolding series_ring polynomial_modulo maps_modulo
part_of-maps m ws [] j lt = absurd (omega arith)
part_of-maps m ws (p ∷ row) zero lt = refl
part_of-maps m ws (p ∷ row) (suc j) lt = part_of-maps m ws row j (omega arith)

pub slices_seen : (job other : JobData) (i r : ℕ) (item : StageItemValue) (row : List (Arc PartValue Global))
    → job ≡ other → IsItem (record { job = job; stage = i }) r item → parts_of row ≡ item.factor
    → AreSlices other (times_at other i) r (factor_at other i) (parts_of row)
slices_seen job other i r item row same is seen =
    subst (λ (j : JobData). AreSlices j (times_at j i) r (factor_at j i) (parts_of row)) same
    (subst (AreSlices job (times_at job i) r (factor_at job i)) (sym seen) is.factor)

module _ (job : JobData) (ring : Ring) (is_ring : IsRingOf ring job) (i r : ℕ) (row : List (Arc PartValue Global))
    (are : AreSlices job (times_at job i) r (factor_at job i) (parts_of row)) where
  -- as many as the factor's powers of Y
  pub long : length row ≡ suc (times_at job i)
  long = sym (length-map row arc_value) ∙ (are.parts ring is_ring).places

  module _ (j : ℕ) (low : j ≤ times_at job i) (x : Arc PartValue Global) (is : x ≡ get_or row j x) where
    within : j < length row
    within = let n = long in omega arith

    here : j < length (parts_of row)
    here = subst (λ n. j < n) (sym (length-map row arc_value)) within

    pub at : part_in (parts_of row) j ≡ arc_value x
    at = part_read row j x within is

    -- one of them
    pub factor_part : IsFactorPart job i j r (arc_value x)
    factor_part = subst (IsFactorPart job i j r) at (record {
      degree = (are.parts ring is_ring).degrees j nothing here;
      parts = λ other also. (are.parts other also).parts j nothing here;
      slices = λ fs at. sym (part_of-maps job.modulus job.weights (parts_of row) j here)
          ∙ (are.slices fs at).slices j low;
    })

module _ (s : SessionState) (holds : IsSession s) (fits : HasItems s) (i r : ℕ) (lt : i < length s.job.job.roots) where
  -- the item of a degree that is known
  pub degree_there : HasUpTo (value_of s) r → (d : StageState) → r < length (get_or s.stages i d).items
  degree_there up_to d =
      let count = items_count s holds fits i lt in
      let many = up_to.0 i lt in
      let there : i < length s.stages = (let same = holds.of_job.count in omega arith) in
      let same = ap (λ (t : StageState). length t.items) (get_or_default s.stages i (no_stage s holds fits) d there) in
      omega arith

  pub row_item : (item : StageItemValue) → ((d : StageState) → slice_get (get_or s.stages i d).items r ≡ Some item)
      → row_at (value_of s) i r ≡ item.factor
  row_item item at =
      let here = at (no_stage s holds fits) in
      let items = (get_or s.stages i (no_stage s holds fits)).items in
      ap (λ rows. get_or rows r []) (rows_are s holds fits i lt)
      ∙ get_or-map (λ (x : StageItemValue). x.factor) items r (no_item s holds fits) []
      (slice_get_within items r item here)
      ∙ ap (λ (x : StageItemValue). x.factor) (get_or_from_slice_get items r item (no_item s holds fits) here)
