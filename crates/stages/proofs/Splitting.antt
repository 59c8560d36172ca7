-- What a stage splits off, from one degree to the next.
use Rattle.std.proofs.Common.{◌≡◌, ℕ, zero, suc, ◌+◌, ◌<◌, ◌≤◌, List, length, Option, Some, None, refl, sym, ◌∙◌}
use Rattle.std.proofs.Common.{ap, subst, arith}
use Rattle.std.proofs.lemmas.List.{length-map}
use Rattle.std.specs.Arc.{arc_value}
use Rattle.std.specs.declared.alloc.Global.{Global}
use Rattle.std.specs.declared.sync.Arc.{Arc}
use Rattle.ps_model.specs.declared.job.Root.{Root}
use Rattle.parts.specs.PartValue.{PartValue}
use Rattle.parts.specs.RowsOfParts.{parts_of, IsRowOfParts}
use Rattle.prepare.specs.PrepValue.{PrepValue, degrees_of}
use Rattle.taylor.specs.Shifts.{AreRowParts}
use Rattle.stages.specs.Preparing.{HasNextRow, IsNextPreparation}
use Rattle.stages.specs.Slices.{AreSlices, IsUpstream, HasShift}
use Rattle.stages.specs.Splitters.{SplitterValue, prepared_in, IsBegunFor, IsSplitter}
use Rattle.stages.specs.Titles.{root_at, times_at, later_times}
use Rattle.stages.proofs.FirstRows.{first_row}
use Rattle.stages.proofs.Prepares.{before}
use Rattle.stages.proofs.Splits.{few, upstream_here, upstream_shifted, begun, further, counted}

-- as many parts as are shared
pub shares : (row : List (Arc PartValue Global)) → length (parts_of row) ≡ length row
shares row = length-map row arc_value

module _ (s : SplitterValue) (is : IsSplitter s) where
  abbrev k : ℕ
  k = times_at s.title.job s.title.stage

  abbrev q : ℕ
  q = later_times s.title.job s.title.stage

  -- the row before the stage is short
  pub upstream_short : (r : ℕ) (row : List (Arc PartValue Global))
      → IsUpstream s.title.job s.title.stage r (parts_of row) → (0 < length row) × (length row ≤ 33)
  upstream_short r row up =
      let places = ((upstream_here s.title is.accepted is.stage s.ring is.ring_is r (parts_of row) up).parts s.ring
      is.ring_is).places in
      let same = shares row in
      let small = few s.title is.accepted is.stage s.ring is.ring_is in
      (omega arith, omega arith)

  -- its shift is the next row
  pub next_row : (o : Option PrepValue) → IsBegunFor s.title s.ring o → (row : List PartValue) → prepared_in o ≤ 4095
      → AreSlices s.title.job (k + q) (prepared_in o) (before s.title is.accepted is.stage (prepared_in o)) row
      → HasNextRow s.ring k row o
  next_row None begun row low are =
      let here = are.parts s.ring is.ring_is in
      let places = here.places in
      let small = few s.title is.accepted is.stage s.ring is.ring_is in (
        omega arith,
        omega arith,
        subst (λ n. IsRowOfParts s.ring n 0 row) (omega arith) here,
        first_row s.title is.accepted is.stage s.ring is.ring_is row are,
      )
  next_row (Some prep) begun row low are = (
    subst (λ t. IsRowOfParts t (prep.k + prep.q) (degrees_of prep) row) (sym begun.ring_is)
        (subst (λ n. IsRowOfParts s.ring n (degrees_of prep) row)
        (λ i. sym begun.k_is i + sym begun.q_is i) (are.parts s.ring is.ring_is)),
    low,
  )

  -- and what is prepared then
  pub prepared_next : (old new : Option PrepValue) → IsBegunFor s.title s.ring old → (row : List PartValue)
      → AreSlices s.title.job (k + q) (prepared_in old) (before s.title is.accepted is.stage (prepared_in old)) row
      → IsNextPreparation s.ring k row old new
      → IsBegunFor s.title s.ring new × (prepared_in new ≡ prepared_in old + 1)
  prepared_next None new none row are (prep, new_is, begins) =
      let places = (are.parts s.ring is.ring_is).places in (
        subst (IsBegunFor s.title s.ring) (sym new_is)
            (begun s.title is.accepted is.stage s.ring is.ring_is row prep begins places are),
        ap prepared_in new_is ∙ begins.degrees,
      )
  prepared_next (Some old) new so_far row are (prep, new_is, adds) = at (degrees_of old) refl are
    where
      at : (n : ℕ) → degrees_of old ≡ n
          → AreSlices s.title.job (k + q) n (before s.title is.accepted is.stage n) row
          → IsBegunFor s.title s.ring new × (prepared_in new ≡ degrees_of old + 1)
      at zero none here = let some = so_far.some in absurd (omega arith)
      at (suc D) degrees here = (
        subst (IsBegunFor s.title s.ring) (sym new_is)
            (further s.title is.accepted is.stage s.ring is.ring_is D old prep row so_far degrees adds here),
        ap prepared_in new_is ∙ counted s.title is.accepted is.stage s.ring is.ring_is old prep row adds,
      )

  -- the row before the stage, as a row of parts that can be shifted
  pub row_parts : (row : List PartValue) → IsUpstream s.title.job s.title.stage (prepared_in s.preparation) row
      → prepared_in s.preparation ≤ 4095 → AreRowParts s.ring row
  row_parts row up low = record {
    K = k + q;
    r = prepared_in s.preparation;
    low = low;
    row_is = (upstream_here s.title is.accepted is.stage s.ring is.ring_is
        (prepared_in s.preparation) row up).parts s.ring
        is.ring_is;
  }

  -- what its shift is
  pub shift_here : (root : Root) → root ≡ root_at s.title.job s.title.stage → (row out : List PartValue)
      → IsUpstream s.title.job s.title.stage (prepared_in s.preparation) row → HasShift s.ring root.value row out
      → AreSlices s.title.job (k + q) (prepared_in s.preparation)
      (before s.title is.accepted is.stage (prepared_in s.preparation)) out
  shift_here root same row out up shift = upstream_shifted s.title is.accepted is.stage s.ring is.ring_is
      (prepared_in s.preparation) row out up (subst (λ t. HasShift s.ring t.value row out) same shift)

  pub next_here : (root : Root) → root ≡ root_at s.title.job s.title.stage → (row out : List PartValue)
      → IsUpstream s.title.job s.title.stage (prepared_in s.preparation) row → HasShift s.ring root.value row out
      → prepared_in s.preparation ≤ 4095 → HasNextRow s.ring root.times out s.preparation
  next_here root same row out up shift low = subst (λ t. HasNextRow s.ring t.times out s.preparation) (sym same)
      (next_row s.preparation is.begun out low (shift_here root same row out up shift))

  pub prepared_here : (root : Root) → root ≡ root_at s.title.job s.title.stage → (row out : List PartValue)
      (new : Option PrepValue) → IsUpstream s.title.job s.title.stage (prepared_in s.preparation) row
      → HasShift s.ring root.value row out → IsNextPreparation s.ring root.times out s.preparation new
      → IsSplitter (record { ring = s.ring; title = s.title; preparation = new })
      × (prepared_in new ≡ prepared_in s.preparation + 1)
  prepared_here root same row out new up shift next =
      let both = prepared_next s.preparation new is.begun out (shift_here root same row out up shift)
      (subst (λ t. IsNextPreparation s.ring t.times out s.preparation new) same next) in
      (record { accepted = is.accepted; ring_is = is.ring_is; stage = is.stage; begun = both.0 }, both.1)

-- what is known of a value before it is opened
pub upstream_row : (s now : SplitterValue) → s ≡ now → (row : List PartValue)
    → IsUpstream now.title.job now.title.stage (prepared_in now.preparation) row
    → IsUpstream s.title.job s.title.stage (prepared_in s.preparation) row
upstream_row s now e row up =
    subst (λ v. IsUpstream v.title.job v.title.stage (prepared_in v.preparation) row) (sym e) up

pub low_there : (s now : SplitterValue) → s ≡ now → prepared_in now.preparation ≤ 4095
    → prepared_in s.preparation ≤ 4095
low_there s now e low = subst (λ v. prepared_in v.preparation ≤ 4095) (sym e) low
