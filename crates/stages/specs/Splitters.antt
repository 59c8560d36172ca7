-- What splits a factor off.
--     SplitterValue      what contracts see of it: the ring, the title, and the preparation once it is begun
--     prepared_in preparation      how many degrees are prepared; 0 before it is begun
--     ArePrepared title r row_p row_u      the rows of degree r of the prepared pair of the polynomial before
--         the stage, shifted by the stage's root: of the shifted factor, and of the shifted product of the
--         later ones
--     IsPreparationOf title ring prep      a preparation in this ring whose rows are those, degree by degree
--     IsSplitter s      the job can be factored, it has the stage and its ring, and the preparation is the
--         stage's
--     AreSplitters job ring splitters      one for each stage of the job, in their order, of which none has begun
--     IsOneFurther old new      one degree more is prepared, and all else stays
use Rattle.std.specs.Prelude.{◌≡◌, ℕ, suc, ◌<◌, List, [], length, slice_index_or, Option, Some, None, ◌+◌, refl}
use Rattle.std.specs.Coded.{Coded, code_by, coded×, coded_option}
use Rattle.parts.specs.contracts.rings.Ring.{the_row}
use Rattle.ps_model.specs.AcceptedJob.{IsAccepted}
use Rattle.ps_model.specs.declared.job.JobData.{JobData}
use Rattle.ps_model.specs.Factors.{product_from}
use Rattle.ps_model.specs.Notation.{shifted}
use Rattle.parts.specs.declared.rings.Ring.{Ring}
use Rattle.parts.specs.JobRows.{IsRingOf}
use Rattle.parts.specs.PartValue.{PartValue}
use Rattle.prepare.specs.PrepValue.{PrepValue, prep_code, degrees_of}
use Rattle.stages.specs.Titles.{TitleValue, title_code, root_at, times_at, later_times}
use Rattle.stages.specs.Slices.{AreSlices, factor_at}

pub record SplitterValue : Type 0 where
  pub ring : Ring
  pub title : TitleValue
  pub preparation : Option PrepValue

abbrev pub splitter_code : Coded SplitterValue
splitter_code =
    code_by (Ring × (TitleValue × Option PrepValue)) (coded× the_row.coded (coded× title_code (coded_option prep_code)))
    (λ s. (s.ring, (s.title, s.preparation))) (λ p. record {
      ring = p.0;
      title = p.1.0;
      preparation =
          p.1.1;
    }) (λ _. refl)

abbrev pub prepared_in : Option PrepValue → ℕ
prepared_in None = 0
prepared_in (Some prep) = degrees_of prep

pub record ArePrepared (title : TitleValue) (r : ℕ) (row_p row_u : List PartValue) : Type 0 where
  pub polynomial : AreSlices title.job (times_at title.job title.stage) r
      (λ fs. shifted (root_at title.job title.stage).value (factor_at title.job title.stage fs)) row_p
  pub unit : AreSlices title.job (later_times title.job title.stage) r
      (λ fs. shifted (root_at title.job title.stage).value (product_from r (suc title.stage) fs)) row_u

pub record IsPreparationOf (title : TitleValue) (ring : Ring) (prep : PrepValue) : Type 0 where
  pub ring_is : prep.ring ≡ ring
  pub k_is : prep.k ≡ times_at title.job title.stage
  pub q_is : prep.q ≡ later_times title.job title.stage
  pub some : 0 < degrees_of prep
  pub same : length prep.rows_u ≡ degrees_of prep
  pub rows : (r : ℕ) → r < degrees_of prep →
      ArePrepared title r (slice_index_or prep.rows_p r []) (slice_index_or prep.rows_u r [])

abbrev pub IsBegunFor : TitleValue → Ring → Option PrepValue → Type 0
IsBegunFor title ring None = Unit {0}
IsBegunFor title ring (Some prep) = IsPreparationOf title ring prep

pub record IsSplitter (s : SplitterValue) : Type 0 where
  pub accepted : IsAccepted s.title.job
  pub ring_is : IsRingOf s.ring s.title.job
  pub stage : s.title.stage < length s.title.job.roots
  pub begun : IsBegunFor s.title s.ring s.preparation

pub record AreSplitters (job : JobData) (ring : Ring) (splitters : List SplitterValue) : Type 0 where
  pub count : length splitters ≡ length job.roots
  pub each : (s : ℕ) (d : SplitterValue) → s < length splitters → slice_index_or splitters s d
      ≡ record { ring = ring; title = record { job = job; stage = s }; preparation = None }

-- one degree more is prepared, and all else stays
pub record IsOneFurther (old new : SplitterValue) : Type 0 where
  pub ring : new.ring ≡ old.ring
  pub title : new.title ≡ old.title
  pub prepared : prepared_in new.preparation ≡ prepared_in old.preparation + 1
