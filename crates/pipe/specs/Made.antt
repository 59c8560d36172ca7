-- Rows that were just made.
--     AreNewRows job capacity n rows      the rows of the first n stages of the job, without an item and with this
--         capacity
use Rattle.std.specs.Prelude.{◌≡◌, ℕ, List, [], map, replicate, length, slice_get, Some}
use Rattle.std.specs.declared.sync.Arc.{Arc}
use Rattle.std.specs.declared.alloc.Global.{Global}
use Rattle.left_right.specs.declared.Absorb.{Ghosts as AbsorbGhosts}
use Rattle.ps_model.specs.declared.job.JobData.{JobData}
use Rattle.rows.specs.declared.item.RowItem.{Ghosts}
use Rattle.rows.specs.declared.copies.RowCopy.{RowCopy}
use Rattle.rows.specs.declared.shared.RowWriter.{RowWriter}
use Rattle.rows.specs.Writers.{writer_title, writer_items, writer_capacity}
use Rattle.stages.specs.Items.{StageItemValue}
use Rattle.stages.specs.Titles.{TitleValue}

module _ {S : Type 0} {g : Ghosts StageItemValue TitleValue}
    {a : AbsorbGhosts (RowCopy StageItemValue TitleValue) (Arc StageItemValue Global) S} where
  pub record AreNewRows (job : JobData) (capacity n : ℕ)
      (rows : List (RowWriter StageItemValue TitleValue S g a)) : Type 0 where
    pub count : length rows ≡ n
    pub titles : (s : ℕ) (row : RowWriter StageItemValue TitleValue S g a) → slice_get rows s ≡ Some row
        → writer_title row ≡ record { job = job; stage = s }
    pub empty : (s : ℕ) (row : RowWriter StageItemValue TitleValue S g a) → slice_get rows s ≡ Some row
        → writer_items row ≡ []
    pub capacities : map writer_capacity rows ≡ replicate n capacity
