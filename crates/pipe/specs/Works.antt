-- What contracts see of the stages that workers run.
--     WorkState      the stage, and how many of its items are published
--     work_of stage      what contracts see of a stage over a shared row
--     Works n old new      a stage keeps what it has and grows to n at most
--     IsShown w      all its items are published
--     IsBehind reader work      the reader's row is of the stage before
use Rattle.std.specs.Prelude.{◌≡◌, ℕ, suc, ◌≤◌, max, length}
use Rattle.std.specs.declared.sync.Arc.{Arc}
use Rattle.std.specs.declared.alloc.Global.{Global}
use Rattle.left_right.specs.declared.Absorb.{Ghosts as AbsorbGhosts}
use Rattle.rows.specs.declared.item.RowItem.{Ghosts}
use Rattle.rows.specs.declared.item.RowOut.{Ghosts as RowGhosts}
use Rattle.rows.specs.declared.copies.RowCopy.{RowCopy}
use Rattle.rows.specs.declared.shared.RowWriter.{RowWriter}
use Rattle.rows.specs.Writers.{published_of}
use Rattle.stages.specs.Titles.{TitleValue}
use Rattle.stages.specs.Items.{StageItemValue}
use Rattle.stages.specs.declared.stage.Stage.{Stage}
use Rattle.stages.specs.States.{StageState, state_by, prepared_of, KeepsStage}
use Rattle.pipe.specs.Looks.{ReaderState}

pub record WorkState : Type 0 where
  pub stage : StageState
  pub published : ℕ

module _ {S : Type 0} {g : Ghosts StageItemValue TitleValue}
    {a : AbsorbGhosts (RowCopy StageItemValue TitleValue) (Arc StageItemValue Global) S}
    {o : RowGhosts (RowWriter StageItemValue TitleValue S g a) StageItemValue TitleValue} where
  abbrev pub work_of : Stage (RowWriter StageItemValue TitleValue S g a) o → WorkState
  work_of s = record {
    stage = state_by o.capacity o.name o.items s.splitter s.row;
    published = published_of s.row;
  }

abbrev pub title_of_work : WorkState → TitleValue
title_of_work w = w.stage.title

abbrev pub count_of : WorkState → ℕ
count_of w = length w.stage.items

abbrev pub prepared_in : WorkState → ℕ
prepared_in w = prepared_of w.stage

pub record Works (n : ℕ) (old new : WorkState) : Type 0 where
  pub kept : KeepsStage old.stage new.stage
  pub items : count_of new ≤ max n (count_of old)
  pub prepared : prepared_in new ≤ max n (prepared_in old)

abbrev pub IsShown : WorkState → Type 0
IsShown w = w.published ≡ count_of w

pub record IsBehind (reader : ReaderState) (work : WorkState) : Type 0 where
  pub job : work.stage.title.job ≡ reader.title.job
  pub stage : work.stage.title.stage ≡ suc reader.title.stage
