-- Stages over shared rows, and readers of these rows, may go to another thread.
use denote.RattleType.{RattleType}
use denote.Param.Send.{IsSend, IsSync, sendable}
use Rattle.crossbeam_utils.specs.declared.rule.Protocol.{Ghosts as RuleGhosts}
use Rattle.left_right.specs.declared.Absorb.{Ghosts as AbsorbGhosts}
use Rattle.std.specs.declared.sync.Arc.{Arc}
use Rattle.std.specs.declared.alloc.Global.{Global}
use Rattle.rows.specs.declared.item.RowItem.{Ghosts}
use Rattle.rows.specs.declared.item.RowOut.{Ghosts as RowGhosts}
use Rattle.rows.specs.declared.copies.RowCopy.{RowCopy}
use Rattle.rows.specs.declared.copies.RowView.{RowView}
use Rattle.rows.specs.declared.rule.RowRule.{RowRule}
use Rattle.rows.specs.contracts.shared.RowReader as RowReader
use Rattle.rows.specs.contracts.shared.RowWriter as RowWriter
use Rattle.rows.proofs.shared.RowReader.TheSendSync as of_reader
use Rattle.rows.proofs.shared.RowWriter.TheSendSync as of_writer
use Rattle.std.proofs.Crossing.{crosses}
use Rattle.sqlite_items.proofs.items.Items.TheSendSync as of_items
use Rattle.ps_model.specs.contracts.job.JobData as JobData
use Rattle.ps_model.proofs.expr.Expr.TheLaws.TheKnot.{send-Expr, sync-Expr}
use Rattle.ps_model.proofs.job.Root.TheSendSync as of_root
use Rattle.parts.proofs.rings.Ring.TheSendSync as of_ring
use Rattle.prepare.proofs.prep.Prep.TheSendSync as of_prep
use Rattle.taylor.proofs.shared.SharedBinomials.TheSendSync as of_table
use Rattle.stages.specs.contracts.splitter.Splitter as Splitter
use Rattle.stages.specs.Items.{StageItemValue}
use Rattle.stages.specs.Titles.{TitleValue}
use Rattle.stages.specs.contracts.item.StageItem as StageItem
use Rattle.stages.specs.contracts.stage.Stage as Stage
use Rattle.stages.specs.contracts.title.StageTitle as StageTitle
use Rattle.stages.proofs.item.StageItem.TheSendSync as of_item

-- a job's tree is recursive, so its parts are listed
pub job_send : IsSend JobData.the_row
job_send = search (sendable, crosses, send-Expr, of_root.the_send, of_items.the_send) depth 30

pub job_sync : IsSync JobData.the_row
job_sync = search (sendable, crosses, sync-Expr, of_root.the_sync, of_items.the_sync) depth 30

pub title_send : IsSend StageTitle.the_row
title_send = search (sendable, crosses, job_send, job_sync) depth 20

pub title_sync : IsSync StageTitle.the_row
title_sync = search (sendable, crosses, job_send, job_sync) depth 20

pub splitter_send : IsSend Splitter.the_row
splitter_send = search (sendable, crosses, title_send, of_ring.the_field_send, of_prep.the_send, of_table.the_send, of_table.the_sync) depth 20

pub stage_send : (R : RattleType) (g : RowGhosts R.Denot StageItemValue TitleValue) → IsSend R → IsSend (Stage.the_row R g)
stage_send R g s = search (sendable, crosses, splitter_send) depth 20

module _ (g : Ghosts StageItemValue TitleValue) (h : RuleGhosts (RowRule StageItemValue) (RowCopy StageItemValue TitleValue) (RowView StageItemValue TitleValue)) where
  pub reader_send : IsSend (RowReader.the_row StageItem.the_row StageTitle.the_row g h)
  reader_send = of_reader.the_send StageItem.the_row StageTitle.the_row g h of_item.the_send title_send of_item.the_sync title_sync

  pub writer_send : (S : RattleType) (a : AbsorbGhosts (RowCopy StageItemValue TitleValue) (Arc StageItemValue Global) S.Denot)
      → IsSend (RowWriter.the_row StageItem.the_row StageTitle.the_row S g a h)
  writer_send S a = of_writer.the_send StageItem.the_row StageTitle.the_row S g a h of_item.the_send title_send of_item.the_sync title_sync
