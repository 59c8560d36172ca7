-- A line over shared rows may go to another thread.
use denote.RattleType.{RattleType}
use denote.Param.Send.{IsSend, sendable}
use Rattle.std.proofs.Crossing.{crosses}
use Rattle.rows.specs.declared.item.RowOut.{Ghosts as RowGhosts}
use Rattle.stages.specs.Items.{StageItemValue}
use Rattle.stages.specs.Titles.{TitleValue}
use Rattle.stages.specs.contracts.line.Line as Line
use Rattle.pipe.proofs.Sent.{stage_send, job_send, job_sync}

pub line_send : (R : RattleType) (g : RowGhosts R.Denot StageItemValue TitleValue) → IsSend R
    → IsSend (Line.the_row R g)
line_send R g s = search (sendable, crosses, stage_send, job_send, job_sync) depth 20
