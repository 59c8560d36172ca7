-- The statuses of the program.
--     status_of e      that of a run that stops
--     status_by verdict      that of a block that was judged
--     stop_of fault      why a run stops whose stream wasn't written to its end
use Rattle.std.specs.Prelude.{ℕ}
use Rattle.session.specs.declared.stream_fault.StreamFault.{StreamFault}
use Rattle.session.specs.declared.stream_fault.StreamFault.TheVariants as stream
use Rattle.commands.specs.declared.stop.Stop.{Stop}
use Rattle.commands.specs.declared.stop.Stop.TheVariants.{Refused, ReadFault, WriteFault, OutOfMemory}
use Rattle.commands.specs.declared.verdict.Verdict.{Verdict}
use Rattle.commands.specs.declared.verdict.Verdict.TheVariants.{Right, Wrong}

abbrev pub status_of : Stop → ℕ
status_of Refused = 1
status_of ReadFault = 3
status_of WriteFault = 4
status_of OutOfMemory = 5

abbrev pub status_by : Verdict → ℕ
status_by Right = 0
status_by Wrong = 6

abbrev pub stop_of : StreamFault → Stop
stop_of stream.Write = WriteFault
stop_of stream.OutOfMemory = OutOfMemory
