-- What is printed for a fault.
use Rattle.std.specs.Prelude.{ℕ, List, codes}
use Rattle.demo.specs.declared.fault.DemoFault.{DemoFault}
use Rattle.demo.specs.declared.fault.DemoFault.TheVariants.{Write, OutOfMemory}

abbrev pub fault_text : DemoFault → List ℕ
fault_text Write = codes "write failed"
fault_text OutOfMemory = codes "out of memory"
