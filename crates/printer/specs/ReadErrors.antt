-- Errors of a block that is read.
--     error_text e      what is printed for e; a number is written in decimal
use Rattle.std.specs.Prelude.{ℕ, List, ◌++◌, codes, decimal}
use Rattle.printer.specs.declared.block_error.BlockError.{BlockError}
use Rattle.printer.specs.declared.block_error.BlockError.TheVariants.{NotPermitted, NotABlock, OutOfMemory}

abbrev pub error_text : BlockError → List ℕ
error_text (NotPermitted precision) = codes "precision " ++ decimal precision ++ codes " not permitted"
error_text (NotABlock line) = codes "line " ++ decimal line ++ codes ": not that of a block"
error_text OutOfMemory = codes "out of memory"
