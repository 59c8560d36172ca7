-- The texts of errors.
--     error_text e      what is printed for e; a number is written in decimal
use Rattle.std.specs.Prelude.{ℕ, List, ◌++◌, codes, decimal}
use Rattle.prepare.specs.declared.error.PrepError.{PrepError}
use Rattle.prepare.specs.declared.error.PrepError.TheVariants.{NotPrepared, NotAUnit, OutOfMemory}

abbrev pub error_text : PrepError → List ℕ
error_text (NotPrepared power) = codes "not zero at Y^" ++ decimal power
error_text (NotAUnit gcd) = codes "not a unit: common divisor " ++ decimal gcd
error_text OutOfMemory = codes "out of memory"
