-- Errors of inputs without roots.
--     error_of f      the error that tells the fault f, and a division's number as told_count says
--     error_text e      what is printed for e; a number is written in decimal
use Rattle.std.specs.Prelude.{ℕ, List, ◌++◌, codes, decimal}
use Rattle.ps_model.specs.Input.{InputFault, told_count}
use Rattle.ps_model.specs.Input as fault
use Rattle.intake.specs.declared.free_error.FreeError.{FreeError}
use Rattle.intake.specs.declared.free_error.FreeError.TheVariants.{DividesByY, TooManyNodes, DegreeTooLarge, NotAUnit}
use Rattle.intake.specs.declared.free_error.FreeError.TheVariants.{OutOfMemory}

abbrev pub error_of : InputFault → FreeError
error_of (fault.DividesByY division) = DividesByY (told_count division)
error_of (fault.TooManyNodes count) = TooManyNodes count
error_of (fault.DegreeTooLarge degree) = DegreeTooLarge degree
error_of (fault.NotAUnit division value gcd) = NotAUnit (told_count division) value gcd

abbrev pub error_text : FreeError → List ℕ
error_text (DividesByY division) = codes "division " ++ decimal division ++ codes " by Y"
error_text (TooManyNodes count) = decimal count ++ codes " nodes, limit 4096"
error_text (DegreeTooLarge degree) = codes "degree " ++ decimal degree ++ codes ", limit 32"
error_text (NotAUnit division value gcd) =
    codes "division " ++ decimal division ++ codes ": " ++ decimal value ++ codes " has no inverse, gcd " ++ decimal gcd
error_text OutOfMemory = codes "out of memory"
