-- The error that tells a fault.
--     error_of f      the error with the fault's place
use Rattle.ps_model.specs.FirstFault.{Fault}
use Rattle.ps_model.specs.FirstFault as fault
use Rattle.expr_reader.specs.declared.read_error.ReadError.{ReadError}
use Rattle.expr_reader.specs.declared.read_error.ReadError.TheVariants as err

abbrev pub error_of : Fault → ReadError
error_of (fault.BadCharacter p) = err.BadCharacter p
error_of (fault.Expected p) = err.Expected p
error_of (fault.UnknownName p) = err.UnknownName p
error_of (fault.NumberTooLarge p) = err.NumberTooLarge p
error_of (fault.ExponentTooLarge p) = err.ExponentTooLarge p
error_of (fault.TooDeep p) = err.TooDeep p
