-- How a fault of a name is told.
--     name_error_text e      the text of an error
use Rattle.std.specs.Prelude.{ℕ, List, ◌++◌, codes}
use Rattle.std.specs.Fmt.{decimal}
use Rattle.expr_reader.specs.declared.name_error.NameError.{NameError}
use Rattle.expr_reader.specs.declared.name_error.NameError.TheVariants.{TooMany, BadName, Repeats, OutOfMemory}

abbrev pub name_error_text : NameError → List ℕ
name_error_text TooMany = codes "too many names"
name_error_text BadName = codes "bad name"
name_error_text (Repeats first) = codes "repeats the name at position " ++ decimal first
name_error_text OutOfMemory = codes "out of memory"
