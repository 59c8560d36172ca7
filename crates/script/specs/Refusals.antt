-- Why a line, or the end, of a script is refused, and how it is told.
--     keyword_text k      the word that begins a line of a header
--     refusal_text r      what is told
--     Tells e fault      what the code answers is this fault, or want of memory, of which nothing is said
--     line_refused n r      the line that refuses the script at its line n
--     end_refused r      the line that refuses it at its end
use Rattle.std.specs.Prelude.{ℕ, ◌≡◌, List, ◌++◌, codes, decimal, Option, Some}
use Rattle.expr_reader.specs.declared.read_error.ReadError.{ReadError}
use Rattle.expr_reader.specs.declared.read_error.ReadError.TheVariants as read
use Rattle.intake.specs.JobErrors.{job_error_text}
use Rattle.script.specs.declared.refusal.Keyword.{Keyword}
use Rattle.script.specs.declared.refusal.Keyword.TheVariants.{Mod, Vars, Poly, Roots, Block}
use Rattle.script.specs.declared.refusal.Refusal.{Refusal}
use Rattle.script.specs.declared.refusal.Refusal.TheVariants as refusal
use Rattle.script.specs.declared.refusal.Refused.{Refused}
use Rattle.script.specs.declared.refusal.Refused.TheVariants.{Line, OutOfMemory}

abbrev pub keyword_text : Keyword → List ℕ
keyword_text Mod = codes "mod"
keyword_text Vars = codes "vars"
keyword_text Poly = codes "poly"
keyword_text Roots = codes "roots"
keyword_text Block = codes "block"

abbrev pub read_error_text : ReadError → List ℕ
read_error_text (read.BadCharacter place) = codes "bad character at " ++ decimal place
read_error_text (read.Expected place) = codes "unexpected token at " ++ decimal place
read_error_text (read.UnknownName place) = codes "unknown name at " ++ decimal place
read_error_text (read.NumberTooLarge place) = codes "number too large at " ++ decimal place
read_error_text (read.ExponentTooLarge place) = codes "exponent too large at " ++ decimal place
read_error_text (read.TooDeep place) = codes "too deep at " ++ decimal place
read_error_text read.OutOfMemory = codes "out of memory"

abbrev pub refusal_text : Refusal → List ℕ
refusal_text refusal.InputTooLong = codes "input too long"
refusal_text refusal.LineTooLong = codes "line too long"
refusal_text (refusal.Expected k) = codes "expected " ++ keyword_text k
refusal_text refusal.ExpectedRequest = codes "expected a request"
refusal_text refusal.BadModulus = codes "bad mod"
refusal_text refusal.ModulusOutOfRange = codes "modulus out of range"
refusal_text refusal.NoNames = codes "no names"
refusal_text refusal.TooManyNames = codes "too many names"
refusal_text (refusal.BadName k) = codes "bad name " ++ decimal k
refusal_text (refusal.NameRepeats k) = codes "name " ++ decimal k ++ codes " repeats"
refusal_text (refusal.BadWeight k) = codes "bad weight " ++ decimal k
refusal_text (refusal.BadPolynomial e) = codes "poly: " ++ read_error_text e
refusal_text refusal.NoRoots = codes "no roots"
refusal_text (refusal.BadRoot k) = codes "bad root " ++ decimal k
refusal_text (refusal.BadJob e) = job_error_text e
refusal_text refusal.BadRequest = codes "bad request"
refusal_text refusal.PrecisionTooLarge = codes "precision above 4095"
refusal_text (refusal.TooManyMonomials precision count) =
    codes "precision " ++ decimal precision ++ codes " needs " ++ decimal count ++ codes " monomials, limit 32768"
refusal_text refusal.BadBlock = codes "bad block"
refusal_text refusal.NotABlock = codes "not a block"

abbrev pub Tells : Refused → Option Refusal → Type 0
Tells (Line f) fault = fault ≡ Some f
Tells OutOfMemory fault = Unit {0}

abbrev pub line_refused : ℕ → Refusal → List ℕ
line_refused n r = codes "refused line " ++ decimal n ++ codes ": " ++ refusal_text r ++ codes "\n"

abbrev pub end_refused : Refusal → List ℕ
end_refused r = codes "refused end: " ++ refusal_text r ++ codes "\n"
