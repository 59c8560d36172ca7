-- Requests: the lines behind the header of `factor` and `expand`.
--     Request      a block, or a stream, up to a degree
--     precision_of r      that degree
--     precision_in ws words      the degree that the words behind the keyword give, or why they are refused
--     RequestSaid      a request, or why the line is refused
--     request_said streams ws line      what the line says, where variables have these weights; streams tells
--         whether they may be asked for
use Rattle.std.specs.Prelude.{ℕ, ◌&&◌, nat_lt, if◌then◌else◌, Bool, List, [], ◌∷◌, codes, Result, Ok, Err}
use Rattle.std.specs.Str.{bytes_eq}
use Rattle.parts.specs.Counting.{monomials_up_to}
use Rattle.script.specs.Numbers.{number_of, is_number}
use Rattle.script.specs.Words.{words}
use Rattle.script.specs.declared.refusal.Refusal.{Refusal}
use Rattle.script.specs.declared.refusal.Refusal.TheVariants as refusal
use Rattle.script.specs.declared.request.Request.{Request}
use Rattle.script.specs.declared.request.Request.TheVariants.{Show, Stream}

abbrev pub precision_of : Request → ℕ
precision_of (Show d) = d
precision_of (Stream d) = d

pub data RequestSaid : Type 0 where
  Asks : Request → RequestSaid
  Refused : Refusal → RequestSaid

-- the degree d of a request
abbrev pub degree_in : List ℕ → ℕ → Result ℕ Refusal
degree_in ws d =
    if nat_lt 4095 d then Err refusal.PrecisionTooLarge
    else (if nat_lt 32768 (monomials_up_to ws d) then Err (refusal.TooManyMonomials d (monomials_up_to ws d))
    else Ok d)

-- the words behind the keyword
abbrev pub precision_in : List ℕ → List (List ℕ) → Result ℕ Refusal
precision_in ws [] = Err refusal.BadRequest
precision_in ws (w ∷ []) = if is_number w then degree_in ws (number_of w) else Err refusal.BadRequest
precision_in ws (w ∷ v ∷ more) = Err refusal.BadRequest

abbrev pub asked : (ℕ → Request) → Result ℕ Refusal → RequestSaid
asked ask (Ok d) = Asks (ask d)
asked ask (Err f) = Refused f

abbrev pub words_said : Bool → List ℕ → List (List ℕ) → RequestSaid
words_said streams ws [] = Refused refusal.ExpectedRequest
words_said streams ws (w ∷ more) =
    if bytes_eq w (codes "show") then asked Show (precision_in ws more)
    else (if streams && bytes_eq w (codes "stream") then asked Stream (precision_in ws more)
    else Refused refusal.ExpectedRequest)

-- of a line that isn't skipped
abbrev pub request_said : Bool → List ℕ → List ℕ → RequestSaid
request_said streams ws line = words_said streams ws (words line)

-- what an answer says
abbrev pub said_by : Result Request Refusal → RequestSaid
said_by (Ok r) = Asks r
said_by (Err f) = Refused f
