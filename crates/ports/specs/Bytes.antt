-- Bytes that a source has left and that a sink has written. None: it doesn't tell them.
--     least_of a b      the least of the two and 4,294,967,295
--     GivesCount answer room      a pull gives at least one byte and at most as many as
--         there is room for
--     TakesCount answer size      a push takes at least one byte and at most as many as
--         the piece has
--     GivesFront bytes room answer      all bytes left that fit, and the end where none is left
--     TakesFront piece answer      the whole piece, or its first 4,294,967,295 bytes
--     MovesBytes left left' into answer      what a pull did: Bytes n puts the first n bytes left
--         into the first n places of `into` and takes them away; End and Failed take nothing, and
--         at End nothing is left
--     AddsBytes written written' piece answer      what a push did: Took n adds the first n bytes
--         of the piece, Failed none
--     TakesBytes left left' taken      the bytes left began with `taken`, and the others are left
--     AllTaken left      no byte is left, where that is told
--     WritesAll written written' text      the text was added to what was written
--     WritesPart written written' text      a part of the text's beginning was added, and
--         not the whole text
use Rattle.std.specs.Prelude.{◌≡◌, ℕ, ◌<◌, ◌≤◌, List, [], ◌++◌, length, min, take, drop, Option, Some, None}
use Rattle.ports.specs.declared.source.Pulled.{Pulled}
use Rattle.ports.specs.declared.source.Pulled.TheVariants as pulled
use Rattle.ports.specs.declared.sink.Pushed.{Pushed}
use Rattle.ports.specs.declared.sink.Pushed.TheVariants as pushed

abbrev pub least_of : ℕ → ℕ → ℕ
least_of a b = min (min a b) 4294967295

abbrev pub GivesCount : Pulled → ℕ → Type 0
GivesCount (pulled.Bytes n) room = (0 < n) × (n ≤ room)
GivesCount pulled.End room = Unit {0}
GivesCount pulled.Failed room = Unit {0}

abbrev pub TakesCount : Pushed → ℕ → Type 0
TakesCount (pushed.Took n) size = (0 < n) × (n ≤ size)
TakesCount pushed.Failed size = Unit {0}

abbrev pub GivesFront : List ℕ → ℕ → Pulled → Type 0
GivesFront bytes room (pulled.Bytes n) = n ≡ least_of (length bytes) room
GivesFront bytes room pulled.End = bytes ≡ []
GivesFront bytes room pulled.Failed = ⊥

abbrev pub TakesFront : List ℕ → Pushed → Type 0
TakesFront piece (pushed.Took n) = n ≡ min (length piece) 4294967295
TakesFront piece pushed.Failed = ⊥

abbrev pub MovesBytes : Option (List ℕ) → Option (List ℕ) → List ℕ → Pulled → Type 0
MovesBytes None left' into answer = left' ≡ None
MovesBytes (Some bytes) left' into (pulled.Bytes n) =
    (n ≤ length bytes) × (left' ≡ Some (drop n bytes)) × (take n into ≡ take n bytes)
MovesBytes (Some bytes) left' into pulled.End = (left' ≡ Some bytes) × (bytes ≡ [])
MovesBytes (Some bytes) left' into pulled.Failed = left' ≡ Some bytes

abbrev pub AddsBytes : Option (List ℕ) → Option (List ℕ) → List ℕ → Pushed → Type 0
AddsBytes None written' piece answer = written' ≡ None
AddsBytes (Some bytes) written' piece (pushed.Took n) = written' ≡ Some (bytes ++ take n piece)
AddsBytes (Some bytes) written' piece pushed.Failed = written' ≡ Some bytes

abbrev pub TakesBytes : Option (List ℕ) → Option (List ℕ) → List ℕ → Type 0
TakesBytes None left' taken = left' ≡ None
TakesBytes (Some bytes) left' taken = (rest : List ℕ) × (left' ≡ Some rest) × (bytes ≡ taken ++ rest)

abbrev pub AllTaken : Option (List ℕ) → Type 0
AllTaken None = Unit {0}
AllTaken (Some bytes) = bytes ≡ []

abbrev pub WritesAll : Option (List ℕ) → Option (List ℕ) → List ℕ → Type 0
WritesAll None written' text = written' ≡ None
WritesAll (Some bytes) written' text = written' ≡ Some (bytes ++ text)

abbrev pub WritesPart : Option (List ℕ) → Option (List ℕ) → List ℕ → Type 0
WritesPart None written' text = written' ≡ None
WritesPart (Some bytes) written' text =
    (n : ℕ) × (n < length text) × (written' ≡ Some (bytes ++ take n text))
