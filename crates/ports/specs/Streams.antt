-- What is known of a reader or a writer of the standard library behind a source or a sink. None:
-- it doesn't tell its bytes.
--     Reader      the bytes that the reader has left, and the count of faults
--     Writer      the bytes that the writer holds, and the count of faults
--     ReadsBytes left left' into answer      what a pull did: Bytes n took the first n bytes left
--         and put them at the front of `into`; End took nothing, and nothing is left; Failed took
--         nothing
--     WritesBytes held held' piece answer      what a push did: Took n added the first n bytes of
--         the piece, Failed none
use Rattle.std.specs.Prelude.{ℕ, List, [], take, Option}
use Rattle.std.specs.Io.KnownBytes.{Appends, Consumes, IsAtEnd, Keeps}
use Rattle.ports.specs.declared.source.Pulled.{Pulled}
use Rattle.ports.specs.declared.source.Pulled.TheVariants as pulled
use Rattle.ports.specs.declared.sink.Pushed.{Pushed}
use Rattle.ports.specs.declared.sink.Pushed.TheVariants as pushed

pub record Reader : Type 0 where
  pub left : Option (List ℕ)
  pub faults : ℕ

pub record Writer : Type 0 where
  pub held : Option (List ℕ)
  pub faults : ℕ

abbrev pub ReadsBytes : Option (List ℕ) → Option (List ℕ) → List ℕ → Pulled → Type 0
ReadsBytes left left' into (pulled.Bytes n) = Consumes left left' (take n into)
ReadsBytes left left' into pulled.End = Consumes left left' [] × IsAtEnd left'
ReadsBytes left left' into pulled.Failed = Keeps left left'

abbrev pub WritesBytes : Option (List ℕ) → Option (List ℕ) → List ℕ → Pushed → Type 0
WritesBytes held held' piece (pushed.Took n) = Appends held held' (take n piece)
WritesBytes held held' piece pushed.Failed = Keeps held held'
