-- What a header answers of a line.
--     said_of said      what is said by an answer
--     Refuses h line e      the line is refused so, or memory could not be had, of which nothing is said
--     SaysBehind h text s, RefusesBehind h text e      the same of a text behind the word that is due
--     CanBeFactored said      a job that is answered is one that can be factored, over its names
use Rattle.std.specs.Prelude.{◌≡◌, ℕ, List, length}
use Rattle.ps_model.specs.AcceptedJob.{IsAccepted}
use Rattle.ps_model.specs.Tokens.{without_blanks}
use Rattle.script.specs.Header.{Header, Said, HeaderSays, ContentSays}
use Rattle.script.specs.Header as header
use Rattle.script.specs.declared.header.Said as answers
use Rattle.script.specs.declared.header.Said.TheVariants.{Longer, Makes}
use Rattle.script.specs.declared.refusal.Refused.{Refused}
use Rattle.script.specs.declared.refusal.Refused.TheVariants.{Line, OutOfMemory}
use Rattle.script.specs.Words.{words, without_first_blanks}

abbrev pub said_of : answers.Said → Said
said_of (Longer h) = header.Longer h
said_of (Makes job) = header.Makes job.names job.job

abbrev pub Refuses : Header → List ℕ → Refused → Type 0
Refuses h line (Line f) = HeaderSays h line (header.Refused f)
Refuses h line OutOfMemory = Unit {0}

abbrev pub SaysBehind : Header → List ℕ → Said → Type 0
SaysBehind h text s = ContentSays h (words text) (without_blanks (without_first_blanks text)) s

abbrev pub RefusesBehind : Header → List ℕ → Refused → Type 0
RefusesBehind h text (Line f) = SaysBehind h text (header.Refused f)
RefusesBehind h text OutOfMemory = Unit {0}

abbrev pub CanBeFactored : answers.Said → Type 0
CanBeFactored (Longer h) = Unit {0}
CanBeFactored (Makes job) = IsAccepted job.job × (length job.names ≡ job.job.n)
