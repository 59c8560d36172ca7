-- The text of what a view has, by request.
--     view_answer names value r      the text that the request asks for
use Rattle.std.specs.Prelude.{ℕ, List}
use Rattle.printer.specs.Texts.{view_text}
use Rattle.printer.specs.View.{BlockValue}
use Rattle.session.specs.ViewTexts.{view_stream_text}
use Rattle.script.specs.declared.request.Request.{Request}
use Rattle.script.specs.declared.request.Request.TheVariants.{Show, Stream}

abbrev pub view_answer : List (List ℕ) → BlockValue → Request → List ℕ
view_answer names value (Show D) = view_text names value D
view_answer names value (Stream D) = view_stream_text names value D
