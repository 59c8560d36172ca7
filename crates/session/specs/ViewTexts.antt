-- The text of a stream of what a view has.
--     texts_up_to text r      text 0 ++ .. ++ text r
--     view_stream_text names value D      the stream up to degree D
use Rattle.std.specs.Prelude.{ℕ, zero, suc, List, ◌++◌, codes, decimal}
use Rattle.ps_model.specs.BlockText.{newline}
use Rattle.printer.specs.Texts.{view_degree_text}
use Rattle.printer.specs.View.{BlockValue}

abbrev pub texts_up_to : (ℕ → List ℕ) → ℕ → List ℕ
texts_up_to text zero = text 0
texts_up_to text (suc r) = texts_up_to text r ++ text (suc r)

abbrev pub view_stream_text : List (List ℕ) → BlockValue → ℕ → List ℕ
view_stream_text names value D =
    codes "stream " ++ decimal D ++ newline ++ texts_up_to (view_degree_text names value) D ++ codes "end" ++ newline
