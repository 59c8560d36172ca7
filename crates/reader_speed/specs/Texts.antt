-- The texts that are read.
--     filled first piece most      the first text, and behind it as many copies of the piece as `most` bytes let there be
--     deep      x in 64 parentheses
--     made kind most      the text of a kind
use Rattle.std.specs.Prelude.{ℕ, ◌-◌, ◌/◌, List, ◌++◌, length, codes}
use Rattle.std.specs.List.{repeat}
use Rattle.reader_speed.specs.declared.texts.Kind.{Kind}
use Rattle.reader_speed.specs.declared.texts.Kind.TheVariants.{Sum, Nested, Number}

abbrev pub filled : List ℕ → List ℕ → ℕ → List ℕ
filled first piece most = first ++ repeat ((most - length first) / length piece) piece

abbrev pub deep : List ℕ
deep = (repeat 64 (codes "(") ++ codes "x") ++ repeat 64 (codes ")")

abbrev pub made : Kind → ℕ → List ℕ
made Sum most = filled (codes "x") (codes " + 2*x") most
made Nested most = filled deep (codes "+" ++ deep) most
made Number most = filled (codes "") (codes "7") most
