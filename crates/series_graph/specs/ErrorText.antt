-- What a GraphError says.
--     error_text e      its text
use Rattle.std.specs.Prelude.{ℕ, List, ◌++◌, codes, decimal}
use Rattle.series_graph.specs.declared.error.GraphError.{GraphError}
use Rattle.series_graph.specs.declared.error.GraphError.TheVariants.{Full, NotAUnit, OutOfMemory}

abbrev pub error_text : GraphError → List ℕ
error_text Full = codes "graph is full"
error_text (NotAUnit value gcd) = decimal value ++ (codes " has no inverse, gcd " ++ decimal gcd)
error_text OutOfMemory = codes "out of memory"
