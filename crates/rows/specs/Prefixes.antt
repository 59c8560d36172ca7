-- Lists that begin with another.
--     IsPrefix xs ys      ys begins with xs; the empty list begins each
use Rattle.std.specs.Prelude.{◌≡◌, ◌++◌, List}

abbrev pub IsPrefix : {T : Type 0} → List T → List T → Type 0
IsPrefix xs ys = (rest : List _) × (ys ≡ xs ++ rest)
