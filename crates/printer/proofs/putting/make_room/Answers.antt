use Rattle.std.proofs.Common.{◌≡◌, ◌≤◌, ℕ, List, [], length, ap, arith}
use Rattle.std.specs.Prelude.{Result, Ok, Err, OnOk}

anyway : {A E P : Type 0} (r : Result A E) → P → OnOk r P
anyway (Ok x) p = p
anyway (Err e) p = tt

none_held : (l : List ℕ) → l ≡ [] → length l ≤ 624
none_held l is = omega (arith, ap length is)
