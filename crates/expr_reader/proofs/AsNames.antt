-- A list of names is itself what counts as one.
use Rattle.std.proofs.Common.{◌≡◌, ◌==◌, ℕ, if◌then◌else◌, List, [], length, ap}
use Rattle.std.specs.List.{list_all}
use Rattle.std.specs.Set.{distinct_count}
use Rattle.std.specs.Str.{bytes_eq}
use Rattle.std.proofs.lemmas.Bool.{and_from, eq-eqb}
use Rattle.std.proofs.lemmas.Cmp.{nat_list_eq_equiv}
use Rattle.std.proofs.lemmas.Map.Made.{distinct_count-from_IsDistinct}
use Rattle.ps_model.specs.Names.{is_name, AreNames}
use Rattle.expr_reader.specs.NameLists.{as_names}

pub names_as_names : (names : List (List ℕ)) → AreNames names → as_names names ≡ names
names_as_names names are = ap (λ b. if b then names else []) (and_from (list_all is_name names)
    (distinct_count bytes_eq names == length names) are.each (eq-eqb (distinct_count bytes_eq names) (length names)
    (distinct_count-from_IsDistinct nat_list_eq_equiv names are.distinct)))
