-- Lists of names, in order of mention.
--     AreVariables names      names, no two of them equal, eight at most
--     index_of names name      the place of the first that is equal, or None where none is
--     as_names names      the list itself where it is one of names, no two equal; elsewhere no names
use Rattle.std.specs.Prelude.{◌≡◌, ℕ, ◌≤◌, ◌&&◌, ◌==◌, if◌then◌else◌, Bool, true, false, List, [], length, Option}
use Rattle.std.specs.List.{list_all, position}
use Rattle.std.specs.Set.{distinct_count}
use Rattle.std.specs.Str.{bytes_eq}
use Rattle.std.proofs.Common.{refl}
use Rattle.std.proofs.lemmas.Bool.{and_parts, eqb-true}
use Rattle.std.proofs.lemmas.Cmp.{nat_list_eq_equiv}
use Rattle.std.proofs.lemmas.Map.Made.{IsDistinct-from_count}
use Rattle.ps_model.specs.Names.{is_name, AreNames}

pub record AreVariables (names : List (List ℕ)) : Type 0 where
  pub valid : AreNames names
  pub few : length names ≤ 8

abbrev pub index_of : List (List ℕ) → List ℕ → Option ℕ
index_of names name = position (bytes_eq name) names

abbrev pub are_names : List (List ℕ) → Bool
are_names names = list_all is_name names && (distinct_count bytes_eq names == length names)

abbrev pub as_names : List (List ℕ) → List (List ℕ)
as_names names = if are_names names then names else []

-- what passes the test is a list of names
pub AreNames-from_test : (names : List (List ℕ)) → are_names names ≡ true → AreNames names
AreNames-from_test names h =
    let both = and_parts _ _ h in
    record { each = both.0; distinct = IsDistinct-from_count nat_list_eq_equiv names (eqb-true _ _ both.1) }

-- so it always is one
pub AreNames-as_names : (names : List (List ℕ)) → AreNames (as_names names)
AreNames-as_names names = by (are_names names) refl
  where
    by : (b : Bool) → are_names names ≡ b → AreNames (if b then names else [])
    by true h = AreNames-from_test names h
    by false h = AreNames-from_test [] refl
