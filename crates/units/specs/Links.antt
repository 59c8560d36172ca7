-- Which of a series' parts have a term.
--     IsBelow ps s end      the parts at the places from `end` to s - 1 are zero, and the one before them has a
--         term: of those below place s it is the last one that has; `end` is 0 where none has
--     AreLinks ps links      the number at place s, as far as they go, is this `end`; so of no number
--     nonzero_count ps      how many parts have a term
--     AreKnown ps links nonzero      a link for each part, and the number of those that have a term
use Rattle.std.specs.Prelude.{◌≡◌, ℕ, suc, ◌<◌, ◌≤◌, nat_lt, List, length, slice_index_or}
use Rattle.std.specs.Coded.{Coded, coded_list}
use Rattle.std.specs.FinMap.{empty, len}
use Rattle.std.specs.List.{count_by}
use Rattle.parts.specs.PartValue.{PartValue, part_code}
use Rattle.parts.specs.RowsOfParts.{part_in}

abbrev pub parts_code : Coded (List PartValue)
parts_code = coded_list part_code

-- where the zero parts below place s begin
pub record IsBelow (ps : List PartValue) (s end : ℕ) : Type 0 where
  pub within : end ≤ s
  pub zeros : (t : ℕ) → end ≤ t → t < s → (part_in ps t).map ≡ empty
  pub last : (t : ℕ) → end ≡ suc t → (part_in ps t).map ≡ empty → ⊥

-- this of each place
abbrev pub AreLinks : List PartValue → List ℕ → Type 0
AreLinks ps links = (s : ℕ) → s < length links → IsBelow ps s (slice_index_or links s 0)

-- how many parts have a term
abbrev pub nonzero_count : List PartValue → ℕ
nonzero_count ps = count_by (λ p. nat_lt 0 (len p.map)) ps

-- what is kept beside the parts
pub record AreKnown (ps : List PartValue) (links : List ℕ) (nonzero : ℕ) : Type 0 where
  pub count : length links ≡ length ps
  pub links_are : AreLinks ps links
  pub nonzero_is : nonzero ≡ nonzero_count ps
