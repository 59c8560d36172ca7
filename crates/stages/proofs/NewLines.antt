-- How a line is made: row by row, each with the splitter of its stage.
use Rattle.std.proofs.Common.{◌≡◌, ℕ, zero, suc, ◌+◌, ◌<◌, List, [], ◌∷◌, ◌++◌, length, map, get_or, slice_get}
use Rattle.std.proofs.Common.{Some, None, refl, sym, ◌∙◌, ap, subst, arith, append_assoc, append-nil, length-append}
use Rattle.std.proofs.lemmas.List.{map-append}
use Rattle.ps_model.specs.AcceptedJob.{IsAccepted}
use Rattle.ps_model.specs.declared.job.JobData.{JobData}
use Rattle.parts.specs.declared.rings.Ring.{Ring}
use Rattle.stages.specs.Items.{StageItemValue}
use Rattle.stages.specs.Lines.{AreFresh, AreStagesOf, titles_of}
use Rattle.stages.specs.Splitters.{SplitterValue}
use Rattle.stages.specs.States.{StageState}
use Rattle.stages.specs.Titles.{TitleValue}
use Rattle.stages.proofs.LineTitles.{of_stages}

module _ {R : Type 0} (title : R → TitleValue) (capacity : R → ℕ) (name : R → List ℕ) (items : R → List StageItemValue)
    (job : JobData) (ring : Ring) where
  -- the state of a new stage
  abbrev pub fresh : ℕ → R → StageState
  fresh s row = record {
    title = record { job = job; stage = s };
    ring = ring;
    capacity = capacity row;
    name = name row;
    items = [];
    preparation = None;
  }

  abbrev pub fresh_from : ℕ → List R → List StageState
  fresh_from s [] = []
  fresh_from s (row ∷ rows) = fresh s row ∷ fresh_from (suc s) rows

  -- a new line
  fresh-at : (s : ℕ) (rows : List R) (k : ℕ) (d : StageState) (c : ℕ) (e : List ℕ) → k < length (fresh_from s rows)
      → get_or (fresh_from s rows) k d ≡ record {
        title = record { job = job; stage = s + k };
        ring = ring;
        capacity = get_or (map capacity rows) k c;
        name = get_or (map name rows) k e;
        items = [];
        preparation = None;
      }
  fresh-at s [] k d c e lt = absurd (omega arith)
  fresh-at s (row ∷ rows) zero d c e lt = ap (λ n. fresh n row) (let same : s ≡ s + 0 = omega arith in same)
  fresh-at s (row ∷ rows) (suc k) d c e lt = fresh-at (suc s) rows k d c e (omega arith)
      ∙ ap (λ n. record {
        title = record { job = job; stage = n };
        ring = ring;
        capacity = get_or (map capacity rows) k c;
        name = get_or (map name rows) k e;
        items = [];
        preparation = None;
      }) (let same : suc s + k ≡ s + suc k = omega arith in same)

  fresh-length : (s : ℕ) (rows : List R) → length (fresh_from s rows) ≡ length rows
  fresh-length s [] = refl
  fresh-length s (row ∷ rows) = ap suc (fresh-length (suc s) rows)

  pub are_fresh : (rows : List R) → length rows ≡ length job.roots
      → AreFresh job ring (map capacity rows) (map name rows) (fresh_from 0 rows)
  are_fresh rows count = record {
    count = fresh-length 0 rows ∙ count;
    each = λ s d lt. fresh-at 0 rows s d 0 [] lt ∙ ap (λ n. record {
      title = record { job = job; stage = n };
      ring = ring;
      capacity = get_or (map capacity rows) s 0;
      name = get_or (map name rows) s [];
      items = [];
      preparation = None;
    }) (let same : 0 + s ≡ s = omega arith in same);
  }

  -- the rows are empty, and of the stages from s on
  pub record AreRowsFrom (s : ℕ) (rows : List R) : Type 0 where
    pub empty : (k : ℕ) (row : R) → slice_get rows k ≡ Some row → items row ≡ []
    pub titles : (k : ℕ) (row : R) → slice_get rows k ≡ Some row → title row ≡ record { job = job; stage = s + k }

  pub record AreSplittersFrom (s : ℕ) (splitters : List SplitterValue) : Type 0 where
    pub each : (k : ℕ) (d : SplitterValue) → k < length splitters → get_or splitters k d
        ≡ record { ring = ring; title = record { job = job; stage = s + k }; preparation = None }

  module _ {T : Type 0} (see : T → StageState) where
    -- the stages that are made, and what is left
    pub record AreMade (all : List R) (stages : List T) (splitters : List SplitterValue) (rows : List R) : Type 0 where
      pub states : map see stages ++ fresh_from (length stages) rows ≡ fresh_from 0 all
      pub count : length splitters ≡ length rows
      pub rows_are : AreRowsFrom (length stages) rows
      pub splitters_are : AreSplittersFrom (length stages) splitters

    -- the next pair
    module _ (all : List R) (stages : List T) (left : List SplitterValue) (rows : List R) (splitter : SplitterValue)
        (splitters : List SplitterValue) (row : R) (later : List R) (made : AreMade all stages left rows)
        (next_splitter : left ≡ splitter ∷ splitters) (next_row : rows ≡ row ∷ later) where
      here : AreMade all stages (splitter ∷ splitters) (row ∷ later)
      here = subst (λ l. AreMade all stages l (row ∷ later)) next_splitter
          (subst (AreMade all stages left) next_row made)

      more_zero : (n : ℕ) → n + 0 ≡ n
      more_zero n = omega arith

      pub splitter_is : splitter
          ≡ record { ring = ring; title = record { job = job; stage = length stages }; preparation = None }
      splitter_is = here.splitters_are.each 0 splitter (omega arith)
          ∙ ap (λ n. record { ring = ring; title = record { job = job; stage = n }; preparation = None })
          (more_zero (length stages))

      pub row_empty : items row ≡ []
      row_empty = here.rows_are.empty 0 row refl

      pub row_title : title row ≡ splitter.title
      row_title = here.rows_are.titles 0 row refl
          ∙ ap (λ n. record { job = job; stage = n }) (more_zero (length stages))
          ∙ sym (ap (λ x. x.title) splitter_is)

      -- with its stage
      pub made_more : (stage : T) (pushed : List T) → pushed ≡ stages ++ stage ∷ []
          → see stage ≡ record {
            title = splitter.title;
            ring = splitter.ring;
            capacity = capacity row;
            name = name row;
            items = [];
            preparation = None;
          } → AreMade all pushed splitters later
      made_more stage pushed push is = subst (λ l. AreMade all l splitters later) (sym push) (record {
        states = subst (λ n. map see (stages ++ stage ∷ []) ++ fresh_from n later ≡ fresh_from 0 all) (sym longer)
            (ap (λ l. l ++ fresh_from (suc (length stages)) later) (map-append see stages (stage ∷ []))
            ∙ append_assoc (map see stages) (see stage ∷ []) (fresh_from (suc (length stages)) later)
            ∙ ap (λ x. map see stages ++ x ∷ fresh_from (suc (length stages)) later) (is ∙ ap (λ x. record {
              title = x.title;
              ring = x.ring;
              capacity = capacity row;
              name = name row;
              items = [];
              preparation = None;
            }) splitter_is)
            ∙ here.states);
        count = let same = here.count in omega arith;
        rows_are = subst (λ n. AreRowsFrom n later) (sym longer) (record {
          empty = λ k r at. here.rows_are.empty (suc k) r at;
          titles = λ k r at. here.rows_are.titles (suc k) r at
              ∙ ap (λ n. record { job = job; stage = n }) (shifted (length stages) k);
        });
        splitters_are = subst (λ n. AreSplittersFrom n splitters) (sym longer) (record {
          each = λ k d lt. here.splitters_are.each (suc k) d (omega arith)
              ∙ ap (λ n. record { ring = ring; title = record { job = job; stage = n }; preparation = None })
              (shifted (length stages) k);
        });
      })
        where
          longer : length (stages ++ stage ∷ []) ≡ suc (length stages)
          longer = omega (arith, length-append stages (stage ∷ []))

          shifted : (n k : ℕ) → n + suc k ≡ suc n + k
          shifted n k = omega arith

    -- where no row is left all are made
    pub made_all : (all : List R) (stages : List T) (splitters : List SplitterValue) (rows : List R) (n : ℕ)
        → AreMade all stages splitters rows → n ≡ length rows → n ≡ 0 → map see stages ≡ fresh_from 0 all
    made_all all stages splitters [] n made count none = sym (append-nil (map see stages)) ∙ made.states
    made_all all stages splitters (row ∷ rows) n made count none = absurd (omega arith)

    pub made_fresh : (all : List R) (stages : List T) (splitters : List SplitterValue) (rows : List R) (n : ℕ)
        → AreMade all stages splitters rows → n ≡ length rows → n ≡ 0 → length all ≡ length job.roots
        → AreFresh job ring (map capacity all) (map name all) (map see stages)
    made_fresh all stages splitters rows n made count none roots =
        subst (AreFresh job ring (map capacity all) (map name all))
        (sym (made_all all stages splitters rows n made count none))
        (are_fresh all roots)

-- its stages are those of the job
pub fresh_line : (job : JobData) (ring : Ring) (capacities : List ℕ) (names : List (List ℕ)) (states : List StageState)
    → IsAccepted job → AreFresh job ring capacities names states → AreStagesOf job states
fresh_line job ring capacities names states ok are = record {
  accepted = ok;
  count = are.count;
  title = λ s d lt. ap (λ x. x.title) (are.each s d lt);
}

pub fresh_stages : {T : Type 0} (see : T → StageState) (job : JobData) (ring : Ring) (capacities : List ℕ)
    (names : List (List ℕ)) (xs : List T) → IsAccepted job → AreFresh job ring capacities names (map see xs)
    → map (λ x. (see x).title) xs ≡ titles_of job
fresh_stages see job ring capacities names xs ok are =
    of_stages see job xs (fresh_line job ring capacities names (map see xs) ok are)
