-- The readers of the rows of stages, which keep their names and titles.
use Rattle.std.proofs.Common.{◌≡◌, ℕ, zero, suc, ◌<◌, ◌≤◌, List, [], ◌∷◌, length, map, get_or}
use Rattle.std.proofs.Common.{refl, sym, ◌∙◌, ap, subst, arith}
use Rattle.std.specs.Prelude.{slice_index}
use Rattle.std.specs.Arc.{arc_value}
use Rattle.std.specs.declared.sync.Arc.{Arc}
use Rattle.std.specs.declared.alloc.Global.{Global}
use Rattle.std.proofs.lemmas.List.{get_or-map, length-map}
use Rattle.std.proofs.lemmas.Simd.{map-map}
use Rattle.ps_model.specs.AcceptedJob.{IsAccepted}
use Rattle.ps_model.specs.declared.job.JobData.{JobData}
use Rattle.rows.specs.Fits.{values}
use Rattle.stages.specs.Lines.{AreKept, AreStagesOf, titles_of}
use Rattle.stages.specs.States.{StageState, KeepsStage}
use Rattle.stages.proofs.LineTitles.{stages_of, of_stages}
use Rattle.pipe.specs.Looks.{ReaderState}
use Rattle.pipe.specs.SharedLines.{AreReadersOf, AreWithin, name_of_reader}

kept_later : (x y : StageState) (xs ys : List StageState) → AreKept (x ∷ xs) (y ∷ ys) → AreKept xs ys
kept_later x y xs ys kept = record {
  count = let same = kept.count in omega arith;
  each = λ s d lt. kept.each (suc s) d (omega arith);
}

-- what each stage keeps the list keeps
kept_words : {V : Type 0} (f : StageState → V) → ((x y : StageState) → KeepsStage x y → f y ≡ f x)
    → (old new : List StageState) → AreKept old new → map f new ≡ map f old
kept_words f same [] [] kept = refl
kept_words f same [] (y ∷ ys) kept = absurd (let count = kept.count in omega arith)
kept_words f same (x ∷ xs) [] kept = absurd (let count = kept.count in omega arith)
kept_words f same (x ∷ xs) (y ∷ ys) kept = λ i. same x y (kept.each 0 x (omega arith)) i
    ∷ kept_words f same xs ys (kept_later x y xs ys kept) i

module _ (old new : List StageState) (kept : AreKept old new) where
  pub kept_titles : map (λ s. s.title) new ≡ map (λ s. s.title) old
  kept_titles = kept_words (λ s. s.title) (λ x y keeps. keeps.title) old new kept

  pub kept_names : map (λ s. s.name) new ≡ map (λ s. s.name) old
  kept_names = kept_words (λ s. s.name) (λ x y keeps. keeps.name) old new kept

  -- so the stages are still those of the job
  pub still_stages : (job here : JobData) → here ≡ job → map (λ s. s.title) old ≡ titles_of job
      → map (λ s. s.title) new ≡ titles_of here
  still_stages job here same are = kept_titles ∙ are ∙ ap titles_of (sym same)

  -- and the readers those of the rows
  pub still_readers : (readers : List ReaderState) → AreReadersOf old readers → AreReadersOf new readers
  still_readers readers are = record {
    same_titles = are.same_titles ∙ sym kept_titles;
    same_names = are.same_names ∙ sym kept_names;
  }

-- what is known of the name of the stage at a place is known of the reader there
pub name_there : (name : List ℕ) (states : List StageState) (readers : List ReaderState) (i : ℕ)
    → AreReadersOf states readers → i < length states → ((d : StageState) → name ≡ (get_or states i d).name)
    → (d : ReaderState) → name ≡ (get_or readers i d).name
name_there name [] readers i are lt here d = absurd (omega arith)
name_there name (x ∷ xs) readers i are lt here d =
    let n = ap length are.same_names in
    let a = length-map readers name_of_reader in
    let b = length-map (x ∷ xs) (λ s. s.name) in
    let low : i < length readers = omega arith in
    here x ∙ sym (get_or-map (λ s. s.name) (x ∷ xs) i x name lt)
    ∙ sym (ap (λ l. get_or l i name) are.same_names)
    ∙ get_or-map name_of_reader readers i d name low

-- stages with the titles of a job are its stages
module _ {T : Type 0} (see : T → StageState) (job : JobData) (xs : List T) where
  pub whole_line : IsAccepted job → map (λ s. s.title) (map see xs) ≡ titles_of job → AreStagesOf job (map see xs)
  whole_line ok are = stages_of see job xs ok (sym (map-map (λ s. s.title) see xs) ∙ are)

  pub titles_in : AreStagesOf job (map see xs) → map (λ s. s.title) (map see xs) ≡ titles_of job
  titles_in line = map-map (λ s. s.title) see xs ∙ of_stages see job xs line

-- where no more is shown of any stage than it has, no more is shown of those of a line
pub shown_within : {T : Type 0} (see : T → StageState) (shown : T → ℕ) → ((x : T) → shown x ≤ length (see x).items)
    → (xs : List T) → AreWithin (map shown xs) (map see xs)
shown_within see shown few [] s d lt = absurd (omega arith)
shown_within see shown few (x ∷ xs) zero d lt = few x
shown_within see shown few (x ∷ xs) (suc s) d lt = shown_within see shown few xs s d (omega arith)

pub shown_there : {T : Type 0} (see : T → StageState) (shown : T → ℕ) → ((x : T) → shown x ≤ length (see x).items)
    → (xs : List T) (s n : ℕ) → n ≡ slice_index (map shown xs) s → s < length (map see xs)
    → (d : StageState) → n ≤ length (get_or (map see xs) s d).items
shown_there see shown few xs s n same lt d =
    subst (λ k. k ≤ length (get_or (map see xs) s d).items) (sym same) (shown_within see shown few xs s d lt)

-- a row has no fewer items than are published
pub published_within : {A : Type 0} (published handed : ℕ) (items : List (Arc A Global)) → published ≤ handed
    → handed ≤ length items → published ≤ length (values items)
published_within published handed items ahead here = let same = length-map items arc_value in omega arith
