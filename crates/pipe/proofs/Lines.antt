-- The stages of a line, taken out of it, extended, and put back.
use Rattle.std.proofs.Common.{◌≡◌, ℕ, zero, suc, ◌^◌, ◌<◌, ◌≤◌, List, [], ◌∷◌, length, map, take, get_or, sym, ◌∙◌, ap, subst, arith, Result}
use Rattle.std.specs.List.{All}
use Rattle.std.specs.Result.{OnOk}
use Rattle.std.proofs.lemmas.Result.{on_ok_weaker}
use Rattle.std.proofs.lemmas.Simd.{map-map}
use Rattle.ps_model.specs.declared.job.JobData.{JobData}
use Rattle.parts.specs.JobRows.{IsPermitted}
use Rattle.stages.specs.Lines.{titles_of, AreStagesOf, AreKept, AreFalling, HaveRoom}
use Rattle.stages.specs.States.{StageState}
use Rattle.stages.proofs.LineTitles.{of_stages}
use Rattle.pipe.specs.Extends.{CanExtend}
use Rattle.pipe.specs.Looks.{ReaderState, title_of_reader}
use Rattle.pipe.specs.Works.{WorkState, title_of_work, prepared_in}

-- stages that kept what they had are those of the job
pub line_still : (job : JobData) (old new : List StageState) → AreStagesOf job old → AreKept old new → AreStagesOf job new
line_still job old new line kept = record {
  accepted = line.accepted;
  count = kept.count ∙ line.count;
  title = λ s d lt. let low : s < length old = (let same = kept.count in omega arith) in
      (kept.each s d low).title ∙ line.title s d low;
}

module _ {T : Type 0} (see : T → WorkState) where
  -- what holds of each state
  all_of : (P : StageState → Type 0) (xs : List T)
      → ((s : ℕ) (d : StageState) → s < length (map (λ x. (see x).stage) xs) → P (get_or (map (λ x. (see x).stage) xs) s d))
      → All (λ w. P w.stage) (map see xs)
  all_of P [] h i d lt = absurd (omega arith)
  all_of P (x ∷ xs) h zero d lt = h 0 (see x).stage (omega arith)
  all_of P (x ∷ xs) h (suc i) d lt = all_of P xs (λ s e low. h (suc s) e (omega arith)) i d (omega arith)

  each_of : (P : WorkState → Type 0) (xs : List T) → ((x : T) → P (see x)) → All P (map see xs)
  each_of P [] h i d lt = absurd (omega arith)
  each_of P (x ∷ xs) h zero d lt = h x
  each_of P (x ∷ xs) h (suc i) d lt = each_of P xs h i d (omega arith)

  pub can_extend : (job : JobData) (to : ℕ) (xs : List T) (rs : List ReaderState) (t : ℕ)
      → AreStagesOf job (map (λ x. (see x).stage) xs) → HaveRoom to (map (λ x. (see x).stage) xs)
      → IsPermitted (take job.n job.weights) to
      → map title_of_reader rs ≡ map (λ (s : StageState). s.title) (map (λ x. (see x).stage) xs)
      → ((x : T) → prepared_in (see x) ≤ 4097) → t ≤ 2 ^ 61 → CanExtend job to (map see xs) rs t
  can_extend job to xs rs t line room permitted readers each low = record {
    titles = map-map title_of_work see xs ∙ titles;
    inner = readers ∙ map-map (λ (s : StageState). s.title) (λ x. (see x).stage) xs ∙ titles;
    room = all_of (λ s. to < s.capacity) xs room;
    accepted = line.accepted;
    permitted = permitted;
    small = each_of (λ w. prepared_in w ≤ 4097) xs each;
    tally = low;
  }
    where
      titles : map (λ x. (see x).stage.title) xs ≡ titles_of job
      titles = of_stages (λ x. (see x).stage) job xs line

-- what is seen of the stages that were taken out
pub line_taken : {T : Type 0} (state : T → StageState) (job : JobData) (xs ys : List T) → ys ≡ xs
    → AreStagesOf job (map state xs) → AreStagesOf job (map state ys)
line_taken state job xs ys same line = subst (λ l. AreStagesOf job (map state l)) (sym same) line

pub falling_on : {T R E : Type 0} (state : T → StageState) (result : Result R E) (xs ys us vs : List T) → ys ≡ xs → vs ≡ us
    → OnOk result (AreFalling (map state ys) → AreFalling (map state us))
    → OnOk result (AreFalling (map state xs) → AreFalling (map state vs))
falling_on state result xs ys us vs same same_too h = on_ok_weaker result
    (λ falls first. subst (λ l. AreFalling (map state l)) (sym same_too)
    (falls (subst (λ l. AreFalling (map state l)) (sym same) first))) h

-- the titles of those that are put back
pub given_titles : {T : Type 0} (state : T → StageState) (job here : JobData) (xs ys zs : List T) → zs ≡ ys → here ≡ job
    → AreStagesOf job (map state xs) → AreKept (map state xs) (map state ys)
    → map (λ x. (state x).title) zs ≡ titles_of here
given_titles state job here xs ys zs same is line kept =
    ap (map (λ x. (state x).title)) same ∙ of_stages state job ys (line_still job (map state xs) (map state ys) line kept)
    ∙ ap titles_of (sym is)
