-- A core: a new line that ran a schedule.
use Rattle.std.proofs.Common.{◌≡◌, ℕ, zero, suc, ◌<◌, List, [], ◌∷◌, length, map, get_or, replicate, refl, sym}
use Rattle.std.proofs.Common.{◌∙◌, ap, subst, arith}
use Rattle.std.specs.Vec.{with_items}
use Rattle.std.specs.declared.alloc.Global.{Global}
use Rattle.std.specs.declared.vec.Vec.{Vec}
use Rattle.std.proofs.lemmas.List.{length-map}
use Rattle.ps_model.specs.AcceptedJob.{IsAccepted}
use Rattle.ps_model.specs.declared.job.JobData.{JobData}
use Rattle.parts.specs.declared.rings.Ring.{Ring}
use Rattle.stages.specs.Lines.{AreFresh, AreKept, AreStagesOf, HaveRoom, titles_of}
use Rattle.stages.specs.Schedules.{lengths_after, lengths_in}
use Rattle.stages.specs.States.{StageState}
use Rattle.stages.proofs.Events.{line_kept}
use Rattle.stages.proofs.LineTitles.{stages_of}
use Rattle.stages.proofs.Raises.{written_back}

-- of empty rows all lengths are 0
all_empty : (states : List StageState) → ((s : ℕ) (d : StageState) → s < length states → (get_or states s d).items ≡ [])
    → lengths_in states ≡ replicate (length states) 0
all_empty [] none = refl
all_empty (x ∷ xs) none = λ i. ap length (none 0 x (omega arith)) i
    ∷ all_empty xs (λ s d lt. none (suc s) d (omega arith)) i

same_room : (t n s : ℕ) → s < t → get_or (replicate t n) s 0 ≡ n
same_room zero n s lt = absurd (omega arith)
same_room (suc t) n zero lt = refl
same_room (suc t) n (suc s) lt = same_room t n s (omega arith)

module _ (job : JobData) (ring : Ring) (capacities : List ℕ) (names : List (List ℕ)) (states : List StageState)
    (fresh : AreFresh job ring capacities names states) where
  -- the rows of a new line are empty
  pub fresh_empty : lengths_in states ≡ replicate (length states) 0
  fresh_empty = all_empty states (λ s d lt. ap (λ (x : StageState). x.items) (fresh.each s d lt))

  pub fresh_lengths : lengths_in states ≡ replicate (length job.roots) 0
  fresh_lengths = fresh_empty ∙ ap (λ n. replicate n 0) fresh.count

  -- with room for n items each
  pub fresh_room : (n d : ℕ) → capacities ≡ replicate (length job.roots) n → d < n → HaveRoom d states
  fresh_room n d same low s x lt =
      let here = ap (λ (t : StageState). t.capacity) (fresh.each s x lt)
      ∙ ap (λ l. get_or l s 0) same
      ∙ same_room (length job.roots) n s (let count = fresh.count in omega arith) in
      omega arith

-- the same of the slice of a vector
pub empty_in : {T : Type 0} (see : T → StageState) (xs items : List T) → xs ≡ items
    → lengths_in (map see items) ≡ replicate (length (map see items)) 0
    → lengths_in (map see xs) ≡ replicate (length xs) 0
empty_in see xs items seen empty = subst (λ l. lengths_in (map see l) ≡ replicate (length l) 0) (sym seen)
    (empty ∙ ap (λ n. replicate n 0) (length-map items see))

-- a vector whose slice was lent to the events holds what they left
module _ {T : Type 0} (see : T → StageState) (v : Vec T Global) (xs ys : List T) (seen : xs ≡ v.items)
    (kept : AreKept (map see xs) (map see ys)) where
  back : (with_items v ys).items ≡ ys
  back = written_back see v xs ys seen kept.count

  pub line_back : (job : JobData) → AreStagesOf job (map see v.items)
      → AreStagesOf job (map see (with_items v ys).items)
  line_back job line = subst (λ l. AreStagesOf job (map see l)) (sym back)
      (line_kept job (map see xs) (map see ys) (subst (λ l. AreStagesOf job (map see l)) (sym seen) line) kept)

  pub lengths_back : (start events : List ℕ) → lengths_in (map see v.items) ≡ start
      → lengths_in (map see ys) ≡ lengths_after (lengths_in (map see xs)) events
      → lengths_in (map see (with_items v ys).items) ≡ lengths_after start events
  lengths_back start events began after =
      subst (λ l. lengths_in (map see l) ≡ lengths_after start events) (sym back)
      (after ∙ ap (λ l. lengths_after (lengths_in (map see l)) events) seen
      ∙ ap (λ l. lengths_after l events) began)

-- the stages of a job are those of an equal one
pub line_of_job : (old new : JobData) (xs : List StageState) → old ≡ new → AreStagesOf old xs → AreStagesOf new xs
line_of_job old new xs same line = subst (λ job. AreStagesOf job xs) same line

-- a line that was given a vector of stages with the right titles has its stages
pub given_back : {T : Type 0} (see : T → StageState) (job : JobData) (v w : Vec T Global) → w ≡ v → IsAccepted job
    → map (λ x. (see x).title) v.items ≡ titles_of job → AreStagesOf job (map see w.items)
given_back see job v w same ok titles = subst (λ u. AreStagesOf job (map see u.items)) (sym same)
    (stages_of see job v.items ok titles)
