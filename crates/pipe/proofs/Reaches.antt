-- What a line is after its stages were extended, over what is seen of its stages.
use Rattle.std.proofs.Common.{◌≡◌, ℕ, zero, suc, ◌+◌, ◌<◌, ◌≤◌, List, [], ◌∷◌, length, map, get_or, sum_by}
use Rattle.std.proofs.Common.{refl, sym, ◌∙◌, ap, ap₂, subst, arith}
use Rattle.std.specs.List.{All}
use Rattle.std.proofs.lemmas.List.{length-map}
use Rattle.std.proofs.lemmas.List.Sums.{sum_by-cons}
use Rattle.stages.specs.Lines.{AreKept, AreFalling, AllReach, NoneExceeds}
use Rattle.stages.specs.Schedules.{lengths_in}
use Rattle.stages.specs.States.{StageState, prepared_of, KeepsStage}
use Rattle.stages.proofs.Growth.{kept_length}
use Rattle.pipe.specs.Extends.{IsExtended, AreSeen}
use Rattle.pipe.specs.Looks.{ReaderState}
use Rattle.pipe.specs.Runs.{Runs}
use Rattle.pipe.specs.Works.{WorkState, Works, IsShown, count_of, prepared_in}

-- what is seen of a stage at a place of a list
work_with : StageState → WorkState
work_with d = record { stage = d; published = 0 }

module _ {T : Type 0} (see : T → WorkState) where
  state_at : (xs : List T) (i : ℕ) (d : StageState) → i < length xs
      → get_or (map (λ x. (see x).stage) xs) i d ≡ (get_or (map see xs) i (work_with d)).stage
  state_at (x ∷ xs) zero d lt = refl
  state_at (x ∷ xs) (suc i) d lt = state_at xs i d (omega arith)
  state_at [] i d lt = absurd (omega arith)

  states_long : (xs : List T) → length (map (λ x. (see x).stage) xs) ≡ length (map see xs)
  states_long xs = length-map xs (λ x. (see x).stage) ∙ sym (length-map xs see)

  sums_same : (xs : List T) → sum_by prepared_of (map (λ x. (see x).stage) xs) ≡ sum_by prepared_in (map see xs)
  sums_same [] = refl
  sums_same (x ∷ xs) =
      let a = sum_by-cons prepared_of (see x).stage (map (λ x. (see x).stage) xs) in
      let b = sum_by-cons prepared_in (see x) (map see xs) in
      let c = sums_same xs in
      omega arith

  -- all is published
  pub all_published : (published : T → ℕ) → ((x : T) → published x ≡ (see x).published) → (xs : List T)
      → All IsShown (map see xs) → map published xs ≡ lengths_in (map (λ x. (see x).stage) xs)
  all_published published is [] shown = refl
  all_published published is (x ∷ xs) shown = ap₂ (λ k l. k ∷ l) (is x ∙ shown 0 (see x) (omega arith))
      (all_published published is xs (λ i d lt. shown (suc i) d (omega arith)))

  module _ (n : ℕ) (xs ys : List T) (rs rs' : List ReaderState) (t t' : ℕ)
      (runs : Runs n (map see xs) (map see ys) rs rs' t t') where
    as_long : (s : ℕ) → s < length (map (λ x. (see x).stage) xs) → s < length xs
    as_long s lt = let a = length-map xs (λ x. (see x).stage) in omega arith

    both_long : length ys ≡ length xs
    both_long = sym (length-map ys see) ∙ runs.works.count ∙ length-map xs see

    works_at : (s : ℕ) (d : StageState) → s < length xs
        → Works n (get_or (map see xs) s (work_with d)) (get_or (map see ys) s (work_with d))
    works_at s d lt = runs.works.each s (work_with d) (work_with d) (let a = length-map xs see in omega arith)

    pub line_kept : AreKept (map (λ x. (see x).stage) xs) (map (λ x. (see x).stage) ys)
    line_kept = record {
      count = states_long ys ∙ runs.works.count ∙ sym (states_long xs);
      each = λ s d lt.
          let low = as_long s lt in
          let low_too : s < length ys = (let e = both_long in omega arith) in
          subst (λ x. KeepsStage x (get_or (map (λ x. (see x).stage) ys) s d)) (sym (state_at xs s d low))
          (subst (KeepsStage (get_or (map see xs) s (work_with d)).stage) (sym (state_at ys s d low_too))
          (works_at s d low).kept);
    }

    pub none_exceeds : NoneExceeds n (map (λ x. (see x).stage) xs) (map (λ x. (see x).stage) ys)
    none_exceeds s d lt =
        let low = as_long s lt in
        let low_too : s < length ys = (let e = both_long in omega arith) in
        let a = ap prepared_of (state_at xs s d low) in
        let b = ap prepared_of (state_at ys s d low_too) in
        let h = (works_at s d low).prepared in
        omega arith

    pub line_ticks : t' + sum_by prepared_of (map (λ x. (see x).stage) xs)
        ≡ t + sum_by prepared_of (map (λ x. (see x).stage) ys)
    line_ticks = let a = sums_same xs in let b = sums_same ys in let e = runs.ticks in omega arith

    module _ (whole : IsExtended n (map see xs) (map see ys) rs') where
      -- a stage has prepared as many degrees as it has items at least
      pub all_reach : ((y : T) → count_of (see y) ≤ prepared_in (see y))
          → AllReach n (map (λ x. (see x).stage) xs) (map (λ x. (see x).stage) ys)
      all_reach behind s d lt =
          let low = as_long s lt in
          let low_too : s < length ys = (let e = both_long in omega arith) in
          let a = state_at xs s d low in
          let b = state_at ys s d low_too in
          let ai = ap (λ (x : StageState). length x.items) a in
          let bi = ap (λ (x : StageState). length x.items) b in
          let ap' = ap prepared_of a in
          let bp = ap prepared_of b in
          let w = works_at s d low in
          let more = kept_length _ _ w.kept in
          let items = w.items in
          let prepared = w.prepared in
          let no_less = w.kept.prepared in
          let have = whole.have s (work_with d) (let l = length-map ys see in omega arith) in
          let some = behind_at ys s (work_with d) low_too behind in
          (omega arith, omega arith)
        where
          behind_at : (ys : List T) (s : ℕ) (d : WorkState) → s < length ys → ((y : T) → count_of (see y) ≤ prepared_in (see y))
              → count_of (get_or (map see ys) s d) ≤ prepared_in (get_or (map see ys) s d)
          behind_at (y ∷ ys) zero d lt h = h y
          behind_at (y ∷ ys) (suc s) d lt h = behind_at ys s d (omega arith) h
          behind_at [] s d lt h = absurd (omega arith)

      pub are_seen : AreSeen n (map (λ x. (see x).stage) xs) (map (λ x. (see x).stage) ys) rs'
      are_seen s d e lt gained =
          let low = as_long (suc s) lt in
          let low_too : suc s < length ys = (let e = both_long in omega arith) in
          let a = ap (λ (x : StageState). length x.items) (state_at xs (suc s) d low) in
          let b = ap (λ (x : StageState). length x.items) (state_at ys (suc s) d low_too) in
          let w = (works_at (suc s) d low).items in
          whole.seen s (work_with d) e (let l = length-map xs see in omega arith) (omega arith)

-- rows that reach as far fall as they did
pub reach_falling : (n : ℕ) (old new : List StageState) → length new ≡ length old → AllReach n old new → AreFalling old
    → AreFalling new
reach_falling n old new same reach falling s d lt =
    let low : suc s < length old = (let e = same in omega arith) in
    let first = (reach s d (omega arith)).0 in
    let second = (reach (suc s) d low).0 in
    let had = falling s d low in
    omega arith
