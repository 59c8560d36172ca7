-- The steps of raising a fresh session of four roots to degree 40, and what it has then.
use Rattle.std.proofs.Common.{◌≡◌, ℕ, suc, ◌+◌, ◌*◌, ◌<◌, ◌≤◌, List, [], ◌∷◌, length, get_or, ◌∙◌, ap, subst, arith}
use Rattle.std.specs.Prelude.{sum_by}
use Rattle.std.proofs.lemmas.List.Sums.{sum_by-cons}
use Rattle.printer.specs.View.{HasUpTo}
use Rattle.intake.specs.Jobs.{JobValue}
use Rattle.stages.specs.States.{prepared_of}
use Rattle.session.specs.Calls.{IsEven, IsRaised, IsWithin, KeepsSession, prepared_degrees}
use Rattle.session.specs.Sessions.{HasItems, IsSession, SessionState, value_of}
use Rattle.session.specs.Views.{items_count, no_stage}
use Rattle.session.proofs.EvenSteps.{even_steps, raised_even}

sum_most : {T : Type 0} (f : T → ℕ) (n : ℕ) (xs : List T) → ((s : ℕ) (d : T) → s < length xs → f (get_or xs s d) ≤ n)
    → sum_by f xs ≤ length xs * n
sum_most f n [] h = omega arith
sum_most f n (x ∷ xs) h =
    let first = h 0 x (omega arith) in
    let later = sum_most f n xs (λ s d lt. h (suc s) d (omega arith)) in
    let whole = sum_by-cons f x xs in
    one_more (length xs) (f x) (sum_by f xs) (sum_by f (x ∷ xs)) first later whole
  where
    one_more : (k a b c : ℕ) → a ≤ n → b ≤ k * n → c ≡ a + b → c ≤ suc k * n
    one_more k a b c le le' is = omega arith

module _ (old new : SessionState) (holds : IsSession old) (even : IsEven 0 old) (keeps : KeepsSession old new)
    (four : length old.job.job.roots ≡ 4) where
  none : prepared_degrees old ≡ 0
  none = even_steps 0 old holds even ∙ nothing (length old.job.job.roots)
    where
      nothing : (k : ℕ) → k * 0 ≡ 0
      nothing k = omega arith

  most : IsWithin 41 old new → prepared_degrees new ≤ 164
  most within = subst (λ k. prepared_degrees new ≤ k * 41) (keeps.stages.count ∙ holds.of_job.count ∙ four)
      (sum_most prepared_of 41 new.stages (λ i d lt.
      let low : i < length old.stages = (let same = keeps.stages.count in omega arith) in
      let was = (even.stages i d low).1 in
      let no_more = within.stages i d low in
      omega arith))

  module _ (t t' : ℕ) (ticks : t' + prepared_degrees old ≡ t + prepared_degrees new) where
    pub steps_more : t ≤ t'
    steps_more = let was = none in omega arith

    pub steps_most : IsWithin 41 old new → t' ≤ t + 164
    steps_most within = let was = none in let few = most within in omega arith

  module _ (holds' : IsSession new) (raised : IsRaised 41 old new) where
    even_at : IsEven 41 new
    even_at = raised_even 0 41 old new even keeps raised

    all : prepared_degrees new ≡ 164
    all = even_steps 41 new holds' even_at
        ∙ ap (λ k. k * 41) (ap (λ (j : JobValue). length j.job.roots) keeps.job ∙ four)

    pub steps : (t t' : ℕ) → t' + prepared_degrees old ≡ t + prepared_degrees new → t' ≡ t + 164
    steps t t' ticks = let was = none in let is = all in omega arith

    pub known : HasItems new → HasUpTo (value_of new) 40
    known fits = (
      λ i low.
          let count = items_count new holds' fits i low in
          let there : i < length new.stages = (let same = holds'.of_job.count in omega arith) in
          let many = (even_at.stages i (no_stage new holds' fits) there).0 in
          omega arith,
      let many = even_at.lead in omega arith,
    )
