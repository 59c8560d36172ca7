-- Sessions whose rows, preparations and lead are even.
use Rattle.std.proofs.Common.{◌≡◌, ℕ, suc, ◌+◌, ◌*◌, ◌<◌, List, [], ◌∷◌, length, get_or, max, ◌∙◌, ap, arith}
use Rattle.std.specs.Prelude.{sum_by}
use Rattle.std.proofs.lemmas.List.Sums.{sum_by-cons}
use Rattle.stages.specs.States.{StageState, prepared_of}
use Rattle.intake.specs.Jobs.{JobValue}
use Rattle.session.specs.Calls.{IsFresh, KeepsSession, IsRaised, IsEven, prepared_degrees}
use Rattle.session.specs.Sessions.{SessionState, IsSession}

pub fresh_even : (capacity : ℕ) (job : JobValue) (s : SessionState) → IsFresh capacity job s → IsEven 0 s
fresh_even capacity job s fresh = record {
  stages = λ i d lt. (
    ap (λ (t : StageState). length t.items) (fresh.stages.each i d lt),
    ap prepared_of (fresh.stages.each i d lt),
  );
  lead = ap length fresh.lead;
}

pub raised_even : (m n : ℕ) (old new : SessionState) → IsEven m old → KeepsSession old new → IsRaised n old new
    → IsEven (max n m) new
raised_even m n old new even keeps raised = record {
  stages = λ i d lt.
      let low : i < length old.stages = (let same = keeps.stages.count in omega arith) in
      let before = even.stages i d low in
      let after = raised.stages i d low in
      (after.0 ∙ ap (max n) before.0, after.1 ∙ ap (max n) before.1);
  lead = raised.lead ∙ ap (max n) even.lead;
}

sum_same : {T : Type 0} (f : T → ℕ) (n : ℕ) (xs : List T)
    → ((s : ℕ) (d : T) → s < length xs → f (get_or xs s d) ≡ n) → sum_by f xs ≡ length xs * n
sum_same f n [] h = omega arith
sum_same f n (x ∷ xs) h = sum_by-cons f x xs
    ∙ (λ i. h 0 x (omega arith) i + sum_same f n xs (λ s d lt. h (suc s) d (omega arith)) i) ∙ one_more (length xs)
  where
    one_more : (k : ℕ) → n + k * n ≡ suc k * n
    one_more k = omega arith

pub even_steps : (n : ℕ) (s : SessionState) → IsSession s → IsEven n s
    → prepared_degrees s ≡ length s.job.job.roots * n
even_steps n s holds even = sum_same prepared_of n s.stages (λ i d lt. (even.stages i d lt).1)
    ∙ ap (λ k. k * n) holds.of_job.count
