-- The steps of a raise, and what it makes of a session.
use Rattle.std.proofs.Common.{◌≡◌, ℕ, suc, ◌+◌, ◌*◌, ◌<◌, ◌≤◌, List, [], ◌∷◌, length, get_or, max, sym, ◌∙◌}
use Rattle.std.proofs.Common.{ap, subst, arith}
use Rattle.std.specs.Prelude.{sum_by}
use Rattle.std.proofs.lemmas.List.Sums.{sum_by-cons}
use Rattle.stages.specs.States.{prepared_of}
use Rattle.session.specs.Calls.{KeepsSession, IsRaised, IsWithin, IsEven, prepared_degrees}
use Rattle.session.specs.Sessions.{SessionState, IsSession}
use Rattle.session.proofs.EvenSteps.{raised_even, even_steps}
use Rattle.commands.specs.Factorings.{factoring_of, IsFactoring}

sum_most : {T : Type 0} (f : T → ℕ) (n : ℕ) (xs : List T) → ((s : ℕ) (d : T) → s < length xs → f (get_or xs s d) ≤ n)
    → sum_by f xs ≤ length xs * n
sum_most f n [] h = omega arith
sum_most f n (x ∷ xs) h =
    let first = h 0 x (omega arith) in
    let later = sum_most f n xs (λ s d lt. h (suc s) d (omega arith)) in
    let whole = sum_by-cons f x xs in
    one_more (length xs) (f x) (sum_by f xs) (sum_by f (x ∷ xs)) first later whole
  where
    one_more : (k a b c : ℕ) → a ≤ n → b ≤ k * n → c ≡ a + b → c ≤ suc k * n
    one_more k a b c le le' is = omega arith

sum_least : {T : Type 0} (f : T → ℕ) (n : ℕ) (xs : List T) → ((s : ℕ) (d : T) → s < length xs → n ≤ f (get_or xs s d))
    → length xs * n ≤ sum_by f xs
sum_least f n [] h = omega arith
sum_least f n (x ∷ xs) h =
    let first = h 0 x (omega arith) in
    let later = sum_least f n xs (λ s d lt. h (suc s) d (omega arith)) in
    let whole = sum_by-cons f x xs in
    one_more (length xs) (f x) (sum_by f xs) (sum_by f (x ∷ xs)) first later whole
  where
    one_more : (k a b c : ℕ) → n ≤ a → k * n ≤ b → c ≡ a + b → suc k * n ≤ c
    one_more k a b c le le' is = omega arith

module _ (n : ℕ) (old new : SessionState) (holds : IsSession old) (even : IsFactoring old)
    (keeps : KeepsSession old new) where
  abbrev m : ℕ
  m = length old.lead

  abbrev roots : ℕ
  roots = length old.job.job.roots

  count : length new.stages ≡ roots
  count = keeps.stages.count ∙ holds.of_job.count

  before : prepared_degrees old ≡ roots * m
  before = even_steps m old holds even

  low : (i : ℕ) → i < length new.stages → i < length old.stages
  low i lt = let same = keeps.stages.count in omega arith

  grown : roots * m ≤ prepared_degrees new
  grown = subst (λ k. k * m ≤ prepared_degrees new) count (sum_least prepared_of m new.stages (λ i d lt.
      let was = (even.stages i d (low i lt)).1 in
      let more = (keeps.stages.each i d (low i lt)).prepared in
      omega arith))

  bounded : IsWithin n old new → prepared_degrees new ≤ roots * max n m
  bounded within = subst (λ k. prepared_degrees new ≤ k * max n m) count
      (sum_most prepared_of (max n m) new.stages (λ i d lt.
      let was = (even.stages i d (low i lt)).1 in
      let no_more = within.stages i d (low i lt) in
      omega arith))

  -- the tally before and behind
  module _ (t t' : ℕ) (ticks : t' + prepared_degrees old ≡ t + prepared_degrees new) where
    pub ticked_more : t ≤ t'
    ticked_more = let was = before in let more = grown in omega arith

    pub ticked_most : IsWithin n old new → t' + roots * m ≤ t + roots * max n m
    ticked_most within = let was = before in let most = bounded within in omega arith

  module _ (raised : IsRaised n old new) where
    pub raised_lead : length new.lead ≡ max n m
    raised_lead = raised.lead

    -- all is even again
    pub even_at : IsEven (max n m) new
    even_at = raised_even m n old new even keeps raised

    pub even_again : IsFactoring new
    even_again = subst (λ k. IsEven k new) (sym raised_lead) even_at

    pub next_is : factoring_of new ≡ record (factoring_of old) { degrees = max n m }
    next_is = λ i. record {
      names = (keeps.job i).names;
      job = (keeps.job i).job;
      degrees = raised_lead i;
    }

    pub ticked : IsSession new → (t t' : ℕ) → t' + prepared_degrees old ≡ t + prepared_degrees new
        → t' + roots * m ≡ t + roots * max n m
    ticked holds' t t' ticks =
        let was = before in
        let is : prepared_degrees new ≡ roots * max n m = even_steps (max n m) new holds' even_at
        ∙ ap (λ (j : _). length j.job.roots * max n m) keeps.job in
        omega arith
