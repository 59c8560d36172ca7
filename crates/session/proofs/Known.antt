-- The greatest degree that each row and the lead have.
use Rattle.std.proofs.Common.{◌≡◌, ℕ, suc, ◌+◌, ◌<◌, ◌≤◌, ◌↔◌, List, length, get_or}
use Rattle.std.proofs.Common.{ap, subst, arith}
use Rattle.std.proofs.Common.{inl, inr, ◌-◌, Option, Some, None, SomeIff}
use Rattle.std.specs.Prelude.{min}
use Rattle.std.proofs.lemmas.Bool.{cases_lt}
use Rattle.std.proofs.lemmas.List.{get_or_default}
use Rattle.stages.specs.States.{StageState}
use Rattle.printer.specs.View.{HasUpTo, Reaches}
use Rattle.session.specs.Sessions.{SessionState, IsSession, HasItems, value_of}
use Rattle.session.specs.Views.{no_stage, items_count}

-- what is at most n is at most the number of the lead's parts, and of the items of the first stages
pub record IsLeast (lead : ℕ) (states : List StageState) (stage n : ℕ) : Type 0 where
  pub below : n ≤ lead
  pub each : (s : ℕ) (d : StageState) → s < stage → n ≤ length (get_or states s d).items
  pub greatest : (k : ℕ) → k ≤ lead → ((s : ℕ) (d : StageState) → s < stage → k ≤ length (get_or states s d).items)
      → k ≤ n

pub least_none : (lead : ℕ) (states : List StageState) → IsLeast lead states 0 lead
least_none lead states =
    record { below = omega arith; each = λ s d lt. absurd (omega arith); greatest = λ k le each. le }

-- one stage more
pub least_more : (lead : ℕ) (states : List StageState) (stage n m : ℕ) → IsLeast lead states stage n
    → ((d : StageState) → m ≡ length (get_or states stage d).items) → StageState
    → IsLeast lead states (stage + 1) (min n m)
least_more lead states stage n m so_far here any = record {
  below = let le = so_far.below in omega arith;
  each = λ s d lt. elim (cases_lt s stage) [
    | inl low ↦ let le = so_far.each s d low in omega arith
    | inr high ↦
        let at : stage ≡ s = omega arith in
        let is = here d in
        let le : min n m ≤ length (get_or states stage d).items = omega arith in
        subst (λ k. min n m ≤ length (get_or states k d).items) at le
  ];
  greatest = λ k le each.
      let first = so_far.greatest k le (λ s d low. each s d (omega arith)) in
      let last = each stage any (omega arith) in
      let is = here any in
      omega arith;
}

module _ (s : SessionState) (holds : IsSession s) (fits : HasItems s) (n : ℕ)
    (least : IsLeast (length s.lead) s.stages (length s.stages) n) where
  -- the degrees below the least number are there, and no others
  pub known_is : (d : ℕ) → (d < n) ↔ HasUpTo (value_of s) d
  known_is d = (
    λ lt. (
      λ i low.
          let count = items_count s holds fits i low in
          let le = least.each i (no_stage s holds fits) (let same = holds.of_job.count in omega arith) in
          omega arith,
      let le = least.below in omega arith,
    ),
    λ up_to. least.greatest (suc d) (let le = up_to.1 in omega arith) (λ i x low.
        let root : i < length s.job.job.roots = (let same = holds.of_job.count in omega arith) in
        let count = items_count s holds fits i root in
        let long = up_to.0 i root in
        let same : length (get_or s.stages i (no_stage s holds fits)).items ≡ length (get_or s.stages i x).items =
        ap (λ (t : StageState). length t.items) (get_or_default s.stages i (no_stage s holds fits) x low) in
        omega arith),
  )

  -- and so is what is one less
  pub known_less : (o : Option ℕ) → SomeIff o (1 ≤ n) (n - 1) → (d : ℕ) → Reaches o d ↔ HasUpTo (value_of s) d
  known_less None none d = (λ r. absurd r, λ up_to. absurd (none (let lt = (known_is d).1 up_to in omega arith)))
  known_less (Some k) some d = (
    λ le. (known_is d).0 (let is = some.1 in let positive = some.0 in omega arith),
    λ up_to. let lt = (known_is d).1 up_to in let is = some.1 in omega arith,
  )
