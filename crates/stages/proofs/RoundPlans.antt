-- What is planned for a round, and what comes of it.
use Rattle.std.proofs.Common.{◌≡◌, ℕ, suc, ◌+◌, ◌-◌, ◌^◌, ◌<◌, ◌≤◌, List, ◌∷◌, [], ◌++◌, length, map, get_or}
use Rattle.std.proofs.Common.{Option, None, Some}
use Rattle.std.proofs.Common.{inl, inr, refl, sym, ◌∙◌, subst, arith, Result, Ok, Err}
use Rattle.std.specs.Result.{OnOk}
use Rattle.std.proofs.lemmas.Bool.{cases_lt}
use Rattle.std.proofs.lemmas.List.{length-map, get_or_append_left, get_or_push, length_push}
use Rattle.ps_model.specs.declared.job.JobData.{JobData}
use Rattle.stages.specs.declared.upstream.Upstream.{Upstream}
use Rattle.stages.specs.Lines.{AreStagesOf, HaveRoom, AreFalling, Grows, AllGrow}
use Rattle.stages.specs.Rounds.{row_of, items_at, IsReady, Planned, IsPlan, IsRound, CanTake, CanAdvance}
use Rattle.stages.specs.Rounds.{Moves, AreMoved, HasPut, HavePut, SomeLacks}
use Rattle.stages.specs.Slices.{IsUpstream}
use Rattle.stages.specs.States.{StageState}
use Rattle.stages.proofs.Growth.{grows_same, grows_twice, kept_length}
use Rattle.stages.proofs.LineTitles.{few_roots}
use Rattle.stages.proofs.Upstreams.{next_upstream}

-- the first stages have all, and the next one lacks an item
pub lacks_here : (to s : ℕ) (states : List StageState) → s < length states
    → ((k : ℕ) (d : StageState) → k < s → to < items_at states k d)
    → ((d : StageState) → items_at states s d ≤ to) → SomeLacks to states
lacks_here to s states within before lacks = (s, record { within = within; lacks = lacks; before = before })

-- what is planned, step by step
pub record AreFirstPlans (to : ℕ) (job : JobData) (states : List StageState) (plan : List (Option Upstream)) (s : ℕ)
    : Type 0 where
  pub count : length plan ≡ s
  pub each : (k : ℕ) (d : StageState) → k < s → Planned to job states k d (get_or plan k None)

pub plans_start : (to : ℕ) (job : JobData) (states : List StageState) (plan : List (Option Upstream)) → plan ≡ []
    → AreFirstPlans to job states plan 0
plans_start to job states plan none = subst (λ l. AreFirstPlans to job states l 0) (sym none)
    (record { count = refl; each = λ k d low. absurd (omega arith) })

pub plans_more : (to : ℕ) (job : JobData) (states : List StageState) (plan pushed : List (Option Upstream)) (s : ℕ)
    (planned : Option Upstream) → pushed ≡ plan ++ planned ∷ [] → AreFirstPlans to job states plan s
    → ((d : StageState) → Planned to job states s d planned) → AreFirstPlans to job states pushed (s + 1)
plans_more to job states plan pushed s planned push are now =
    subst (λ l. AreFirstPlans to job states l (s + 1)) (sym push) (record {
      count = length_push plan planned ∙ (let count = are.count in omega arith);
      each = λ k d low. elim (cases_lt k s) [
        | inl less ↦ subst (Planned to job states k d)
            (sym (get_or_append_left plan (planned ∷ []) None k (let count = are.count in omega arith)))
            (are.each k d less)
        | inr not ↦
            let here : s ≡ k = omega arith in
            subst (λ n. Planned to job states n d (get_or (plan ++ planned ∷ []) n None)) here
            (subst (Planned to job states s d) (sym (get_or_push plan planned None s are.count)) (now d))
      ];
    })

pub plans_all : {T : Type 0} (see : T → StageState) (to : ℕ) (job : JobData) (xs : List T)
    (plan : List (Option Upstream)) (s : ℕ) → AreFirstPlans to job (map see xs) plan s → s ≡ length xs
    → IsPlan to job (map see xs) plan
plans_all see to job xs plan s are all = record {
  count = are.count ∙ all ∙ sym (length-map xs see);
  each = λ k d low. are.each k d (let same = length-map xs see in omega arith);
}

-- a stage that takes nothing
pub rests_behind : (to : ℕ) (job : JobData) (states : List StageState) (s r : ℕ) → 0 < s
    → ((d : StageState) → items_at states s d ≡ r) → ((d : StageState) → items_at states (s - 1) d ≤ r)
    → (d : StageState) → Planned to job states s d None
rests_behind to job states s r some count before d ready =
    let more = ready.1 (s - 1) (omega arith) in
    let here = count d in
    let least = before d in
    omega arith

-- a stage that takes a row
pub takes_first : (to : ℕ) (job : JobData) (states : List StageState) (s r : ℕ) (upstream : Upstream) → s ≡ 0
    → r ≤ to → ((d : StageState) → items_at states s d ≡ r) → IsUpstream job s r (row_of upstream)
    → (d : StageState) → Planned to job states s d (Some upstream)
takes_first to job states s r upstream first low count is d = (
  ((let here = count d in omega arith), λ k e. absurd (omega arith)),
  subst (λ n. IsUpstream job s n (row_of upstream)) (sym (count d)) is,
)

pub takes_left : (to : ℕ) (job : JobData) (states : List StageState) (s r : ℕ) (upstream : Upstream) → 0 < s
    → r ≤ to → ((d : StageState) → items_at states s d ≡ r) → ((d : StageState) → r < items_at states (s - 1) d)
    → IsUpstream job s r (row_of upstream) → (d : StageState) → Planned to job states s d (Some upstream)
takes_left to job states s r upstream some low count before is d = (
  (
    (let here = count d in omega arith),
    λ k e.
        let place : s - 1 ≡ k = omega arith in
        let more = subst (λ n. r < items_at states n d) place (before d) in
        let here = count d in omega arith,
  ),
  subst (λ n. IsUpstream job s n (row_of upstream)) (sym (count d)) is,
)

-- the tally has room for the steps of a round
pub merge_fits : (t steps before after : ℕ) → steps + before ≡ after → before ≤ 131104 → after ≤ 131104
    → t ≤ 2 ^ 61 + before → t + steps ≤ 2 ^ 63
merge_fits t steps before after ticks few more small = omega arith

-- one stage, by what is planned for it
module _ (to : ℕ) (job : JobData) (states : List StageState) (s : ℕ) (d : StageState) where
  planned_can : (planned : Option Upstream) → Planned to job states s d planned
      → (get_or states s d).title ≡ record { job = job; stage = s } → to < (get_or states s d).capacity
      → CanTake planned (get_or states s d)
  planned_can None is title room = tt
  planned_can (Some upstream) is title room =
      let low : length (get_or states s d).items ≤ to = is.0.0 in (
        (omega arith),
        next_upstream job s (length (get_or states s d).items) (row_of upstream)
            (get_or states s d).title (length (get_or states s d).items) title refl is.1,
      )

  module _ (y : StageState) where
    planned_grows : (planned : Option Upstream) → Planned to job states s d planned
        → Moves planned (get_or states s d) y → Grows (to + 1) (get_or states s d) y
    planned_grows None is moves =
        subst (Grows (to + 1) (get_or states s d)) (sym (moves.others refl)) (grows_same (to + 1) (get_or states s d))
    planned_grows (Some upstream) is moves =
        let low : length (get_or states s d).items ≤ to = is.0.0 in
        grows_twice (length (get_or states s d).items + 1) (to + 1) (get_or states s d) y y (omega arith) moves.grows
        (grows_same (to + 1) y)

    -- it gets no longer than the one before it was
    planned_falls : (planned : Option Upstream) → Planned to job states s d planned
        → Moves planned (get_or states s d) y → (k : ℕ) → s ≡ suc k → items_at states s d ≤ items_at states k d → length y.items ≤ items_at states k d
    planned_falls None is moves k next falls =
        subst (λ (x : StageState). length x.items ≤ items_at states k d) (sym (moves.others refl)) falls
    planned_falls (Some upstream) is moves k next falls =
        let more : items_at states s d < items_at states k d = is.0.1 k next in
        let grown = moves.grows.items in
        omega arith

    planned_put : (planned : Option Upstream) → Planned to job states s d planned → HasPut planned (get_or states s d) y
        → IsReady to states s d → length y.items ≡ items_at states s d + 1
    planned_put None is put ready = absurd (is ready)
    planned_put (Some upstream) is put ready = put

    planned_rests : (planned : Option Upstream) → Planned to job states s d planned
        → Moves planned (get_or states s d) y → (IsReady to states s d → ⊥) → y ≡ get_or states s d
    planned_rests None is moves not = moves.others refl
    planned_rests (Some upstream) is moves not = absurd (not is.0)

-- all of them
module _ (to : ℕ) (job : JobData) (plan : List (Option Upstream)) (old : List StageState)
    (is : IsPlan to job old plan) where
  pub can_advance : AreStagesOf job old → HaveRoom to old → CanAdvance plan old
  can_advance line room = record {
    count = is.count;
    few = let few = few_roots job line.accepted in let count = line.count in omega arith;
    each = λ s d lt. planned_can to job old s d (get_or plan s None) (is.each s d lt) (line.title s d lt) (room s d lt);
  }

  module _ (new : List StageState) (moved : AreMoved plan old new) where
    pub round_grows : AllGrow (to + 1) old new
    round_grows = record {
      count = moved.count;
      each = λ s d lt. planned_grows to job old s d (get_or new s d) (get_or plan s None) (is.each s d lt)
          (moved.each s d lt);
    }

    pub round_falls : AreFalling old → AreFalling new
    round_falls falling s d lt =
        let low : suc s < length old = (let same = moved.count in omega arith) in
        let below : length (get_or new (suc s) d).items ≤ items_at old s d =
        planned_falls to job old (suc s) d (get_or new (suc s) d) (get_or plan (suc s) None) (is.each (suc s) d low)
        (moved.each (suc s) d low) s refl (falling s d low) in
        let more = kept_length (get_or old s d) (get_or new s d) (moved.each s d (omega arith)).grows.kept in
        omega arith

    is_round : HavePut plan old new → IsRound to old new
    is_round put = record {
      ready = λ s d lt ready. planned_put to job old s d (get_or new s d) (get_or plan s None) (is.each s d lt)
          (put s d lt) ready;
      others = λ s d lt not. planned_rests to job old s d (get_or new s d) (get_or plan s None) (is.each s d lt)
          (moved.each s d lt) not;
    }

    pub round_done : {T E : Type 0} (result : Result T E) → OnOk result (HavePut plan old new)
        → OnOk result (IsRound to old new)
    round_done (Ok x) put = is_round put
    round_done (Err e) put = tt
