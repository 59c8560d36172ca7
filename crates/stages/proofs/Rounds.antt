-- A round over the stages of a line: each gets its item of one degree.
use Rattle.std.proofs.Common.{◌≡◌, ℕ, ◌+◌, ◌^◌, ◌<◌, ◌≤◌, List, [], ◌∷◌, length, map, get_or, sum_by}
use Rattle.std.proofs.Common.{refl, sym, ◌∙◌, subst, arith, inl, inr, Result, Ok, Err}
use Rattle.std.specs.Result.{OnErr}
use Rattle.std.proofs.lemmas.Bool.{cases_lt}
use Rattle.std.proofs.lemmas.List.Sums.{sum_by-le}
use Rattle.ps_model.specs.declared.job.JobData.{JobData}
use Rattle.stages.specs.Lines.{AreStagesOf, AllHave, AreFalling, HaveRoom, AllGrow}
use Rattle.stages.specs.States.{StageState, prepared_of}
use Rattle.stages.proofs.Growth.{all_same, all_twice, kept_length}
use Rattle.stages.proofs.LineTitles.{few_roots, each_there}

-- stages that grew are those of the job
pub line_grown : (n : ℕ) (job : JobData) (xs ys : List StageState) → AreStagesOf job xs → AllGrow n xs ys
    → AreStagesOf job ys
line_grown n job xs ys line grow = record {
  accepted = line.accepted;
  count = grow.count ∙ line.count;
  title = λ s d lt. let low : s < length xs = (let same = grow.count in omega arith) in
      (grow.each s d low).kept.title ∙ line.title s d low;
}

-- and have the same room
pub room_grown : (n to : ℕ) (xs ys : List StageState) → HaveRoom to xs → AllGrow n xs ys → HaveRoom to ys
room_grown n to xs ys room grow s d lt =
    let low : s < length xs = (let same = grow.count in omega arith) in
    let more = room s d low in
    let same = (grow.each s d low).kept.capacity in
    omega arith

-- and no fewer items
pub have_grown : (n r : ℕ) (xs ys : List StageState) → AllHave r xs → AllGrow n xs ys → AllHave r ys
have_grown n r xs ys have grow s d lt =
    let low : s < length xs = (let same = grow.count in omega arith) in
    let some = have s d low in
    let more = kept_length _ _ (grow.each s d low).kept in
    omega arith

-- few degrees are prepared by few stages
pub prepared_few : {T : Type 0} (see : T → StageState) (xs : List T) → length (map see xs) ≤ 32
    → ((x : T) → prepared_of (see x) ≤ 4097) → sum_by prepared_of (map see xs) ≤ 131104
prepared_few see xs few each =
    let sums = sum_by-le prepared_of 4097 (map see xs)
    (λ k d lt. each_there (λ _ s. prepared_of s ≤ 4097) see xs (λ j e low. each (get_or xs j e)) k d lt) in
    omega arith

pub few_prepared : {T : Type 0} (see : T → StageState) (xs : List T) (job : JobData) → AreStagesOf job (map see xs)
    → ((x : T) → prepared_of (see x) ≤ 4097) → sum_by prepared_of (map see xs) ≤ 131104
few_prepared see xs job line each = prepared_few see xs
    (let few = few_roots job line.accepted in let count = line.count in omega arith) each

-- the first i stages have their item of degree r; before and after are the tally's counts
pub record InRound (r i : ℕ) (old new : List StageState) (before after : ℕ) : Type 0 where
  pub grow : AllGrow (r + 1) old new
  pub done : (s : ℕ) (d : StageState) → s < i → r < length (get_or new s d).items
  pub falling : AreFalling old → AreFalling new
  pub ticks : after + sum_by prepared_of old ≡ before + sum_by prepared_of new

-- the stage at a place gets it
pub round_more : (r i : ℕ) (old mid new : List StageState) (t u v : ℕ) → i < length old → InRound r i old mid t u
    → AllGrow (r + 1) mid new → ((d : StageState) → r < length (get_or new i d).items)
    → (AreFalling mid → AreFalling new) → v + sum_by prepared_of mid ≡ u + sum_by prepared_of new
    → InRound r (i + 1) old new t v
round_more r i old mid new t u v lt so_far grow here falling ticks = record {
  grow = all_twice (r + 1) (r + 1) old mid new (omega arith) so_far.grow grow;
  done = λ s d low. elim (cases_lt s i) [
    | inl less ↦
        let had = so_far.done s d less in
        let more = kept_length _ _ (grow.each s d (let same = so_far.grow.count in omega arith)).kept in
        omega arith
    | inr not ↦ subst (λ k. r < length (get_or new k d).items) (let same : i ≡ s = omega arith in same) (here d)
  ];
  falling = λ first. falling (so_far.falling first);
  ticks = let earlier = so_far.ticks in omega arith;
}

-- or has it already
pub round_skip : (r i : ℕ) (old new : List StageState) (t u : ℕ) → i < length old → InRound r i old new t u
    → ((d : StageState) → r < length (get_or new i d).items) → InRound r (i + 1) old new t u
round_skip r i old new t u lt so_far here =
    round_more r i old new new t u u lt so_far (all_same (r + 1) new) here (λ falling. falling) refl

-- as the list and the tally are called after the step
pub round_moved : {T : Type 0} (see : T → StageState) (r i : ℕ) (old : List StageState) (xs ys : List T) (t u v : ℕ)
    → ys ≡ xs → v ≡ u → InRound r i old (map see xs) t u → InRound r i old (map see ys) t v
round_moved see r i old xs ys t u v list count so_far =
    subst (λ l. InRound r i old (map see l) t v) (sym list) (subst (InRound r i old (map see xs) t) (sym count) so_far)

-- where a stage lacks its item some stage lacked it at the start
pub lacks : (r i : ℕ) (old new : List StageState) (t u : ℕ) → i < length old → InRound r i old new t u
    → ((d : StageState) → length (get_or new i d).items ≡ r) → AllHave (r + 1) old → ⊥
lacks r i old new t u lt so_far here have = at (have_grown (r + 1) (r + 1) old new have so_far.grow)
  where
    at : AllHave (r + 1) new → ⊥
    at all = none new (let same : i < length new = (let count = so_far.grow.count in omega arith) in same) here all
      where
        none : (xs : List StageState) → i < length xs → ((d : StageState) → length (get_or xs i d).items ≡ r)
            → AllHave (r + 1) xs → ⊥
        none [] low same all = absurd (omega arith)
        none (x ∷ xs) low same all =
            let one = same x in
            let more = all i x low in
            omega arith

-- what holds anyway holds after a refusal
pub on_err : {T E : Type 0} (result : Result T E) (P : Type 0) → P → OnErr result P
on_err (Ok x) P p = tt
on_err (Err e) P p = p

-- the tally has room
pub tally_small : (t u before after : ℕ) → u + before ≡ t + after → t ≤ 2 ^ 61 + before → after ≤ 131104 → u < 2 ^ 62
tally_small t u before after e le small = omega arith
