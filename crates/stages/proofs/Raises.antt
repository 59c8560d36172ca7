-- A line that is raised to a degree.
use Rattle.std.proofs.Common.{◌≡◌, ℕ, suc, ◌+◌, ◌<◌, ◌≤◌, List, [], ◌∷◌, length, map, get_or, sum_by, refl, sym}
use Rattle.std.proofs.Common.{ap, subst, arith}
use Rattle.std.specs.Vec.{with_items}
use Rattle.std.specs.declared.alloc.Global.{Global}
use Rattle.std.specs.declared.vec.Vec.{Vec}
use Rattle.std.proofs.lemmas.List.{length-map, with_items_is}
use Rattle.ps_model.specs.declared.job.JobData.{JobData}
use Rattle.stages.specs.Lines.{AreStagesOf, HaveRoom, AllHave, AreFalling, AreKept, AllReach, NoneExceeds}
use Rattle.stages.specs.Lines.{AllGrow}
use Rattle.stages.specs.States.{StageState, prepared_of}
use Rattle.stages.proofs.Growth.{all_same, all_twice, kept_length}
use Rattle.stages.proofs.Rounds.{have_grown, line_grown, room_grown}

-- the stages grew to n at most; before and after are the tally's counts
pub record AreRaised (n : ℕ) (old new : List StageState) (before after : ℕ) : Type 0 where
  pub grow : AllGrow n old new
  pub falling : AreFalling old → AreFalling new
  pub ticks : after + sum_by prepared_of old ≡ before + sum_by prepared_of new

-- by one degree more
raised_more : (n r : ℕ) (old mid new : List StageState) (t u w : ℕ) → r < n → AreRaised n old mid t u
    → AllGrow (r + 1) mid new → (AreFalling mid → AreFalling new)
    → w + sum_by prepared_of mid ≡ u + sum_by prepared_of new → AreRaised n old new t w
raised_more n r old mid new t u w lt so_far grow falling ticks = record {
  grow = all_twice n n old mid new (omega arith) so_far.grow
      (all_twice (r + 1) n mid new new (omega arith) grow (all_same n new));
  falling = λ first. falling (so_far.falling first);
  ticks = let earlier = so_far.ticks in omega arith;
}

module _ {T : Type 0} (see : T → StageState) (v : Vec T Global) (xs ys : List T) (seen : xs ≡ v.items) where
  -- what is written back is what the vector holds
  pub written_back : length (map see ys) ≡ length (map see xs) → (with_items v ys).items ≡ ys
  written_back count = with_items_is v ys (
      let old = length-map xs see in
      let new = length-map ys see in
      let items = ap length seen in
      let len = v.ok.0 in
      omega arith)

  pub written : (n : ℕ) → AllGrow n (map see xs) (map see ys) → (with_items v ys).items ≡ ys
  written n grow = written_back grow.count

  pub raised_on : (n r : ℕ) (old : List StageState) (t u w : ℕ) → r < n → AreRaised n old (map see v.items) t u
      → AllGrow (r + 1) (map see xs) (map see ys) → (AreFalling (map see xs) → AreFalling (map see ys))
      → w + sum_by prepared_of (map see xs) ≡ u + sum_by prepared_of (map see ys)
      → AreRaised n old (map see (with_items v ys).items) t w
  raised_on n r old t u w lt so_far grow falling ticks =
      subst (λ l. AreRaised n old (map see l) t w) (sym (written (r + 1) grow))
      (raised_more n r old (map see xs) (map see ys) t u w lt
      (subst (λ l. AreRaised n old (map see l) t u) (sym seen) so_far) grow falling ticks)

  pub have_on : (r : ℕ) → AllGrow r (map see xs) (map see ys) → AllHave r (map see ys)
      → AllHave r (map see (with_items v ys).items)
  have_on r grow have = subst (λ l. AllHave r (map see l)) (sym (written r grow)) have

  pub line_on : (r : ℕ) (job : JobData) → AreStagesOf job (map see v.items) → AllGrow r (map see xs) (map see ys)
      → AreStagesOf job (map see (with_items v ys).items)
  line_on r job line grow = subst (λ l. AreStagesOf job (map see l)) (sym (written r grow))
      (line_grown r job (map see xs) (map see ys) (subst (λ l. AreStagesOf job (map see l)) (sym seen) line) grow)

-- what a round asks for, as the vector's slice is called there
module _ {T : Type 0} (see : T → StageState) (xs items : List T) (seen : xs ≡ items) where
  pub line_now : (job input : JobData) → input ≡ job → AreStagesOf job (map see items) → AreStagesOf input (map see xs)
  line_now job input same line = subst (λ j. AreStagesOf j (map see xs)) (sym same)
      (subst (λ l. AreStagesOf job (map see l)) (sym seen) line)

  pub room_now : (n r to : ℕ) (old : List StageState) → r ≤ to → HaveRoom to old → AllGrow n old (map see items)
      → HaveRoom r (map see xs)
  room_now n r to old le room grow = subst (λ l. HaveRoom r (map see l)) (sym seen)
      (λ s d lt. let more = room_grown n to old (map see items) room grow s d lt in omega arith)

module _ (n : ℕ) (old new : List StageState) (grow : AllGrow n old new) where
  pub raised_kept : AreKept old new
  raised_kept = record { count = grow.count; each = λ s d lt. (grow.each s d lt).kept }

  pub raised_within : NoneExceeds n old new
  raised_within = λ s d lt. (grow.each s d lt).prepared

  pub raised_reach : AllHave n new
      → ((s : ℕ) (d : StageState) → s < length new → length (get_or new s d).items ≤ prepared_of (get_or new s d))
      → AllReach n old new
  raised_reach have behind = λ s d lt.
      let g = grow.each s d lt in
      let items = g.items in
      let prepared = g.prepared in
      let longer = kept_length _ _ g.kept in
      let no_fewer = g.kept.prepared in
      let low : s < length new = (let same = grow.count in omega arith) in
      let least = have s d low in
      let ahead = behind s d low in
      (omega arith, omega arith)

  -- where all is there nothing changes
  pub raised_same : AllHave n old → new ≡ old
  raised_same have = same old new grow.count (λ s d lt. (grow.each s d lt).there (have s d lt))
    where
      same : (xs ys : List StageState) → length ys ≡ length xs
          → ((s : ℕ) (d : StageState) → s < length xs → get_or ys s d ≡ get_or xs s d) → ys ≡ xs
      same [] [] count each = refl
      same [] (y ∷ ys) count each = absurd (omega arith)
      same (x ∷ xs) [] count each = absurd (omega arith)
      same (x ∷ xs) (y ∷ ys) count each = λ i.
          each 0 x (omega arith) i ∷ same xs ys (omega arith) (λ s d lt. each (suc s) d (omega arith)) i

-- and no tick is counted
pub raised_still : (n : ℕ) (old new : List StageState) (t u : ℕ) → AreRaised n old new t u → AllHave n old
    → (new ≡ old) × (u ≡ t)
raised_still n old new t u is have =
    let same = raised_same n old new is.grow have in
    (same, (let ticks = is.ticks in let sums = ap (sum_by prepared_of) same in omega arith))

-- where all is there it is so at the next round
pub have_now : {T : Type 0} (see : T → StageState) (n r : ℕ) (old : List StageState) (xs items : List T)
    → xs ≡ items → r < n → AllGrow n old (map see items) → AllHave n old → AllHave (r + 1) (map see xs)
have_now see n r old xs items seen lt grow have =
    let more = have_grown n n old (map see items) have grow in
    subst (λ l. AllHave (r + 1) (map see l)) (sym seen) (λ s d low. let enough = more s d low in omega arith)

-- a raise that begins
pub not_raised : (n : ℕ) (old : List StageState) (t : ℕ) → AreRaised n old old t t
not_raised n old t = record { grow = all_same n old; falling = λ first. first; ticks = refl }

-- what all stages of a vector have, its slice has too, and the other way round
pub all_have : {T : Type 0} (see : T → StageState) (r : ℕ) (xs items : List T) → xs ≡ items → AllHave r (map see items)
    → AllHave r (map see xs)
all_have see r xs items seen have = subst (λ l. AllHave r (map see l)) (sym seen) have

-- a round is begun where there are stages
pub some_stages : {T : Type 0} (see : T → StageState) (old xs : List T) (n r to : ℕ) → AllGrow n (map see old) (map see xs)
    → (length old ≡ 0 → 4294967295 ≤ r) → r < to + 1 → to ≤ 4095 → 0 < length xs
some_stages see [] xs n r to grow none lt few = let past = none refl in absurd (omega arith)
some_stages see (x ∷ old) [] n r to grow none lt few = let count = grow.count in absurd (omega arith)
some_stages see (x ∷ old) (y ∷ xs) n r to grow none lt few = omega arith
