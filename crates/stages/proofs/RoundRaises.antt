-- A line that is raised round by round.
use Rattle.std.proofs.Common.{◌≡◌, ℕ, zero, suc, ◌+◌, ◌-◌, ◌<◌, ◌≤◌, List, [], ◌∷◌, length, map, get_or, sum_by}
use Rattle.std.proofs.Common.{sym, subst, arith}
use Rattle.std.specs.Vec.{with_items}
use Rattle.std.specs.declared.alloc.Global.{Global}
use Rattle.std.specs.declared.vec.Vec.{Vec}
use Rattle.std.proofs.lemmas.List.Sums.{sum_by-cons}
use Rattle.stages.specs.Lines.{AllHave, AllGrow}
use Rattle.stages.specs.Rounds.{items_at, IsReady, IsRound, SomeLacks}
use Rattle.stages.specs.States.{StageState}
use Rattle.stages.proofs.Growth.{kept_length}
use Rattle.stages.proofs.Raises.{written}
use Rattle.stages.proofs.Rounds.{have_grown}

-- how many items are missing, up to a degree
abbrev pub lacking : ℕ → StageState → ℕ
lacking to s = (to + 1) - length s.items

abbrev pub missing : ℕ → List StageState → ℕ
missing to states = sum_by (lacking to) states

-- sums over numbers of which none is greater, and one is less
module _ (f : StageState → ℕ) where
  sum_most : (xs ys : List StageState) → length ys ≡ length xs
      → ((s : ℕ) (d : StageState) → s < length xs → f (get_or ys s d) ≤ f (get_or xs s d)) → sum_by f ys ≤ sum_by f xs
  sum_most [] [] count each = omega arith
  sum_most [] (y ∷ ys) count each = absurd (omega arith)
  sum_most (x ∷ xs) [] count each = absurd (omega arith)
  sum_most (x ∷ xs) (y ∷ ys) count each =
      let a = sum_by-cons f x xs in
      let b = sum_by-cons f y ys in
      let first : f y ≤ f x = each 0 x (omega arith) in
      let rest = sum_most xs ys (omega arith) (λ s d low. each (suc s) d (omega arith)) in
      omega arith

  sum_less : (xs ys : List StageState) (i : ℕ) → length ys ≡ length xs
      → ((s : ℕ) (d : StageState) → s < length xs → f (get_or ys s d) ≤ f (get_or xs s d)) → i < length xs
      → ((d : StageState) → f (get_or ys i d) < f (get_or xs i d)) → sum_by f ys < sum_by f xs
  sum_less [] ys i count each lt less = absurd (omega arith)
  sum_less (x ∷ xs) [] i count each lt less = absurd (omega arith)
  sum_less (x ∷ xs) (y ∷ ys) zero count each lt less =
      let a = sum_by-cons f x xs in
      let b = sum_by-cons f y ys in
      let first : f y < f x = less x in
      let rest = sum_most xs ys (omega arith) (λ s d low. each (suc s) d (omega arith)) in
      omega arith
  sum_less (x ∷ xs) (y ∷ ys) (suc i) count each lt less =
      let a = sum_by-cons f x xs in
      let b = sum_by-cons f y ys in
      let first : f y ≤ f x = each 0 x (omega arith) in
      let rest = sum_less xs ys i (omega arith) (λ s d low. each (suc s) d (omega arith)) (omega arith) less in
      omega arith

-- the first stage that lacks an item is ready
first_ready : (to : ℕ) (states : List StageState) (some : SomeLacks to states) (d : StageState)
    → IsReady to states some.0 d
first_ready to states some d = (
  some.1.lacks d,
  λ k e. let low = some.1.lacks d in let high = some.1.before k d (omega arith) in omega arith,
)

-- so fewer items are missing after a round
pub fewer : (to : ℕ) (old new : List StageState) → SomeLacks to old → AllGrow (to + 1) old new → IsRound to old new
    → missing to new < missing to old
fewer to old new some grow round = sum_less (lacking to) old new some.0 grow.count
    (λ s d lt.
    let more : length (get_or old s d).items ≤ length (get_or new s d).items =
    kept_length (get_or old s d) (get_or new s d) (grow.each s d lt).kept in
    omega arith)
    some.1.within
    (λ d.
    let one : length (get_or new some.0 d).items ≡ length (get_or old some.0 d).items + 1 =
    round.ready some.0 d some.1.within (first_ready to old some d) in
    let low : length (get_or old some.0 d).items ≤ to = some.1.lacks d in
    omega arith)

-- where a stage lacks an item there is one
pub some_there : {T : Type 0} (see : T → StageState) (to : ℕ) (seen items : List T) → seen ≡ items
    → SomeLacks to (map see seen) → 0 < length items
some_there see to seen [] are some =
    let low = (subst (λ l. SomeLacks to (map see l)) are some).1.within in absurd (omega arith)
some_there see to seen (x ∷ items) are some = omega arith

-- where all is there no stage lacks an item
none_lacks : (to : ℕ) (states : List StageState) → AllHave (to + 1) states → SomeLacks to states → ⊥
none_lacks to [] have some = let low = some.1.within in absurd (omega arith)
none_lacks to (x ∷ xs) have some =
    let low : items_at (x ∷ xs) some.0 x ≤ to = some.1.lacks x in
    let more : to + 1 ≤ items_at (x ∷ xs) some.0 x = have some.0 x some.1.within in
    absurd (omega arith)

module _ {T : Type 0} (see : T → StageState) (to : ℕ) (seen items : List T) (are : seen ≡ items)
    (some : SomeLacks to (map see seen)) where
  pub still_lacks : SomeLacks to (map see items)
  still_lacks = subst (λ l. SomeLacks to (map see l)) are some

  -- a line that had all has it still
  pub lacks_not : (old : List StageState) → AllGrow (to + 1) old (map see items) → AllHave (to + 1) old → ⊥
  lacks_not old grow have = none_lacks to (map see items)
      (have_grown (to + 1) (to + 1) old (map see items) have grow) still_lacks

-- what is written back is what the vector holds
pub fewer_on : {T : Type 0} (see : T → StageState) (v : Vec T Global) (xs ys : List T) (seen : xs ≡ v.items) (to : ℕ)
    → SomeLacks to (map see v.items) → AllGrow (to + 1) (map see xs) (map see ys) → IsRound to (map see xs) (map see ys)
    → missing to (map see (with_items v ys).items) < missing to (map see v.items)
fewer_on see v xs ys seen to some grow round =
    subst (λ l. missing to (map see l) < missing to (map see v.items)) (sym (written see v xs ys seen (to + 1) grow))
    (fewer to (map see v.items) (map see ys) some
    (subst (λ l. AllGrow (to + 1) (map see l) (map see ys)) seen grow)
    (subst (λ l. IsRound to (map see l) (map see ys)) seen round))
