-- The stages of a round: one after another, and in two halves.
use Rattle.std.proofs.Common.{◌≡◌, ℕ, zero, suc, ◌+◌, ◌^◌, ◌<◌, ◌≤◌, List, [], ◌∷◌, ◌++◌, length, map, get_or, set}
use Rattle.std.proofs.Common.{sum_by, Option, None, inl, inr, refl, sym, ◌∙◌, ap, subst, arith, length-append}
use Rattle.std.proofs.Common.{get_or-set_same, get_or-set_other, Result, Ok, Err}
use Rattle.std.specs.Result.{OnOk, result_and}
use Rattle.std.proofs.lemmas.Bool.{cases_lt}
use Rattle.std.proofs.lemmas.Bool.Decides.{eqb_tells}
use Rattle.std.proofs.lemmas.List.{length-map, length-set, map-set, map-append, get_or_read}
use Rattle.stages.specs.declared.upstream.Upstream.{Upstream}
use Rattle.stages.specs.Rounds.{CanTake, CanAdvance, Moves, AreMoved, HasPut, HavePut}
use Rattle.stages.specs.States.{StageState, prepared_of}
use Rattle.stages.proofs.Growth.{grows_same, of_stage, at_stage, tick_at}
use Rattle.stages.proofs.Rounds.{prepared_few}

-- a stage for which nothing was done
moves_same : (planned : Option Upstream) (x : StageState) → Moves planned x x
moves_same planned x = record { grows = grows_same (length x.items + 1) x; others = λ _. refl }

-- the first i of some stages are done
pub record InTurn (plan : List (Option Upstream)) (i : ℕ) (old new : List StageState) (before after : ℕ) : Type 0 where
  pub count : length new ≡ length old
  pub moved : (s : ℕ) (d : StageState) → s < i → s < length old
      → Moves (get_or plan s None) (get_or old s d) (get_or new s d)
      × HasPut (get_or plan s None) (get_or old s d) (get_or new s d)
  pub later : (s : ℕ) (d : StageState) → i ≤ s → s < length old → get_or new s d ≡ get_or old s d
  pub ticks : after + sum_by prepared_of old ≡ before + sum_by prepared_of new

pub turn_start : (plan : List (Option Upstream)) (old : List StageState) (t : ℕ) → InTurn plan 0 old old t t
turn_start plan old t = record {
  count = refl;
  moved = λ s d low within. absurd (omega arith);
  later = λ s d high within. refl;
  ticks = refl;
}

pub turn_all : {T : Type 0} (see : T → StageState) (plan : List (Option Upstream)) (i : ℕ) (xs : List T)
    (new : List StageState) (t u : ℕ) → InTurn plan i (map see xs) new t u → length xs ≤ i
    → AreMoved plan (map see xs) new × HavePut plan (map see xs) new
turn_all see plan i xs new t u so_far all =
    let same = length-map xs see in (
      record { count = so_far.count; each = λ s d within. (so_far.moved s d (omega arith) within).0 },
      λ s d within. (so_far.moved s d (omega arith) within).1,
    )

-- the tally has room
pub turn_small : (t u before after : ℕ) → u + before ≡ t + after → t ≡ 0 → after ≤ 131104 → u < 2 ^ 62
turn_small t u before after ticks fresh few = omega arith

-- the stage at place i is left as y
module _ (plan : List (Option Upstream)) (i : ℕ) (old mid : List StageState) (t u v : ℕ) (y : StageState)
    (so_far : InTurn plan i old mid t u) (lt : i < length old)
    (moves : (d : StageState) → Moves (get_or plan i None) (get_or mid i d) y)
    (ticks : v + sum_by prepared_of mid ≡ u + sum_by prepared_of (set mid i y)) where
  here : (d : StageState) → get_or (set mid i y) i d ≡ y
  here d = get_or-set_same mid i y d (let same = so_far.count in omega arith)

  moves_here : (d : StageState) → Moves (get_or plan i None) (get_or old i d) (get_or (set mid i y) i d)
  moves_here d = subst (Moves (get_or plan i None) (get_or old i d)) (sym (here d))
      (subst (λ a. Moves (get_or plan i None) a y) (so_far.later i d (omega arith) lt) (moves d))

  in_turn_more : ((d : StageState) → HasPut (get_or plan i None) (get_or mid i d) y)
      → InTurn plan (i + 1) old (set mid i y) t v
  in_turn_more puts = record {
    count = length-set mid i y ∙ so_far.count;
    moved = λ s d low within. elim (eqb_tells s i) [
      | inl same ↦ subst (λ k. Moves (get_or plan k None) (get_or old k d) (get_or (set mid i y) k d)
          × HasPut (get_or plan k None) (get_or old k d) (get_or (set mid i y) k d)) (sym same.1) (
            moves_here d,
            subst (HasPut (get_or plan i None) (get_or old i d)) (sym (here d))
                (subst (λ a. HasPut (get_or plan i None) a y) (so_far.later i d (omega arith) lt) (puts d)),
          )
      | inr other ↦
          let apart : s ≡ i → ⊥ = other.1 in
          subst (λ b. Moves (get_or plan s None) (get_or old s d) b × HasPut (get_or plan s None) (get_or old s d) b)
          (sym (get_or-set_other mid i s y d other.1)) (so_far.moved s d (omega arith) within)
    ];
    later = λ s d high within.
        get_or-set_other mid i s y d (λ e. absurd (omega arith)) ∙ so_far.later s d (omega arith) within;
    ticks = let earlier = so_far.ticks in omega arith;
  }

  in_turn_stop : AreMoved plan old (set mid i y)
  in_turn_stop = record {
    count = length-set mid i y ∙ so_far.count;
    each = λ s d within. elim (eqb_tells s i) [
      | inl same ↦ subst (λ k. Moves (get_or plan k None) (get_or old k d) (get_or (set mid i y) k d)) (sym same.1)
          (moves_here d)
      | inr other ↦ subst (Moves (get_or plan s None) (get_or old s d)) (sym (get_or-set_other mid i s y d other.1))
          (elim (cases_lt s i) [
            | inl less ↦ (so_far.moved s d less within).0
            | inr not ↦ subst (Moves (get_or plan s None) (get_or old s d))
                (sym (so_far.later s d (omega arith) within))
                (moves_same (get_or plan s None) (get_or old s d))
          ])
    ];
  }

-- as seen of the list of stages itself
module _ {T : Type 0} (see : T → StageState) (plan : List (Option Upstream)) (i : ℕ) (old : List StageState)
    (xs : List T) (x : T) (planned : Option Upstream) (t u : ℕ) (so_far : InTurn plan i old (map see xs) t u) (low : i < length xs)
    (can : CanAdvance plan old) (is : planned ≡ get_or plan i planned) where
  lt : i < length old
  lt = let same = so_far.count in let seen = length-map xs see in omega arith

  planned_is : get_or plan i None ≡ planned
  planned_is = sym (get_or_read plan i planned (let same = can.count in let inside = lt in omega arith) is None)

  -- it can take what is planned
  pub turn_can : CanTake planned (see (get_or xs i x))
  turn_can = of_stage see xs i x low (CanTake planned)
      (λ d. subst (λ p. CanTake p (get_or (map see xs) i d)) planned_is
      (subst (CanTake (get_or plan i None)) (sym (so_far.later i d (omega arith) lt)) (can.each i d lt)))

  module _ (y : T) (v : ℕ) (moves : Moves planned (see (get_or xs i x)) (see y))
      (ticks : v + prepared_of (see (get_or xs i x)) ≡ u + prepared_of (see y)) where
    moves_at : (d : StageState) → Moves (get_or plan i None) (get_or (map see xs) i d) (see y)
    moves_at d = subst (λ p. Moves p (get_or (map see xs) i d) (see y)) (sym planned_is)
        (at_stage see xs i x low (λ s. Moves planned s (see y)) moves d)

    ticks_at : v + sum_by prepared_of (map see xs) ≡ u + sum_by prepared_of (set (map see xs) i (see y))
    ticks_at = tick_at see xs i x low y u v ticks ∙ ap (λ l. u + sum_by prepared_of l) (map-set see xs i y)

    pub turn_more : HasPut planned (see (get_or xs i x)) (see y) → InTurn plan (i + 1) old (map see (set xs i y)) t v
    turn_more put = subst (λ l. InTurn plan (i + 1) old l t v) (sym (map-set see xs i y))
        (in_turn_more plan i old (map see xs) t u v (see y) so_far lt moves_at ticks_at
        (λ d. subst (λ p. HasPut p (get_or (map see xs) i d) (see y)) (sym planned_is)
        (at_stage see xs i x low (λ s. HasPut planned s (see y)) put d)))

    pub turn_stop : AreMoved plan old (map see (set xs i y))
    turn_stop = subst (AreMoved plan old) (sym (map-set see xs i y))
        (in_turn_stop plan i old (map see xs) t u v (see y) so_far lt moves_at ticks_at)

    pub turn_ticks : v + sum_by prepared_of old ≡ t + sum_by prepared_of (map see (set xs i y))
    turn_ticks = subst (λ l. v + sum_by prepared_of old ≡ t + sum_by prepared_of l) (sym (map-set see xs i y))
        (let earlier = so_far.ticks in let now = ticks_at in omega arith)

-- what holds of the places of two parts holds of those of both
each_both : {A B : Type 0} (P : A → B → B → Type 0) (none : A) (ps qs : List A) (xs us ys vs : List B)
    → length ps ≡ length xs → length ys ≡ length xs
    → ((s : ℕ) (d : B) → s < length xs → P (get_or ps s none) (get_or xs s d) (get_or ys s d))
    → ((s : ℕ) (d : B) → s < length us → P (get_or qs s none) (get_or us s d) (get_or vs s d))
    → (s : ℕ) (d : B) → s < length (xs ++ us)
    → P (get_or (ps ++ qs) s none) (get_or (xs ++ us) s d) (get_or (ys ++ vs) s d)
each_both P none [] qs [] us [] vs e f front back s d lt = back s d lt
each_both P none [] qs [] us (y ∷ ys) vs e f front back s d lt = absurd (omega arith)
each_both P none [] qs (x ∷ xs) us ys vs e f front back s d lt = absurd (omega arith)
each_both P none (p ∷ ps) qs [] us ys vs e f front back s d lt = absurd (omega arith)
each_both P none (p ∷ ps) qs (x ∷ xs) us [] vs e f front back s d lt = absurd (omega arith)
each_both P none (p ∷ ps) qs (x ∷ xs) us (y ∷ ys) vs e f front back zero d lt = front 0 d (omega arith)
each_both P none (p ∷ ps) qs (x ∷ xs) us (y ∷ ys) vs e f front back (suc s) d lt =
    each_both P none ps qs xs us ys vs (omega arith) (omega arith) (λ k c low. front (suc k) c (omega arith)) back s d
    (omega arith)

-- and the other way round
each_front : {A B : Type 0} (P : A → B → Type 0) (none : A) (ps qs : List A) (xs us : List B) → length ps ≡ length xs
    → ((s : ℕ) (d : B) → s < length (xs ++ us) → P (get_or (ps ++ qs) s none) (get_or (xs ++ us) s d))
    → (s : ℕ) (d : B) → s < length xs → P (get_or ps s none) (get_or xs s d)
each_front P none [] qs [] us e whole s d lt = absurd (omega arith)
each_front P none [] qs (x ∷ xs) us e whole s d lt = absurd (omega arith)
each_front P none (p ∷ ps) qs [] us e whole s d lt = absurd (omega arith)
each_front P none (p ∷ ps) qs (x ∷ xs) us e whole zero d lt = whole 0 d (omega arith)
each_front P none (p ∷ ps) qs (x ∷ xs) us e whole (suc s) d lt =
    each_front P none ps qs xs us (omega arith) (λ k c low. whole (suc k) c (omega arith)) s d (omega arith)

each_back : {A B : Type 0} (P : A → B → Type 0) (none : A) (ps qs : List A) (xs us : List B) → length ps ≡ length xs
    → ((s : ℕ) (d : B) → s < length (xs ++ us) → P (get_or (ps ++ qs) s none) (get_or (xs ++ us) s d))
    → (s : ℕ) (d : B) → s < length us → P (get_or qs s none) (get_or us s d)
each_back P none [] qs [] us e whole s d lt = whole s d lt
each_back P none [] qs (x ∷ xs) us e whole s d lt = absurd (omega arith)
each_back P none (p ∷ ps) qs [] us e whole s d lt = absurd (omega arith)
each_back P none (p ∷ ps) qs (x ∷ xs) us e whole s d lt =
    each_back P none ps qs xs us (omega arith) (λ k c low. whole (suc k) c (omega arith)) s d lt

-- some stages and their plan, in two halves
module _ {T : Type 0} (see : T → StageState) (plan ps qs : List (Option Upstream)) (xs us vs : List T)
    (plan_is : plan ≡ ps ++ qs) (stages_are : xs ≡ us ++ vs) (same : length ps ≡ length us) where
  seen_are : map see xs ≡ map see us ++ map see vs
  seen_are = ap (map see) stages_are ∙ map-append see us vs

  same_length : length ps ≡ length (map see us)
  same_length = same ∙ sym (length-map us see)

  module _ (can : CanAdvance plan (map see xs)) where
    whole : CanAdvance (ps ++ qs) (map see us ++ map see vs)
    whole = subst (CanAdvance (ps ++ qs)) seen_are (subst (λ l. CanAdvance l (map see xs)) plan_is can)

    pub can_front : CanAdvance ps (map see us)
    can_front = record {
      count = same_length;
      few = let few = whole.few in let both = length-append (map see us) (map see vs) in omega arith;
      each = each_front CanTake None ps qs (map see us) (map see vs) same_length whole.each;
    }

    pub can_back : CanAdvance qs (map see vs)
    can_back = record {
      count = let count = whole.count in
          let plans = length-append ps qs in
          let both = length-append (map see us) (map see vs) in
          let front = same_length in omega arith;
      few = let few = whole.few in let both = length-append (map see us) (map see vs) in omega arith;
      each = each_back CanTake None ps qs (map see us) (map see vs) same_length whole.each;
    }

  -- what was done in both
  module _ (ys zs : List T) (front : AreMoved ps (map see us) (map see ys))
      (back : AreMoved qs (map see vs) (map see zs)) where
    moved_whole : AreMoved (ps ++ qs) (map see us ++ map see vs) (map see ys ++ map see zs)
    moved_whole = record {
      count = let a = length-append (map see ys) (map see zs) in
          let b = length-append (map see us) (map see vs) in
          let c = front.count in let d = back.count in omega arith;
      each = each_both Moves None ps qs (map see us) (map see vs) (map see ys) (map see zs) same_length front.count
          front.each back.each;
    }

    pub moved_both : AreMoved plan (map see xs) (map see (ys ++ zs))
    moved_both = subst (AreMoved plan (map see xs)) (sym (map-append see ys zs))
        (subst (λ l. AreMoved plan l (map see ys ++ map see zs)) (sym seen_are)
        (subst (λ l. AreMoved l (map see us ++ map see vs) (map see ys ++ map see zs)) (sym plan_is) moved_whole))

    pub put_both : HavePut ps (map see us) (map see ys) → HavePut qs (map see vs) (map see zs)
        → HavePut plan (map see xs) (map see (ys ++ zs))
    put_both first second = subst (HavePut plan (map see xs)) (sym (map-append see ys zs))
        (subst (λ l. HavePut plan l (map see ys ++ map see zs)) (sym seen_are)
        (subst (λ l. HavePut l (map see us ++ map see vs) (map see ys ++ map see zs)) (sym plan_is)
        (each_both HasPut None ps qs (map see us) (map see vs) (map see ys) (map see zs) same_length front.count
        first second)))

-- where both succeed
and_ok : {A E : Type 0} (a b : Result A E) (P Q R : Type 0) → OnOk a P → OnOk b Q → (P → Q → R)
    → OnOk (result_and a b) R
and_ok (Ok x) (Ok y) P Q R p q f = f p q
and_ok (Ok x) (Err e) P Q R p q f = tt
and_ok (Err e) b P Q R p q f = tt

pub ok_both : {A E : Type 0} (r a b : Result A E) (P Q R : Type 0) → r ≡ result_and a b → OnOk a P → OnOk b Q
    → (P → Q → R) → OnOk r R
ok_both r a b P Q R is p q f = subst (λ o. OnOk o R) (sym is) (and_ok a b P Q R p q f)

-- the steps of a part are few
pub part_few : {T : Type 0} (see : T → StageState) (plan : List (Option Upstream)) (xs ys : List T) (t : ℕ)
    → CanAdvance plan (map see xs) → AreMoved plan (map see xs) (map see ys)
    → t + sum_by prepared_of (map see xs) ≡ sum_by prepared_of (map see ys)
    → ((x : T) → prepared_of (see x) ≤ 4097) → t ≤ 131104
part_few see plan xs ys t can moved ticks each =
    let few = prepared_few see ys (let few = can.few in let same = moved.count in omega arith) each in
    omega arith

pub steps_few : (a b : ℕ) → a ≤ 131104 → b ≤ 131104 → a + b ≤ 2 ^ 63
steps_few a b low high = omega arith
