-- How stages grow, and lists of them.
use Rattle.std.proofs.Common.{◌≡◌, ℕ, suc, ◌+◌, ◌-◌, ◌<◌, ◌≤◌, inl, inr, List, [], ◌++◌, length, map}
use Rattle.std.proofs.Common.{get_or, set, sum_by, refl, sym, ◌∙◌, ap, subst, arith, append_assoc, length-append}
use Rattle.std.proofs.Common.{append-nil, get_or-set_same, get_or-set_other, Result}
use Rattle.std.specs.Result.{OnOk, OnErr}
use Rattle.std.proofs.lemmas.Bool.Decides.{eqb_tells}
use Rattle.std.proofs.lemmas.List.{length-map, length-set, map-set, get_or-map}
use Rattle.std.proofs.lemmas.List.Sums.{sum_by-set}
use Rattle.ps_model.specs.declared.job.JobData.{JobData}
use Rattle.stages.specs.States.{StageState, prepared_of, KeepsStage, PutsOne}
use Rattle.stages.specs.Lines.{AreStagesOf, AreFalling, Grows, AllGrow, AreSameBut}
use Rattle.stages.proofs.Tables.{either}

-- a stage that stays as it is
pub kept_same : (s : StageState) → KeepsStage s s
kept_same s = record {
  title = refl;
  ring = refl;
  capacity = refl;
  name = refl;
  more = [];
  items = sym (append-nil s.items);
  prepared = omega arith;
}

pub grows_same : (n : ℕ) (s : StageState) → Grows n s s
grows_same n s = record {
  kept = kept_same s;
  items = omega arith;
  prepared = omega arith;
  there = λ _. refl;
}

-- the items that it had
pub kept_length : (a b : StageState) → KeepsStage a b → length a.items ≤ length b.items
kept_length a b k = let e = ap length k.items ∙ length-append a.items k.more in omega arith

pub kept_twice : (a b c : StageState) → KeepsStage a b → KeepsStage b c → KeepsStage a c
kept_twice a b c k l = record {
  title = l.title ∙ k.title;
  ring = l.ring ∙ k.ring;
  capacity = l.capacity ∙ k.capacity;
  name = l.name ∙ k.name;
  more = k.more ++ l.more;
  items = l.items ∙ ap (λ xs. xs ++ l.more) k.items ∙ append_assoc a.items k.more l.more;
  prepared = let p = k.prepared in let q = l.prepared in omega arith;
}

-- a stage that grows, and grows on
pub grows_twice : (n m : ℕ) (a b c : StageState) → n ≤ m → Grows n a b → Grows m b c → Grows m a c
grows_twice n m a b c le g h = record {
  kept = kept_twice a b c g.kept h.kept;
  items = let p = g.items in let q = h.items in omega arith;
  prepared = let p = g.prepared in let q = h.prepared in omega arith;
  there = λ has. h.there (let p = kept_length a b g.kept in omega arith) ∙ g.there (omega arith);
}

-- a stage's call: it puts its next item, or prepares one degree at most
pub grows_ok : (r : ℕ) (a b : StageState) → length a.items ≡ r → KeepsStage a b → PutsOne a b → Grows (r + 1) a b
grows_ok r a b here k p = record {
  kept = k;
  items = let count = p.count in omega arith;
  prepared = let count = p.count in let prepared = p.prepared in omega arith;
  there = λ has. absurd (omega arith);
}

pub grows_err : (r : ℕ) (a b : StageState) → length a.items ≡ r → KeepsStage a b → b.items ≡ a.items
    → prepared_of b ≤ length b.items + 1 → Grows (r + 1) a b
grows_err r a b here k same ahead = let count = ap length same in record {
  kept = k;
  items = omega arith;
  prepared = omega arith;
  there = λ has. absurd (omega arith);
}

-- after either answer
pub grows_after : {T E : Type 0} (result : Result T E) (r : ℕ) (a b : StageState) → length a.items ≡ r
    → KeepsStage a b → OnOk result (PutsOne a b) → OnErr result (b.items ≡ a.items)
    → prepared_of b ≤ length b.items + 1 → Grows (r + 1) a b
grows_after result r a b here k ok err ahead =
    either result (PutsOne a b) (b.items ≡ a.items) (Grows (r + 1) a b) ok err
    (grows_ok r a b here k) (λ same. grows_err r a b here k same ahead)

-- it has its item then
pub put_more : (a b : StageState) (r : ℕ) → length a.items ≡ r → PutsOne a b → r < length b.items
put_more a b r here p = let count = p.count in omega arith

-- the list of them
pub all_same : (n : ℕ) (xs : List StageState) → AllGrow n xs xs
all_same n xs = record { count = refl; each = λ s d lt. grows_same n (get_or xs s d) }

pub all_twice : (n m : ℕ) (xs ys zs : List StageState) → n ≤ m → AllGrow n xs ys → AllGrow m ys zs → AllGrow m xs zs
all_twice n m xs ys zs le g h = record {
  count = h.count ∙ g.count;
  each = λ s d lt. grows_twice n m (get_or xs s d) (get_or ys s d) (get_or zs s d) le (g.each s d lt)
      (h.each s d (let same = g.count in omega arith));
}

-- one of them grows
pub all_set : (n : ℕ) (xs : List StageState) (i : ℕ) (x : StageState) → i < length xs
    → ((d : StageState) → Grows n (get_or xs i d) x) → AllGrow n xs (set xs i x)
all_set n xs i x lt g = record {
  count = length-set xs i x;
  each = λ s d low. elim (eqb_tells s i) [
    | inl same ↦ subst (λ t. Grows n (get_or xs t d) (get_or (set xs i x) t d)) (sym same.1)
        (subst (Grows n (get_or xs i d)) (sym (get_or-set_same xs i x d lt)) (g d))
    | inr other ↦ subst (Grows n (get_or xs s d)) (sym (get_or-set_other xs i s x d other.1))
        (grows_same n (get_or xs s d))
  ];
}

-- its row is no longer than the one before it then, and no shorter than the one behind it
pub falling_set : (r : ℕ) (xs : List StageState) (i : ℕ) (x : StageState) → i < length xs
    → ((d : StageState) → length (get_or xs i d).items ≡ r)
    → (0 < i → (d : StageState) → r < length (get_or xs (i - 1) d).items)
    → r ≤ length x.items → length x.items ≤ r + 1 → AreFalling xs → AreFalling (set xs i x)
falling_set r xs i x lt next before more low falling s d within =
    let same = length-set xs i x in
    elim (eqb_tells (suc s) i) [
      | inl here ↦
          let now = subst (λ k. get_or (set xs i x) k d ≡ x) (sym here.1) (get_or-set_same xs i x d lt) in
          let earlier = get_or-set_other xs i s x d (λ e. absurd (omega arith)) in
          let enough = before (omega arith) d in
          let place : i - 1 ≡ s = omega arith in
          let old = subst (λ k. r < length (get_or xs k d).items) place enough in
          let now_items = ap (λ (t : StageState). length t.items) now in
          let earlier_items = ap (λ (t : StageState). length t.items) earlier in
          omega arith
      | inr behind ↦ elim (eqb_tells s i) [
        | inl here ↦
            let now = subst (λ k. get_or (set xs i x) k d ≡ x) (sym here.1) (get_or-set_same xs i x d lt) in
            let later = get_or-set_other xs i (suc s) x d behind.1 in
            let old = falling s d (omega arith) in
            let count = subst (λ k. length (get_or xs k d).items ≡ r) (sym here.1) (next d) in
            let now_items = ap (λ (t : StageState). length t.items) now in
            let later_items = ap (λ (t : StageState). length t.items) later in
            omega arith
        | inr other ↦
            let first = ap (λ (t : StageState). length t.items) (get_or-set_other xs i s x d other.1) in
            let second = ap (λ (t : StageState). length t.items) (get_or-set_other xs i (suc s) x d behind.1) in
            let old = falling s d (omega arith) in
            omega arith
      ]
    ]

-- as seen of the list of stages itself
module _ {T : Type 0} (see : T → StageState) (xs : List T) (i : ℕ) (x : T) (lt : i < length xs) where
  -- what holds of the stage at a place
  pub of_stage : (P : StageState → Type 0) → ((d : StageState) → P (get_or (map see xs) i d)) → P (see (get_or xs i x))
  of_stage P h = subst P (get_or-map see xs i x (see x) lt) (h (see x))

  pub at_stage : (P : StageState → Type 0) → P (see (get_or xs i x)) → (d : StageState) → P (get_or (map see xs) i d)
  at_stage P h d = subst P (sym (get_or-map see xs i x d lt)) h

  -- there is room for its next item
  pub room_at : (r : ℕ) → ((d : StageState) → length (get_or (map see xs) i d).items ≡ r)
      → ((d : StageState) → r < (get_or (map see xs) i d).capacity)
      → length (see (get_or xs i x)).items < (see (get_or xs i x)).capacity
  room_at r next room =
      let here = of_stage (λ s. length s.items ≡ r) next in
      let more = of_stage (λ s. r < s.capacity) room in
      omega arith

  -- its title is that of the job's stage
  pub title_is : (job : JobData) → AreStagesOf job (map see xs)
      → (see (get_or xs i x)).title ≡ record { job = job; stage = i }
  title_is job line = of_stage (λ s. s.title ≡ record { job = job; stage = i })
      (λ d. line.title i d (let same = length-map xs see in omega arith))

  -- one stage changes
  pub grow_at : (n : ℕ) (y : T) → Grows n (see (get_or xs i x)) (see y) → AllGrow n (map see xs) (map see (set xs i y))
  grow_at n y g = subst (AllGrow n (map see xs)) (sym (map-set see xs i y))
      (all_set n (map see xs) i (see y) (let same = length-map xs see in omega arith)
      (λ d. subst (λ t. Grows n t (see y)) (sym (get_or-map see xs i x d lt)) g))

  -- and no other
  pub same_but_at : (y : T) → AreSameBut i (map see xs) (map see (set xs i y))
  same_but_at y s d other = ap (λ l. get_or l s d) (map-set see xs i y)
      ∙ get_or-set_other (map see xs) i s (see y) d other

  pub falling_at : (r : ℕ) (y : T) → ((d : StageState) → length (get_or (map see xs) i d).items ≡ r)
      → (0 < i → (d : StageState) → r < length (get_or (map see xs) (i - 1) d).items)
      → Grows (r + 1) (see (get_or xs i x)) (see y)
      → AreFalling (map see xs) → AreFalling (map see (set xs i y))
  falling_at r y next before g falling =
      let here = of_stage (λ s. length s.items ≡ r) next in
      let more = kept_length (see (get_or xs i x)) (see y) g.kept in
      let low = g.items in
      subst AreFalling (sym (map-set see xs i y))
      (falling_set r (map see xs) i (see y) (let same = length-map xs see in omega arith) next before (omega arith)
      (omega arith) falling)

  pub tick_at : (y : T) (before after : ℕ) → after + prepared_of (see (get_or xs i x)) ≡ before + prepared_of (see y)
      → after + sum_by prepared_of (map see xs) ≡ before + sum_by prepared_of (map see (set xs i y))
  tick_at y before after e =
      let d = see x in
      let sums = sum_by-set prepared_of (map see xs) i (see y) d (let same = length-map xs see in omega arith) in
      let at = ap prepared_of (get_or-map see xs i x d lt) in
      let changed = ap (sum_by prepared_of) (map-set see xs i y) in
      omega arith

  pub now_at : (P : StageState → Type 0) (y : T) → P (see y) → (d : StageState) → P (get_or (map see (set xs i y)) i d)
  now_at P y h d = subst P (sym (ap (λ l. get_or l i d) (map-set see xs i y)
      ∙ get_or-set_same (map see xs) i (see y) d (let same = length-map xs see in omega arith))) h
