-- Events of a schedule: what each does to the stages, and to the lengths of their rows.
use Rattle.std.proofs.Common.{◌≡◌, ℕ, zero, suc, ◌+◌, ◌-◌, ◌<◌, ◌≤◌, Bool, true, false, List, [], ◌∷◌, length, map}
use Rattle.std.proofs.Common.{get_or, set, drop, replicate, ltb, ◌==◌, ◌||◌, if◌then◌else◌, inl, inr, refl, sym}
use Rattle.std.proofs.Common.{◌∙◌, ap, subst, arith, ltb-true, ne_eqb}
use Rattle.std.proofs.lemmas.Bool.Decides.{eqb_tells}
use Rattle.std.proofs.lemmas.List.{length-map, length-set, get_or-map, get_or-set_same, get_or-set_other, ext_get_or}
use Rattle.ps_model.specs.declared.job.JobData.{JobData}
use Rattle.stages.specs.Lines.{AreStagesOf, HaveRoom, AreKept, AllGrow, AreSameBut, OfStage}
use Rattle.stages.specs.Schedules.{may_gain, after_event, lengths_after, lengths_in}
use Rattle.stages.specs.States.{StageState}
use Rattle.stages.proofs.Growth.{kept_same, kept_twice}
use Rattle.stages.proofs.LineTitles.{seen_at}

-- the stages stay the same ones
pub all_kept : (xs : List StageState) → AreKept xs xs
all_kept xs = record { count = refl; each = λ s d lt. kept_same (get_or xs s d) }

pub kept_on : (xs ys zs : List StageState) → AreKept xs ys → AreKept ys zs → AreKept xs zs
kept_on xs ys zs k l = record {
  count = l.count ∙ k.count;
  each = λ s d lt. kept_twice (get_or xs s d) (get_or ys s d) (get_or zs s d) (k.each s d lt)
      (l.each s d (let same = k.count in omega arith));
}

pub line_kept : (job : JobData) (xs ys : List StageState) → AreStagesOf job xs → AreKept xs ys → AreStagesOf job ys
line_kept job xs ys line k = record {
  accepted = line.accepted;
  count = k.count ∙ line.count;
  title = λ s d lt. let low : s < length xs = (let same = k.count in omega arith) in
      (k.each s d low).title ∙ line.title s d low;
}

pub line_through : (old new : JobData) (xs ys : List StageState) → new ≡ old → AreKept xs ys → AreStagesOf old xs
    → AreStagesOf new ys
line_through old new xs ys same k line = subst (λ job. AreStagesOf job ys) (sym same) (line_kept old xs ys line k)

-- each has as much room
room_kept : (to : ℕ) (xs ys : List StageState) → HaveRoom to xs → AreKept xs ys → HaveRoom to ys
room_kept to xs ys room k s d lt =
    let low : s < length xs = (let same = k.count in omega arith) in
    let more = room s d low in
    let same = (k.each s d low).capacity in
    omega arith

-- a length is that of its row
length_at : (xs : List StageState) (s : ℕ) (d : StageState) → s < length xs
    → get_or (lengths_in xs) s 0 ≡ length (get_or xs s d).items
length_at xs s d lt = get_or-map (λ x. length x.items) xs s d 0 lt

-- before the event i, of a stage with at most i items: there is room, and the degree may be asked for
pub room_next : (i to s : ℕ) (xs ys : List StageState) → i < to → HaveRoom to xs → AreKept xs ys
    → ((j : ℕ) → get_or (lengths_in ys) j 0 ≤ i) → s < length ys → OfStage ys s (λ x. length x.items < x.capacity)
room_next i to s xs ys lt room k few low d =
    let more = room_kept to xs ys room k s d low in
    let count = length_at ys s d low in
    let small = few s in
    omega arith

pub permitted_next : (P : ℕ → Type 0) (i to s : ℕ) (ys : List StageState) → i < to → ((r : ℕ) → r ≤ to → P r)
    → ((j : ℕ) → get_or (lengths_in ys) j 0 ≤ i) → s < length ys → OfStage ys s (λ x. P (length x.items))
permitted_next P i to s ys lt all few low d =
    let count = length_at ys s d low in
    let small = few s in
    all (length (get_or ys s d).items) (omega arith)

-- an event at which the stage gains an item, and one at which nothing changes
pub event_gains : (l : List ℕ) (s : ℕ) → may_gain l s ≡ true → after_event l s ≡ set l s (get_or l s 0 + 1)
event_gains l s may = ap (λ (b : Bool). if b then set l s (get_or l s 0 + 1) else l) may

pub event_idle : (l : List ℕ) (s : ℕ) → may_gain l s ≡ false → after_event l s ≡ l
event_idle l s may = ap (λ (b : Bool). if b then set l s (get_or l s 0 + 1) else l) may

or_right : (a b : Bool) → a ≡ false → (a || b) ≡ true → b ≡ true
or_right false b e may = may
or_right true b e may = let t : true ≡ false = e in cc

-- a later stage gains one only where the row before its own is longer
pub gains_behind : (l : List ℕ) (s : ℕ) → may_gain l s ≡ true → 0 < s → get_or l s 0 < get_or l (s - 1) 0
gains_behind l s may some = ltb-true (get_or l s 0) (get_or l (s - 1) 0)
    (or_right (s == 0) (ltb (get_or l s 0) (get_or l (s - 1) 0)) (ne_eqb s 0 (λ e. absurd (omega arith))) may)

pub before_next : (xs : List StageState) (s r : ℕ) → s < length xs → OfStage xs s (λ x. length x.items ≡ r)
    → may_gain (lengths_in xs) s ≡ true → 0 < s → OfStage xs (s - 1) (λ x. r < length x.items)
before_next xs s r lt here may some d =
    let less = gains_behind (lengths_in xs) s may some in
    let mine = length_at xs s d lt in
    let other = length_at xs (s - 1) d (omega arith) in
    let count = here d in
    omega arith

-- there is room for the item of the next degree
pub room_there : (xs : List StageState) (s r : ℕ) → OfStage xs s (λ x. length x.items ≡ r)
    → OfStage xs s (λ x. length x.items < x.capacity) → OfStage xs s (λ x. r < x.capacity)
room_there xs s r here room d =
    let count = here d in
    let more = room d in
    omega arith

-- a later stage may gain its next item where the row before its own is longer
pub may_behind : {T : Type 0} (see : T → StageState) (xs : List T) (s : ℕ) (x y : T) → 0 < s → s < length xs
    → x ≡ get_or xs (s - 1) x → y ≡ get_or xs s y
    → ltb (length (see y).items) (length (see x).items) ≡ may_gain (lengths_in (map see xs)) s
may_behind see xs s x y some lt before here =
    let before_in : s - 1 < length (map see xs) = (let count = length-map xs see in omega arith) in
    let here_in : s < length (map see xs) = (let count = length-map xs see in omega arith) in
    let other : get_or (lengths_in (map see xs)) (s - 1) 0 ≡ length (see x).items =
    length_at (map see xs) (s - 1) (see x) before_in
    ∙ ap (λ (z : StageState). length z.items) (seen_at see xs (s - 1) x (see x) before before_in) in
    let mine : get_or (lengths_in (map see xs)) s 0 ≡ length (see y).items =
    length_at (map see xs) s (see y) here_in
    ∙ ap (λ (z : StageState). length z.items) (seen_at see xs s y (see y) here here_in) in
    let later : (s == 0) ≡ false = ne_eqb s 0 (λ e. absurd (omega arith)) in
    let both : may_gain (lengths_in (map see xs)) s ≡ ltb (length (see y).items) (length (see x).items) =
    λ i. later i || ltb (mine i) (other i) in
    sym both

-- where one stage has one item more, and no other changed
one_more : (xs ys : List StageState) (s r : ℕ) (d : StageState) → s < length xs
    → OfStage xs s (λ x. length x.items ≡ r) → AllGrow (r + 1) xs ys → AreSameBut s xs ys
    → OfStage ys s (λ x. r < length x.items) → lengths_in ys ≡ set (lengths_in xs) s (get_or (lengths_in xs) s 0 + 1)
one_more xs ys s r d lt here grow same more =
    let many_x = length-map xs (λ (x : StageState). length x.items) in
    let many_y = length-map ys (λ (x : StageState). length x.items) in
    let set_same = length-set (lengths_in xs) s (get_or (lengths_in xs) s 0 + 1) in
    let count = grow.count in
    ext_get_or 0 (lengths_in ys) (set (lengths_in xs) s (get_or (lengths_in xs) s 0 + 1)) (omega arith)
    (λ j low. elim (eqb_tells j s) [
      | inl at ↦
          let now = get_or-set_same (lengths_in xs) s (get_or (lengths_in xs) s 0 + 1) 0 (omega arith) in
          let mine : get_or (lengths_in ys) s 0 ≡ get_or (lengths_in xs) s 0 + 1 =
          (let old = length_at xs s d lt in
          let new = length_at ys s d (omega arith) in
          let most = (grow.each s d lt).items in
          let least = more d in
          let was = here d in
          omega arith) in
          subst (λ k. get_or (lengths_in ys) k 0 ≡ get_or (set (lengths_in xs) s (get_or (lengths_in xs) s 0 + 1)) k 0)
          (sym at.1) (mine ∙ sym now)
      | inr other ↦
          length_at ys j d (omega arith)
          ∙ ap (λ (x : StageState). length x.items) (same j d other.1)
          ∙ sym (length_at xs j d (omega arith))
          ∙ sym (get_or-set_other (lengths_in xs) s j (get_or (lengths_in xs) s 0 + 1) 0 other.1)
    ])

-- the lengths after an event at which a stage gains its item
pub gained : {T : Type 0} (see : T → StageState) (xs : List T) (ys : List StageState) (s r : ℕ) → s < length xs
    → OfStage (map see xs) s (λ x. length x.items ≡ r) → may_gain (lengths_in (map see xs)) s ≡ true
    → AllGrow (r + 1) (map see xs) ys → AreSameBut s (map see xs) ys → OfStage ys s (λ x. r < length x.items)
    → lengths_in ys ≡ after_event (lengths_in (map see xs)) s
gained see [] ys s r lt here may grow same more = absurd (omega arith)
gained see (x ∷ xs) ys s r lt here may grow same more =
    one_more (map see (x ∷ xs)) ys s r (see x) (let count = length-map (x ∷ xs) see in omega arith) here grow same more
    ∙ sym (event_gains (lengths_in (map see (x ∷ xs))) s may)

-- no row has more items than there were events
set_small : (l : List ℕ) (s x n : ℕ) → x ≤ n → ((j : ℕ) → get_or l j 0 ≤ n) → (j : ℕ) → get_or (set l s x) j 0 ≤ n
set_small [] s x n le h j = h j
set_small (y ∷ l) zero x n le h zero = le
set_small (y ∷ l) zero x n le h (suc j) = h (suc j)
set_small (y ∷ l) (suc s) x n le h zero = h zero
set_small (y ∷ l) (suc s) x n le h (suc j) = set_small l s x n le (λ k. h (suc k)) j

step_small : (b : Bool) (l : List ℕ) (s n : ℕ) → ((j : ℕ) → get_or l j 0 ≤ n)
    → (j : ℕ) → get_or (if b then set l s (get_or l s 0 + 1) else l) j 0 ≤ n + 1
step_small true l s n h j = set_small l s (get_or l s 0 + 1) (n + 1) (let low = h s in omega arith)
    (λ k. let low = h k in omega arith) j
step_small false l s n h j = let low = h j in omega arith

pub few_after : (l m : List ℕ) (s n : ℕ) → m ≡ after_event l s → ((j : ℕ) → get_or l j 0 ≤ n)
    → (j : ℕ) → get_or m j 0 ≤ n + 1
few_after l m s n is h j = subst (λ k. get_or k j 0 ≤ n + 1) (sym is) (step_small (may_gain l s) l s n h j)

zeros : (t j : ℕ) → get_or (replicate t 0) j 0 ≤ 0
zeros zero j = omega arith
zeros (suc t) zero = omega arith
zeros (suc t) (suc j) = zeros t j

pub none_yet : (l : List ℕ) (t : ℕ) → l ≡ replicate t 0 → (j : ℕ) → get_or l j 0 ≤ 0
none_yet l t is j = subst (λ k. get_or k j 0 ≤ 0) (sym is) (zeros t j)

-- the events that are left
drop_next : (es : List ℕ) (i d : ℕ) → i < length es → drop i es ≡ get_or es i d ∷ drop (suc i) es
drop_next [] i d lt = absurd (omega arith)
drop_next (e ∷ es) zero d lt = refl
drop_next (e ∷ es) (suc i) d lt = drop_next es i d (omega arith)

pub rest_after : (l m last es : List ℕ) (i d : ℕ) → i < length es → m ≡ after_event l (get_or es i d)
    → lengths_after l (drop i es) ≡ last → lengths_after m (drop (i + 1) es) ≡ last
rest_after l m last es i d lt is so_far =
    subst (λ n. lengths_after m (drop n es) ≡ last) (let next : suc i ≡ i + 1 = omega arith in next)
    (ap (λ k. lengths_after k (drop (suc i) es)) is
    ∙ sym (ap (lengths_after l) (drop_next es i d lt))
    ∙ so_far)

drop_past : (es : List ℕ) (i : ℕ) → length es ≤ i → drop i es ≡ []
drop_past [] zero le = refl
drop_past [] (suc i) le = refl
drop_past (e ∷ es) zero le = absurd (omega arith)
drop_past (e ∷ es) (suc i) le = drop_past es i (omega arith)

pub all_done : (l last es : List ℕ) (i : ℕ) → length es ≤ i → lengths_after l (drop i es) ≡ last → l ≡ last
all_done l last es i le so_far = sym (ap (lengths_after l) (drop_past es i le)) ∙ so_far

-- the tally goes on
pub ticks_more : (before after later first now next : ℕ) → after + first ≡ before + now → later + now ≡ after + next
    → later + first ≡ before + next
ticks_more before after later first now next is more = omega arith
