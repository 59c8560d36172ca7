-- The stages of a line: what stands unpublished is published, and then they are raised.
use Rattle.std.proofs.Common.{◌≡◌, ℕ, zero, suc, ◌+◌, ◌<◌, ◌≤◌, List, [], ◌∷◌, ◌++◌, length, map, get_or, set, sum_by}
use Rattle.std.proofs.Common.{refl, sym, ◌∙◌, ap, ap₂, length-append, subst, arith, inl, inr, get_or-set_same, get_or-set_other}
use Rattle.std.specs.List.{All}
use Rattle.std.proofs.lemmas.Bool.Decides.{eqb_tells}
use Rattle.std.proofs.lemmas.List.{length-map, map-set, map-append, get_or-map}
use Rattle.pipe.specs.Pairs.{Pairwise}
use Rattle.pipe.specs.Works.{WorkState, Works, IsShown, count_of, prepared_in}
use Rattle.pipe.specs.Extends.{CanExtend, IsExtended, SameStage}
use Rattle.std.proofs.lemmas.List.{get_or_append_left}
use Rattle.std.proofs.lemmas.List.Sums.{sum_by-cons}
use Rattle.stages.proofs.Growth.{kept_same}
use Rattle.stages.specs.States.{StageState, KeepsStage, prepared_of}
use Rattle.stages.specs.Titles.{TitleValue}
use Rattle.stages.proofs.LineTitles.{place-title, line-count, few_roots}
use Rattle.ps_model.specs.declared.job.JobData.{JobData}
use Rattle.pipe.specs.Looks.{ReaderState, KeepsReader}
use Rattle.pipe.specs.Runs.{CanRun, CanRunFirst, Runs, RunsFirst, IsRaised, IsRaisedFirst}
use Rattle.pipe.proofs.Keeping.{reader_same}
use Rattle.pipe.proofs.PairLists.{pairwise_same, pairwise_set, pairwise_append}
use Rattle.pipe.proofs.Raises.{works_on}

-- the first i stages have published all
pub record Publishing (i : ℕ) (ws ws' : List WorkState) : Type 0 where
  pub same : Pairwise SameStage ws ws'
  pub shown : (s : ℕ) (d : WorkState) → s < i → IsShown (get_or ws' s d)

pub publishing_none : (ws : List WorkState) → Publishing 0 ws ws
publishing_none ws = record { same = pairwise_same SameStage (λ w. refl) ws; shown = λ s d lt. absurd (omega arith) }

module _ {T : Type 0} (see : T → WorkState) (i : ℕ) (ws : List WorkState) (xs : List T) (at : i < length ws) (x : T)
    (so_far : Publishing i ws (map see xs)) where
  in_list : i < length xs
  in_list = let c = so_far.same.count in let d = length-map xs see in omega arith

  here : get_or (map see xs) i (see x) ≡ see (get_or xs i x)
  here = get_or-map see xs i x (see x) in_list

  pub same_on : (y : T) → SameStage (see (get_or xs i x)) (see y) → Pairwise SameStage ws (map see (set xs i y))
  same_on y same = subst (Pairwise SameStage ws) (sym (map-set see xs i y))
      (pairwise_set SameStage ws (map see xs) i (see y) so_far.same at
      (λ d. same ∙ ap (λ w. w.stage) (sym here) ∙ so_far.same.each i d (see x) at))

  pub publish_more : (y : T) → SameStage (see (get_or xs i x)) (see y) → IsShown (see y)
      → Publishing (i + 1) ws (map see (set xs i y))
  publish_more y same shown = record {
    same = same_on y same;
    shown = λ s d low. subst (λ l. IsShown (get_or l s d)) (sym (map-set see xs i y)) (elim (eqb_tells s i) [
      | inl e ↦ subst (λ k. IsShown (get_or (set (map see xs) i (see y)) k d)) (sym e.1)
          (subst IsShown (sym (get_or-set_same (map see xs) i (see y) d (let c = so_far.same.count in omega arith))) shown)
      | inr other ↦ subst IsShown (sym (get_or-set_other (map see xs) i s (see y) d other.1))
          (so_far.shown s d (let o = other.1 in omega arith))
    ]);
  }

  pub publish_skip : IsShown (see (get_or xs i x)) → Publishing (i + 1) ws (map see xs)
  publish_skip shown = record {
    same = so_far.same;
    shown = λ s d low. elim (eqb_tells s i) [
      | inl e ↦ subst (λ k. IsShown (get_or (map see xs) k d)) (sym e.1)
          (subst IsShown (sym (get_or-map see xs i x d in_list)) shown)
      | inr other ↦ so_far.shown s d (let o = other.1 in omega arith)
    ];
  }

pub publish_moved : {T : Type 0} (see : T → WorkState) (i : ℕ) (ws : List WorkState) (xs ys : List T) → ys ≡ xs
    → Publishing i ws (map see xs) → Publishing i ws (map see ys)
publish_moved see i ws xs ys e h = subst (λ l. Publishing i ws (map see l)) (sym e) h

tail_all : {X : Type 0} (P : X → Type 0) (x : X) (xs : List X) → All P (x ∷ xs) → All P xs
tail_all P x xs h k d lt = h (suc k) d (omega arith)

cons_all : {X : Type 0} (P : X → Type 0) (x : X) (xs : List X) → P x → All P xs → All P (x ∷ xs)
cons_all P x xs p h zero d lt = p
cons_all P x xs p h (suc k) d lt = h k d (omega arith)

cons_pairs : {A B : Type 0} (Rel : A → B → Type 0) (x : A) (y : B) (xs : List A) (ys : List B) → Rel x y → Pairwise Rel xs ys
    → Pairwise Rel (x ∷ xs) (y ∷ ys)
cons_pairs Rel x y xs ys r p = record { count = ap suc p.count; each = places Rel x y xs ys r p.each }
  where
    places : {A B : Type 0} (Rel : A → B → Type 0) (x : A) (y : B) (xs : List A) (ys : List B) → Rel x y
        → ((i : ℕ) (d : A) (e : B) → i < length xs → Rel (get_or xs i d) (get_or ys i e))
        → (i : ℕ) (d : A) (e : B) → i < length (x ∷ xs) → Rel (get_or (x ∷ xs) i d) (get_or (y ∷ ys) i e)
    places Rel x y xs ys r each zero d e lt = r
    places Rel x y xs ys r each (suc i) d e lt = each i d e (omega arith)

-- the first stage, and the others
module _ (job : JobData) (to : ℕ) (w : WorkState) (us : List WorkState) (rs qs : List ReaderState) (t : ℕ)
    (can : CanExtend job to (w ∷ us) (rs ++ qs) t) (shown : All IsShown (w ∷ us)) where
  first_can : CanRunFirst to job w
  first_can = record {
    title = place-title (λ (v : WorkState). v.stage.title) job (w ∷ us) can.titles 0 w (omega arith);
    accepted = can.accepted;
    permitted = can.permitted;
    room = can.room 0 w (omega arith);
    shown = shown 0 w (omega arith);
    small = can.small 0 w (omega arith);
  }

  others_can : length rs ≡ length us → CanRun to us rs t
  others_can same = record {
    behind = record {
      count = sym same;
      each = λ i d e lt.
          let reader = ap (λ (v : ReaderState). v.title) (sym (get_or_append_left rs qs d i lt))
          ∙ place-title (λ (v : ReaderState). v.title) job (rs ++ qs) can.inner i d
          (let k = length-append rs qs in omega arith) in
          let work = place-title (λ (v : WorkState). v.stage.title) job (w ∷ us) can.titles (suc i) e (omega arith) in
          record {
            job = ap (λ (v : TitleValue). v.job) work ∙ sym (ap (λ (v : TitleValue). v.job) reader);
            stage = ap (λ (v : TitleValue). v.stage) work ∙ sym (ap (λ (v : TitleValue). suc v.stage) reader);
          };
    };
    room = tail_all (λ v. to < v.stage.capacity) w us can.room;
    shown = tail_all IsShown w us shown;
    permitted = let p = can.permitted.0 in omega arith;
    small = tail_all (λ v. prepared_in v ≤ 4097) w us can.small;
    few =
        let f = few_roots job can.accepted in
        let c = line-count (λ (v : WorkState). v.stage.title) job (w ∷ us) can.titles in
        omega arith;
    tally = can.tally;
  }

-- both together
line_runs : (n : ℕ) (w w' : WorkState) (us us' : List WorkState) (rs rs' qs : List ReaderState) (t t' : ℕ)
    → RunsFirst n w w' us us' rs rs' t t' → Runs n (w ∷ us) (w' ∷ us') (rs ++ qs) (rs' ++ qs) t t'
line_runs n w w' us us' rs rs' qs t t' runs = record {
  works = cons_pairs (Works n) w w' us us' runs.first runs.works;
  readers = pairwise_append KeepsReader rs qs rs' qs runs.readers (pairwise_same KeepsReader reader_same qs);
  ticks =
      let e = runs.ticks in
      let a = sum_cons w us in
      let b = sum_cons w' us' in
      omega arith;
}
  where
    sum_cons : (w : WorkState) (us : List WorkState) → sum_by prepared_in (w ∷ us) ≡ prepared_in w + sum_by prepared_in us
    sum_cons w us = sum_by-cons prepared_in w us

line_raised : (n : ℕ) (w w' : WorkState) (us us' : List WorkState) (rs' qs : List ReaderState) → IsRaisedFirst n w'
    → IsRaised n us us' rs' → IsExtended n (w ∷ us) (w' ∷ us') (rs' ++ qs)
line_raised n w w' us us' rs' qs first raised = record {
  have = cons_all (λ v. n ≤ count_of v) w' us' first.have raised.have;
  shown = cons_all IsShown w' us' first.shown raised.shown;
  seen = λ s d e lt few. subst (λ v. n ≤ v.seen)
      (sym (get_or_append_left rs' qs e s (let c = raised.seen.count in omega arith)))
      (raised.seen.each s d e (omega arith) few);
}

-- as seen of the lists themselves
module _ {T U : Type 0} (see : T → WorkState) (look : U → ReaderState) (all later : List T) (x : T) (every c d : List U)
    (cut : all ≡ x ∷ later) (cut_too : every ≡ c ++ d) where
  line_is : map see all ≡ see x ∷ map see later
  line_is = ap (map see) cut

  readers_are : map look every ≡ map look c ++ map look d
  readers_are = ap (map look) cut_too ∙ map-append look c d

  parted : (job : JobData) (to t : ℕ) → CanExtend job to (map see all) (map look every) t
      → CanExtend job to (see x ∷ map see later) (map look c ++ map look d) t
  parted job to t can = subst (λ ws. CanExtend job to ws (map look c ++ map look d) t) line_is
      (subst (λ rs. CanExtend job to (map see all) rs t) readers_are can)

  pub first_can_run : (job : JobData) (to t : ℕ) → CanExtend job to (map see all) (map look every) t
      → All IsShown (map see all) → CanRunFirst to job (see x)
  first_can_run job to t can shown = first_can job to (see x) (map see later) (map look c) (map look d) t
      (parted job to t can) (subst (All IsShown) line_is shown)

  pub others_can_run : (job : JobData) (to t : ℕ) → length c ≡ length later
      → CanExtend job to (map see all) (map look every) t → All IsShown (map see all)
      → CanRun to (map see later) (map look c) t
  others_can_run job to t same can shown = others_can job to (see x) (map see later) (map look c) (map look d) t
      (parted job to t can) (subst (All IsShown) line_is shown)
      (length-map c look ∙ same ∙ sym (length-map later see))

  pub line_has_run : (n : ℕ) (w' : WorkState) (us' : List WorkState) (c' : List U) (t t' : ℕ)
      → RunsFirst n (see x) w' (map see later) us' (map look c) (map look c') t t'
      → Runs n (map see all) (w' ∷ us') (map look every) (map look (c' ++ d)) t t'
  line_has_run n w' us' c' t t' runs =
      subst (λ ws. Runs n ws (w' ∷ us') (map look every) (map look (c' ++ d)) t t') (sym line_is)
      (subst (λ rs. Runs n (see x ∷ map see later) (w' ∷ us') rs (map look (c' ++ d)) t t') (sym readers_are)
      (subst (λ rs. Runs n (see x ∷ map see later) (w' ∷ us') (map look c ++ map look d) rs t t') (sym (map-append look c' d))
      (line_runs n (see x) w' (map see later) us' (map look c) (map look c') (map look d) t t' runs)))

  pub line_is_raised : (n : ℕ) (w' : WorkState) (us' : List WorkState) (c' : List U) → IsRaisedFirst n w'
      → IsRaised n (map see later) us' (map look c') → IsExtended n (map see all) (w' ∷ us') (map look (c' ++ d))
  line_is_raised n w' us' c' first raised =
      subst (λ ws. IsExtended n ws (w' ∷ us') (map look (c' ++ d))) (sym line_is)
      (subst (IsExtended n (see x ∷ map see later) (w' ∷ us')) (sym (map-append look c' d))
      (line_raised n (see x) w' (map see later) us' (map look c') (map look d) first raised))

-- after what stood unpublished was published
pub same_works : (n : ℕ) (ws vs : List WorkState) → Pairwise SameStage ws vs → Pairwise (Works n) ws vs
same_works n ws vs p = record {
  count = p.count;
  each = λ i d e lt. works (get_or ws i d) (get_or vs i e) (p.each i d e lt);
}
  where
    works : (w v : WorkState) → SameStage w v → Works n w v
    works w v e = record {
      kept = subst (KeepsStage w.stage) (sym e) (kept_same w.stage);
      items = let h = ap (λ (s : StageState). length s.items) e in omega arith;
      prepared = let h = ap prepared_of e in omega arith;
    }

later_pairs : {A B : Type 0} (Rel : A → B → Type 0) (x : A) (y : B) (xs : List A) (ys : List B)
    → Pairwise Rel (x ∷ xs) (y ∷ ys) → Pairwise Rel xs ys
later_pairs Rel x y xs ys p = record {
  count = let c = p.count in omega arith;
  each = λ i d e lt. p.each (suc i) d e (omega arith);
}

same_titles : (ws vs : List WorkState) → Pairwise SameStage ws vs
    → map (λ (w : WorkState). w.stage.title) vs ≡ map (λ (w : WorkState). w.stage.title) ws
same_titles [] [] p = refl
same_titles [] (v ∷ vs) p = absurd (let c = p.count in omega arith)
same_titles (w ∷ ws) [] p = absurd (let c = p.count in omega arith)
same_titles (w ∷ ws) (v ∷ vs) p = ap₂ (λ s l. s ∷ l) (ap (λ (s : StageState). s.title) (p.each 0 w v (omega arith)))
    (same_titles ws vs (later_pairs SameStage w v ws vs p))

same_sums : (ws vs : List WorkState) → Pairwise SameStage ws vs → sum_by prepared_in vs ≡ sum_by prepared_in ws
same_sums [] [] p = refl
same_sums [] (v ∷ vs) p = absurd (let c = p.count in omega arith)
same_sums (w ∷ ws) [] p = absurd (let c = p.count in omega arith)
same_sums (w ∷ ws) (v ∷ vs) p =
    let a = sum_by-cons prepared_in w ws in
    let b = sum_by-cons prepared_in v vs in
    let c = ap prepared_of (p.each 0 w v (omega arith)) in
    let d = same_sums ws vs (later_pairs SameStage w v ws vs p) in
    omega arith

pub published_can : (job : JobData) (to : ℕ) (ws vs : List WorkState) (rs : List ReaderState) (t : ℕ)
    → CanExtend job to ws rs t → Pairwise SameStage ws vs → CanExtend job to vs rs t
published_can job to ws vs rs t can p = record {
  titles = same_titles ws vs p ∙ can.titles;
  inner = can.inner;
  room = λ i d lt.
      let c = p.count in
      let room = can.room i d (omega arith) in
      let same = ap (λ (s : StageState). s.capacity) (p.each i d d (omega arith)) in
      omega arith;
  accepted = can.accepted;
  permitted = can.permitted;
  small = λ i d lt.
      let c = p.count in
      let small = can.small i d (omega arith) in
      let same = ap prepared_of (p.each i d d (omega arith)) in
      omega arith;
  tally = can.tally;
}

pub published_runs : (n : ℕ) (ws vs us : List WorkState) (rs qs : List ReaderState) (t u : ℕ) → Pairwise SameStage ws vs
    → Runs n vs us rs qs t u → Runs n ws us rs qs t u
published_runs n ws vs us rs qs t u p runs = record {
  works = works_on n n (omega arith) ws vs us (same_works n ws vs p) runs.works;
  readers = runs.readers;
  ticks = let e = runs.ticks in let s = same_sums ws vs p in omega arith;
}

pub published_extended : (n : ℕ) (ws vs us : List WorkState) (qs : List ReaderState) → Pairwise SameStage ws vs
    → IsExtended n vs us qs → IsExtended n ws us qs
published_extended n ws vs us qs p h = record {
  have = h.have;
  shown = h.shown;
  seen = λ s d e lt few. h.seen s d e (let c = p.count in omega arith)
      (let same = ap (λ (x : StageState). length x.items) (p.each (suc s) d d lt) in omega arith);
}
