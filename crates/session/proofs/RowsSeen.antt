-- What was seen of rows, row by row: of new rows nothing, and an item more of one row.
use Rattle.std.proofs.Common.{◌≡◌, ℕ, zero, suc, ◌+◌, ◌<◌, ◌≤◌, ◌↔◌, Bool, IsTrue, List, [], ◌∷◌, ◌++◌, length, map}
use Rattle.std.proofs.Common.{get_or, set, replicate, Some, refl, sym, ◌∙◌, ap, subst, arith}
use Rattle.std.specs.Prelude.{◌≢◌, slice_get}
use Rattle.std.proofs.lemmas.List.{length-map, length-set, length-append, map-set, get_or-map, get_or-set_same}
use Rattle.std.proofs.lemmas.List.{get_or-set_other, get_or-replicate}
use Rattle.std.proofs.lemmas.Option.{slice_get-get_or}
use Rattle.ps_model.specs.AcceptedJob.{IsAccepted}
use Rattle.ps_model.specs.Job.{job_ring}
use Rattle.ps_model.specs.Lead.{IsLeadShown}
use Rattle.ps_model.specs.declared.job.JobData.{JobData}
use Rattle.parts.specs.JobRows.{IsRingOf, IsPermitted}
use Rattle.parts.specs.PartValue.{PartValue}
use Rattle.parts.specs.Rings.{weights_of}
use Rattle.parts.specs.declared.rings.Ring.{Ring}
use Rattle.stages.specs.Items.{StageItemValue, IsItem}
use Rattle.stages.specs.Lines.{AreStagesOf}
use Rattle.stages.specs.States.{StageState}
use Rattle.stages.specs.Titles.{TitleValue}
use Rattle.stages.proofs.LineTitles.{seen_at, holds_at, each_there}
use Rattle.expr_reader.specs.NameLists.{as_names}
use Rattle.session.specs.Leads.{AreLeadParts}
use Rattle.session.specs.Precisions.{IsGreatestPermitted}
use Rattle.session.specs.Seen.{row_state, seen_state, IsLevel, KeepsSeen}
use Rattle.session.specs.Sessions.{SessionState, IsSession}
use Rattle.session.proofs.Opened.{same_weights}

-- an element is replaced by one that f can't tell from it
set_keeps : {A B : Type 0} (f : A → B) (xs : List A) (i : ℕ) (y : A) → ((d : A) → f y ≡ f (get_or xs i d)) → (j : ℕ)
    (d : A) → f (get_or (set xs i y) j d) ≡ f (get_or xs j d)
set_keeps f [] i y same j d = refl
set_keeps f (x ∷ xs) zero y same zero d = same d
set_keeps f (x ∷ xs) zero y same (suc j) d = refl
set_keeps f (x ∷ xs) (suc i) y same zero d = refl
set_keeps f (x ∷ xs) (suc i) y same (suc j) d = set_keeps f xs i y same j d

module _ {T : Type 0} (rows : List T) (title : T → TitleValue) (capacity : T → ℕ) (items : T → List StageItemValue)
    (ring : Ring) where
  abbrev see : T → StageState
  see = row_state title capacity items ring

  pub row_count : length (map see rows) ≡ length rows
  row_count = length-map rows see

  -- a row at its place
  pub row_at_place : (i : ℕ) (x : T) (d : StageState) → x ≡ get_or rows i x → i < length (map see rows)
      → get_or (map see rows) i d ≡ see x
  row_at_place i x d is lt = seen_at see rows i x d is lt

  pub item_fits : (job : JobData) (i : ℕ) (x : T) (item : StageItemValue) → x ≡ get_or rows i x
      → i < length (map see rows) → AreStagesOf job (map see rows)
      → ((d : StageState) → IsItem (record { job = job; stage = i }) (length (get_or (map see rows) i d).items) item)
      → IsItem (title x) (length (items x)) item
  item_fits job i x item is lt line fits = holds_at (λ s. IsItem s.title (length s.items) item) see rows i x is lt
      (λ d. subst (λ t. IsItem t (length (get_or (map see rows) i d).items) item) (sym (line.title i d lt)) (fits d))

  pub room_there : (i : ℕ) (x : T) → x ≡ get_or rows i x → i < length (map see rows)
      → ((d : StageState) → length (get_or (map see rows) i d).items < (get_or (map see rows) i d).capacity)
      → length (items x) < capacity x
  room_there i x is lt room = holds_at (λ s. length s.items < s.capacity) see rows i x is lt room

  pub title_there : (job : JobData) (i : ℕ) (x : T) → x ≡ get_or rows i x → i < length (map see rows)
      → AreStagesOf job (map see rows) → title x ≡ record { job = job; stage = i }
  title_there job i x is lt line = holds_at (λ s. s.title ≡ record { job = job; stage = i }) see rows i x is lt
      (λ d. line.title i d lt)

  module _ (names : List (List ℕ)) (job : JobData) (shows_lead : Bool) (lead : List PartValue) where
    abbrev seen : List StageState → SessionState
    seen stages = seen_state names job ring shows_lead stages lead

    -- new rows
    module _ (greatest : ℕ) (is : IsGreatestPermitted (weights_of ring) greatest)
        (count : length rows ≡ length job.roots)
        (titles : (s : ℕ) (row : T) → slice_get rows s ≡ Some row → title row ≡ record { job = job; stage = s })
        (capacities : map capacity rows ≡ replicate (length job.roots) (greatest + 1)) where
      capacity_at : (k : ℕ) (d : T) → k < length rows → capacity (get_or rows k d) ≡ greatest + 1
      capacity_at k d lt = sym (get_or-map capacity rows k d 0 lt) ∙ ap (λ l. get_or l k 0) capacities
          ∙ get_or-replicate (length job.roots) k (greatest + 1) 0 (let same = count in omega arith)

      pub new_holds : IsAccepted job → job.n ≤ length (as_names names) → IsRingOf ring job
          → IsTrue shows_lead ↔ IsLeadShown (job_ring job) job.expr → AreLeadParts job lead → length lead ≤ 4096
          → IsSession (seen (map see rows))
      new_holds ok named is_ring shown are few = record {
        ring_is = is_ring;
        named = named;
        shown = shown;
        of_job = record {
          accepted = ok;
          count = length-map rows see ∙ count;
          title = each_there (λ k s. s.title ≡ record { job = job; stage = k }) see rows
              (λ k d lt. titles k (get_or rows k d) (slice_get-get_or rows k d lt));
        };
        room = λ d also i x lt.
            let low = is.greatest d (subst (λ ws. IsPermitted ws d) (sym (same_weights ring job is_ring)) also) in
            let here = each_there (λ _ s. s.capacity ≡ greatest + 1) see rows capacity_at i x lt in
            omega arith;
        lead = are;
        few = few;
      }

    pub new_level : ((s : ℕ) (row : T) → slice_get rows s ≡ Some row → items row ≡ [])
        → IsLevel 0 (seen (map see rows))
    new_level empty i d lt = each_there (λ _ s. length s.items ≡ 0) see rows
        (λ k e low. ap length (empty k (get_or rows k e) (slice_get-get_or rows k e low))) i d lt

    -- an item more
    module _ (i : ℕ) (x y : T) (item : StageItemValue) (is : x ≡ get_or rows i x) (low : i < length (map see rows))
        (same_title : title y ≡ title x) (same_capacity : capacity y ≡ capacity x)
        (more : items y ≡ items x ++ item ∷ []) where
      abbrev there : (d : StageState) → get_or (map see rows) i d ≡ see x
      there d = row_at_place i x d is low

      abbrev set_is : map see (set rows i y) ≡ set (map see rows) i (see y)
      set_is = map-set see rows i y

      count_same : length (map see (set rows i y)) ≡ length (map see rows)
      count_same = ap length set_is ∙ length-set (map see rows) i (see y)

      keeps : {B : Type 0} (f : StageState → B) → f (see y) ≡ f (see x) → (j : ℕ) (d : StageState)
          → f (get_or (map see (set rows i y)) j d) ≡ f (get_or (map see rows) j d)
      keeps f same j d = ap (λ (l : List StageState). f (get_or l j d)) set_is
          ∙ set_keeps f (map see rows) i (see y) (λ e. same ∙ ap f (sym (there e))) j d

      pub put_holds : IsSession (seen (map see rows)) → IsSession (seen (map see (set rows i y)))
      put_holds holds = record {
        ring_is = holds.ring_is;
        named = holds.named;
        shown = holds.shown;
        of_job = record {
          accepted = holds.of_job.accepted;
          count = count_same ∙ holds.of_job.count;
          title = λ j d lt. keeps (λ s. s.title) same_title j d
              ∙ holds.of_job.title j d (let same = count_same in omega arith);
        };
        room = λ d also j e lt.
            let was = holds.room d also j e (let same = count_same in omega arith) in
            let still = keeps (λ s. s.capacity) same_capacity j e in
            omega arith;
        lead = holds.lead;
        few = holds.few;
      }

      pub put_same : KeepsSeen (seen (map see rows)) (seen (map see (set rows i y)))
      put_same = record {
        job = refl;
        lead = refl;
        count = count_same;
        capacity = λ j d lt. keeps (λ s. s.capacity) same_capacity j d;
      }

      pub put_more : (d : StageState) → length (get_or (map see (set rows i y)) i d).items
          ≡ length (get_or (map see rows) i d).items + 1
      put_more d =
          ap (λ (l : List StageState). length (get_or l i d).items) set_is
          ∙ ap (λ (s : StageState). length s.items) (get_or-set_same (map see rows) i (see y) d low)
          ∙ ap length more ∙ length-append (items x) (item ∷ [])
          ∙ ap (λ (s : StageState). length s.items + 1) (sym (there d))

      pub put_others : (j : ℕ) (d : StageState) → j ≢ i
          → get_or (map see (set rows i y)) j d ≡ get_or (map see rows) j d
      put_others j d other = ap (λ (l : List StageState). get_or l j d) set_is
          ∙ get_or-set_other (map see rows) i j (see y) d other
