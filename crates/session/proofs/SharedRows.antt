-- The readers of a session: of rows of one's own there are none, and of shared rows they stay those of the rows.
use Rattle.std.proofs.Common.{◌≡◌, ℕ, zero, suc, ◌<◌, List, [], ◌∷◌, length, map, get_or, Option, Some, None}
use Rattle.std.proofs.Common.{refl, sym, ◌∙◌, ap, subst, arith, ◌++◌, append_assoc, Result, Ok, Err, IfOk, OnOk}
use Rattle.std.specs.Prelude.{◌≢◌}
use Rattle.std.proofs.lemmas.List.{length-map}
use Rattle.ps_model.specs.AcceptedJob.{IsAccepted}
use Rattle.ps_model.specs.declared.job.JobData.{JobData}
use Rattle.parts.specs.declared.rings.Ring.{Ring}
use Rattle.stages.specs.Lines.{AreFresh, AreKept, AreStagesOf}
use Rattle.stages.specs.States.{StageState}
use Rattle.stages.proofs.LineTitles.{each_there}
use Rattle.pipe.specs.Looks.{ReaderState, KeepsReader, title_of_reader}
use Rattle.pipe.specs.Pairs.{Pairwise}
use Rattle.pipe.specs.SharedLines.{AreReadersOf, name_of_reader}
use Rattle.session.specs.Shared.{IsShared, IsReaderOf, AreRead, HaveRead, KeepsPlace, HasReaders, IsPlaceOf, ArePlacesOf, reader_at}

pub cons_not_nil : {A : Type 0} (x : A) (xs : List A) → x ∷ xs ≢ []
cons_not_nil x xs same = let l = ap length same in absurd (omega arith)

pub same_maps : {A B : Type 0} (f : A → B) (xs ys : List A) → length ys ≡ length xs
    → ((i : ℕ) (d : A) → i < length xs → f (get_or ys i d) ≡ f (get_or xs i d)) → map f ys ≡ map f xs
same_maps f [] [] count each = refl
same_maps f [] (y ∷ ys) count each = absurd (omega arith)
same_maps f (x ∷ xs) [] count each = absurd (omega arith)
same_maps f (x ∷ xs) (y ∷ ys) count each = λ i. each 0 x (omega arith) i
    ∷ same_maps f xs ys (omega arith) (λ k d lt. each (suc k) d (omega arith)) i

-- rows that all have a name are shared
pub shared_rows : {T : Type 0} (see : T → StageState) (xs : List T) → ((x : T) → (see x).name ≢ [])
    → IsShared (map see xs)
shared_rows see xs named = each_there (λ _ s. s.name ≢ []) see xs (λ k d lt. named (get_or xs k d))

-- the stage past the last
blank_stage : JobData → Ring → StageState
blank_stage job ring = record {
  title = record { job = job; stage = 0 };
  ring = ring;
  capacity = 0;
  name = [];
  items = [];
  preparation = None;
}

-- rows of one's own aren't
pub own_read : (job : JobData) (ring : Ring) (capacities : List ℕ) (states : List StageState) (readers : List ReaderState) (places : List (Option ReaderState))
    → IsAccepted job → AreFresh job ring capacities [] states → HaveRead states readers places
own_read job ring capacities states readers places ok fresh shared =
    let d = blank_stage job ring in
    let first : 0 < length states = (let count = fresh.count in let some = ok.some in omega arith) in
    absurd (shared 0 d first (ap (λ (s : StageState). s.name) (fresh.each 0 d first)))

module _ (old new : List StageState) (kept : AreKept old new) where
  shared_before : IsShared new → IsShared old
  shared_before shared s d lt none =
      shared s d (let count = kept.count in omega arith) ((kept.each s d lt).name ∙ none)

  -- the rows were raised
  pub read_after : (readers readers' : List ReaderState) (places places' : List (Option ReaderState))
      → Pairwise KeepsReader readers readers' → Pairwise KeepsPlace places places'
      → HaveRead old readers places → HaveRead new readers' places'
  read_after readers readers' places places' same stay read shared = record {
    inner = record {
      same_titles = same_maps title_of_reader readers readers' same.count (λ i d lt. (same.each i d d lt).title)
          ∙ was.inner.same_titles
          ∙ sym (same_maps (λ (s : StageState). s.title) old new kept.count (λ i d lt. (kept.each i d lt).title));
      same_names = same_maps name_of_reader readers readers' same.count (λ i d lt. (same.each i d d lt).name)
          ∙ was.inner.same_names
          ∙ sym (same_maps (λ (s : StageState). s.name) old new kept.count (λ i d lt. (kept.each i d lt).name));
    };
    count = stay.count ∙ was.count ∙ sym kept.count;
    outer = λ i d reader lt there.
        let low : i < length old = (let count = kept.count in omega arith) in
        by i d reader low (reader_at places i) refl
        (subst (KeepsPlace (reader_at places i)) there (stay.each i None None (let count = was.count in omega arith)));
  }
    where
      was : AreRead old readers places
      was = read (shared_before shared)

      by : (i : ℕ) (d : StageState) (reader : ReaderState) → i < length old → (place : Option ReaderState)
          → reader_at places i ≡ place → KeepsPlace place (Some reader) → IsReaderOf (get_or new i d) reader
      by i d reader low None is stays = absurd stays
      by i d reader low (Some before) is stays =
          let of = was.outer i d before low is in
          record {
            title = stays.title ∙ of.title ∙ sym (kept.each i d low).title;
            name = stays.name ∙ of.name ∙ sym (kept.each i d low).name;
          }

pub keeps_same : (place : Option ReaderState) → KeepsPlace place place
keeps_same None = tt
keeps_same (Some reader) = record { title = refl; name = refl; seen = omega arith; told = refl }

pub readers_same : (readers : List ReaderState) → Pairwise KeepsReader readers readers
readers_same readers = record {
  count = refl;
  each = λ i d e lt. subst (KeepsReader (get_or readers i d)) (default_any readers i d e lt)
      (record { title = refl; name = refl; seen = omega arith; told = refl });
}
  where
    default_any : (xs : List ReaderState) (i : ℕ) (d e : ReaderState) → i < length xs → get_or xs i d ≡ get_or xs i e
    default_any [] i d e lt = absurd (omega arith)
    default_any (x ∷ xs) zero d e lt = refl
    default_any (x ∷ xs) (suc i) d e lt = default_any xs i d e (omega arith)

pub places_same : (places : List (Option ReaderState)) → Pairwise KeepsPlace places places
places_same places = record {
  count = refl;
  each = λ i d e lt. subst (KeepsPlace (get_or places i d)) (default_any places i d e lt)
      (keeps_same (get_or places i d));
}
  where
    default_any : (xs : List (Option ReaderState)) (i : ℕ) (d e : Option ReaderState) → i < length xs
        → get_or xs i d ≡ get_or xs i e
    default_any [] i d e lt = absurd (omega arith)
    default_any (x ∷ xs) zero d e lt = refl
    default_any (x ∷ xs) (suc i) d e lt = default_any xs i d e (omega arith)

-- nothing was raised
pub read_still : (states : List StageState) (readers : List ReaderState) (places : List (Option ReaderState))
    → HaveRead states readers places → HaveRead states readers places
read_still states readers places read = read

-- where all readers are there, they are those of the job's rows
pub places_there : (job : JobData) (states : List StageState) (readers : List ReaderState)
    (places : List (Option ReaderState)) → AreStagesOf job states → AreRead states readers places
    → HasReaders (length job.roots) places → Ring → ArePlacesOf job places
places_there job states readers places stages read have ring = record {
  count = read.count ∙ stages.count;
  each = λ i lt. by i (let count = read.count in omega arith) (reader_at places i) refl;
}
  where
    by : (i : ℕ) → i < length states → (place : Option ReaderState) → reader_at places i ≡ place
        → IsPlaceOf job i place
    by i lt None is = absurd (have i (let count = stages.count in omega arith) is)
    by i lt (Some reader) is = record {
      reader = reader;
      there = refl;
      title = (read.outer i (blank_stage job ring) reader lt is).title ∙ stages.title i (blank_stage job ring) lt;
    }

-- there are as many readers as rows
pub inner_count : (states : List StageState) (readers : List ReaderState) → AreReadersOf states readers
    → length readers ≡ length states
inner_count states readers are = sym (length-map readers title_of_reader) ∙ ap length are.same_titles
    ∙ length-map states (λ s. s.title)

-- a reader is put at a place behind the others
pub moved_on : {A : Type 0} (places all whole : List (Option A)) (rs rest : List A) (r : A)
    → places ++ map (λ x. Some x) rs ≡ whole → rs ≡ r ∷ rest → all ≡ places ++ Some r ∷ []
    → all ++ map (λ x. Some x) rest ≡ whole
moved_on places all whole rs rest r moved is pushed = ap (λ l. l ++ map (λ x. Some x) rest) pushed
    ∙ append_assoc places (Some r ∷ []) (map (λ x. Some x) rest)
    ∙ ap (λ l. places ++ map (λ x. Some x) l) (sym is) ∙ moved

-- lists in a relation, by other names
pub pairs_as : {U V : Type 0} (Rel : V → V → Type 0) (look : U → V) (us vs ws xs : List U) → vs ≡ us → xs ≡ ws
    → Pairwise Rel (map look vs) (map look ws) → Pairwise Rel (map look us) (map look xs)
pairs_as Rel look us vs ws xs same same_too pairs = subst (λ l. Pairwise Rel (map look us) (map look l)) (sym same_too)
    (subst (λ l. Pairwise Rel (map look l) (map look ws)) same pairs)

-- what an answer is, by another name
pub if_ok_same : {A E V : Type 0} (r : Result A E) (f : A → V) (x y : V) → x ≡ y → IfOk r (λ a. f a ≡ x)
    → IfOk r (λ a. f a ≡ y)
if_ok_same (Ok a) f x y same is = is ∙ same
if_ok_same (Err e) f x y same is = tt

pub on_ok_by : {A E P Q : Type 0} (r : Result A E) → (P → Q) → OnOk r P → OnOk r Q
on_ok_by (Ok a) f h = f h
on_ok_by (Err e) f h = tt
