-- Rows that are made one after another, each with its readers, and the stages over them.
use Rattle.std.proofs.Common.{◌≡◌, ℕ, suc, ◌+◌, ◌<◌, ◌≤◌, List, [], ◌∷◌, ◌++◌, length, map, replicate}
use Rattle.std.proofs.Common.{get_or, slice_get, Some, refl, sym, ◌∙◌, ap, subst, arith, length-append}
use Rattle.std.specs.List.{All}
use Rattle.std.specs.declared.sync.Arc.{Arc}
use Rattle.std.specs.declared.alloc.Global.{Global}
use Rattle.std.proofs.lemmas.List.{get_or-map, length-map, map_push}
use Rattle.std.proofs.lemmas.Option.{slice_get-get_or}
use Rattle.std.proofs.lemmas.List.Elements.{All-append, All-cons, All-nil}
use Rattle.left_right.specs.declared.Absorb.{Ghosts as AbsorbGhosts}
use Rattle.ps_model.specs.declared.job.JobData.{JobData}
use Rattle.parts.specs.declared.rings.Ring.{Ring}
use Rattle.rows.specs.Readers.{IsFresh}
use Rattle.rows.specs.Writers.{writer_title, writer_items, writer_capacity}
use Rattle.rows.specs.declared.item.RowItem.{Ghosts}
use Rattle.rows.specs.declared.copies.RowCopy.{RowCopy}
use Rattle.rows.specs.declared.shared.RowReader.{RowReader}
use Rattle.rows.specs.declared.shared.RowWriter.{RowWriter}
use Rattle.stages.specs.Items.{StageItemValue}
use Rattle.stages.specs.Lines.{AreFresh}
use Rattle.stages.specs.States.{StageState}
use Rattle.stages.specs.Titles.{TitleValue}
use Rattle.stages.proofs.EmptyRows.{each_pushed, same_pushed}
use Rattle.pipe.specs.Looks.{ReaderState, title_of_reader}
use Rattle.pipe.specs.Made.{AreNewRows}
use Rattle.pipe.specs.SharedLines.{AreOfRows, AreReadersOf, IsNewReader, IsUnread, name_of_reader}

pub one_more : {A : Type 0} (xs all : List A) (x : A) (n : ℕ) → all ≡ xs ++ x ∷ [] → length xs ≡ n
    → length all ≡ n + 1
one_more xs all x n is count = let a = ap length is in let b = length-append xs (x ∷ []) in omega arith

pub all_pushed : {A : Type 0} (P : A → Type 0) (xs all : List A) (x : A) → all ≡ xs ++ x ∷ [] → All P xs → P x
    → All P all
all_pushed P xs all x is each here = subst (All P) (sym is)
    (All-append P xs (x ∷ []) each (All-cons P x [] here (All-nil P)))

-- one row more
module _ {S : Type 0} {g : Ghosts StageItemValue TitleValue}
    {a : AbsorbGhosts (RowCopy StageItemValue TitleValue) (Arc StageItemValue Global) S} where
  pub new_rows_more : (job : JobData) (capacity n : ℕ) (xs all : List (RowWriter StageItemValue TitleValue S g a))
      (x : RowWriter StageItemValue TitleValue S g a) → all ≡ xs ++ x ∷ [] → AreNewRows job capacity n xs
      → writer_title x ≡ record { job = job; stage = n } → writer_items x ≡ [] → writer_capacity x ≡ capacity
      → AreNewRows job capacity (n + 1) all
  new_rows_more job capacity n xs all x is rows title empty room = record {
    count = one_more xs all x n is rows.count;
    titles = each_pushed (λ s row. writer_title row ≡ record { job = job; stage = s }) xs all x n rows.count is
        rows.titles title;
    empty = each_pushed (λ s row. writer_items row ≡ []) xs all x n rows.count is rows.empty empty;
    capacities = same_pushed writer_capacity xs all x n capacity is rows.capacities room;
  }

-- with a reader more
module _ {R U : Type 0} (title : R → TitleValue) (name : R → List ℕ) (look : U → ReaderState) where
  words_more : {V : Type 0} (f : ReaderState → V) (h : R → V) (xs all : List R) (x : R) (us vs : List U) (u : U)
      → all ≡ xs ++ x ∷ [] → vs ≡ us ++ u ∷ [] → map f (map look us) ≡ map h xs → f (look u) ≡ h x
      → map f (map look vs) ≡ map h all
  words_more f h xs all x us vs u is are same here =
      ap (map f) (ap (map look) are ∙ map_push look us u) ∙ map_push f (map look us) (look u)
      ∙ (λ i. same i ++ here i ∷ []) ∙ sym (map_push h xs x) ∙ sym (ap (map h) is)

  pub of_rows_more : (xs all : List R) (x : R) (us vs : List U) (u : U) → all ≡ xs ++ x ∷ [] → vs ≡ us ++ u ∷ []
      → AreOfRows (map title xs) (map name xs) (map look us) → title_of_reader (look u) ≡ title x
      → name_of_reader (look u) ≡ name x → AreOfRows (map title all) (map name all) (map look vs)
  of_rows_more xs all x us vs u is are readers same_title same_name = record {
    same_titles = words_more title_of_reader title xs all x us vs u is are readers.same_titles same_title;
    same_names = words_more name_of_reader name xs all x us vs u is are readers.same_names same_name;
  }

pub unread : {T H : Type 0} {g : Ghosts T H} (title : H) (name : List ℕ) (r : RowReader T H g) → IsFresh title name r
    → IsUnread r
unread title name r fresh = record { seen = fresh.seen; told = fresh.told; misses = fresh.misses }

-- lists of which the same is said place by place
same_words : {A B V : Type 0} (f : A → V) (h : B → V) (xs : List A) (ys : List B) → length xs ≡ length ys
    → ((i : ℕ) (x : A) (y : B) → i < length xs → f (get_or xs i x) ≡ h (get_or ys i y)) → map f xs ≡ map h ys
same_words f h [] [] count each = refl
same_words f h [] (y ∷ ys) count each = absurd (omega arith)
same_words f h (x ∷ xs) [] count each = absurd (omega arith)
same_words f h (x ∷ xs) (y ∷ ys) count each = λ k. each 0 x y (omega arith) k
    ∷ same_words f h xs ys (omega arith) (λ i a b lt. each (suc i) a b (omega arith)) k

-- the readers of rows are those of the stages over them
pub readers_over : {R : Type 0} (title : R → TitleValue) (name : R → List ℕ) (job : JobData) (ring : Ring)
    (capacities : List ℕ) (rows : List R) (states : List StageState) (readers : List ReaderState)
    → AreFresh job ring capacities (map name rows) states → length rows ≡ length job.roots
    → ((s : ℕ) (row : R) → slice_get rows s ≡ Some row → title row ≡ record { job = job; stage = s })
    → AreOfRows (map title rows) (map name rows) readers → AreReadersOf states readers
readers_over title name job ring capacities rows states readers fresh count titles are = record {
  same_titles = are.same_titles ∙ sym (same_words (λ (s : StageState). s.title) title states rows same
      (λ i x y lt. ap (λ (s : StageState). s.title) (fresh.each i x lt)
      ∙ sym (titles i (get_or rows i y) (slice_get-get_or rows i y (omega arith)))));
  same_names = are.same_names ∙ sym (same_words (λ (s : StageState). s.name) name states rows same
      (λ i x y lt. ap (λ (s : StageState). s.name) (fresh.each i x lt)
      ∙ get_or-map name rows i y [] (omega arith)));
}
  where
    same : length states ≡ length rows
    same = fresh.count ∙ sym count

-- of new stages nothing is published
none_shown : {T : Type 0} (see : T → StageState) (shown : T → ℕ) → ((x : T) → shown x ≤ length (see x).items)
    → (xs : List T) → ((s : ℕ) (d : StageState) → s < length (map see xs) → (get_or (map see xs) s d).items ≡ [])
    → map shown xs ≡ replicate (length xs) 0
none_shown see shown few [] empty = refl
none_shown see shown few (x ∷ xs) empty = λ i. none i
    ∷ none_shown see shown few xs (λ s d lt. empty (suc s) d (omega arith)) i
  where
    none : shown x ≡ 0
    none = let low = few x in let here = ap length (empty 0 (see x) (omega arith)) in omega arith

pub none_published : {T : Type 0} (see : T → StageState) (shown : T → ℕ) (job : JobData) (ring : Ring)
    (capacities : List ℕ) (names : List (List ℕ)) (xs : List T) → ((x : T) → shown x ≤ length (see x).items)
    → AreFresh job ring capacities names (map see xs) → map shown xs ≡ replicate (length job.roots) 0
none_published see shown job ring capacities names xs few fresh =
    none_shown see shown few xs (λ s d lt. ap (λ (x : StageState). x.items) (fresh.each s d lt))
    ∙ ap (λ n. replicate n 0) (sym (length-map xs see) ∙ fresh.count)

-- and new readers are seen as new
pub new_readers : {U : Type 0} (P : U → Type 0) (look : U → ReaderState) → ((u : U) → P u → IsNewReader (look u))
    → (us : List U) → All P us → All IsNewReader (map look us)
new_readers P look same [] each = λ k d lt. absurd (omega arith)
new_readers P look same (u ∷ us) each = All-cons IsNewReader (look u) (map look us) (same u (each 0 u (omega arith)))
    (new_readers P look same us (λ k d lt. each (suc k) d (omega arith)))
