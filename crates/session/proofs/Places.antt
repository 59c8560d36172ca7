-- The places of a session's readers, of which one is taken.
use Rattle.std.proofs.Common.{◌≡◌, ℕ, zero, suc, ◌<◌, List, [], ◌∷◌, length, map, get_or, set, Option, Some, None, IfSome}
use Rattle.std.proofs.Common.{true, false, Bool, not, refl, sym, ◌∙◌, ap, subst, arith, IsTrue}
use Rattle.std.specs.Option.{is_some}
use Rattle.std.specs.Prelude.{◌≢◌}
use Rattle.std.proofs.lemmas.List.{length-map, get_or-map, map-set}
use Rattle.std.proofs.lemmas.Simd.{map-map}
use Rattle.std.specs.List.{All}
use Rattle.std.proofs.lemmas.Option.{none-some, same_Some}
use Rattle.rows.specs.declared.item.RowItem.{Ghosts}
use Rattle.rows.specs.declared.shared.RowReader.{RowReader}
use Rattle.stages.specs.Items.{StageItemValue}
use Rattle.stages.specs.States.{StageState}
use Rattle.stages.specs.Titles.{TitleValue}
use Rattle.pipe.specs.Looks.{ReaderState, state_of, title_of_reader}
use Rattle.pipe.specs.SharedLines.{AreReadersOf, name_of_reader, IsUnread, IsNewReader}
use Rattle.pipe.proofs.Making.{new_readers}
use Rattle.session.specs.Shared.{place_of, reader_at, IsReaderOf, AreRead, HaveRead, IsTaken, HasReaders, AreUnseen}
use Rattle.session.proofs.SharedRows.{inner_count}

length-set : (ps : List (Option ReaderState)) (i : ℕ) (p : Option ReaderState) → length (set ps i p) ≡ length ps
length-set [] i p = refl
length-set (q ∷ ps) zero p = refl
length-set (q ∷ ps) (suc i) p = ap suc (length-set ps i p)

set_there : (ps : List (Option ReaderState)) (i : ℕ) → reader_at (set ps i None) i ≡ None
set_there [] i = refl
set_there (p ∷ ps) zero = refl
set_there (p ∷ ps) (suc i) = set_there ps i

set_other : (ps : List (Option ReaderState)) (i j : ℕ) → j ≢ i → reader_at (set ps i None) j ≡ reader_at ps j
set_other [] i j other = refl
set_other (p ∷ ps) zero zero other = absurd (other refl)
set_other (p ∷ ps) zero (suc j) other = refl
set_other (p ∷ ps) (suc i) zero other = refl
set_other (p ∷ ps) (suc i) (suc j) other = set_other ps i j (λ same. other (ap suc same))

set_reader : (ps : List (Option ReaderState)) (i j : ℕ) (r : ReaderState) → reader_at (set ps i None) j ≡ Some r
    → reader_at ps j ≡ Some r
set_reader [] i j r h = h
set_reader (p ∷ ps) zero zero r h = absurd (none-some r h)
set_reader (p ∷ ps) zero (suc j) r h = h
set_reader (p ∷ ps) (suc i) zero r h = h
set_reader (p ∷ ps) (suc i) (suc j) r h = set_reader ps i j r h

module _ {g : Ghosts StageItemValue TitleValue} (xs : List (Option (RowReader StageItemValue TitleValue g))) (i : ℕ)
    (y : Option (RowReader StageItemValue TitleValue g)) (none : y ≡ None) where
  places_are : map place_of (set xs i y) ≡ set (map place_of xs) i None
  places_are = map-set place_of xs i y ∙ ap (λ p. set (map place_of xs) i p) (ap place_of none)

  pub place_taken : IsTaken i (map place_of xs) (map place_of (set xs i y))
  place_taken = subst (IsTaken i (map place_of xs)) (sym places_are) (record {
    taken = set_there (map place_of xs) i;
    others = λ j other. set_other (map place_of xs) i j other;
  })

  -- the others are read as before
  pub read_taken : (states : List StageState) (readers : List ReaderState) → HaveRead states readers (map place_of xs)
      → HaveRead states readers (map place_of (set xs i y))
  read_taken states readers read shared = subst (AreRead states readers) (sym places_are) (record {
    inner = (read shared).inner;
    count = length-set (map place_of xs) i None ∙ (read shared).count;
    outer = λ j d reader lt there. (read shared).outer j d reader lt (set_reader (map place_of xs) i j reader there);
  })

module _ {g : Ghosts StageItemValue TitleValue} where
  pub place_at : (xs : List (Option (RowReader StageItemValue TitleValue g))) (i : ℕ)
      (x : Option (RowReader StageItemValue TitleValue g)) → x ≡ get_or xs i x → i < length xs
      → reader_at (map place_of xs) i ≡ place_of x
  place_at xs i x is lt = get_or-map place_of xs i x None lt ∙ ap place_of (sym is)

  pub place_none : (p : Option (RowReader StageItemValue TitleValue g)) → place_of p ≡ None → p ≡ None
  place_none None is = refl
  place_none (Some r) is = absurd (none-some (state_of r) (sym is))

  pub place_some : (p : Option (RowReader StageItemValue TitleValue g)) (q : Option ReaderState) → q ≡ place_of p
      → IfSome p (λ reader. q ≡ Some (state_of reader))
  place_some None q is = tt
  place_some (Some r) q is = is

  pub place_row : (states : List StageState) (readers : List ReaderState) (places : List (Option ReaderState))
      (i : ℕ) → AreRead states readers places → i < length states
      → (p : Option (RowReader StageItemValue TitleValue g)) → reader_at places i ≡ place_of p
      → IfSome p (λ reader. (d : StageState) → IsReaderOf (get_or states i d) (state_of reader))
  place_row states readers places i read lt None is = tt
  place_row states readers places i read lt (Some r) is = λ d. read.outer i d (state_of r) lt is

pub no_truth : false ≡ true → ⊥
no_truth same = cc

module _ {g : Ghosts StageItemValue TitleValue} (xs : List (Option (RowReader StageItemValue TitleValue g))) (i : ℕ)
    (x : Option (RowReader StageItemValue TitleValue g)) (is : x ≡ get_or xs i x) (lt : i < length xs) (b : Bool)
    (test : is_some x ≡ not b) where
  pub none_there : IsTrue b → reader_at (map place_of xs) i ≡ None
  none_there h = place_at xs i x is lt ∙ by x (test ∙ ap not h)
    where
      by : (p : Option (RowReader StageItemValue TitleValue g)) → is_some p ≡ false → place_of p ≡ None
      by None h = refl
      by (Some r) h = absurd (no_truth (sym h))

  pub some_there : b ≡ false → reader_at (map place_of xs) i ≢ None
  some_there h none = by x (test ∙ ap not h) (sym (place_at xs i x is lt) ∙ none)
    where
      by : (p : Option (RowReader StageItemValue TitleValue g)) → is_some p ≡ true → place_of p ≡ None → ⊥
      by None h here = no_truth h
      by (Some r) h here = none-some (state_of r) (sym here)

-- where a reader is put at each place
module _ {g : Ghosts StageItemValue TitleValue} (rs : List (RowReader StageItemValue TitleValue g))
    (xs : List (Option (RowReader StageItemValue TitleValue g))) (put : xs ≡ map (λ r. Some r) rs) where
  places_put : map place_of xs ≡ map (λ (r : ReaderState). Some r) (map state_of rs)
  places_put = ap (map place_of) put ∙ map-map place_of (λ r. Some r) rs
      ∙ sym (map-map (λ (r : ReaderState). Some r) state_of rs)

  module _ (states : List StageState) (are : AreReadersOf states (map state_of rs)) where
    as_many : length (map state_of rs) ≡ length states
    as_many = inner_count states (map state_of rs) are

    pub places_count : length (map place_of xs) ≡ length states
    places_count = ap length places_put ∙ length-map (map state_of rs) (λ (r : ReaderState). Some r) ∙ as_many

    there : (i : ℕ) (d : ReaderState) → i < length states → reader_at (map place_of xs) i ≡ Some (get_or (map state_of rs) i d)
    there i d lt = ap (λ l. reader_at l i) places_put
        ∙ get_or-map (λ (r : ReaderState). Some r) (map state_of rs) i d None (let many = as_many in omega arith)

    pub places_row : (i : ℕ) (d : StageState) (reader : ReaderState) → i < length states
        → reader_at (map place_of xs) i ≡ Some reader → IsReaderOf (get_or states i d) reader
    places_row i d reader lt at =
        let low : i < length (map state_of rs) = (let many = as_many in omega arith) in
        subst (IsReaderOf (get_or states i d)) (same_Some (get_or (map state_of rs) i reader) reader (sym (there i reader lt) ∙ at))
        (record {
          title = sym (get_or-map title_of_reader (map state_of rs) i reader reader.title low)
              ∙ ap (λ l. get_or l i reader.title) are.same_titles
              ∙ get_or-map (λ (s : StageState). s.title) states i d reader.title lt;
          name = sym (get_or-map name_of_reader (map state_of rs) i reader reader.name low)
              ∙ ap (λ l. get_or l i reader.name) are.same_names
              ∙ get_or-map (λ (s : StageState). s.name) states i d reader.name lt;
        })

  have_all : (readers : List ReaderState) (i : ℕ) → i < length readers
      → reader_at (map (λ (r : ReaderState). Some r) readers) i ≢ None
  have_all [] i lt none = absurd (omega arith)
  have_all (r ∷ readers) zero lt none = none-some r (sym none)
  have_all (r ∷ readers) (suc i) lt none = have_all readers i (omega arith) none

  pub places_have : (n : ℕ) → length (map state_of rs) ≡ n → HasReaders n (map place_of xs)
  places_have n count = subst (HasReaders n) (sym places_put) (λ i lt. have_all (map state_of rs) i (omega arith))

  unseen_all : (readers : List ReaderState) → All IsNewReader readers → AreUnseen (map (λ (r : ReaderState). Some r) readers)
  unseen_all [] each i reader at = absurd (none-some reader at)
  unseen_all (r ∷ readers) each zero reader at =
      sym (ap (λ (q : ReaderState). q.seen) (same_Some r reader at)) ∙ (each 0 r (omega arith)).0
  unseen_all (r ∷ readers) each (suc i) reader at =
      unseen_all readers (λ k d lt. each (suc k) d (omega arith)) i reader at

  pub places_unseen : All IsUnread rs → AreUnseen (map place_of xs)
  places_unseen each = subst AreUnseen (sym places_put) (unseen_all (map state_of rs)
      (new_readers IsUnread state_of (λ r unread. (ap length unread.seen, unread.told)) rs each))
