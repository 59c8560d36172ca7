-- Maps that are built of lists of terms.
use Rattle.std.proofs.Common.{◌≡◌, ℕ, zero, suc, ◌+◌, ◌<◌, ◌≤◌, Bool, T, List, [], ◌∷◌, ◌++◌, length}
use Rattle.std.proofs.Common.{get_or, take, drop, map, None, refl, sym, ◌∙◌, ap, subst, arith, All}
use Rattle.std.proofs.Common.{append-nil, append_assoc, drop_of_length-le}
use Rattle.std.specs.List.{AllByRecursion}
use Rattle.std.specs.List.Sorted.{IsPermutation, IsSortedBy}
use Rattle.std.specs.Ordering.{is_lt}
use Rattle.std.specs.FinMap.{get, entries, empty, insert, find, from_entries, from_entries_push, get-from_entries}
use Rattle.std.specs.FinMap.{is_sorted}
use Rattle.std.specs.FinMap.Entries.{below_all}
use Rattle.std.specs.declared.cmp.Ordering.{Ordering}
use Rattle.std.specs.declared.cmp.Ordering.TheVariants.{Less, Equal, Greater}
use Rattle.std.proofs.lemmas.List.{map-append, drop_more, take_all, take_more}
use Rattle.std.proofs.lemmas.List.Elements.{All-cons, All-head, All-tail}
use Rattle.std.proofs.lemmas.List.Sorted.{All-permutation, IsPermutation-map}
use Rattle.std.proofs.lemmas.Cmp.{tied_itself}
use Rattle.ps_model.specs.Keys.{Key, key_compare}
use Rattle.ps_model.specs.KeyLaws.{key_compare_total, key_compare-IsAntisymmetric}
use Rattle.ps_model.specs.Plain.{key_of, entry_of, IsBehind}
use Rattle.ps_model.specs.PlainLists.{key_order}
use Rattle.ps_model.specs.declared.plain.PlainTerm.{PlainTerm}
use Rattle.ps_model.proofs.Maps.{both, first_part, second_part, entries-from_entries}
use Rattle.printer.specs.ReadText.{Coefficients}
use Rattle.printer.specs.ReadTermLists.{IsTermList, IsSortingOf, HasTerms, HaveTerms}
use Rattle.printer.proofs.ReadCounts.{count_permuted, find_permuted, find_none, strictly_sorted}

abbrev Entry : Type 0
Entry = Key 8 × ℕ

abbrev keys : Key 8 → Key 8 → Ordering
keys = key_compare 8

pub by_recursion : {X : Type 0} (P : X → Type 0) (xs : List X) → AllByRecursion P xs → All P xs
by_recursion P [] h = λ i d lt. absurd (omega arith)
by_recursion P (x ∷ xs) h = All-cons P x xs h.0 (by_recursion P xs h.1)

less_is : (r : Ordering) → T (is_lt r) → r ≡ Less
less_is Less h = refl
less_is Equal h = absurd h
less_is Greater h = absurd h

pub key_order_is : (t u : PlainTerm) → key_order t u ≡ key_compare 8 (key_of t) (key_of u)
unfolding key_order
key_order_is t u = refl

-- the first terms of a list in order
below_at : (k : Key 8) (xs : List PlainTerm) (i : ℕ) (d : PlainTerm) → T (below_all keys k (map entry_of xs))
    → i < length xs → keys k (key_of (get_or xs i d)) ≡ Less
below_at k [] i d h lt = absurd (omega arith)
below_at k (x ∷ xs) zero d h lt = less_is (keys k (key_of x)) (first_part _ _ h)
below_at k (x ∷ xs) (suc i) d h lt = below_at k xs i d (second_part _ _ h) (omega arith)

below_taken : (k : Key 8) (n : ℕ) (xs : List PlainTerm) → T (below_all keys k (map entry_of xs))
    → T (below_all keys k (map entry_of (take n xs)))
below_taken k zero xs h = tt
below_taken k (suc n) [] h = tt
below_taken k (suc n) (x ∷ xs) h = both _ _ (first_part _ _ h) (below_taken k n xs (second_part _ _ h))

sorted_taken : (n : ℕ) (xs : List PlainTerm) → T (is_sorted keys (map entry_of xs))
    → T (is_sorted keys (map entry_of (take n xs)))
sorted_taken zero xs h = tt
sorted_taken (suc n) [] h = tt
sorted_taken (suc n) (x ∷ xs) h =
    both _ _ (below_taken (key_of x) n xs (first_part _ _ h)) (sorted_taken n xs (second_part _ _ h))

all_before : (xs : List PlainTerm) (i : ℕ) (d : PlainTerm) → T (is_sorted keys (map entry_of xs)) → i < length xs
    → AllByRecursion (λ e. keys e.0 (key_of (get_or xs i d)) ≡ Less) (map entry_of (take i xs))
all_before [] i d h lt = absurd (omega arith)
all_before (x ∷ xs) zero d h lt = tt
all_before (x ∷ xs) (suc i) d h lt =
    (below_at (key_of x) xs i d (first_part _ _ h) (omega arith), all_before xs i d (second_part _ _ h) (omega arith))

never_less : (r : Ordering) → r ≡ Equal → r ≡ Less → ⊥
never_less r e h = absurd (cc)

-- what a sort of terms answers
abbrev pub key_below : PlainTerm → PlainTerm → Bool
key_below t u = is_lt (key_compare 8 (key_of t) (key_of u))

pub sorting_of : (terms sorted : List PlainTerm) → IsTermList (map entry_of terms) → IsPermutation terms sorted
    → IsSortedBy key_below sorted → IsSortingOf (map entry_of terms) (map entry_of sorted)
sorting_of terms sorted list moved up =
    let entries_moved = IsPermutation-map entry_of terms sorted moved in
    record {
      permutes = entries_moved;
      in_order = strictly_sorted keys (key_compare_total 8) (key_compare-IsAntisymmetric 8) entry_of sorted up
          (λ k. subst (λ n. n ≤ 1)
          (sym (count_permuted keys (key_compare_total 8) (key_compare-IsAntisymmetric 8) k (map entry_of terms)
          (map entry_of sorted) entries_moved)) (list.once k));
    }

-- a map with the first terms
pub record IsBuilt (xs : List PlainTerm) (i : ℕ) (p : Coefficients) : Type 0 where
  pub is : p ≡ from_entries (map entry_of (take i xs))

pub built_none : (xs : List PlainTerm) → IsBuilt xs 0 empty
built_none xs = record { is = refl }

module _ (xs : List PlainTerm) (i : ℕ) (p : Coefficients) (order : T (is_sorted (key_compare 8) (map entry_of xs)))
    (built : IsBuilt xs i p) (t : PlainTerm) (here : t ≡ get_or xs i t) (lt : i < length xs) where
  before : AllByRecursion (λ e. keys e.0 (key_of t) ≡ Less) (map entry_of (take i xs))
  before =
      subst (λ (u : PlainTerm). AllByRecursion (λ (e : Entry). keys e.0 (key_of u) ≡ Less) (map entry_of (take i xs)))
      (sym here) (all_before xs i t order lt)

  pub built_behind : IsBehind (entries p) (key_of t)
  built_behind =
      subst (λ es. IsBehind es (key_of t))
      (sym (ap (λ (m : Coefficients). entries m) built.is
      ∙ entries-from_entries keys (key_compare_total 8) (key_compare-IsAntisymmetric 8)
      (map entry_of (take i xs)) (sorted_taken i xs order)))
      (by_recursion (λ e. keys e.0 (key_of t) ≡ Less) (map entry_of (take i xs)) before)

  not_there : find keys (key_of t) (map entry_of (take i xs)) ≡ None
  not_there =
      find_none keys (key_compare_total 8) (key_compare-IsAntisymmetric 8)
      (λ e. keys e.0 (key_of t) ≡ Less) (key_of t)
      (λ e less same. never_less (keys e.0 e.0) (tied_itself (key_compare_total 8) e.0)
      (ap (keys e.0) (sym same) ∙ less))
      (map entry_of (take i xs)) before

  pub built_more : (q : Coefficients) → q ≡ insert p (key_of t) t.coefficient → IsBuilt xs (i + 1) q
  built_more q is = record {
    is = is ∙ ap (λ (m : Coefficients). insert m (key_of t) t.coefficient) built.is
        ∙ sym (from_entries_push (key_compare_total 8) (key_compare-IsAntisymmetric 8) (map entry_of (take i xs))
        (key_of t) t.coefficient not_there)
        ∙ ap (λ (es : List Entry). from_entries es)
        (sym (ap (map entry_of) (take_more xs i t lt ∙ ap (λ (u : PlainTerm). take i xs ++ u ∷ []) (sym here))
        ∙ map-append entry_of (take i xs) (t ∷ [])));
  }

pub built_all : (es : List Entry) (xs : List PlainTerm) (p : Coefficients) → IsTermList es
    → IsSortingOf es (map entry_of xs) → (i : ℕ) → length xs ≤ i → IsBuilt xs i p → HasTerms p es
built_all es xs p list sorting i le built = record {
  at = λ k.
      ap (λ (m : Coefficients). get m k) (built.is ∙ ap (λ (l : List PlainTerm). from_entries (map entry_of l))
      (take_all i xs le))
      ∙ get-from_entries (key_compare_total 8) (map entry_of xs) k
      ∙ find_permuted keys (key_compare_total 8) (key_compare-IsAntisymmetric 8) k es (map entry_of xs)
      sorting.permutes (list.once k) list.some;
}

pub some_there : (es : List Entry) (xs : List PlainTerm) → IsTermList es → IsSortingOf es (map entry_of xs) → (i : ℕ)
    (d : PlainTerm) → d ≡ get_or xs i d → i < length xs → 0 < d.coefficient
some_there es xs list sorting i d here lt =
    subst (λ (t : PlainTerm). 0 < t.coefficient) (sym here)
    (at xs (All-permutation (λ (e : Entry). 0 < e.1) es (map entry_of xs) sorting.permutes list.some) i lt)
  where
    at : (xs : List PlainTerm) → All (λ (e : Entry). 0 < e.1) (map entry_of xs) → (i : ℕ) → i < length xs
        → 0 < (get_or xs i d).coefficient
    at [] all i lt = absurd (omega arith)
    at (x ∷ xs) all zero lt = All-head (λ (e : Entry). 0 < e.1) (entry_of x) (map entry_of xs) all
    at (x ∷ xs) all (suc i) lt =
        at xs (All-tail (λ (e : Entry). 0 < e.1) (entry_of x) (map entry_of xs) all) i (omega arith)

-- maps of lists, one after the other
abbrev pub AreBuilt : List (List Entry) → List Coefficients → ℕ → Type 0
AreBuilt lists done i = (rest : List Coefficients) → HaveTerms rest (drop i lists) → HaveTerms (done ++ rest) lists

module _ (lists : List (List Entry)) (done : List Coefficients) (i : ℕ) (built : AreBuilt lists done i) where
  pub are_built_more : (p : Coefficients) (more : List Coefficients) → i < length lists → more ≡ done ++ p ∷ []
      → HasTerms p (get_or lists i []) → AreBuilt lists more (i + 1)
  are_built_more p more lt is has rest h =
      subst (λ (ps : List Coefficients). HaveTerms ps lists)
      (sym (ap (λ (l : List Coefficients). l ++ rest) is ∙ append_assoc done (p ∷ []) rest))
      (built (p ∷ rest) (subst (HaveTerms (p ∷ rest)) (sym (drop_next lists i lt)) (has, h)))
    where
      drop_next : (lists : List (List Entry)) (i : ℕ) → i < length lists
          → drop i lists ≡ get_or lists i [] ∷ drop (i + 1) lists
      drop_next lists i lt = drop_more lists i [] lt

  pub are_built_all : length lists ≤ i → HaveTerms done lists
  are_built_all le =
      subst (λ (ps : List Coefficients). HaveTerms ps lists) (append-nil done)
      (built [] (subst (HaveTerms []) (sym (drop_of_length-le lists le)) tt))
