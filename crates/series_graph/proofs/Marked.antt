-- Marks of the nodes that a formula names, one after the other.
use Rattle.std.proofs.Common.{◌≡◌, ℕ, ◌+◌, ◌<◌, ◌≤◌, inl, inr, Bool, true, false, List, length, get_or, take, set}
use Rattle.std.proofs.Common.{sym, ◌∙◌, ap, subst, arith}
use Rattle.std.specs.List.{All}
use Rattle.std.proofs.lemmas.Bool.{cases_eq}
use Rattle.std.proofs.lemmas.List.{length-set, get_or-set_same, get_or-set_other, get_or-take, take_all}
use Rattle.std.proofs.lemmas.List.{length-take-le}
use Rattle.std.proofs.lemmas.List.Elements.{All-more, All-weaker}
use Rattle.series_graph.specs.Formula.{place_of}
use Rattle.series_graph.specs.Calls.{IsMarked}
use Rattle.series_graph.specs.declared.node.NodeId.{NodeId}

-- a mark at each place that is named, and no other one: Named has says that has holds at each of them
pub record IsMarking (Named : (ℕ → Bool) → Type 0) (old new : List Bool) : Type 0 where
  pub count : length new ≡ length old
  pub named : Named (λ j. get_or new j false)
  pub kept : (j : ℕ) → IsMarked old j → IsMarked new j
  pub only : (has : ℕ → Bool) → Named has → ((j : ℕ) → IsMarked old j → has j ≡ true) → (j : ℕ) → IsMarked new j
      → has j ≡ true

abbrev pub IsMonotone : ((ℕ → Bool) → Type 0) → Type 0
IsMonotone Named = (p q : ℕ → Bool) → ((j : ℕ) → p j ≡ true → q j ≡ true) → Named p → Named q

-- one more place
pub marked-more : (Named More : (ℕ → Bool) → Type 0) (old now : List Bool) (p : ℕ) → p < length old
    → IsMonotone Named → ((has : ℕ → Bool) → Named has → has p ≡ true → More has)
    → ((has : ℕ → Bool) → More has → Named has × (has p ≡ true)) → IsMarking Named old now
    → IsMarking More old (set now p true)
marked-more Named More old now p lt monotone join part before = record {
  count = length-set now p true ∙ before.count;
  named = join _ (monotone _ _ stays before.named) there;
  kept = λ j is. stays j (before.kept j is);
  only = λ has all marked j is. elim (cases_eq j p) as (λ _. has j ≡ true) [
    | inl e ↦ ap has e ∙ (part has all).1
    | inr ne ↦ before.only has (part has all).0 marked j (sym (get_or-set_other now p j true false ne) ∙ is)
  ];
}
  where
    there : get_or (set now p true) p false ≡ true
    there = get_or-set_same now p true false (let same = before.count in omega arith)

    stays : (j : ℕ) → IsMarked now j → IsMarked (set now p true) j
    stays j is = elim (cases_eq j p) as (λ _. IsMarked (set now p true) j) [
      | inl e ↦ ap (λ k. get_or (set now p true) k false) e ∙ there
      | inr ne ↦ get_or-set_other now p j true false ne ∙ is
    ]

-- the first n of the places of a combination
abbrev pub FirstOf : List (ℕ × NodeId) → ℕ → (ℕ → Bool) → Type 0
FirstOf of n has = All (λ t. has (place_of t.1) ≡ true) (take n of)

-- the first n pairs of a dot
abbrev pub FirstPairsOf : List (NodeId × NodeId) → ℕ → (ℕ → Bool) → Type 0
FirstPairsOf of n has = All (λ t. (has (place_of t.0) ≡ true) × (has (place_of t.1) ≡ true)) (take n of)

module _ {X : Type 0} (xs : List X) (n : ℕ) (d : X) (lt : n < length xs) (P : X → Type 0) where
  taken-more : All P (take n xs) → P (get_or xs n d) → All P (take (n + 1) xs)
  taken-more before here = All-more P xs n d lt before here

  taken-less : All P (take (n + 1) xs) → All P (take n xs) × P (get_or xs n d)
  taken-less all = (
    (λ k e less. let m = length-take-le n xs (omega arith) in let m' = length-take-le (n + 1) xs (omega arith) in
        subst P (get_or-take (n + 1) xs k e (omega arith) ∙ sym (get_or-take n xs k e (omega arith)))
        (all k e (omega arith))),
    subst P (get_or-take (n + 1) xs n d (omega arith))
        (all n d (let m' = length-take-le (n + 1) xs (omega arith) in omega arith)),
  )

pub combination-more : (of : List (ℕ × NodeId)) (n : ℕ) (d : ℕ × NodeId) (old now : List Bool) → n < length of
    → place_of (get_or of n d).1 < length old → IsMarking (FirstOf of n) old now
    → IsMarking (FirstOf of (n + 1)) old (set now (place_of (get_or of n d).1) true)
combination-more of n d old now lt within before = marked-more (FirstOf of n) (FirstOf of (n + 1)) old now
    (place_of (get_or of n d).1) within
    (λ p q le all. All-weaker (λ (t : ℕ × NodeId). p (place_of t.1) ≡ true)
    (λ (t : ℕ × NodeId). q (place_of t.1) ≡ true) (λ t has. le (place_of t.1) has) (take n of) all)
    (λ has. taken-more of n d lt (λ t. has (place_of t.1) ≡ true))
    (λ has. taken-less of n d lt (λ t. has (place_of t.1) ≡ true)) before

pub dot-more : (of : List (NodeId × NodeId)) (n : ℕ) (d : NodeId × NodeId) (old now : List Bool) → n < length of
    → (place_of (get_or of n d).0 < length old) × (place_of (get_or of n d).1 < length old)
    → IsMarking (FirstPairsOf of n) old now
    → IsMarking (FirstPairsOf of (n + 1)) old
    (set (set now (place_of (get_or of n d).0) true) (place_of (get_or of n d).1) true)
dot-more of n d old now lt within before =
    marked-more (λ has. FirstPairsOf of n has × (has (place_of (get_or of n d).0) ≡ true))
    (FirstPairsOf of (n + 1)) old (set now (place_of (get_or of n d).0) true) (place_of (get_or of n d).1) within.1
    (λ p q le all. (weaker p q le all.0, le _ all.1))
    (λ has all b. taken-more of n d lt (λ t. (has (place_of t.0) ≡ true) × (has (place_of t.1) ≡ true)) all.0
    (all.1, b))
    (λ has all. let both = taken-less of n d lt
    (λ t. (has (place_of t.0) ≡ true) × (has (place_of t.1) ≡ true)) all in ((both.0, both.1.0), both.1.1))
    (marked-more (FirstPairsOf of n) (λ has. FirstPairsOf of n has × (has (place_of (get_or of n d).0) ≡ true)) old now
    (place_of (get_or of n d).0) within.0 weaker (λ has all a. (all, a)) (λ has all. all) before)
  where
    weaker : IsMonotone (FirstPairsOf of n)
    weaker p q le all = All-weaker (λ (t : NodeId × NodeId). (p (place_of t.0) ≡ true) × (p (place_of t.1) ≡ true))
        (λ (t : NodeId × NodeId). (q (place_of t.0) ≡ true) × (q (place_of t.1) ≡ true))
        (λ t has. (le _ has.0, le _ has.1)) (take n of) all

-- all of the places
pub combination-all : (of : List (ℕ × NodeId)) (n : ℕ) (old now : List Bool) → length of ≤ n
    → IsMarking (FirstOf of n) old now → IsMarking (λ has. All (λ t. has (place_of t.1) ≡ true) of) old now
combination-all of n old now le before = subst
    (λ (of : List (ℕ × NodeId)). IsMarking (λ has. All (λ t. has (place_of t.1) ≡ true) of) old now)
    (take_all n of le) before

pub dot-all : (of : List (NodeId × NodeId)) (n : ℕ) (old now : List Bool) → length of ≤ n
    → IsMarking (FirstPairsOf of n) old now
    → IsMarking (λ has. All (λ t. (has (place_of t.0) ≡ true) × (has (place_of t.1) ≡ true)) of) old now
dot-all of n old now le before = subst
    (λ (of : List (NodeId × NodeId)). IsMarking
    (λ has. All (λ t. (has (place_of t.0) ≡ true) × (has (place_of t.1) ≡ true)) of) old now)
    (take_all n of le) before
