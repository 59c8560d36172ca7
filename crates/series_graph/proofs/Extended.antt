-- Graphs whose nodes get more parts, from the first node on.
use Rattle.std.proofs.Common.{◌≡◌, ◌≢◌, ℕ, suc, ◌+◌, ◌<◌, ◌≤◌, inl, inr, Bool, true, false, List}
use Rattle.std.proofs.Common.{length, get_or}
use Rattle.std.proofs.Common.{sym, ◌∙◌, ap, subst, arith}
use Rattle.std.proofs.lemmas.Bool.{cases_eq}
use Rattle.parts.specs.PartValue.{PartValue}
use Rattle.series_graph.specs.Formula.{Formula, Number, Variable, Combination, Dot, Quotient, EachNamed}
use Rattle.series_graph.specs.Meaning.{formula_at}
use Rattle.series_graph.specs.GraphValue.{GraphValue, size_of, known_at}
use Rattle.series_graph.specs.Calls.{IsAncestor, IsMarked, Marks, AddsPart, Keeps, KeepsOthers, ReachesAll}
use Rattle.series_graph.proofs.Covers.{marked_within}
use Rattle.series_graph.proofs.Graphs.{keeps-more, added_keeps, added_elsewhere, added_one}

-- the formulas stay
pub same_formulas : (old new : GraphValue) → Keeps old new → new.formulas ≡ old.formulas
same_formulas old new keeps = ap (λ (g : GraphValue). g.formulas) keeps.new_is

-- node i with n parts
pub record IsRaised (i n : ℕ) (old now : GraphValue) : Type 0 where
  pub keeps : Keeps old now
  pub others : (h : ℕ) → h ≢ i → known_at now h ≡ known_at old h
  pub count : n ≡ length (known_at now i)

pub raised-more : (i n : ℕ) (old now new : GraphValue) → i < length now.known → IsRaised i n old now
    → AddsPart i now new → IsRaised i (n + 1) old new
raised-more i n old now new there before adds = record {
  keeps = keeps-more old now new before.keeps (added_keeps now new i there adds);
  others = λ h ne. added_elsewhere now new i there adds h ne ∙ before.others h ne;
  count = let one = added_one now new i there adds in let same = before.count in omega arith;
}

-- the marked nodes below i have more than `to` parts
pub record IsExtended (id to i : ℕ) (marks : List Bool) (old now : GraphValue) : Type 0 where
  pub keeps : Keeps old now
  pub others : KeepsOthers id old now
  pub reached : (h : ℕ) → h < i → IsMarked marks h → to < length (known_at now h)

module _ (id to i : ℕ) (marks : List Bool) (old : GraphValue) where
  pub extended-skip : (now : GraphValue) → IsExtended id to i marks old now → get_or marks i false ≡ false
      → IsExtended id to (i + 1) marks old now
  extended-skip now before none = record {
    keeps = before.keeps;
    others = before.others;
    reached = λ h lt marked. elim (cases_eq h i) as (λ _. to < length (known_at now h)) [
      | inl e ↦ let same = ap (λ j. get_or marks j false) e in absurd cc
      | inr ne ↦ before.reached h (omega arith) marked
    ];
  }

  -- also where the call is refused
  pub extended_kept : (now new : GraphValue) → IsExtended id to i marks old now → Marks old.formulas id marks
      → IsMarked marks i → Keeps now new → ((h : ℕ) → h ≢ i → known_at new h ≡ known_at now h)
      → Keeps old new × KeepsOthers id old new
  extended_kept now new before marks_are marked keeps others = (
    keeps-more old now new before.keeps keeps,
    (λ h not. others h (λ e. not (subst (IsAncestor old.formulas id) (sym e) ((marks_are i).0 marked)))
        ∙ before.others h not),
  )

  pub extended-more : (now new : GraphValue) → IsExtended id to i marks old now → Marks old.formulas id marks
      → IsMarked marks i → Keeps now new → ((h : ℕ) → h ≢ i → known_at new h ≡ known_at now h)
      → to < length (known_at new i) → IsExtended id to (i + 1) marks old new
  extended-more now new before marks_are marked keeps others far =
      let kept = extended_kept now new before marks_are marked keeps others in record {
        keeps = kept.0;
        others = kept.1;
        reached = λ h lt mark. elim (cases_eq h i) as (λ _. to < length (known_at new h)) [
          | inl e ↦ subst (λ h. to < length (known_at new h)) (sym e) far
          | inr ne ↦ subst (λ (ps : List PartValue). to < length ps) (sym (others h ne))
              (before.reached h (omega arith) mark)
        ];
      }

  -- what the call for node i needs
  pub extended_named : (now : GraphValue) → IsExtended id to i marks old now → Marks old.formulas id marks
      → IsMarked marks i → i < size_of old → EachNamed (λ j. j < i) (formula_at old.formulas i)
      → EachNamed (λ j. to < length (known_at now j)) (formula_at now.formulas i)
  extended_named now before marks_are marked lt earlier = subst
      (λ (formulas : List Formula). EachNamed (λ j. to < length (known_at now j)) (formula_at formulas i))
      (sym (same_formulas old now before.keeps))
      (each_here (λ j. j < i) (IsMarked marks) (λ j. to < length (known_at now j))
      (λ j low mark. before.reached j low mark) (formula_at old.formulas i) earlier
      (named_marked (formula_at old.formulas i)
      (λ has here closed. closed i lt ((marks_are i).0 marked has here closed))))
    where
      each_here : (P Q T : ℕ → Type 0) → ((j : ℕ) → P j → Q j → T j) → (φ : Formula) → EachNamed P φ
          → EachNamed Q φ → EachNamed T φ
      each_here P Q T h (Number c) p q = tt
      each_here P Q T h (Variable v) p q = tt
      each_here P Q T h (Combination of) p q = λ k d lt. h _ (p k d lt) (q k d lt)
      each_here P Q T h (Dot of) p q = λ k d lt. (h _ (p k d lt).0 (q k d lt).0, h _ (p k d lt).1 (q k d lt).1)
      each_here P Q T h (Quotient a b) p q = (h _ p.0 q.0, h _ p.1 q.1)

      -- each named node is one that the node rests on
      named_marked : (φ : Formula) → ((has : ℕ → Bool) → has id ≡ true
          → ((k : ℕ) → k < length old.formulas → has k ≡ true
          → EachNamed (λ j. has j ≡ true) (formula_at old.formulas k))
          → EachNamed (λ j. has j ≡ true) φ) → EachNamed (IsMarked marks) φ
      named_marked (Number c) rests = tt
      named_marked (Variable v) rests = tt
      named_marked (Combination of) rests = λ k d lt. (marks_are _).1 (λ has here closed. rests has here closed k d lt)
      named_marked (Dot of) rests = λ k d lt. (
        (marks_are _).1 (λ has here closed. (rests has here closed k d lt).0),
        (marks_are _).1 (λ has here closed. (rests has here closed k d lt).1),
      )
      named_marked (Quotient a b) rests = (
        (marks_are _).1 (λ has here closed. (rests has here closed).0),
        (marks_are _).1 (λ has here closed. (rests has here closed).1),
      )

-- all of them
pub extended-all : (id to i : ℕ) (marks : List Bool) (old now : GraphValue) → IsExtended id to i marks old now
    → Marks old.formulas id marks → length marks ≤ i → ReachesAll (suc to) id old now
extended-all id to i marks old now all marks_are le = λ h lt rests.
    let mark = (marks_are h).1 rests in let low = marked_within marks h mark in
    let far = all.reached h (omega arith) mark in omega arith
