-- The nodes that a node rests on, marked from the last one down.
use Rattle.std.proofs.Common.{◌≡◌, ℕ, suc, ◌+◌, ◌<◌, ◌≤◌, inl, inr, Bool, true, false, ◌||◌, List}
use Rattle.std.proofs.Common.{length, get_or}
use Rattle.std.proofs.Common.{ltb, refl, sym, ◌∙◌, subst, arith}
use Rattle.std.proofs.lemmas.Bool.{cases_eq, cases_lt}
use Rattle.std.proofs.lemmas.List.{get_or-map, get_or_past}
use Rattle.series_graph.specs.Formula.{Formula, Number, formula_of, EachNamed}
use Rattle.series_graph.specs.Meaning.{formula_at}
use Rattle.series_graph.specs.Nodes.{formulas_in}
use Rattle.series_graph.specs.declared.node.Node.{Node}
use Rattle.series_graph.specs.Calls.{IsAncestor, IsMarked, Marks}
use Rattle.series_graph.proofs.Named.{each-weaker}

-- the formula that a node holds
pub formula_read : (nodes : List Node) (k : ℕ) (x : Node) → k < length nodes
    → formula_of (get_or nodes k x).form ≡ formula_at (formulas_in nodes) k
formula_read nodes k x lt = sym (get_or-map (λ (n : Node). formula_of n.form) nodes k x (Number 0) lt)

-- the marks when the places from n on are done
pub record Covers (formulas : List Formula) (i n : ℕ) (marks : List Bool) : Type 0 where
  pub count : length marks ≡ suc i
  pub itself : IsMarked marks i
  pub ancestors : (j : ℕ) → IsMarked marks j → IsAncestor formulas i j
  pub closed : (k : ℕ) → n ≤ k → IsMarked marks k → EachNamed (IsMarked marks) (formula_at formulas k)

-- what has a mark is within the marks
pub marked_within : (marks : List Bool) (j : ℕ) → IsMarked marks j → j < length marks
marked_within marks j is = elim (cases_lt j (length marks)) as (λ _. j < length marks) [
  | inl lt ↦ lt
  | inr ge ↦ let none = get_or_past marks j false ge in absurd cc
]

module _ (formulas : List Formula) (i : ℕ) where
  -- a place that has a mark
  pub covers-more : (n : ℕ) (formula : Formula) (old new : List Bool) → Covers formulas i (n + 1) old
      → n < length formulas → formula ≡ formula_at formulas n → IsMarked old n → EachNamed (λ j. j < n) formula
      → length new ≡ length old → EachNamed (IsMarked new) formula
      → ((j : ℕ) → IsMarked old j → IsMarked new j)
      → ((has : ℕ → Bool) → EachNamed (λ j. has j ≡ true) formula → ((j : ℕ) → IsMarked old j → has j ≡ true)
      → (j : ℕ) → IsMarked new j → has j ≡ true)
      → Covers formulas i n new
  covers-more n formula old new before lt is marked earlier same named kept only = record {
    count = same ∙ before.count;
    itself = kept i before.itself;
    ancestors = λ j mark has here closed. only has
        (subst (EachNamed (λ j. has j ≡ true)) (sym is) (closed n lt (before.ancestors n marked has here closed)))
        (λ k old_mark. before.ancestors k old_mark has here closed) j mark;
    closed = λ k from mark. elim (cases_eq k n) as (λ _. EachNamed (IsMarked new) (formula_at formulas k)) [
      | inl e ↦ subst (λ k. EachNamed (IsMarked new) (formula_at formulas k)) (sym e)
          (subst (EachNamed (IsMarked new)) is named)
      | inr ne ↦ each-weaker (IsMarked old) (IsMarked new) kept (formula_at formulas k)
          (before.closed k (omega arith) (old_mark k (omega arith) mark))
    ];
  }
    where
      low_or : (b c : Bool) → (b || c) ≡ true → c ≡ false → b ≡ true
      low_or true c is none = refl
      low_or false c is none = absurd cc

      left_or : (b c : Bool) → b ≡ true → (b || c) ≡ true
      left_or true c is = refl
      left_or false c is = absurd cc

      right_or : (b c : Bool) → c ≡ true → (b || c) ≡ true
      right_or true c is = refl
      right_or false c is = is

      old_mark : (k : ℕ) → n < k → IsMarked new k → IsMarked old k
      old_mark k above mark = low_or (get_or old k false) (ltb k n)
          (only (λ j. get_or old j false || ltb j n)
          (each-weaker (λ j. j < n) (λ j. (get_or old j false || ltb j n) ≡ true)
          (λ j low. right_or (get_or old j false) (ltb j n) (grind arith)) formula earlier)
          (λ j was. left_or (get_or old j false) (ltb j n) was) k mark) (grind arith)

  -- all of them
  pub covers-all : (marks : List Bool) → Covers formulas i 0 marks → Marks formulas i marks
  covers-all marks all = λ j. (
    (λ mark. all.ancestors j mark),
    (λ is. is (λ k. get_or marks k false) all.itself (λ k lt mark. all.closed k (omega arith) mark)),
  )
