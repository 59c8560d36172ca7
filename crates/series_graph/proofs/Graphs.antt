-- Graphs with a node more, or with a part more, and what a call leaves of the parts that were known.
use Rattle.std.proofs.Common.{◌≡◌, ◌≢◌, ℕ, suc, ◌<◌, ◌≤◌, inl, inr, Bool, true}
use Rattle.std.proofs.Common.{List, [], ◌∷◌, ◌++◌}
use Rattle.std.proofs.Common.{length, set, ltb, refl, sym, ◌∙◌, ap, subst, arith}
use Rattle.std.proofs.lemmas.Bool.{cases_eq, cases_lt}
use Rattle.std.proofs.lemmas.List.{append-nil, append_assoc, length-set, length-append, length_push, get_or-set_same}
use Rattle.std.proofs.lemmas.List.{get_or-set_other, get_or_append_left}
use Rattle.std.proofs.Math.Seq.{get_or-append_seam}
use Rattle.parts.specs.PartValue.{PartValue}
use Rattle.parts.specs.RowsOfParts.{part_in, nothing}
use Rattle.series_graph.specs.Formula.{EachNamed}
use Rattle.series_graph.specs.Meaning.{formula_at}
use Rattle.series_graph.specs.GraphValue.{GraphValue, size_of, known_at}
use Rattle.series_graph.specs.GraphValue.{IsKnownPart, IsGraph}
use Rattle.series_graph.specs.Calls.{BeginsWith, AddsPart, Keeps, IsAncestor}
use Rattle.series_graph.proofs.Named.{each-weaker}

-- what stays
pub keeps-more : (old mid new : GraphValue) → Keeps old mid → Keeps mid new → Keeps old new
keeps-more old mid new first then = record {
  new_is = then.new_is ∙ ap (λ (g : GraphValue). record g { known = new.known }) first.new_is;
  count = then.count ∙ first.count;
  begin = λ i. (
    (first.begin i).0 ++ (then.begin i).0,
    (then.begin i).1 ∙ ap (λ ps. ps ++ (then.begin i).0) (first.begin i).1
        ∙ append_assoc (known_at old i) (first.begin i).0 (then.begin i).0,
  );
}

-- no part is lost
pub keeps_many : (old new : GraphValue) → Keeps old new → (i : ℕ) → length (known_at old i) ≤ length (known_at new i)
keeps_many old new keeps i =
    let e = ap length (keeps.begin i).1 ∙ length-append (known_at old i) (keeps.begin i).0 in omega arith

-- a part more
abbrev pub with_part : GraphValue → ℕ → PartValue → GraphValue
with_part graph i p = record graph { known = set graph.known i (known_at graph i ++ p ∷ []) }

module _ (graph : GraphValue) (i : ℕ) (p : PartValue) (there : i < length graph.known) where
  part_here : known_at (with_part graph i p) i ≡ known_at graph i ++ p ∷ []
  part_here = get_or-set_same graph.known i (known_at graph i ++ p ∷ []) [] there

  part_one : length (known_at (with_part graph i p) i) ≡ suc (length (known_at graph i))
  part_one = let e = ap length part_here in let m = length_push (known_at graph i) p in omega arith

  part_elsewhere : (h : ℕ) → h ≢ i → known_at (with_part graph i p) h ≡ known_at graph h
  part_elsewhere h ne = get_or-set_other graph.known i h (known_at graph i ++ p ∷ []) [] ne

  part_keeps : Keeps graph (with_part graph i p)
  part_keeps = record {
    new_is = refl;
    count = length-set graph.known i (known_at graph i ++ p ∷ []);
    begin = λ h. elim (cases_eq h i) as (λ _. BeginsWith (known_at graph h) (known_at (with_part graph i p) h)) [
      | inl e ↦ subst (λ h. BeginsWith (known_at graph h) (known_at (with_part graph i p) h)) (sym e)
          (p ∷ [], part_here)
      | inr ne ↦ ([], part_elsewhere h ne ∙ sym (append-nil (known_at graph h)))
    ];
  }

  grown : (h : ℕ) → length (known_at graph h) ≤ length (known_at (with_part graph i p) h)
  grown = keeps_many graph (with_part graph i p) part_keeps

module _ (old new : GraphValue) (i : ℕ) (there : i < length old.known) (adds : AddsPart i old new) where
  pub added_keeps : Keeps old new
  added_keeps = subst (Keeps old) (sym adds.new_is) (part_keeps old i adds.part there)

  pub added_elsewhere : (h : ℕ) → h ≢ i → known_at new h ≡ known_at old h
  added_elsewhere h ne = subst (λ (g : GraphValue). known_at g h ≡ known_at old h) (sym adds.new_is)
      (part_elsewhere old i adds.part there h ne)

  pub added_one : length (known_at new i) ≡ suc (length (known_at old i))
  added_one = subst (λ (g : GraphValue). length (known_at g i) ≡ suc (length (known_at old i))) (sym adds.new_is)
      (part_one old i adds.part there)

-- what holds for every graph holds with the next part of a node
pub part_graph : (graph : GraphValue) (i : ℕ) (p : PartValue) → IsGraph graph → i < size_of graph
    → length (known_at graph i) ≤ 4095
    → EachNamed (λ j. length (known_at graph i) < length (known_at graph j)) (formula_at graph.formulas i)
    → IsKnownPart graph.ring graph.formulas i (length (known_at graph i)) p → IsGraph (with_part graph i p)
part_graph graph i p is inside few named next = record {
  few = is.few;
  constants_count = is.constants_count;
  known_count = length-set graph.known i (known_at graph i ++ p ∷ []) ∙ is.known_count;
  lawful = is.lawful;
  constants_are = is.constants_are;
  known_few = λ h. elim (cases_eq h i) as (λ _. length (known_at (with_part graph i p) h) ≤ 4096) [
    | inl e ↦ subst (λ h. length (known_at (with_part graph i p) h) ≤ 4096) (sym e) (let n = count in omega arith)
    | inr ne ↦ subst (λ (ps : List PartValue). length ps ≤ 4096) (sym (part_elsewhere graph i p there h ne))
        (is.known_few h)
  ];
  known_are = λ h r lt below. elim (cases_eq h i) as
      (λ _. IsKnownPart graph.ring graph.formulas h r (part_in (known_at (with_part graph i p) h) r)) [
        | inl e ↦ subst (λ h. IsKnownPart graph.ring graph.formulas h r (part_in (known_at (with_part graph i p) h) r))
            (sym e) (here r (subst (λ h. r < length (known_at (with_part graph i p) h)) e below))
        | inr ne ↦ subst (λ (ps : List PartValue). IsKnownPart graph.ring graph.formulas h r (part_in ps r))
            (sym (part_elsewhere graph i p there h ne)) (is.known_are h r lt
            (subst (λ (ps : List PartValue). r < length ps) (part_elsewhere graph i p there h ne) below))
      ];
  falling = λ h lt. elim (cases_eq h i) as
      (λ _. EachNamed (λ j. length (known_at (with_part graph i p) h) ≤ length (known_at (with_part graph i p) j))
      (formula_at graph.formulas h)) [
        | inl e ↦ subst (λ h. EachNamed
            (λ j. length (known_at (with_part graph i p) h) ≤ length (known_at (with_part graph i p) j))
            (formula_at graph.formulas h)) (sym e)
            (each-weaker (λ j. length (known_at graph i) < length (known_at graph j))
            (λ j. length (known_at (with_part graph i p) i) ≤ length (known_at (with_part graph i p) j))
            (λ j more. let n = count in let m = grown graph i p there j in omega arith)
            (formula_at graph.formulas i) named)
        | inr ne ↦ each-weaker (λ j. length (known_at graph h) ≤ length (known_at graph j))
            (λ j. length (known_at (with_part graph i p) h) ≤ length (known_at (with_part graph i p) j))
            (λ j le. let same = ap length (part_elsewhere graph i p there h ne) in
            let m = grown graph i p there j in omega arith) (formula_at graph.formulas h) (is.falling h lt)
      ];
}
  where
    there : i < length graph.known
    there = let n = is.known_count in omega arith

    count : length (known_at (with_part graph i p) i) ≡ suc (length (known_at graph i))
    count = part_one graph i p there

    last : (r : ℕ) → r < length (known_at graph i ++ p ∷ [])
        → IsKnownPart graph.ring graph.formulas i r (part_in (known_at graph i ++ p ∷ []) r)
    last r lt = elim (cases_lt r (length (known_at graph i))) as
        (λ _. IsKnownPart graph.ring graph.formulas i r (part_in (known_at graph i ++ p ∷ []) r)) [
          | inl low ↦ subst (IsKnownPart graph.ring graph.formulas i r)
              (sym (get_or_append_left (known_at graph i) (p ∷ []) nothing r low)) (is.known_are i r inside low)
          | inr high ↦
              let end : length (known_at graph i) ≡ r = omega (arith, length_push (known_at graph i) p) in
              subst (λ n. IsKnownPart graph.ring graph.formulas i n (part_in (known_at graph i ++ p ∷ []) n)) end
              (subst (IsKnownPart graph.ring graph.formulas i (length (known_at graph i)))
              (sym (get_or-append_seam (known_at graph i) p [] nothing)) next)
        ]

    here : (r : ℕ) → r < length (known_at (with_part graph i p) i)
        → IsKnownPart graph.ring graph.formulas i r (part_in (known_at (with_part graph i p) i) r)
    here r lt = subst (λ (ps : List PartValue). IsKnownPart graph.ring graph.formulas i r (part_in ps r))
        (sym (part_here graph i p there)) (last r (subst (λ (ps : List PartValue). r < length ps)
        (part_here graph i p there) lt))

-- no node knows more than those that it rests on
pub rests_known : (graph : GraphValue) (i h n : ℕ) → IsGraph graph → n ≤ length (known_at graph i)
    → IsAncestor graph.formulas i h → n ≤ length (known_at graph h)
rests_known graph i h n is many rests = from_test h (rests has (to_test i many)
    (λ k lt here. each-weaker (λ j. length (known_at graph k) ≤ length (known_at graph j)) (λ j. has j ≡ true)
    (λ j le. to_test j (let m = from_test k here in omega arith)) (formula_at graph.formulas k) (is.falling k lt)))
  where
    has : ℕ → Bool
    has j = ltb n (suc (length (known_at graph j)))

    to_test : (j : ℕ) → n ≤ length (known_at graph j) → has j ≡ true
    to_test j le = grind arith

    from_test : (h : ℕ) → has h ≡ true → n ≤ length (known_at graph h)
    from_test h is = grind arith
