-- The text that was read is that of the polynomials of its terms.
use Rattle.std.proofs.Common.{◌≡◌, ℕ, zero, suc, ◌+◌, ◌%◌, ◌<◌, ◌≤◌, true, false, cond, ◌&&◌, T, List, [], ◌∷◌}
use Rattle.std.proofs.Common.{◌++◌}
use Rattle.std.proofs.Common.{Option, Some, None, eqb, leb, map, codes, refl, sym, ◌∙◌, ap, subst}
use Rattle.std.proofs.Common.{arith}
use Rattle.std.proofs.Common.{append_assoc, append-nil}
use Rattle.std.specs.List.{AllByRecursion, count_by}
use Rattle.std.specs.Option.{unwrap_or}
use Rattle.std.specs.Ordering.{eq_by_cmp}
use Rattle.std.specs.FinMap.{get, find, is_sorted}
use Rattle.std.specs.declared.cmp.Ordering.{Ordering}
use Rattle.std.proofs.lemmas.Bool.{eqb-true, eqb-false, leb-false}
use Rattle.ps_model.specs.declared.job.Root.{Root}
use Rattle.ps_model.specs.Keys.{Key, numbers, key_compare}
use Rattle.ps_model.specs.KeyLaws.{key_compare_total, key_compare-IsAntisymmetric}
use Rattle.ps_model.specs.BlockText.{terms_text, printed_terms, power_line, power_lines, factor_text, factor_texts}
use Rattle.ps_model.specs.BlockText.{lead_text, newline}
use Rattle.ps_model.specs.Job.{series_ring}
use Rattle.ps_model.specs.PlainLists.{plain_degree}
use Rattle.ps_model.specs.SeriesRing.{ring as ring_of, Poly}
use Rattle.ps_model.proofs.OfMap.{coefficient-of_map, map-of_map}
use Rattle.ps_model.proofs.Origin.{none_above_is}
use Rattle.parts.specs.Rings.{modulus_of, eight_weights}
use Rattle.parts.specs.Series.{series, polynomial_modulo, polynomial_in}
use Rattle.parts.specs.declared.rings.Ring.{Ring}
use Rattle.parts.proofs.Polynomials.{modulus_is}
use Rattle.printer.specs.ReadForms.{IsNamed}
use Rattle.printer.specs.ReadBlock.{printed_order, IsTerm, HasMarkedLine, HasPowerLines, head_text, mark_text}
use Rattle.printer.specs.ReadFactors.{HasFactor, HasFactors}
use Rattle.printer.specs.ReadLaw.{IsPrinted, ArePrinted}
use Rattle.printer.specs.ReadText.{Coefficients, IsReduced}
use Rattle.printer.specs.ReadTermLists.{IsTermList, HasTerms, HaveTerms}
use Rattle.printer.proofs.ReadBuilt.{by_recursion}
use Rattle.printer.proofs.ReadCounts.{count_at, count_append, count_none, count_sorted, find_none, find_holds}
use Rattle.printer.proofs.ReadDegrees.{printed_order_total}
use Rattle.printer.proofs.ReadPrinted.{or_else, find_in_both}
use Rattle.printer.proofs.ReadSorted.{printed_are}

abbrev Entry : Type 0
Entry = Key 8 × ℕ

abbrev keys : Key 8 → Key 8 → Ordering
keys = key_compare 8

each_weaker : (P Q : Entry → Type 0) → ((e : Entry) → P e → Q e) → (es : List Entry) → AllByRecursion P es
    → AllByRecursion Q es
each_weaker P Q f [] h = tt
each_weaker P Q f (e ∷ es) h = (f e h.0, each_weaker P Q f es h.1)

each_append : (P : Entry → Type 0) (es fs : List Entry) → AllByRecursion P es → AllByRecursion P fs
    → AllByRecursion P (es ++ fs)
each_append P [] fs a b = b
each_append P (e ∷ es) fs a b = (a.0, each_append P es fs a.1 b)

or_none : (o : Option ℕ) → or_else o None ≡ o
or_none None = refl
or_none (Some x) = refl

find_here : (k : Key 8) (P : Entry → Type 0) → ((e : Entry) → P e → k ≡ e.0 → ⊥) → (es : List Entry)
    → AllByRecursion P es → find keys k es ≡ None
find_here k P differs es all =
    find_none keys (key_compare_total 8) (key_compare-IsAntisymmetric 8) P k differs es all

count_here : (k : Key 8) (P : Entry → Type 0) → ((e : Entry) → P e → k ≡ e.0 → ⊥) → (es : List Entry)
    → AllByRecursion P es → count_at keys (key_compare_total 8) (key_compare-IsAntisymmetric 8) k es ≡ 0
count_here k P differs es all =
    count_none keys (key_compare_total 8) (key_compare-IsAntisymmetric 8) P k differs es all

same_y : (k : Key 8) (e : Entry) → k ≡ e.0 → k.y ≡ e.0.y
same_y k e h = ap (λ (x : Key 8). x.y) h

-- a polynomial of which the map is known
module _ (m : ℕ) (ws : List ℕ) (names : List (List ℕ)) (D : ℕ) (p : Coefficients) where
  abbrev HasResiduesHere : Type 0
  HasResiduesHere = (k : Key 8) (c : ℕ) → get p k ≡ Some c → (0 < c) × (c < (series_ring m ws).modulus)

  -- a line of it
  pub line_is : HasResiduesHere → (j : ℕ) (ts : List Entry) → T (is_sorted (printed_order ws) ts)
      → ((q : Key 8) → find (key_compare 8) q ts ≡ cond (eqb q.y j && leb (plain_degree ws q) D) (get p q) None)
      → terms_text names (printed_terms (series_ring m ws) (polynomial_modulo m ws p) j D) ≡ terms_text names ts
  unfolding series_ring polynomial_modulo printed_order plain_degree
  line_is has j ts sorted found =
      ap (terms_text names)
      (printed_are (series_ring m ws) (polynomial_modulo m ws p) j D ts sorted
      (λ q. found q ∙ ap (λ (f : Coefficients). cond (eqb q.y j && leb (plain_degree ws q) D) (get f q) None)
      (sym (map-of_map (ring_of (series_ring m ws)) p has))))

  none_left : (n : ℕ) → 0 < n → 0 % n ≡ 0
  none_left n h = omega arith

  absent : (o : Option ℕ) (n : ℕ) → 0 < n → ((c : ℕ) → o ≡ Some c → ⊥) → unwrap_or o 0 % n ≡ 0
  absent None n h none = none_left n h
  absent (Some c) n h none = absurd (none c refl)

  pub printed_is : (K : ℕ) → HasResiduesHere → ((k : Key 8) (c : ℕ) → get p k ≡ Some c
      → (plain_degree ws k ≤ D) × (k.y ≤ K) × IsNamed names (numbers 8 k.powers))
      → IsPrinted (series_ring m ws) names D K (polynomial_modulo m ws p)
  unfolding series_ring polynomial_modulo plain_degree
  printed_is K has each = record {
    degree = none_above_is (ring_of (series_ring m ws)) (ring_of (series_ring m ws)).degree D
        (polynomial_modulo m ws p) (λ k high. coefficient-of_map (ring_of (series_ring m ws)) p k
        ∙ absent (get p k) (ring_of (series_ring m ws)).modulus (some_modulus)
        (λ c is. too_high (plain_degree ws k) D high (each k c is).0));
    y_degree = none_above_is (ring_of (series_ring m ws)) (ring_of (series_ring m ws)).y_degree K
        (polynomial_modulo m ws p) (λ k high. coefficient-of_map (ring_of (series_ring m ws)) p k
        ∙ absent (get p k) (ring_of (series_ring m ws)).modulus (some_modulus)
        (λ c is. too_high k.y K high (each k c is).1));
    is_named = λ k c is. (each k c (ap (λ (f : Coefficients). get f k)
        (sym (map-of_map (ring_of (series_ring m ws)) p has)) ∙ is)).2;
  }
    where
      some_modulus : 0 < (ring_of (series_ring m ws)).modulus
      some_modulus = let two = (ring_of (series_ring m ws)).at_least_two in omega arith

      too_high : (a b : ℕ) → b < a → a ≤ b → ⊥
      too_high a b h g = omega arith

module _ (ring : Ring) (names : List (List ℕ)) (D : ℕ) where
  -- the terms of the lines from Y^j down
  pub record IsTermUpTo (j : ℕ) (e : Entry) : Type 0 where
    pub term : IsTerm ring names D e.0.y e
    pub low : e.0.y ≤ j

  pub record LinesAre (j : ℕ) (old new : List Entry) : Type 0 where
    pub later : List Entry
    pub new_is : new ≡ old ++ later
    pub each : AllByRecursion (IsTermUpTo j) later
    pub once : (k : Key 8) → count_by (λ e. eq_by_cmp (key_compare 8) k e.0) later ≤ 1

  up_to : (j : ℕ) (e : Entry) → IsTerm ring names D j e → IsTermUpTo j e
  up_to j e is = record { term = subst (λ n. IsTerm ring names D n e) (sym is.y) is; low = least e.0.y is.y }
    where
      least : (n : ℕ) → n ≡ j → n ≤ j
      least n e = omega arith

  higher : (j : ℕ) (e : Entry) → IsTermUpTo j e → IsTermUpTo (suc j) e
  higher j e is = record { term = is.term; low = more e.0.y is.low }
    where
      more : (n : ℕ) → n ≤ j → n ≤ suc j
      more n h = omega arith

  line_once : (j : ℕ) (es : List Entry) → T (is_sorted (printed_order (eight_weights ring)) es) → (k : Key 8)
      → count_by (λ e. eq_by_cmp (key_compare 8) k e.0) es ≤ 1
  line_once j es sorted k =
      count_sorted keys (key_compare_total 8) (key_compare-IsAntisymmetric 8) (printed_order (eight_weights ring))
      (printed_order_total (eight_weights ring)) k es sorted

  both_once : (j : ℕ) (es fs : List Entry) → AllByRecursion (IsTerm ring names D (suc j)) es
      → AllByRecursion (IsTermUpTo j) fs
      → ((k : Key 8) → count_by (λ e. eq_by_cmp (key_compare 8) k e.0) es ≤ 1)
      → ((k : Key 8) → count_by (λ e. eq_by_cmp (key_compare 8) k e.0) fs ≤ 1)
      → (k : Key 8) → count_by (λ e. eq_by_cmp (key_compare 8) k e.0) (es ++ fs) ≤ 1
  both_once j es fs are low once once' k = elim (eqb k.y (suc j)) as
      (λ b. eqb k.y (suc j) ≡ b → count_by (λ e. eq_by_cmp (key_compare 8) k e.0) (es ++ fs) ≤ 1) [
        | true ↦ λ y. right _ _ _ sum (once k)
            (count_here k (IsTermUpTo j) (λ e is same. too_low k.y e.0.y (eqb-true k.y (suc j) y) (same_y k e same)
            is.low) fs low)
        | false ↦ λ y. left _ _ _ sum (once' k)
            (count_here k (IsTerm ring names D (suc j))
            (λ e is same. eqb-false k.y (suc j) y (same_y k e same ∙ is.y)) es are)
      ] refl
    where
      sum : count_by (λ e. eq_by_cmp (key_compare 8) k e.0) (es ++ fs)
          ≡ count_by (λ e. eq_by_cmp (key_compare 8) k e.0) es + count_by (λ e. eq_by_cmp (key_compare 8) k e.0) fs
      sum = count_append keys (key_compare_total 8) (key_compare-IsAntisymmetric 8) k es fs

      right : (a b c : ℕ) → a ≡ b + c → b ≤ 1 → c ≡ 0 → a ≤ 1
      right a b c e h z = omega arith

      left : (a b c : ℕ) → a ≡ b + c → c ≤ 1 → b ≡ 0 → a ≤ 1
      left a b c e h z = omega arith

      too_low : (a b : ℕ) → a ≡ suc j → a ≡ b → b ≤ j → ⊥
      too_low a b e f h = omega arith

  pub lines_are : (j : ℕ) (text : List ℕ) (old new : List Entry) (rest : List ℕ)
      → HasPowerLines ring names D j text old new rest → LinesAre j old new
  lines_are zero text old new rest is = record {
    later = is.line.terms;
    new_is = is.line.new_is;
    each = each_weaker (IsTerm ring names D 0) (IsTermUpTo 0) (up_to 0) is.line.terms is.line.are.each;
    once = line_once 0 is.line.terms is.line.are.in_order;
  }
  lines_are (suc j) text old new rest is =
      let here = is.2.line in
      let below = lines_are j is.1 is.0 new rest is.3 in
      record {
        later = here.terms ++ below.later;
        new_is = below.new_is ∙ ap (λ (l : List Entry). l ++ below.later) here.new_is
            ∙ append_assoc old here.terms below.later;
        each = each_append (IsTermUpTo (suc j)) here.terms below.later
            (each_weaker (IsTerm ring names D (suc j)) (IsTermUpTo (suc j)) (up_to (suc j)) here.terms here.are.each)
            (each_weaker (IsTermUpTo j) (IsTermUpTo (suc j)) (higher j) below.later below.each);
        once = both_once j here.terms below.later here.are.each below.each
            (line_once (suc j) here.terms here.are.in_order) below.once;
      }

  pub term_list : (j : ℕ) (new : List Entry) → LinesAre j [] new → IsTermList new
  term_list j new lines = subst IsTermList (sym lines.new_is) (record {
    once = lines.once;
    some = by_recursion (λ (e : Entry). 0 < e.1) lines.later
        (each_weaker (IsTermUpTo j) (λ e. 0 < e.1) (λ e is. is.term.some) lines.later lines.each);
  })

  -- what a map with these terms has
  pub found_is : (j : ℕ) (new : List Entry) (p : Coefficients) → LinesAre j [] new → HasTerms p new
      → (k : Key 8) (c : ℕ) → get p k ≡ Some c → IsTermUpTo j (k, c)
  found_is j new p lines has k c is =
      find_holds keys (key_compare_total 8) (key_compare-IsAntisymmetric 8) (IsTermUpTo j) k c lines.later lines.each
      (ap (find keys k) (sym lines.new_is) ∙ sym (has.at k) ∙ is)

  pub reduced_is : (j : ℕ) (new : List Entry) (p : Coefficients) → LinesAre j [] new → HasTerms p new → IsReduced ring p
  reduced_is j new p lines has k c is =
      let found = found_is j new p lines has k c is in (found.term.some, found.term.residue)

  -- the text of the map that has the terms
  module _ (p : Coefficients) (new : List Entry) (has : HasTerms p new) (reduced : IsReduced ring p) where
    abbrev here : Poly (series ring)
    here = polynomial_in ring p

    residues : (k : Key 8) (c : ℕ) → get p k ≡ Some c → (0 < c) × (c < (series ring).modulus)
    residues k c is =
        let r = reduced k c is in (r.0, subst (λ n. c < n) (sym (modulus_is ring)) r.1)

    line_found : (j : ℕ) (old ts later : List Entry) → new ≡ (old ++ ts) ++ later
        → AllByRecursion (λ e. j < e.0.y) old → AllByRecursion (IsTerm ring names D j) ts
        → AllByRecursion (λ e. e.0.y < j) later → (q : Key 8) → find (key_compare 8) q ts
        ≡ cond (eqb q.y j && leb (plain_degree (eight_weights ring) q) D) (get p q) None
    line_found j old ts later is high are low q = elim (eqb q.y j) as (λ b. eqb q.y j ≡ b → find (key_compare 8) q ts
        ≡ cond (b && leb (plain_degree (eight_weights ring) q) D) (get p q) None) [
          | true ↦ λ y. elim (leb (plain_degree (eight_weights ring) q) D) as
              (λ b. leb (plain_degree (eight_weights ring) q) D ≡ b
              → find (key_compare 8) q ts ≡ cond b (get p q) None) [
                | true ↦ λ d.
                    let y_is = eqb-true q.y j y in
                    sym (has.at q ∙ ap (find keys q) is ∙ find_in_both keys q (old ++ ts) later
                    ∙ (λ i. or_else (find_in_both keys q old ts i) (find_here q (λ e. e.0.y < j)
                    (λ e below same. too_low q.y e.0.y y_is (same_y q e same) below) later low i))
                    ∙ or_none (or_else (find keys q old) (find keys q ts))
                    ∙ ap (λ o. or_else o (find keys q ts)) (find_here q (λ e. j < e.0.y)
                    (λ e above same. too_high q.y e.0.y y_is (same_y q e same) above) old high))
                | false ↦ λ d. find_here q (IsTerm ring names D j)
                    (λ e is same. beyond (plain_degree (eight_weights ring) q) (plain_degree (eight_weights ring) e.0)
                    (leb-false (plain_degree (eight_weights ring) q) D d)
                    (ap (plain_degree (eight_weights ring)) same) is.low) ts are
              ] refl
          | false ↦ λ y. find_here q (IsTerm ring names D j)
              (λ e is same. eqb-false q.y j y (same_y q e same ∙ is.y)) ts are
        ] refl
      where
        too_low : (a b : ℕ) → a ≡ j → a ≡ b → b < j → ⊥
        too_low a b e f h = omega arith

        too_high : (a b : ℕ) → a ≡ j → a ≡ b → j < b → ⊥
        too_high a b e f h = omega arith

        beyond : (a b : ℕ) → D < a → a ≡ b → b ≤ D → ⊥
        beyond a b h e g = omega arith

    marked_text : (j : ℕ) (mark text : List ℕ) (old now later : List Entry) (left : List ℕ)
        → (is : HasMarkedLine ring names D j mark text old now left) → new ≡ now ++ later
        → AllByRecursion (λ e. j < e.0.y) old → AllByRecursion (λ e. e.0.y < j) later
        → text ≡ ((mark ++ terms_text names (printed_terms (series ring) here j D)) ++ newline) ++ left
    marked_text j mark text old now later left is new_is high low =
        is.text_is ∙ ap (λ (l : List ℕ). mark ++ l) is.line.text_is
        ∙ regroup mark (terms_text names is.line.terms) newline left
        ∙ ap (λ (l : List ℕ). ((mark ++ l) ++ newline) ++ left)
        (sym (line_is (modulus_of ring) (eight_weights ring) names D p residues j is.line.terms is.line.are.in_order
        (line_found j old is.line.terms later
        (new_is ∙ ap (λ (l : List Entry). l ++ later) is.line.new_is) high is.line.are.each low)))
      where
        regroup : (x t n r : List ℕ) → x ++ (t ++ (n ++ r)) ≡ ((x ++ t) ++ n) ++ r
        regroup x t n r = simp append_assoc

    pub powers_text : (j : ℕ) (text : List ℕ) (old : List Entry) (rest : List ℕ)
        → HasPowerLines ring names D j text old new rest → AllByRecursion (λ e. j < e.0.y) old
        → text ≡ power_lines (series ring) names D here j ++ rest
    powers_text zero text old rest is high =
        marked_text 0 (mark_text 0) text old new [] rest is (sym (append-nil new)) high tt
    powers_text (suc j) text old rest is high =
        let below = lines_are j is.1 is.0 new rest is.3 in
        let high_now : AllByRecursion (λ e. j < e.0.y) is.0 =
        subst (AllByRecursion (λ (e : Entry). j < e.0.y)) (sym is.2.line.new_is)
        (each_append (λ e. j < e.0.y) old is.2.line.terms
        (each_weaker (λ e. suc j < e.0.y) (λ e. j < e.0.y) (λ e h. less e.0.y h) old high)
        (each_weaker (IsTerm ring names D (suc j)) (λ e. j < e.0.y) (λ e h. exact e.0.y h.y) is.2.line.terms
        is.2.line.are.each)) in
        marked_text (suc j) (mark_text (suc j)) text old is.0 below.later is.1 is.2 below.new_is high
        (each_weaker (IsTermUpTo j) (λ e. e.0.y < suc j) (λ e h. within e.0.y h.low) below.later below.each)
        ∙ ap (λ (l : List ℕ). power_line (series ring) names D here (suc j) ++ l)
        (powers_text j is.1 is.0 rest is.3 high_now)
        ∙ sym (append_assoc (power_line (series ring) names D here (suc j)) (power_lines (series ring) names D here j)
        rest)
      where
        less : (n : ℕ) → suc j < n → j < n
        less n h = omega arith

        exact : (n : ℕ) → n ≡ suc j → j < n
        exact n e = omega arith

        within : (n : ℕ) → n ≤ j → n < suc j
        within n h = omega arith

    pub factor_text_is : (i : ℕ) (root : Root) (text rest : List ℕ) → HasFactor ring names D i root text [] new rest
        → text ≡ factor_text (series ring) names D i root here ++ rest
    factor_text_is i root text rest is =
        is.text_is
        ∙ ap (λ (l : List ℕ). (head_text i root ++ newline) ++ l) (powers_text root.times is.behind [] rest is.lines tt)
        ∙ sym (append_assoc (head_text i root ++ newline) (power_lines (series ring) names D here root.times) rest)

    pub lead_text_is : (text rest : List ℕ) → HasMarkedLine ring names D 0 (codes "lead: ") text [] new rest
        → text ≡ lead_text (series ring) names D (Some here) ++ rest
    lead_text_is text rest is = marked_text 0 (codes "lead: ") text [] new [] rest is (sym (append-nil new)) tt tt

    pub printed_here : (K : ℕ) → LinesAre K [] new → IsPrinted (series ring) names D K here
    printed_here K lines = printed_is (modulus_of ring) (eight_weights ring) names D p K residues
        (λ k c is. let found = found_is K new p lines has k c is in
        (found.term.low, found.low, found.term.is_named))

  pub lead_lines : (text : List ℕ) (new : List Entry) (rest : List ℕ)
      → HasMarkedLine ring names D 0 (codes "lead: ") text [] new rest → LinesAre 0 [] new
  lead_lines text new rest is = record {
    later = is.line.terms;
    new_is = is.line.new_is;
    each = each_weaker (IsTerm ring names D 0) (IsTermUpTo 0) (up_to 0) is.line.terms is.line.are.each;
    once = line_once 0 is.line.terms is.line.are.in_order;
  }

  -- all factors
  pub lists_are : (i : ℕ) (roots : List Root) (text : List ℕ) (fs : List (List Entry))
      → HasFactors ring names D i roots text fs → AllByRecursion IsTermList fs
  lists_are i [] text [] is = tt
  lists_are i [] text (f ∷ fs) is = absurd is
  lists_are i (root ∷ roots) text [] is = absurd is
  lists_are i (root ∷ roots) text (f ∷ fs) is = (
    term_list root.times f (lines_are root.times is.1.behind [] f is.0 is.1.lines),
    lists_are (suc i) roots is.0 fs is.2,
  )

  pub record FactorsAre (i : ℕ) (roots : List Root) (text : List ℕ) (ps : List Coefficients) : Type 0 where
    pub text_is : text ≡ factor_texts (series ring) names D i roots (map (polynomial_in ring) ps)
    pub printed : ArePrinted (series ring) names D roots (map (polynomial_in ring) ps)
    pub reduced : AllByRecursion (IsReduced ring) ps

  pub factors_are : (i : ℕ) (roots : List Root) (text : List ℕ) (fs : List (List Entry)) (ps : List Coefficients)
      → HasFactors ring names D i roots text fs → HaveTerms ps fs → FactorsAre i roots text ps
  factors_are i [] text [] [] is have = record { text_is = is; printed = tt; reduced = tt }
  factors_are i [] text [] (p ∷ ps) is have = absurd have
  factors_are i [] text (f ∷ fs) ps is have = absurd is
  factors_are i (root ∷ roots) text [] ps is have = absurd is
  factors_are i (root ∷ roots) text (f ∷ fs) [] is have = absurd have
  factors_are i (root ∷ roots) text (f ∷ fs) (p ∷ ps) is have =
      let lines = lines_are root.times is.1.behind [] f is.0 is.1.lines in
      let reduced = reduced_is root.times f p lines have.0 in
      let later = factors_are (suc i) roots is.0 fs ps is.2 have.1 in
      record {
        text_is = factor_text_is p f have.0 reduced i root text is.0 is.1
            ∙ ap (λ (l : List ℕ). factor_text (series ring) names D i root (polynomial_in ring p) ++ l) later.text_is;
        printed = (printed_here p f have.0 reduced root.times lines, later.printed);
        reduced = (reduced, later.reduced);
      }
