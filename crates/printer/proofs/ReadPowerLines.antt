-- The loop over the lines of a factor.
use Rattle.std.proofs.Common.{◌≡◌, ℕ, zero, suc, ◌+◌, ◌-◌, ◌<◌, ◌≤◌, List, ◌∷◌, ◌++◌, length, refl, ◌∙◌, ap, subst}
use Rattle.std.proofs.Common.{arith}
use Rattle.std.proofs.Common.{append_assoc, length-append, inl, inr}
use Rattle.ps_model.specs.BlockText.{terms_text, newline}
use Rattle.ps_model.specs.Keys.{Key}
use Rattle.parts.specs.declared.rings.Ring.{Ring}
use Rattle.printer.specs.ReadBlock.{mark_text, power_forms, BeginsWith, HasMarkedLine, HasPowerLines, IsFirstUnlawful}
use Rattle.printer.specs.ReadBlock.{StopsBehind, Form}
use Rattle.printer.specs.ReadBlock.Form.{Coefficient}

abbrev Entries : Type 0
Entries = List (Key 8 × ℕ)

-- what is behind a list is shorter than all
pub behind_shorter : (a b : List ℕ) → length b ≤ length (a ++ b)
behind_shorter a b = omega (arith, length-append a b)

module _ (ring : Ring) (names : List (List ℕ)) (D : ℕ) where
  -- a line has a byte at least
  pub line_shorter : (j : ℕ) (mark text : List ℕ) (old new : Entries) (rest : List ℕ)
      → HasMarkedLine ring names D j mark text old new rest → length rest < length text
  line_shorter j mark text old new rest is =
      let first : length text ≡ length (mark ++ is.behind) = ap (λ (l : List ℕ). length l) is.text_is in
      let second : length is.behind ≡ length (terms_text names is.line.terms ++ 10 ∷ rest) =
      ap (λ (l : List ℕ). length l) is.line.text_is in
      let third : length (10 ∷ rest) ≡ suc (length rest) = refl in
      omega (
        arith,
        first,
        second,
        third,
        behind_shorter mark is.behind,
        behind_shorter (terms_text names is.line.terms) (10 ∷ rest),
      )

  -- a line that was read begins the text
  pub begins : (j : ℕ) (mark text : List ℕ) (old new : Entries) (rest : List ℕ)
      → HasMarkedLine ring names D j mark text old new rest
      → BeginsWith ring names D (Coefficient mark j) text rest
  begins j mark text old new rest is = record {
    line = mark ++ (terms_text names is.line.terms ++ newline);
    has_form = (is.line.terms, is.line.are, refl);
    text_is = is.text_is ∙ ap (λ (l : List ℕ). mark ++ l) is.line.text_is
        ∙ regroup mark (terms_text names is.line.terms) newline rest;
  }
    where
      regroup : (a b c d : List ℕ) → a ++ (b ++ (c ++ d)) ≡ (a ++ (b ++ c)) ++ d
      regroup a b c d = simp append_assoc

  -- what stands at a power, where the lines of the powers above were read
  pub record PowersRead (times : ℕ) (text : List ℕ) (old now : Entries) (j : ℕ) (rest : List ℕ) : Type 0 where
    pub within : j ≤ times
    pub back : (new : Entries) (left : List ℕ) → HasPowerLines ring names D j rest now new left
        → HasPowerLines ring names D times text old new left
    pub fault : (later : List Form) (i l : ℕ)
        → IsFirstUnlawful ring names D (power_forms j ++ later) rest (i + (times - j)) l
        → IsFirstUnlawful ring names D (power_forms times ++ later) text i l
    pub long : (times - j) + length rest ≤ length text

  pub powers_begin : (times : ℕ) (text : List ℕ) (old : Entries) → PowersRead times text old old times text
  powers_begin times text old = record {
    within = omega arith;
    back = λ new left h. h;
    fault = λ later i l h.
        let none : i + (times - times) ≡ i = omega arith in
        subst (λ n. IsFirstUnlawful ring names D (power_forms times ++ later) text n l) none h;
    long = omega arith;
  }

  module _ (times : ℕ) (text : List ℕ) (old now : Entries) where
    pub powers_next : (k j : ℕ) (rest behind : List ℕ) (new : Entries) → k ≡ suc j
        → PowersRead times text old now k rest
        → HasMarkedLine ring names D k (mark_text k) rest now new behind → PowersRead times text old new j behind
    powers_next k j rest behind new is read line =
        following j (subst (λ k. PowersRead times text old now k rest) is read)
        (subst (λ k. HasMarkedLine ring names D k (mark_text k) rest now new behind) is line)
      where
        following : (j : ℕ) → PowersRead times text old now (suc j) rest
            → HasMarkedLine ring names D (suc j) (mark_text (suc j)) rest now new behind
            → PowersRead times text old new j behind
        following j read line =
            let within = read.within in
            let long = read.long in
            let shorter = line_shorter (suc j) (mark_text (suc j)) rest now new behind line in
            record {
              within = omega arith;
              long = omega (arith, long, shorter, within);
              back = λ newer left h. read.back newer left (new, behind, line, h);
              fault = λ later i l h.
                  let one_less : i + (times - j) ≡ suc (i + (times - suc j)) = omega arith in
                  read.fault later i l (inr (
                    behind,
                    begins (suc j) (mark_text (suc j)) rest now new behind line,
                    subst (λ n. IsFirstUnlawful ring names D (power_forms j ++ later) behind n l) one_less h,
                  ));
            }

    pub powers_done : (j : ℕ) (rest behind : List ℕ) (new : Entries) → j ≡ 0 → PowersRead times text old now j rest
        → HasMarkedLine ring names D j (mark_text j) rest now new behind
        → HasPowerLines ring names D times text old new behind
    powers_done zero rest behind new is read line = read.back new behind line
    powers_done (suc j) rest behind new is read line = absurd (omega arith)

    pub powers_shorter : (j : ℕ) (rest behind : List ℕ) (new : Entries) → j ≡ 0
        → PowersRead times text old now j rest → HasMarkedLine ring names D j (mark_text j) rest now new behind
        → times + length behind < length text
    powers_shorter j rest behind new is read line =
        let long = read.long in
        omega (arith, long, line_shorter j (mark_text j) rest now new behind line, is)

    first_form : (j : ℕ) (rest : List ℕ) (later : List Form) (i : ℕ)
        → ((left : List ℕ) → BeginsWith ring names D (Coefficient (mark_text j) j) rest left → ⊥)
        → IsFirstUnlawful ring names D (power_forms j ++ later) rest i i
    first_form zero rest later i none = inl (none, refl)
    first_form (suc j) rest later i none = inl (none, refl)

    pub powers_stop : (j : ℕ) (rest : List ℕ) → PowersRead times text old now j rest
        → ((left : List ℕ) → BeginsWith ring names D (Coefficient (mark_text j) j) rest left → ⊥)
        → StopsBehind ring names D times text (times - j)
    powers_stop j rest read none later i =
        read.fault later i (i + (times - j)) (first_form j rest later (i + (times - j)) none)
