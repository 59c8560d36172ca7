-- Each line of a text has the form of a block's that is due, or hasn't.
use Rattle.std.proofs.Common.{◌≡◌, ◌∙◌, sym, ap, refl, append_assoc, ℕ, zero, suc, ◌+◌, ◌-◌, ◌^◌, ◌<◌, ◌≤◌}
use Rattle.std.proofs.Common.{◌⊎◌, inl, inr, arith, Bool, true, false, List, [], ◌∷◌, ◌++◌, length, take}
use Rattle.std.proofs.Common.{Option, Some, None, replicate, codes, length-append}
use Rattle.std.specs.declared.cmp.Ordering.{Ordering}
use Rattle.std.specs.declared.cmp.Ordering.TheVariants.{Less, Equal, Greater}
use Rattle.std.proofs.Math.Seq.{take-append_seam}
use Rattle.std.proofs.lemmas.Bool.Decides.{leb_tells}
use Rattle.std.proofs.lemmas.List.{length-replicate}
use Rattle.std.proofs.lemmas.Option.{none-some}
use Rattle.ps_model.specs.BlockText.{newline, term_text, terms_text}
use Rattle.ps_model.specs.Keys.{Key}
use Rattle.ps_model.specs.Plain.{key_of, entry_of}
use Rattle.ps_model.specs.PlainLists.{plain_degree}
use Rattle.ps_model.specs.declared.job.Root.{Root}
use Rattle.ps_model.specs.declared.plain.PlainTerm.{PlainTerm}
use Rattle.parts.specs.Rings.{modulus_of, eight_weights}
use Rattle.parts.specs.declared.rings.Ring.{Ring}
use Rattle.printer.specs.ReadBlock.{printed_order, IsTerm, AreTerms, IsTermBefore, FollowsBy, BeginsWith, Form}
use Rattle.printer.specs.ReadBlock.{IsFirstUnlawful, HasMarkedLine, HasPowerLines, lead_forms, factor_forms}
use Rattle.printer.specs.ReadBlock.{power_forms, mark_text}
use Rattle.printer.specs.ReadBlock.Form.{Whole, Coefficient}
use Rattle.printer.specs.ReadFactors.{HasFactors}
use Rattle.printer.specs.ReadForms.{AreApart, IsNamed, strip, term_in}
use Rattle.printer.specs.ReadWhole.{HasLead}
use Rattle.printer.proofs.ReadLawful.{none_before, read_text, read_term, only_read}
use Rattle.printer.proofs.ReadLineTerms.{LineGoing, line_start, line_zero, next_before, not_in_order, line_end, no_end}
use Rattle.printer.proofs.ReadLineTerms.{line_more}
use Rattle.printer.proofs.ReadNoFaults.{IsLawful}
use Rattle.printer.proofs.ReadPowers.{strip_is, strip_same}
use Rattle.printer.proofs.ReadTerms.{IsTermRead, term_sound}

abbrev pub Entry : Type 0
Entry = Key 8 × ℕ

abbrev pub Decided : Type 0 → Type 0
Decided A = A ⊎ (A → ⊥)

less_decided : (r : Ordering) → Decided (r ≡ Less)
less_decided Less = inl refl
less_decided Equal = inr (λ e. cc)
less_decided Greater = inr (λ e. cc)

no_names : (k : ℕ) → IsNamed [] (replicate k 0)
no_names zero = tt
no_names (suc k) = (refl, no_names k)

named_padded : (names : List (List ℕ)) (ps : List ℕ) (k : ℕ) → length ps ≡ length names
    → IsNamed names (ps ++ replicate k 0)
named_padded [] [] k e = no_names k
named_padded [] (p ∷ ps) k e = absurd (omega arith)
named_padded (name ∷ names) [] k e = absurd (omega arith)
named_padded (name ∷ names) (p ∷ ps) k e = named_padded names ps k (omega arith)

module _ (ring : Ring) (names : List (List ℕ)) (apart : AreApart names) (few : length names ≤ 8) (D : ℕ)
    (low : D ≤ 4095) where
  two : 2 ≤ modulus_of ring
  two = ring.modulus.low

  fits : modulus_of ring < 2 ^ 64
  fits = let high = ring.modulus.high in omega arith

  abbrev most : ℕ
  most = modulus_of ring - 1

  most_fits : (m : ℕ) → m < 2 ^ 64 → m - 1 < 2 ^ 64
  most_fits m h = omega arith

  -- a term at the beginning of a text
  record IsRead (j : ℕ) (text : List ℕ) (t : Entry) (behind : List ℕ) : Type 0 where
    term : IsTerm ring names D j t
    text_is : text ≡ term_text names t ++ behind
    only : (u : Entry) (r : List ℕ) → IsTermBefore ring names D j text u r → (t ≡ u) × (behind ≡ r)

  abbrev HasNoTerm : ℕ → List ℕ → Type 0
  HasNoTerm j text = (u : Entry) (r : List ℕ) → IsTermBefore ring names D j text u r → ⊥

  module _ (j : ℕ) (text : List ℕ) (c : ℕ) (ps behind : List ℕ)
      (read : term_in most D names text ≡ Some ((c, ps), behind)) where
    sound : IsTermRead most D names text ((c, ps), behind)
    sound = term_sound most D names text ((c, ps), behind) (most_fits (modulus_of ring) fits) (omega arith) read

    t : PlainTerm
    t = record { powers = ps ++ replicate (8 - length names) 0; y = j; coefficient = c }

    eight : (n k : ℕ) → n ≤ 8 → k ≡ n → k + (8 - n) ≡ 8
    eight n k h e = omega arith

    all : length t.powers ≡ 8
    unfolding t
    all = length-append ps (replicate (8 - length names) 0)
        ∙ ap (λ k. length ps + k) (length-replicate (8 - length names) 0) ∙ eight (length names) (length ps) few sound.3

    past : IsNamed names t.powers
    unfolding t
    past = named_padded names ps (8 - length names) sound.3

    taken : take (length names) t.powers ≡ ps
    unfolding t
    taken = ap (λ k. take k (ps ++ replicate (8 - length names) 0)) (sym sound.3)
        ∙ take-append_seam ps (replicate (8 - length names) 0)

    y_is : t.y ≡ j
    unfolding t
    y_is = refl

    found : term_in most D names text ≡ Some ((t.coefficient, take (length names) t.powers), behind)
    unfolding t
    found = read ∙ ap (λ (l : List ℕ). Some ((c, l), behind)) (sym taken)

    of_term : ((t : Entry) × (behind : List ℕ) × IsRead j text t behind) ⊎ HasNoTerm j text
    of_term = elim (leb_tells (suc D) (plain_degree (eight_weights ring) (key_of t))) [
      | inl high ↦ inr (λ u r is.
          let same = only_read ring names D j apart two fits low text behind t all few past y_is found u r is in
          let degree : plain_degree (eight_weights ring) (key_of t) ≡ plain_degree (eight_weights ring) u.0 =
          ap (λ (e : Entry). plain_degree (eight_weights ring) e.0) same.0 in
          let below = is.is_term.low in
          let above = high.1 in
          omega (arith, degree, below, above))
      | inr low' ↦ inl (
        entry_of t,
        behind,
        record {
          term = read_term ring names D j apart two fits low text behind t all few past y_is found
              (let below = low'.1 in omega arith);
          text_is = read_text ring names D j apart two fits low text behind t all few past y_is found;
          only = λ u r is. only_read ring names D j apart two fits low text behind t all few past y_is found u r is;
        },
      )
    ]

  term_decided : (j : ℕ) (text : List ℕ) → ((t : Entry) × (behind : List ℕ) × IsRead j text t behind) ⊎ HasNoTerm j text
  term_decided j text = by (term_in most D names text) refl
    where
      by : (o : Option ((ℕ × List ℕ) × List ℕ)) → term_in most D names text ≡ o
          → ((t : Entry) × (behind : List ℕ) × IsRead j text t behind) ⊎ HasNoTerm j text
      by None e = inr (λ u r is. none_before ring names D j apart two fits low text e u r is)
      by (Some x) e = of_term j text x.0.0 x.0.1 x.1 e

  -- the terms of a line
  abbrev IsLineOf : ℕ → List ℕ → List Entry → List ℕ → Type 0
  IsLineOf j text ts r = AreTerms ring names D j ts × (text ≡ terms_text names ts ++ 10 ∷ r)

  abbrev HasTermLine : ℕ → List ℕ → Type 0
  HasTermLine j text = (ts : List Entry) × (r : List ℕ) × IsLineOf j text ts r

  follows_decided : (last : Option Entry) (t : Entry) → Decided (FollowsBy (eight_weights ring) last t)
  follows_decided None t = inl tt
  follows_decided (Some l) t = less_decided (printed_order (eight_weights ring) l.0 t.0)

  strip_length : (text behind rest : List ℕ) → strip text behind ≡ Some rest → length behind ≡ length text + length rest
  strip_length text behind rest is = ap length (strip_is text behind rest is) ∙ length-append text rest

  -- one term more, behind which the rest is decided
  module _ (j : ℕ) (text : List ℕ) (done : List Entry) (last : Option Entry) (rest : List ℕ)
      (going : LineGoing ring names D j text done last rest)
      (again : (t : Entry) (next : List ℕ) → length next < length rest
      → LineGoing ring names D j text (done ++ t ∷ []) (Some t) next → Decided (HasTermLine j text)) where
    by_end : (t : Entry) (behind : List ℕ) → IsRead j rest t behind → FollowsBy (eight_weights ring) last t
        → (e : Option (List ℕ)) → strip (codes "\n") behind ≡ e → (p : Option (List ℕ))
        → strip (codes " + ") behind ≡ p → Decided (HasTermLine j text)
    by_end t behind read follows (Some r) ends p plus =
        let line = line_end ring names D j text done last rest t behind going read.term read.text_is read.only follows r
        ends in
        inl (done ++ t ∷ [], r, line)
    by_end t behind read follows None ends None plus = inr (λ (ts, r, (are, is)). no_end ring names D j text done
        last rest
        t behind going read.term read.text_is read.only ends plus ts r are is)
    by_end t behind read follows None ends (Some next) plus = again t next
        (let size = ap length read.text_is ∙ length-append (term_text names t) behind in
        let cut = strip_length (codes " + ") behind next plus in omega arith)
        (line_more ring names D j text done last rest t behind going read.term read.text_is read.only follows next plus)

    by_term : ((t : Entry) × (behind : List ℕ) × IsRead j rest t behind) ⊎ HasNoTerm j rest
        → Decided (HasTermLine j text)
    by_term (inr none) = inr (λ (ts, r, (are, is)).
        let next = next_before ring names D j text done last rest going ts r are is in none next.0 _ next.3)
    by_term (inl (t, behind, read)) = elim (follows_decided last t) [
      | inr not_after ↦ inr (λ (ts, r, (are, is)). not_in_order ring names D j text done last rest t behind going
          read.term read.text_is read.only not_after ts r are is)
      | inl follows ↦ by_end t behind read follows (strip (codes "\n") behind) refl (strip (codes " + ") behind) refl
    ]

  going_decided : (j fuel : ℕ) (text : List ℕ) (done : List Entry) (last : Option Entry) (rest : List ℕ)
      → length rest ≤ fuel → LineGoing ring names D j text done last rest → Decided (HasTermLine j text)
  going_decided j zero text done last rest size going =
      by_term j text done last rest going (λ t next less g. absurd (omega arith)) (term_decided j rest)
  going_decided j (suc fuel) text done last rest size going =
      by_term j text done last rest going
      (λ t next less g. going_decided j fuel text (done ++ t ∷ []) (Some t) next (omega arith) g) (term_decided j rest)

  line_decided : (j : ℕ) (text : List ℕ) → Decided (HasTermLine j text)
  line_decided j text = by (strip (codes "0\n") text) refl
    where
      by : (o : Option (List ℕ)) → strip (codes "0\n") text ≡ o → Decided (HasTermLine j text)
      by (Some rest) e = inl ([], rest, line_zero ring names D j text rest e)
      by None e = going_decided j (length text) text [] None text (omega arith) (line_start ring names D j text e)

  regroup : (h t n r : List ℕ) → (h ++ (t ++ n)) ++ r ≡ h ++ (t ++ (n ++ r))
  regroup h t n r = simp append_assoc

  -- a line of a form
  abbrev Begins : Form → List ℕ → Type 0
  Begins form text = (rest : List ℕ) × BeginsWith ring names D form text rest

  begins_decided : (form : Form) (text : List ℕ) → Decided (Begins form text)
  begins_decided (Whole t) text = by (strip (t ++ newline) text) refl
    where
      by : (o : Option (List ℕ)) → strip (t ++ newline) text ≡ o → Decided (Begins (Whole t) text)
      by (Some rest) e =
          inl (rest, record { line = t ++ newline; has_form = refl; text_is = strip_is (t ++ newline) text rest e })
      by None e = inr (λ (rest, is). none-some rest (sym e
          ∙ ap (strip (t ++ newline)) (is.text_is ∙ ap (λ (l : List ℕ). l ++ rest) is.has_form)
          ∙ strip_same (t ++ newline) rest))
  begins_decided (Coefficient mark j) text = by (strip mark text) refl
    where
      by : (o : Option (List ℕ)) → strip mark text ≡ o → Decided (Begins (Coefficient mark j) text)
      by None e = inr (λ (rest, is). none-some ((terms_text names is.has_form.0 ++ newline) ++ rest) (sym e
          ∙ ap (strip mark) (is.text_is ∙ ap (λ (l : List ℕ). l ++ rest) is.has_form.2
          ∙ append_assoc mark (terms_text names is.has_form.0 ++ newline) rest)
          ∙ strip_same mark ((terms_text names is.has_form.0 ++ newline) ++ rest)))
      by (Some behind) e = elim (line_decided j behind) [
        | inl (ts, r, (are, is)) ↦ inl (
          r,
          record {
            line = mark ++ (terms_text names ts ++ newline);
            has_form = (ts, are, refl);
            text_is = strip_is mark text behind e ∙ ap (λ (l : List ℕ). mark ++ l) is
                ∙ sym (regroup mark (terms_text names ts) newline r);
          },
        )
        | inr none ↦ inr (λ (rest, is). none (
          is.has_form.0,
          rest,
          (is.has_form.1, same_Some-strip behind rest e is),
        ))
      ]
        where
          same_Some-strip : (behind rest : List ℕ) → strip mark text ≡ Some behind
              → (is : BeginsWith ring names D (Coefficient mark j) text rest)
              → behind ≡ terms_text names is.has_form.0 ++ 10 ∷ rest
          same_Some-strip behind rest e is = same_rest (sym e ∙ ap (strip mark) (is.text_is
              ∙ ap (λ (l : List ℕ). l ++ rest) is.has_form.2
              ∙ regroup mark (terms_text names is.has_form.0) newline rest)
              ∙ strip_same mark (terms_text names is.has_form.0 ++ 10 ∷ rest))
            where
              same_rest : {a b : List ℕ} → Some a ≡ Some b → a ≡ b
              same_rest e = cc

  pub forms_decided : (forms : List Form) (text : List ℕ) (i : ℕ)
      → ((l : ℕ) × IsFirstUnlawful ring names D forms text i l) ⊎ IsLawful ring names D forms text
  forms_decided [] [] i = inr refl
  forms_decided [] (b ∷ text) i = inl (i, ((λ e. cc), refl))
  forms_decided (form ∷ forms) text i = elim (begins_decided form text) [
    | inr none ↦ inl (i, inl ((λ rest is. none (rest, is)), refl))
    | inl (rest, is) ↦ elim (forms_decided forms rest (suc i)) [
      | inl (l, later) ↦ inl (l, inr (rest, is, later))
      | inr later ↦ inr (rest, is, later)
    ]
  ]

  -- lawful lines have terms
  marked : (j : ℕ) (mark text : List ℕ) (rest : List ℕ) (old : List Entry)
      → BeginsWith ring names D (Coefficient mark j) text rest
      → (new : List Entry) × HasMarkedLine ring names D j mark text old new rest
  marked j mark text rest old is = (
    old ++ is.has_form.0,
    record {
      behind = terms_text names is.has_form.0 ++ 10 ∷ rest;
      text_is = is.text_is ∙ ap (λ (l : List ℕ). l ++ rest) is.has_form.2
          ∙ regroup mark (terms_text names is.has_form.0) newline rest;
      line = record { terms = is.has_form.0; are = is.has_form.1; new_is = refl; text_is = refl };
    },
  )

  powers : (j : ℕ) (later : List Form) (text : List ℕ) (old : List Entry)
      → IsLawful ring names D (power_forms j ++ later) text
      → (new : List Entry) × (rest : List ℕ) × HasPowerLines ring names D j text old new rest
      × IsLawful ring names D later rest
  powers zero later text old (rest, is, lawful) =
      let line = marked 0 (mark_text 0) text rest old is in (line.0, rest, line.1, lawful)
  powers (suc j) later text old (rest, is, lawful) =
      let line = marked (suc j) (mark_text (suc j)) text rest old is in
      let more = powers j later rest line.0 lawful in
      (more.0, more.1, (line.0, rest, line.1, more.2), more.3)

  pub all_factors : (i : ℕ) (roots : List Root) (text : List ℕ) → IsLawful ring names D (factor_forms i roots) text
      → (fs : List (List Entry)) × HasFactors ring names D i roots text fs
  all_factors i [] text is = ([], is)
  all_factors i (root ∷ roots) text (behind, head, lawful) =
      let lines = powers root.times (factor_forms (suc i) roots) behind [] lawful in
      let more = all_factors (suc i) roots lines.1 lines.3 in (
        lines.0 ∷ more.0,
        (
          lines.1,
          record {
            behind = behind;
            text_is = head.text_is ∙ ap (λ (l : List ℕ). l ++ behind) head.has_form;
            lines = lines.2;
          },
          more.1,
        ),
      )

  pub all_lead : (shown : Bool) (later : List Form) (text : List ℕ) → IsLawful ring names D (lead_forms shown ++ later) text
      → (l : List Entry) × (rest : List ℕ) × HasLead ring names D shown text [] l rest × IsLawful ring names D later
      rest
  all_lead false later text lawful = ([], text, (refl, refl), lawful)
  all_lead true later text (rest, is, lawful) =
      let line = marked 0 (codes "lead: ") text rest [] is in (line.0, rest, line.1, lawful)
