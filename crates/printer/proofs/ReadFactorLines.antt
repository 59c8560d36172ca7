-- The lines of the factors, one factor after another.
use Rattle.std.proofs.Common.{◌≡◌, ℕ, zero, suc, ◌+◌, ◌<◌, ◌≤◌, List, [], ◌∷◌, ◌++◌, length, drop, get_or}
use Rattle.std.proofs.Common.{drop-cons, refl, sym, ◌∙◌, ap, subst, arith, append_assoc, append-nil, inl, inr}
use Rattle.std.proofs.Common.{Some, None, map}
use Rattle.std.proofs.lemmas.Option.{none-some}
use Rattle.std.proofs.lemmas.List.{map-append}
use Rattle.ps_model.specs.declared.job.Root.{Root}
use Rattle.ps_model.specs.Keys.{Key}
use Rattle.ps_model.specs.BlockText.{newline}
use Rattle.parts.specs.declared.rings.Ring.{Ring}
use Rattle.printer.specs.ReadForms.{strip}
use Rattle.printer.specs.ReadBlock.{head_text, mark_text, power_forms, factor_forms, BeginsWith, HasPowerLines}
use Rattle.printer.specs.ReadBlock.{IsFirstUnlawful, Form}
use Rattle.printer.specs.ReadBlock.Form.{Whole}
use Rattle.printer.specs.ReadFactors.{factor_form, StopsIn, HasFactor, HasFactors}
use Rattle.printer.proofs.ReadPowers.{strip_same, strip_is}
use Rattle.printer.proofs.ReadPowerLines.{begins}

abbrev Entries : Type 0
Entries = List (Key 8 × ℕ)

module _ (ring : Ring) (names : List (List ℕ)) (D : ℕ) where
  -- a line whose text is known
  pub whole_begins : (t text behind : List ℕ) → strip (t ++ newline) text ≡ Some behind
      → BeginsWith ring names D (Whole t) text behind
  whole_begins t text behind is =
      record { line = t ++ newline; has_form = refl; text_is = strip_is (t ++ newline) text behind is }

  pub whole_none : (t text : List ℕ) → strip (t ++ newline) text ≡ None → (rest : List ℕ)
      → BeginsWith ring names D (Whole t) text rest → ⊥
  whole_none t text none rest is =
      none-some _ (sym none ∙ ap (strip (t ++ newline)) (is.text_is ∙ ap (λ (l : List ℕ). l ++ rest) is.has_form)
      ∙ strip_same (t ++ newline) rest)

  pub stops_first : (t text : List ℕ) (forms : List Form) → strip (t ++ newline) text ≡ None
      → StopsIn ring names D (Whole t ∷ forms) text 0
  stops_first t text forms none later i = inl (whole_none t text none, none_more i)
    where
      none_more : (i : ℕ) → i + 0 ≡ i
      none_more i = omega arith

  pub stops_later : (t text behind : List ℕ) (forms : List Form) (k : ℕ) → strip (t ++ newline) text ≡ Some behind
      → StopsIn ring names D forms behind k → StopsIn ring names D (Whole t ∷ forms) text (k + 1)
  stops_later t text behind forms k is stops later i = inr (
    behind,
    whole_begins t text behind is,
    subst (λ l. IsFirstUnlawful ring names D (forms ++ later) behind (suc i) l) (one_more i k) (stops later (suc i)),
  )
    where
      one_more : (i k : ℕ) → suc i + k ≡ i + (k + 1)
      one_more i k = omega arith

  pub factor_read : (i : ℕ) (root : Root) (text behind : List ℕ) (old new : Entries) (rest : List ℕ)
      → strip (head_text i root ++ newline) text ≡ Some behind
      → HasPowerLines ring names D root.times behind old new rest → HasFactor ring names D i root text old new rest
  factor_read i root text behind old new rest is lines =
      record { behind = behind; text_is = strip_is (head_text i root ++ newline) text behind is; lines = lines }

  -- past the lines of a factor that was read
  pub powers_pass : (j : ℕ) (text : List ℕ) (old new : Entries) (rest : List ℕ)
      → HasPowerLines ring names D j text old new rest → (later : List Form) (i l : ℕ)
      → IsFirstUnlawful ring names D later rest (i + (j + 1)) l
      → IsFirstUnlawful ring names D (power_forms j ++ later) text i l
  powers_pass zero text old new rest is later i l h =
      let next : i + 1 ≡ suc i = omega arith in
      inr (
        rest,
        begins ring names D 0 (mark_text 0) text old new rest is,
        subst (λ n. IsFirstUnlawful ring names D later rest n l) next h,
      )
  powers_pass (suc j) text old new rest is later i l h =
      let next : i + (suc j + 1) ≡ suc i + (j + 1) = omega arith in
      inr (
        is.1,
        begins ring names D (suc j) (mark_text (suc j)) text old is.0 is.1 is.2,
        powers_pass j is.1 is.0 new rest is.3 later (suc i) l
            (subst (λ n. IsFirstUnlawful ring names D later rest n l) next h),
      )

  pub factor_pass : (k : ℕ) (root : Root) (text : List ℕ) (old new : Entries) (rest : List ℕ)
      → HasFactor ring names D k root text old new rest → (later : List Form) (i l : ℕ)
      → IsFirstUnlawful ring names D later rest (i + (root.times + 2)) l
      → IsFirstUnlawful ring names D (factor_form k root ++ later) text i l
  factor_pass k root text old new rest is later i l h = inr (
    is.behind,
    record { line = head_text k root ++ newline; has_form = refl; text_is = is.text_is },
    powers_pass root.times is.behind old new rest is.lines later (suc i) l
        (subst (λ n. IsFirstUnlawful ring names D later rest n l) (next root.times i) h),
  )
    where
      next : (t i : ℕ) → i + (t + 2) ≡ suc i + (t + 1)
      next t i = omega arith

  module _ (roots : List Root) (text : List ℕ) where
    -- what stands at place k, where the factors before it were read, with so many lines
    pub record FactorsRead (done : List Entries) (k count : ℕ) (rest : List ℕ) : Type 0 where
      pub back : (fs : List Entries) → HasFactors ring names D (suc k) (drop k roots) rest fs
          → HasFactors ring names D 1 roots text (done ++ fs)
      pub fault : (i l : ℕ) → IsFirstUnlawful ring names D (factor_forms (suc k) (drop k roots)) rest (i + count) l
          → IsFirstUnlawful ring names D (factor_forms 1 roots) text i l
      pub long : count + length rest ≤ length text

    pub factors_begin : FactorsRead [] 0 0 text
    factors_begin = record {
      back = λ fs h. h;
      fault = λ i l h.
          let same : i + 0 ≡ i = omega arith in
          subst (λ n. IsFirstUnlawful ring names D (factor_forms 1 roots) text n l) same h;
      long = omega arith;
    }

    module _ (done : List Entries) (k count : ℕ) (rest : List ℕ) (read : FactorsRead done k count rest) where
      pub factors_next : (d : Root) (behind : List ℕ) (f : Entries) (done' : List Entries) (count' : ℕ)
          → k < length roots → done' ≡ done ++ f ∷ []
          → (get_or roots k d).times + 1 + length behind < length rest → count' ≡ count + ((get_or roots k d).times + 2)
          → HasFactor ring names D (suc k) (get_or roots k d) rest [] f behind
          → FactorsRead done' (suc k) count' behind
      factors_next d behind f done' count' lt more shorter sum is =
          record {
            back = λ fs h. subst (HasFactors ring names D 1 roots text)
                (sym (ap (λ (l : List Entries). l ++ fs) more ∙ append_assoc done (f ∷ []) fs))
                (read.back (f ∷ fs) (subst (λ rs. HasFactors ring names D (suc k) rs rest (f ∷ fs))
                (sym (drop-cons roots k d lt)) (behind, is, h)));
            fault = λ i l h. read.fault i l
                (subst (λ rs. IsFirstUnlawful ring names D (factor_forms (suc k) rs) rest (i + count) l)
                (sym (drop-cons roots k d lt))
                (factor_pass (suc k) (get_or roots k d) rest [] f behind is
                (factor_forms (suc (suc k)) (drop (suc k) roots)) (i + count) l
                (subst (λ n. IsFirstUnlawful ring names D (factor_forms (suc (suc k)) (drop (suc k) roots)) behind n l)
                (sums (get_or roots k d).times count count' i sum) h)));
            long = bound (get_or roots k d).times count count' (length rest) (length behind) shorter read.long sum;
          }
        where
          sums : (t c c' i : ℕ) → c' ≡ c + (t + 2) → i + c' ≡ i + c + (t + 2)
          sums t c c' i e = omega arith

          bound : (t c c' r b : ℕ) → t + 1 + b < r → c + r ≤ length text → c' ≡ c + (t + 2)
              → c' + b ≤ length text
          bound t c c' r b shorter long e = omega arith

      -- the same, with the numbers and lists of the code
      pub factors_step : (d : Root) (behind : List ℕ) (f : Entries) (done' : List Entries) (count' n k' : ℕ)
          (new : Entries) → n ≡ suc k → k' ≡ suc k → new ≡ [] → k < length roots → done' ≡ done ++ f ∷ []
          → (get_or roots k d).times + 1 + length behind < length rest
          → count' ≡ count + ((get_or roots k d).times + 2)
          → HasFactor ring names D n (get_or roots k d) rest new f behind → FactorsRead done' k' count' behind
      factors_step d behind f done' count' n k' new n_is k_is new_is lt more shorter sum is =
          subst (λ k. FactorsRead done' k count' behind) (sym k_is)
          (factors_next d behind f done' count' lt more shorter sum
          (subst (λ (l : Entries). HasFactor ring names D (suc k) (get_or roots k d) rest l f behind) new_is
          (subst (λ n. HasFactor ring names D n (get_or roots k d) rest new f behind) n_is is)))

      pub factors_stop : (d : Root) (b n : ℕ) → n ≡ suc k → k < length roots
          → StopsIn ring names D (factor_form n (get_or roots k d)) rest b → (i : ℕ)
          → IsFirstUnlawful ring names D (factor_forms 1 roots) text i (i + (count + b))
      factors_stop d b n n_is lt stops i =
          read.fault i (i + (count + b))
          (subst (λ rs. IsFirstUnlawful ring names D (factor_forms (suc k) rs) rest (i + count) (i + (count + b)))
          (sym (drop-cons roots k d lt))
          (subst (λ l. IsFirstUnlawful ring names D (factor_forms (suc k) (get_or roots k d ∷ drop (suc k) roots)) rest
          (i + count) l) (sums i count b) (here (factor_forms (suc (suc k)) (drop (suc k) roots)) (i + count))))
        where
          here : StopsIn ring names D (factor_form (suc k) (get_or roots k d)) rest b
          here = subst (λ n. StopsIn ring names D (factor_form n (get_or roots k d)) rest b) n_is stops

          sums : (i c b : ℕ) → i + c + b ≡ i + (c + b)
          sums i c b = omega arith

      drop_empty : (k : ℕ) → drop {A = Root} k [] ≡ []
      drop_empty zero = refl
      drop_empty (suc k) = refl

      nothing_left : (k : ℕ) (rs : List Root) → (k < length rs → ⊥) → drop k rs ≡ []
      nothing_left k [] le = drop_empty k
      nothing_left zero (r ∷ rs) le = absurd (le (omega arith))
      nothing_left (suc k) (r ∷ rs) le = nothing_left k rs (λ h. le (omega arith))

      pub factors_end : (k < length roots → ⊥) → rest ≡ [] → HasFactors ring names D 1 roots text done
      factors_end le empty = subst (HasFactors ring names D 1 roots text) (append-nil done)
          (read.back [] (subst (λ rs. HasFactors ring names D (suc k) rs rest []) (sym (nothing_left k roots le))
          empty))

      pub factors_more : (k < length roots → ⊥) → (rest ≡ [] → ⊥) → (i : ℕ)
          → IsFirstUnlawful ring names D (factor_forms 1 roots) text i (i + count)
      factors_more le more i =
          read.fault i (i + count)
          (subst (λ rs. IsFirstUnlawful ring names D (factor_forms (suc k) rs) rest (i + count) (i + count))
          (sym (nothing_left k roots le)) (more, refl))

pub mapped_push : {V : Type 0} (see : V → Entries) (xs ys : List V) (x : V) → ys ≡ xs ++ x ∷ []
    → map see ys ≡ map see xs ++ see x ∷ []
mapped_push see xs ys x e = ap (map see) e ∙ map-append see xs (x ∷ [])

pub no_bytes : (bytes : List ℕ) → length bytes ≡ 0 → bytes ≡ []
no_bytes [] e = refl
no_bytes (b ∷ bs) e = absurd (omega arith)
