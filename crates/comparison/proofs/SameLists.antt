-- Whether two lists, seen in some way, are the same, item by item; and whether two terms are.
use Rattle.std.proofs.Common.{◌≡◌, ℕ, zero, suc, ◌+◌, ◌<◌, ◌≤◌, Bool, true, false, List, [], ◌∷◌, ◌++◌, length, take}
use Rattle.std.proofs.Common.{get_or, map}
use Rattle.std.proofs.Common.{refl, sym, ◌∙◌, ap, arith}
use Rattle.std.proofs.lemmas.List.{length-map, get_or-map, map-append, take_all, take_more}
use Rattle.ps_model.specs.Keys.{Key, numbers, powers_of}
use Rattle.ps_model.specs.Plain.{entry_of}
use Rattle.ps_model.specs.PlainLists.{without_y}
use Rattle.ps_model.specs.declared.plain.PlainTerm.{PlainTerm}
use Rattle.std.specs.FinMap.{entries}
use Rattle.std.specs.Prelude.{IsTrue}
use Rattle.parts.specs.PartValue.{PartValue}
use Rattle.parts.specs.Terms.{entry_of as part_entry, powers_in, TermsInOrder}
use Rattle.parts.specs.declared.terms.Term.{Term}
use Rattle.printer.specs.Rows.{terms_in}
use Rattle.printer.proofs.TermTexts.{terms_are_in}

module _ {A B C : Type 0} (see : A → C) (look : B → C) (xs : List A) (ys : List B) where
  pub taken_more : (i : ℕ) (x : A) (y : B) → i < length xs → i < length ys
      → map see (take i xs) ≡ map look (take i ys) → see (get_or xs i x) ≡ look (get_or ys i y)
      → map see (take (i + 1) xs) ≡ map look (take (i + 1) ys)
  taken_more i x y lx ly so_far here =
      ap (map see) (take_more xs i x lx) ∙ map-append see (take i xs) (get_or xs i x ∷ [])
      ∙ (λ j. so_far j ++ here j ∷ [])
      ∙ sym (ap (map look) (take_more ys i y ly) ∙ map-append look (take i ys) (get_or ys i y ∷ []))

  pub taken_all : (i : ℕ) → length xs ≤ i → length ys ≤ i → map see (take i xs) ≡ map look (take i ys)
      → map see xs ≡ map look ys
  taken_all i lx ly so_far =
      ap (map see) (sym (take_all i xs lx)) ∙ so_far ∙ ap (map look) (take_all i ys ly)

  pub same_length : map see xs ≡ map look ys → length xs ≡ length ys
  same_length same = sym (length-map xs see) ∙ ap length same ∙ length-map ys look

  pub same_items : map see xs ≡ map look ys → (i : ℕ) (x : A) (y : B) → i < length xs
      → see (get_or xs i x) ≡ look (get_or ys i y)
  same_items same i x y lt =
      let within : i < length ys = omega (arith, same_length same) in
      sym (get_or-map see xs i x (see x) lt) ∙ ap (λ l. get_or l i (see x)) same ∙ get_or-map look ys i y (see x) within

same_powers : (n : ℕ) (xs ys : List ℕ) → ((k : ℕ) → k < n → get_or xs k 0 ≡ get_or ys k 0)
    → powers_of n xs ≡ powers_of n ys
same_powers zero xs ys same = refl
same_powers (suc n) [] [] same = refl
same_powers (suc n) [] (y ∷ ys) same =
    λ i. (same 0 (omega arith) i, same_powers n [] ys (λ k lt. same (suc k) (omega arith)) i)
same_powers (suc n) (x ∷ xs) [] same =
    λ i. (same 0 (omega arith) i, same_powers n xs [] (λ k lt. same (suc k) (omega arith)) i)
same_powers (suc n) (x ∷ xs) (y ∷ ys) same =
    λ i. (same 0 (omega arith) i, same_powers n xs ys (λ k lt. same (suc k) (omega arith)) i)

get_or-numbers : (n : ℕ) (xs : List ℕ) (i : ℕ) → i < n → get_or (numbers n (powers_of n xs)) i 0 ≡ get_or xs i 0
get_or-numbers zero xs i lt = absurd (omega arith)
get_or-numbers (suc n) [] zero lt = refl
get_or-numbers (suc n) [] (suc i) lt = get_or-numbers n [] i (omega arith)
get_or-numbers (suc n) (x ∷ xs) zero lt = refl
get_or-numbers (suc n) (x ∷ xs) (suc i) lt = get_or-numbers n xs i (omega arith)

-- terms with the same powers and the same coefficient, and the other way round
pub terms_meet : (t : PlainTerm) (u : Term)
    → ((k : ℕ) → k < 8 → get_or t.powers k 0 ≡ get_or (powers_in u.monomial) k 0) → t.coefficient ≡ u.coefficient
    → without_y (entry_of t) ≡ part_entry u
terms_meet t u powers number = λ i.
    (record { powers = same_powers 8 t.powers (powers_in u.monomial) powers i; y = 0 }, number i)

pub powers_meet : (t : PlainTerm) (u : Term) → without_y (entry_of t) ≡ part_entry u → (k : ℕ) → k < 8
    → get_or t.powers k 0 ≡ get_or (powers_in u.monomial) k 0
powers_meet t u same k lt = sym (get_or-numbers 8 t.powers k lt)
    ∙ ap (λ (e : Key 8 × ℕ). get_or (numbers 8 e.0.powers) k 0) same ∙ get_or-numbers 8 (powers_in u.monomial) k lt

pub coefficients_meet : (t : PlainTerm) (u : Term) → without_y (entry_of t) ≡ part_entry u
    → t.coefficient ≡ u.coefficient
coefficients_meet t u same = ap (λ (e : Key 8 × ℕ). e.1) same

-- what is answered of a list beside the terms of a part
module _ (ts : List PlainTerm) (us : List Term) (part : PartValue) (listed : map part_entry us ≡ entries part.map)
    (order : TermsInOrder us) where
  abbrev pub Answers : Bool → Type 0
  Answers b = (IsTrue b → map (λ t. without_y (entry_of t)) ts ≡ terms_in part)
      × (map (λ t. without_y (entry_of t)) ts ≡ terms_in part → IsTrue b)

  as_listed : map (λ t. without_y (entry_of t)) ts ≡ terms_in part
      → map (λ t. without_y (entry_of t)) ts ≡ map part_entry us
  as_listed same = same ∙ sym (terms_are_in us part part listed order refl)

  pub lengths_differ : (length ts ≡ length us → ⊥) → Answers false
  lengths_differ other = (
    λ t. absurd (cc),
    λ same. absurd (other (same_length (λ t. without_y (entry_of t)) part_entry ts us (as_listed same))),
  )

  pub items_differ : (i : ℕ) (x : PlainTerm) (y : Term) (r : Bool) → i < length ts → r ≡ false
      → y ≡ get_or us i y → (without_y (entry_of (get_or ts i x)) ≡ part_entry y → IsTrue r) → Answers false
  items_differ i x y r lt fails is told = (
    λ t. absurd (cc),
    λ same. absurd (let yes = told (same_items (λ t. without_y (entry_of t)) part_entry ts us (as_listed same) i x y lt
        ∙ ap part_entry (sym is)) in cc),
  )

  pub lists_same : (i : ℕ) → length ts ≤ i → length us ≤ i
      → map (λ t. without_y (entry_of t)) (take i ts) ≡ map part_entry (take i us) → Answers true
  lists_same i lt lu so_far = (
    λ t. taken_all (λ t. without_y (entry_of t)) part_entry ts us i lt lu so_far
        ∙ terms_are_in us part part listed order refl,
    λ same. refl,
  )
