-- The texts of terms, one piece after another.
use Rattle.std.proofs.Common.{◌≡◌, ℕ, zero, suc, ◌+◌, ◌<◌, ◌≤◌, Bool, true, false, ◌||◌, ◌&&◌, List, [], ◌∷◌, ◌++◌}
use Rattle.std.proofs.Common.{Some, length, leb, subst}
use Rattle.std.proofs.Common.{get_or, take, drop, map, All, cond, append_assoc, refl, sym, ◌∙◌, ap, arith}
use Rattle.std.specs.Prelude.{◌==◌, not, codes, slice_get}
use Rattle.std.specs.FinMap.{entries}
use Rattle.std.specs.List.{filter, flat_map}
use Rattle.std.proofs.lemmas.Bool.{ne_eqb, and_parts, leb-true, true≢false}
use Rattle.std.proofs.lemmas.List.{append-nil, drop_more, length-map}
use Rattle.std.proofs.lemmas.Option.{none-some, same_Some}
use Rattle.std.specs.Char.{is_ascii_alphabetic}
use Rattle.std.specs.List.{list_all}
use Rattle.std.specs.Str.{bytes_eq}
use Rattle.ps_model.specs.Names.{AreNames, is_name_byte, is_name}
use Rattle.ps_model.specs.Keys.{Key, Powers, numbers, powers_of}
use Rattle.ps_model.specs.BlockText.{power_text, powers_text, term_text, terms_text}
use Rattle.parts.specs.declared.terms.Term.{Term}
use Rattle.parts.specs.PartValue.{PartValue}
use Rattle.parts.specs.Terms.{entry_of, TermsInOrder}
use Rattle.printer.specs.Lines.{texts_of, listed, has_texts}
use Rattle.printer.specs.Rows.{terms_in}

-- the powers of a monomial
pub length-numbers : (n : ℕ) (x : Powers n) → length (numbers n x) ≡ n
length-numbers zero x = refl
length-numbers (suc n) x = ap suc (length-numbers n x.1)

get_or-numbers : (n : ℕ) (xs : List ℕ) (i : ℕ) → i < n → get_or (numbers n (powers_of n xs)) i 0 ≡ get_or xs i 0
get_or-numbers zero xs i lt = absurd (omega arith)
get_or-numbers (suc n) [] zero lt = refl
get_or-numbers (suc n) [] (suc i) lt = get_or-numbers n [] i (omega arith)
get_or-numbers (suc n) (x ∷ xs) zero lt = refl
get_or-numbers (suc n) (x ∷ xs) (suc i) lt = get_or-numbers n xs i (omega arith)

-- one of the first names
name_among : (all : List (List ℕ)) (count i : ℕ) (name : List ℕ) → i < count → slice_get all i ≡ Some name
    → (i < length (take count all)) × (get_or (take count all) i [] ≡ name)
name_among all zero i name lt is = absurd (omega arith)
name_among [] (suc count) i name lt is = absurd (none-some name is)
name_among (x ∷ all) (suc count) zero name lt is = (omega arith, same_Some x name is)
name_among (x ∷ all) (suc count) (suc i) name lt is =
    let later = name_among all count i name (omega arith) is in (further (length (take count all)) later.0, later.1)
  where
    further : (n : ℕ) → i < n → suc i < suc n
    further n h = omega arith

-- a name has at most 16 bytes
name_bytes : (name : List ℕ) → is_name name ≡ true → length name ≤ 16
name_bytes [] h = absurd (true≢false (sym h))
name_bytes (b ∷ bs) h =
    let three = (and_parts ((is_ascii_alphabetic b && list_all is_name_byte bs) && leb (length bs) 15)
    (not (bytes_eq (b ∷ bs) (codes "Y"))) h).0 in
    let few : length bs ≤ 15 = leb-true (length bs) 15
    (and_parts (is_ascii_alphabetic b && list_all is_name_byte bs) (leb (length bs) 15) three).1 in
    omega arith

names_short : (names : List (List ℕ)) (i : ℕ) (name : List ℕ) → list_all is_name names ≡ true
    → slice_get names i ≡ Some name → length name ≤ 16
names_short [] i name h is = absurd (none-some name is)
names_short (n ∷ names) zero name h is = subst (λ (l : List ℕ). length l ≤ 16) (same_Some n name is)
    (name_bytes n (and_parts (is_name n) (list_all is_name names) h).0)
names_short (n ∷ names) (suc i) name h is =
    names_short names i name (and_parts (is_name n) (list_all is_name names) h).1 is

pub name_short : (names : List (List ℕ)) (i : ℕ) (name : List ℕ) → AreNames names → slice_get names i ≡ Some name
    → length name ≤ 16
name_short names i name are is = names_short names i name are.each is

-- one more power
pub power_left : (n : ℕ) (all : List (List ℕ)) (count i p : ℕ) (name xs : List ℕ) → i < count → i < n
    → slice_get all i ≡ Some name → p ≡ get_or xs i 0
    → powers_text (drop i (take count all)) (drop i (numbers n (powers_of n xs)))
    ≡ power_text name p ++ powers_text (drop (i + 1) (take count all)) (drop (i + 1) (numbers n (powers_of n xs)))
power_left n all count i p name xs lt lt' is same =
    let names = take count all in
    let among = name_among all count i name lt is in
    let within : i < length (numbers n (powers_of n xs)) = omega (arith, length-numbers n (powers_of n xs)) in
    (λ l. powers_text (drop_more names i [] among.0 l) (drop_more (numbers n (powers_of n xs)) i 0 within l))
    ∙ (λ l. power_text (among.1 l) ((get_or-numbers n xs i lt' ∙ sym same) l)
    ++ powers_text (drop (i + 1) names) (drop (i + 1) (numbers n (powers_of n xs))))

-- no power is left behind the last name
pub none_left : (all : List (List ℕ)) (count : ℕ) (powers : List ℕ) → powers_text (drop count (take count all)) powers
    ≡ []
none_left all zero powers = refl
none_left [] (suc count) powers = refl
none_left (x ∷ all) (suc count) powers = none_left all count powers

-- the text of the term at i is the next one
pub text_left : (names : List (List ℕ)) (terms : List Term) (i : ℕ) (t : Term) → i < length terms → t ≡ get_or terms i t
    → drop i (texts_of names (map entry_of terms))
    ≡ term_text names (entry_of t) ∷ drop (i + 1) (texts_of names (map entry_of terms))
text_left names terms i t lt is =
    let d : List ℕ = term_text names (entry_of t) in
    let within : i < length (texts_of names (map entry_of terms)) =
    omega (arith, length-map terms entry_of, length-map (map entry_of terms) (term_text names)) in
    drop_more (texts_of names (map entry_of terms)) i d within
    ∙ ap (λ (l : List ℕ). l ∷ drop (i + 1) (texts_of names (map entry_of terms))) (at names terms i t lt is)
  where
    at : (names : List (List ℕ)) (terms : List Term) (i : ℕ) (t : Term) → i < length terms → t ≡ get_or terms i t
        → get_or (texts_of names (map entry_of terms)) i (term_text names (entry_of t)) ≡ term_text names (entry_of t)
    at names [] i t lt is = refl
    at names (x ∷ terms) zero t lt is = ap (λ u. term_text names (entry_of u)) (sym is)
    at names (x ∷ terms) (suc i) t lt is = at names terms i t (omega arith) is

-- whether there is a text among more
pub has_texts-append : (ts us : List (List ℕ)) → has_texts (ts ++ us) ≡ has_texts ts || has_texts us
has_texts-append [] us = refl
has_texts-append (t ∷ ts) us = refl

-- texts behind texts
pub listed-append : (some : Bool) (ts us : List (List ℕ))
    → listed some (ts ++ us) ≡ listed some ts ++ listed (some || has_texts ts) us
listed-append true [] us = refl
listed-append false [] us = refl
listed-append true (t ∷ ts) us = ap (λ (l : List ℕ). (codes " + " ++ t) ++ l) (listed-append true ts us)
    ∙ sym (append_assoc (codes " + " ++ t) (listed true ts) (listed true us))
listed-append false (t ∷ ts) us = ap (λ (l : List ℕ). t ++ l) (listed-append true ts us)
    ∙ sym (append_assoc t (listed true ts) (listed true us))

listed-true : {n : ℕ} (names : List (List ℕ)) (ts : List (Key n × ℕ))
    → listed true (texts_of names ts) ≡ flat_map (λ u. codes " + " ++ term_text names u) ts
listed-true names [] = refl
listed-true names (t ∷ ts) = ap (λ (l : List ℕ). (codes " + " ++ term_text names t) ++ l) (listed-true names ts)

-- what is written where there is no term
abbrev pub zero_unless : Bool → List ℕ
zero_unless true = []
zero_unless false = codes "0"

pub terms_are : {n : ℕ} (names : List (List ℕ)) (ts : List (Key n × ℕ))
    → terms_text names ts ≡ listed false (texts_of names ts) ++ zero_unless (has_texts (texts_of names ts))
terms_are names [] = refl
terms_are names (t ∷ ts) = sym (append-nil (listed false (texts_of names (t ∷ ts)))
    ∙ ap (λ (l : List ℕ). term_text names t ++ l) (listed-true names ts))

-- whether there is a term, by their number
pub terms_there : (names : List (List ℕ)) (ts : List Term) (b : Bool) → b ≡ (length ts == 0)
    → has_texts (texts_of names (map entry_of ts)) ≡ not b
terms_there names [] b is = ap not (sym is)
terms_there names (t ∷ ts) b is = ap not (sym (is ∙ ne_eqb (length (t ∷ ts)) 0 (omega arith)))

-- the terms that a part tells are its terms
terms_stay : (ts : List Term) → All (λ t. 0 < t.coefficient) ts
    → filter (λ e. not (e.1 == 0)) (map entry_of ts) ≡ map entry_of ts
terms_stay [] some = refl
terms_stay (t ∷ ts) some = (λ i. cond (not (ne_eqb t.coefficient 0 (above t.coefficient (some 0 t (omega arith))) i))
    (entry_of t ∷ filter (λ e. not (e.1 == 0)) (map entry_of ts)) (filter (λ e. not (e.1 == 0)) (map entry_of ts)))
    ∙ ap (λ es. entry_of t ∷ es) (terms_stay ts (λ k x lt. some (suc k) x (omega arith)))
  where
    above : (c : ℕ) → 0 < c → c ≡ 0 → ⊥
    above c lt e = omega arith

pub terms_are_in : (ts : List Term) (p q : PartValue) → map entry_of ts ≡ entries p.map → TermsInOrder ts → p ≡ q
    → map entry_of ts ≡ terms_in q
terms_are_in ts p q same order is = sym (terms_stay ts order.1)
    ∙ ap (filter (λ e. not (e.1 == 0))) (same ∙ ap (λ (x : PartValue). entries x.map) is)

-- where there are terms, their text is the list
pub terms_some : {n : ℕ} (names : List (List ℕ)) (t : Key n × ℕ) (ts : List (Key n × ℕ))
    → terms_text names (t ∷ ts) ≡ listed false (texts_of names (t ∷ ts))
terms_some names t ts = terms_are names (t ∷ ts) ∙ append-nil (listed false (texts_of names (t ∷ ts)))
