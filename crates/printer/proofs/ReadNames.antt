-- Names of variables can be told apart in a text.
use Rattle.std.proofs.Common.{◌≡◌, ℕ, true, false, ◌&&◌, ◌||◌, not, List, [], ◌∷◌, length, sym, ◌∙◌, ap, leb, eqb}
use Rattle.std.proofs.lemmas.Bool.{and_parts, or_cases, or_left, or_right, true≢false}
use Rattle.std.proofs.lemmas.Slice.Eq.{bytes_eq-Decides}
use Rattle.std.specs.Char.{is_ascii_alphabetic}
use Rattle.std.specs.Int.{is_in_range}
use Rattle.std.specs.List.{list_all, IsDistinct, AllByRecursion}
use Rattle.std.specs.Prelude.{codes}
use Rattle.std.specs.Str.{bytes_eq}
use Rattle.std.proofs.Common.{inl, inr}
use Rattle.ps_model.specs.Names.{AreNames, is_name_byte, is_name}
use Rattle.printer.specs.ReadForms.{IsNone, AreApart}

letter : (b : ℕ) → is_ascii_alphabetic b ≡ true → is_name_byte b ≡ true
letter b h = elim (or_cases (is_in_range 65 90 b) (is_in_range 97 122 b) h) [
  | inl upper ↦ or_left ((is_in_range 48 57 b || is_in_range 65 90 b) || is_in_range 97 122 b) (eqb b 95)
      (or_left (is_in_range 48 57 b || is_in_range 65 90 b) (is_in_range 97 122 b)
      (or_right (is_in_range 48 57 b) (is_in_range 65 90 b) upper))
  | inr lower ↦ or_left ((is_in_range 48 57 b || is_in_range 65 90 b) || is_in_range 97 122 b) (eqb b 95)
      (or_right (is_in_range 48 57 b || is_in_range 65 90 b) (is_in_range 97 122 b) lower)
]

name_bytes : (name : List ℕ) → is_name name ≡ true → list_all is_name_byte name ≡ true
name_bytes [] h = absurd (true≢false (sym h))
name_bytes (b ∷ bs) h =
    let three = (and_parts ((is_ascii_alphabetic b && list_all is_name_byte bs) && leb (length bs) 15)
    (not (bytes_eq (b ∷ bs) (codes "Y"))) h).0 in
    let two = (and_parts (is_ascii_alphabetic b && list_all is_name_byte bs) (leb (length bs) 15) three).0 in
    let one = and_parts (is_ascii_alphabetic b) (list_all is_name_byte bs) two in
    rw (letter b one.0) one.1

differs : (n m : List ℕ) → bytes_eq n m ≡ false → n ≡ m → ⊥
differs n m h = λ e.
    true≢false (sym ((bytes_eq-Decides n n).1 (λ i. n)) ∙ ap (λ (x : List ℕ). bytes_eq n x) e ∙ h)

none_of : (n : List ℕ) (ns : List (List ℕ)) → AllByRecursion (λ y. bytes_eq n y ≡ false) ns → IsNone n ns
none_of n [] h = tt
none_of n (m ∷ ns) h = (differs n m h.0, none_of n ns h.1)

one_by_one : (names : List (List ℕ)) → list_all is_name names ≡ true → IsDistinct bytes_eq names → AreApart names
unfolding IsDistinct
one_by_one [] h d = tt
one_by_one (n ∷ ns) h d =
    let p = and_parts (is_name n) (list_all is_name ns) h in
    (name_bytes n p.0, none_of n ns d.0, one_by_one ns p.1 d.1)

pub names_apart : (names : List (List ℕ)) → AreNames names → AreApart names
names_apart names are = one_by_one names are.each are.distinct
