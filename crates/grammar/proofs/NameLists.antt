-- Names by recursion over their bytes and their list.
use Rattle.std.proofs.Common.{◌≡◌, ◌≢◌, ◌∙◌, sym, ap, refl, ℕ, Bool, true, false, ◌&&◌, not, List, [], ◌∷◌, codes}
use Rattle.std.proofs.Common.{length, nat_le}
use Rattle.std.proofs.lemmas.Slice.Eq.{bytes_eq-Decides}
use Rattle.std.specs.Char.{is_ascii_alphabetic}
use Rattle.std.specs.List.{list_all, IsDistinct, AllByRecursion}
use Rattle.std.specs.Str.{bytes_eq}
use Rattle.ps_model.specs.Names as given
use Rattle.ps_model.specs.Names.{is_name_byte, is_name}

abbrev pub AreWordBytes : List ℕ → Type 0
AreWordBytes [] = Unit {0}
AreWordBytes (b ∷ bs) = (is_name_byte b ≡ true) × AreWordBytes bs

abbrev pub IsName : List ℕ → Type 0
IsName [] = ⊥
IsName (b ∷ bs) = (is_ascii_alphabetic b ≡ true) × AreWordBytes bs × (b ∷ bs ≢ codes "Y")

abbrev pub IsAbsent : List ℕ → List (List ℕ) → Type 0
IsAbsent name [] = Unit {0}
IsAbsent name (n ∷ ns) = (name ≢ n) × IsAbsent name ns

abbrev pub AreNames : List (List ℕ) → Type 0
AreNames [] = Unit {0}
AreNames (n ∷ ns) = IsName n × IsAbsent n ns × AreNames ns

both_true : (a b : Bool) → a && b ≡ true → (a ≡ true) × (b ≡ true)
both_true true b h = (refl, h)
both_true false b h = absurd (cc h)

word_bytes : (bs : List ℕ) → list_all is_name_byte bs ≡ true → AreWordBytes bs
word_bytes [] h = tt
word_bytes (b ∷ bs) h = let p = both_true (is_name_byte b) (list_all is_name_byte bs) h in (p.0, word_bytes bs p.1)

not_main : (w : List ℕ) → not (bytes_eq w (codes "Y")) ≡ true → w ≢ codes "Y"
not_main w h = λ e. let p = sym h ∙ ap (λ (x : List ℕ). not (bytes_eq x (codes "Y"))) e in cc p

name : (w : List ℕ) → is_name w ≡ true → IsName w
name [] h = absurd (cc h)
name (b ∷ bs) h =
    let letter = is_ascii_alphabetic b in
    let rest = list_all is_name_byte bs in
    let short = nat_le (length bs) 15 in
    let other = not (bytes_eq (b ∷ bs) (codes "Y")) in
    let p = both_true (letter && rest && short) other h in
    let q = both_true (letter && rest) short p.0 in
    let r = both_true letter rest q.0 in
    (r.0, word_bytes bs r.1, not_main (b ∷ bs) p.1)

differs : (n m : List ℕ) → bytes_eq n m ≡ false → n ≢ m
differs n m h = λ e. let p = sym h ∙ ap (λ (x : List ℕ). bytes_eq n x) (sym e) ∙ (bytes_eq-Decides n n).1 refl in cc p

absent : (n : List ℕ) (ns : List (List ℕ)) → AllByRecursion (λ y. bytes_eq n y ≡ false) ns → IsAbsent n ns
absent n [] h = tt
absent n (m ∷ ns) h = (differs n m h.0, absent n ns h.1)

one_by_one : (names : List (List ℕ)) → list_all is_name names ≡ true → IsDistinct bytes_eq names → AreNames names
unfolding IsDistinct
one_by_one [] h d = tt
one_by_one (n ∷ ns) h d =
    let p = both_true (is_name n) (list_all is_name ns) h in
    (name n p.0, absent n ns d.0, one_by_one ns p.1 d.1)

pub listed : (names : List (List ℕ)) → given.AreNames names → AreNames names
listed names are = one_by_one names are.each are.distinct
