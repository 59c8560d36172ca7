-- A text that is compared with a beginning, byte by byte.
use Rattle.std.proofs.Common.{◌≡◌, ℕ, zero, suc, ◌<◌, ◌≤◌, ◌+◌, Bool, true, false, cond, List, [], ◌∷◌, length, drop}
use Rattle.std.proofs.Common.{Option, Some, None, get_or, refl, sym, ◌∙◌, ap, eqb, add-one, arith}
use Rattle.std.proofs.lemmas.Bool.{eq-eqb, ne_eqb}
use Rattle.printer.specs.ReadForms.{strip}

none_behind : (v : Bool) (x : Option (List ℕ)) → x ≡ None → cond v x None ≡ None
none_behind true x is = is
none_behind false x is = refl

-- a beginning that is longer than the text
pub strip_short : (t bs : List ℕ) → length bs < length t → strip t bs ≡ None
strip_short [] bs h = absurd (omega arith)
strip_short (t ∷ ts) [] h = refl
strip_short (t ∷ ts) (b ∷ bs) h = none_behind (eqb b t) (strip ts bs) (strip_short ts bs (omega arith))

-- a byte that is the same
strip_next : (t bs : List ℕ) (i : ℕ) → i < length t → i < length bs → get_or bs i 0 ≡ get_or t i 0
    → strip (drop i t) (drop i bs) ≡ strip (drop (suc i) t) (drop (suc i) bs)
strip_next [] bs i lt lt' same = absurd (omega arith)
strip_next (t ∷ ts) [] i lt lt' same = absurd (omega arith)
strip_next (t ∷ ts) (b ∷ bs) zero lt lt' same = rw (eq-eqb b t same) refl
strip_next (t ∷ ts) (b ∷ bs) (suc i) lt lt' same = strip_next ts bs i (omega arith) (omega arith) same

-- the places up to i are the same
abbrev pub IsSameTo : List ℕ → List ℕ → ℕ → Type 0
IsSameTo t bs i = strip t bs ≡ strip (drop i t) (drop i bs)

pub same_more : (t bs : List ℕ) (i : ℕ) → i < length t → i < length bs → get_or bs i 0 ≡ get_or t i 0
    → IsSameTo t bs i → IsSameTo t bs (i + 1)
same_more t bs i lt lt' same so_far = so_far ∙ strip_next t bs i lt lt' same
    ∙ ap (λ k. strip (drop k t) (drop k bs)) (sym (add-one i))

-- a byte that differs
strip_other : (t bs : List ℕ) (i : ℕ) → i < length t → i < length bs → (get_or bs i 0 ≡ get_or t i 0 → ⊥)
    → strip (drop i t) (drop i bs) ≡ None
strip_other [] bs i lt lt' other = absurd (omega arith)
strip_other (t ∷ ts) [] i lt lt' other = absurd (omega arith)
strip_other (t ∷ ts) (b ∷ bs) zero lt lt' other = rw (ne_eqb b t other) refl
strip_other (t ∷ ts) (b ∷ bs) (suc i) lt lt' other = strip_other ts bs i (omega arith) (omega arith) other

pub differs : (t bs : List ℕ) (i : ℕ) → i < length t → i < length bs → (get_or bs i 0 ≡ get_or t i 0 → ⊥)
    → IsSameTo t bs i → strip t bs ≡ None
differs t bs i lt lt' other so_far = so_far ∙ strip_other t bs i lt lt' other

-- all are the same
strip_end : (t bs : List ℕ) (i : ℕ) → length t ≤ i → strip (drop i t) bs ≡ Some bs
strip_end [] bs zero h = refl
strip_end [] bs (suc i) h = refl
strip_end (t ∷ ts) bs zero h = absurd (omega arith)
strip_end (t ∷ ts) bs (suc i) h = strip_end ts bs i (omega arith)

pub all_same : (t bs : List ℕ) (i : ℕ) → i ≡ length t → IsSameTo t bs i → strip t bs ≡ Some (drop (length t) bs)
all_same t bs i is so_far = so_far ∙ strip_end t (drop i bs) i (omega arith)
    ∙ ap (λ k. Some (drop k bs)) is
