-- The entries that cells hold, one cell at a time and as a whole.
use Rattle.std.proofs.Common.{◌≡◌, ℕ, zero, suc, ◌+◌, ◌-◌, ◌%◌, ◌<◌, ◌≤◌, Bool, true, cond, List, [], ◌∷◌, ◌++◌}
use Rattle.std.proofs.Common.{length, get_or, map, drop, replicate, add-one, refl, sym, ◌∙◌, ap}
use Rattle.std.specs.Prelude.{Option, Some, None}
use Rattle.std.proofs.Math.Seq.{drop-cons}
use Rattle.std.proofs.lemmas.List.{append-nil, drop-replicate}
use Rattle.std.proofs.lemmas.Bool.{ne_eqb, eq-eqb}
use Rattle.ps_model.specs.Keys.{Key, powers_of}
use Rattle.parts.specs.Keys.{key_from}
use Rattle.parts.specs.Terms.{entry_of, kept_entry, finished}
use Rattle.parts.specs.declared.terms.Term.{Term}

zeros_past : (n j : ℕ) (xs : List ℕ) → powers_of n (xs ++ replicate j 0) ≡ powers_of n xs
zeros_past zero j xs = refl
zeros_past (suc n) zero [] = refl
zeros_past (suc n) (suc j) [] = λ i. (0, zeros_past n j [] i)
zeros_past (suc n) j (x ∷ xs) = λ i. (x, zeros_past n j xs i)

pub padded_key : (j : ℕ) (xs : List ℕ) → key_from (xs ++ replicate j 0) ≡ key_from xs
padded_key j xs = λ i. record { powers = zeros_past 8 j xs i; y = 0 }

pub finished-drop : (m : ℕ) (key : ℕ → Option (Key 8)) (cells : List ℕ) (at : ℕ) → at < length cells →
    finished m key at (drop at cells) ≡ finished m key (at + 1) (drop (at + 1) cells) ++
    kept_entry (key at) (get_or cells at 0 % m)
finished-drop m key cells at lt =
    ap (finished m key at) (drop-cons cells at 0 lt) ∙
    ap (λ l. finished m key l (drop l cells) ++ kept_entry (key at) (get_or cells at 0 % m)) (sym (add-one at))

pub none_kept : (m : ℕ) (key : ℕ → Option (Key 8)) (cells : List ℕ) (at : ℕ) → at < length cells →
    kept_entry (key at) (get_or cells at 0 % m) ≡ [] →
    finished m key (at + 1) (drop (at + 1) cells) ≡ finished m key at (drop at cells)
none_kept m key cells at lt e =
    sym (finished-drop m key cells at lt ∙ ap (λ l. finished m key (at + 1) (drop (at + 1) cells) ++ l) e ∙
    append-nil _)

pub kept-zero : (o : Option (Key 8)) (v : ℕ) → v ≡ 0 → kept_entry o v ≡ []
kept-zero None v e = refl
kept-zero (Some k) v e = ap (λ b. cond b [] ((k, v) ∷ [])) (eq-eqb v 0 e)

pub kept-some : (k : Key 8) (v : ℕ) → (v ≡ 0 → ⊥) → kept_entry (Some k) v ≡ (k, v) ∷ []
kept-some k v ne = ap (λ b. cond b [] ((k, v) ∷ [])) (ne_eqb v 0 ne)

pub entries_push : (ts : List Term) (t : Term) → map entry_of (ts ++ t ∷ []) ≡ map entry_of ts ++ entry_of t ∷ []
entries_push [] t = refl
entries_push (s ∷ ts) t = ap (λ es. entry_of s ∷ es) (entries_push ts t)

-- the term of a place that holds more than 0
abbrev pub made : List ℕ → ℕ → ℕ → Term
made xs n v = record { monomial = record { powers = xs ++ drop n (replicate 8 0) }; coefficient = v }

pub kept_push : (m : ℕ) (key : ℕ → Option (Key 8)) (cells : List ℕ) (at : ℕ) (ts us : List Term) (xs : List ℕ)
    (n v : ℕ) (b : Bool) → at < length cells → n ≤ 8 → us ≡ cond b (ts ++ made xs n v ∷ []) ts → b ≡ true →
    key at ≡ Some (key_from xs) → v ≡ get_or cells at 0 % m → (v ≡ 0 → ⊥)
    → map entry_of ts ≡ finished m key (at + 1) (drop (at + 1) cells) →
    map entry_of us ≡ finished m key at (drop at cells)
kept_push m key cells at ts us xs n v b lt few is ok key_is v_is some so_far =
    ap (map entry_of) (is ∙ ap (λ b. cond b (ts ++ made xs n v ∷ []) ts) ok)
    ∙ entries_push ts (made xs n v)
    ∙ (λ i. so_far i ++ (key_is_from i, v) ∷ [])
    ∙ ap (λ l. finished m key (at + 1) (drop (at + 1) cells) ++ l) (sym (kept-some (key_from xs) v some) ∙
    (λ i. kept_entry (sym key_is i) (v_is i)))
    ∙ sym (finished-drop m key cells at lt)
  where
    key_is_from : key_from (xs ++ drop n (replicate 8 0)) ≡ key_from xs
    key_is_from = ap (λ l. key_from (xs ++ l)) (drop-replicate n 8 0) ∙ padded_key (8 - n) xs
