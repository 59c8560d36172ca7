-- Series that are cut back one after the other.
use Rattle.std.proofs.Common.{◌≡◌, ℕ, ◌+◌, ◌-◌, ◌<◌, ◌≤◌, true, false, true≢false, cond, List, ◌++◌, length, get_or}
use Rattle.std.proofs.Common.{take, drop, sym, ◌∙◌, ap, arith, inl, inr, Result, Ok, Err}
use Rattle.std.specs.Prelude.{OnOk, OnErr, is_err}
use Rattle.std.proofs.Math.ListN.{set}
use Rattle.std.proofs.lemmas.Bool.{cases_eq, lt-ltb, le-ltb}
use Rattle.std.proofs.lemmas.Grind.{get_or-set_at}
use Rattle.std.proofs.lemmas.List.{get_or-set_other, length-set, get_or_default, take-append-le, take_all}
use Rattle.parts.specs.SeriesParts.{SeriesValue}
use Rattle.prepare.specs.Columns.{cut_to}

-- what a call says that didn't fail, and one that did
pub on_ok : {T E : Type 0} (P : Type 0) (r : Result T E) → is_err r ≡ false → OnOk r P → P
on_ok P (Ok x) e h = h
on_ok P (Err y) e h = absurd (true≢false e)

pub on_err : {T E : Type 0} (P : Type 0) (r : Result T E) → is_err r ≡ true → OnErr r P → P
on_err P (Ok x) e h = absurd (true≢false (sym e))
on_err P (Err y) e h = h

-- a slice's elements, put back into the list that has them
pub put_back : {A : Type 0} (n : ℕ) (new old : List A) → length new ≡ length old → n ≡ length old →
    take n (new ++ drop (length new) old) ≡ new
put_back n new old same count =
    take-append-le n new (drop (length new) old) (omega arith) ∙ take_all n new (omega arith)

-- one that is long enough
pub cut_long : (r : ℕ) (s : SeriesValue) → r < length s.parts →
    record s { parts = take (length s.parts - 1) s.parts } ≡ cut_to r s
cut_long r s lt = sym (ap (λ b. cond b (record s { parts = take (length s.parts - 1) s.parts }) s)
    (lt-ltb r (length s.parts) lt))

-- one that isn't
pub cut_short : (r : ℕ) (s : SeriesValue) → length s.parts ≤ r → s ≡ cut_to r s
cut_short r s le = sym (ap (λ b. cond b (record s { parts = take (length s.parts - 1) s.parts }) s)
    (le-ltb r (length s.parts) le))

-- those below place i are cut back, the others as they were
pub record IsCutBelow (r : ℕ) (old : List SeriesValue) (i : ℕ) (series : List SeriesValue) : Type 0 where
  pub long : length series ≡ length old
  pub cut : (h : ℕ) (x : SeriesValue) → h < i → get_or series h x ≡ cut_to r (get_or old h x)
  pub kept : (h : ℕ) (x : SeriesValue) → i ≤ h → get_or series h x ≡ get_or old h x

module _ (r i : ℕ) (old series : List SeriesValue) (is : IsCutBelow r old i series) (inside : i < length old) where
  within : i < length series
  within = let long = is.long in omega arith

  pub cut_more : (s v : SeriesValue) → s ≡ get_or series i s → v ≡ cut_to r s →
      IsCutBelow r old (i + 1) (set series i v)
  cut_more s v at value = record {
    long = length-set series i v ∙ is.long;
    cut = λ h x lt. elim (cases_eq h i) [
      | inl e ↦ get_or-set_at series i h v x e within ∙ value ∙ ap (cut_to r)
          (at ∙ get_or_default series i s x within ∙ is.kept i x (omega arith) ∙ ap (λ n. get_or old n x) (sym e))
      | inr ne ↦ get_or-set_other series i h v x ne ∙ is.cut h x (omega arith)
    ];
    kept = λ h x le. get_or-set_other series i h v x (λ e. omega arith) ∙ is.kept h x (omega arith);
  }

  pub cut_none : (s : SeriesValue) → s ≡ get_or series i s → length s.parts ≤ r → IsCutBelow r old (i + 1) series
  cut_none s at short = record {
    long = is.long;
    cut = λ h x lt. elim (cases_eq h i) [
      | inl e ↦ ap (λ n. get_or series n x) e ∙ get_or_default series i x s within ∙ sym at ∙ cut_short r s short ∙
          ap (cut_to r) (at ∙ get_or_default series i s x within ∙ is.kept i x (omega arith) ∙
          ap (λ n. get_or old n x) (sym e))
      | inr ne ↦ is.cut h x (omega arith)
    ];
    kept = λ h x le. is.kept h x (omega arith);
  }
