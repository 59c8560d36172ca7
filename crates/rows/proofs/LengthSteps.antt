-- Each step at the word of the published length keeps its rule.
use Rattle.std.proofs.Common.{◌≡◌, ℕ, ◌≤◌, ◌≢◌, ◌⊎◌, ◌∷◌, [], List, length, set, get_or, max, drop, true, false}
use Rattle.std.proofs.Common.{refl, sym, ◌∙◌, ap, subst, inl, inr, ⊎_elim, le_refl, le_trans, zero-le, arith, zero, suc}
use Rattle.std.proofs.Common.{length-set}
use mathlib.Core.Option.{some, none, some-injective, some-ne-none}
use lib.ListN.{get_elem?}
use Rattle.atomic_table.specs.Table.{State, Me, Allows, Splits, Joins, opening, step, keeps}
use Rattle.atomic_table.specs.Seated.{TableId}
use Rattle.atomic_table.proofs.Lists.{at_set, at_snoc}
use Rattle.rows.specs.declared.published_length.KnownLength.{KnownLength}
use Rattle.rows.specs.Lengths.{KnowsLengths, Within, start, nothing_told, told_by, learnt, IsRaised, name_of}

only_place : {A : Type 0} (a v : A) (place : ℕ) → get_elem? (a ∷ []) place ≡ some v → (place ≡ 0) × (a ≡ v)
only_place a v zero e = (refl, some-injective a v e)
only_place a v (suc place) e = absurd (some-ne-none v (sym e))

-- nothing is published
pub starts : KnowsLengths (opening (0 ∷ []) [] start)
starts = record {
  writer = 0;
  one_word = refl;
  each_place = λ place v at.
      let e = only_place start v place at in
      subst (λ z. Within 0 0 place z) e.1 (le_refl 0, λ h. (e.0, refl));
}

not_true : {A : Type 0} → false ≡ true → A
not_true e = cc

within_nothing : (count writer place : ℕ) → Within count writer place nothing_told
within_nothing count writer place = (zero-le, λ h. not_true h)

within_note : (count writer place other : ℕ) (v : KnownLength) → Within count writer place v
    → Within count writer other (told_by v)
within_note count writer place other v h = (h.0, λ e. not_true e)

set_within :
    (count writer : ℕ) (views : List KnownLength) (place : ℕ) (w : KnownLength)
    → ((j : ℕ) (v : KnownLength) → get_elem? views j ≡ some v → Within count writer j v)
    → Within count writer place w
    → (j : ℕ) (v : KnownLength) → get_elem? (set views place w) j ≡ some v → Within count writer j v
set_within count writer views place w h k j v e = ⊎_elim
    (λ (t : (j ≡ place) × (w ≡ v)). subst (λ i. Within count writer i v) (sym t.0)
    (subst (λ z. Within count writer place z) t.1 k))
    (λ (t : (j ≢ place) × (get_elem? views j ≡ some v)). h j v t.1)
    (at_set views place j w v e)

-- a note is given
pub tells : (place : ℕ) (v : KnownLength) → Splits KnowsLengths place v v (told_by v)
tells place v s h at =
    let count = get_or s.words 0 0 in
    record {
      writer = h.writer;
      one_word = h.one_word;
      each_place = λ j u e. ⊎_elim
          (set_within count h.writer s.views place v h.each_place (h.each_place place v at) j u)
          (λ (same : told_by v ≡ u). subst (λ z. Within count h.writer j z) same
          (within_note count h.writer place j v (h.each_place place v at)))
          (at_snoc (set s.views place v) (told_by v) u j e);
    }

-- a reader begins, and was told nothing
pub begins : (place : ℕ) (v : KnownLength) → Splits KnowsLengths place v v nothing_told
begins place v s h at =
    let count = get_or s.words 0 0 in
    record {
      writer = h.writer;
      one_word = h.one_word;
      each_place = λ j u e. ⊎_elim
          (set_within count h.writer s.views place v h.each_place (h.each_place place v at) j u)
          (λ (same : nothing_told ≡ u). subst (λ z. Within count h.writer j z) same
          (within_nothing count h.writer j))
          (at_snoc (set s.views place v) nothing_told u j e);
    }

within_learnt : (count writer place : ℕ) (v w : KnownLength) → Within count writer place v → w.count ≤ count
    → Within count writer place (learnt v w)
within_learnt count writer place v w h le =
    let a : v.count ≤ count = h.0 in
    (omega arith, λ e. ((h.1 e).0, (let b : v.count ≡ count = (h.1 e).1 in omega arith)))

-- a note is learnt
pub learns : (place : ℕ) (v : KnownLength) (other : ℕ) (w : KnownLength)
    → Joins KnowsLengths place v other w (learnt v w) nothing_told
learns place v other w s h at apart there =
    let count = get_or s.words 0 0 in
    let le : w.count ≤ count = ⊎_elim
    (λ (t : (other ≡ place) × (learnt v w ≡ w)). absurd (apart t.0))
    (λ (t : (other ≢ place) × (get_elem? s.views other ≡ some w)). (h.each_place other w t.1).0)
    (at_set s.views place other (learnt v w) w there) in
    record {
      writer = h.writer;
      one_word = h.one_word;
      each_place = set_within count h.writer (set s.views place (learnt v w)) other nothing_told
          (set_within count h.writer s.views place (learnt v w) h.each_place
          (within_learnt count h.writer place v w (h.each_place place v at) le))
          (within_nothing count h.writer other);
    }

head_set : (words : List ℕ) (n : ℕ) → length words ≡ 1 → get_or (set words 0 n) 0 0 ≡ n
head_set [] n e = absurd (omega (arith, e))
head_set (x ∷ xs) n e = refl

-- the writer raises the word
pub raises :
    (slots place : ℕ) (me : Me (Unit {0}) KnownLength) (n : ℕ) → me.0.publishes ≡ true → me.0.count ≤ n
    → Allows KnowsLengths slots place me 0 (λ _. n) (λ _. IsRaised (step slots 0 n 0 none) me n)
raises slots place me n publishes more s h long at small =
    let was : ℕ = get_or s.words 0 0 in
    let mine = h.each_place place me.0 at in
    let at_most : was ≤ n = subst (λ z. z ≤ n) (mine.1 publishes).1 more in
    let w : KnownLength = record { count = n; publishes = true } in (
      w,
      keeps,
      tt,
      record {
        writer = h.writer;
        one_word = length-set s.words 0 n ∙ h.one_word;
        each_place = subst
            (λ z. (j : ℕ) (v : KnownLength) → get_elem? (set s.views place w) j ≡ some v → Within z h.writer j v)
            (sym (head_set s.words n h.one_word))
            (λ j v e. ⊎_elim
            (λ (t : (j ≡ place) × (w ≡ v)). subst (λ z. Within n h.writer j z) t.1
            (le_refl n, λ x. (t.0 ∙ (mine.1 publishes).0, refl)))
            (λ (t : (j ≢ place) × (get_elem? s.views j ≡ some v)).
            let other = h.each_place j v t.1 in
            (le_trans other.0 at_most, λ x. absurd (t.0 ((other.1 x).0 ∙ sym (mine.1 publishes).0))))
            (at_set s.views place j w v e));
      },
      (refl, refl),
    )

at_place : (k : ℕ) (y z : List ℕ) → y ≡ z → get_or y k 0 ≡ get_or z k 0
at_place k y z e = ap (λ (l : List ℕ). get_or l k 0) e

-- words of the same name are the same
pub name_of-injective : (y z : TableId) → name_of y ≡ name_of z → y ≡ z
name_of-injective y z e = λ i. record {
  words = at_place 0 (name_of y) (name_of z) e i;
  slots = at_place 1 (name_of y) (name_of z) e i;
  views_name = at_place 2 (name_of y) (name_of z) e i;
  atom = at_place 3 (name_of y) (name_of z) e i;
  block = at_place 4 (name_of y) (name_of z) e i;
  offset = at_place 5 (name_of y) (name_of z) e i;
  slot_names = drop 6 (e i);
}
