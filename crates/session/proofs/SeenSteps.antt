-- Rows that are seen item by item.
use Rattle.std.proofs.Common.{◌≡◌, ℕ, zero, suc, ◌+◌, ◌<◌, ◌≤◌, List, [], ◌∷◌, length, map, get_or, set, Option, Some}
use Rattle.std.proofs.Common.{None, refl, sym, ◌∙◌, ap, subst, arith, inl, inr}
use Rattle.std.specs.Prelude.{◌≢◌}
use Rattle.std.proofs.lemmas.Bool.{cases_lt}
use Rattle.std.proofs.lemmas.List.{length-map, length-set, map-set, get_or-map}
use Rattle.ps_model.specs.declared.job.JobData.{JobData}
use Rattle.rows.specs.declared.item.RowItem.{Ghosts}
use Rattle.rows.specs.declared.shared.RowReader.{RowReader}
use Rattle.stages.specs.Items.{StageItemValue}
use Rattle.stages.specs.States.{StageState}
use Rattle.stages.specs.Titles.{TitleValue}
use Rattle.pipe.specs.Looks.{ReaderState}
use Rattle.pipe.specs.Pairs.{Pairwise}
use Rattle.printer.specs.View.{HasUpTo}
use Rattle.session.specs.Seen.{IsLevel, KeepsSeen}
use Rattle.session.specs.Sessions.{SessionState, IsSession, HasItems, value_of}
use Rattle.session.specs.Shared.{place_of, KeepsPlace, IsPlaceOf, ArePlacesOf, reader_at}
use Rattle.session.specs.Views.{no_stage, items_count}
use Rattle.session.proofs.SharedRows.{keeps_same, places_same}

-- the rows before row i have an item of degree r more
pub record IsPartly (r i : ℕ) (s : SessionState) : Type 0 where
  pub before : (j : ℕ) (d : StageState) → j < length s.stages → j < i
      → length (get_or s.stages j d).items ≡ r + 1
  pub behind : (j : ℕ) (d : StageState) → j < length s.stages → i ≤ j → length (get_or s.stages j d).items ≡ r

pub partly_none : (r : ℕ) (s : SessionState) → IsLevel r s → IsPartly r 0 s
partly_none r s level = record {
  before = λ j d lt low. absurd (omega arith);
  behind = λ j d lt low. level j d lt;
}

pub partly_all : (r i : ℕ) (s : SessionState) → length s.stages ≤ i → IsPartly r i s → IsLevel (r + 1) s
partly_all r i s past partly j d lt = partly.before j d lt (omega arith)

pub partly_more : (r i : ℕ) (old new : SessionState) → KeepsSeen old new
    → ((j : ℕ) (d : StageState) → j ≢ i → get_or new.stages j d ≡ get_or old.stages j d)
    → ((d : StageState) → length (get_or new.stages i d).items ≡ r + 1) → IsPartly r i old → IsPartly r (i + 1) new
partly_more r i old new same others more partly = record {
  before = λ j d lt low. elim (cases_lt j i) [
    | inl less ↦
        ap (λ (s : StageState). length s.items) (others j d (λ e. absurd (omega arith)))
        ∙ partly.before j d (let count = same.count in omega arith) less
    | inr past ↦
        let at : i ≡ j = omega arith in
        subst (λ k. length (get_or new.stages k d).items ≡ r + 1) at (more d)
  ];
  behind = λ j d lt low.
      ap (λ (s : StageState). length s.items) (others j d (λ e. absurd (omega arith)))
      ∙ partly.behind j d (let count = same.count in omega arith) (omega arith);
}

pub seen_same : (s : SessionState) → KeepsSeen s s
seen_same s = record { job = refl; lead = refl; count = refl; capacity = λ i d lt. refl }

pub seen_twice : (a b c : SessionState) → KeepsSeen a b → KeepsSeen b c → KeepsSeen a c
seen_twice a b c one two = record {
  job = two.job ∙ one.job;
  lead = two.lead ∙ one.lead;
  count = two.count ∙ one.count;
  capacity = λ i d lt. two.capacity i d (let count = one.count in omega arith) ∙ one.capacity i d lt;
}

keeps_twice : (a b c : Option ReaderState) → KeepsPlace a b → KeepsPlace b c → KeepsPlace a c
keeps_twice None None None one two = tt
keeps_twice None None (Some z) one two = absurd two
keeps_twice None (Some y) c one two = absurd one
keeps_twice (Some x) None c one two = absurd one
keeps_twice (Some x) (Some y) None one two = absurd two
keeps_twice (Some x) (Some y) (Some z) one two = record {
  title = two.title ∙ one.title;
  name = two.name ∙ one.name;
  seen = let a = one.seen in let b = two.seen in omega arith;
  told = two.told ∙ one.told;
}

pub places_twice : (xs ys zs : List (Option ReaderState)) → Pairwise KeepsPlace xs ys → Pairwise KeepsPlace ys zs
    → Pairwise KeepsPlace xs zs
places_twice xs ys zs one two = record {
  count = two.count ∙ one.count;
  each = λ i d e lt. keeps_twice (get_or xs i d) (get_or ys i d) (get_or zs i e) (one.each i d d lt)
      (two.each i d e (let count = one.count in omega arith));
}

-- readers that are kept are of the same rows
pub places_kept : (job : JobData) (xs ys : List (Option ReaderState)) → Pairwise KeepsPlace xs ys → ArePlacesOf job xs
    → ArePlacesOf job ys
places_kept job xs ys kept are = record {
  count = kept.count ∙ are.count;
  each = λ i lt.
      let low : i < length xs = (let count = kept.count in omega arith) in
      let was = are.each i low in
      by i was (reader_at ys i) (subst (λ p. KeepsPlace p (reader_at ys i)) was.there (kept.each i None None low));
}
  where
    by : (i : ℕ) (was : IsPlaceOf job i (reader_at xs i)) (p : Option ReaderState) → KeepsPlace (Some was.reader) p
        → IsPlaceOf job i p
    by i was None stays = absurd stays
    by i was (Some r) stays = record { reader = r; there = refl; title = stays.title ∙ was.title }

-- one of them is kept, and the others as they are
set_kept : (ps : List (Option ReaderState)) (i : ℕ) (p : Option ReaderState)
    → ((d : Option ReaderState) → i < length ps → KeepsPlace (get_or ps i d) p) → Pairwise KeepsPlace ps (set ps i p)
set_kept ps i p keep = record { count = length-set ps i p; each = λ j d e lt. by ps i keep j d e lt }
  where
    by : (qs : List (Option ReaderState)) (i : ℕ)
        → ((d : Option ReaderState) → i < length qs → KeepsPlace (get_or qs i d) p)
        → (j : ℕ) (d e : Option ReaderState) → j < length qs → KeepsPlace (get_or qs j d) (get_or (set qs i p) j e)
    by [] i keep j d e lt = absurd (omega arith)
    by (q ∷ qs) zero keep zero d e lt = keep d (omega arith)
    by (q ∷ qs) zero keep (suc j) d e lt = (places_same qs).each j d e (omega arith)
    by (q ∷ qs) (suc i) keep zero d e lt = keeps_same q
    by (q ∷ qs) (suc i) keep (suc j) d e lt = by qs i (λ x low. keep x (omega arith)) j d e (omega arith)

module _ {g : Ghosts StageItemValue TitleValue} (xs ys : List (Option (RowReader StageItemValue TitleValue g))) (i : ℕ)
    (x : Option (RowReader StageItemValue TitleValue g)) (lt : i < length ys)
    (kept : Pairwise KeepsPlace (map place_of xs) (map place_of ys)) where
  here : (d : Option ReaderState) → get_or (map place_of ys) i d ≡ place_of (get_or ys i x)
  here d = get_or-map place_of ys i x d lt

  -- the reader of a row is at its place
  pub reader_there : (job other : JobData) → other ≡ job → ArePlacesOf job (map place_of xs)
      → IsPlaceOf other i (place_of (get_or ys i x))
  reader_there job other same are = subst (λ (j : JobData). IsPlaceOf j i (place_of (get_or ys i x))) (sym same)
      (subst (IsPlaceOf job i) (here None) ((places_kept job (map place_of xs) (map place_of ys) kept are).each i
      (let count = length-map ys place_of in omega arith)))

  pub places_set : (y : Option (RowReader StageItemValue TitleValue g))
      → KeepsPlace (place_of (get_or ys i x)) (place_of y)
      → Pairwise KeepsPlace (map place_of xs) (map place_of (set ys i y))
  places_set y keep = subst (Pairwise KeepsPlace (map place_of xs)) (sym (map-set place_of ys i y))
      (places_twice (map place_of xs) (map place_of ys) (set (map place_of ys) i (place_of y)) kept
      (set_kept (map place_of ys) i (place_of y) (λ d low. subst (λ p. KeepsPlace p (place_of y)) (sym (here d)) keep)))

-- what is level reaches the last degree
pub level_up_to : (s : SessionState) (r : ℕ) → IsSession s → HasItems s → IsLevel (r + 1) s → r < length s.lead
    → HasUpTo (value_of s) r
level_up_to s r holds fits level low = (
  λ i lt.
      let count = items_count s holds fits i lt in
      let many = level i (no_stage s holds fits) (let same = holds.of_job.count in omega arith) in
      omega arith,
  low,
)
