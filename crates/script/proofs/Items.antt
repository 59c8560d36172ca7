-- The items of an input, read line by line.
--     items_from ended room bytes      the items of bytes that still may have this many
--     CanFollow r ended more      these bytes may come behind those that were pulled, and the input may end there
--     Consumed r done      these are the items up to the last line, whatever comes behind what was pulled
-- A loop that calls `Lines::next` begins with `consumed_none`, goes on by `consumed_line`, and ends with what the other
-- answers say of the items of its whole input: `consumed_end`, `consumed_too_long`, `consumed_failed`.
use Rattle.std.proofs.Common.{◌≡◌, ◌≢◌, ◌⊎◌, ◌∙◌, sym, ap, refl, subst, inl, inr, ℕ, suc, ◌+◌, ◌-◌, ◌<◌, ◌≤◌}
use Rattle.std.proofs.Common.{Bool, true, false, cond, if◌then◌else◌, nat_le, List, [], ◌∷◌, ◌++◌, length, take, drop}
use Rattle.std.proofs.Common.{◌==◌, map, Option, arith, length-append, length-drop}
use Rattle.std.proofs.lemmas.List.{append_assoc, append-nil, append_cancel_left, drop-append-le, take-append-le}
use Rattle.std.proofs.lemmas.List.{drop-take, length_push}
use Rattle.std.proofs.lemmas.Bool.{ne_eqb, le-leb, lt-leb, leb-true, leb-false, true≢false}
use Rattle.ports.specs.Reading.{Reading, rest_of, HasNoNewline, HoldsLine, KeepsLine, NeedsLastByte, PullsMore}
use Rattle.ports.specs.Reading.{TakesLine, without_return}
use Rattle.script.specs.Answers.{Item, Line, TooLong, last_line, lines_behind, items_behind, items_of}

-- the items of bytes of which no more than these belong to the input
abbrev pub items_from : Bool → ℕ → List ℕ → List Item
items_from ended room bytes =
    if nat_le (length bytes) room then items_behind ended bytes
    else items_behind false (take room bytes) ++ TooLong ∷ []

-- behind the end of the input nothing comes
abbrev pub CanFollow : Reading → Bool → List ℕ → Type 0
CanFollow r ended more = r.ended ≡ true → (ended ≡ true) × (more ≡ [])

-- the invariant of the loop: whatever comes behind what was pulled, these items stand in front
pub record Consumed (r : Reading) (done : List Item) : Type 0 where
  pub within : r.place ≤ 1048576
  pub inside : r.place ≤ length r.pulled
  pub counted : r.number ≡ length done
  pub same : (ended : Bool) (more : List ℕ) → CanFollow r ended more →
      items_of ended (r.pulled ++ more) ≡ done ++ items_from ended (1048576 - r.place) (rest_of r ++ more)

head_of : (b : ℕ) (bytes : List ℕ) → HasNoNewline (b ∷ bytes) → (b == 10) ≡ false
head_of b bytes none = ne_eqb b 10 (none 0 b (omega arith))

tail_of : (b : ℕ) (bytes : List ℕ) → HasNoNewline (b ∷ bytes) → HasNoNewline bytes
tail_of b bytes none k d lt = none (suc k) d (omega arith)

-- bytes with no newline go on with the line that was begun
lines-none : (ended : Bool) (line bytes : List ℕ) → HasNoNewline bytes
    → lines_behind ended line bytes ≡ last_line ended (line ++ bytes)
lines-none ended line [] none = ap (last_line ended) (sym (append-nil line))
lines-none ended line (b ∷ bytes) none =
    ap (λ y. cond y (line ∷ lines_behind ended [] bytes) (lines_behind ended (line ++ b ∷ []) bytes))
    (head_of b bytes none)
    ∙ lines-none ended (line ++ b ∷ []) bytes (tail_of b bytes none)
    ∙ ap (last_line ended) (append_assoc line (b ∷ []) bytes)

-- a newline ends the line that was begun
lines-cut : (ended : Bool) (begun line rest : List ℕ) → HasNoNewline line
    → lines_behind ended begun (line ++ 10 ∷ rest) ≡ (begun ++ line) ∷ lines_behind ended [] rest
lines-cut ended begun [] rest none =
    ap (λ (l : List ℕ). l ∷ lines_behind ended [] rest) (sym (append-nil begun))
lines-cut ended begun (b ∷ line) rest none =
    ap (λ y. cond y (begun ∷ lines_behind ended [] (line ++ 10 ∷ rest))
    (lines_behind ended (begun ++ b ∷ []) (line ++ 10 ∷ rest))) (head_of b line none)
    ∙ lines-cut ended (begun ++ b ∷ []) line rest (tail_of b line none)
    ∙ ap (λ (l : List ℕ). l ∷ lines_behind ended [] rest) (append_assoc begun (b ∷ []) line)

no_last : (line : List ℕ) → last_line false line ≡ []
no_last [] = refl
no_last (b ∷ line) = refl

one_last : (line : List ℕ) → line ≢ [] → last_line true line ≡ line ∷ []
one_last [] some = absurd (some refl)
one_last (b ∷ line) some = refl

behind-none : (bytes : List ℕ) → HasNoNewline bytes → items_behind false bytes ≡ []
behind-none bytes none =
    ap (map (λ line. Line (without_return line))) (lines-none false [] bytes none ∙ no_last bytes)

behind-cut : (ended : Bool) (line rest : List ℕ) → HasNoNewline line
    → items_behind ended (line ++ 10 ∷ rest) ≡ Line (without_return line) ∷ items_behind ended rest
behind-cut ended line rest none = ap (map (λ line. Line (without_return line))) (lines-cut ended [] line rest none)

behind-last : (line : List ℕ) → HasNoNewline line → line ≢ []
    → items_behind true line ≡ Line (without_return line) ∷ []
behind-last line none some =
    ap (map (λ line. Line (without_return line))) (lines-none true [] line none ∙ one_last line some)

-- by whether the bytes fit
from-fits : (ended : Bool) (room : ℕ) (bytes : List ℕ) → length bytes ≤ room
    → items_from ended room bytes ≡ items_behind ended bytes
from-fits ended room bytes fits =
    ap (λ y. cond y (items_behind ended bytes) (items_behind false (take room bytes) ++ TooLong ∷ []))
    (le-leb (length bytes) room fits)

from-over : (ended : Bool) (room : ℕ) (bytes : List ℕ) → room < length bytes
    → items_from ended room bytes ≡ items_behind false (take room bytes) ++ TooLong ∷ []
from-over ended room bytes over =
    ap (λ y. cond y (items_behind ended bytes) (items_behind false (take room bytes) ++ TooLong ∷ []))
    (lt-leb (length bytes) room over)

pub from-nothing : (ended : Bool) (room : ℕ) → items_from ended room [] ≡ []
from-nothing ended room = from-fits ended room [] (omega arith)

pub from-no_newline : (room : ℕ) (bytes : List ℕ) → length bytes ≤ room → HasNoNewline bytes
    → items_from false room bytes ≡ []
from-no_newline room bytes fits none = from-fits false room bytes fits ∙ behind-none bytes none

pub from-last : (room : ℕ) (line : List ℕ) → length line ≤ room → HasNoNewline line → line ≢ []
    → items_from true room line ≡ Line (without_return line) ∷ []
from-last room line fits none some = from-fits true room line fits ∙ behind-last line none some

pub from-too_long : (ended : Bool) (room : ℕ) (bytes : List ℕ) → room < length bytes → HasNoNewline (take room bytes)
    → items_from ended room bytes ≡ TooLong ∷ []
from-too_long ended room bytes over none =
    from-over ended room bytes over ∙ ap (λ l. l ++ TooLong ∷ []) (behind-none (take room bytes) none)

take-behind : (line rest : List ℕ) (n : ℕ) → take (length line + suc n) (line ++ 10 ∷ rest) ≡ line ++ 10 ∷ take n rest
take-behind [] rest n =
    let e : 0 + suc n ≡ suc n = omega arith in
    ap (λ (k : ℕ). take k (10 ∷ rest)) e
take-behind (b ∷ line) rest n =
    let e : suc (length line) + suc n ≡ suc (length line + suc n) = omega arith in
    ap (λ (k : ℕ). take k (b ∷ line ++ 10 ∷ rest)) e ∙ ap (λ (l : List ℕ). b ∷ l) (take-behind line rest n)

pub from-cut : (ended : Bool) (room : ℕ) (line rest : List ℕ) (left : ℕ) → room ≡ length line + suc left
    → HasNoNewline line
    → items_from ended room (line ++ 10 ∷ rest) ≡ Line (without_return line) ∷ items_from ended left rest
from-cut ended room line rest left size none = by (nat_le (length rest) left) refl
  where
    count : length (line ++ 10 ∷ rest) ≡ length line + suc (length rest)
    count = length-append line (10 ∷ rest)

    by : (y : Bool) → nat_le (length rest) left ≡ y
        → items_from ended room (line ++ 10 ∷ rest) ≡ Line (without_return line) ∷ items_from ended left rest
    by true e =
        let fits : length rest ≤ left = leb-true (length rest) left e in
        from-fits ended room (line ++ 10 ∷ rest) (omega (arith, count, size, fits))
        ∙ behind-cut ended line rest none
        ∙ ap (λ (l : List Item). Line (without_return line) ∷ l) (sym (from-fits ended left rest fits))
    by false e =
        let over : left < length rest = leb-false (length rest) left e in
        from-over ended room (line ++ 10 ∷ rest) (omega (arith, count, size, over))
        ∙ ap (λ k. items_behind false (take k (line ++ 10 ∷ rest)) ++ TooLong ∷ []) size
        ∙ ap (λ l. items_behind false l ++ TooLong ∷ []) (take-behind line rest left)
        ∙ ap (λ (l : List Item). l ++ TooLong ∷ []) (behind-cut false line (take left rest) none)
        ∙ ap (λ (l : List Item). Line (without_return line) ∷ l) (sym (from-over ended left rest over))

-- nothing is consumed before the first call: the loop's start
pub consumed_none : (r : Reading) → r.pulled ≡ [] → r.place ≡ 0 → r.ended ≡ false → r.number ≡ 0 → Consumed r []
consumed_none r pulled place going number =
    let rest : rest_of r ≡ r.pulled = ap (λ (k : ℕ). drop k r.pulled) place in
    record {
      within = omega (arith, place);
      inside = omega (arith, place);
      counted = number;
      same = λ ended more follows.
          let room : 1048576 - r.place ≡ 1048576 = omega (arith, place) in
          ap (λ (l : List ℕ). items_of ended (l ++ more)) (sym rest)
          ∙ ap (λ (k : ℕ). items_from ended k (rest_of r ++ more)) (sym room);
    }

-- the items of the whole input begin with those that were consumed: for a loop that stops early
pub consumed_any : (r : Reading) (done : List Item) → Consumed r done → (ended : Bool) (more : List ℕ)
    → CanFollow r ended more → (rest : List Item) × (items_of ended (r.pulled ++ more) ≡ done ++ rest)
consumed_any r done consumed ended more follows =
    (items_from ended (1048576 - r.place) (rest_of r ++ more), consumed.same ended more follows)

-- what a call of `Lines::next` leaves, by its clauses `bytes`, `unmoved`, `room` and `ended_stays` as they stand
module _ (old new : Reading) (left left' : Option (List ℕ)) {X : Type 0} (source source' : X)
    (bytes : PullsMore old new left left')
    (unmoved : HoldsLine old ⊎ (old.ended ≡ true) → (source' ≡ source) × (new.pulled ≡ old.pulled))
    (room : (length new.pulled ≤ 1048577) × (new.place ≤ length new.pulled))
    (ended_stays : old.ended ≡ true → new.ended ≡ true)
    (done : List Item) (consumed : Consumed old done) where
  -- nothing is pulled behind the end
  none_pulled : old.ended ≡ true → bytes.0 ≡ []
  none_pulled end =
      append_cancel_left old.pulled bytes.0 []
      (sym bytes.1 ∙ (unmoved (inr end)).1 ∙ sym (append-nil old.pulled))

  follows_old : (ended : Bool) (more : List ℕ) → CanFollow new ended more → CanFollow old ended (bytes.0 ++ more)
  follows_old ended more follows end =
      let f : (ended ≡ true) × (more ≡ []) = follows (ended_stays end) in
      (f.0, ap (λ l. l ++ more) (none_pulled end) ∙ f.1)

  grown : length new.pulled ≡ length old.pulled + length bytes.0
  grown = ap length bytes.1 ∙ length-append old.pulled bytes.0

  behind_old : (more : List ℕ) → rest_of old ++ (bytes.0 ++ more) ≡ drop old.place new.pulled ++ more
  behind_old more =
      sym (append_assoc (rest_of old) bytes.0 more)
      ∙ ap (λ (l : List ℕ). l ++ more) (sym (drop-append-le old.place old.pulled bytes.0 consumed.inside)
      ∙ ap (drop old.place) (sym bytes.1))

  -- the items up to the last line before the call, and what is behind it
  whole : (ended : Bool) (more : List ℕ) → CanFollow old ended (bytes.0 ++ more)
      → items_of ended (new.pulled ++ more)
      ≡ done ++ items_from ended (1048576 - old.place) (drop old.place new.pulled ++ more)
  whole ended more follows =
      ap (λ (l : List ℕ). items_of ended (l ++ more)) bytes.1
      ∙ ap (items_of ended) (append_assoc old.pulled bytes.0 more)
      ∙ consumed.same ended (bytes.0 ++ more) follows
      ∙ ap (λ (l : List ℕ). done ++ items_from ended (1048576 - old.place) l) (behind_old more)

  taken : (takes : TakesLine old new) (ended : Bool) (more : List ℕ) → CanFollow new ended more
      → items_from ended (1048576 - old.place) (drop old.place new.pulled ++ more)
      ≡ Line new.text ∷ items_from ended (1048576 - new.place) (rest_of new ++ more)
  taken takes ended more follows =
      elim takes.is_line.1 [ inl e ↦ by_newline e | inr e ↦ by_end e ]
      ∙ ap (λ (l : List ℕ). Line l ∷ items_from ended (1048576 - new.place) (rest_of new ++ more)) (sym takes.text)
    where
      before : length (drop old.place new.pulled) ≡ length new.pulled - old.place
      before = length-drop old.place new.pulled

      behind : length (rest_of new) ≡ length new.pulled - new.place
      behind = length-drop new.place new.pulled

      by_newline : drop old.place new.pulled ≡ takes.line ++ 10 ∷ rest_of new
          → items_from ended (1048576 - old.place) (drop old.place new.pulled ++ more)
          ≡ Line (without_return takes.line) ∷ items_from ended (1048576 - new.place) (rest_of new ++ more)
      by_newline e =
          let size : length (drop old.place new.pulled) ≡ length takes.line + suc (length (rest_of new)) =
          ap length e ∙ length-append takes.line (10 ∷ rest_of new) in
          let left : 1048576 - old.place ≡ length takes.line + suc (1048576 - new.place) =
          omega (arith, size, before, behind, grown, room.1, consumed.inside, consumed.within, takes.within) in
          ap (λ (l : List ℕ). items_from ended (1048576 - old.place) (l ++ more)) e
          ∙ ap (items_from ended (1048576 - old.place)) (append_assoc takes.line (10 ∷ rest_of new) more)
          ∙ from-cut ended (1048576 - old.place) takes.line (rest_of new ++ more) (1048576 - new.place) left
          takes.is_line.0

      by_end : (new.ended ≡ true) × (takes.line ≢ []) × (drop old.place new.pulled ≡ takes.line) × (rest_of new ≡ [])
          → items_from ended (1048576 - old.place) (drop old.place new.pulled ++ more)
          ≡ Line (without_return takes.line) ∷ items_from ended (1048576 - new.place) (rest_of new ++ more)
      by_end e =
          let f : (ended ≡ true) × (more ≡ []) = follows e.0 in
          let size : length (drop old.place new.pulled) ≡ length takes.line = ap length e.2 in
          let none : length (rest_of new) ≡ 0 = ap length e.3 in
          let fits : length takes.line ≤ 1048576 - old.place =
          omega (arith, size, before, behind, none, room.1, takes.within) in
          ap (λ y. items_from y (1048576 - old.place) (drop old.place new.pulled ++ more)) f.0
          ∙ ap (λ (l : List ℕ). items_from true (1048576 - old.place) (drop old.place new.pulled ++ l)) f.1
          ∙ ap (items_from true (1048576 - old.place)) (append-nil (drop old.place new.pulled) ∙ e.2)
          ∙ from-last (1048576 - old.place) takes.line fits takes.is_line.0 e.1
          ∙ ap (λ (l : List Item). Line (without_return takes.line) ∷ l)
          (sym (ap (λ (l : List ℕ). items_from ended (1048576 - new.place) (l ++ more)) e.3
          ∙ ap (items_from ended (1048576 - new.place)) f.1 ∙ from-nothing ended (1048576 - new.place)))

  -- a line more is consumed: the loop's step, for the answer `Line`
  pub consumed_line : TakesLine old new → Consumed new (done ++ Line new.text ∷ [])
  consumed_line takes = record {
    within = takes.within;
    inside = room.1;
    counted = takes.number ∙ ap (λ (k : ℕ). k + 1) consumed.counted ∙ sym (length_push done (Line new.text));
    same = λ ended more follows.
        whole ended more (follows_old ended more follows)
        ∙ ap (λ (l : List Item). done ++ l) (taken takes ended more follows)
        ∙ sym (append_assoc done (Line new.text ∷ []) (items_from ended (1048576 - new.place) (rest_of new ++ more)));
  }

  -- that line is the next item: for a step that refuses it, or stops in it
  pub next_line : TakesLine old new → (ended : Bool) (more : List ℕ) → CanFollow new ended more
      → (rest : List Item) × (items_of ended (new.pulled ++ more) ≡ done ++ Line new.text ∷ rest)
  next_line takes ended more follows = (
    items_from ended (1048576 - new.place) (rest_of new ++ more),
    whole ended more (follows_old ended more follows)
        ∙ ap (λ (l : List Item). done ++ l) (taken takes ended more follows),
  )

  -- behind what was consumed the input is too long: for the answer `InputTooLong`
  pub consumed_too_long : NeedsLastByte new → KeepsLine old new → (ended : Bool) (more : List ℕ)
      → CanFollow new ended more → items_of ended (new.pulled ++ more) ≡ done ++ TooLong ∷ []
  consumed_too_long needs keeps ended more follows =
      let size : length (drop old.place new.pulled) ≡ length new.pulled - old.place =
      length-drop old.place new.pulled in
      let all : length (drop old.place new.pulled ++ more) ≡ length (drop old.place new.pulled) + length more =
      length-append (drop old.place new.pulled) more in
      let over : 1048576 - old.place < length (drop old.place new.pulled ++ more) =
      omega (arith, size, all, needs.full, consumed.within) in
      let fits : 1048576 - old.place ≤ length (drop old.place new.pulled) =
      omega (arith, size, needs.full, consumed.within) in
      let place : 1048576 ≡ old.place + (1048576 - old.place) = omega (arith, consumed.within) in
      let same : drop new.place (take 1048576 new.pulled)
      ≡ take (1048576 - old.place) (drop old.place new.pulled ++ more) =
      ap (λ (k : ℕ). drop k (take 1048576 new.pulled)) keeps.place
      ∙ ap (λ (k : ℕ). drop old.place (take k new.pulled)) place
      ∙ drop-take old.place (1048576 - old.place) new.pulled
      ∙ sym (take-append-le (1048576 - old.place) (drop old.place new.pulled) more fits) in
      whole ended more (follows_old ended more follows)
      ∙ ap (λ (l : List Item). done ++ l)
      (from-too_long ended (1048576 - old.place) (drop old.place new.pulled ++ more) over
      (subst HasNoNewline same needs.no_line))

  -- the same, as the next item
  pub next_too_long : NeedsLastByte new → KeepsLine old new → (ended : Bool) (more : List ℕ)
      → CanFollow new ended more
      → (rest : List Item) × (items_of ended (new.pulled ++ more) ≡ done ++ TooLong ∷ rest)
  next_too_long needs keeps ended more follows = ([], consumed_too_long needs keeps ended more follows)

  -- what is behind the last line, where the call kept it
  kept : KeepsLine old new → drop old.place new.pulled ≡ rest_of new
  kept keeps = ap (λ (k : ℕ). drop k new.pulled) (sym keeps.place)

  -- the whole input was consumed: for the answer `End`, by its clause `end`
  pub consumed_end : (new.ended ≡ true) × (rest_of new ≡ []) → KeepsLine old new → items_of true new.pulled ≡ done
  consumed_end end keeps =
      ap (items_of true) (sym (append-nil new.pulled))
      ∙ whole true [] (λ e. (refl, append-nil bytes.0 ∙ none_pulled e))
      ∙ ap (λ (l : List ℕ). done ++ items_from true (1048576 - old.place) l)
      (append-nil (drop old.place new.pulled) ∙ kept keeps ∙ end.1)
      ∙ ap (λ (l : List Item). done ++ l) (from-nothing true (1048576 - old.place))
      ∙ append-nil done

  -- all whole lines were consumed, and the input doesn't end here: for the answer `Failed`
  pub consumed_failed : new.ended ≡ false → HasNoNewline (rest_of new) → length new.pulled ≤ 1048576
      → KeepsLine old new → items_of false new.pulled ≡ done
  consumed_failed going none fits keeps =
      let size : length (drop old.place new.pulled) ≡ length new.pulled - old.place =
      length-drop old.place new.pulled in
      let less : length (drop old.place new.pulled) ≤ 1048576 - old.place = omega (arith, size, fits) in
      ap (items_of false) (sym (append-nil new.pulled))
      ∙ whole false [] (λ e. absurd (true≢false (sym (ended_stays e) ∙ going)))
      ∙ ap (λ (l : List ℕ). done ++ items_from false (1048576 - old.place) l) (append-nil (drop old.place new.pulled))
      ∙ ap (λ (l : List Item). done ++ l)
      (from-no_newline (1048576 - old.place) (drop old.place new.pulled) less
      (subst HasNoNewline (sym (kept keeps)) none))
      ∙ append-nil done
