-- What a request for the next line does, step by step.
use Rattle.std.proofs.Common.{◌≡◌, ◌≢◌, ℕ, ◌+◌, ◌-◌, ◌<◌, ◌≤◌, true, List, [], ◌∷◌, ◌++◌, Option, length, take, drop}
use Rattle.std.proofs.Common.{get_or, ap, sym, ◌∙◌, subst, inl, inr, arith, append_assoc, length-drop, length-take}
use Rattle.std.proofs.lemmas.List.{take-append-drop, drop_more, drop_all, take_all, drop-append-le}
use Rattle.ports.specs.Reading.{Reading, HasNoNewline, EndsBefore, HoldsLine, IsLine, KeepsLine, PullsMore, TakesLine}
use Rattle.ports.specs.Reading.{rest_of, without_return}
use Rattle.ports.proofs.BufferLemmas.{TakesBytes-joined}

-- what a line from s up to k and its newline leave of the bytes
line_split : (xs : List ℕ) (s k : ℕ) → s ≤ k → k < length xs → get_or xs k 0 ≡ 10 →
    drop s xs ≡ drop s (take k xs) ++ 10 ∷ drop (k + 1) xs
line_split xs s k order within newline =
    let whole : xs ≡ take k xs ++ drop k xs = sym (take-append-drop k xs) in
    let rest : drop k xs ≡ 10 ∷ drop (k + 1) xs =
    drop_more xs k 0 within ∙ ap (λ (b : ℕ). b ∷ drop (k + 1) xs) newline in
    let fits : s ≤ length (take k xs) = omega (arith, length-take k xs) in
    ap (λ (ys : List ℕ). drop s ys) whole ∙
    (drop-append-le s (take k xs) (drop k xs) fits ∙ ap (λ (ys : List ℕ). drop s (take k xs) ++ ys) rest)

-- a line behind which a newline stands
pub TakesLine-newline : (old new : Reading) (k : ℕ) → EndsBefore old k →
    new.pulled ≡ old.pulled → new.place ≡ k + 1 →
    new.text ≡ without_return (drop old.place (take k old.pulled)) →
    new.number ≡ old.number + 1 → TakesLine old new
TakesLine-newline old new k ends same place text number =
    let split = line_split old.pulled old.place k ends.from ends.within ends.newline in
    record {
      line = drop old.place (take k old.pulled);
      is_line = (ends.first, inl (rw (same, place) split));
      text = text;
      number = number;
      within = omega (arith, ends.limit, place);
    }

-- the line with which the input ends
pub TakesLine-rest : (old new : Reading) (n : ℕ) → n ≡ length old.pulled → n ≤ 1048576 →
    HasNoNewline (drop old.place (take 1048576 old.pulled)) → old.place < n →
    new.pulled ≡ old.pulled → new.ended ≡ true → new.place ≡ n →
    new.text ≡ without_return (drop old.place (take n old.pulled)) →
    new.number ≡ old.number + 1 → TakesLine old new
TakesLine-rest old new n is fits none some same ended place text number =
    let all : take 1048576 old.pulled ≡ old.pulled = take_all 1048576 old.pulled (omega arith) in
    let whole : take n old.pulled ≡ old.pulled = take_all n old.pulled (omega arith) in
    let behind : length new.pulled ≤ new.place = omega (arith, ap (λ (xs : List ℕ). length xs) same) in
    let nothing : drop new.place new.pulled ≡ [] = drop_all new.place new.pulled behind in
    let size : length (drop old.place old.pulled) ≡ n - old.place = omega (arith, length-drop old.place old.pulled) in
    let not_empty : drop old.place old.pulled ≢ [] =
    λ empty. absurd (omega (arith, ap (λ (xs : List ℕ). length xs) empty)) in
    let rest : drop old.place new.pulled ≡ drop old.place old.pulled =
    ap (λ (xs : List ℕ). drop old.place xs) same in
    record {
      line = drop old.place old.pulled;
      is_line = (rw all at none, inr (ended, not_empty, rest, nothing));
      text = rw whole at text;
      number = number;
      within = omega arith;
    }

-- the line is the next one still where only bytes were pulled before
pub TakesLine-kept : (a b d : Reading) → KeepsLine a b → TakesLine b d → TakesLine a d
TakesLine-kept a b d kept takes = record {
  line = takes.line;
  is_line = subst (λ (p : ℕ). IsLine (drop p d.pulled) d.ended takes.line (rest_of d)) kept.place takes.is_line;
  text = takes.text;
  number = takes.number ∙ ap (λ (n : ℕ). n + 1) kept.number;
  within = takes.within;
}

pub KeepsLine-joined : (a b d : Reading) → KeepsLine a b → KeepsLine b d → KeepsLine a d
KeepsLine-joined a b d one two = record {
  text = two.text ∙ one.text;
  number = two.number ∙ one.number;
  place = two.place ∙ one.place;
}

pub PullsMore-joined : (a b d : Reading) (left left' left'' : Option (List ℕ)) →
    PullsMore a b left left' → PullsMore b d left' left'' → PullsMore a d left left''
PullsMore-joined a b d left left' left'' one two =
    let first : b.pulled ++ two.0 ≡ (a.pulled ++ one.0) ++ two.0 = ap (λ (xs : List ℕ). xs ++ two.0) one.1 in
    let bytes : d.pulled ≡ a.pulled ++ (one.0 ++ two.0) =
    two.1 ∙ (first ∙ append_assoc a.pulled one.0 two.0) in
    (one.0 ++ two.0, bytes, TakesBytes-joined left left' left'' one.0 two.0 one.2 two.2)

-- a buffer that isn't full is below the limit, so no newline stands behind the last line
pub no_newline_left : (r : Reading) → length r.pulled < 1048577 →
    HasNoNewline (drop r.place (take 1048576 r.pulled)) → HasNoNewline (rest_of r)
no_newline_left r free none =
    let all : take 1048576 r.pulled ≡ r.pulled = take_all 1048576 r.pulled (omega arith) in
    rw all at none

pub no_newline-same : (a b : Reading) → b.pulled ≡ a.pulled → b.place ≡ a.place →
    HasNoNewline (rest_of a) → HasNoNewline (rest_of b)
no_newline-same a b same place none = rw (same, place) none

-- such a buffer holds no line
pub no_line : (r : Reading) → length r.pulled < 1048577 →
    HasNoNewline (drop r.place (take 1048576 r.pulled)) → HoldsLine r → ⊥
no_line r free none holds =
    no_newline_left r free none holds.0 10 holds.1 holds.2

pub HoldsLine-same : (a b : Reading) → b.pulled ≡ a.pulled → b.place ≡ a.place → HoldsLine a → HoldsLine b
HoldsLine-same a b same place holds = rw (same, place) holds
