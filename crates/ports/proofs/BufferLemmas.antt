-- What a buffer keeps true through a search and a pull, and what its reading then says.
use Rattle.std.proofs.Common.{◌≡◌, ℕ, ◌+◌, ◌<◌, ◌≤◌, Bool, true, List, [], ◌++◌, Option, Some, None, length, take}
use Rattle.std.proofs.Common.{drop, get_or, min, refl, ap, sym, ◌∙◌, arith, length-take, append_assoc}
use Rattle.std.proofs.lemmas.List.{get_or-take, take-take, append-nil, take-append-drop, take_at}
use Rattle.std.proofs.Math.Seq.{take-add}
use Rattle.ports.specs.Bytes.{MovesBytes, TakesBytes}
use Rattle.ports.specs.Buffer.{IsBuffer}
use Rattle.ports.specs.Reading.{Reading, HasNoNewline, EndsBefore}
use Rattle.ports.specs.declared.source.Pulled.TheVariants as pulled
use Rattle.ports.proofs.LineLemmas.{at_place, from_places, HasNoNewline-joined}

-- equal beginnings have equal shorter beginnings
pub take-shorter : (xs ys : List ℕ) (n p : ℕ) → p ≤ n → take n xs ≡ take n ys → take p xs ≡ take p ys
take-shorter xs ys n p le e =
    sym (take-take p n xs le) ∙ (ap (λ (zs : List ℕ). take p zs) e ∙ take-take p n ys le)

module _ (bytes : List ℕ) (filled scanned place : ℕ) (ended : Bool) (start stop number : ℕ)
    (buffer : IsBuffer bytes filled scanned place ended start stop number) where
  -- after a pull
  pub IsBuffer-pulled : (bytes' : List ℕ) (filled' : ℕ) (ended' : Bool) →
      take filled bytes' ≡ take filled bytes → length bytes' ≡ length bytes →
      filled ≤ filled' → filled' ≤ 1048577 → (ended' ≡ true → filled' ≤ 1048576) →
      IsBuffer bytes' filled' scanned place ended' start stop number
  IsBuffer-pulled bytes' filled' ended' kept size low high over = record {
    size = size ∙ buffer.size;
    fits = high;
    behind = omega (arith, buffer.behind);
    limit = buffer.limit;
    before = buffer.before;
    searched = rw (take-shorter bytes' bytes filled scanned buffer.behind kept) buffer.searched;
    text = buffer.text;
    past = buffer.past;
    counted = buffer.counted;
    over = over;
  }

  -- after a search that found no newline up to `end`
  pub IsBuffer-scanned : (end : ℕ) → end ≡ min filled 1048576 →
      HasNoNewline (drop scanned (take end bytes)) →
      IsBuffer bytes filled end place ended start stop number
  IsBuffer-scanned end is none = record {
    size = buffer.size;
    fits = buffer.fits;
    behind = omega arith;
    limit = omega arith;
    before = omega (arith, buffer.before, buffer.behind, buffer.limit);
    searched = HasNoNewline-joined bytes place scanned end buffer.searched none;
    text = buffer.text;
    past = buffer.past;
    counted = buffer.counted;
    over = buffer.over;
  }

  module _ (r : Reading) (has : r.pulled ≡ take filled bytes) (at : r.place ≡ place) where
    -- a search that found no newline
    pub search-none : (end : ℕ) → end ≡ min filled 1048576 →
        HasNoNewline (drop scanned (take end bytes)) →
        HasNoNewline (drop r.place (take 1048576 r.pulled))
    search-none end is none =
        let all = HasNoNewline-joined bytes place scanned end buffer.searched none in
        rw (has, at) (from_places (take filled bytes) place 1048576 (λ k low high within here.
        let l : length (take filled bytes) ≡ min filled (length bytes) = length-take filled bytes in
        let same : get_or (take filled bytes) k 0 ≡ get_or bytes k 0 = get_or-take filled bytes k 0 (omega arith) in
        at_place bytes place end all k low (omega arith) (omega arith) (sym same ∙ here)))

    -- a search that found a newline at k
    pub search-some : (end k : ℕ) → end ≡ min filled 1048576 → scanned ≤ k → k < end →
        get_or bytes k 0 ≡ 10 → HasNoNewline (drop scanned (take k bytes)) → EndsBefore r k
    search-some end k is low high newline none =
        let all = HasNoNewline-joined bytes place scanned k buffer.searched none in
        let l : length (take filled bytes) ≡ min filled (length bytes) = length-take filled bytes in
        let k_filled : k < filled = omega arith in
        record {
          from = omega (arith, at, buffer.before);
          within = rw has (omega (arith, buffer.size));
          limit = omega arith;
          newline = rw has (get_or-take filled bytes k 0 k_filled ∙ newline);
          first = rw (has, at) (rw (take-take k filled bytes (omega arith)) all);
        }

-- what a pull took from the bytes left
pub TakesBytes-some : (left left' : Option (List ℕ)) (into : List ℕ) (n : ℕ) →
    MovesBytes left left' into (pulled.Bytes n) → TakesBytes left left' (take n into)
TakesBytes-some None left' into n moves = moves
TakesBytes-some (Some bytes) left' into n moves =
    let split : bytes ≡ take n bytes ++ drop n bytes = sym (take-append-drop n bytes) in
    (drop n bytes, moves.1, split ∙ ap (λ (xs : List ℕ). xs ++ drop n bytes) (sym moves.2))

pub TakesBytes-end : (left left' : Option (List ℕ)) (into : List ℕ) →
    MovesBytes left left' into pulled.End → TakesBytes left left' []
TakesBytes-end None left' into moves = moves
TakesBytes-end (Some bytes) left' into moves = (bytes, moves.0, refl)

pub TakesBytes-failed : (left left' : Option (List ℕ)) (into : List ℕ) →
    MovesBytes left left' into pulled.Failed → TakesBytes left left' []
TakesBytes-failed None left' into moves = moves
TakesBytes-failed (Some bytes) left' into moves = (bytes, moves, refl)

-- some bytes and then some more
pub TakesBytes-joined : (a b d : Option (List ℕ)) (one two : List ℕ) →
    TakesBytes a b one → TakesBytes b d two → TakesBytes a d (one ++ two)
TakesBytes-joined None None d one two first second = second
TakesBytes-joined None (Some bytes) d one two first second = cc
TakesBytes-joined (Some bytes) None d one two first second = let e = first.1 in cc
TakesBytes-joined (Some bytes) (Some more) d one two first second =
    let e : Some more ≡ Some first.0 = first.1 in
    let f : bytes ≡ one ++ first.0 = first.2 in
    let h : more ≡ two ++ second.0 = second.2 in
    let a : (one ++ two) ++ second.0 ≡ one ++ (two ++ second.0) = append_assoc one two second.0 in
    (second.0, second.1, cc)

-- a vector that was written through a slice of its whole length
pub written_back : (xs ys : List ℕ) (n : ℕ) → n ≡ length xs → take n (xs ++ ys) ≡ xs
written_back xs ys n is = take_at xs ys n (sym is)

-- pulled bytes that go on by what a pull put behind them
pub PullsMore-some : (old new : List ℕ) (left left' : Option (List ℕ)) (items bytes : List ℕ) (filled n : ℕ) →
    old ≡ take filled items → take filled bytes ≡ take filled items → new ≡ take (filled + n) bytes →
    MovesBytes left left' (drop filled bytes) (pulled.Bytes n) →
    (more : List ℕ) × (new ≡ old ++ more) × TakesBytes left left' more
PullsMore-some old new left left' items bytes filled n was kept is moves =
    let more : List ℕ = take n (drop filled bytes) in
    let split : take (filled + n) bytes ≡ take filled bytes ++ more = take-add filled n bytes in
    let first : take filled bytes ++ more ≡ old ++ more = ap (λ (xs : List ℕ). xs ++ more) (kept ∙ sym was) in
    (more, is ∙ (split ∙ first), TakesBytes-some left left' (drop filled bytes) n moves)

-- pulled bytes that stay
pub PullsMore-none : (old new : List ℕ) (left left' : Option (List ℕ)) (items : List ℕ) (filled : ℕ) →
    old ≡ take filled items → new ≡ take filled items → TakesBytes left left' [] →
    (more : List ℕ) × (new ≡ old ++ more) × TakesBytes left left' more
PullsMore-none old new left left' items filled was is takes =
    ([], is ∙ (sym was ∙ sym (append-nil old)), takes)
