-- A text that is written piece by piece.
use Rattle.std.proofs.Common.{◌≡◌, ℕ, ◌+◌, ◌≤◌, List, [], ◌++◌, length, take, Option, Some, None, refl, sym, ◌∙◌, ap}
use Rattle.std.proofs.Common.{subst, append_assoc, arith}
use Rattle.std.proofs.lemmas.List.{append-nil, length-append, take-append-le}
use Rattle.std.proofs.lemmas.Option.{none-some, same_Some}
use Rattle.std.proofs.Math.Seq.{take-append-add}
use Rattle.std.specs.Prelude.{Result, Ok, Err}
use Rattle.std.specs.Result.{IsErr}
use mathlib.Core.Bool.{true≢false}
use Rattle.ports.specs.Bytes.{WritesAll, WritesPart}
use Rattle.ports.specs.Faults.{Rose}
use Rattle.printer.specs.Buffered.{Buffered}
use Rattle.printer.specs.Wrote.{Wrote}

-- of what was held at first and the whole text the rest is left to be put behind what is kept now, and no fault was
-- counted
pub record IsLeft (old now : Option (List ℕ)) (before count : ℕ) (held kept whole rest : List ℕ) : Type 0 where
  pub so_far : List ℕ
  pub written : WritesAll old now so_far
  pub calm : count ≡ before
  pub is : so_far ++ (kept ++ rest) ≡ held ++ whole

-- nothing is written
writes-nothing : (old : Option (List ℕ)) → WritesAll old old []
writes-nothing None = refl
writes-nothing (Some bytes) = ap (λ (l : List ℕ). Some l) (sym (append-nil bytes))

-- a piece behind others
writes-more : (old mid now : Option (List ℕ)) (first piece : List ℕ) → WritesAll old mid first
    → WritesAll mid now piece → WritesAll old now (first ++ piece)
writes-more None None now first piece one two = two
writes-more None (Some b) now first piece one two = absurd (none-some b (sym one))
writes-more (Some a) None now first piece one two = absurd (none-some (a ++ first) one)
writes-more (Some a) (Some b) now first piece one two = two
    ∙ ap (λ (l : List ℕ). Some (l ++ piece)) (same_Some b (a ++ first) one)
    ∙ ap (λ (l : List ℕ). Some l) (append_assoc a first piece)

-- a part of a piece behind others
writes-part : (old mid now : Option (List ℕ)) (first piece rest : List ℕ) → WritesAll old mid first
    → WritesPart mid now piece → WritesPart old now (first ++ (piece ++ rest))
writes-part None None now first piece rest one two = two
writes-part None (Some b) now first piece rest one two = absurd (none-some b (sym one))
writes-part (Some a) None now first piece rest one two = absurd (none-some (a ++ first) one)
writes-part (Some a) (Some b) now first piece rest one two = (
  length first + two.0,
  omega (arith, two.1, length-append first (piece ++ rest), length-append piece rest),
  two.2 ∙ ap (λ (l : List ℕ). Some (l ++ take two.0 piece)) (same_Some b (a ++ first) one)
      ∙ ap (λ (l : List ℕ). Some l) (append_assoc a first (take two.0 piece)
      ∙ ap (λ (l : List ℕ). a ++ l) (ap (λ (l : List ℕ). first ++ l)
      (sym (take-append-le two.0 piece rest (omega (arith, two.1))))
      ∙ sym (take-append-add first (piece ++ rest) two.0))),
)

-- at first all is left
pub start : {held : List ℕ} (old : Option (List ℕ)) (before : ℕ) (whole : List ℕ)
    → IsLeft old old before before held held whole whole
start old before whole = record { so_far = []; written = writes-nothing old; calm = refl; is = refl }

-- the same in other groups
pub regroup : {old now : Option (List ℕ)} {before count : ℕ} {held kept whole rest other : List ℕ}
    → IsLeft old now before count held kept whole rest → rest ≡ other
    → IsLeft old now before count held kept whole other
regroup left same = subst (IsLeft _ _ _ _ _ _ _) same left

-- a piece was put behind what is kept
pub lay : {old now : Option (List ℕ)} {before count : ℕ} {held kept more whole : List ℕ} (piece rest : List ℕ)
    → more ≡ kept ++ piece → IsLeft old now before count held kept whole (piece ++ rest)
    → IsLeft old now before count held more whole rest
lay {kept = kept} piece rest same left = record {
  so_far = left.so_far;
  written = left.written;
  calm = left.calm;
  is = ap (λ (l : List ℕ). left.so_far ++ l) (ap (λ (l : List ℕ). l ++ rest) same ∙ append_assoc kept piece rest)
      ∙ left.is;
}

-- a call that passed on a piece
pub step : {A E : Type 0} {old mid now : Option (List ℕ)} {before middle count : ℕ}
    {held kept more whole piece : List ℕ} {x : A} (rest : List ℕ)
    → Buffered {A = A} {E = E} (Ok x) mid now kept more middle count piece
    → IsLeft old mid before middle held kept whole (piece ++ rest) → IsLeft old now before count held more whole rest
step {kept = kept} {more = more} {piece = piece} rest call left =
    let sent = call.ok.sent in
    record {
      so_far = left.so_far ++ sent;
      written = writes-more _ _ _ left.so_far sent left.written call.ok.written;
      calm = call.no_fault ∙ left.calm;
      is = append_assoc left.so_far sent (more ++ rest) ∙ ap (λ (l : List ℕ). left.so_far ++ l)
          (sym (append_assoc sent more rest) ∙ ap (λ (l : List ℕ). l ++ rest) call.ok.is
          ∙ append_assoc kept piece rest) ∙ left.is;
    }

-- all was passed on
pub done : {A E : Type 0} {old now : Option (List ℕ)} {before count : ℕ} {held kept whole : List ℕ} (x : A)
    → IsLeft old now before count held kept whole []
    → Buffered {A = A} {E = E} (Ok x) old now held kept before count whole
done {kept = kept} x left = record {
  ok = record {
    sent = left.so_far;
    written = left.written;
    is = ap (λ (l : List ℕ). left.so_far ++ l) (sym (append-nil kept)) ∙ left.is;
  };
  no_fault = left.calm;
  err = tt;
  fault = tt;
  faults = same_at_most _ _ left.calm;
}
  where
    same_at_most : (a b : ℕ) → a ≡ b → b ≤ a
    same_at_most a b e = omega arith

-- a call that failed within a piece
pub fault : {A B E F : Type 0} {old mid now : Option (List ℕ)} {before middle count : ℕ}
    {held kept more other whole piece : List ℕ} {e : E} (rest : List ℕ) (r : Result B F)
    → Buffered {A = A} {E = E} (Err e) mid now kept more middle count piece
    → IsLeft old mid before middle held kept whole (piece ++ rest) → IsErr r
    → Buffered r old now held other before count whole
fault rest (Ok x) call left is = absurd (true≢false (sym is))
fault {old = old} {mid = mid} {now = now} {count = count} {kept = kept} {piece = piece} rest (Err f) call left is =
    record {
      ok = tt;
      no_fault = tt;
      err = subst (WritesPart old now) (ap (λ (l : List ℕ). left.so_far ++ l) (append_assoc kept piece rest) ∙ left.is)
          (writes-part old mid now left.so_far (kept ++ piece) rest left.written call.err);
      fault = subst (λ n. Rose n count) left.calm call.fault;
      faults = subst (λ n. n ≤ count) left.calm call.faults;
    }

-- the last call, and whether it failed
pub last : {A E : Type 0} {old mid now : Option (List ℕ)} {before middle count : ℕ}
    {held kept more whole piece : List ℕ} (r : Result A E) → Buffered r mid now kept more middle count piece
    → IsLeft old mid before middle held kept whole piece → Buffered r old now held more before count whole
last {piece = piece} (Ok x) call left = done x (step [] call (regroup left (sym (append-nil piece))))
last {piece = piece} (Err e) call left = fault [] (Err e) call (regroup left (sym (append-nil piece))) refl

-- a flush
pub flushed : {A E : Type 0} {old now : Option (List ℕ)} {before count : ℕ} {held kept : List ℕ} (r : Result A E)
    → Wrote r old now before count held → kept ≡ [] → Buffered r old now held kept before count []
flushed {held = held} (Ok x) call none = record {
  ok = record { sent = held; written = call.ok; is = ap (λ (l : List ℕ). held ++ l) none };
  no_fault = call.no_fault;
  err = tt;
  fault = tt;
  faults = call.faults;
}
flushed {old = old} {now = now} {held = held} (Err e) call none = record {
  ok = tt;
  no_fault = tt;
  err = subst (WritesPart old now) (sym (append-nil held)) call.err;
  fault = call.fault;
  faults = call.faults;
}

-- a text that was passed on, and a flush behind it
pub whole : {A B E F : Type 0} {old mid now : Option (List ℕ)} {before middle count : ℕ} {held kept text : List ℕ}
    {x : A} (r : Result B F) → held ≡ [] → Buffered {A = A} {E = E} (Ok x) old mid held kept before middle text
    → Wrote r mid now middle count kept → Wrote r old now before count text
whole {old = old} {now = now} {text = text} (Ok y) none call flush = record {
  ok = subst (WritesAll old now) (call.ok.is ∙ ap (λ (l : List ℕ). l ++ text) none)
      (writes-more _ _ _ call.ok.sent _ call.ok.written flush.ok);
  no_fault = flush.no_fault ∙ call.no_fault;
  err = tt;
  fault = tt;
  faults = at_most _ _ _ call.faults flush.faults;
}
  where
    at_most : (a b c : ℕ) → a ≤ b → b ≤ c → a ≤ c
    at_most a b c p q = omega arith
whole {old = old} {mid = mid} {now = now} {count = count} {kept = kept} {text = text} (Err e) none call flush = record {
  ok = tt;
  no_fault = tt;
  err = subst (WritesPart old now) (ap (λ (l : List ℕ). call.ok.sent ++ l) (append-nil kept) ∙ call.ok.is
      ∙ ap (λ (l : List ℕ). l ++ text) none)
      (writes-part old mid now call.ok.sent kept [] call.ok.written flush.err);
  fault = subst (λ n. Rose n count) call.no_fault flush.fault;
  faults = subst (λ n. n ≤ count) call.no_fault flush.faults;
}

-- a text within which a call failed
pub failed : {A B E F : Type 0} {old now : Option (List ℕ)} {before count : ℕ} {held kept text : List ℕ} {e : E}
    (r : Result B F) → held ≡ [] → Buffered {A = A} {E = E} (Err e) old now held kept before count text → IsErr r
    → Wrote r old now before count text
failed (Ok x) none call is = absurd (true≢false (sym is))
failed {old = old} {now = now} {text = text} (Err f) none call is = record {
  ok = tt;
  no_fault = tt;
  err = subst (WritesPart old now) (ap (λ (l : List ℕ). l ++ text) none) call.err;
  fault = call.fault;
  faults = call.faults;
}

-- two values that moved
pub moved : {A B : Type 0} (P : A → B → Type 0) {a a' : A} {b b' : B} → a ≡ a' → b ≡ b' → P a b → P a' b'
moved {A = A} {B = B} P e f x = subst (λ (p : A × B). P p.0 p.1) (λ i. (e i, f i)) x
