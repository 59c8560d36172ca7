-- From a run over tokens with their places to what is said of a whole text.
use Rattle.std.proofs.Common.{◌≡◌, ◌∙◌, sym, ap, subst, refl, ℕ, zero, suc, ◌+◌, ◌<◌, Bool, true, false, ◌&&◌, cond}
use Rattle.std.proofs.Common.{List, [], ◌∷◌, ◌++◌, length, take, get_or, map, Result, Ok, Err, inl, inr}
use Rattle.std.proofs.Math.Seq.{take-suc}
use Rattle.ps_model.specs.Tokens.{Token, Placed, is_end, tokens, is_blank, token_at, more_bytes, before_end}
use Rattle.ps_model.specs.Tokens.{tokens_of, without_blanks, is_empty}
use Rattle.ps_model.specs.Tokens as tok
use Rattle.ps_model.specs.FirstFault.{Fault, as_operand, Passes, Fails, IsFirstFaultOf, IsFirstFault, Reads, Tested}
use Rattle.ps_model.specs.FirstFault.{BeginsToken, IsAllowed, IsKnown, IsSmallNumber, IsSmallExponent, IsShallow}
use Rattle.ps_model.specs.FirstFault as err
use Rattle.ps_model.specs.declared.expr.Expr.{Expr}
use Rattle.ps_model.specs.Grammar.{IsExpression}
use Rattle.grammar.specs.Machine.{start, run}
use Rattle.grammar.proofs.Run.{AllPass, EndsOnce, Outcome, outcome, not_both}
use Rattle.grammar.proofs.Complete.{one_tree}
use Rattle.std.specs.Prelude.{◌↔◌}
use Rattle.grammar.proofs.Lexed.{token_at-is_end}

ends_more : (p : Placed) (ps : List Placed) → is_end p.token ≡ false → EndsOnce ps → EndsOnce (p ∷ ps)
ends_more p [] h e = absurd e
ends_more p (q ∷ ps) h e = (h, e)

ends_cond : (b : Bool) (ps qs : List Placed) → EndsOnce ps → EndsOnce qs → EndsOnce (cond b ps qs)
ends_cond true ps qs h k = h
ends_cond false ps qs h k = k

pub tokens_end : (names : List (List ℕ)) (place skip : ℕ) (bs : List ℕ) → EndsOnce (tokens names place skip bs)
tokens_end names place zero [] = refl
tokens_end names place (suc skip) [] = refl
tokens_end names place (suc skip) (b ∷ bs) = tokens_end names (place + 1) skip bs
tokens_end names place zero (b ∷ bs) =
    ends_cond (is_blank b) _ _ (tokens_end names (place + 1) 0 bs)
    (ends_more (record { place = place; token = token_at names b bs }) (tokens names (place + 1) (more_bytes b bs) bs)
    (token_at-is_end names b bs) (tokens_end names (place + 1) (more_bytes b bs) bs))

-- Tokens that pass need no mending.
plain_token : (before : List Token) (t : Token) → Passes before t → as_operand t ≡ t
plain_token before tok.TooLarge p = absurd (p.exponent p.number)
plain_token before tok.UnknownName p = absurd p.known
plain_token before t p = refl

plain_cond : (b : Bool) (t : Token) (ts : List Token) → as_operand t ≡ t → map as_operand ts ≡ ts → map as_operand
    (cond b [] (t ∷ ts)) ≡ cond b [] (t ∷ ts)
plain_cond true t ts h k = refl
plain_cond false t ts h k = cc

plain_body : (before : List Token) (ps : List Placed) → AllPass before ps → map as_operand
    (before_end ps) ≡ before_end ps
plain_body before [] h = refl
plain_body before (p ∷ ps) h = plain_cond (is_end p.token) p.token (before_end ps) (plain_token before p.token h.0)
    (plain_body (before ++ p.token ∷ []) ps h.1)

no_fault : (before : List Token) (ps : List Placed) (f : Fault) → AllPass before ps → IsFirstFaultOf before ps f → ⊥
no_fault before [] f h k = k
no_fault before (p ∷ ps) f h (inl k) = not_both before p f h.0 k
no_fault before (p ∷ ps) f h (inr k) = no_fault (before ++ p.token ∷ []) ps f h.1 k.1

-- a test and those behind it give one fault
one_test : (Test : Type 0) (fault : Fault) (Later : Fault → Type 0) (f g : Fault) → (Later f → Later g → f ≡ g) →
    Tested Test fault Later f → Tested Test fault Later g → f ≡ g
one_test Test fault Later f g later (inl h) (inl k) = h.1 ∙ sym k.1
one_test Test fault Later f g later (inl h) (inr k) = absurd (h.0 k.0)
one_test Test fault Later f g later (inr h) (inl k) = absurd (k.0 h.0)
one_test Test fault Later f g later (inr h) (inr k) = later h.1 k.1

-- the tests from the second, the third .. on
abbrev from_shallow : List Token → Placed → Fault → Type 0
from_shallow before p = Tested (IsShallow before p.token) (err.TooDeep p.place) (λ _. ⊥)

abbrev from_exponent : List Token → Placed → Fault → Type 0
from_exponent before p =
    Tested (IsSmallExponent before p.token) (err.ExponentTooLarge p.place) (from_shallow before p)

abbrev from_number : List Token → Placed → Fault → Type 0
from_number before p = Tested (IsSmallNumber before p.token) (err.NumberTooLarge p.place) (from_exponent before p)

abbrev from_known : List Token → Placed → Fault → Type 0
from_known before p = Tested (IsKnown p.token) (err.UnknownName p.place) (from_number before p)

abbrev from_allowed : List Token → Placed → Fault → Type 0
from_allowed before p = Tested (IsAllowed before p.token) (err.Expected p.place) (from_known before p)

one_failure : (before : List Token) (p : Placed) (f g : Fault) → Fails before p f → Fails before p g → f ≡ g
one_failure before p f g =
    one_test (BeginsToken p.token) (err.BadCharacter p.place) (from_allowed before p) f g (
    one_test (IsAllowed before p.token) (err.Expected p.place) (from_known before p) f g (
    one_test (IsKnown p.token) (err.UnknownName p.place) (from_number before p) f g (
    one_test (IsSmallNumber before p.token) (err.NumberTooLarge p.place) (from_exponent before p) f g (
    one_test (IsSmallExponent before p.token) (err.ExponentTooLarge p.place) (from_shallow before p) f g (
    one_test (IsShallow before p.token) (err.TooDeep p.place) (λ _. ⊥) f g (λ h k. absurd h))))))

-- a text has at most one first fault
pub one_fault : (before : List Token) (ps : List Placed) (f g : Fault) →
    IsFirstFaultOf before ps f → IsFirstFaultOf before ps g → f ≡ g
one_fault before [] f g h k = absurd h
one_fault before (p ∷ ps) f g (inl h) (inl k) = one_failure before p f g h k
one_fault before (p ∷ ps) f g (inl h) (inr k) = absurd (not_both before p f k.0 h)
one_fault before (p ∷ ps) f g (inr h) (inl k) = absurd (not_both before p g h.0 k)
one_fault before (p ∷ ps) f g (inr h) (inr k) = one_fault (before ++ p.token ∷ []) ps f g h.1 k.1

-- what the machine answers for a text
abbrev pub answered : List (List ℕ) → List ℕ → Result Expr Fault
answered names text = run (start []) (tokens_of names text)

abbrev pub Answers : List (List ℕ) → List ℕ → Result Expr Fault → Type 0
Answers names text (Ok e) = Reads names text e
Answers names text (Err f) = IsFirstFault names text f

from_outcome : (names : List (List ℕ)) (text : List ℕ) (ran : Result Expr Fault) →
    Outcome [] (tokens_of names text) ran → Answers names text ran
from_outcome names text (Ok e) o = record {
  no_fault = λ f k. no_fault [] (tokens_of names text) f o.0 k;
  spelled = subst (λ (ts : List Token). IsExpression ts e) (plain_body [] (tokens_of names text) o.0) o.1;
}
from_outcome names text (Err f) o = o

pub answers : (names : List (List ℕ)) (text : List ℕ) → Answers names text (answered names text)
answers names text = from_outcome names text (answered names text)
    (outcome (tokens_of names text) (tokens_end names 0 0 (without_blanks text)))

-- the answer is the one that the definitions ask for
only_tree : (names : List (List ℕ)) (text : List ℕ) (ran : Result Expr Fault) (e : Expr) →
    Answers names text ran → Reads names text e → ran ≡ Ok e
only_tree names text (Ok x) e h r = ap Ok (one_tree h.spelled r.spelled)
only_tree names text (Err f) e h r = absurd (r.no_fault f h)

only_fault : (names : List (List ℕ)) (text : List ℕ) (ran : Result Expr Fault) (f : Fault) →
    Answers names text ran → IsFirstFault names text f → ran ≡ Err f
only_fault names text (Ok x) f h k = absurd (h.no_fault f k)
only_fault names text (Err g) f h k = ap Err (one_fault [] (tokens_of names text) g f h k)

pub tree_answered : (names : List (List ℕ)) (text : List ℕ) (e : Expr) →
    (answered names text ≡ Ok e) ↔ Reads names text e
tree_answered names text e = (
  λ h. subst (λ (r : Result Expr Fault). Answers names text r) h (answers names text),
  λ r. only_tree names text (answered names text) e (answers names text) r,
)

pub fault_answered : (names : List (List ℕ)) (text : List ℕ) (f : Fault) →
    (answered names text ≡ Err f) ↔ IsFirstFault names text f
fault_answered names text f = (
  λ h. subst (λ (r : Result Expr Fault). Answers names text r) h (answers names text),
  λ k. only_fault names text (answered names text) f (answers names text) k,
)

-- Blanks at the end of a text.
without_blanks-blank : (xs : List ℕ) (b : ℕ) → is_blank b ≡ true → without_blanks (xs ++ b ∷ []) ≡ without_blanks xs
without_blanks-blank [] b h = ap (λ (x : Bool). cond (x && true) [] (b ∷ [])) h
without_blanks-blank (x ∷ xs) b h = ap (λ (ys : List ℕ). cond (is_blank x && is_empty ys) [] (x ∷ ys))
    (without_blanks-blank xs b h)

keeps_last : (x : ℕ) (xs : List ℕ) (b : ℕ) → cond (is_blank x && is_empty (xs ++ b ∷ [])) [] (x ∷ (xs ++ b ∷ [])) ≡ x ∷
    (xs ++ b ∷ [])
keeps_last x [] b = elim (is_blank x) as (λ v. cond (v && false) []
    (x ∷ b ∷ []) ≡ x ∷ b ∷ []) [ true ↦ refl | false ↦ refl ]
keeps_last x (y ∷ ys) b = elim (is_blank x) as (λ v. cond (v && false) [] (x ∷ y ∷ (ys ++ b ∷ [])) ≡ x ∷ y ∷
    (ys ++ b ∷ [])) [ true ↦ refl | false ↦ refl ]

pub without_blanks-seen : (xs : List ℕ) (b : ℕ) → is_blank b ≡ false → without_blanks (xs ++ b ∷ []) ≡ xs ++ b ∷ []
without_blanks-seen [] b h = ap (λ (x : Bool). cond (x && true) [] (b ∷ [])) h
without_blanks-seen (x ∷ xs) b h = ap (λ (ys : List ℕ). cond (is_blank x && is_empty ys) [] (x ∷ ys))
    (without_blanks-seen xs b h) ∙ keeps_last x xs b

pub trimmed_step : (text : List ℕ) (n : ℕ) → n < length text → is_blank (get_or text n 0) ≡ true → without_blanks
    (take n text) ≡ without_blanks (take (suc n) text)
trimmed_step text n within h = sym (ap without_blanks (take-suc text n 0 within) ∙ without_blanks-blank (take n text)
    (get_or text n 0) h)

pub trimmed_stop : (text : List ℕ) (n : ℕ) → n < length text → is_blank (get_or text n 0) ≡ false → without_blanks
    (take (suc n) text) ≡ take (suc n) text
trimmed_stop text n within h = ap without_blanks (take-suc text n 0 within) ∙ without_blanks-seen (take n text)
    (get_or text n 0) h ∙ sym (take-suc text n 0 within)
