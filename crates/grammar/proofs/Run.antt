-- What a run answers: the tree of tokens that all pass, or the fault of the first that fails.
use Rattle.std.proofs.Common.{◌≡◌, ◌∙◌, sym, ap, subst, refl, ℕ, ◌<◌, ◌≤◌, Bool, true, false, cond, List, [], ◌∷◌}
use Rattle.std.proofs.Common.{◌++◌, append_assoc, append-nil, map, Option, Some, None, Result, Ok, Err, inl, inr}
use Rattle.std.proofs.Common.{nat_le, nat_lt, arith}
use Rattle.std.proofs.lemmas.Grind.{common_steps}
use Rattle.ps_model.specs.Tokens.{Token, Placed, is_end, before_end}
use Rattle.ps_model.specs.Tokens as tok
use Rattle.ps_model.specs.FirstFault.{Fault, as_operand, BeginsToken, IsAllowed, IsKnown, IsSmallNumber}
use Rattle.ps_model.specs.FirstFault.{IsSmallExponent, IsShallow, Passes, Fails, IsFirstFaultOf}
use Rattle.ps_model.specs.FirstFault as err
use Rattle.ps_model.specs.declared.expr.Expr.{Expr}
use Rattle.ps_model.specs.Grammar.{IsExpression}
use Rattle.grammar.specs.Machine.{State, start, operand, based, exponent, powered, termed, whole, step, finish, depth}
use Rattle.grammar.specs.Machine.{broken, refusal, judged, next, answer, go_on, run}
use Rattle.grammar.proofs.Prefixes.{Reached, is_exponent, nothing_read, one_more, stays_prefix, no_prefix, whole_read}
use Rattle.grammar.proofs.Prefixes.{not_whole}

abbrev pub AllPass : List Token → List Placed → Type 0
AllPass before [] = Unit {0}
AllPass before (p ∷ ps) = Passes before p.token × AllPass (before ++ p.token ∷ []) ps

-- the end is the last token, and no other is
abbrev pub EndsOnce : List Placed → Type 0
EndsOnce [] = ⊥
EndsOnce (p ∷ []) = is_end p.token ≡ true
EndsOnce (p ∷ q ∷ ps) = (is_end p.token ≡ false) × EndsOnce (q ∷ ps)

abbrev FailsAt : List Token → ℕ → Token → Fault → Type 0
FailsAt before place t f = Fails before (record { place = place; token = t }) f

-- the first test that a token fails
module _ (before : List Token) (place : ℕ) (t : Token) where
  fails_begins : (BeginsToken t → ⊥) → FailsAt before place t (err.BadCharacter place)
  fails_begins n = inl (n, refl)

  fails_allowed : BeginsToken t → (IsAllowed before t → ⊥) → FailsAt before place t (err.Expected place)
  fails_allowed a n = inr (a, inl (n, refl))

  fails_known : BeginsToken t → IsAllowed before t → (IsKnown t → ⊥) → FailsAt before place t (err.UnknownName place)
  fails_known a b n = inr (a, inr (b, inl (n, refl)))

  fails_number : BeginsToken t → IsAllowed before t → IsKnown t → (IsSmallNumber before t → ⊥) →
      FailsAt before place t (err.NumberTooLarge place)
  fails_number a b c n = inr (a, inr (b, inr (c, inl (n, refl))))

  fails_exponent : BeginsToken t → IsAllowed before t → IsKnown t → IsSmallNumber before t →
      (IsSmallExponent before t → ⊥) → FailsAt before place t (err.ExponentTooLarge place)
  fails_exponent a b c d n = inr (a, inr (b, inr (c, inr (d, inl (n, refl)))))

  fails_shallow : BeginsToken t → IsAllowed before t → IsKnown t → IsSmallNumber before t → IsSmallExponent before t →
      (IsShallow before t → ⊥) → FailsAt before place t (err.TooDeep place)
  fails_shallow a b c d e n = inr (a, inr (b, inr (c, inr (d, inr (e, inl (n, refl))))))

-- a token that passes fails no test
pub not_both : (before : List Token) (p : Placed) (f : Fault) → Passes before p.token → Fails before p f → ⊥
not_both before p f h (inl n) = n.0 h.begins
not_both before p f h (inr (_, inl n)) = n.0 h.allowed
not_both before p f h (inr (_, inr (_, inl n))) = n.0 h.known
not_both before p f h (inr (_, inr (_, inr (_, inl n)))) = n.0 h.number
not_both before p f h (inr (_, inr (_, inr (_, inr (_, inl n))))) = n.0 h.exponent
not_both before p f h (inr (_, inr (_, inr (_, inr (_, inr (_, inl n)))))) = n.0 h.shallow
not_both before p f h (inr (_, inr (_, inr (_, inr (_, inr (_, inr n)))))) = n.1

abbrev pub Outcome : List Token → List Placed → Result Expr Fault → Type 0
Outcome before ps (Ok e) = AllPass before ps × IsExpression (map as_operand (before ++ before_end ps)) e
Outcome before ps (Err f) = IsFirstFaultOf before ps f

-- the end of the text
ended : (before : List Token) (s : State) (place : ℕ) (o : Option Expr) → Reached before s → finish s ≡ o →
    Outcome before (record { place = place; token = tok.End } ∷ []) (answer place o)
ended before s place None r e = inl (fails_allowed before place tok.End tt (not_whole before s r e))
ended before s place (Some x) r e =
    let spelled = whole_read before s x r e in (
      (record { begins = tt; allowed = (x, spelled); known = tt; number = tt; exponent = tt; shallow = tt }, tt),
      subst
          (λ (ts : List Token). IsExpression (map as_operand ts) x) (sym (append-nil before)) spelled,
    )

at_end : (before : List Token) (s : State) (place : ℕ) (t : Token) → Reached before s → is_end t ≡ true →
    Outcome before (record { place = place; token = t } ∷ []) (run s (record { place = place; token = t } ∷ []))
at_end before s place tok.End r h = ended before s place (finish s) r refl
at_end before s place t r h = absurd (cc h)

-- a token that the grammar doesn't allow
refused : (before : List Token) (s : State) (place : ℕ) (t : Token) → Reached before s → is_end t ≡ false → step s
    (as_operand t) ≡ None → FailsAt before place t (refusal place t)
refused before s place tok.End r h e = absurd (cc h)
refused before s place tok.Bad r h e = fails_begins before place tok.Bad (λ b. b)
refused before s place t r h e = fails_allowed before place t tt (no_prefix before s t r e)

begins_taken : (s : State) (t : Token) (n : State) → step s (as_operand t) ≡ Some n → BeginsToken t
begins_taken (start o) tok.Bad n e = cc e
begins_taken (operand fr o) tok.Bad n e = cc e
begins_taken (based x fr (f ∷ o)) tok.Bad n e = cc e
begins_taken (based x fr []) tok.Bad n e = cc e
begins_taken (exponent x fr o) tok.Bad n e = cc e
begins_taken (powered gs ss m (f ∷ o)) tok.Bad n e = cc e
begins_taken (powered gs ss m []) tok.Bad n e = cc e
begins_taken (termed ss (f ∷ o)) tok.Bad n e = cc e
begins_taken (termed ss []) tok.Bad n e = cc e
begins_taken (whole x (f ∷ o)) tok.Bad n e = cc e
begins_taken (whole x []) tok.Bad n e = cc e
begins_taken s t n e = tt

allowed_taken : (before : List Token) (s : State) (t : Token) (n : State) → Reached before s → is_end t ≡ false →
    step s (as_operand t) ≡ Some n → IsAllowed before t
allowed_taken before s tok.End n r h e = absurd (cc h)
allowed_taken before s t n r h e = stays_prefix before s n t r e

pub unknown_name : (s : State) (place : ℕ) → broken s place tok.UnknownName ≡ Some (err.UnknownName place)
unknown_name (exponent x fr o) place = refl
unknown_name s place = refl

pub too_large : (s : State) (place : ℕ) → broken s place tok.TooLarge ≡ None → ⊥
too_large (exponent x fr o) place h = cc h
too_large s place h = cc h

number_small : (place n : ℕ) → cond (nat_le n 255) None (Some (err.ExponentTooLarge place)) ≡ None → n ≤ 255
number_small place n h = grind (arith, common_steps)

exponent_small : (s : State) (place n : ℕ) → broken s place (tok.Number n) ≡ None → is_exponent s ≡ true → n ≤ 255
exponent_small (exponent x fr o) place n h e = number_small place n h
exponent_small s place n h e = absurd (cc e)

depth_small : (place d : ℕ) → cond (nat_lt d 64) None (Some (err.TooDeep place)) ≡ None → d < 64
depth_small place d h = grind (arith, common_steps)

open_small : (s : State) (place : ℕ) (n : State) → broken s place tok.Open ≡ None → step s tok.Open ≡ Some n →
    depth s < 64
open_small (exponent x fr o) place n h e = absurd (cc e)
open_small s place n h e = depth_small place (depth s) h

-- a token that breaks no limit passes
passes : (before : List Token) (s : State) (place : ℕ) (t : Token) (n : State) → Reached before s → is_end t ≡ false →
    step s (as_operand t) ≡ Some n → broken s place t ≡ None → Passes before t
passes before s place t n r h e b = record {
  begins = begins_taken s t n e;
  allowed = allowed_taken before s t n r h e;
  known = known t b;
  number = number t b;
  exponent = exponent t b;
  shallow = shallow t e b;
}
  where
    known : (t : Token) → broken s place t ≡ None → IsKnown t
    known tok.UnknownName b = let p = sym (unknown_name s place) ∙ b in cc p
    known t b = tt

    number : (t : Token) → broken s place t ≡ None → IsSmallNumber before t
    number tok.TooLarge b = absurd (too_large s place b)
    number t b = tt

    exponent : (t : Token) → broken s place t ≡ None → IsSmallExponent before t
    exponent (tok.Number n) b = λ w. exponent_small s place n b (sym r.power ∙ w)
    exponent tok.TooLarge b = absurd (too_large s place b)
    exponent t b = tt

    shallow : (t : Token) → step s (as_operand t) ≡ Some n → broken s place t ≡ None → IsShallow before t
    shallow tok.Open e b = let d = open_small s place n b e in omega (arith, d, r.deep)
    shallow t e b = tt

number_big : (place n : ℕ) (f : Fault) → cond (nat_le n 255) None (Some (err.ExponentTooLarge place)) ≡ Some f →
    (err.ExponentTooLarge place ≡ f) × (n ≤ 255 → ⊥)
number_big place n f h = elim (nat_le n 255) as (λ b. nat_le n 255 ≡ b → cond b None
    (Some (err.ExponentTooLarge place)) ≡ Some f → (err.ExponentTooLarge place ≡ f) × (n ≤ 255 → ⊥))
    [ true ↦ λ e k. absurd (cc k) | false ↦ λ e k. (cc k, λ small. grind (arith, common_steps)) ] refl h

depth_big : (place d : ℕ) (f : Fault) → cond (nat_lt d 64) None (Some (err.TooDeep place)) ≡ Some f →
    (err.TooDeep place ≡ f) × (d < 64 → ⊥)
depth_big place d f h = elim (nat_lt d 64) as (λ b. nat_lt d 64 ≡ b → cond b None (Some (err.TooDeep place)) ≡ Some f →
    (err.TooDeep place ≡ f) × (d < 64 → ⊥))
    [ true ↦ λ e k. absurd (cc k) | false ↦ λ e k. (cc k, λ small. grind (arith, common_steps)) ] refl h

-- the limit that a token breaks is the first test that it fails
limits : (before : List Token) (s : State) (place : ℕ) (t : Token) (n : State) (f : Fault) → Reached before s →
    is_end t ≡ false → step s (as_operand t) ≡ Some n → broken s place t ≡ Some f → FailsAt before place t f
limits before (exponent x fr o) place (tok.Number k) n f r h e b =
    let big = number_big place k f b in
    subst (λ (g : Fault). FailsAt before place (tok.Number k) g) big.0
    (fails_exponent before place (tok.Number k) tt (stays_prefix before (exponent x fr o) n
    (tok.Number k) r e) tt tt (λ small. big.1 (small r.power)))
limits before (exponent x fr o) place tok.TooLarge n f r h e b =
    let same : err.ExponentTooLarge place ≡ f = cc b in
    subst (λ (g : Fault). FailsAt before place tok.TooLarge g) same
    (fails_exponent before place tok.TooLarge tt (stays_prefix before
    (exponent x fr o) n tok.TooLarge r e) tt r.power (λ small. small r.power))
limits before s place tok.UnknownName n f r h e b =
    let same : err.UnknownName place ≡ f = let p = sym (unknown_name s place) ∙ b in cc p in
    subst (λ (g : Fault). FailsAt before place tok.UnknownName g) same
    (fails_known before place tok.UnknownName tt (stays_prefix before s n tok.UnknownName r e) (λ w. w))
limits before (exponent x fr o) place tok.Open n f r h e b = absurd (cc e)
limits before (exponent x fr o) place t n f r h e b = absurd (cc b)
limits before s place tok.TooLarge n f r h e b =
    let same : err.NumberTooLarge place ≡ f = cc b in
    subst (λ (g : Fault). FailsAt before place tok.TooLarge g) same
    (fails_number before place tok.TooLarge tt (stays_prefix before s n tok.TooLarge r e) tt
    (λ w. let p = sym r.power ∙ w in cc p))
limits before s place tok.Open n f r h e b =
    let big = depth_big place (depth s) f b in
    subst (λ (g : Fault). FailsAt before place tok.Open g) big.0
    (fails_shallow before place tok.Open tt (stays_prefix before s n tok.Open r e) tt tt tt
    (λ small. let d = r.deep in big.1 (omega arith)))
limits before s place t n f r h e b = absurd (cc b)

body_more : (place : ℕ) (t : Token) (ps : List Placed) → is_end t ≡ false → before_end
    (record { place = place; token = t } ∷ ps) ≡ t ∷ before_end ps
body_more place t ps h = ap (λ (b : Bool). cond b [] (t ∷ before_end ps)) h

passed : (before : List Token) (place : ℕ) (t : Token) (ps : List Placed) (ran : Result Expr Fault) →
    is_end t ≡ false → Passes before t →
    Outcome (before ++ t ∷ []) ps ran → Outcome before (record { place = place; token = t } ∷ ps) ran
passed before place t ps (Ok e) h p o =
    let same : (before ++ t ∷ []) ++ before_end ps ≡ before ++ before_end (record { place = place; token = t } ∷ ps) =
    append_assoc before (t ∷ []) (before_end ps) ∙ ap (λ (y : List Token). before ++ y)
    (sym (body_more place t ps h)) in
    ((p, o.0), subst (λ (ts : List Token). IsExpression (map as_operand ts) e) same o.1)
passed before place t ps (Err f) h p o = inr (p, o)

-- a token before the end, whatever follows
module _ (before : List Token) (s : State) (place : ℕ) (t : Token) (ps : List Placed) (r : Reached before s)
    (h : is_end t ≡ false)
    (rest : (n : State) → Reached (before ++ t ∷ []) n → Outcome (before ++ t ∷ []) ps (run n ps)) where
  onward_by : (b : Option Fault) (m : Option State) → broken s place t ≡ b → step s (as_operand t) ≡ m →
      Outcome before (record { place = place; token = t } ∷ ps)
      (go_on (judged (refusal place t) b m) (λ (n : State). run n ps))
  onward_by b None eb em = inl (refused before s place t r h em)
  onward_by None (Some n) eb em = passed before place t ps (run n ps) h (passes before s place t n r h em eb)
      (rest n (one_more before s n t r em))
  onward_by (Some f) (Some n) eb em = inl (limits before s place t n f r h em eb)

  onward : Outcome before (record { place = place; token = t } ∷ ps) (run s (record { place = place; token = t } ∷ ps))
  onward = subst (λ (b : Bool). Outcome before (record { place = place; token = t } ∷ ps)
      (cond b (answer place (finish s)) (go_on (next s place t) (λ (n : State). run n ps)))) (sym h)
      (onward_by (broken s place t) (step s (as_operand t)) refl refl)

outcome_from : (ps : List Placed) (before : List Token) (s : State) → Reached before s → EndsOnce ps →
    Outcome before ps (run s ps)
outcome_from [] before s r ends = absurd ends
outcome_from (p ∷ []) before s r ends = at_end before s p.place p.token r ends
outcome_from (p ∷ q ∷ ps) before s r ends = onward before s p.place p.token (q ∷ ps) r ends.0
    (λ n k. outcome_from (q ∷ ps) (before ++ p.token ∷ []) n k ends.1)

-- what reading a whole text answers
pub outcome : (ps : List Placed) → EndsOnce ps → Outcome [] ps (run (start []) ps)
outcome ps ends = outcome_from ps [] (start []) nothing_read ends
