-- What the grammar allows is read: each part of an expression brings the machine from a state to the state behind it.
use Rattle.std.proofs.Common.{◌≡◌, ◌∙◌, sym, ap, refl, Bool, true, false, List, [], ◌∷◌, ◌++◌, append_assoc}
use Rattle.std.proofs.Common.{append-nil, Option, Some, None}
use Rattle.ps_model.specs.Tokens.{Token}
use Rattle.ps_model.specs.Tokens as tok
use Rattle.ps_model.specs.declared.expr.Expr.{Expr, Sum}
use Rattle.ps_model.specs.declared.expr.Summand.{Summand}
use Rattle.ps_model.specs.declared.expr.Factor.{Factor}
use Rattle.ps_model.specs.Grammar.{factor_sign, summand_sign, IsExpression, term, sum, negated, AreMoreTerms, no_term}
use Rattle.ps_model.specs.Grammar.{more_terms, IsTerm, power, product, AreMorePowers, no_power, more_powers, IsPower}
use Rattle.ps_model.specs.Grammar.{base, raised, IsBase, number, name, main, parenthesised}
use Rattle.grammar.specs.Machine.{Frame, State, start, operand, based, powered, termed, whole, fresh, term_of}
use Rattle.grammar.specs.Machine.{expression_of, with_factor, step, finish}

-- the tree that tokens lead to from a state, apart from all limits
abbrev pub then : Option State → (State → Option Expr) → Option Expr
then None read = None
then (Some s) read = read s

abbrev pub accepts : State → List Token → Option Expr
accepts s [] = finish s
accepts s (t ∷ ts) = then (step s t) (λ (n : State). accepts n ts)

-- what may follow a whole expression
abbrev pub EndsExpression : List Token → Type 0
EndsExpression [] = Unit {0}
EndsExpression (tok.Close ∷ ts) = Unit {0}
EndsExpression (t ∷ ts) = ⊥

-- what may follow a whole term
abbrev pub EndsTerm : List Token → Type 0
EndsTerm [] = Unit {0}
EndsTerm (tok.Plus ∷ ts) = Unit {0}
EndsTerm (tok.Minus ∷ ts) = Unit {0}
EndsTerm (tok.Close ∷ ts) = Unit {0}
EndsTerm (t ∷ ts) = ⊥

-- what may follow a whole power
abbrev pub EndsPower : List Token → Type 0
EndsPower (tok.Power ∷ ts) = ⊥
EndsPower ts = Unit {0}

pub power_ends : (ts : List Token) → EndsTerm ts → EndsPower ts
power_ends [] h = tt
power_ends (tok.Plus ∷ ts) h = tt
power_ends (tok.Minus ∷ ts) h = tt
power_ends (tok.Close ∷ ts) h = tt
power_ends (tok.Power ∷ ts) h = h
power_ends (t ∷ ts) h = tt

pub term_ends : (ts : List Token) → EndsExpression ts → EndsTerm ts
term_ends [] h = tt
term_ends (tok.Close ∷ ts) h = tt
term_ends (tok.Plus ∷ ts) h = tt
term_ends (tok.Minus ∷ ts) h = tt
term_ends (t ∷ ts) h = absurd h

-- Without a sign that goes on, the states behind a part pass into each other.
pub based_powered : (e : Expr) (fr : Frame) (o : List Frame) (ts : List Token) → EndsPower ts → accepts
    (based e fr o) ts ≡ accepts (powered (with_factor fr e) fr.summands fr.minus o) ts
based_powered e fr o [] h = refl
based_powered e fr o (tok.Power ∷ ts) h = absurd h
based_powered e fr o (t ∷ ts) h = refl

pub powered_termed : (fs : List Factor) (ss : List Summand) (m : Bool) (o : List Frame) (ts : List Token) →
    EndsTerm ts →
    accepts (powered fs ss m o) ts ≡ accepts (termed (ss ++ record { minus = m; of = term_of fs } ∷ []) o) ts
powered_termed fs ss m o [] h = refl
powered_termed fs ss m o (tok.Plus ∷ ts) h = refl
powered_termed fs ss m o (tok.Minus ∷ ts) h = refl
powered_termed fs ss m o (tok.Close ∷ ts) h = refl
powered_termed fs ss m o (t ∷ ts) h = absurd h

pub termed_whole : (ss : List Summand) (o : List Frame) (ts : List Token) → EndsExpression ts → accepts
    (termed ss o) ts ≡ accepts (whole (expression_of ss) o) ts
termed_whole ss o [] h = refl
termed_whole ss o (tok.Close ∷ ts) h = refl
termed_whole ss o (t ∷ ts) h = absurd h

-- No part but an expression begins with a minus.
base_begins : {ts : List Token} {e : Expr} → IsBase ts e → (o : List Frame) (rest : List Token) → accepts (start o)
    (ts ++ rest) ≡ accepts (operand (fresh [] false) o) (ts ++ rest)
base_begins (number n) o rest = refl
base_begins (name i) o rest = refl
base_begins main o rest = refl
base_begins (parenthesised h) o rest = refl

power_begins : {ts : List Token} {e : Expr} → IsPower ts e → (o : List Frame) (rest : List Token) → accepts (start o)
    (ts ++ rest) ≡ accepts (operand (fresh [] false) o) (ts ++ rest)
power_begins (base h) o rest = base_begins h o rest
power_begins (raised {ts = ts} n h) o rest = rw append_assoc (base_begins h o (tok.Power ∷ tok.Number n ∷ rest))

term_begins : {ts : List Token} {e : Expr} → IsTerm ts e → (o : List Frame) (rest : List Token) → accepts (start o)
    (ts ++ rest) ≡ accepts (operand (fresh [] false) o) (ts ++ rest)
term_begins (power h) o rest = power_begins h o rest
term_begins (product {us = us} h k) o rest = rw append_assoc (power_begins h o (us ++ rest))

powers_end : {us : List Token} {fs : List Factor} → AreMorePowers us fs → (rest : List Token) → EndsTerm rest →
    EndsPower (us ++ rest)
powers_end no_power rest ends = power_ends rest ends
powers_end (more_powers true h k) rest ends = tt
powers_end (more_powers false h k) rest ends = tt

terms_end : {us : List Token} {ss : List Summand} → AreMoreTerms us ss → (rest : List Token) → EndsExpression rest →
    EndsTerm (us ++ rest)
terms_end no_term rest ends = term_ends rest ends
terms_end (more_terms true h k) rest ends = tt
terms_end (more_terms false h k) rest ends = tt

expression_of-minus : (e : Expr) (ss : List Summand) → expression_of (record { minus = true; of = e } ∷ ss) ≡ Sum
    (record { minus = true; of = e } ∷ ss)
expression_of-minus e [] = refl
expression_of-minus e (s ∷ ss) = refl

factor_step : (divide : Bool) (gs : List Factor) (ss : List Summand) (m : Bool) (o : List Frame) (ts : List Token) →
    accepts (powered gs ss m o) (factor_sign divide ∷ ts) ≡ accepts
    (operand (record { summands = ss; minus = m; factors = gs; divide = divide }) o) ts
factor_step true gs ss m o ts = refl
factor_step false gs ss m o ts = refl

summand_step : (minus : Bool) (ss : List Summand) (o : List Frame) (ts : List Token) →
    accepts (termed ss o) (summand_sign minus ∷ ts) ≡ accepts (operand (fresh ss minus) o) ts
summand_step true ss o ts = refl
summand_step false ss o ts = refl

mutual
  pub expression_accepted : {ts : List Token} {e : Expr} → IsExpression ts e → (o : List Frame) (rest : List Token) →
      EndsExpression rest →
      accepts (start o) (ts ++ rest) ≡ accepts (whole e o) rest
  expression_accepted (term {e = e} h) o rest ends =
      term_begins h o rest ∙ term_accepted h [] false o rest (term_ends rest ends) ∙ termed_whole
      (record { minus = false; of = e } ∷ []) o rest ends
  expression_accepted (sum {ts = ts} {us = us} {e = e} {s = s} {ss = ss} h k) o rest ends =
      ap (accepts (start o)) (append_assoc ts us rest) ∙ term_begins h o (us ++ rest) ∙ term_accepted h [] false o
      (us ++ rest) (terms_end k rest ends)
      ∙ terms_accepted k (record { minus = false; of = e } ∷ []) o rest ends ∙ termed_whole
      (record { minus = false; of = e } ∷ s ∷ ss) o rest ends
  expression_accepted (negated {ts = ts} {us = us} {e = e} {ss = ss} h k) o rest ends =
      ap (accepts (operand (fresh [] true) o)) (append_assoc ts us rest) ∙ term_accepted h [] true o (us ++ rest)
      (terms_end k rest ends)
      ∙ terms_accepted k (record { minus = true; of = e } ∷ []) o rest ends ∙ termed_whole
      (record { minus = true; of = e } ∷ ss) o rest ends
      ∙ ap (λ (x : Expr). accepts (whole x o) rest) (expression_of-minus e ss)

  pub terms_accepted : {us : List Token} {more : List Summand} → AreMoreTerms us more → (ss : List Summand)
      (o : List Frame) (rest : List Token) → EndsExpression rest →
      accepts (termed ss o) (us ++ rest) ≡ accepts (termed (ss ++ more) o) rest
  terms_accepted no_term ss o rest ends = ap (λ (x : List Summand). accepts (termed x o) rest) (sym (append-nil ss))
  terms_accepted (more_terms {ts = ts} {us = us} {e = e} {ss = more} minus h k) ss o rest ends =
      summand_step minus ss o ((ts ++ us) ++ rest) ∙ ap (accepts (operand (fresh ss minus) o)) (append_assoc ts us rest)
      ∙ term_accepted h ss minus o (us ++ rest) (terms_end k rest ends) ∙ terms_accepted k
      (ss ++ record { minus = minus; of = e } ∷ []) o rest ends
      ∙ ap (λ (x : List Summand). accepts (termed x o) rest)
      (append_assoc ss (record { minus = minus; of = e } ∷ []) more)

  pub term_accepted : {ts : List Token} {e : Expr} → IsTerm ts e → (ss : List Summand) (m : Bool) (o : List Frame)
      (rest : List Token) → EndsTerm rest →
      accepts (operand (fresh ss m) o) (ts ++ rest) ≡ accepts (termed (ss ++ record { minus = m; of = e } ∷ []) o) rest
  term_accepted (power {e = e} h) ss m o rest ends =
      power_accepted h (fresh ss m) o rest (power_ends rest ends) ∙ powered_termed
      (record { divide = false; of = e } ∷ []) ss m o rest ends
  term_accepted (product {ts = ts} {us = us} {e = e} {f = f} {fs = fs} h k) ss m o rest ends =
      ap (accepts (operand (fresh ss m) o)) (append_assoc ts us rest) ∙ power_accepted h (fresh ss m) o (us ++ rest)
      (powers_end k rest ends)
      ∙ powers_accepted k (record { divide = false; of = e } ∷ []) ss m o rest ends ∙ powered_termed
      (record { divide = false; of = e } ∷ f ∷ fs) ss m o rest ends

  pub powers_accepted : {us : List Token} {more : List Factor} → AreMorePowers us more → (gs : List Factor)
      (ss : List Summand) (m : Bool) (o : List Frame) (rest : List Token) → EndsTerm rest →
      accepts (powered gs ss m o) (us ++ rest) ≡ accepts (powered (gs ++ more) ss m o) rest
  powers_accepted no_power gs ss m o rest ends = ap (λ (x : List Factor). accepts (powered x ss m o) rest)
      (sym (append-nil gs))
  powers_accepted (more_powers {ts = ts} {us = us} {e = e} {fs = more} divide h k) gs ss m o rest ends =
      factor_step divide gs ss m o ((ts ++ us) ++ rest)
      ∙ ap (accepts (operand (record { summands = ss; minus = m; factors = gs; divide = divide }) o))
      (append_assoc ts us rest)
      ∙ power_accepted h (record { summands = ss; minus = m; factors = gs; divide = divide }) o (us ++ rest)
      (powers_end k rest ends)
      ∙ powers_accepted k (gs ++ record { divide = divide; of = e } ∷ []) ss m o rest ends
      ∙ ap (λ (x : List Factor). accepts (powered x ss m o) rest)
      (append_assoc gs (record { divide = divide; of = e } ∷ []) more)

  pub power_accepted : {ts : List Token} {e : Expr} → IsPower ts e → (fr : Frame) (o : List Frame)
      (rest : List Token) → EndsPower rest →
      accepts (operand fr o) (ts ++ rest) ≡ accepts (powered (with_factor fr e) fr.summands fr.minus o) rest
  power_accepted (base {e = e} h) fr o rest ends = base_accepted h fr o rest ∙ based_powered e fr o rest ends
  power_accepted (raised {ts = ts} {e = e} n h) fr o rest ends =
      ap (accepts (operand fr o)) (append_assoc ts (tok.Power ∷ tok.Number n ∷ []) rest) ∙ base_accepted h fr o
      (tok.Power ∷ tok.Number n ∷ rest)

  pub base_accepted : {ts : List Token} {e : Expr} → IsBase ts e → (fr : Frame) (o : List Frame) (rest : List Token) →
      accepts (operand fr o) (ts ++ rest) ≡ accepts (based e fr o) rest
  base_accepted (number n) fr o rest = refl
  base_accepted (name i) fr o rest = refl
  base_accepted main fr o rest = refl
  base_accepted (parenthesised {ts = ts} {e = e} h) fr o rest =
      ap (accepts (start (fr ∷ o))) (append_assoc ts (tok.Close ∷ []) rest) ∙ expression_accepted h (fr ∷ o)
      (tok.Close ∷ rest) tt

-- what the grammar spells leads to its tree
pub spelled_accepted : {ts : List Token} {e : Expr} → IsExpression ts e → accepts (start []) ts ≡ Some e
spelled_accepted {ts = ts} h = ap (accepts (start [])) (sym (append-nil ts)) ∙ expression_accepted h [] [] tt

-- one tree alone
pub one_tree : {ts : List Token} {e f : Expr} → IsExpression ts e → IsExpression ts f → e ≡ f
one_tree h k = let p = sym (spelled_accepted h) ∙ spelled_accepted k in cc
