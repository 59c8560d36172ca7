-- What the machine reads is in the grammar: what is left of an expression completes the state.
use Rattle.std.proofs.Common.{◌≡◌, ◌∙◌, sym, ap, subst, refl, ℕ, Bool, true, false, List, [], ◌∷◌, ◌++◌, append_assoc}
use Rattle.std.proofs.Common.{append-nil, Option, Some}
use Rattle.ps_model.specs.Tokens.{Token}
use Rattle.ps_model.specs.Tokens as tok
use Rattle.ps_model.specs.declared.expr.Expr.{Expr, Number, Name, MainVariable, Power}
use Rattle.ps_model.specs.declared.expr.Summand.{Summand}
use Rattle.ps_model.specs.declared.expr.Factor.{Factor}
use Rattle.ps_model.specs.Grammar.{factor_sign, summand_sign, IsExpression, term, sum, negated, AreMoreTerms, no_term}
use Rattle.ps_model.specs.Grammar.{more_terms, IsTerm, power, product, AreMorePowers, no_power, more_powers, IsPower}
use Rattle.ps_model.specs.Grammar.{base, raised, IsBase, number, name, main, parenthesised}
use Rattle.grammar.specs.Machine.{Frame, State, start, operand, based, exponent, powered, termed, whole, fresh}
use Rattle.grammar.specs.Machine.{term_of, expression_of, with_factor, step, step_whole, step_termed, step_powered}
use Rattle.grammar.specs.Machine.{step_operand, finish, closed}
use Rattle.grammar.proofs.Complete.{then, accepts}

-- The number or nothing that raises a base.
data IsTail : Expr → List Token → Expr → Type 0 where
  plain : {x : Expr} → IsTail x [] x
  raises : {x : Expr} (n : ℕ) → IsTail x (tok.Power ∷ tok.Number n ∷ []) (Power x n)

record TermedC (ss : List Summand) (K : Expr → List Token → Type 0) (ts : List Token) : Type 0 where
  tokens : List Token
  rest : List Token
  more : List Summand
  split : ts ≡ tokens ++ rest
  terms : AreMoreTerms tokens more
  ends : K (expression_of (ss ++ more)) rest

record PoweredC (gs : List Factor) (ss : List Summand) (m : Bool) (K : Expr → List Token → Type 0)
    (ts : List Token) : Type 0 where
  tokens : List Token
  rest : List Token
  more : List Factor
  split : ts ≡ tokens ++ rest
  powers : AreMorePowers tokens more
  ends : TermedC (ss ++ record { minus = m; of = term_of (gs ++ more) } ∷ []) K rest

record BasedC (x : Expr) (fr : Frame) (K : Expr → List Token → Type 0) (ts : List Token) : Type 0 where
  tokens : List Token
  rest : List Token
  tree : Expr
  split : ts ≡ tokens ++ rest
  tail : IsTail x tokens tree
  ends : PoweredC (with_factor fr tree) fr.summands fr.minus K rest

record ExponentC (x : Expr) (fr : Frame) (K : Expr → List Token → Type 0) (ts : List Token) : Type 0 where
  number : ℕ
  rest : List Token
  split : ts ≡ tok.Number number ∷ rest
  ends : PoweredC (with_factor fr (Power x number)) fr.summands fr.minus K rest

record OperandC (fr : Frame) (K : Expr → List Token → Type 0) (ts : List Token) : Type 0 where
  tokens : List Token
  rest : List Token
  tree : Expr
  split : ts ≡ tokens ++ rest
  base : IsBase tokens tree
  ends : BasedC tree fr K rest

record StartC (K : Expr → List Token → Type 0) (ts : List Token) : Type 0 where
  tokens : List Token
  rest : List Token
  tree : Expr
  split : ts ≡ tokens ++ rest
  expression : IsExpression tokens tree
  ends : K tree rest

record ClosedC (x : Expr) (fr : Frame) (K : Expr → List Token → Type 0) (ts : List Token) : Type 0 where
  rest : List Token
  split : ts ≡ tok.Close ∷ rest
  ends : BasedC x fr K rest

abbrev Closes : List Frame → Expr → Expr → List Token → Type 0
Closes [] e x ts = (ts ≡ []) × (x ≡ e)
Closes (fr ∷ o) e x ts = ClosedC x fr (Closes o e) ts

-- The tokens complete the state to the tree.
abbrev Completes : State → Expr → List Token → Type 0
Completes (start o) e ts = StartC (Closes o e) ts
Completes (operand fr o) e ts = OperandC fr (Closes o e) ts
Completes (based x fr o) e ts = BasedC x fr (Closes o e) ts
Completes (exponent x fr o) e ts = ExponentC x fr (Closes o e) ts
Completes (powered gs ss m o) e ts = PoweredC gs ss m (Closes o e) ts
Completes (termed ss o) e ts = TermedC ss (Closes o e) ts
Completes (whole x o) e ts = Closes o e x ts

module _ (K : Expr → List Token → Type 0) where
  whole_termed : (ss : List Summand) (ts : List Token) → K (expression_of ss) ts → TermedC ss K ts
  whole_termed ss ts h = record {
    tokens = [];
    rest = ts;
    more = [];
    split = refl;
    terms = no_term;
    ends = subst
        (λ (x : List Summand). K (expression_of x) ts) (sym (append-nil ss)) h;
  }

  termed_powered : (gs : List Factor) (ss : List Summand) (m : Bool) (ts : List Token) → TermedC
      (ss ++ record { minus = m; of = term_of gs } ∷ []) K ts → PoweredC gs ss m K ts
  termed_powered gs ss m ts h = record {
    tokens = [];
    rest = ts;
    more = [];
    split = refl;
    powers = no_power;
    ends = subst (λ (x : List Factor). TermedC (ss ++ record { minus = m; of = term_of x } ∷ []) K ts)
        (sym (append-nil gs)) h;
  }

  powered_based : (x : Expr) (fr : Frame) (ts : List Token) → PoweredC (with_factor fr x) fr.summands fr.minus K ts →
      BasedC x fr K ts
  powered_based x fr ts h = record { tokens = []; rest = ts; tree = x; split = refl; tail = plain; ends = h }

  exponent_based : (x : Expr) (fr : Frame) (ts : List Token) → ExponentC x fr K ts → BasedC x fr K (tok.Power ∷ ts)
  exponent_based x fr ts h = record {
    tokens = tok.Power ∷ tok.Number h.number ∷ [];
    rest = h.rest;
    tree = Power x h.number;
    split = ap (λ (y : List Token). tok.Power ∷ y) h.split;
    tail = raises h.number;
    ends = h.ends;
  }

  -- an operand with its exponent is a power
  record PowerC (fr : Frame) (ts : List Token) : Type 0 where
    tokens : List Token
    rest : List Token
    tree : Expr
    split : ts ≡ tokens ++ rest
    power : IsPower tokens tree
    ends : PoweredC (with_factor fr tree) fr.summands fr.minus K rest

  IsPower-tail : {us vs : List Token} {x y : Expr} → IsBase us x → IsTail x vs y → IsPower (us ++ vs) y
  IsPower-tail {us = us} {x = x} h plain = subst (λ (ts : List Token). IsPower ts x) (sym (append-nil us)) (base h)
  IsPower-tail h (raises n) = raised n h

  power_first : (fr : Frame) (ts : List Token) → OperandC fr K ts → PowerC fr ts
  power_first fr ts h = record {
    tokens = h.tokens ++ h.ends.tokens;
    rest = h.ends.rest;
    tree = h.ends.tree;
    split = h.split ∙ ap (λ (y : List Token). h.tokens ++ y) h.ends.split ∙ sym
        (append_assoc h.tokens h.ends.tokens h.ends.rest);
    power = IsPower-tail h.base h.ends.tail;
    ends = h.ends.ends;
  }

  factor_powered : (d : Bool) (gs : List Factor) (ss : List Summand) (m : Bool) (ts : List Token) → OperandC
      (record { summands = ss; minus = m; factors = gs; divide = d }) K ts → PoweredC gs ss m K (factor_sign d ∷ ts)
  factor_powered d gs ss m ts h =
      let p = power_first (record { summands = ss; minus = m; factors = gs; divide = d }) ts h in
      let q = p.ends in
      record {
        tokens = factor_sign d ∷ p.tokens ++ q.tokens;
        rest = q.rest;
        more = record { divide = d; of = p.tree } ∷ q.more;
        split = ap (λ (y : List Token). factor_sign d ∷ y)
            (p.split ∙ ap (λ (y : List Token). p.tokens ++ y) q.split ∙ sym (append_assoc p.tokens q.tokens q.rest));
        powers = more_powers d p.power q.powers;
        ends = subst (λ (x : List Factor). TermedC (ss ++ record { minus = m; of = term_of x } ∷ []) K q.rest)
            (append_assoc gs (record { divide = d; of = p.tree } ∷ []) q.more) q.ends;
      }

  -- a power with the factors behind it is a term
  record TermC (ss : List Summand) (m : Bool) (ts : List Token) : Type 0 where
    tokens : List Token
    rest : List Token
    tree : Expr
    split : ts ≡ tokens ++ rest
    term : IsTerm tokens tree
    ends : TermedC (ss ++ record { minus = m; of = tree } ∷ []) K rest

  IsTerm-powers : {us vs : List Token} {x : Expr} {more : List Factor} → IsPower us x → AreMorePowers vs more → IsTerm
      (us ++ vs) (term_of (record { divide = false; of = x } ∷ more))
  IsTerm-powers {us = us} {x = x} h no_power = subst (λ (ts : List Token). IsTerm ts x) (sym (append-nil us)) (power h)
  IsTerm-powers h (more_powers d p k) = product h (more_powers d p k)

  term_first : (ss : List Summand) (m : Bool) (ts : List Token) → OperandC (fresh ss m) K ts → TermC ss m ts
  term_first ss m ts h =
      let p = power_first (fresh ss m) ts h in
      let q = p.ends in
      record {
        tokens = p.tokens ++ q.tokens;
        rest = q.rest;
        tree = term_of (record { divide = false; of = p.tree } ∷ q.more);
        split = p.split ∙ ap (λ (y : List Token). p.tokens ++ y) q.split ∙ sym (append_assoc p.tokens q.tokens q.rest);
        term = IsTerm-powers p.power q.powers;
        ends = q.ends;
      }

  summand_termed : (m : Bool) (ss : List Summand) (ts : List Token) → OperandC (fresh ss m) K ts → TermedC ss K
      (summand_sign m ∷ ts)
  summand_termed m ss ts h =
      let p = term_first ss m ts h in
      let q = p.ends in
      record {
        tokens = summand_sign m ∷ p.tokens ++ q.tokens;
        rest = q.rest;
        more = record { minus = m; of = p.tree } ∷ q.more;
        split = ap (λ (y : List Token). summand_sign m ∷ y)
            (p.split ∙ ap (λ (y : List Token). p.tokens ++ y) q.split ∙ sym (append_assoc p.tokens q.tokens q.rest));
        terms = more_terms m p.term q.terms;
        ends = subst (λ (x : List Summand). K (expression_of x) q.rest)
            (append_assoc ss (record { minus = m; of = p.tree } ∷ []) q.more) q.ends;
      }

  IsExpression-terms : {us vs : List Token} {x : Expr} {more : List Summand} → IsTerm us x → AreMoreTerms vs more →
      IsExpression (us ++ vs) (expression_of (record { minus = false; of = x } ∷ more))
  IsExpression-terms {us = us} {x = x} h no_term = subst (λ (ts : List Token). IsExpression ts x) (sym (append-nil us))
      (term h)
  IsExpression-terms h (more_terms m p k) = sum h (more_terms m p k)

  IsExpression-negated : {us vs : List Token} {x : Expr} {more : List Summand} → IsTerm us x → AreMoreTerms vs more →
      IsExpression (tok.Minus ∷ us ++ vs) (expression_of (record { minus = true; of = x } ∷ more))
  IsExpression-negated h no_term = negated h no_term
  IsExpression-negated h (more_terms m p k) = negated h (more_terms m p k)

  plain_start : (ts : List Token) → OperandC (fresh [] false) K ts → StartC K ts
  plain_start ts h =
      let p = term_first [] false ts h in
      let q = p.ends in
      record {
        tokens = p.tokens ++ q.tokens;
        rest = q.rest;
        tree = expression_of (record { minus = false; of = p.tree } ∷ q.more);
        split = p.split ∙ ap (λ (y : List Token). p.tokens ++ y) q.split ∙ sym (append_assoc p.tokens q.tokens q.rest);
        expression = IsExpression-terms p.term q.terms;
        ends = q.ends;
      }

  negated_start : (ts : List Token) → OperandC (fresh [] true) K ts → StartC K (tok.Minus ∷ ts)
  negated_start ts h =
      let p = term_first [] true ts h in
      let q = p.ends in
      record {
        tokens = tok.Minus ∷ p.tokens ++ q.tokens;
        rest = q.rest;
        tree = expression_of (record { minus = true; of = p.tree } ∷ q.more);
        split = ap (λ (y : List Token). tok.Minus ∷ y) (p.split ∙ ap (λ (y : List Token). p.tokens ++ y) q.split ∙ sym
            (append_assoc p.tokens q.tokens q.rest));
        expression = IsExpression-negated p.term q.terms;
        ends = q.ends;
      }

  leaf : (t : Token) (x : Expr) (fr : Frame) (ts : List Token) → IsBase (t ∷ []) x → BasedC x fr K ts → OperandC fr K
      (t ∷ ts)
  leaf t x fr ts h k = record { tokens = t ∷ []; rest = ts; tree = x; split = refl; base = h; ends = k }

opened : (fr : Frame) (o : List Frame) (e : Expr) (ts : List Token) → StartC (Closes (fr ∷ o) e) ts → OperandC fr
    (Closes o e) (tok.Open ∷ ts)
opened fr o e ts h =
    let k = h.ends in
    record {
      tokens = tok.Open ∷ h.tokens ++ tok.Close ∷ [];
      rest = k.rest;
      tree = h.tree;
      split = ap (λ (y : List Token). tok.Open ∷ y) (h.split ∙ ap (λ (y : List Token). h.tokens ++ y) k.split ∙ sym
          (append_assoc h.tokens (tok.Close ∷ []) k.rest));
      base = parenthesised h.expression;
      ends = k.ends;
    }

-- what the tokens behind this one complete
abbrev Read : List Token → Type 0
Read ts = (s : State) (e : Expr) → accepts s ts ≡ Some e → Completes s e ts

module _ (ts : List Token) (read : Read ts) (e : Expr) where
  abbrev from : Option State → Option Expr
  from o = then o (λ (n : State). accepts n ts)

  whole_step : (x : Expr) (o : List Frame) (t : Token) → from (step_whole x o t) ≡ Some e → Closes o e x (t ∷ ts)
  whole_step x (fr ∷ o) tok.Close h = record { rest = ts; split = refl; ends = read (based x fr o) e h }
  whole_step x (fr ∷ o) t h = absurd (cc h)
  whole_step x [] t h = absurd (cc h)

  termed_step : (ss : List Summand) (o : List Frame) (t : Token) → from (step_termed ss o t) ≡ Some e → TermedC ss
      (Closes o e) (t ∷ ts)
  termed_step ss o tok.Plus h = summand_termed (Closes o e) false ss ts (read (operand (fresh ss false) o) e h)
  termed_step ss o tok.Minus h = summand_termed (Closes o e) true ss ts (read (operand (fresh ss true) o) e h)
  termed_step ss o t h = whole_termed (Closes o e) ss (t ∷ ts) (whole_step (expression_of ss) o t h)

  powered_step : (gs : List Factor) (ss : List Summand) (m : Bool) (o : List Frame) (t : Token) → from
      (step_powered gs ss m o t) ≡ Some e → PoweredC gs ss m (Closes o e) (t ∷ ts)
  powered_step gs ss m o tok.Times h = factor_powered (Closes o e) false gs ss m ts
      (read (operand (record { summands = ss; minus = m; factors = gs; divide = false }) o) e h)
  powered_step gs ss m o tok.Divide h = factor_powered (Closes o e) true gs ss m ts
      (read (operand (record { summands = ss; minus = m; factors = gs; divide = true }) o) e h)
  powered_step gs ss m o t h = termed_powered (Closes o e) gs ss m (t ∷ ts)
      (termed_step (ss ++ record { minus = m; of = term_of gs } ∷ []) o t h)

  based_step : (x : Expr) (fr : Frame) (o : List Frame) (t : Token) → from (step (based x fr o) t) ≡ Some e →
      BasedC x fr (Closes o e) (t ∷ ts)
  based_step x fr o tok.Power h = exponent_based (Closes o e) x fr ts (read (exponent x fr o) e h)
  based_step x fr o t h = powered_based (Closes o e) x fr (t ∷ ts)
      (powered_step (with_factor fr x) fr.summands fr.minus o t h)

  exponent_step : (x : Expr) (fr : Frame) (o : List Frame) (t : Token) → from (step (exponent x fr o) t) ≡ Some e →
      ExponentC x fr (Closes o e) (t ∷ ts)
  exponent_step x fr o (tok.Number n) h = record {
    number = n;
    rest = ts;
    split = refl;
    ends = read
        (powered (with_factor fr (Power x n)) fr.summands fr.minus o) e h;
  }
  exponent_step x fr o t h = absurd (cc h)

  operand_step : (fr : Frame) (o : List Frame) (t : Token) → from (step_operand fr o t) ≡ Some e → OperandC fr
      (Closes o e) (t ∷ ts)
  operand_step fr o (tok.Number n) h = leaf (Closes o e) (tok.Number n) (Number n) fr ts (number n)
      (read (based (Number n) fr o) e h)
  operand_step fr o (tok.Name i) h = leaf (Closes o e) (tok.Name i) (Name i) fr ts (name i)
      (read (based (Name i) fr o) e h)
  operand_step fr o tok.MainVariable h = leaf (Closes o e) tok.MainVariable MainVariable fr ts main
      (read (based MainVariable fr o) e h)
  operand_step fr o tok.Open h = opened fr o e ts (read (start (fr ∷ o)) e h)
  operand_step fr o t h = absurd (cc h)

  start_step : (o : List Frame) (t : Token) → from (step (start o) t) ≡ Some e → StartC (Closes o e) (t ∷ ts)
  start_step o tok.Minus h = negated_start (Closes o e) ts (read (operand (fresh [] true) o) e h)
  start_step o t h = plain_start (Closes o e) (t ∷ ts) (operand_step (fresh [] false) o t h)

  read_step : (s : State) (t : Token) → from (step s t) ≡ Some e → Completes s e (t ∷ ts)
  read_step (start o) t h = start_step o t h
  read_step (operand fr o) t h = operand_step fr o t h
  read_step (based x fr o) t h = based_step x fr o t h
  read_step (exponent x fr o) t h = exponent_step x fr o t h
  read_step (powered gs ss m o) t h = powered_step gs ss m o t h
  read_step (termed ss o) t h = termed_step ss o t h
  read_step (whole x o) t h = whole_step x o t h

whole_end : (e x : Expr) (o : List Frame) → closed x o ≡ Some e → Closes o e x []
whole_end e x [] h = (refl, cc h)
whole_end e x (fr ∷ o) h = absurd (cc h)

termed_end : (e : Expr) (ss : List Summand) (o : List Frame) → closed (expression_of ss) o ≡ Some e → TermedC ss
    (Closes o e) []
termed_end e ss o h = whole_termed (Closes o e) ss [] (whole_end e (expression_of ss) o h)

powered_end : (e : Expr) (gs : List Factor) (ss : List Summand) (m : Bool) (o : List Frame) → closed
    (expression_of (ss ++ record { minus = m; of = term_of gs } ∷ [])) o ≡ Some e → PoweredC gs ss m (Closes o e) []
powered_end e gs ss m o h = termed_powered (Closes o e) gs ss m []
    (termed_end e (ss ++ record { minus = m; of = term_of gs } ∷ []) o h)

read_end : (s : State) (e : Expr) → finish s ≡ Some e → Completes s e []
read_end (start o) e h = absurd (cc h)
read_end (operand fr o) e h = absurd (cc h)
read_end (based x fr o) e h = powered_based (Closes o e) x fr []
    (powered_end e (with_factor fr x) fr.summands fr.minus o h)
read_end (exponent x fr o) e h = absurd (cc h)
read_end (powered gs ss m o) e h = powered_end e gs ss m o h
read_end (termed ss o) e h = termed_end e ss o h
read_end (whole x o) e h = whole_end e x o h

completed : (ts : List Token) (s : State) (e : Expr) → accepts s ts ≡ Some e → Completes s e ts
completed [] s e h = read_end s e h
completed (t ∷ ts) s e h = read_step ts (completed ts) e s t h

-- what leads to a tree from the start spells it
pub accepted_spells : (ts : List Token) (e : Expr) → accepts (start []) ts ≡ Some e → IsExpression ts e
accepted_spells ts e h =
    let p = completed ts (start []) e h in
    let all : ts ≡ p.tokens = p.split ∙ ap (λ (y : List Token). p.tokens ++ y) p.ends.0 ∙ append-nil p.tokens in
    subst (λ (us : List Token). IsExpression us e) (sym all)
    (subst (λ (x : Expr). IsExpression p.tokens x) p.ends.1 p.expression)
