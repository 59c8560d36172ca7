-- A state of the machine tells which tokens are stays_prefix.
use Rattle.std.proofs.Common.{◌≡◌, ◌∙◌, sym, ap, subst, refl, ℕ, ◌+◌, Bool, true, false, List, [], ◌∷◌, ◌++◌, length}
use Rattle.std.proofs.Common.{append-nil, map, Option, Some, None, arith}
use Rattle.ps_model.specs.Tokens.{Token}
use Rattle.ps_model.specs.Tokens as tok
use Rattle.ps_model.specs.declared.expr.Expr.{Expr, Name, Power}
use Rattle.ps_model.specs.declared.expr.Summand.{Summand}
use Rattle.ps_model.specs.declared.expr.Factor.{Factor}
use Rattle.ps_model.specs.Grammar.{IsExpression}
use Rattle.grammar.specs.Machine.{Frame, State, start, operand, based, exponent, powered, termed, whole, fresh}
use Rattle.grammar.specs.Machine.{term_of, expression_of, with_factor, step, step_whole, step_termed, step_powered}
use Rattle.grammar.specs.Machine.{step_operand, finish, depth}
use Rattle.ps_model.specs.FirstFault.{as_operand, IsPrefix, IsWhole, opening, closing, opened, closed, is_power}
use Rattle.ps_model.specs.FirstFault.{awaits_exponent}
use Rattle.grammar.proofs.Complete.{then, accepts, EndsExpression, based_powered, powered_termed, termed_whole}
use Rattle.grammar.proofs.Complete.{power_ends, term_ends, spelled_accepted}
use Rattle.grammar.proofs.Sound.{accepted_spells}

-- Each state has tokens that complete it.
closers : List Frame → List Token
closers [] = []
closers (fr ∷ o) = tok.Close ∷ closers o

record Completion (s : State) : Type 0 where
  more : List Token
  tree : Expr
  accepted : accepts s more ≡ Some tree

closers_end : (o : List Frame) → EndsExpression (closers o)
unfolding closers
closers_end [] = tt
closers_end (fr ∷ o) = tt

based_whole : (x : Expr) (fr : Frame) (o : List Frame) (ts : List Token) → EndsExpression ts →
    accepts (based x fr o) ts ≡ accepts (whole (expression_of
    (fr.summands ++ record { minus = fr.minus; of = term_of (with_factor fr x) } ∷ [])) o) ts
based_whole x fr o ts ends =
    based_powered x fr o ts (power_ends ts (term_ends ts ends)) ∙ powered_termed
    (with_factor fr x) fr.summands fr.minus o ts (term_ends ts ends)
    ∙ termed_whole (fr.summands ++ record { minus = fr.minus; of = term_of (with_factor fr x) } ∷ []) o ts ends

record Closed (x : Expr) (o : List Frame) : Type 0 where
  tree : Expr
  accepted : accepts (whole x o) (closers o) ≡ Some tree

closes : (x : Expr) (o : List Frame) → Closed x o
unfolding closers
closes x [] = record { tree = x; accepted = refl }
closes x (fr ∷ o) =
    let y = expression_of (fr.summands ++ record { minus = fr.minus; of = term_of (with_factor fr x) } ∷ []) in
    record {
      tree = (closes y o).tree;
      accepted = based_whole x fr o (closers o) (closers_end o) ∙
          (closes y o).accepted;
    }

close_based : (x : Expr) (fr : Frame) (o : List Frame) → Completion (based x fr o)
close_based x fr o =
    let y = expression_of (fr.summands ++ record { minus = fr.minus; of = term_of (with_factor fr x) } ∷ []) in
    record {
      more = closers o;
      tree = (closes y o).tree;
      accepted = based_whole x fr o (closers o) (closers_end o) ∙
          (closes y o).accepted;
    }

close_powered : (gs : List Factor) (ss : List Summand) (m : Bool) (o : List Frame) → Completion (powered gs ss m o)
close_powered gs ss m o =
    let ss' = ss ++ record { minus = m; of = term_of gs } ∷ [] in
    record {
      more = closers o;
      tree = (closes (expression_of ss') o).tree;
      accepted = powered_termed gs ss m o (closers o) (term_ends (closers o) (closers_end o)) ∙ termed_whole ss' o
          (closers o) (closers_end o) ∙ (closes (expression_of ss') o).accepted;
    }

completion : (s : State) → Completion s
completion (start o) = let c = close_based (Name 0) (fresh [] false) o in record {
  more = tok.Name 0 ∷ c.more;
  tree =
      c.tree;
  accepted = c.accepted;
}
completion (operand fr o) = let c = close_based (Name 0) fr o in record {
  more = tok.Name 0 ∷ c.more;
  tree = c.tree;
  accepted = c.accepted;
}
completion (based x fr o) = close_based x fr o
completion (exponent x fr o) = let c = close_powered (with_factor fr
    (Power x 0)) fr.summands fr.minus o in record { more = tok.Number 0 ∷ c.more; tree = c.tree; accepted = c.accepted }
completion (powered gs ss m o) = close_powered gs ss m o
completion (termed ss o) = record {
  more = closers o;
  tree = (closes (expression_of ss) o).tree;
  accepted =
      termed_whole ss o (closers o) (closers_end o) ∙ (closes (expression_of ss) o).accepted;
}
completion (whole x o) = record { more = closers o; tree = (closes x o).tree; accepted = (closes x o).accepted }

abbrev pub is_exponent : State → Bool
is_exponent (exponent x fr o) = true
is_exponent s = false

-- what a step does to the depth, and where it leads to an exponent
pub record StepFacts (d : ℕ) (t : Token) (n : State) : Type 0 where
  pub deep : depth n + closing t ≡ d + opening t
  pub power : is_exponent n ≡ is_power t

abbrev pub OnSome : Option State → (State → Type 0) → Type 0
OnSome None P = Unit {0}
OnSome (Some s) P = P s

whole_facts : (x : Expr) (o : List Frame) (t : Token) → OnSome (step_whole x o t) (StepFacts (length o) t)
whole_facts x (fr ∷ o) tok.Close = record { deep = omega arith; power = refl }
whole_facts x (fr ∷ o) t = tt
whole_facts x [] t = tt

termed_facts : (ss : List Summand) (o : List Frame) (t : Token) → OnSome (step_termed ss o t) (StepFacts (length o) t)
termed_facts ss o tok.Plus = record { deep = omega arith; power = refl }
termed_facts ss o tok.Minus = record { deep = omega arith; power = refl }
termed_facts ss o t = whole_facts (expression_of ss) o t

powered_facts : (gs : List Factor) (ss : List Summand) (m : Bool) (o : List Frame) (t : Token) → OnSome
    (step_powered gs ss m o t) (StepFacts (length o) t)
powered_facts gs ss m o tok.Times = record { deep = omega arith; power = refl }
powered_facts gs ss m o tok.Divide = record { deep = omega arith; power = refl }
powered_facts gs ss m o t = termed_facts (ss ++ record { minus = m; of = term_of gs } ∷ []) o t

operand_facts : (fr : Frame) (o : List Frame) (t : Token) → OnSome (step_operand fr o t) (StepFacts (length o) t)
operand_facts fr o (tok.Number n) = record { deep = omega arith; power = refl }
operand_facts fr o (tok.Name i) = record { deep = omega arith; power = refl }
operand_facts fr o tok.MainVariable = record { deep = omega arith; power = refl }
operand_facts fr o tok.Open = record { deep = omega arith; power = refl }
operand_facts fr o t = tt

based_facts : (x : Expr) (fr : Frame) (o : List Frame) (t : Token) → OnSome (step (based x fr o) t)
    (StepFacts (length o) t)
based_facts x fr o tok.Power = record { deep = omega arith; power = refl }
based_facts x fr o t = powered_facts (with_factor fr x) fr.summands fr.minus o t

exponent_facts : (x : Expr) (fr : Frame) (o : List Frame) (t : Token) → OnSome (step (exponent x fr o) t)
    (StepFacts (length o) t)
exponent_facts x fr o (tok.Number n) = record { deep = omega arith; power = refl }
exponent_facts x fr o t = tt

start_facts : (o : List Frame) (t : Token) → OnSome (step (start o) t) (StepFacts (length o) t)
start_facts o tok.Minus = record { deep = omega arith; power = refl }
start_facts o t = operand_facts (fresh [] false) o t

step_facts : (s : State) (t : Token) → OnSome (step s t) (StepFacts (depth s) t)
step_facts (start o) t = start_facts o t
step_facts (operand fr o) t = operand_facts fr o t
step_facts (based x fr o) t = based_facts x fr o t
step_facts (exponent x fr o) t = exponent_facts x fr o t
step_facts (powered gs ss m o) t = powered_facts gs ss m o t
step_facts (termed ss o) t = termed_facts ss o t
step_facts (whole x o) t = whole_facts x o t

-- what the tokens so far brought the machine to
pub record Reached (before : List Token) (s : State) : Type 0 where
  pub follows : (rest : List Token) → accepts (start []) (map as_operand before ++ rest) ≡ accepts s rest
  pub deep : depth s + closed before ≡ opened before
  pub power : awaits_exponent before ≡ is_exponent s

pub nothing_read : Reached [] (start [])
nothing_read = record { follows = λ rest. refl; deep = omega arith; power = refl }

map_more : (before : List Token) (t : Token) (rest : List Token) → map as_operand
    (before ++ t ∷ []) ++ rest ≡ map as_operand before ++ as_operand t ∷ rest
map_more [] t rest = refl
map_more (b ∷ before) t rest = ap (λ (y : List Token). as_operand b ∷ y) (map_more before t rest)

opened_more : (before : List Token) (t : Token) → opened (before ++ t ∷ []) ≡ opened before + opening t
opened_more [] t = omega arith
opened_more (b ∷ before) t = omega (arith, opened_more before t)

closed_more : (before : List Token) (t : Token) → closed (before ++ t ∷ []) ≡ closed before + closing t
closed_more [] t = omega arith
closed_more (b ∷ before) t = omega (arith, closed_more before t)

awaits_more : (before : List Token) (t : Token) → awaits_exponent (before ++ t ∷ []) ≡ is_power t
awaits_more [] t = refl
awaits_more (b ∷ []) t = refl
awaits_more (b ∷ c ∷ before) t = awaits_more (c ∷ before) t

as_operand_opening : (t : Token) → (opening (as_operand t) ≡ opening t) × (closing (as_operand t) ≡ closing t) ×
    (is_power (as_operand t) ≡ is_power t)
as_operand_opening tok.TooLarge = (refl, refl, refl)
as_operand_opening tok.UnknownName = (refl, refl, refl)
as_operand_opening t = (refl, refl, refl)

pub one_more : (before : List Token) (s n : State) (t : Token) → Reached before s → step s (as_operand t) ≡ Some n →
    Reached (before ++ t ∷ []) n
one_more before s n t r e =
    let facts : StepFacts (depth s) (as_operand t) n = subst
    (λ (x : Option State). OnSome x (StepFacts (depth s) (as_operand t))) e (step_facts s (as_operand t)) in
    let same = as_operand_opening t in
    record {
      follows = λ rest. ap (accepts (start [])) (map_more before t rest) ∙ r.follows (as_operand t ∷ rest) ∙ ap
          (λ (x : Option State). then x (λ (m : State). accepts m rest)) e;
      deep = omega (arith, facts.deep, r.deep, opened_more before t, closed_more before t, same.0, same.1);
      power = awaits_more before t ∙ sym same.2 ∙ sym facts.power;
    }

-- a token that the machine takes leaves the tokens stays_prefix
pub stays_prefix : (before : List Token) (s n : State) (t : Token) → Reached before s → step s
    (as_operand t) ≡ Some n → IsPrefix (before ++ t ∷ [])
stays_prefix before s n t r e =
    let c = completion n in
    let k = one_more before s n t r e in (
      c.more,
      c.tree,
      accepted_spells (map as_operand (before ++ t ∷ []) ++ c.more) c.tree
          (k.follows c.more ∙ c.accepted),
    )

-- a token that the machine doesn't take doesn't
pub no_prefix : (before : List Token) (s : State) (t : Token) → Reached before s → step s (as_operand t) ≡ None →
    IsPrefix (before ++ t ∷ []) → ⊥
no_prefix before s t r e v =
    let found : accepts (start []) (map as_operand (before ++ t ∷ []) ++ v.0) ≡ Some v.1 = spelled_accepted v.2 in
    let stuck : accepts (start []) (map as_operand (before ++ t ∷ []) ++ v.0) ≡ None =
    ap (accepts (start [])) (map_more before t v.0) ∙ r.follows (as_operand t ∷ v.0) ∙ ap
    (λ (x : Option State). then x (λ (m : State). accepts m v.0)) e in
    cc (found, stuck)

pub whole_read : (before : List Token) (s : State) (e : Expr) → Reached before s → finish s ≡ Some e → IsExpression
    (map as_operand before) e
whole_read before s e r f = accepted_spells (map as_operand before) e
    (ap (accepts (start [])) (sym (append-nil (map as_operand before))) ∙ r.follows [] ∙ f)

pub not_whole : (before : List Token) (s : State) → Reached before s → finish s ≡ None → IsWhole before → ⊥
not_whole before s r f w =
    let found : accepts (start []) (map as_operand before) ≡ Some w.0 = spelled_accepted w.1 in
    let stuck : accepts (start []) (map as_operand before) ≡ None = ap (accepts (start []))
    (sym (append-nil (map as_operand before))) ∙ r.follows [] ∙ f in
    cc (found, stuck)
