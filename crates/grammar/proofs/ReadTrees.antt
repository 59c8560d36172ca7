-- The tree that the machine answers is valid for the names, since all that it was made of is.
use Rattle.std.proofs.Common.{◌≡◌, ◌∙◌, sym, subst, refl, ℕ, zero, suc, ◌+◌, ◌<◌, ◌≤◌, ◌^◌, Bool, true, false, cond}
use Rattle.std.proofs.Common.{List, [], ◌∷◌, ◌++◌, length, Option, Some, None, Result, Ok, Err, IsTrue, not, nat_le}
use Rattle.std.proofs.Common.{nat_lt}
use Rattle.std.proofs.Common.{arith, codes, ◌==◌}
use Rattle.std.specs.Prelude.{take_while}
use Rattle.std.specs.Char.{is_ascii_digit, is_ascii_alphabetic}
use Rattle.std.specs.List.{position, position_or_len}
use Rattle.std.specs.Str.{bytes_eq}
use Rattle.std.specs.Str.Parse.{digits_value}
use Rattle.ps_model.specs.Tree.{IsValidTree, AreSummands, AreValidSummands, AreFactors, AreValidFactors}
use Rattle.ps_model.specs.Names.{is_name_byte}
use Rattle.ps_model.specs.Tokens.{Token, Placed, is_end, is_blank, named, symbol_token, token_at, more_bytes, tokens}
use Rattle.ps_model.specs.Tokens.{tokens_of, without_blanks}
use Rattle.ps_model.specs.Tokens as tok
use Rattle.ps_model.specs.FirstFault.{Fault, as_operand}
use Rattle.ps_model.specs.FirstFault as err
use Rattle.ps_model.specs.declared.expr.Expr.{Expr, Sum, Power}
use Rattle.ps_model.specs.declared.expr.Summand.{Summand}
use Rattle.ps_model.specs.declared.expr.Factor.{Factor}
use Rattle.ps_model.specs.declared.expr.Expr.TheBlock.{hidden-the_row-Summand-0, shape-the_row-Summand-0}
use Rattle.ps_model.specs.declared.expr.Expr.TheBlock.{hidden-the_row-Factor-1, shape-the_row-Factor-1}
use Rattle.ps_model.specs.declared.expr.Expr.TheBlock.{hidden-the_row-Expr-2}
use Rattle.ps_model.proofs.Induct.{OfSummands, OfFactors}
use Rattle.grammar.specs.Machine.{Frame, State, start, operand, based, exponent, powered, termed, whole, fresh, term_of}
use Rattle.grammar.specs.Machine.{expression_of, with_factor, step, step_whole, step_termed, step_powered, step_operand}
use Rattle.grammar.specs.Machine.{finish, broken, refusal, judged, answer, go_on, run, closed}
use Rattle.grammar.proofs.Prefixes.{OnSome}
use Rattle.grammar.proofs.Run.{unknown_name, too_large}
use Rattle.grammar.proofs.Whole.{answered}
use denote.Hole.Carrier.{hidden}

-- the first doesn't divide, where there is one
abbrev pub BeginsPlain : List Factor → Type 0
BeginsPlain [] = Unit {0}
BeginsPlain (f ∷ fs) = IsTrue (not f.divide)

module _ (n : ℕ) where
  abbrev Terms : List Summand → Type 0
  Terms ss = OfSummands (IsValidTree n) ss

  abbrev Powers : List Factor → Type 0
  Powers fs = OfFactors (IsValidTree n) fs × BeginsPlain fs

  summands_valid : (ss : List Summand) → Terms ss → AreValidSummands n (hidden-the_row-Summand-0 ss)
  unfolding hidden-the_row-Summand-0 shape-the_row-Summand-0 hidden
  summands_valid [] h = tt
  summands_valid (s ∷ ss) h = (h.0, summands_valid ss h.1)

  factors_valid : (fs : List Factor) → OfFactors (IsValidTree n) fs → AreValidFactors n (hidden-the_row-Factor-1 fs)
  unfolding hidden-the_row-Factor-1 shape-the_row-Factor-1 hidden
  factors_valid [] h = tt
  factors_valid (f ∷ fs) h = (h.0, factors_valid fs h.1)

  one_minus : (s : Summand) → IsTrue s.minus → AreSummands (hidden-the_row-Summand-0 (s ∷ []))
  unfolding hidden-the_row-Summand-0 shape-the_row-Summand-0 hidden
  one_minus s h = h

  two_terms : (s t : Summand) (ss : List Summand) → AreSummands (hidden-the_row-Summand-0 (s ∷ t ∷ ss))
  unfolding hidden-the_row-Summand-0 shape-the_row-Summand-0 hidden
  two_terms s t ss = tt

  two_powers : (f g : Factor) (fs : List Factor) → IsTrue (not f.divide) → AreFactors
      (hidden-the_row-Factor-1 (f ∷ g ∷ fs))
  unfolding hidden-the_row-Factor-1 shape-the_row-Factor-1 hidden
  two_powers f g fs h = h

  power_valid : (b : Expr) (e : ℕ) → IsValidTree n b → e ≤ 255 → IsValidTree n (Power b e)
  unfolding hidden-the_row-Expr-2 hidden
  power_valid b e h k = (h, k)

  -- a term of some powers, and an expression of some terms
  term_valid : (f : Factor) (fs : List Factor) → Powers (f ∷ fs) → IsValidTree n (term_of (f ∷ fs))
  term_valid f [] h = h.0.0
  term_valid f (g ∷ fs) h = (two_powers f g fs h.1, factors_valid (f ∷ g ∷ fs) h.0)

  one_valid : (s : Summand) (b : Bool) → s.minus ≡ b → IsValidTree n s.of → IsValidTree n (cond b (Sum (s ∷ [])) s.of)
  one_valid s true e h = (one_minus s e, summands_valid (s ∷ []) (h, tt))
  one_valid s false e h = h

  expression_valid : (s : Summand) (ss : List Summand) → Terms (s ∷ ss) → IsValidTree n (expression_of (s ∷ ss))
  expression_valid s [] h = one_valid s s.minus refl h.0
  expression_valid s (t ∷ ss) h = (two_terms s t ss, summands_valid (s ∷ t ∷ ss) h)

  summands_more : (ss : List Summand) (s : Summand) → Terms ss → IsValidTree n s.of → Terms (ss ++ s ∷ [])
  summands_more [] s h k = (k, tt)
  summands_more (t ∷ ss) s h k = (h.0, summands_more ss s h.1 k)

  factors_more : (fs : List Factor) (f : Factor) → OfFactors (IsValidTree n) fs → IsValidTree n f.of →
      OfFactors (IsValidTree n) (fs ++ f ∷ [])
  factors_more [] f h k = (k, tt)
  factors_more (g ∷ fs) f h k = (h.0, factors_more fs f h.1 k)

  begins_more : (fs : List Factor) (f : Factor) → BeginsPlain fs → (fs ≡ [] → IsTrue (not f.divide)) → BeginsPlain
      (fs ++ f ∷ [])
  begins_more [] f h k = k refl
  begins_more (g ∷ fs) f h k = h

  -- a factor that is awaited divides only behind others
  abbrev GoodFrame : Frame → Type 0
  GoodFrame fr = Terms fr.summands × Powers fr.factors × (fr.factors ≡ [] → IsTrue (not fr.divide))

  abbrev GoodFrames : List Frame → Type 0
  GoodFrames [] = Unit {0}
  GoodFrames (fr ∷ outer) = GoodFrame fr × GoodFrames outer

  abbrev SomeTerms : List Summand → Type 0
  SomeTerms [] = ⊥
  SomeTerms (s ∷ ss) = Terms (s ∷ ss)

  abbrev SomePowers : List Factor → Type 0
  SomePowers [] = ⊥
  SomePowers (f ∷ fs) = Powers (f ∷ fs)

  abbrev Good : State → Type 0
  Good (start outer) = GoodFrames outer
  Good (operand fr outer) = GoodFrame fr × GoodFrames outer
  Good (based e fr outer) = IsValidTree n e × GoodFrame fr × GoodFrames outer
  Good (exponent e fr outer) = IsValidTree n e × GoodFrame fr × GoodFrames outer
  Good (powered fs ss minus outer) = SomePowers fs × Terms ss × GoodFrames outer
  Good (termed ss outer) = SomeTerms ss × GoodFrames outer
  Good (whole e outer) = IsValidTree n e × GoodFrames outer

  -- what a token adds to a tree is valid
  abbrev FitsNames : Token → Type 0
  FitsNames (tok.Number k) = k < 2 ^ 64
  FitsNames (tok.Name i) = i < n
  FitsNames t = Unit {0}

  some_powers : (fs : List Factor) (f : Factor) → Powers (fs ++ f ∷ []) → SomePowers (fs ++ f ∷ [])
  some_powers [] f h = h
  some_powers (g ∷ fs) f h = h

  some_terms : (ss : List Summand) (s : Summand) → Terms (ss ++ s ∷ []) → SomeTerms (ss ++ s ∷ [])
  some_terms [] s h = h
  some_terms (t ∷ ss) s h = h

  with_good : (fr : Frame) (e : Expr) → GoodFrame fr → IsValidTree n e → SomePowers (with_factor fr e)
  with_good fr e g h =
      let f : Factor = record { divide = fr.divide; of = e } in
      some_powers fr.factors f (factors_more fr.factors f g.1.0 h, begins_more fr.factors f g.1.1 g.2)

  term_some : (fs : List Factor) → SomePowers fs → IsValidTree n (term_of fs)
  term_some [] h = absurd h
  term_some (f ∷ fs) h = term_valid f fs h

  powers_some : (fs : List Factor) → SomePowers fs → Powers fs × (fs ≡ [] → ⊥)
  powers_some [] h = absurd h
  powers_some (f ∷ fs) h = (h, λ e. cc e)

  terms_some : (ss : List Summand) → SomeTerms ss → Terms ss
  terms_some [] h = absurd h
  terms_some (s ∷ ss) h = h

  expression_some : (ss : List Summand) → SomeTerms ss → IsValidTree n (expression_of ss)
  expression_some [] h = absurd h
  expression_some (s ∷ ss) h = expression_valid s ss h

  terms_more : (fs : List Factor) (ss : List Summand) (minus : Bool) → SomePowers fs → Terms ss →
      SomeTerms (ss ++ record { minus = minus; of = term_of fs } ∷ [])
  terms_more fs ss minus h k =
      let s : Summand = record { minus = minus; of = term_of fs } in
      some_terms ss s (summands_more ss s k (term_some fs h))

  fresh_good : (ss : List Summand) (minus : Bool) → Terms ss → GoodFrame (fresh ss minus)
  fresh_good ss minus h = (h, (tt, tt), λ _. refl)

  whole_good : (e : Expr) (o : List Frame) (t : Token) → IsValidTree n e → GoodFrames o → OnSome (step_whole e o t) Good
  whole_good e (fr ∷ o) tok.Close h g = (h, g.0, g.1)
  whole_good e (fr ∷ o) t h g = tt
  whole_good e [] t h g = tt

  termed_good : (ss : List Summand) (o : List Frame) (t : Token) → SomeTerms ss → GoodFrames o →
      OnSome (step_termed ss o t) Good
  termed_good ss o tok.Plus h g = (fresh_good ss false (terms_some ss h), g)
  termed_good ss o tok.Minus h g = (fresh_good ss true (terms_some ss h), g)
  termed_good ss o t h g = whole_good (expression_of ss) o t (expression_some ss h) g

  powered_good : (fs : List Factor) (ss : List Summand) (m : Bool) (o : List Frame) (t : Token) → SomePowers fs →
      Terms ss → GoodFrames o → OnSome (step_powered fs ss m o t) Good
  powered_good fs ss m o tok.Times h k g =
      let p = powers_some fs h in ((k, p.0, λ e. absurd (p.1 e)), g)
  powered_good fs ss m o tok.Divide h k g =
      let p = powers_some fs h in ((k, p.0, λ e. absurd (p.1 e)), g)
  powered_good fs ss m o t h k g =
      termed_good (ss ++ record { minus = m; of = term_of fs } ∷ []) o t (terms_more fs ss m h k) g

  operand_good : (fr : Frame) (o : List Frame) (t : Token) → FitsNames t → GoodFrame fr → GoodFrames o →
      OnSome (step_operand fr o t) Good
  operand_good fr o (tok.Number k) f h g = (f, h, g)
  operand_good fr o (tok.Name i) f h g = (f, h, g)
  operand_good fr o tok.MainVariable f h g = (tt, h, g)
  operand_good fr o tok.Open f h g = (h, g)
  operand_good fr o t f h g = tt

  step_good : (s : State) (place : ℕ) (t : Token) → FitsNames t → Good s → broken s place t ≡ None →
      OnSome (step s t) Good
  step_good (start o) place tok.Minus f h b = (fresh_good [] true tt, h)
  step_good (start o) place t f h b = operand_good (fresh [] false) o t f (fresh_good [] false tt) h
  step_good (operand fr o) place t f h b = operand_good fr o t f h.0 h.1
  step_good (based e fr o) place tok.Power f h b = h
  step_good (based e fr o) place t f h b =
      powered_good (with_factor fr e) fr.summands fr.minus o t (with_good fr e h.1 h.0) h.1.0 h.2
  step_good (exponent e fr o) place (tok.Number k) f h b =
      (with_good fr (Power e k) h.1 (power_valid e k h.0 (small place k b)), h.1.0, h.2)
    where
      small : (place k : ℕ) → cond (nat_le k 255) None (Some (err.ExponentTooLarge place)) ≡ None → k ≤ 255
      small place k b = grind arith
  step_good (exponent e fr o) place t f h b = tt
  step_good (powered fs ss m o) place t f h b = powered_good fs ss m o t h.0 h.1 h.2
  step_good (termed ss o) place t f h b = termed_good ss o t h.0 h.1
  step_good (whole e o) place t f h b = whole_good e o t h.0 h.1

  abbrev OnTree : Option Expr → Type 0
  OnTree None = Unit {0}
  OnTree (Some e) = IsValidTree n e

  closed_good : (e : Expr) (o : List Frame) → IsValidTree n e → OnTree (closed e o)
  closed_good e [] h = h
  closed_good e (fr ∷ o) h = tt

  finish_good : (s : State) → Good s → OnTree (finish s)
  finish_good (start o) h = tt
  finish_good (operand fr o) h = tt
  finish_good (based e fr o) h =
      let ss = fr.summands ++ record { minus = fr.minus; of = term_of (with_factor fr e) } ∷ [] in
      let some = terms_more (with_factor fr e) fr.summands fr.minus (with_good fr e h.1 h.0) h.1.0 in
      closed_good (expression_of ss) o (expression_some ss some)
  finish_good (exponent e fr o) h = tt
  finish_good (powered fs ss m o) h =
      closed_good _ o (expression_some (ss ++ record { minus = m; of = term_of fs } ∷ []) (terms_more fs ss m h.0 h.1))
  finish_good (termed ss o) h = closed_good (expression_of ss) o (expression_some ss h.0)
  finish_good (whole e o) h = closed_good e o h.0

  abbrev OnRead : Result Expr Fault → Type 0
  OnRead (Ok e) = IsValidTree n e
  OnRead (Err f) = Unit {0}

  answer_good : (place : ℕ) (o : Option Expr) → OnTree o → OnRead (answer place o)
  answer_good place None h = tt
  answer_good place (Some e) h = h

  -- a token that breaks no limit is one that the grammar sees as it is
  taken : (s : State) (place : ℕ) (t : Token) → FitsNames t → Good s → broken s place t ≡ None →
      OnSome (step s (as_operand t)) Good
  taken s place tok.TooLarge f h b = absurd (too_large s place b)
  taken s place tok.UnknownName f h b = let p = sym (unknown_name s place) ∙ b in absurd (cc p)
  taken s place t f h b = step_good s place t f h b

  go_good : (refused : Fault) (b : Option Fault) (m : Option State) (read : State → Result Expr Fault) →
      (b ≡ None → OnSome m Good) → ((s : State) → Good s → OnRead (read s)) → OnRead (go_on (judged refused b m) read)
  go_good refused b None read h k = tt
  go_good refused None (Some s) read h k = k s (h refl)
  go_good refused (Some f) (Some s) read h k = tt

  abbrev AllFit : List Placed → Type 0
  AllFit [] = Unit {0}
  AllFit (p ∷ ps) = FitsNames p.token × AllFit ps

  one_of : (b : Bool) (x y : Result Expr Fault) → OnRead x → OnRead y → OnRead (cond b x y)
  one_of true x y h k = h
  one_of false x y h k = k

  run_good : (ps : List Placed) (s : State) → AllFit ps → Good s → OnRead (run s ps)
  run_good [] s f h = tt
  run_good (p ∷ ps) s f h = one_of (is_end p.token) _ _ (answer_good p.place (finish s) (finish_good s h))
      (go_good (refusal p.place p.token) (broken s p.place p.token) (step s (as_operand p.token))
      (λ (t : State). run t ps)
      (taken s p.place p.token f.0 h) (λ t g. run_good ps t f.1 g))

  fits_one : (b : Bool) (t u : Token) → FitsNames t → FitsNames u → FitsNames (cond b t u)
  fits_one true t u h k = h
  fits_one false t u h k = k

  fits_all : (b : Bool) (ps qs : List Placed) → AllFit ps → AllFit qs → AllFit (cond b ps qs)
  fits_all true ps qs h k = h
  fits_all false ps qs h k = k

  number_fits : (v : ℕ) → FitsNames (cond (nat_lt v (2 ^ 64)) (tok.Number v) tok.TooLarge)
  number_fits v = elim (nat_lt v (2 ^ 64))
      as (λ b. nat_lt v (2 ^ 64) ≡ b → FitsNames (cond b (tok.Number v) tok.TooLarge))
      [ true ↦ λ e. grind arith | false ↦ λ e. tt ] refl

  place_fits : (i : ℕ) → FitsNames (named (cond (nat_lt i n) (Some i) None))
  place_fits i = elim (nat_lt i n) as (λ b. nat_lt i n ≡ b → FitsNames (named (cond b (Some i) None)))
      [ true ↦ λ e. grind arith | false ↦ λ e. tt ] refl

  symbol_fits : (b : ℕ) → FitsNames (symbol_token b)
  symbol_fits b =
      fits_one (b == 43) _ _ tt (fits_one (b == 45) _ _ tt (fits_one (b == 42) _ _ tt (fits_one (b == 47) _ _ tt
      (fits_one (b == 94) _ _ tt (fits_one (b == 40) _ _ tt (fits_one (b == 41) _ _ tt tt))))))

token_fits : (names : List (List ℕ)) (b : ℕ) (bs : List ℕ) → FitsNames (length names) (token_at names b bs)
token_fits names b bs =
    let word = b ∷ take_while is_name_byte bs in
    fits_one (length names) (is_ascii_digit b) _ _ (number_fits (length names)
    (digits_value 10 (b ∷ take_while is_ascii_digit bs)))
    (fits_one (length names) (is_ascii_alphabetic b) _ _
    (fits_one (length names) (bytes_eq word (codes "Y")) tok.MainVariable (named (position (bytes_eq word) names)) tt
    (place_fits (length names) (position_or_len (bytes_eq word) names)))
    (symbol_fits (length names) b))

tokens_fit : (names : List (List ℕ)) (place skip : ℕ) (bs : List ℕ) → AllFit (length names) (tokens names place skip bs)
tokens_fit names place zero [] = (tt, tt)
tokens_fit names place (suc skip) [] = (tt, tt)
tokens_fit names place (suc skip) (b ∷ bs) = tokens_fit names (place + 1) skip bs
tokens_fit names place zero (b ∷ bs) = fits_all (length names) (is_blank b) _ _ (tokens_fit names (place + 1) 0 bs)
    (token_fits names b bs, tokens_fit names (place + 1) (more_bytes b bs) bs)

-- what is read from a text is valid for the names
pub valid_answer : (names : List (List ℕ)) (text : List ℕ) (e : Expr) → answered names text ≡ Ok e → IsValidTree
    (length names) e
valid_answer names text e h = subst (λ (r : Result Expr Fault). OnRead (length names) r) h
    (run_good (length names) (tokens_of names text) (start []) (tokens_fit names 0 0 (without_blanks text)) tt)
