-- The grammar of expressions over tokens, with the tree of each.
--     expression = ["-"] term { ("+" | "-") term }
--     term       = power { ("*" | "/") power }
--     power      = base [ "^" number ]
--     base       = number | name | "Y" | "(" expression ")"
-- Each relation says that the tokens are such a part and have this tree. An expression of one term without a minus is
-- that term, a term of one power is that power, and parentheses leave no trace.
--     Spells names text e      the text's tokens are an expression with the tree e
use Rattle.std.specs.Prelude.{ℕ, Bool, true, false, List, [], ◌∷◌, ◌++◌}
use Rattle.ps_model.specs.Tokens.{Token, tokens_of, before_end}
use Rattle.ps_model.specs.Tokens as tok
use Rattle.ps_model.specs.declared.expr.Expr.{Expr, Number, Name, MainVariable, Sum, Product, Power}
use Rattle.ps_model.specs.declared.expr.Summand.{Summand}
use Rattle.ps_model.specs.declared.expr.Factor.{Factor}

-- the sign before a further factor, from whether it divides
abbrev pub factor_sign : Bool → Token
factor_sign true = tok.Divide
factor_sign false = tok.Times

-- the sign before a further summand, from whether it has a minus
abbrev pub summand_sign : Bool → Token
summand_sign true = tok.Minus
summand_sign false = tok.Plus

mutual
  pub data IsExpression : List Token → Expr → Type 0 where
    term : {ts : List Token} {e : Expr} → IsTerm ts e → IsExpression ts e
    sum : {ts us : List Token} {e : Expr} {s : Summand} {ss : List Summand} →
        IsTerm ts e → AreMoreTerms us (s ∷ ss) →
        IsExpression (ts ++ us) (Sum (record { minus = false; of = e } ∷ s ∷ ss))
    negated : {ts us : List Token} {e : Expr} {ss : List Summand} →
        IsTerm ts e → AreMoreTerms us ss →
        IsExpression (tok.Minus ∷ ts ++ us) (Sum (record { minus = true; of = e } ∷ ss))

  pub data AreMoreTerms : List Token → List Summand → Type 0 where
    no_term : AreMoreTerms [] []
    more_terms : {ts us : List Token} {e : Expr} {ss : List Summand} (minus : Bool) →
        IsTerm ts e → AreMoreTerms us ss →
        AreMoreTerms (summand_sign minus ∷ ts ++ us) (record { minus = minus; of = e } ∷ ss)

  pub data IsTerm : List Token → Expr → Type 0 where
    power : {ts : List Token} {e : Expr} → IsPower ts e → IsTerm ts e
    product : {ts us : List Token} {e : Expr} {f : Factor} {fs : List Factor} →
        IsPower ts e → AreMorePowers us (f ∷ fs) →
        IsTerm (ts ++ us) (Product (record { divide = false; of = e } ∷ f ∷ fs))

  pub data AreMorePowers : List Token → List Factor → Type 0 where
    no_power : AreMorePowers [] []
    more_powers : {ts us : List Token} {e : Expr} {fs : List Factor} (divide : Bool) →
        IsPower ts e → AreMorePowers us fs →
        AreMorePowers (factor_sign divide ∷ ts ++ us) (record { divide = divide; of = e } ∷ fs)

  pub data IsPower : List Token → Expr → Type 0 where
    base : {ts : List Token} {e : Expr} → IsBase ts e → IsPower ts e
    raised : {ts : List Token} {e : Expr} (exponent : ℕ) →
        IsBase ts e → IsPower (ts ++ tok.Power ∷ tok.Number exponent ∷ []) (Power e exponent)

  pub data IsBase : List Token → Expr → Type 0 where
    number : (n : ℕ) → IsBase (tok.Number n ∷ []) (Number n)
    name : (i : ℕ) → IsBase (tok.Name i ∷ []) (Name i)
    main : IsBase (tok.MainVariable ∷ []) MainVariable
    parenthesised : {ts : List Token} {e : Expr} →
        IsExpression ts e → IsBase (tok.Open ∷ ts ++ tok.Close ∷ []) e

abbrev pub Spells : List (List ℕ) → List ℕ → Expr → Type 0
Spells names text e = IsExpression (before_end (tokens_of names text)) e
