-- The canonical spelling of a tree spells it.
use Rattle.std.proofs.Common.{◌≡◌, ◌≢◌, ◌∙◌, sym, ap, subst, refl, ℕ, zero, suc, ◌+◌, ◌<◌, ◌≤◌, ◌^◌, Bool, true}
use Rattle.std.proofs.Common.{false, cond, List, [], ◌∷◌, ◌++◌, length, append_assoc, append-nil, Some, arith, codes}
use Rattle.std.proofs.Common.{nat_lt, slice_get, unwrap_or, max, map}
use Rattle.std.proofs.lemmas.Grind.{common_steps}
use Rattle.std.proofs.lemmas.List.Sums.{take_while-cons}
use Rattle.std.proofs.lemmas.Slice.Eq.{bytes_eq-Decides}
use Rattle.std.proofs.lemmas.Bool.{false_from_ne_true}
use Rattle.std.proofs.lemmas.Fmt.{decimal_is_IsNumeral}
use Rattle.std.specs.Prelude.{take_while}
use Rattle.std.specs.List.{position, position_from}
use Rattle.std.proofs.lemmas.Iterator.Adapters.{position_from-zero}
use Rattle.std.specs.Char.{is_ascii_digit, is_ascii_alphabetic, digit_value}
use Rattle.std.specs.Fmt.{decimal}
use Rattle.std.specs.Str.{bytes_eq}
use Rattle.std.specs.Str.Parse.{digits_value, AllDigits}
use Rattle.ps_model.specs.Tree.{IsValidTree}
use Rattle.ps_model.specs.declared.expr.Expr.{Expr, Number, Name, MainVariable, Sum, Product, Power, Sum', Product'}
use Rattle.ps_model.specs.declared.expr.Expr.{Power'}
use Rattle.ps_model.specs.declared.expr.Summand.{Summand}
use Rattle.ps_model.specs.declared.expr.Factor.{Factor}
use Rattle.ps_model.proofs.Induct.{induct, OfSummands, OfFactors}
use Rattle.ps_model.specs.Tokens.{Token, Placed, is_end, tokens, is_blank, token_at, more_bytes, number_token}
use Rattle.ps_model.specs.Tokens.{word_token, named, before_end, tokens_of, without_blanks}
use Rattle.ps_model.specs.Tokens as tok
use Rattle.ps_model.specs.Grammar.{IsExpression, term, sum, negated, AreMoreTerms, no_term, more_terms, IsTerm, power}
use Rattle.ps_model.specs.Grammar.{product, AreMorePowers, no_power, more_powers, IsPower, base, raised, IsBase}
use Rattle.ps_model.specs.Grammar.{number, name, main, parenthesised, Spells}
use Rattle.ps_model.specs.FirstFault.{as_operand, IsFirstFault, Fault}
use Rattle.ps_model.specs.Names.{is_name_byte}
use Rattle.grammar.proofs.NameLists.{AreWordBytes, IsName, IsAbsent, AreNames}
use Rattle.ps_model.specs.Spelling.{spelling, inside, sign, operator, nesting, nest_inside}
use Rattle.grammar.proofs.Lexed.{token_at-is_end}
use Rattle.grammar.proofs.Whole.{without_blanks-seen, tokens_end}
use Rattle.grammar.proofs.ValidTrees.{SummandsForm, negative, positive, FactorsForm, several, valid_sum}
use Rattle.grammar.proofs.ValidTrees.{valid_product, valid_power}
use Rattle.grammar.proofs.Within.{Fits, within, plain}
use Rattle.grammar.proofs.Lists.{summands_nest, factors_nest, nesting-Sum, nesting-Product, nesting-Power}
use Rattle.grammar.proofs.Lists.{summand_texts, factor_texts, spelling-Sum, spelling-Product, spelling-Power}

-- the tokens of a text without their places
abbrev lexed : List (List ℕ) → ℕ → List ℕ → List Token
lexed names skip [] = []
lexed names (suc skip) (b ∷ bs) = lexed names skip bs
lexed names zero (b ∷ bs) = cond (is_blank b) (lexed names 0 bs)
    (token_at names b bs ∷ lexed names (more_bytes b bs) bs)

body_cond : (b : Bool) (ps : List Placed) (p : Placed) (qs : List Placed) → is_end p.token ≡ false → before_end
    (cond b ps (p ∷ qs)) ≡ cond b (before_end ps) (p.token ∷ before_end qs)
body_cond true ps p qs h = refl
body_cond false ps p qs h = ap (λ (x : Bool). cond x [] (p.token ∷ before_end qs)) h

body_lexed : (names : List (List ℕ)) (place skip : ℕ) (bs : List ℕ) → before_end
    (tokens names place skip bs) ≡ lexed names skip bs
body_lexed names place zero [] = refl
body_lexed names place (suc skip) [] = refl
body_lexed names place (suc skip) (b ∷ bs) = body_lexed names (place + 1) skip bs
body_lexed names place zero (b ∷ bs) =
    body_cond (is_blank b) _ (record { place = place; token = token_at names b bs }) _ (token_at-is_end names b bs)
    ∙ ap (λ (ts : List Token). cond (is_blank b) ts (token_at names b bs ∷ before_end
    (tokens names (place + 1) (more_bytes b bs) bs))) (body_lexed names (place + 1) 0 bs)
    ∙ ap (λ (ts : List Token). cond (is_blank b) (lexed names 0 bs) (token_at names b bs ∷ ts))
    (body_lexed names (place + 1) (more_bytes b bs) bs)

-- what may stand behind a word or a number
abbrev Breaks : List ℕ → Type 0
Breaks [] = Unit {0}
Breaks (b ∷ bs) = is_name_byte b ≡ false

-- a run up to what doesn't go on with it
abbrev AllHold : (ℕ → Bool) → List ℕ → Type 0
AllHold p [] = Unit {0}
AllHold p (b ∷ bs) = (p b ≡ true) × AllHold p bs

run_stops : (p : ℕ → Bool) (xs rest : List ℕ) → AllHold p xs → take_while p rest ≡ [] → take_while p (xs ++ rest) ≡ xs
run_stops p [] rest h e = e
run_stops p (x ∷ xs) rest h e = rw take_while-cons (ap (λ (b : Bool). cond b (x ∷ take_while p (xs ++ rest)) []) h.0
    ∙ ap (λ (ys : List ℕ). x ∷ ys) (run_stops p xs rest h.1 e))

digit_is_word : (b : ℕ) → is_name_byte b ≡ false → is_ascii_digit b ≡ false
digit_is_word b h = grind (arith, common_steps)

stops_word : (rest : List ℕ) → Breaks rest → take_while is_name_byte rest ≡ []
stops_word [] h = refl
stops_word (b ∷ bs) h = rw take_while-cons (ap (λ (x : Bool). cond x (b ∷ take_while is_name_byte bs) []) h)

stops_digit : (rest : List ℕ) → Breaks rest → take_while is_ascii_digit rest ≡ []
stops_digit [] h = refl
stops_digit (b ∷ bs) h = rw take_while-cons (ap (λ (x : Bool). cond x (b ∷ take_while is_ascii_digit bs) [])
    (digit_is_word b h))

lexed_skip : (names : List (List ℕ)) (xs rest : List ℕ) → lexed names (length xs) (xs ++ rest) ≡ lexed names 0 rest
lexed_skip names [] rest = refl
lexed_skip names (x ∷ xs) rest = lexed_skip names xs rest

digit_seen : (b : ℕ) → is_ascii_digit b ≡ true → is_blank b ≡ false
digit_seen b h = grind (arith, common_steps)

letter_seen : (b : ℕ) → is_ascii_alphabetic b ≡ true → (is_blank b ≡ false) × (is_ascii_digit b ≡ false)
letter_seen b h = (grind (arith, common_steps), grind (arith, common_steps))

digit_holds : (d : ℕ) → digit_value d < 10 → is_ascii_digit d ≡ true
digit_holds d h = grind (arith, common_steps)

digits_hold : (ds : List ℕ) → AllDigits 10 ds → AllHold is_ascii_digit ds
digits_hold [] h = tt
digits_hold (d ∷ ds) h = (digit_holds d h.0, digits_hold ds h.1)

words_hold : (bs : List ℕ) → AreWordBytes bs → AllHold is_name_byte bs
words_hold [] h = tt
words_hold (b ∷ bs) h = (h.0, words_hold bs h.1)

-- A text is these tokens, whatever breaks follow it.
abbrev LexesTo : List (List ℕ) → List ℕ → List Token → Type 0
LexesTo names text ts = (rest : List ℕ) → Breaks rest → lexed names 0 (text ++ rest) ≡ ts ++ lexed names 0 rest

chosen_true : {A : Type 0} (b : Bool) (x y : A) → b ≡ true → cond b x y ≡ x
chosen_true b x y h = rw h refl

chosen_false : {A : Type 0} (b : Bool) (x y : A) → b ≡ false → cond b x y ≡ y
chosen_false b x y h = rw h refl

below : (m n : ℕ) → m < n → nat_lt m n ≡ true
below m n h = grind (arith, common_steps)

digits_lex : (names : List (List ℕ)) (ds : List ℕ) → 0 < length ds → AllDigits 10 ds → digits_value 10 ds < 2 ^ 64 →
    LexesTo names ds (tok.Number (digits_value 10 ds) ∷ [])
digits_lex names [] pos h small rest br = absurd (omega arith)
digits_lex names (d ∷ ds) pos h small rest br =
    let digit : is_ascii_digit d ≡ true = digit_holds d h.0 in
    let run : take_while is_ascii_digit (ds ++ rest) ≡ ds = run_stops is_ascii_digit ds rest (digits_hold ds h.1)
    (stops_digit rest br) in
    let token : token_at names d (ds ++ rest) ≡ tok.Number (digits_value 10 (d ∷ ds)) =
    chosen_true (is_ascii_digit d) _ _ digit ∙ ap (λ (xs : List ℕ). number_token (d ∷ xs)) run ∙ chosen_true
    (nat_lt (digits_value 10 (d ∷ ds)) (2 ^ 64)) _ _ (below _ _ small) in
    let bytes : more_bytes d (ds ++ rest) ≡ length ds = chosen_true (is_ascii_digit d) _ _ digit ∙ ap length run in
    chosen_false (is_blank d) _ _ (digit_seen d digit) ∙ ap
    (λ (t : Token). t ∷ lexed names (more_bytes d (ds ++ rest)) (ds ++ rest)) token
    ∙ ap (λ (n : ℕ). tok.Number (digits_value 10 (d ∷ ds)) ∷ lexed names n (ds ++ rest)) bytes ∙ ap
    (λ (ts : List Token). tok.Number (digits_value 10 (d ∷ ds)) ∷ ts) (lexed_skip names ds rest)

number_lex : (names : List (List ℕ)) (c : ℕ) → c < 2 ^ 64 → LexesTo names (decimal c) (tok.Number c ∷ [])
number_lex names c small =
    let p = decimal_is_IsNumeral c small in
    let small' : digits_value 10 (decimal c) < 2 ^ 64 = omega (arith, p.1) in
    subst (λ (n : ℕ). LexesTo names (decimal c) (tok.Number n ∷ [])) p.1
    (digits_lex names (decimal c) p.0.0 p.0.1 small')

word_lex : (names : List (List ℕ)) (w : List ℕ) (t : Token) → IsName w → word_token names w ≡ t → LexesTo names w
    (t ∷ [])
word_lex names [] t h is rest br = absurd h
word_lex names (b ∷ bs) t h is rest br =
    let seen = letter_seen b h.0 in
    let run : take_while is_name_byte (bs ++ rest) ≡ bs = run_stops is_name_byte bs rest (words_hold bs h.1)
    (stops_word rest br) in
    let token : token_at names b (bs ++ rest) ≡ t =
    chosen_false (is_ascii_digit b) _ _ seen.1 ∙ chosen_true (is_ascii_alphabetic b) _ _ h.0 ∙ ap
    (λ (xs : List ℕ). word_token names (b ∷ xs)) run ∙ is in
    let bytes : more_bytes b (bs ++ rest) ≡ length bs = chosen_false (is_ascii_digit b) _ _ seen.1 ∙ chosen_true
    (is_ascii_alphabetic b) _ _ h.0 ∙ ap length run in
    chosen_false (is_blank b) _ _ seen.0 ∙ ap (λ (x : Token). x ∷ lexed names (more_bytes b (bs ++ rest))
    (bs ++ rest)) token
    ∙ ap (λ (n : ℕ). t ∷ lexed names n (bs ++ rest)) bytes ∙ ap (λ (ts : List Token). t ∷ ts) (lexed_skip names bs rest)

-- The name at a position is found there.
abbrev name_at : List (List ℕ) → ℕ → List ℕ
name_at [] i = []
name_at (n ∷ ns) zero = n
name_at (n ∷ ns) (suc i) = name_at ns i

name_at_is : (names : List (List ℕ)) (i : ℕ) → i < length names → unwrap_or (slice_get names i) [] ≡ name_at names i
name_at_is [] i h = absurd (omega arith)
name_at_is (n ∷ ns) zero h = refl
name_at_is (n ∷ ns) (suc i) h = name_at_is ns i (omega arith)

IsName-at : (names : List (List ℕ)) (i : ℕ) → i < length names → AreNames names → IsName (name_at names i)
IsName-at [] i h a = absurd (omega arith)
IsName-at (n ∷ ns) zero h a = a.0
IsName-at (n ∷ ns) (suc i) h a = IsName-at ns i (omega arith) a.2

absent_at : (n : List ℕ) (ns : List (List ℕ)) (i : ℕ) → i < length ns → IsAbsent n ns → n ≢ name_at ns i
absent_at n [] i h a = absurd (omega arith)
absent_at n (m ∷ ns) zero h a = a.0
absent_at n (m ∷ ns) (suc i) h a = absent_at n ns i (omega arith) a.1

index_at : (names : List (List ℕ)) (j i : ℕ) → i < length names → AreNames names →
    position_from (bytes_eq (name_at names i)) j names ≡ Some (j + i)
index_at [] j i h a = absurd (omega arith)
index_at (n ∷ ns) j zero h a =
    let e : j ≡ j + 0 = omega arith in
    chosen_true (bytes_eq n n) _ _ ((bytes_eq-Decides n n).1 refl) ∙ ap Some e
index_at (n ∷ ns) j (suc i) h a =
    let e : j + 1 + i ≡ j + suc i = omega arith in
    let w = name_at ns i in
    let differs : bytes_eq w n ≡ false = false_from_ne_true (bytes_eq w n)
    (λ t. absent_at n ns i (omega arith) a.1 (sym ((bytes_eq-Decides w n).0 t))) in
    chosen_false (bytes_eq w n) _ _ differs ∙ index_at ns (j + 1) i (omega arith) a.2 ∙ ap Some e

not_main : (w : List ℕ) → IsName w → bytes_eq w (codes "Y") ≡ false
not_main [] h = absurd h
not_main (b ∷ bs) h = false_from_ne_true (bytes_eq (b ∷ bs) (codes "Y"))
    (λ t. h.2 ((bytes_eq-Decides (b ∷ bs) (codes "Y")).0 t))

name_lex : (names : List (List ℕ)) (i : ℕ) → i < length names → AreNames names → LexesTo names
    (unwrap_or (slice_get names i) []) (tok.Name i ∷ [])
name_lex names i h a =
    let w = name_at names i in
    let is = IsName-at names i h a in
    let zeroth : 0 + i ≡ i = omega arith in
    let token : word_token names w ≡ tok.Name i = chosen_false (bytes_eq w (codes "Y")) tok.MainVariable
    (named (position (bytes_eq w) names)) (not_main w is) ∙
    ap named (position_from-zero (bytes_eq w) names ∙ index_at names 0 i h a ∙ ap Some zeroth) in
    subst (λ (x : List ℕ). LexesTo names x (tok.Name i ∷ [])) (sym (name_at_is names i h))
    (word_lex names w (tok.Name i) is token)

-- a text that ends in no blank
abbrev Solid : List ℕ → Type 0
Solid text = (xs : List ℕ) × (b : ℕ) × (text ≡ xs ++ b ∷ []) × (is_blank b ≡ false)

Solid-append : (a b : List ℕ) → Solid b → Solid (a ++ b)
Solid-append a b s = (a ++ s.0, s.1, ap (λ (x : List ℕ). a ++ x) s.2 ∙ sym (append_assoc a s.0 (s.1 ∷ [])), s.3)

-- these tokens open at most so many parentheses at once, and have no great exponent
abbrev FitsThen : ℕ → List Token → Type 0
FitsThen d ts = (rest : List Token) → Fits d false rest → Fits d false (ts ++ rest)

-- a part of a spelling, with its tokens
record Part (names : List (List ℕ)) (text : List ℕ) (k : ℕ) (K : List Token → Type 0) : Type 0 where
  tokens : List Token
  fits : (d : ℕ) → k ≤ d → FitsThen d tokens
  lexes : LexesTo names text tokens
  solid : Solid text
  class : K tokens

-- the rule of the grammar that a tree is of
abbrev RuleOf : Expr → List Token → Type 0
RuleOf (Sum' shape row) ts = IsExpression ts (Sum' shape row)
RuleOf (Product' shape row) ts = IsTerm ts (Product' shape row)
RuleOf (Power' shape row n) ts = IsPower ts (Power' shape row n)
RuleOf (Number c) ts = IsBase ts (Number c)
RuleOf (Name i) ts = IsBase ts (Name i)
RuleOf MainVariable ts = IsBase ts MainVariable

abbrev Canon : List (List ℕ) → Expr → Type 0
Canon names e = Part names (spelling names e) (nesting e) (RuleOf e)

enclosed_fits : (k d : ℕ) (ts : List Token) → ((d : ℕ) → k ≤ d → FitsThen d ts) → k + 1 ≤ d → FitsThen d
    (tok.Open ∷ ts ++ tok.Close ∷ [])
enclosed_fits k zero ts fits h rest r = absurd (omega arith)
enclosed_fits k (suc d) ts fits h rest r = subst (λ (us : List Token). Fits d false us)
    (sym (append_assoc ts (tok.Close ∷ []) rest)) (fits d (omega arith) (tok.Close ∷ rest) r)

enclosed : (names : List (List ℕ)) (text : List ℕ) (k : ℕ) (e : Expr) → Part names text k (λ ts. IsExpression ts e) →
    Part names (codes "(" ++ text ++ codes ")") (k + 1) (λ ts. IsBase ts e)
enclosed names text k e p = record {
  tokens = tok.Open ∷ p.tokens ++ tok.Close ∷ [];
  fits = λ d h. enclosed_fits k d p.tokens p.fits h;
  lexes = λ rest br. ap (λ (x : List ℕ). tok.Open ∷ lexed names 0 x) (append_assoc text (41 ∷ []) rest) ∙ ap
      (λ (ts : List Token). tok.Open ∷ ts) (p.lexes (41 ∷ rest) refl)
      ∙ ap (λ (ts : List Token). tok.Open ∷ ts) (sym (append_assoc p.tokens (tok.Close ∷ []) (lexed names 0 rest)));
  solid = (40 ∷ text, 41, refl, refl);
  class = parenthesised p.class;
}

weaker : (names : List (List ℕ)) (text : List ℕ) (k : ℕ) (K L : List Token → Type 0) →
    ((ts : List Token) → K ts → L ts) → Part names text k K → Part names text k L
weaker names text k K L f p = record {
  tokens = p.tokens;
  fits = p.fits;
  lexes = p.lexes;
  solid = p.solid;
  class =
      f p.tokens p.class;
}

inside_sum : (names : List (List ℕ)) (e : Expr) → Canon names e → Part names (inside 1 e (spelling names e))
    (nest_inside 1 e (nesting e)) (λ ts. IsTerm ts e)
inside_sum names (Sum' shape row) p = weaker names _ _ _ _ (λ ts h. power (base h)) (enclosed names _ _ _ p)
inside_sum names (Product' shape row) p = p
inside_sum names (Power' shape row n) p = weaker names _ _ _ _ (λ ts h. power h) p
inside_sum names (Number c) p = weaker names _ _ _ _ (λ ts h. power (base h)) p
inside_sum names (Name i) p = weaker names _ _ _ _ (λ ts h. power (base h)) p
inside_sum names MainVariable p = weaker names _ _ _ _ (λ ts h. power (base h)) p

inside_product : (names : List (List ℕ)) (e : Expr) → Canon names e → Part names (inside 2 e (spelling names e))
    (nest_inside 2 e (nesting e)) (λ ts. IsPower ts e)
inside_product names (Sum' shape row) p = weaker names _ _ _ _ (λ ts h. base h) (enclosed names _ _ _ p)
inside_product names (Product' shape row) p = weaker names _ _ _ _ (λ ts h. base h)
    (enclosed names _ _ _ (weaker names _ _ _ _ (λ ts h. term h) p))
inside_product names (Power' shape row n) p = p
inside_product names (Number c) p = weaker names _ _ _ _ (λ ts h. base h) p
inside_product names (Name i) p = weaker names _ _ _ _ (λ ts h. base h) p
inside_product names MainVariable p = weaker names _ _ _ _ (λ ts h. base h) p

inside_power : (names : List (List ℕ)) (e : Expr) → Canon names e → Part names (inside 3 e (spelling names e))
    (nest_inside 3 e (nesting e)) (λ ts. IsBase ts e)
inside_power names (Sum' shape row) p = enclosed names _ _ _ p
inside_power names (Product' shape row) p = enclosed names _ _ _ (weaker names _ _ _ _ (λ ts h. term h) p)
inside_power names (Power' shape row n) p = enclosed names _ _ _ (weaker names _ _ _ _ (λ ts h. term (power h)) p)
inside_power names (Number c) p = p
inside_power names (Name i) p = p
inside_power names MainVariable p = p

-- Texts without blanks.
abbrev NoBlanks : List ℕ → Type 0
NoBlanks [] = Unit {0}
NoBlanks (b ∷ bs) = (is_blank b ≡ false) × NoBlanks bs

Solid-from : (b : ℕ) (bs : List ℕ) → is_blank b ≡ false → NoBlanks bs → Solid (b ∷ bs)
Solid-from b [] h k = ([], b, refl, h)
Solid-from b (c ∷ bs) h k = Solid-append (b ∷ []) (c ∷ bs) (Solid-from c bs k.0 k.1)

digits_seen : (ds : List ℕ) → AllDigits 10 ds → NoBlanks ds
digits_seen [] h = tt
digits_seen (d ∷ ds) h = (digit_seen d (digit_holds d h.0), digits_seen ds h.1)

word_seen : (b : ℕ) → is_name_byte b ≡ true → is_blank b ≡ false
word_seen b h = grind (arith, common_steps)

words_seen : (bs : List ℕ) → AreWordBytes bs → NoBlanks bs
words_seen [] h = tt
words_seen (b ∷ bs) h = (word_seen b h.0, words_seen bs h.1)

Solid-digits : (ds : List ℕ) → 0 < length ds → AllDigits 10 ds → Solid ds
Solid-digits [] pos h = absurd (omega arith)
Solid-digits (d ∷ ds) pos h = Solid-from d ds (digit_seen d (digit_holds d h.0)) (digits_seen ds h.1)

Solid-decimal : (n : ℕ) → n < 2 ^ 64 → Solid (decimal n)
Solid-decimal n h = let p = decimal_is_IsNumeral n h in Solid-digits (decimal n) p.0.0 p.0.1

Solid-name : (w : List ℕ) → IsName w → Solid w
Solid-name [] h = absurd h
Solid-name (b ∷ bs) h = Solid-from b bs (letter_seen b h.0).0 (words_seen bs h.1)

-- what follows a first part
record Tail (names : List (List ℕ)) (text : List ℕ) (k : ℕ) (K : List Token → Type 0) : Type 0 where
  tokens : List Token
  fits : (d : ℕ) → k ≤ d → FitsThen d tokens
  lexes : LexesTo names text tokens
  breaks : (rest : List ℕ) → Breaks rest → Breaks (text ++ rest)
  solid : (a : List ℕ) → Solid a → Solid (a ++ text)
  class : K tokens

module _ (names : List (List ℕ)) (P T : List ℕ) (j k : ℕ) (K L : List Token → Type 0) (p : Part names P j K)
    (q : Tail names T k L) where
  both_fit : (d : ℕ) → max j k ≤ d → FitsThen d (p.tokens ++ q.tokens)
  both_fit d h rest r = subst (λ (us : List Token). Fits d false us) (sym (append_assoc p.tokens q.tokens rest))
      (p.fits d (omega arith) (q.tokens ++ rest) (q.fits d (omega arith) rest r))

  joined : (rest : List ℕ) → Breaks rest → lexed names 0 ((P ++ T) ++ rest) ≡
      (p.tokens ++ q.tokens) ++ lexed names 0 rest
  joined rest br =
      ap (lexed names 0) (append_assoc P T rest) ∙ p.lexes (T ++ rest) (q.breaks rest br) ∙ ap
      (λ (ts : List Token). p.tokens ++ ts) (q.lexes rest br)
      ∙ sym (append_assoc p.tokens q.tokens (lexed names 0 rest))

  behind_sign : (b : ℕ) (t : Token) (M : List Token → Type 0) → is_name_byte b ≡ false →
      ((bs : List ℕ) → lexed names 0 (b ∷ bs) ≡ t ∷ lexed names 0 bs) →
      ((d : ℕ) (ts : List Token) → Fits d false ts → Fits d false (t ∷ ts)) → M (t ∷ p.tokens ++ q.tokens) → Tail names
      (b ∷ P ++ T) (max j k) M
  behind_sign b t M br step free m = record {
    tokens = t ∷ p.tokens ++ q.tokens;
    fits = λ d h rest r. free d ((p.tokens ++ q.tokens) ++ rest) (both_fit d h rest r);
    lexes = λ rest h. step ((P ++ T) ++ rest) ∙ ap (λ (ts : List Token). t ∷ ts) (joined rest h);
    breaks = λ rest h. br;
    solid = λ a s. Solid-append a (b ∷ P ++ T) (q.solid (b ∷ P) (Solid-append (b ∷ []) P p.solid));
    class = m;
  }

  behind_blanks : (b : ℕ) (t : Token) (M : List Token → Type 0) →
      ((bs : List ℕ) → lexed names 0 (32 ∷ b ∷ 32 ∷ bs) ≡ t ∷ lexed names 0 bs) →
      ((d : ℕ) (ts : List Token) → Fits d false ts → Fits d false (t ∷ ts)) → M (t ∷ p.tokens ++ q.tokens) → Tail names
      (32 ∷ b ∷ 32 ∷ P ++ T) (max j k) M
  behind_blanks b t M step free m = record {
    tokens = t ∷ p.tokens ++ q.tokens;
    fits = λ d h rest r. free d ((p.tokens ++ q.tokens) ++ rest) (both_fit d h rest r);
    lexes = λ rest h. step ((P ++ T) ++ rest) ∙ ap (λ (ts : List Token). t ∷ ts) (joined rest h);
    breaks = λ rest h. refl;
    solid = λ a s. Solid-append a (32 ∷ b ∷ 32 ∷ P ++ T)
        (q.solid (32 ∷ b ∷ 32 ∷ P) (Solid-append (32 ∷ b ∷ 32 ∷ []) P p.solid));
    class = m;
  }

  in_front : (M : List Token → Type 0) → M (p.tokens ++ q.tokens) → Part names (P ++ T) (max j k) M
  in_front M m = record {
    tokens = p.tokens ++ q.tokens;
    fits = both_fit;
    lexes = joined;
    solid = q.solid P p.solid;
    class = m;
  }

  with_minus : (M : List Token → Type 0) → M (tok.Minus ∷ p.tokens ++ q.tokens) → Part names (45 ∷ P ++ T) (max j k) M
  with_minus M m = record {
    tokens = tok.Minus ∷ p.tokens ++ q.tokens;
    fits = λ d h rest r. both_fit d h rest r;
    lexes = λ rest h. ap (λ (ts : List Token). tok.Minus ∷ ts) (joined rest h);
    solid = q.solid (45 ∷ P) (Solid-append (45 ∷ []) P p.solid);
    class = m;
  }

nothing : (names : List (List ℕ)) (K : List Token → Type 0) → K [] → Tail names [] 0 K
nothing names K k = record {
  tokens = [];
  fits = λ d h rest r. r;
  lexes = λ rest br. refl;
  breaks = λ rest br. br;
  solid = λ a s. subst Solid (sym (append-nil a)) s;
  class = k;
}

factor_tail : (names : List (List ℕ)) (d : Bool) (e : Expr) (P T : List ℕ) (j k : ℕ) (fs : List Factor) →
    Part names P j (λ ts. IsPower ts e) → Tail names T k (λ ts. AreMorePowers ts fs) →
    Tail names (operator false d ++ P ++ T) (max j k) (λ ts. AreMorePowers ts (record { divide = d; of = e } ∷ fs))
factor_tail names true e P T j k fs p q = behind_sign names P T _ _ _ _ p q 47 tok.Divide _ refl (λ bs. refl)
    (λ d ts h. h) (more_powers true p.class q.class)
factor_tail names false e P T j k fs p q = behind_sign names P T _ _ _ _ p q 42 tok.Times _ refl (λ bs. refl)
    (λ d ts h. h) (more_powers false p.class q.class)

factors_tail : (names : List (List ℕ)) (fs : List Factor) → OfFactors (Canon names) fs → Tail names
    (factor_texts names false fs) (factors_nest fs) (λ ts. AreMorePowers ts fs)
factors_tail names [] h = nothing names _ no_power
factors_tail names (f ∷ fs) h = factor_tail names f.divide f.of _ _ _ _ fs (inside_product names f.of h.0)
    (factors_tail names fs h.1)

summand_tail : (names : List (List ℕ)) (m : Bool) (e : Expr) (P T : List ℕ) (j k : ℕ) (ss : List Summand) →
    Part names P j (λ ts. IsTerm ts e) → Tail names T k (λ ts. AreMoreTerms ts ss) →
    Tail names (sign false m ++ P ++ T) (max j k) (λ ts. AreMoreTerms ts (record { minus = m; of = e } ∷ ss))
summand_tail names true e P T j k ss p q = behind_blanks names P T _ _ _ _ p q 45 tok.Minus _ (λ bs. refl)
    (λ d ts h. h) (more_terms true p.class q.class)
summand_tail names false e P T j k ss p q = behind_blanks names P T _ _ _ _ p q 43 tok.Plus _ (λ bs. refl)
    (λ d ts h. h) (more_terms false p.class q.class)

summands_tail : (names : List (List ℕ)) (ss : List Summand) → OfSummands (Canon names) ss → Tail names
    (summand_texts names false ss) (summands_nest ss) (λ ts. AreMoreTerms ts ss)
summands_tail names [] h = nothing names _ no_term
summands_tail names (s ∷ ss) h = summand_tail names s.minus s.of _ _ _ _ ss (inside_sum names s.of h.0)
    (summands_tail names ss h.1)

module _ (names : List (List ℕ)) (are : AreNames names) where
  abbrev Goal : Expr → Type 0
  Goal e = IsValidTree (length names) e → Canon names e

  summands_of : (ss : List Summand) → OfSummands Goal ss → OfSummands (IsValidTree (length names)) ss → OfSummands
      (Canon names) ss
  summands_of [] h l = tt
  summands_of (s ∷ ss) h l = (h.0 l.0, summands_of ss h.1 l.1)

  factors_of : (fs : List Factor) → OfFactors Goal fs → OfFactors (IsValidTree (length names)) fs → OfFactors
      (Canon names) fs
  factors_of [] h l = tt
  factors_of (f ∷ fs) h l = (h.0 l.0, factors_of fs h.1 l.1)

  sum_parts : (ss : List Summand) → SummandsForm ss → OfSummands (Canon names) ss → Part names
      (summand_texts names true ss) (summands_nest ss) (λ ts. IsExpression ts (Sum ss))
  sum_parts ss (negative e more) h = let q = summands_tail names more h.1 in let p =
      inside_sum names e h.0 in with_minus names _ _ _ _ _ _ p q _ (negated p.class q.class)
  sum_parts ss (positive e s more) h = let q = summands_tail names (s ∷ more) h.1 in let p =
      inside_sum names e h.0 in in_front names _ _ _ _ _ _ p q _ (sum p.class q.class)

  product_parts : (fs : List Factor) → FactorsForm fs → OfFactors (Canon names) fs → Part names
      (factor_texts names true fs) (factors_nest fs) (λ ts. IsTerm ts (Product fs))
  product_parts fs (several e f more) h = let q = factors_tail names (f ∷ more) h.1 in let p =
      inside_product names e h.0 in in_front names _ _ _ _ _ _ p q _ (product p.class q.class)

  canon_sum : (ss : List Summand) → OfSummands Goal ss → Goal (Sum ss)
  canon_sum ss h l = let w = valid_sum (length names) ss l in
      subst (λ (k : ℕ). Part names (spelling names (Sum ss)) k (λ ts. IsExpression ts (Sum ss))) (sym (nesting-Sum ss))
      (subst (λ (text : List ℕ). Part names text (summands_nest ss) (λ ts. IsExpression ts (Sum ss)))
      (sym (spelling-Sum names ss)) (sum_parts ss w.0 (summands_of ss h w.1)))

  canon_product : (fs : List Factor) → OfFactors Goal fs → Goal (Product fs)
  canon_product fs h l = let w = valid_product (length names) fs l in
      subst (λ (k : ℕ). Part names (spelling names (Product fs)) k (λ ts. IsTerm ts (Product fs)))
      (sym (nesting-Product fs))
      (subst (λ (text : List ℕ). Part names text (factors_nest fs) (λ ts. IsTerm ts (Product fs)))
      (sym (spelling-Product names fs)) (product_parts fs w.0 (factors_of fs h w.1)))

  power_part : (b : Expr) (n k : ℕ) → n ≤ 255 → Part names (inside 3 b (spelling names b)) k (λ ts. IsBase ts b) →
      Part names (inside 3 b (spelling names b) ++ codes "^" ++ decimal n) k (λ ts. IsPower ts (Power b n))
  power_part b n k low p =
      let P = inside 3 b (spelling names b) in
      let small : n < 2 ^ 64 = omega arith in
      record {
        fits = λ d h rest r. subst (λ (us : List Token). Fits d false us)
            (sym (append_assoc p.tokens (tok.Power ∷ tok.Number n ∷ []) rest))
            (p.fits d h (tok.Power ∷ tok.Number n ∷ rest) (low, r));
        tokens = p.tokens ++ tok.Power ∷ tok.Number n ∷ [];
        lexes = λ rest br.
            ap (λ (x : List ℕ). lexed names 0 (x ++ rest)) (append_assoc P (94 ∷ []) (decimal n)) ∙ ap (lexed names 0)
            (append_assoc P (94 ∷ decimal n) rest)
            ∙ p.lexes (94 ∷ decimal n ++ rest) refl ∙ ap (λ (ts : List Token). p.tokens ++ tok.Power ∷ ts)
            (number_lex names n small rest br)
            ∙ sym (append_assoc p.tokens (tok.Power ∷ tok.Number n ∷ []) (lexed names 0 rest));
        solid = Solid-append (P ++ 94 ∷ []) (decimal n) (Solid-decimal n small);
        class = raised n p.class;
      }

  canon_power : (b : Expr) (n : ℕ) → Goal b → Goal (Power b n)
  canon_power b n h l = let w = valid_power (length names) b n l in
      subst (λ (k : ℕ). Part names (spelling names (Power b n)) k (λ ts. IsPower ts (Power b n)))
      (sym (nesting-Power b n))
      (subst (λ (text : List ℕ). Part names text (nest_inside 3 b (nesting b)) (λ ts. IsPower ts (Power b n)))
      (sym (spelling-Power names b n)) (power_part b n _ w.1 (inside_power names b (h w.0))))

  canon_number : (c : ℕ) → Goal (Number c)
  canon_number c l = record {
    tokens = tok.Number c ∷ [];
    fits = λ d h rest r. (tt, r);
    lexes = number_lex names c l;
    solid = Solid-decimal c l;
    class = number c;
  }

  canon_name : (i : ℕ) → Goal (Name i)
  canon_name i l = record {
    tokens = tok.Name i ∷ [];
    fits = λ d h rest r. r;
    lexes = name_lex names i l are;
    solid = subst Solid (sym (name_at_is names i l)) (Solid-name (name_at names i) (IsName-at names i l are));
    class = name i;
  }

  main_lex : LexesTo names (codes "Y") (tok.MainVariable ∷ [])
  main_lex rest br = ap (λ (w : List ℕ). word_token names (89 ∷ w) ∷ lexed names (length w) rest) (stops_word rest br)

  canon_main : Goal MainVariable
  canon_main l = record {
    tokens = tok.MainVariable ∷ [];
    fits = λ d h rest r. r;
    lexes = main_lex;
    solid =
        ([], 89, refl, refl);
    class = main;
  }

  canon : (e : Expr) → Goal e
  canon = induct Goal canon_number canon_name canon_main canon_sum canon_product canon_power

  rule_expression : (e : Expr) (ts : List Token) → RuleOf e ts → IsExpression ts e
  rule_expression (Sum' shape row) ts h = h
  rule_expression (Product' shape row) ts h = term h
  rule_expression (Power' shape row n) ts h = term (power h)
  rule_expression (Number c) ts h = term (power (base h))
  rule_expression (Name i) ts h = term (power (base h))
  rule_expression MainVariable ts h = term (power (base h))

  canonical_body : (e : Expr) (l : IsValidTree (length names) e) → before_end (tokens_of names (spelling names e)) ≡
      (canon e l).tokens
  canonical_body e l =
      let p = canon e l in
      let text = spelling names e in
      let whole : without_blanks text ≡ text = ap without_blanks p.solid.2
      ∙ without_blanks-seen p.solid.0 p.solid.1 p.solid.3 ∙ sym p.solid.2 in
      body_lexed names 0 0 (without_blanks text) ∙ ap (lexed names 0) (whole ∙ sym (append-nil text)) ∙ p.lexes [] tt
      ∙ append-nil p.tokens

  pub canonical_spells : (e : Expr) → IsValidTree (length names) e → Spells names (spelling names e) e
  canonical_spells e l =
      let p = canon e l in
      subst (λ (ts : List Token). IsExpression ts e) (sym (canonical_body e l)) (rule_expression e p.tokens p.class)

  -- the spelling of a tree that nests at most 64 deep has no fault
  pub canonical_fits : (e : Expr) → IsValidTree (length names) e → nesting e ≤ 64 → (f : Fault) → IsFirstFault names
      (spelling names e) f → ⊥
  canonical_fits e l shallow f bad =
      let p = canon e l in
      let text = spelling names e in
      let fits : Fits 64 false (before_end (tokens_of names text)) =
      subst (λ (ts : List Token). Fits 64 false ts) (append-nil p.tokens ∙ sym (canonical_body e l))
      (p.fits 64 shallow [] tt) in
      let spelled : IsExpression (map as_operand (before_end (tokens_of names text))) e =
      subst (λ (ts : List Token). IsExpression ts e) (sym (plain 64 false (before_end (tokens_of names text)) fits))
      (canonical_spells e l) in
      within (tokens_of names text) e f (tokens_end names 0 0 (without_blanks text)) fits spelled bad
