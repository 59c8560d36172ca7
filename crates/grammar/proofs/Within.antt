-- Tokens within the limits of depth and exponents have no fault.
use Rattle.std.proofs.Common.{◌≡◌, ◌∙◌, sym, ap, subst, refl, ℕ, zero, suc, ◌+◌, ◌≤◌, Bool, true, false, cond, List}
use Rattle.std.proofs.Common.{[], ◌∷◌, ◌++◌, append_assoc, append-nil, map, inl, inr, arith}
use Rattle.ps_model.specs.Tokens.{Token, Placed, is_end, before_end}
use Rattle.ps_model.specs.Tokens as tok
use Rattle.ps_model.specs.FirstFault.{Fault, as_operand, opened, closed, opening, closing, is_power, awaits_exponent}
use Rattle.ps_model.specs.FirstFault.{IsAllowed, Passes, IsFirstFaultOf}
use Rattle.ps_model.specs.declared.expr.Expr.{Expr}
use Rattle.ps_model.specs.Grammar.{IsExpression}
use Rattle.grammar.proofs.Run.{EndsOnce, not_both}

-- With so many parentheses still to open, and with an exponent due or not, no token breaks a limit.
abbrev pub ExponentFits : Bool → ℕ → Type 0
ExponentFits true n = n ≤ 255
ExponentFits false n = Unit {0}

abbrev pub OneLess : ℕ → (ℕ → Type 0) → Type 0
OneLess zero P = ⊥
OneLess (suc d) P = P d

abbrev pub Fits : ℕ → Bool → List Token → Type 0
Fits d due [] = Unit {0}
Fits d due (tok.Open ∷ ts) = OneLess d (λ n. Fits n false ts)
Fits d due (tok.Close ∷ ts) = Fits (suc d) false ts
Fits d due (tok.Number n ∷ ts) = ExponentFits due n × Fits d false ts
Fits d due (tok.Power ∷ ts) = Fits d true ts
Fits d due (tok.TooLarge ∷ ts) = ⊥
Fits d due (tok.UnknownName ∷ ts) = ⊥
Fits d due (tok.Bad ∷ ts) = ⊥
Fits d due (tok.End ∷ ts) = ⊥
Fits d due (t ∷ ts) = Fits d false ts

-- what is left behind a token
record Step (d : ℕ) (t : Token) (ts : List Token) : Type 0 where
  after : ℕ
  deep : after + opening t ≡ d + closing t
  fits : Fits after (is_power t) ts

fits_step : (d : ℕ) (due : Bool) (t : Token) (ts : List Token) → Fits d due (t ∷ ts) → Step d t ts
fits_step zero due tok.Open ts h = absurd h
fits_step (suc d) due tok.Open ts h = record { after = d; deep = omega arith; fits = h }
fits_step d due tok.Close ts h = record { after = suc d; deep = omega arith; fits = h }
fits_step d due (tok.Number n) ts h = record { after = d; deep = omega arith; fits = h.1 }
fits_step d due tok.TooLarge ts h = absurd h
fits_step d due tok.UnknownName ts h = absurd h
fits_step d due tok.Bad ts h = absurd h
fits_step d due tok.End ts h = absurd h
fits_step d due t ts h = record { after = d; deep = omega arith; fits = h }

opened_more : (before : List Token) (t : Token) → opened (before ++ t ∷ []) ≡ opened before + opening t
opened_more [] t = omega arith
opened_more (b ∷ before) t = omega (arith, opened_more before t)

closed_more : (before : List Token) (t : Token) → closed (before ++ t ∷ []) ≡ closed before + closing t
closed_more [] t = omega arith
closed_more (b ∷ before) t = omega (arith, closed_more before t)

awaits_more : (before : List Token) (t : Token) → awaits_exponent (before ++ t ∷ []) ≡ is_power t
awaits_more [] t = refl
awaits_more (b ∷ []) t = refl
awaits_more (b ∷ c ∷ before) t = awaits_more (c ∷ before) t

mended_split : (before : List Token) (t : Token) (ts : List Token) → map as_operand (before ++ t ∷ ts) ≡ map as_operand
    (before ++ t ∷ []) ++ map as_operand ts
mended_split [] t ts = refl
mended_split (b ∷ before) t ts = ap (λ (y : List Token). as_operand b ∷ y) (mended_split before t ts)

allowed_of : (before : List Token) (t : Token) (ts : List Token) (e : Expr) → is_end t ≡ false → IsExpression
    (map as_operand (before ++ t ∷ ts)) e → IsAllowed before t
allowed_of before tok.End ts e h k = absurd (cc h)
allowed_of before t ts e h k = (
  map as_operand ts,
  e,
  subst (λ (us : List Token). IsExpression us e)
      (mended_split before t ts) k,
)

number_fits : (d n : ℕ) (ts : List Token) → Fits d true (tok.Number n ∷ ts) → n ≤ 255
number_fits d n ts h = h.0

-- a token within the limits passes
passing : (before : List Token) (d : ℕ) (due : Bool) (t : Token) (ts : List Token) → IsAllowed before t →
    Fits d due (t ∷ ts) → d + opened before ≡ 64 + closed before → awaits_exponent before ≡ due → Passes before t
passing before d due tok.TooLarge ts a h deep w = absurd h
passing before d due tok.UnknownName ts a h deep w = absurd h
passing before d due tok.Bad ts a h deep w = absurd h
passing before d due tok.End ts a h deep w = absurd h
passing before d true (tok.Number n) ts a h deep w = record {
  begins = tt;
  allowed = a;
  known = tt;
  number = tt;
  exponent = λ _. number_fits d n ts h;
  shallow = tt;
}
passing before d false (tok.Number n) ts a h deep w = record {
  begins = tt;
  allowed = a;
  known = tt;
  number = tt;
  exponent = λ y. absurd (cc (y, w));
  shallow = tt;
}
passing before zero due tok.Open ts a h deep w = absurd h
passing before (suc d) due tok.Open ts a h deep w = record {
  begins = tt;
  allowed = a;
  known = tt;
  number = tt;
  exponent = tt;
  shallow = omega arith;
}
passing before d due t ts a h deep w = record {
  begins = tt;
  allowed = a;
  known = tt;
  number = tt;
  exponent = tt;
  shallow = tt;
}

body_other : (place : ℕ) (t : Token) (ps : List Placed) → is_end t ≡ false → before_end
    (record { place = place; token = t } ∷ ps) ≡ t ∷ before_end ps
body_other place t ps h = ap (λ (b : Bool). cond b [] (t ∷ before_end ps)) h

end_passes : (before : List Token) (t : Token) (e : Expr) → is_end t ≡ true → IsExpression (map as_operand before) e →
    Passes before t
end_passes before tok.End e h k = record {
  begins = tt;
  allowed = (e, k);
  known = tt;
  number = tt;
  exponent = tt;
  shallow = tt;
}
end_passes before t e h k = absurd (cc h)

within_from : (ps : List Placed) (before : List Token) (d : ℕ) (due : Bool) (e : Expr) (f : Fault) → EndsOnce ps →
    Fits d due (before_end ps) → d + opened before ≡ 64 + closed before → awaits_exponent before ≡ due →
    IsExpression (map as_operand (before ++ before_end ps)) e → IsFirstFaultOf before ps f → ⊥
within_from [] before d due e f ends h deep w k l = l
within_from (p ∷ []) before d due e f ends h deep w k (inl l) =
    let none : before_end (p ∷ []) ≡ [] = ap (λ (b : Bool). cond b [] (p.token ∷ [])) ends in
    let spelled = subst (λ (ts : List Token). IsExpression (map as_operand ts) e)
    (ap (λ (y : List Token). before ++ y) none ∙ append-nil before) k in
    not_both before p f (end_passes before p.token e ends spelled) l
within_from (p ∷ []) before d due e f ends h deep w k (inr l) = l.1
within_from (p ∷ q ∷ ps) before d due e f ends h deep w k (inl l) =
    let same = body_other p.place p.token (q ∷ ps) ends.0 in
    not_both before p f (passing before d due p.token (before_end (q ∷ ps))
    (allowed_of before p.token (before_end (q ∷ ps)) e ends.0
    (subst (λ (ts : List Token). IsExpression (map as_operand (before ++ ts)) e) same k))
    (subst (λ (ts : List Token). Fits d due ts) same h) deep w) l
within_from (p ∷ q ∷ ps) before d due e f ends h deep w k (inr l) =
    let same = body_other p.place p.token (q ∷ ps) ends.0 in
    let s = fits_step d due p.token (before_end (q ∷ ps)) (subst (λ (ts : List Token). Fits d due ts) same h) in
    let deeper : s.after + opened (before ++ p.token ∷ []) ≡ 64 + closed (before ++ p.token ∷ []) = omega
    (arith, s.deep, deep, opened_more before p.token, closed_more before p.token) in
    let whole : IsExpression (map as_operand ((before ++ p.token ∷ []) ++ before_end (q ∷ ps))) e =
    subst (λ (ts : List Token). IsExpression (map as_operand ts) e)
    (ap (λ (y : List Token). before ++ y) same ∙ sym
    (append_assoc before (p.token ∷ []) (before_end (q ∷ ps)))) k in
    within_from (q ∷ ps) (before ++ p.token ∷ []) s.after (is_power p.token) e f ends.1 s.fits deeper
    (awaits_more before p.token) whole l.1

-- an expression within the limits has no fault
pub within : (ps : List Placed) (e : Expr) (f : Fault) → EndsOnce ps → Fits 64 false (before_end ps) → IsExpression
    (map as_operand (before_end ps)) e → IsFirstFaultOf [] ps f → ⊥
within ps e f ends h k l = within_from ps [] 64 false e f ends h refl refl k l

plain_one : (d : ℕ) (due : Bool) (t : Token) (ts : List Token) → Fits d due (t ∷ ts) → as_operand t ≡ t
plain_one d due tok.TooLarge ts h = absurd h
plain_one d due tok.UnknownName ts h = absurd h
plain_one d due t ts h = refl

pub plain : (d : ℕ) (due : Bool) (ts : List Token) → Fits d due ts → map as_operand ts ≡ ts
plain d due [] h = refl
plain d due (t ∷ ts) h = let s = fits_step d due t ts h in let one = plain_one d due t ts h in let others =
    plain s.after (is_power t) ts s.fits in cc
