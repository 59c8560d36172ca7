-- Lines with a known beginning.
use Rattle.std.proofs.Common.{◌≡◌, ℕ, Bool, true, false, cond, List, [], ◌∷◌, ◌++◌, Option, Some, None, codes}
use Rattle.std.proofs.Common.{decimal, eqb}
use Rattle.std.proofs.Common.{refl, sym, ◌∙◌, ap, append_assoc, ◌<◌, length, length-append, arith}
use Rattle.std.proofs.lemmas.Option.{none-some}
use Rattle.std.proofs.lemmas.List.{append_cancel_left}
use Rattle.ps_model.specs.declared.job.Root.{Root}
use Rattle.ps_model.specs.BlockText.{terms_text, newline}
use Rattle.parts.specs.declared.rings.Ring.{Ring}
use Rattle.printer.specs.ReadForms.{◌>>=◌, Gives, strip, head_in, mark_in}
use Rattle.printer.specs.ReadBlock.{head_text, mark_text, BeginsWith, HasLine, HasNoLine, HasMarkedLine}
use Rattle.std.proofs.Common.{Result, Ok, Err, IfOk, IfSome, IfNone}
use Rattle.ps_model.specs.Keys.{Key}
use Rattle.printer.specs.ReadBlock.Form.{Coefficient}
use Rattle.printer.proofs.ReadPowers.{strip_same, strip_is}

strip_cond : (v : Bool) (o : Option (List ℕ)) (b : List ℕ) → cond v (o >>= strip b) None ≡ cond v o None >>= strip b
strip_cond true o b = refl
strip_cond false o b = refl

-- a prefix in two parts
pub strip_append : (a b bytes : List ℕ) → strip (a ++ b) bytes ≡ strip a bytes >>= strip b
strip_append [] b bytes = refl
strip_append (t ∷ ts) b [] = refl
strip_append (t ∷ ts) b (x ∷ xs) =
    ap (λ (o : Option (List ℕ)). cond (eqb x t) o None) (strip_append ts b xs)
    ∙ strip_cond (eqb x t) (strip ts xs) b

bind_assoc : (o : Option (List ℕ)) (f g : List ℕ → Option (List ℕ)) → (o >>= f) >>= g ≡ o >>= (λ x. f x >>= g)
bind_assoc None f g = refl
bind_assoc (Some x) f g = refl

three : (a b c bytes : List ℕ) → strip ((a ++ b) ++ c) bytes ≡ (strip a bytes >>= strip b) >>= strip c
three a b c bytes = strip_append (a ++ b) c bytes ∙ ap (λ (o : Option (List ℕ)). o >>= strip c) (strip_append a b bytes)

seven : (a b c d e f g bytes : List ℕ) → strip ((((((a ++ b) ++ c) ++ d) ++ e) ++ f) ++ g) bytes
    ≡ (((((strip a bytes >>= strip b) >>= strip c) >>= strip d) >>= strip e) >>= strip f) >>= strip g
seven a b c d e f g bytes =
    strip_append (((((a ++ b) ++ c) ++ d) ++ e) ++ f) g bytes
    ∙ ap (λ (o : Option (List ℕ)). o >>= strip g) (strip_append ((((a ++ b) ++ c) ++ d) ++ e) f bytes
    ∙ ap (λ (o : Option (List ℕ)). o >>= strip f) (strip_append (((a ++ b) ++ c) ++ d) e bytes
    ∙ ap (λ (o : Option (List ℕ)). o >>= strip e) (strip_append ((a ++ b) ++ c) d bytes
    ∙ ap (λ (o : Option (List ℕ)). o >>= strip d) (three a b c bytes))))

nested : (o : Option (List ℕ)) (b c d e f g : List ℕ)
    → (((((o >>= strip b) >>= strip c) >>= strip d) >>= strip e) >>= strip f) >>= strip g
    ≡ o >>= (λ x. strip b x >>= (λ x. strip c x >>= (λ x. strip d x >>= (λ x. strip e x >>= (λ x.
    strip f x >>= strip g)))))
nested None b c d e f g = refl
nested (Some x) b c d e f g = second (strip b x) c d e f g
  where
    second : (o : Option (List ℕ)) (c d e f g : List ℕ)
        → ((((o >>= strip c) >>= strip d) >>= strip e) >>= strip f) >>= strip g
        ≡ o >>= (λ x. strip c x >>= (λ x. strip d x >>= (λ x. strip e x >>= (λ x. strip f x >>= strip g))))
    second o c d e f g =
        bind_assoc (((o >>= strip c) >>= strip d) >>= strip e) (strip f) (strip g)
        ∙ bind_assoc ((o >>= strip c) >>= strip d) (strip e) (λ x. strip f x >>= strip g)
        ∙ bind_assoc (o >>= strip c) (strip d) (λ x. strip e x >>= (λ x. strip f x >>= strip g))
        ∙ bind_assoc o (strip c) (λ x. strip d x >>= (λ x. strip e x >>= (λ x. strip f x >>= strip g)))

pub head_is : (i : ℕ) (root : Root) (bytes : List ℕ)
    → head_in i root.value root.times bytes ≡ strip (head_text i root ++ newline) bytes
unfolding head_in
head_is i root bytes =
    sym (seven (codes "factor ") (decimal i) (codes " root ") (decimal root.value) (codes " times ")
    (decimal root.times) newline bytes
    ∙ nested (strip (codes "factor ") bytes) (decimal i) (codes " root ") (decimal root.value) (codes " times ")
    (decimal root.times) newline)

pub mark_is : (j : ℕ) (bytes : List ℕ) → mark_in j bytes ≡ strip (mark_text j) bytes
unfolding mark_in
mark_is j bytes =
    sym (three (codes "Y^") (decimal j) (codes ": ") bytes
    ∙ bind_assoc (strip (codes "Y^") bytes) (strip (decimal j)) (strip (codes ": ")))

pub gives_along : {A : Type 0} (view : A → List ℕ) (r : Option A) (o p : Option (List ℕ)) → o ≡ p
    → Gives view r o → Gives view r p
gives_along view None o p e is = sym e ∙ is
gives_along view (Some x) o p e is = sym e ∙ is

-- what is behind a text that isn't empty is shorter
gives_behind : {A : Type 0} (view : A → List ℕ) (t bytes : List ℕ) (r : Option A) → 0 < length t
    → Gives view r (strip t bytes) → IfSome r (λ p. length (view p) < length bytes)
gives_behind view t bytes None some is = tt
gives_behind view t bytes (Some x) some is =
    let e : length bytes ≡ length (t ++ view x) = ap (λ (l : List ℕ). length l) (strip_is t bytes (view x) is) in
    omega (arith, e, length-append t (view x), some)

pub gives_shorter : {A : Type 0} (view : A → List ℕ) (i : ℕ) (root : Root) (bytes : List ℕ) (r : Option A)
    → Gives view r (strip (head_text i root ++ newline) bytes) → IfSome r (λ p. length (view p) < length bytes)
gives_shorter view i root bytes r is = gives_behind view (head_text i root ++ newline) bytes r
    (some (head_text i root)) is
  where
    some : (l : List ℕ) → 0 < length (l ++ newline)
    some l = omega (arith, length-append l newline)

-- a line that doesn't begin so, or has no terms behind it
module _ (ring : Ring) (names : List (List ℕ)) (D j : ℕ) (mark text : List ℕ) where
  pub no_mark : strip mark text ≡ None → (rest : List ℕ) → BeginsWith ring names D (Coefficient mark j) text rest → ⊥
  no_mark none rest is =
      none-some _ (sym none ∙ ap (strip mark) (is.text_is ∙ ap (λ (l : List ℕ). l ++ rest) is.has_form.2
      ∙ append_assoc mark (terms_text names is.has_form.0 ++ newline) rest)
      ∙ strip_same mark ((terms_text names is.has_form.0 ++ newline) ++ rest))

  pub no_terms : (behind : List ℕ) → strip mark text ≡ Some behind → HasNoLine ring names D j behind → (rest : List ℕ)
      → BeginsWith ring names D (Coefficient mark j) text rest → ⊥
  no_terms behind marked none rest is =
      none is.has_form.0 rest is.has_form.1
      (append_cancel_left mark behind (terms_text names is.has_form.0 ++ 10 ∷ rest)
      (sym (strip_is mark text behind marked) ∙ is.text_is ∙ ap (λ (l : List ℕ). l ++ rest) is.has_form.2
      ∙ regroup mark (terms_text names is.has_form.0) newline rest))
    where
      regroup : (a b c d : List ℕ) → (a ++ (b ++ c)) ++ d ≡ a ++ (b ++ (c ++ d))
      regroup a b c d = simp append_assoc

  -- the same of what reading the terms behind the mark answered
  pub marked_some : {X E : Type 0} (see : X → List ℕ) (r : Result (Option X) E) (behind : List ℕ)
      (old new : List (Key 8 × ℕ)) → strip mark text ≡ Some behind
      → IfOk r (λ o. IfSome o (λ x. HasLine ring names D j behind old new (see x)))
      → IfOk r (λ o. IfSome o (λ x. HasMarkedLine ring names D j mark text old new (see x)))
  marked_some see (Ok None) behind old new marked h = h
  marked_some see (Ok (Some x)) behind old new marked h =
      record { behind = behind; text_is = strip_is mark text behind marked; line = h }
  marked_some see (Err e) behind old new marked h = h

  pub marked_none : {X E : Type 0} (r : Result (Option X) E) (behind : List ℕ) → strip mark text ≡ Some behind
      → IfOk r (λ o. IfNone o (HasNoLine ring names D j behind))
      → IfOk r (λ o. IfNone o ((rest : List ℕ) → BeginsWith ring names D (Coefficient mark j) text rest → ⊥))
  marked_none (Ok None) behind marked h = λ rest is. no_terms behind marked h rest is
  marked_none (Ok (Some x)) behind marked h = h
  marked_none (Err e) behind marked h = h
