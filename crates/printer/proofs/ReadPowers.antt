-- Powers of variables are read back from their texts.
use Rattle.std.proofs.Common.{◌≡◌, ℕ, zero, suc, ◌^◌, ◌<◌, ◌≤◌, Bool, true, false, cond, ◌&&◌, ◌||◌, not}
use Rattle.std.proofs.Common.{List, [], ◌∷◌, ◌++◌, length, get_or, Option, Some, None, decimal}
use Rattle.std.proofs.Common.{refl, sym, ◌∙◌, ap, subst, arith, append_assoc, eqb, leb}
use Rattle.std.specs.Option.{option_map}
use Rattle.std.proofs.lemmas.Bool.{and_parts, or_parts, not-true, leb-true, le-leb, eqb-true, eq-eqb, true≢false}
use Rattle.std.proofs.lemmas.Option.{none-some, same_Some}
use Rattle.std.specs.Char.{is_ascii_digit}
use Rattle.std.specs.Int.{is_in_range}
use Rattle.std.specs.List.{list_all}
use Rattle.ps_model.specs.Names.{is_name_byte}
use Rattle.ps_model.specs.BlockText.{power_text, powers_text}
use Rattle.printer.specs.ReadForms.{◌>>=◌, strip, number_in, exponent_in, behind_name, named, power_in, powers_in}
use Rattle.printer.specs.ReadForms.{IsNone, AreApart, ends}
use Rattle.printer.proofs.ReadNumbers.{number_complete, number_sound}

-- steps of readers
pub bind_some : {A B : Type 0} (o : Option A) (f : A → Option B) (y : B) → o >>= f ≡ Some y
    → (x : A) × (o ≡ Some x) × (f x ≡ Some y)
bind_some None f y h = absurd (none-some y h)
bind_some (Some x) f y h = (x, refl, h)

pub map_some : {A B : Type 0} (f : A → B) (o : Option A) (y : B) → option_map f o ≡ Some y
    → (x : A) × (o ≡ Some x) × (f x ≡ y)
map_some f None y h = absurd (none-some y h)
map_some f (Some x) y h = (x, refl, same_Some _ _ h)

pub cond_some : {A : Type 0} (b : Bool) (x : A) (y : A) → cond b (Some x) None ≡ Some y → (b ≡ true) × (x ≡ y)
cond_some true x y h = (refl, same_Some _ _ h)
cond_some false x y h = absurd (none-some y h)

-- prefixes
pub strip_same : (t bs : List ℕ) → strip t (t ++ bs) ≡ Some bs
strip_same [] bs = refl
strip_same (t ∷ ts) bs = rw (eq-eqb t t refl) (strip_same ts bs)

strip_next : (t b : ℕ) (ts bs rest : List ℕ) (v : Bool) (o : Option (List ℕ)) → eqb b t ≡ v
    → (o ≡ Some rest → bs ≡ ts ++ rest) → cond v o None ≡ Some rest → b ∷ bs ≡ (t ∷ ts) ++ rest
strip_next t b ts bs rest true o e later h =
    ap (λ n. n ∷ bs) (eqb-true b t e) ∙ ap (λ (l : List ℕ). t ∷ l) (later h)
strip_next t b ts bs rest false o e later h = absurd (none-some rest h)

pub strip_is : (t bs rest : List ℕ) → strip t bs ≡ Some rest → bs ≡ t ++ rest
strip_is [] bs rest h = same_Some _ _ h
strip_is (t ∷ ts) [] rest h = absurd (none-some rest h)
strip_is (t ∷ ts) (b ∷ bs) rest h =
    strip_next t b ts bs rest (eqb b t) (strip ts bs) refl (λ e. strip_is ts bs rest e) h

-- what stands behind a power
abbrev pub stops : List ℕ → Bool
stops [] = true
stops (b ∷ bs) = not (is_name_byte b) && not (eqb b 94)

pub ends_stops : (rest : List ℕ) → ends rest ≡ true → stops rest ≡ true
ends_stops [] h = refl
ends_stops (b ∷ bs) h = (and_parts (not (is_name_byte b) && not (eqb b 94)) (not (eqb b 42)) h).0

ends_other : (b : ℕ) (bs : List ℕ) → ends (b ∷ bs) ≡ true → eqb b 42 ≡ false
ends_other b bs h =
    not-true (eqb b 42) (and_parts (not (is_name_byte b) && not (eqb b 94)) (not (eqb b 42)) h).1

pub powers_stop : (names : List (List ℕ)) (ps rest : List ℕ) → ends rest ≡ true
    → stops (powers_text names ps ++ rest) ≡ true
powers_stop [] ps rest h = ends_stops rest h
powers_stop (name ∷ names) [] rest h = ends_stops rest h
powers_stop (name ∷ names) (zero ∷ ps) rest h = powers_stop names ps rest h
powers_stop (name ∷ names) (suc zero ∷ ps) rest h = refl
powers_stop (name ∷ names) (suc (suc p) ∷ ps) rest h = refl

stop_name : (b : ℕ) (bs : List ℕ) → stops (b ∷ bs) ≡ true → is_name_byte b ≡ false
stop_name b bs h = not-true (is_name_byte b) (and_parts (not (is_name_byte b)) (not (eqb b 94)) h).0

stop_mark : (b : ℕ) (bs : List ℕ) → stops (b ∷ bs) ≡ true → eqb b 94 ≡ false
stop_mark b bs h = not-true (eqb b 94) (and_parts (not (is_name_byte b)) (not (eqb b 94)) h).1

pub stop_unnamed : (rest : List ℕ) → stops rest ≡ true → is_name_byte (get_or rest 0 0) ≡ false
stop_unnamed [] h = refl
stop_unnamed (b ∷ bs) h = stop_name b bs h

pub unnamed_digit : (b : ℕ) → is_name_byte b ≡ false → is_ascii_digit b ≡ false
unnamed_digit b h =
    let all = (or_parts ((is_in_range 48 57 b || is_in_range 65 90 b) || is_in_range 97 122 b) (eqb b 95) h).0 in
    let two = (or_parts (is_in_range 48 57 b || is_in_range 65 90 b) (is_in_range 97 122 b) all).0 in
    (or_parts (is_in_range 48 57 b) (is_in_range 65 90 b) two).0

pub stop_digit : (rest : List ℕ) → stops rest ≡ true → is_ascii_digit (get_or rest 0 0) ≡ false
stop_digit rest h = unnamed_digit (get_or rest 0 0) (stop_unnamed rest h)

-- a written power
pub exponent_complete : (limit n : ℕ) (rest : List ℕ) → 2 ≤ n → n ≤ limit → limit < 2 ^ 64 → stops rest ≡ true
    → exponent_in limit (decimal n ++ rest) ≡ Some (n, rest)
unfolding exponent_in
exponent_complete limit n rest two within fits stop =
    rw (number_complete limit n rest (omega arith) within (omega arith) (stop_digit rest stop), le-leb 2 n two) refl

one_behind : (limit : ℕ) (bytes rest : List ℕ) → stops rest ≡ true → behind_name limit bytes rest ≡ Some (1, rest)
one_behind limit bytes [] h = refl
one_behind limit bytes (b ∷ bs) h = rw (stop_name b bs h, stop_mark b bs h) refl

power_one : (limit : ℕ) (name rest : List ℕ) → stops rest ≡ true
    → power_in limit name ((42 ∷ name) ++ rest) ≡ Some (1, rest)
unfolding power_in
power_one limit name rest h =
    ap (named limit ((42 ∷ name) ++ rest)) (strip_same (42 ∷ name) rest)
    ∙ one_behind limit ((42 ∷ name) ++ rest) rest h

power_more : (limit : ℕ) (name behind : List ℕ)
    → power_in limit name ((42 ∷ name) ++ 94 ∷ behind) ≡ exponent_in limit behind
unfolding power_in
power_more limit name behind =
    ap (named limit ((42 ∷ name) ++ 94 ∷ behind)) (strip_same (42 ∷ name) (94 ∷ behind))

-- the name of another variable, or none
apart_first : (t : ℕ) (ts more : List ℕ) → is_name_byte t ≡ true → is_name_byte (get_or more 0 0) ≡ false
    → strip (t ∷ ts) more ≡ None
apart_first t ts [] name other = refl
apart_first t ts (b ∷ bs) name other = elim (eqb b t) as
    (λ v. eqb b t ≡ v → cond v (strip ts bs) None ≡ None) [
      | true ↦ λ is. absurd (true≢false (sym name ∙ ap is_name_byte (sym (eqb-true b t is)) ∙ other))
      | false ↦ λ is. refl
    ] refl

other_name : (limit : ℕ) (bytes name other more : List ℕ) → list_all is_name_byte name ≡ true
    → list_all is_name_byte other ≡ true → (name ≡ other → ⊥) → is_name_byte (get_or more 0 0) ≡ false
    → named limit bytes (strip name (other ++ more)) ≡ Some (0, bytes)
other_name limit bytes [] [] more p q differ stop = absurd (differ refl)
other_name limit bytes [] (b ∷ bs) more p q differ stop =
    rw ((and_parts (is_name_byte b) (list_all is_name_byte bs) q).0) refl
other_name limit bytes (t ∷ ts) [] more p q differ stop =
    ap (named limit bytes)
    (apart_first t ts more (and_parts (is_name_byte t) (list_all is_name_byte ts) p).0 stop)
other_name limit bytes (t ∷ ts) (b ∷ bs) more p q differ stop =
    let later = other_name limit bytes ts bs more (and_parts (is_name_byte t) (list_all is_name_byte ts) p).1
    (and_parts (is_name_byte b) (list_all is_name_byte bs) q).1 in
    elim (eqb b t) as
    (λ v. eqb b t ≡ v → named limit bytes (cond v (strip ts (bs ++ more)) None) ≡ Some (0, bytes)) [
      | true ↦ λ is. later (λ e. differ (λ i. sym (eqb-true b t is) i ∷ e i)) stop
      | false ↦ λ is. refl
    ] refl

none_here : (limit : ℕ) (name rest : List ℕ) → ends rest ≡ true → power_in limit name rest ≡ Some (0, rest)
unfolding power_in
none_here limit name [] h = refl
none_here limit name (b ∷ bs) h = rw (ends_other b bs h) refl

other_here : (limit : ℕ) (name other more : List ℕ) → list_all is_name_byte name ≡ true
    → list_all is_name_byte other ≡ true → (name ≡ other → ⊥) → is_name_byte (get_or more 0 0) ≡ false
    → (bytes : List ℕ) → bytes ≡ (42 ∷ other) ++ more → power_in limit name bytes ≡ Some (0, bytes)
unfolding power_in
other_here limit name other more p q differ stop bytes is =
    ap (λ (l : List ℕ). named limit bytes (strip (42 ∷ name) l)) is
    ∙ other_name limit bytes name other more p q differ stop

regroup : (a b c d : List ℕ) → ((a ++ b) ++ c) ++ d ≡ a ++ (b ++ (c ++ d))
regroup a b c d = simp append_assoc

regroup_more : (a b c d e : List ℕ) → (((a ++ b) ++ c) ++ d) ++ e ≡ a ++ (b ++ ((c ++ d) ++ e))
regroup_more a b c d e = simp append_assoc

absent : (limit : ℕ) (name : List ℕ) (names : List (List ℕ)) (ps rest : List ℕ)
    → list_all is_name_byte name ≡ true → IsNone name names → AreApart names → ends rest ≡ true
    → power_in limit name (powers_text names ps ++ rest) ≡ Some (0, powers_text names ps ++ rest)
absent limit name [] ps rest is none apart h = none_here limit name rest h
absent limit name (other ∷ names) [] rest is none apart h = none_here limit name rest h
absent limit name (other ∷ names) (zero ∷ ps) rest is none apart h =
    absent limit name names ps rest is none.1 apart.2 h
absent limit name (other ∷ names) (suc zero ∷ ps) rest is none apart h =
    other_here limit name other (powers_text names ps ++ rest) is apart.0 none.0
    (stop_unnamed (powers_text names ps ++ rest) (powers_stop names ps rest h)) _
    (append_assoc (42 ∷ other) (powers_text names ps) rest)
absent limit name (other ∷ names) (suc (suc p) ∷ ps) rest is none apart h =
    other_here limit name other (94 ∷ ((decimal (suc (suc p)) ++ powers_text names ps) ++ rest)) is apart.0 none.0
    refl _ (regroup_more (42 ∷ other) (94 ∷ []) (decimal (suc (suc p))) (powers_text names ps) rest)

-- powers are read back
abbrev pub AreLow : ℕ → List ℕ → Type 0
AreLow limit [] = Unit {0}
AreLow limit (p ∷ ps) = (p ≤ limit) × AreLow limit ps

power_complete : (limit : ℕ) (name : List ℕ) (names : List (List ℕ)) (p : ℕ) (ps rest : List ℕ)
    → list_all is_name_byte name ≡ true → IsNone name names → AreApart names → p ≤ limit → limit < 2 ^ 64
    → ends rest ≡ true
    → power_in limit name ((power_text name p ++ powers_text names ps) ++ rest)
    ≡ Some (p, powers_text names ps ++ rest)
power_complete limit name names zero ps rest is none apart low fits h =
    absent limit name names ps rest is none apart h
power_complete limit name names (suc zero) ps rest is none apart low fits h =
    ap (power_in limit name) (append_assoc (42 ∷ name) (powers_text names ps) rest)
    ∙ power_one limit name (powers_text names ps ++ rest) (powers_stop names ps rest h)
power_complete limit name names (suc (suc p)) ps rest is none apart low fits h =
    ap (power_in limit name)
    (regroup_more (42 ∷ name) (94 ∷ []) (decimal (suc (suc p))) (powers_text names ps) rest)
    ∙ power_more limit name ((decimal (suc (suc p)) ++ powers_text names ps) ++ rest)
    ∙ ap (exponent_in limit) (append_assoc (decimal (suc (suc p))) (powers_text names ps) rest)
    ∙ exponent_complete limit (suc (suc p)) (powers_text names ps ++ rest) (omega arith) low fits
    (powers_stop names ps rest h)

pub powers_complete : (limit : ℕ) (names : List (List ℕ)) (ps rest : List ℕ) → AreApart names → AreLow limit ps
    → length ps ≡ length names → limit < 2 ^ 64 → ends rest ≡ true
    → powers_in limit names (powers_text names ps ++ rest) ≡ Some (ps, rest)
unfolding powers_in
powers_complete limit [] [] rest apart low same fits h = refl
powers_complete limit [] (p ∷ ps) rest apart low same fits h = absurd (omega arith)
powers_complete limit (name ∷ names) [] rest apart low same fits h = absurd (omega arith)
powers_complete limit (name ∷ names) (p ∷ ps) rest apart low same fits h =
    rw (
      power_complete limit name names p ps rest apart.0 apart.1 apart.2 low.0 fits h,
      powers_complete limit names ps rest apart.2 low.1 (omega arith) fits h,
    ) refl

-- what was read is the text of the powers
abbrev IsPowerOf : ℕ → List ℕ → List ℕ → ℕ × List ℕ → Type 0
IsPowerOf limit name bytes x = (power_text name x.0 ++ x.1 ≡ bytes) × (x.0 ≤ suc limit)

exponent_sound : (limit : ℕ) (name bs : List ℕ) (x : ℕ × List ℕ) → limit < 2 ^ 64 → exponent_in limit bs ≡ Some x
    → IsPowerOf limit name ((42 ∷ name) ++ 94 ∷ bs) x
unfolding exponent_in
exponent_sound limit name bs x fits h =
    let a = bind_some (number_in limit bs) (λ p. cond (leb 2 p.0) (Some p) None) x h in
    let b = cond_some (leb 2 a.0.0) a.0 x a.2 in
    let c = number_sound limit bs a.0.0 a.0.1 fits a.1 in
    subst (IsPowerOf limit name ((42 ∷ name) ++ 94 ∷ bs)) b.1
    (long a.0.0 a.0.1 (leb-true 2 a.0.0 b.0) c.0, omega (arith, c.2))
  where
    long : (n : ℕ) (rest : List ℕ) → 2 ≤ n → decimal n ++ rest ≡ bs
        → power_text name n ++ rest ≡ (42 ∷ name) ++ 94 ∷ bs
    long zero rest two is = absurd (omega arith)
    long (suc zero) rest two is = absurd (omega arith)
    long (suc (suc p)) rest two is =
        regroup (42 ∷ name) (94 ∷ []) (decimal (suc (suc p))) rest
        ∙ ap (λ (l : List ℕ). (42 ∷ name) ++ 94 ∷ l) is

behind_sound : (limit : ℕ) (name bytes rest : List ℕ) (x : ℕ × List ℕ) → limit < 2 ^ 64
    → bytes ≡ (42 ∷ name) ++ rest → behind_name limit bytes rest ≡ Some x → IsPowerOf limit name bytes x
behind_sound limit name bytes [] x fits is h =
    subst (IsPowerOf limit name bytes) (same_Some _ _ h) (sym is, omega arith)
behind_sound limit name bytes (b ∷ bs) x fits is h = elim (is_name_byte b) as
    (λ v. cond v (Some (0, bytes)) (cond (eqb b 94) (exponent_in limit bs) (Some (1, b ∷ bs))) ≡ Some x
    → IsPowerOf limit name bytes x) [
      | true ↦ λ e. subst (IsPowerOf limit name bytes) (same_Some _ _ e) (refl, omega arith)
      | false ↦ λ e. elim (eqb b 94) as
          (λ v. eqb b 94 ≡ v → cond v (exponent_in limit bs) (Some (1, b ∷ bs)) ≡ Some x
          → IsPowerOf limit name bytes x) [
            | true ↦ λ mark e.
                let whole : bytes ≡ (42 ∷ name) ++ 94 ∷ bs =
                is ∙ ap (λ n. (42 ∷ name) ++ n ∷ bs) (eqb-true b 94 mark) in
                subst (λ (l : List ℕ). IsPowerOf limit name l x) (sym whole)
                (exponent_sound limit name bs x fits e)
            | false ↦ λ mark e. subst (IsPowerOf limit name bytes) (same_Some _ _ e) (sym is, omega arith)
          ] refl e
    ] h

pub power_sound : (limit : ℕ) (name bytes : List ℕ) (x : ℕ × List ℕ) → limit < 2 ^ 64
    → power_in limit name bytes ≡ Some x → IsPowerOf limit name bytes x
unfolding power_in
power_sound limit name bytes x fits h = elim (strip (42 ∷ name) bytes) as
    (λ o. strip (42 ∷ name) bytes ≡ o → named limit bytes o ≡ Some x → IsPowerOf limit name bytes x) [
      | None ↦ λ is e. subst (IsPowerOf limit name bytes) (same_Some _ _ e) (refl, omega arith)
      | Some rest ↦ λ is e. behind_sound limit name bytes rest x fits (strip_is (42 ∷ name) bytes rest is) e
    ] refl h

abbrev pub ArePowersOf : ℕ → List (List ℕ) → List ℕ → List ℕ × List ℕ → Type 0
ArePowersOf limit names bytes x =
    (powers_text names x.0 ++ x.1 ≡ bytes) × (length x.0 ≡ length names) × AreLow (suc limit) x.0

pub powers_sound : (limit : ℕ) (names : List (List ℕ)) (bytes : List ℕ) (x : List ℕ × List ℕ) → limit < 2 ^ 64
    → powers_in limit names bytes ≡ Some x → ArePowersOf limit names bytes x
unfolding powers_in
powers_sound limit [] bytes x fits h =
    subst (ArePowersOf limit [] bytes) (same_Some _ _ h) (refl, refl, tt)
powers_sound limit (name ∷ names) bytes x fits h =
    let a = bind_some (power_in limit name bytes)
    (λ p. option_map (λ (q : List ℕ × List ℕ). (p.0 ∷ q.0, q.1)) (powers_in limit names p.1)) x h in
    let b = map_some (λ (q : List ℕ × List ℕ). (a.0.0 ∷ q.0, q.1)) (powers_in limit names a.0.1) x a.2 in
    let c = power_sound limit name bytes a.0 fits a.1 in
    let d = powers_sound limit names a.0.1 b.0 fits b.1 in
    subst (ArePowersOf limit (name ∷ names) bytes) b.2 (
      append_assoc (power_text name a.0.0) (powers_text names b.0.0) b.0.1
          ∙ ap (λ (l : List ℕ). power_text name a.0.0 ++ l) d.0 ∙ c.0,
      ap suc d.1,
      (c.1, d.2),
    )
