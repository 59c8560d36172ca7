-- Words that ask for a pipeline.
use Rattle.std.proofs.Common.{◌≡◌, ◌≢◌, ◌∙◌, sym, ap, refl, subst, ℕ, ◌==◌, ◌-◌, ◌≤◌, Bool, true, false, ◌&&◌, ◌||◌, List}
use Rattle.std.proofs.Common.{[], ◌∷◌, length, map, take, arith, inl, inr}
use Rattle.std.specs.Prelude.{codes, drop, get_or, nat_eq}
use Rattle.std.specs.Cmp.Lexicographic.{pointwise}
use Rattle.std.specs.List.{list_any}
use Rattle.std.specs.Char.{is_ascii_digit}
use Rattle.std.specs.Str.{all_ascii_digits, bytes_eq}
use Rattle.std.proofs.lemmas.Bool.{ne_eqb}
use Rattle.std.proofs.lemmas.List.{take_all}
use Rattle.words.specs.Forms.{Names, IsWorkers, Gives, rounds_option}
use Rattle.words.specs.declared.command.Command.{Command}
use Rattle.words.specs.declared.command.Command.TheVariants.{Factor, Expand, Check, Demo}
use Rattle.words.specs.declared.command.Workers.TheVariants.{One, Rounds, Pipeline}
use Rattle.words.proofs.Numbers.{both}
use Rattle.commands.specs.Words.{asks_pipe, names_workers}

false_true : false ≡ true → ⊥
false_true is = cc

-- a test of words, by their bytes
pub any_map : {X Y : Type 0} (f : Y → Bool) (g : X → Y) (xs : List X) → list_any f (map g xs) ≡ list_any (λ x. f (g x)) xs
any_map f g [] = refl
any_map f g (x ∷ xs) = ap (λ b. f (g x) || b) (any_map f g xs)

-- the first word is `factor`, and the later ones are tested
pub asks_later : {X : Type 0} (bytes : X → List ℕ) (words : List X) (first : X) → 1 ≤ length words
    → first ≡ get_or words 0 first → bytes_eq (bytes first) (codes "factor") ≡ true
    → list_any (λ x. names_workers (bytes x)) (take (length words - 1) (drop 1 words)) ≡ asks_pipe (map bytes words)
asks_later bytes [] first some is factor = absurd (omega (arith, some))
asks_later bytes (w ∷ words) first some is factor =
    ap (list_any (λ x. names_workers (bytes x))) (take_all (length (w ∷ words) - 1) words (omega arith))
    ∙ sym (any_map names_workers bytes words)
    ∙ ap (λ b. b && list_any names_workers (map bytes words))
    (sym (ap (λ x. bytes_eq (bytes x) (codes "factor")) (sym is) ∙ factor))

-- the words of a pipeline ask for it
pub pipe_asks : (words : List (List ℕ)) (n : ℕ) → Names words (Factor (Pipeline n)) → asks_pipe words ≡ true
pipe_asks words n (v, number, inl is) = ap asks_pipe is
pipe_asks words n (v, number, inr is) = ap asks_pipe is

-- a number is no option
not_option : (v : List ℕ) → all_ascii_digits v ≡ true → 1 ≤ length v → names_workers v ≡ false
not_option [] digits some = absurd (let no = some in omega arith)
not_option (b ∷ w) digits some =
    (λ i. (nat_eq_is i && pointwise nat_eq w (codes "-workers"))
    || (eq_is i && pointwise (λ x y. x == y) (codes "-workers=") (take 9 w)))
  where
    digit : is_ascii_digit b ≡ true
    digit = (both (is_ascii_digit b) (all_ascii_digits w) digits).0

    other : b ≢ 45
    other is = false_true (ap is_ascii_digit (sym is) ∙ digit)

    nat_eq_is : nat_eq b 45 ≡ false
    nat_eq_is = ne_eqb b 45 other

    eq_is : (45 == b) ≡ false
    eq_is = ne_eqb 45 b (λ is. other (sym is))

rounds_alone : (words : List (List ℕ)) (v : List ℕ) (n : ℕ) → IsWorkers v n → Gives rounds_option v words
    → asks_pipe words ≡ false
rounds_alone words v n number (inl is) = ap asks_pipe is
    ∙ ap (λ b. b || false) (not_option v number.digits number.some)
rounds_alone words v n number (inr is) = ap asks_pipe is

-- and no others that are taken do
pub asks_alone : (words : List (List ℕ)) (c : Command) → asks_pipe words ≡ true → Names words c
    → (n : ℕ) × (c ≡ Factor (Pipeline n))
asks_alone words (Factor One) asks is = absurd (false_true (sym (ap asks_pipe is) ∙ asks))
asks_alone words (Factor (Rounds n)) asks (v, number, gives) =
    absurd (false_true (sym (rounds_alone words v n number gives) ∙ asks))
asks_alone words (Factor (Pipeline n)) asks is = (n, refl)
asks_alone words Expand asks is = absurd (false_true (sym (ap asks_pipe is) ∙ asks))
asks_alone words Check asks is = absurd (false_true (sym (ap asks_pipe is) ∙ asks))
asks_alone words (Demo n) asks (v, number, is) = absurd (false_true (sym (ap asks_pipe is) ∙ asks))

-- words that don't ask for a pipeline name no command of one
pub no_pipe : (words : List (List ℕ)) (c : Command) → asks_pipe words ≡ false → Names words c → (n : ℕ)
    → c ≡ Factor (Pipeline n) → ⊥
no_pipe words c none named n is =
    false_true (sym none ∙ pipe_asks words n (subst (Names words) is named))

-- the workers of a command are from 1 to 64
pub few_rounds : (words : List (List ℕ)) (c : Command) → Names words c → (n : ℕ) → c ≡ Factor (Rounds n)
    → (1 ≤ n) × (n ≤ 64)
few_rounds words c named n is = let rounds = subst (Names words) is named in (rounds.1.from, rounds.1.to)

pub few_workers : (words : List (List ℕ)) (c : Command) → Names words c → (n : ℕ) → c ≡ Factor (Pipeline n)
    → (1 ≤ n) × (n ≤ 64)
few_workers words c named n is = let pipe = subst (Names words) is named in (pipe.1.from, pipe.1.to)
