-- What is written for items, joined, cut and compared: `IsWritten` as a path from a state to a state.
--     DoesOnly s line o      this is what the line does in the state, and nothing else
--     AnswersOnly s r text      the text answers the request in the state, and no other text does
-- What holds of any Does and Answers serves these two as well.
use Rattle.std.proofs.Common.{◌≡◌, ◌∙◌, sym, ap, refl, subst, ℕ, suc, ◌+◌, List, [], ◌∷◌, ◌++◌, length, arith}
use Rattle.std.proofs.Common.{Option, Some, None}
use Rattle.std.proofs.lemmas.List.{append_assoc, append-nil}
use Rattle.script.specs.Answers.{Item, Line, TooLong, Outcome, Skips, Becomes, Asks, Refuses, IsFollowed, IsWritten}

-- the state behind items
abbrev state_or : {A : Type 0} → A → Option A → A
state_or a None = a
state_or a (Some b) = b

same_state : {A : Type 0} (a b : A) → Some a ≡ Some b → a ≡ b
same_state a b e = ap (state_or a) e

stopped : {A : Type 0} (a : A) → None ≡ Some a → ⊥
stopped a e = cc

module _ {State Request : Type 0} (Does : State → List ℕ → Outcome State Request → Type 0)
    (Answers : State → Request → List ℕ → Type 0) where
  abbrev pub DoesOnly : State → List ℕ → Outcome State Request → Type 0
  DoesOnly s line o = Does s line o × ((other : Outcome State Request) → Does s line other → other ≡ o)

  abbrev pub AnswersOnly : State → Request → List ℕ → Type 0
  AnswersOnly s r text = Answers s r text × ((other : List ℕ) → Answers s r other → other ≡ text)

  abbrev Asked : Type 0
  Asked = List (State × Request)

  abbrev Rest : Type 1
  Rest = State → List ℕ → Option State → Asked → Type 0

  -- at a state and a line number that are known to be others
  at_state : (s s' : State) (n m : ℕ) (ys : List Item) (u : List ℕ) (after : Option State) (b : Asked)
      → s' ≡ s → m ≡ n → IsWritten Does Answers s' m ys u after b → IsWritten Does Answers s n ys u after b
  at_state s s' n m ys u after b e f h =
      subst (λ (x : State × ℕ). IsWritten Does Answers x.0 x.1 ys u after b) (λ i. (e i, f i)) h

  at_number : (s : State) (n m : ℕ) (ys : List Item) (u : List ℕ) (after : Option State) (b : Asked)
      → m ≡ n → IsWritten Does Answers s m ys u after b → IsWritten Does Answers s n ys u after b
  at_number s n m ys u after b e h = at_state s s n m ys u after b refl e h

  followed_append : (R S : Rest) (s' : State) (u : List ℕ) (after : Option State) (b : Asked)
      → ((v : State) (t : List ℕ) (a : Asked) → R v t (Some s') a → S v (t ++ u) after (a ++ b))
      → (s : State) (n : ℕ) (o : Outcome State Request) (t : List ℕ) (a : Asked)
      → IsFollowed Does Answers R s n o t (Some s') a → IsFollowed Does Answers S s n o (t ++ u) after (a ++ b)
  followed_append R S s' u after b step s n Skips t a h = step s t a h
  followed_append R S s' u after b step s n (Becomes v) t a h = step v t a h
  followed_append R S s' u after b step s n (Asks r) t a (answer, more, later, is, rest, text, asked) = (
    answer,
    more ++ u,
    later ++ b,
    is,
    step s more later rest,
    ap (λ l. l ++ u) text ∙ append_assoc answer more u,
    ap (λ l. l ++ b) asked,
  )
  followed_append R S s' u after b step s n (Refuses f) t a h = absurd (stopped s' (sym h.1))

  -- items behind items: a loop's step, with one item more
  pub path_append : (s : State) (n : ℕ) (xs : List Item) (t : List ℕ) (s' : State) (a : Asked)
      (ys : List Item) (u : List ℕ) (after : Option State) (b : Asked)
      → IsWritten Does Answers s n xs t (Some s') a → IsWritten Does Answers s' (n + length xs) ys u after b
      → IsWritten Does Answers s n (xs ++ ys) (t ++ u) after (a ++ b)
  path_append s n [] t s' a ys u after b h k =
      let here : IsWritten Does Answers s n ys u after b =
      at_state s s' n (n + 0) ys u after b (same_state s' s h.1) (omega arith) k in
      subst (λ (x : List ℕ × Asked). IsWritten Does Answers s n ys (x.0 ++ u) after (x.1 ++ b))
      (λ i. (sym h.0 i, sym h.2 i)) here
  path_append s n (TooLong ∷ xs) t s' a ys u after b h k = absurd (stopped s' (sym h.1))
  path_append s n (Line line ∷ xs) t s' a ys u after b (o, does, h) k = (
    o,
    does,
    followed_append (λ v. IsWritten Does Answers v (suc n) xs)
        (λ v. IsWritten Does Answers v (suc n) (xs ++ ys)) s' u after b
        (λ v t' a' h'. path_append v (suc n) xs t' s' a' ys u after b h'
        (at_number s' (suc n + length xs) (n + suc (length xs)) ys u after b (omega arith) k)) s n o t a h,
  )

  followed_same : (R S : Rest) (after : Option State)
      → ((v : State) (t : List ℕ) (a : Asked) → R v t after a → S v t after a)
      → (s : State) (n : ℕ) (o : Outcome State Request) (t : List ℕ) (a : Asked)
      → IsFollowed Does Answers R s n o t after a → IsFollowed Does Answers S s n o t after a
  followed_same R S after step s n Skips t a h = step s t a h
  followed_same R S after step s n (Becomes v) t a h = step v t a h
  followed_same R S after step s n (Asks r) t a (answer, more, later, is, rest, text, asked) =
      (answer, more, later, is, step s more later rest, text, asked)
  followed_same R S after step s n (Refuses f) t a h = h

  -- nothing is written behind a refusal: what was written up to it is written for all items
  pub path_refused : (s : State) (n : ℕ) (xs : List Item) (t : List ℕ) (a : Asked)
      → IsWritten Does Answers s n xs t None a → (ys : List Item) → IsWritten Does Answers s n (xs ++ ys) t None a
  path_refused s n [] t a h ys = absurd (stopped s h.1)
  path_refused s n (TooLong ∷ xs) t a h ys = h
  path_refused s n (Line line ∷ xs) t a (o, does, h) ys = (
    o,
    does,
    followed_same (λ v. IsWritten Does Answers v (suc n) xs)
        (λ v. IsWritten Does Answers v (suc n) (xs ++ ys)) None
        (λ v t' a' h'. path_refused v (suc n) xs t' a' h' ys) s n o t a h,
  )

  followed_plain : (R S : Rest)
      → ((v : State) (t : List ℕ) (after : Option State) (a : Asked) → R v t after a → S v t after a)
      → (s : State) (n : ℕ) (o : Outcome State Request) (t : List ℕ) (after : Option State) (a : Asked)
      → IsFollowed DoesOnly AnswersOnly R s n o t after a → IsFollowed Does Answers S s n o t after a
  followed_plain R S step s n Skips t after a h = step s t after a h
  followed_plain R S step s n (Becomes v) t after a h = step v t after a h
  followed_plain R S step s n (Asks r) t after a (answer, more, later, is, rest, text, asked) =
      (answer, more, later, is.0, step s more after later rest, text, asked)
  followed_plain R S step s n (Refuses f) t after a h = h

  -- what is only written is written: the run's text is one of those that may be
  pub path_plain : (s : State) (n : ℕ) (xs : List Item) (t : List ℕ) (after : Option State) (a : Asked)
      → IsWritten DoesOnly AnswersOnly s n xs t after a → IsWritten Does Answers s n xs t after a
  path_plain s n [] t after a h = h
  path_plain s n (TooLong ∷ xs) t after a h = h
  path_plain s n (Line line ∷ xs) t after a (o, does, h) = (
    o,
    does.0,
    followed_plain (λ v. IsWritten DoesOnly AnswersOnly v (suc n) xs)
        (λ v. IsWritten Does Answers v (suc n) xs) (λ v t' after' a' h'. path_plain v (suc n) xs t' after' a' h')
        s n o t after a h,
  )

  abbrev AreSame : List ℕ → Option State → Asked → List ℕ → Option State → Asked → Type 0
  AreSame t after a u after' b = (u ≡ t) × (after' ≡ after) × (b ≡ a)

  followed_once : (R S : Rest)
      → ((v : State) (t : List ℕ) (after : Option State) (a : Asked) (u : List ℕ) (after' : Option State) (b : Asked)
      → R v t after a → S v u after' b → AreSame t after a u after' b)
      → (s : State) (n : ℕ) (o : Outcome State Request) (t : List ℕ) (after : Option State) (a : Asked)
      (u : List ℕ) (after' : Option State) (b : Asked)
      → IsFollowed DoesOnly AnswersOnly R s n o t after a → IsFollowed Does Answers S s n o u after' b
      → AreSame t after a u after' b
  followed_once R S step s n Skips t after a u after' b h k = step s t after a u after' b h k
  followed_once R S step s n (Becomes v) t after a u after' b h k = step v t after a u after' b h k
  followed_once R S step s n (Asks r) t after a u after' b (answer, more, later, is, rest, text, asked)
      (answer', more', later', is', rest', text', asked') =
      let same : AreSame more after later more' after' later' =
      step s more after later more' after' later' rest rest' in (
        text' ∙ ap (λ l. l ++ more') (is.1 answer' is') ∙ ap (λ l. answer ++ l) same.0 ∙ sym text,
        same.1,
        asked' ∙ ap (λ (l : Asked). (s, r) ∷ l) same.2 ∙ sym asked,
      )
  followed_once R S step s n (Refuses f) t after a u after' b h k =
      (k.0 ∙ sym h.0, k.1 ∙ sym h.1, k.2 ∙ sym h.2)

  -- nothing else may be written: the run's text, state and requests are the ones
  pub path_once : (s : State) (n : ℕ) (xs : List Item) (t : List ℕ) (after : Option State) (a : Asked)
      (u : List ℕ) (after' : Option State) (b : Asked)
      → IsWritten DoesOnly AnswersOnly s n xs t after a → IsWritten Does Answers s n xs u after' b
      → (u ≡ t) × (after' ≡ after) × (b ≡ a)
  path_once s n [] t after a u after' b h k = (k.0 ∙ sym h.0, k.1 ∙ sym h.1, k.2 ∙ sym h.2)
  path_once s n (TooLong ∷ xs) t after a u after' b h k = (k.0 ∙ sym h.0, k.1 ∙ sym h.1, k.2 ∙ sym h.2)
  path_once s n (Line line ∷ xs) t after a u after' b (o, does, h) (o', does', k) =
      followed_once (λ v. IsWritten DoesOnly AnswersOnly v (suc n) xs) (λ v. IsWritten Does Answers v (suc n) xs)
      (λ v t' after'' a' u' after''' b' h' k'. path_once v (suc n) xs t' after'' a' u' after''' b' h' k')
      s n o t after a u after' b h
      (subst (λ x. IsFollowed Does Answers (λ v. IsWritten Does Answers v (suc n) xs) s n x u after' b)
      (does.1 o' does') k)

  -- what is written for the later items
  abbrev GoesOn : State → ℕ → List Item → Option State → List ℕ → Asked → List ℕ → Asked → Type 0
  GoesOn s' m ys after t a u b =
      (more : List ℕ) × (later : Asked) × IsWritten Does Answers s' m ys more after later
      × (u ≡ t ++ more) × (b ≡ a ++ later)

  goes_on_at : (s' : State) (m k : ℕ) (ys : List Item) (after : Option State) (t : List ℕ) (a : Asked)
      (u : List ℕ) (b : Asked) → k ≡ m → GoesOn s' k ys after t a u b → GoesOn s' m ys after t a u b
  goes_on_at s' m k ys after t a u b e on =
      (on.0, on.1, at_number s' m k ys on.0 after on.1 e on.2, on.3, on.4)

  followed_cut : (R S : Rest) (s' : State) (m : ℕ) (ys : List Item) (after : Option State)
      → ((v : State) (t : List ℕ) (a : Asked) (u : List ℕ) (b : Asked)
      → R v t (Some s') a → S v u after b → GoesOn s' m ys after t a u b)
      → (s : State) (n : ℕ) (o : Outcome State Request) (t : List ℕ) (a : Asked) (u : List ℕ) (b : Asked)
      → IsFollowed DoesOnly AnswersOnly R s n o t (Some s') a → IsFollowed Does Answers S s n o u after b
      → GoesOn s' m ys after t a u b
  followed_cut R S s' m ys after step s n Skips t a u b h k = step s t a u b h k
  followed_cut R S s' m ys after step s n (Becomes v) t a u b h k = step v t a u b h k
  followed_cut R S s' m ys after step s n (Asks r) t a u b (answer, more, later, is, rest, text, asked)
      (answer', more', later', is', rest', text', asked') =
      let on : GoesOn s' m ys after more later more' later' = step s more later more' later' rest rest' in (
        on.0,
        on.1,
        on.2,
        text' ∙ ap (λ l. l ++ more') (is.1 answer' is') ∙ ap (λ l. answer ++ l) on.3
            ∙ sym (append_assoc answer more on.0) ∙ ap (λ l. l ++ on.0) (sym text),
        asked' ∙ ap (λ (l : Asked). (s, r) ∷ l) on.4 ∙ ap (λ l. l ++ on.1) (sym asked),
      )
  followed_cut R S s' m ys after step s n (Refuses f) t a u b h k = absurd (stopped s' (sym h.1))

  -- what may be written for items with others behind them goes on from the state behind them: for a run that stops
  -- early
  pub path_cut : (s : State) (n : ℕ) (xs : List Item) (t : List ℕ) (s' : State) (a : Asked)
      (ys : List Item) (u : List ℕ) (after : Option State) (b : Asked)
      → IsWritten DoesOnly AnswersOnly s n xs t (Some s') a → IsWritten Does Answers s n (xs ++ ys) u after b
      → (more : List ℕ) × (later : List (State × Request))
      × IsWritten Does Answers s' (n + length xs) ys more after later × (u ≡ t ++ more) × (b ≡ a ++ later)
  path_cut s n [] t s' a ys u after b h k = (
    u,
    b,
    at_state s' s (n + 0) n ys u after b (sym (same_state s' s h.1)) (omega arith) k,
    ap (λ l. l ++ u) (sym h.0),
    ap (λ l. l ++ b) (sym h.2),
  )
  path_cut s n (TooLong ∷ xs) t s' a ys u after b h k = absurd (stopped s' (sym h.1))
  path_cut s n (Line line ∷ xs) t s' a ys u after b (o, does, h) (o', does', k) =
      followed_cut (λ v. IsWritten DoesOnly AnswersOnly v (suc n) xs)
      (λ v. IsWritten Does Answers v (suc n) (xs ++ ys)) s' (n + suc (length xs)) ys after
      (λ v t' a' u' b' h' k'. goes_on_at s' (n + suc (length xs)) (suc n + length xs) ys after t' a' u' b' (omega arith)
      (path_cut v (suc n) xs t' s' a' ys u' after b' h' k')) s n o t a u b h
      (subst (λ x. IsFollowed Does Answers (λ v. IsWritten Does Answers v (suc n) (xs ++ ys)) s n x u after b)
      (does.1 o' does') k)

  abbrev Begins : State → ℕ → Item → List ℕ → Asked → Type 0
  Begins s n x u b =
      (t : List ℕ) × (mid : Option State) × (a : Asked) × IsWritten Does Answers s n (x ∷ []) t mid a
      × ((w : List ℕ) × (u ≡ t ++ w)) × ((c : Asked) × (b ≡ a ++ c))

  followed_head : (R : Rest) (s : State) (n : ℕ) (line : List ℕ) (o : Outcome State Request) (u : List ℕ)
      (after : Option State) (b : Asked) → Does s line o → IsFollowed Does Answers R s n o u after b
      → Begins s n (Line line) u b
  followed_head R s n line Skips u after b does h =
      ([], Some s, [], (Skips, does, (refl, refl, refl)), (u, refl), (b, refl))
  followed_head R s n line (Becomes v) u after b does h =
      ([], Some v, [], (Becomes v, does, (refl, refl, refl)), (u, refl), (b, refl))
  followed_head R s n line (Asks r) u after b does (answer, more, later, is, rest, text, asked) = (
    answer,
    Some s,
    (s, r) ∷ [],
    (Asks r, does, (answer, [], [], is, (refl, refl, refl), sym (append-nil answer), refl)),
    (more, text),
    (later, asked),
  )
  followed_head R s n line (Refuses f) u after b does h =
      (u, after, b, (Refuses f, does, h), ([], sym (append-nil u)), ([], sym (append-nil b)))

  -- what is written for a first item alone is a beginning of what is written for it with others: for a run that stops
  -- in that item
  pub path_head : (s : State) (n : ℕ) (x : Item) (ys : List Item) (u : List ℕ) (after : Option State) (b : Asked)
      → IsWritten Does Answers s n (x ∷ ys) u after b
      → (t : List ℕ) × (mid : Option State) × (a : List (State × Request))
      × IsWritten Does Answers s n (x ∷ []) t mid a
      × ((w : List ℕ) × (u ≡ t ++ w)) × ((c : List (State × Request)) × (b ≡ a ++ c))
  path_head s n TooLong ys u after b h =
      (u, after, b, h, ([], sym (append-nil u)), ([], sym (append-nil b)))
  path_head s n (Line line) ys u after b (o, does, h) =
      followed_head (λ v. IsWritten Does Answers v (suc n) ys) s n line o u after b does h
