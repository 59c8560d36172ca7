-- Lines of `check`, and the states that they lead to.
use Rattle.std.proofs.Common.{◌≡◌, ◌∙◌, sym, ap, refl, subst, ℕ, suc, ◌+◌, ◌≤◌}
use Rattle.std.proofs.Common.{arith}
use Rattle.std.proofs.Common.{Bool, true, false, List, [], ◌∷◌, ◌++◌, length, length-append}
use Rattle.std.proofs.Common.{Option, Some, None, Result, Ok, Err}
use Rattle.std.specs.Prelude.{nat_lt, if◌then◌else◌, ◌==◌}
use Rattle.ports.specs.Reading as lines
use Rattle.ps_model.specs.BlockText.{newline}
use Rattle.script.specs.Answers.{Item, Line, TooLong}
use Rattle.script.specs.Blocks.{block_said}
use Rattle.script.specs.Checking.{State, Has, Reads, Does, CaseDoes, ContentDoes, header_outcome, block_outcome}
use Rattle.script.specs.Checking as checking
use Rattle.script.specs.Header.{Header, Empty, Said}
use Rattle.script.specs.Header as header
use Rattle.script.specs.Words.{is_skipped}
use Rattle.script.specs.declared.refusal.Refusal.{Refusal}
use Rattle.commands.specs.CheckLines.{IsShort}
use Rattle.commands.specs.Checks.{IsFollowed, IsCheckedFrom, Leads}
use Rattle.commands.proofs.ToldOnce.{does_once}

-- lines that lead to a state: what is told of them with others is what is told of the others from that state
module _ (ended : Bool) where
  abbrev From : State → ℕ → List Item → List ℕ → ℕ → ℕ → Type 0
  From = IsCheckedFrom ended

  at_number : (s : State) (n m : ℕ) (items : List Item) (t : List ℕ) (u k : ℕ) → n ≡ m → From s n items t u k
      → From s m items t u k
  at_number s n m items t u k e h = subst (λ n. From s n items t u k) e h

  pub behind_lines : (s : State) (n : ℕ) (done : List Item) (s' : State) → Leads s n done s' → (rest : List Item)
      (t : List ℕ) (u k : ℕ) → From s n (done ++ rest) t u k → From s' (n + length done) rest t u k
  behind_lines s n [] s' is rest t u k h =
      subst (λ (x : State × ℕ). From x.0 x.1 rest t u k) (λ i. (sym is i, none n i)) h
    where
      none : (n : ℕ) → n ≡ n + 0
      none n = omega arith
  behind_lines s n (TooLong ∷ done) s' is rest t u k h = absurd is
  behind_lines s n (Line line ∷ done) s' (v, does, leads) rest t u k (r, is, h) =
      at_number s' (suc n + length done) (n + suc (length done)) rest t u k (omega arith)
      (behind_lines v (suc n) done s' leads rest t u k
      (subst (λ r. IsFollowed (λ v. From v (suc n) (done ++ rest)) n r t u k) (does_once s n line (Ok v) r does is) h))

  pub before_lines : (s : State) (n : ℕ) (done : List Item) (s' : State) → Leads s n done s' → (rest : List Item)
      (t : List ℕ) (u k : ℕ) → From s' (n + length done) rest t u k → From s n (done ++ rest) t u k
  before_lines s n [] s' is rest t u k h =
      subst (λ (x : State × ℕ). From x.0 x.1 rest t u k) (λ i. (is i, none n i)) h
    where
      none : (n : ℕ) → n + 0 ≡ n
      none n = omega arith
  before_lines s n (TooLong ∷ done) s' is rest t u k h = absurd is
  before_lines s n (Line line ∷ done) s' (v, does, leads) rest t u k h = (
    Ok v,
    does,
    before_lines v (suc n) done s' leads rest t u k
        (at_number s' (n + suc (length done)) (suc n + length done) rest t u k (omega arith) h),
  )

-- a line more
pub leads_more : (s : State) (n : ℕ) (done : List Item) (s' : State) → Leads s n done s' → (line : List ℕ) (t : State)
    → Does s' (n + length done) line (Ok t) → Leads s n (done ++ Line line ∷ []) t
leads_more s n [] s' is line t does =
    (t, subst (λ (x : State × ℕ). Does x.0 x.1 line (Ok t)) (λ i. (is i, none n i)) does, refl)
  where
    none : (n : ℕ) → n + 0 ≡ n
    none n = omega arith
leads_more s n (TooLong ∷ done) s' is line t does = absurd is
leads_more s n (Line l ∷ done) s' (v, d, leads) line t does = (
  v,
  d,
  leads_more v (suc n) done s' leads line t
      (subst (λ k. Does s' k line (Ok t)) (later n (length done)) does),
)
  where
    later : (n k : ℕ) → n + suc k ≡ suc n + k
    later n k = omega arith

-- the lines of a block grow as the input does
length_more : (text line : List ℕ) → length (text ++ line ++ newline) ≡ length text + length line + 1
length_more text line =
    length-append (text ++ line) newline ∙ ap (λ k. k + 1) (length-append text line)

module _ (n most : ℕ) (line : List ℕ) (t : State) where
  abbrev IsLonger : State → Type 0
  IsLonger t = IsShort t (suc n) (most + length line + 1)

  none_ok : {A : Type 0} (f : Refusal) → Ok t ≡ Err f → A
  none_ok f e = absurd (let no : ⊥ = cc in no)

  same_ok : (s : State) → ◌≡◌ {A = Result State Refusal} (Ok t) (Ok s) → t ≡ s
  same_ok s e = cc

  header_short : (said : Said) → Ok t ≡ header_outcome said → IsLonger t
  header_short (header.Longer h) e = subst IsLonger (sym (same_ok (checking.Begun h) e)) tt
  header_short (header.Makes names job) e = subst IsLonger (sym (same_ok (Has names job) e)) tt
  header_short (header.Refused f) e = none_ok f e

  block_short : (names : List (List ℕ)) (job : _) (o : Option Refusal) → Ok t ≡ block_outcome names job n o → IsLonger t
  block_short names job None e = subst IsLonger (sym (same_ok (Reads names job n []) e)) (omega arith, omega arith)
  block_short names job (Some f) e = none_ok f e

  header_case : (h : Header) (long skipped : Bool) → CaseDoes long skipped (checking.Begun h) n line (Ok t) → IsLonger t
  header_case h true skipped e = none_ok _ e
  header_case h false true e = subst IsLonger (sym (same_ok (checking.Begun h) e)) tt
  header_case h false false (said, says, e) = header_short said e

  due_case : (names : List (List ℕ)) (job : _) (long skipped : Bool)
      → CaseDoes long skipped (Has names job) n line (Ok t) → IsLonger t
  due_case names job true skipped e = none_ok _ e
  due_case names job false true e = subst IsLonger (sym (same_ok (Has names job) e)) tt
  due_case names job false false e = block_short names job (block_said line) e

  pub short_more : (s : State) → IsShort s n most → Does s n line (Ok t) → IsLonger t
  short_more (checking.Begun h) short does = header_case h (nat_lt 65536 (length line)) (is_skipped line) does
  short_more (Has names job) short does = due_case names job (nat_lt 65536 (length line)) (is_skipped line) does
  short_more (Reads names job first text) short does =
      subst IsLonger (sym (same_ok (Reads names job first (text ++ line ++ newline)) does))
      (let long = length_more text line in let few = short.0 in let low = short.1 in
      (omega (arith, long, few), omega (arith, low)))

pub short_within : (s : State) (n most more : ℕ) → most ≤ more → IsShort s n most → IsShort s n more
short_within (checking.Begun h) n most more le short = tt
short_within (Has names job) n most more le short = tt
short_within (Reads names job first text) n most more le short = (let few = short.0 in omega arith, short.1)

one_less : (b : ℕ) (v : Bool) → length (if v then [] else b ∷ []) ≤ 1
one_less b true = omega arith
one_less b false = omega arith

pub shorter : (line : List ℕ) → length (lines.without_return line) ≤ length line
shorter [] = omega arith
shorter (b ∷ []) = one_less b (b == 13)
shorter (b ∷ c ∷ bytes) = let later = shorter (c ∷ bytes) in omega arith
