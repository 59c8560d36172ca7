-- Names and weights that are read word by word.
use Rattle.std.proofs.Common.{◌≡◌, ◌∙◌, sym, ap, refl, subst, ℕ, zero, suc, ◌+◌, ◌-◌, ◌<◌, ◌≤◌, Bool, true, false}
use Rattle.std.proofs.Common.{List, [], ◌∷◌, ◌++◌, length, take, drop, set, replicate, Option, Some, None, Result}
use Rattle.std.proofs.Common.{◌&&◌, nat_le, cond, arith, length-append, MatchOption}
use Rattle.std.specs.List.{All}
use Rattle.std.specs.Option.{option_map}
use Rattle.std.proofs.Math.Seq.{take-suc-set}
use Rattle.std.proofs.lemmas.Bool.{and_parts}
use Rattle.std.proofs.lemmas.Bool.Decides.{nat_tests}
use Rattle.std.proofs.lemmas.List.{length-set, drop-set-lt}
use Rattle.std.proofs.lemmas.List.Elements.{All-append}
use Rattle.std.proofs.lemmas.Option.{none-some}
use Rattle.script.proofs.NameLemmas.{too_many}
use Rattle.script.specs.Header.{Named, name_in, weight_in, weight_said, name_fault, unless_fault, weighed, names_from}
use Rattle.script.specs.Header.{names_in, error_in, behind_colon}
use Rattle.script.specs.Numbers.{is_number, number_in, number_of}
use Rattle.script.specs.Refusals.{Tells}
use Rattle.script.specs.declared.refusal.Refusal.{Refusal}
use Rattle.script.specs.declared.refusal.Refusal.TheVariants as refusal
use Rattle.script.specs.declared.refusal.Refused.{Refused}
use Rattle.script.specs.declared.refusal.Refused.TheVariants.{Line, OutOfMemory}

module _ (all : Result Named Refusal) (names : List (List ℕ)) (ws : List ℕ) (k : ℕ) (ls : List (List ℕ))
    (so_far : all ≡ names_from names ws k ls) where
  module _ (w : List ℕ) (more : List (List ℕ)) (first : ls ≡ w ∷ more) where
    pub bad_name : (f : Refusal) → name_fault names (name_in w) k ≡ Some f → error_in all ≡ Some f
    bad_name f e =
        ap error_in (so_far ∙ ap (names_from names ws k) first) ∙ ap (λ o. error_in (unless_fault o
        (weighed k (λ v. names_from (names ++ name_in w ∷ []) (ws ++ v ∷ []) (suc k) more) (weight_in w)))) e

    named : name_fault names (name_in w) k ≡ None
        → all ≡ weighed k (λ v. names_from (names ++ name_in w ∷ []) (ws ++ v ∷ []) (suc k) more) (weight_in w)
    named e =
        so_far ∙ ap (names_from names ws k) first ∙ ap (λ o. unless_fault o
        (weighed k (λ v. names_from (names ++ name_in w ∷ []) (ws ++ v ∷ []) (suc k) more) (weight_in w))) e

    pub one_more : name_fault names (name_in w) k ≡ None → (v : ℕ) → weight_in w ≡ Some v
        → all ≡ names_from (names ++ name_in w ∷ []) (ws ++ v ∷ []) (suc k) more
    one_more e v is =
        named e ∙ ap (λ o. weighed k (λ u. names_from (names ++ name_in w ∷ []) (ws ++ u ∷ []) (suc k) more) o) is

abbrev pub IsWeight : ℕ → Type 0
IsWeight v = (1 ≤ v) × (v ≤ 64)

-- the weights of the first n names among eight, with 1 behind them
pub record AreSoFar (n : ℕ) (ws : List ℕ) : Type 0 where
  pub eight : length ws ≡ 8
  pub of_names : All (λ w. (1 ≤ w) × (w ≤ 64)) (take n ws)
  pub others : drop n ws ≡ replicate (8 - n) 1

drop-tail : (ws : List ℕ) (n r : ℕ) → drop n ws ≡ replicate (suc r) 1 → drop (suc n) ws ≡ replicate r 1
drop-tail [] zero r e = ap (drop 1) e
drop-tail [] (suc n) r e = ap (drop 1) e
drop-tail (w ∷ ws) zero r e = ap (drop 1) e
drop-tail (w ∷ ws) (suc n) r e = drop-tail ws n r e

weight_set : (n v : ℕ) (ws : List ℕ) → n < length ws → take (suc n) (set ws n v) ≡ take n ws ++ v ∷ []
weight_set n v ws lt = take-suc-set ws n v lt

weight_put : (n : ℕ) (ws : List ℕ) (v : ℕ) → n < 8 → IsWeight v → AreSoFar n ws → AreSoFar (suc n) (set ws n v)
weight_put n ws v few p so_far = record {
  eight = length-set ws n v ∙ so_far.eight;
  of_names = subst (All IsWeight) (sym (weight_set n v ws within)) (All-append IsWeight (take n ws) (v ∷ [])
      so_far.of_names single);
  others = drop-set-lt (suc n) ws n v (omega arith) ∙ drop-tail ws n (8 - suc n) (so_far.others ∙
      ap (λ (k : ℕ). replicate k 1) rest);
}
  where
    within : n < length ws
    within = omega (arith, so_far.eight)

    rest : 8 - n ≡ suc (8 - suc n)
    rest = omega arith

    single : All IsWeight (v ∷ [])
    single zero d lt = p
    single (suc i) d lt = absurd (omega arith)

-- what is written is a weight
number_within : (low high v : ℕ) (text : List ℕ) → number_in low high text ≡ Some v → (low ≤ v) × (v ≤ high)
number_within low high v text e =
    by (is_number text && (nat_le low (number_of text) && nat_le (number_of text) high)) refl
  where
    by : (b : Bool) → (is_number text && (nat_le low (number_of text) && nat_le (number_of text) high)) ≡ b
        → (low ≤ v) × (v ≤ high)
    by true t =
        let bounds : (nat_le low (number_of text) ≡ true) × (nat_le (number_of text) high ≡ true) =
        and_parts (nat_le low (number_of text)) (nat_le (number_of text) high)
        ((and_parts (is_number text) (nat_le low (number_of text) && nat_le (number_of text) high) t).1) in
        let is : Some (number_of text) ≡ Some v = sym (ap (λ b. cond b (Some (number_of text)) None) t) ∙ e in
        let same : number_of text ≡ v = grind arith in
        let low_is : low ≤ number_of text = grind (arith, nat_tests) in
        let high_is : number_of text ≤ high = grind (arith, nat_tests) in
        (omega (arith, low_is, same), omega (arith, high_is, same))
    by false t = absurd (none-some v (sym (ap (λ b. cond b (Some (number_of text)) None) t) ∙ e))

weight_within : (o : Option (List ℕ)) (v : ℕ) → weight_said o ≡ Some v → IsWeight v
weight_within None v e =
    let is : 1 ≡ v = grind arith in
    (omega (arith, is), omega (arith, is))
weight_within (Some text) v e = number_within 1 64 v text e

-- what stands behind the colon, as what was cut off there
pub behind_is : {A : Type 0} (see : A → List ℕ) (o : Option A) (b : Option (List ℕ))
    → MatchOption o (b ≡ None) (λ x. b ≡ Some (see x)) → option_map see o ≡ b
behind_is see None b h = sym h
behind_is see (Some x) b h = sym h

names_in-some : (ws : List (List ℕ)) → (ws ≡ [] → ⊥) → names_in ws ≡ names_from [] [] 1 ws
names_in-some [] some = absurd (some refl)
names_in-some (w ∷ ws) some = refl

-- the next word, behind these names and weights; n is the number of names
module _ (W : List (List ℕ)) (names : List (List ℕ)) (ws : List ℕ) (ls : List (List ℕ))
    (same : names_from [] [] 1 W ≡ names_from names (take (length names) ws) (length names + 1) ls)
    (begun : length names ≡ 0 → ls ≡ W) (some : 0 < length names → W ≡ [] → ⊥)
    (w : List ℕ) (more : List (List ℕ)) (first : ls ≡ w ∷ more) (name : List ℕ) (name_is : name ≡ name_in w)
    (n : ℕ) (place : n ≡ length names) where
  pub whole : W ≡ [] → ⊥
  whole none = by (length names) refl
    where
      by : (k : ℕ) → length names ≡ k → ⊥
      by zero e =
          let size : length (w ∷ more) ≡ 0 = ap length (sym first ∙ begun e ∙ none) in
          omega (arith, size)
      by (suc k) e = some (omega (arith, e)) none

  fault_is : name_fault names (name_in w) (length names + 1) ≡ name_fault names name (n + 1)
  fault_is = ap (λ x. name_fault names x (length names + 1)) (sym name_is)
      ∙ ap (λ (k : ℕ). name_fault names name (k + 1)) (sym place)

  pub tells_name : (e : Refused) → Tells e (name_fault names name (n + 1)) → Tells e (error_in (names_in W))
  tells_name (Line f) told =
      ap error_in (names_in-some W whole)
      ∙ bad_name (names_from [] [] 1 W) names (take (length names) ws) (length names + 1) ls same w more first f
      (fault_is ∙ told)
  tells_name OutOfMemory told = tt

  module _ (good : name_fault names name (n + 1) ≡ None) (o : Option (List ℕ)) (cut : o ≡ behind_colon w)
      (few : length names ≤ 8) (so_far : AreSoFar (length names) ws) (v : ℕ) (is : Some v ≡ weight_said o)
      (later : List (List ℕ)) (pushed : later ≡ names ++ name ∷ []) where
    longer : length later ≡ suc n
    longer = ap length pushed ∙ length-append names (name ∷ []) ∙ omega (arith, place)

    room : n < 8
    room = omega (arith, place, fewer (length names) few full)
      where
        full : length names ≡ 8 → ⊥
        full e = none-some refusal.TooManyNames (sym good ∙ too_many names name (n + 1) e)

        fewer : (k : ℕ) → k ≤ 8 → (k ≡ 8 → ⊥) → k < 8
        fewer k le ne = omega (arith, ne)

    pub few_later : length later ≤ 8
    few_later = omega (arith, room, longer)

    pub some_later : 0 < length later
    some_later = omega (arith, longer)

    pub weights_later : AreSoFar (length later) (set ws n v)
    weights_later = subst (λ (k : ℕ). AreSoFar k (set ws n v)) (sym longer)
        (weight_put n ws v room (weight_within o v (sym is)) (subst (λ (k : ℕ). AreSoFar k ws) (sym place) so_far))

    pub same_later : names_from [] [] 1 W
        ≡ names_from later (take (length later) (set ws n v)) (length later + 1) more
    same_later =
        one_more (names_from [] [] 1 W) names (take (length names) ws) (length names + 1) ls same w more first
        (fault_is ∙ good) v (ap weight_said (sym cut) ∙ sym is)
        ∙ ap (λ x. names_from (names ++ x ∷ []) (take (length names) ws ++ v ∷ []) (suc (length names + 1)) more)
        (sym name_is)
        ∙ ap (λ l. names_from l (take (length names) ws ++ v ∷ []) (suc (length names + 1)) more) (sym pushed)
        ∙ ap (λ l. names_from later l (suc (length names + 1)) more) taken
        ∙ ap (λ (k : ℕ). names_from later (take (length later) (set ws n v)) k more) next
      where
        next : suc (length names + 1) ≡ length later + 1
        next = omega (arith, longer, place)

        within : n < length ws
        within = omega (arith, so_far.eight, room)

        taken : take (length names) ws ++ v ∷ [] ≡ take (length later) (set ws n v)
        taken = ap (λ (k : ℕ). take k ws ++ v ∷ []) (sym place) ∙ sym (weight_set n v ws within)
            ∙ ap (λ (k : ℕ). take k (set ws n v)) (sym longer)
