-- The terms of a line, one after another.
use Rattle.std.proofs.Common.{◌≡◌, ℕ, T, List, [], ◌∷◌, ◌++◌, Option, Some, None}
use Rattle.std.proofs.Common.{codes, refl, sym, ◌∙◌, ap, subst, append_assoc, true}
use Rattle.std.specs.List.{flat_map, AllByRecursion}
use Rattle.std.specs.Ordering.{is_lt}
use Rattle.std.specs.Cmp.{IsTotalOrder}
use Rattle.std.specs.FinMap.{is_sorted}
use Rattle.std.specs.FinMap.Entries.{below_all}
use Rattle.std.specs.declared.cmp.Ordering.{Ordering}
use Rattle.std.specs.declared.cmp.Ordering.TheVariants.{Less, Equal, Greater}
use Rattle.std.proofs.lemmas.Option.{none-some, same_Some}
use Rattle.ps_model.specs.BlockText.{term_text, terms_text}
use Rattle.ps_model.specs.Keys.{Key}
use Rattle.ps_model.proofs.Maps.{both, first_part, second_part}
use Rattle.parts.specs.Rings.{eight_weights}
use Rattle.parts.specs.declared.rings.Ring.{Ring}
use Rattle.printer.specs.ReadForms.{strip, ends}
use Rattle.printer.specs.ReadBlock.{printed_order, IsTerm, AreTerms, IsTermBefore, FollowsBy, IsGraded, last_entry}
use Rattle.printer.specs.ReadBlock.{HasLine, HasNoLine}
use Rattle.std.proofs.Common.{append-nil, map}
use Rattle.std.proofs.lemmas.List.{map-append}
use Rattle.ps_model.specs.Plain.{key_of, entry_of}
use Rattle.ps_model.specs.PlainLists.{plain_degree}
use Rattle.ps_model.specs.declared.plain.PlainTerm.{PlainTerm}
use Rattle.printer.proofs.ReadDegrees.{printed_order_total}
use Rattle.printer.proofs.ReadPowers.{strip_same, strip_is}

abbrev pub Entry : Type 0
Entry = Key 8 × ℕ

-- lists in order, one entry longer
module _ {K : Type 0} (R : K → K → Ordering) (total : IsTotalOrder R) where
  less_is : (r : Ordering) → T (is_lt r) → r ≡ Less
  less_is Less h = refl
  less_is Equal h = absurd h
  less_is Greater h = absurd h

  is_less : (r : Ordering) → r ≡ Less → T (is_lt r)
  is_less r e = subst (λ r. T (is_lt r)) (sym e) tt

  below_more : (x : K) (es : List (K × ℕ)) (l t : K × ℕ) → R l.0 t.0 ≡ Less → T (below_all R x (es ++ l ∷ []))
      → T (below_all R x ((es ++ l ∷ []) ++ t ∷ []))
  below_more x [] l t less h =
      both _ _ (first_part _ _ h)
      (both _ _ (is_less (R x t.0) (total.trans x l.0 t.0 (less_is (R x l.0) (first_part _ _ h)) less)) tt)
  below_more x (e ∷ es) l t less h = both _ _ (first_part _ _ h) (below_more x es l t less (second_part _ _ h))

  pub sorted_more : (es : List (K × ℕ)) (l t : K × ℕ) → R l.0 t.0 ≡ Less → T (is_sorted R (es ++ l ∷ []))
      → T (is_sorted R ((es ++ l ∷ []) ++ t ∷ []))
  sorted_more [] l t less h = both _ _ (both _ _ (is_less (R l.0 t.0) less) tt) tt
  sorted_more (e ∷ es) l t less h =
      both _ _ (below_more e.0 es l t less (first_part _ _ h)) (sorted_more es l t less (second_part _ _ h))

  below_next : (x : K) (es : List (K × ℕ)) (u : K × ℕ) (us : List (K × ℕ)) → T (below_all R x (es ++ u ∷ us))
      → R x u.0 ≡ Less
  below_next x [] u us h = less_is (R x u.0) (first_part _ _ h)
  below_next x (e ∷ es) u us h = below_next x es u us (second_part _ _ h)

  pub sorted_next : (es : List (K × ℕ)) (l u : K × ℕ) (us : List (K × ℕ))
      → T (is_sorted R ((es ++ l ∷ []) ++ u ∷ us)) → R l.0 u.0 ≡ Less
  sorted_next [] l u us h = less_is (R l.0 u.0) (first_part _ _ (first_part _ _ h))
  sorted_next (e ∷ es) l u us h = sorted_next es l u us (second_part _ _ h)

each_more : (P : Entry → Type 0) (es : List Entry) (t : Entry) → AllByRecursion P es → P t
    → AllByRecursion P (es ++ t ∷ [])
each_more P [] t all one = (one, tt)
each_more P (e ∷ es) t all one = (all.0, each_more P es t all.1 one)

each_at : (P : Entry → Type 0) (es : List Entry) (u : Entry) (us : List Entry) → AllByRecursion P (es ++ u ∷ us) → P u
each_at P [] u us all = all.0
each_at P (e ∷ es) u us all = each_at P es u us all.1

module _ (ring : Ring) (names : List (List ℕ)) (D j : ℕ) where
  abbrev tail_text : List Entry → List ℕ
  tail_text ts = flat_map (λ u. codes " + " ++ term_text names u) ts

  -- the last of the terms so far
  abbrev pub IsLast : Option Entry → List Entry → Type 0
  IsLast None done = done ≡ []
  IsLast (Some l) done = (es : List Entry) × (done ≡ es ++ l ∷ [])

  abbrev pub Follows : Option Entry → Entry → Type 0
  Follows last t = FollowsBy (eight_weights ring) last t

  -- the terms so far begin each reading of the text, and the rest completes them
  pub record LineGoing (text : List ℕ) (done : List Entry) (last : Option Entry) (rest : List ℕ) : Type 0 where
    pub are : AreTerms ring names D j done
    pub is_last : IsLast last done
    pub back : (u : Entry) (us : List Entry) (r : List ℕ)
        → rest ≡ terms_text names (u ∷ us) ++ 10 ∷ r → text ≡ terms_text names (done ++ u ∷ us) ++ 10 ∷ r
    pub only : (ts : List Entry) (r : List ℕ) → AreTerms ring names D j ts → text ≡ terms_text names ts ++ 10 ∷ r
        → (u : Entry) × (us : List Entry) × (ts ≡ done ++ u ∷ us) × (rest ≡ terms_text names (u ∷ us) ++ 10 ∷ r)

  zero_text : (r : List ℕ) → strip (48 ∷ 10 ∷ []) (48 ∷ 10 ∷ r) ≡ Some r
  zero_text r = strip_same (48 ∷ 10 ∷ []) r

  pub line_start : (text : List ℕ) → strip (codes "0\n") text ≡ None → LineGoing text [] None text
  line_start text none = record {
    are = record { each = tt; in_order = tt };
    is_last = refl;
    back = λ u us r is. is;
    only = λ ts r are is. start ts r is;
  }
    where
      start : (ts : List Entry) (r : List ℕ) → text ≡ terms_text names ts ++ 10 ∷ r
          → (u : Entry) × (us : List Entry) × (ts ≡ [] ++ u ∷ us) × (text ≡ terms_text names (u ∷ us) ++ 10 ∷ r)
      start [] r is = absurd (none-some r (sym none ∙ ap (strip (codes "0\n")) is ∙ strip_same (codes "0\n") r))
      start (t ∷ ts) r is = (t, ts, refl, is)

  -- a line without terms
  pub line_zero : (text rest : List ℕ) → strip (codes "0\n") text ≡ Some rest
      → AreTerms ring names D j [] × (text ≡ terms_text {n = 8} names [] ++ 10 ∷ rest)
  line_zero text rest is = (record { each = tt; in_order = tt }, strip_is (codes "0\n") text rest is)

  tail_ends : (us : List Entry) (r : List ℕ) → ends (tail_text us ++ 10 ∷ r) ≡ true
  tail_ends [] r = refl
  tail_ends (u ∷ us) r = refl

  -- the next term of a reading
  pub next_before : (text : List ℕ) (done : List Entry) (last : Option Entry) (rest : List ℕ)
      → LineGoing text done last rest → (ts : List Entry) (r : List ℕ) → AreTerms ring names D j ts
      → text ≡ terms_text names ts ++ 10 ∷ r
      → (u : Entry) × (us : List Entry) × (ts ≡ done ++ u ∷ us)
      × IsTermBefore ring names D j rest u (tail_text us ++ 10 ∷ r)
  next_before text done last rest going ts r are is =
      let next = going.only ts r are is in
      let u : Entry = next.0 in
      let us : List Entry = next.1 in (
        u,
        us,
        next.2,
        record {
          is_term = each_at (IsTerm ring names D j) done u us
              (subst (λ ts. AllByRecursion (IsTerm ring names D j) ts) next.2 are.each);
          rest_ends = tail_ends us r;
          text_is = next.3 ∙ append_assoc (term_text names u) (tail_text us) (10 ∷ r);
        },
      )

  follows_last : (last : Option Entry) (done : List Entry) (u : Entry) (us : List Entry) → IsLast last done
      → T (is_sorted (printed_order (eight_weights ring)) (done ++ u ∷ us)) → Follows last u
  follows_last None done u us is sorted = tt
  follows_last (Some l) done u us is sorted =
      sorted_next (printed_order (eight_weights ring)) (printed_order_total (eight_weights ring)) is.0 l u us
      (subst (λ (es : List Entry). T (is_sorted (printed_order (eight_weights ring)) (es ++ u ∷ us))) is.1 sorted)

  one_more : (last : Option Entry) (done : List Entry) (t : Entry) → IsLast last done → Follows last t
      → IsTerm ring names D j t → AreTerms ring names D j done → AreTerms ring names D j (done ++ t ∷ [])
  one_more None done t is follows term are = record {
    each = each_more (IsTerm ring names D j) done t are.each term;
    in_order = subst (λ (es : List Entry). T (is_sorted (printed_order (eight_weights ring)) (es ++ t ∷ []))) (sym is)
        tt;
  }
  one_more (Some l) done t is follows term are = record {
    each = each_more (IsTerm ring names D j) done t are.each term;
    in_order = subst (λ (es : List Entry). T (is_sorted (printed_order (eight_weights ring)) (es ++ t ∷ [])))
        (sym is.1)
        (sorted_more (printed_order (eight_weights ring)) (printed_order_total (eight_weights ring)) is.0 l t follows
        (subst (λ (es : List Entry). T (is_sorted (printed_order (eight_weights ring)) es)) is.1 are.in_order));
  }

  -- a term was read
  module _ (text : List ℕ) (done : List Entry) (last : Option Entry) (rest : List ℕ) (t : Entry) (behind : List ℕ)
      (going : LineGoing text done last rest) (term : IsTerm ring names D j t)
      (text_is : rest ≡ term_text names t ++ behind)
      (only : (u : Entry) (r : List ℕ) → IsTermBefore ring names D j rest u r → (t ≡ u) × (behind ≡ r)) where
    -- each reading goes on with it
    reading : (ts : List Entry) (r : List ℕ) → AreTerms ring names D j ts → text ≡ terms_text names ts ++ 10 ∷ r
        → (us : List Entry) × (ts ≡ done ++ t ∷ us) × (behind ≡ tail_text us ++ 10 ∷ r)
    reading ts r are is =
        let next = next_before text done last rest going ts r are is in
        let same = only next.0 (tail_text next.1 ++ 10 ∷ r) next.3 in
        (next.1, next.2 ∙ ap (λ (u : Entry). done ++ u ∷ next.1) (sym same.0), same.1)

    pub not_in_order : (Follows last t → ⊥) → (ts : List Entry) (r : List ℕ) → AreTerms ring names D j ts
        → text ≡ terms_text names ts ++ 10 ∷ r → ⊥
    not_in_order not_after ts r are is =
        let next = reading ts r are is in
        not_after (follows_last last done t next.0 going.is_last
        (subst (λ (es : List Entry). T (is_sorted (printed_order (eight_weights ring)) es)) next.1 are.in_order))

    pub line_end : Follows last t → (r : List ℕ) → strip (codes "\n") behind ≡ Some r
        → AreTerms ring names D j (done ++ t ∷ []) × (text ≡ terms_text names (done ++ t ∷ []) ++ 10 ∷ r)
    line_end follows r is = (
      one_more last done t going.is_last follows term going.are,
      going.back t [] r (text_is ∙ ap (λ (l : List ℕ). term_text names t ++ l) (strip_is (codes "\n") behind r is)
          ∙ sym (append_assoc (term_text names t) [] (10 ∷ r))),
    )

    pub no_end : strip (codes "\n") behind ≡ None → strip (codes " + ") behind ≡ None → (ts : List Entry)
        (r : List ℕ) → AreTerms ring names D j ts → text ≡ terms_text names ts ++ 10 ∷ r → ⊥
    no_end no_newline no_plus ts r are is =
        let next = reading ts r are is in
        neither next.0 next.2
      where
        neither : (us : List Entry) → behind ≡ tail_text us ++ 10 ∷ r → ⊥
        neither [] e = none-some r (sym no_newline ∙ ap (strip (codes "\n")) e ∙ strip_same (codes "\n") r)
        neither (u ∷ us) e =
            none-some (term_text names u ++ (tail_text us ++ 10 ∷ r))
            (sym no_plus ∙ ap (strip (codes " + ")) (e ∙ regroup (codes " + ") (term_text names u) (tail_text us)
            (10 ∷ r)) ∙ strip_same (codes " + ") (term_text names u ++ (tail_text us ++ 10 ∷ r)))
          where
            regroup : (a b c d : List ℕ) → ((a ++ b) ++ c) ++ d ≡ a ++ (b ++ (c ++ d))
            regroup a b c d = simp append_assoc

    -- another term follows
    back_more : (next : List ℕ) → strip (codes " + ") behind ≡ Some next → (u : Entry) (us : List Entry) (r : List ℕ)
        → next ≡ terms_text names (u ∷ us) ++ 10 ∷ r
        → text ≡ terms_text names ((done ++ t ∷ []) ++ u ∷ us) ++ 10 ∷ r
    back_more next is u us r e =
        going.back t (u ∷ us) r
        (text_is
        ∙ ap (λ (l : List ℕ). term_text names t ++ l)
        (strip_is (codes " + ") behind next is ∙ ap (λ (l : List ℕ). codes " + " ++ l) e)
        ∙ regroup (term_text names t) (codes " + ") (term_text names u) (tail_text us) (10 ∷ r))
        ∙ ap (λ (es : List Entry). terms_text names es ++ 10 ∷ r) (sym (append_assoc done (t ∷ []) (u ∷ us)))
      where
        regroup : (a p b c d : List ℕ) → a ++ (p ++ ((b ++ c) ++ d)) ≡ (a ++ ((p ++ b) ++ c)) ++ d
        regroup a p b c d = simp append_assoc

    only_more : (next : List ℕ) → strip (codes " + ") behind ≡ Some next → (ts us : List Entry) (r : List ℕ)
        → ts ≡ done ++ t ∷ us → behind ≡ tail_text us ++ 10 ∷ r
        → (u : Entry) × (vs : List Entry) × (ts ≡ (done ++ t ∷ []) ++ u ∷ vs)
        × (next ≡ terms_text names (u ∷ vs) ++ 10 ∷ r)
    only_more next is ts [] r whole e =
        absurd (none-some next (ap (strip (codes " + ")) (sym e) ∙ is))
    only_more next is ts (u ∷ us) r whole e = (
      u,
      us,
      whole ∙ sym (append_assoc done (t ∷ []) (u ∷ us)),
      same_Some _ _ (sym is ∙ ap (strip (codes " + ")) (e ∙ regroup (codes " + ") (term_text names u)
          (tail_text us) (10 ∷ r)) ∙ strip_same (codes " + ") (term_text names u ++ (tail_text us ++ 10 ∷ r)))
          ∙ sym (append_assoc (term_text names u) (tail_text us) (10 ∷ r)),
    )
      where
        regroup : (a b c d : List ℕ) → ((a ++ b) ++ c) ++ d ≡ a ++ (b ++ (c ++ d))
        regroup a b c d = simp append_assoc

    pub line_more : Follows last t → (next : List ℕ) → strip (codes " + ") behind ≡ Some next
        → LineGoing text (done ++ t ∷ []) (Some t) next
    line_more follows next is = record {
      are = one_more last done t going.is_last follows term going.are;
      is_last = (done, refl);
      back = λ u us r e. back_more next is u us r e;
      only = λ ts r are e.
          let found = reading ts r are e in
          only_more next is ts found.0 r found.1 found.2;
    }

-- what the loop keeps
pub record LineReading (ring : Ring) (names : List (List ℕ)) (D j : ℕ) (text : List ℕ) (old now : List Entry)
    (last : Option (ℕ × PlainTerm)) (rest : List ℕ) : Type 0 where
  pub done : List Entry
  pub now_is : now ≡ old ++ done
  pub graded : IsGraded (eight_weights ring) last
  pub going : LineGoing ring names D j text done (last_entry last) rest

-- a line without terms, as the code answers it
pub zero_line : (ring : Ring) (names : List (List ℕ)) (D j : ℕ) (text rest : List ℕ) (old : List Entry)
    → strip (codes "0\n") text ≡ Some rest → HasLine ring names D j text old old rest
zero_line ring names D j text rest old is = record {
  terms = [];
  are = (line_zero ring names D j text rest is).0;
  new_is = sym (append-nil old);
  text_is = (line_zero ring names D j text rest is).1;
}

-- one more entry
pub entries_more : (old done : List Entry) (items new : List PlainTerm) (t : PlainTerm)
    → new ≡ items ++ t ∷ [] → map entry_of items ≡ old ++ done
    → map entry_of new ≡ old ++ (done ++ entry_of t ∷ [])
entries_more old done items new t is so_far =
    ap (map entry_of) is ∙ map-append entry_of items (t ∷ [])
    ∙ ap (λ (l : List Entry). l ++ entry_of t ∷ []) so_far ∙ append_assoc old done (entry_of t ∷ [])

module _ (ring : Ring) (names : List (List ℕ)) (D j : ℕ) (text : List ℕ) (old now : List Entry)
    (last : Option (ℕ × PlainTerm)) (rest : List ℕ) (reading : LineReading ring names D j text old now last rest)
  where
    pub reading_none : ((u : Entry) (r : List ℕ) → IsTermBefore ring names D j rest u r → ⊥)
        → HasNoLine ring names D j text
    reading_none none ts r are is =
        let next = next_before ring names D j text reading.done (last_entry last) rest reading.going ts r are is in
        none next.0 _ next.3

    module _ (t : PlainTerm) (behind : List ℕ) (term : IsTerm ring names D j (entry_of t))
        (text_is : rest ≡ term_text names (entry_of t) ++ behind)
        (only : (u : Entry) (r : List ℕ) → IsTermBefore ring names D j rest u r → (entry_of t ≡ u) × (behind ≡ r))
      where
        pub reading_unordered : (FollowsBy (eight_weights ring) (last_entry last) (entry_of t) → ⊥)
            → HasNoLine ring names D j text
        reading_unordered not_after ts r are is = not_in_order ring names D j text reading.done (last_entry last) rest
            (entry_of t) behind reading.going term text_is only not_after ts r are is

        pub reading_stopped : strip (codes "\n") behind ≡ None → strip (codes " + ") behind ≡ None
            → HasNoLine ring names D j text
        reading_stopped no_newline no_plus ts r are is = no_end ring names D j text reading.done (last_entry last) rest
            (entry_of t) behind reading.going term text_is only no_newline no_plus ts r are is

        module _ (follows : FollowsBy (eight_weights ring) (last_entry last) (entry_of t)) (items new : List PlainTerm)
            (pushed : new ≡ items ++ t ∷ []) (now_is : map entry_of items ≡ old ++ reading.done) where
          pub reading_ended : (r : List ℕ) → strip (codes "\n") behind ≡ Some r
              → HasLine ring names D j text old (map entry_of new) r
          reading_ended r is =
              let line = line_end ring names D j text reading.done (last_entry last) rest (entry_of t) behind
              reading.going term text_is only follows r is in
              record {
                terms = reading.done ++ entry_of t ∷ [];
                are = line.0;
                new_is = entries_more old reading.done items new t pushed now_is;
                text_is = line.1;
              }

          pub reading_on : (degree : ℕ) → degree ≡ plain_degree (eight_weights ring) (key_of t) → (next : List ℕ)
              → strip (codes " + ") behind ≡ Some next
              → LineReading ring names D j text old (map entry_of new) (Some (degree, t)) next
          reading_on degree is_degree next is = record {
            done = reading.done ++ entry_of t ∷ [];
            now_is = entries_more old reading.done items new t pushed now_is;
            graded = is_degree;
            going = line_more ring names D j text reading.done (last_entry last) rest (entry_of t) behind reading.going
                term text_is only follows next is;
          }
