-- The links over zero parts.
use Rattle.std.proofs.Common.{◌≡◌, ℕ, ◌+◌, ◌-◌, ◌<◌, ◌≤◌, inl, inr, List, [], ◌∷◌, ◌++◌, length, get_or, cond, ltb}
use Rattle.std.proofs.Common.{sym, ◌∙◌, ap, subst, arith}
use Rattle.std.specs.FinMap.{empty, len}
use Rattle.std.proofs.lemmas.Bool.{cases_lt}
use Rattle.std.proofs.lemmas.List.{get_or_append_left, get_or_default, get_or_past, length_push}
use Rattle.std.proofs.lemmas.List.Sums.{sum_by-append}
use Rattle.std.proofs.Math.Seq.{get_or-append_seam}
use Rattle.parts.specs.PartValue.{PartValue}
use Rattle.parts.specs.RowsOfParts.{nothing, part_in}
use Rattle.units.specs.Links.{IsBelow, AreLinks, nonzero_count, AreKnown}

-- the parts from b to s - 1 are zero
pub record Skips (ps : List PartValue) (s b : ℕ) : Type 0 where
  pub within : b ≤ s
  pub zeros : (t : ℕ) → b ≤ t → t < s → (part_in ps t).map ≡ empty

module _ (ps : List PartValue) where
  pub below-first : IsBelow ps 0 0
  below-first = record {
    within = omega arith;
    zeros = λ t low lt. absurd (omega arith);
    last = λ t end zero. absurd (omega arith);
  }

  -- behind a zero part the link is that of its own place
  pub below-zero : (s b : ℕ) → IsBelow ps s b → (part_in ps s).map ≡ empty → IsBelow ps (s + 1) b
  below-zero s b is zero = record {
    within = let within = is.within in omega arith;
    zeros = λ t low lt. elim (cases_lt t s) as (λ _. (part_in ps t).map ≡ empty) [
      | inl before ↦ is.zeros t low before
      | inr past ↦ let same : s ≡ t = omega arith in subst (λ k. (part_in ps k).map ≡ empty) same zero
    ];
    last = is.last;
  }

  -- behind a part with a term nothing is skipped
  pub below-term : (s : ℕ) → ((part_in ps s).map ≡ empty → ⊥) → IsBelow ps (s + 1) (s + 1)
  below-term s some = record {
    within = omega arith;
    zeros = λ t low lt. absurd (omega arith);
    last = λ t end zero. some
        (let same : t ≡ s = omega arith in subst (λ k. (part_in ps k).map ≡ empty) same zero);
  }

  -- the same at the place behind all parts
  pub next-zero : (r b : ℕ) → 0 < r → IsBelow ps (r - 1) b → (part_in ps (r - 1)).map ≡ empty → IsBelow ps r b
  next-zero r b some is zero = subst (λ n. IsBelow ps n b) (let same : r - 1 + 1 ≡ r = omega arith in same)
      (below-zero (r - 1) b is zero)

  pub next-term : (r : ℕ) → 0 < r → ((part_in ps (r - 1)).map ≡ empty → ⊥) → IsBelow ps r r
  next-term r some term = subst (λ n. IsBelow ps n n) (let same : r - 1 + 1 ≡ r = omega arith in same)
      (below-term (r - 1) term)

  -- a part more behind the place
  below-longer : (p : PartValue) (s b : ℕ) → s ≤ length ps → IsBelow ps s b → IsBelow (ps ++ p ∷ []) s b
  below-longer p s b le is = record {
    within = is.within;
    zeros = λ t low lt. ap (λ (q : PartValue). q.map) (get_or_append_left ps (p ∷ []) nothing t (omega arith))
        ∙ is.zeros t low lt;
    last = λ t end zero. is.last t end
        (sym (ap (λ (q : PartValue). q.map) (get_or_append_left ps (p ∷ []) nothing t
        (let within = is.within in omega arith))) ∙ zero);
  }

  links-more : (p : PartValue) (links : List ℕ) (b : ℕ) → length links ≡ length ps → AreLinks ps links
      → IsBelow ps (length ps) b → AreLinks (ps ++ p ∷ []) (links ++ b ∷ [])
  links-more p links b count are is s lt = elim (cases_lt s (length links)) as
      (λ _. IsBelow (ps ++ p ∷ []) s (get_or (links ++ b ∷ []) s 0)) [
        | inl low ↦ subst (IsBelow (ps ++ p ∷ []) s) (sym (get_or_append_left links (b ∷ []) 0 s low))
            (below-longer p s (get_or links s 0) (omega arith) (are s low))
        | inr high ↦
            let end : length links ≡ s = omega (arith, length_push links b) in
            subst (λ n. IsBelow (ps ++ p ∷ []) n (get_or (links ++ b ∷ []) n 0)) end
            (subst (IsBelow (ps ++ p ∷ []) (length links)) (sym (get_or-append_seam links b [] 0))
            (subst (λ n. IsBelow (ps ++ p ∷ []) n b) (sym count) (below-longer p (length ps) b (omega arith) is)))
      ]

  -- a part more, its link, and whether it has a term
  pub known-more : (p : PartValue) (links : List ℕ) (nonzero b n : ℕ) → AreKnown ps links nonzero
      → IsBelow ps (length ps) b → n ≡ nonzero_count (p ∷ []) → AreKnown (ps ++ p ∷ []) (links ++ b ∷ []) (nonzero + n)
  known-more p links nonzero b n known is one = record {
    count = length_push links b ∙ ap (λ k. k + 1) known.count ∙ sym (length_push ps p);
    links_are = links-more p links b known.count known.links_are is;
    nonzero_is = (λ i. known.nonzero_is i + one i)
        ∙ sym (sum_by-append (λ (q : PartValue). cond (ltb 0 (len q.map)) 1 0) ps (p ∷ []));
  }

  -- what a loop may pass over, by a link and by a list of links
  pub skips-below : (s b : ℕ) → IsBelow ps s b → Skips ps s b
  skips-below s b is = record { within = is.within; zeros = is.zeros }

  pub skips-linked : (links : List ℕ) (s : ℕ) → AreLinks ps links → Skips ps s (get_or links s s)
  skips-linked links s are = elim (cases_lt s (length links)) as (λ _. Skips ps s (get_or links s s)) [
    | inl low ↦ subst (Skips ps s) (get_or_default links s 0 s low)
        (skips-below s (get_or links s 0) (are s low))
    | inr high ↦ subst (Skips ps s) (sym (get_or_past links s s high)) (record {
      within = omega arith;
      zeros = λ t low lt. absurd (omega arith);
    })
  ]
