-- Nodes that are added one by one.
use Rattle.std.proofs.Common.{◌≡◌, ℕ, zero, suc, ◌+◌, ◌⊎◌, inl, inr, List, [], ◌∷◌, ◌++◌, length, append_assoc}
use Rattle.std.proofs.Common.{Some, None, refl, sym, ◌∙◌, ap, arith}
use Rattle.std.proofs.Common.{◌-◌, ◌*◌, ◌<◌, ◌≤◌, Option, Result, Ok, IfOk, Bor, get_or, drop, take, map, subst}
use Rattle.std.proofs.Common.{drop-cons, add-one}
use Rattle.std.specs.List.{All}
use Rattle.std.specs.Prelude.{slice_get, option_map}
use Rattle.std.specs.Slice.{IsItemAt}
use Rattle.std.proofs.lemmas.List.{map_more}
use Rattle.std.proofs.lemmas.List.Elements.{All-nil, All-cons, All-append, All-head, All-tail}
use Rattle.std.proofs.lemmas.Option.{slice_get_past, slice_get_read, slice_get_within, get_or_from_slice_get}
use Rattle.parts.specs.Rings.{modulus_of}
use Rattle.series_graph.specs.Calls.{AddsNode}
use Rattle.series_graph.specs.Formula.{place_of, Formula, Combination, Dot, Quotient}
use Rattle.series_graph.specs.GraphValue.{GraphValue, size_of, IsIdOf}
use Rattle.series_graph.specs.declared.error.GraphError.{GraphError}
use Rattle.series_graph.specs.declared.node.NodeId.{NodeId}
use Rattle.intake.specs.Slots.{AreIn, term_at, terms_of, pair_at, pairs_to, each_to, sums_of, products_of}
use Rattle.intake.specs.Slots.{quotients_of, AddsEach}
use Rattle.intake.specs.declared.slots.Addend.{Addend}

pub length_both : {X : Type 0} (xs ys : List X) → length (xs ++ ys) ≡ length xs + length ys
length_both [] ys = omega arith
length_both (x ∷ xs) ys = let h = length_both xs ys in omega arith

append_none : {X : Type 0} (xs : List X) → xs ≡ xs ++ []
append_none [] = refl
append_none (x ∷ xs) = ap (λ ys. x ∷ ys) (append_none xs)

-- what stands at a place of a list with one more at its end
pub slice_get-last : {X : Type 0} (xs : List X) (y x : X) (j : ℕ) → slice_get (xs ++ y ∷ []) j ≡ Some x
    → (slice_get xs j ≡ Some x) ⊎ ((j ≡ length xs) × (Some y ≡ Some x))
slice_get-last [] y x zero e = inr (refl, e)
slice_get-last [] y x (suc j) e = inl e
slice_get-last (z ∷ xs) y x zero e = inl e
slice_get-last (z ∷ xs) y x (suc j) e = elim (slice_get-last xs y x j e) [
  | inl there ↦ inl there
  | inr last ↦ inr (ap suc last.0, last.1)
]

same_id : (x y : NodeId) → Some x ≡ Some y → place_of x ≡ place_of y
same_id x y e = cc

pub adds_none : (graph : GraphValue) → AddsEach [] graph graph []
adds_none graph = record {
  ring_is = refl;
  formulas_are = append_none graph.formulas;
  count = refl;
  places = λ j id e. absurd (cc);
}

pub adds_next : (formulas : List Formula) (formula : Formula) (old mid new : GraphValue) (ids : List NodeId)
    (id : NodeId)
    → AddsEach formulas old mid ids → AddsNode formula mid new id
    → AddsEach (formulas ++ formula ∷ []) old new (ids ++ id ∷ [])
adds_next formulas formula old mid new ids id each node = record {
  ring_is = ap (λ (g : GraphValue). g.ring) node.new_is ∙ each.ring_is;
  formulas_are = ap (λ (g : GraphValue). g.formulas) node.new_is ∙ ap (λ fs. fs ++ formula ∷ []) each.formulas_are
      ∙ append_assoc old.formulas formulas (formula ∷ []);
  count =
      let of_ids = length_both ids (id ∷ []) in
      let of_formulas = length_both formulas (formula ∷ []) in
      omega (arith, of_ids, of_formulas, each.count);
  places = λ j x e. elim (slice_get-last ids id x j e) [
    | inl there ↦ each.places j x there
    | inr last ↦ (let size = ap (λ (l : List Formula). length l) each.formulas_are
        ∙ length_both old.formulas formulas in
        let same = same_id id x last.1 in
        omega (arith, size, same, last.0, each.count, node.place))
  ];
}

-- what `get` answers
pub got : {X : Type 0} (xs : List X) (i : ℕ) (r : Option (Bor X)) → IsItemAt xs i r
    → slice_get xs i ≡ option_map (λ (b : Bor X). b.now) r
got xs i None item = slice_get_past xs i item.3
got xs i (Some x) item = slice_get_read xs (length xs) i x.now refl item.3.0 (item.3.1 x.now)

-- the terms of one more addend
pub terms_next : (addends : List Addend) (i j : ℕ) (a : Addend) (of new : List (ℕ × NodeId)) → i < length addends
    → a ≡ get_or addends i a → new ≡ of ++ term_at a.sign (slice_get a.slots.items j)
    → of ++ terms_of (drop i addends) j ≡ terms_of addends j
    → new ++ terms_of (drop (i + 1) addends) j ≡ terms_of addends j
terms_next addends i j a of new lt at more so_far = ap (λ ts. ts ++ terms_of (drop (i + 1) addends) j) more
    ∙ append_assoc of (term_at a.sign (slice_get a.slots.items j)) (terms_of (drop (i + 1) addends) j)
    ∙ ap (λ (xs : List Addend). of ++ terms_of xs j) (sym cut) ∙ so_far
  where
    cut : drop i addends ≡ a ∷ drop (i + 1) addends
    cut = drop-cons addends i a lt ∙ (λ l. sym at l ∷ drop (sym (add-one i) l) addends)

-- the pairs of one more place
pub pairs_next : (a b : List NodeId) (j i : ℕ) (x y : Option NodeId) (of new : List (NodeId × NodeId))
    → slice_get a i ≡ x → slice_get b (j - i) ≡ y → new ≡ of ++ pair_at x y → of ≡ pairs_to a b j i
    → new ≡ pairs_to a b j (i + 1)
pairs_next a b j i x y of new at_a at_b more so_far = more ∙ (λ l. so_far l ++ pair_at (sym at_a l) (sym at_b l))
    ∙ ap (pairs_to a b j) (sym (add-one i))

pair_without : (x : Option NodeId) → pair_at x None ≡ []
pair_without None = refl
pair_without (Some x) = refl

pub pairs_past : (a b : List NodeId) (j i : ℕ) (of new : List (NodeId × NodeId))
    → (slice_get a i ≡ None) ⊎ (slice_get b (j - i) ≡ None) → new ≡ of → of ≡ pairs_to a b j i
    → new ≡ pairs_to a b j (i + 1)
pairs_past a b j i of new past same so_far = elim past [
  | inl at_a ↦ pairs_next a b j i None (slice_get b (j - i)) of new at_a refl (same ∙ append_none of) so_far
  | inr at_b ↦ pairs_next a b j i (slice_get a i) None of new refl at_b (same ∙ append_none of
      ∙ ap (λ ps. of ++ ps) (sym (pair_without (slice_get a i)))) so_far
]

-- the slot past the end has no term
pub no_term : (sign : ℕ) (xs : List NodeId) (j : ℕ) (r : Option (Bor NodeId)) → IsItemAt xs j r
    → ((b : Bor NodeId) → r ≡ Some b → ⊥) → term_at sign (slice_get xs j) ≡ []
no_term sign xs j None item none = ap (term_at sign) (got xs j None item)
no_term sign xs j (Some b) item none = absurd (none b refl)

-- terms and pairs name nodes of the graph
term_all : (P : ℕ × NodeId → Type 0) (sign : ℕ) (slot : Option NodeId)
    → ((id : NodeId) → slot ≡ Some id → P (sign, id)) → All P (term_at sign slot)
term_all P sign None h = All-nil P
term_all P sign (Some id) h = All-cons P (sign, id) [] (h id refl) (All-nil P)

terms_all : (P : ℕ × NodeId → Type 0) (addends : List Addend) (j : ℕ)
    → All (λ a. (id : NodeId) → slice_get a.slots.items j ≡ Some id → P (a.sign, id)) addends
    → All P (terms_of addends j)
terms_all P [] j h = All-nil P
terms_all P (a ∷ addends) j h = All-append P (term_at a.sign (slice_get a.slots.items j)) (terms_of addends j)
    (term_all P a.sign (slice_get a.slots.items j)
    (All-head (λ (a : Addend). (id : NodeId) → slice_get a.slots.items j ≡ Some id → P (a.sign, id)) a addends h))
    (terms_all P addends j
    (All-tail (λ (a : Addend). (id : NodeId) → slice_get a.slots.items j ≡ Some id → P (a.sign, id)) a addends h))

pub terms_residues : (m : ℕ) (addends : List Addend) (j : ℕ) (given : List (ℕ × NodeId)) → given ≡ terms_of addends j
    → All (λ a. a.sign < m) addends → All (λ t. t.0 < m) given
terms_residues m addends j given e signs = subst (λ ts. All (λ (t : ℕ × NodeId). t.0 < m) ts) (sym e)
    (terms_all (λ (t : ℕ × NodeId). t.0 < m) addends j (λ k d lt id at. signs k d lt))

slot_in : (size : ℕ) (ids : List NodeId) (j : ℕ) (id : NodeId) → All (λ x. place_of x < size) ids
    → slice_get ids j ≡ Some id → place_of id < size
slot_in size ids j id within at = subst (λ (x : NodeId). place_of x < size) (get_or_from_slice_get ids j id id at)
    (within j id (slice_get_within ids j id at))

pub terms_ids : (size grown : ℕ) (addends : List Addend) (j : ℕ) (given : List (ℕ × NodeId))
    → given ≡ terms_of addends j
    → size ≤ grown → All (λ a. All (λ x. place_of x < size) a.slots.items) addends
    → All (λ t. place_of t.1 < grown) given
terms_ids size grown addends j given e le within = subst (λ ts. All (λ (t : ℕ
    × NodeId). place_of t.1 < grown) ts) (sym e)
    (terms_all (λ (t : ℕ × NodeId). place_of t.1 < grown) addends j (λ k d lt id at.
    (let small = slot_in size (get_or addends k d).slots.items j id (within k d lt) at in omega arith)))

pair_all : (size : ℕ) (x y : Option NodeId) → ((id : NodeId) → x ≡ Some id → place_of id < size)
    → ((id : NodeId) → y ≡ Some id → place_of id < size)
    → All (λ t. (place_of t.0 < size) × (place_of t.1 < size)) (pair_at x y)
pair_all size None y h k = All-nil (λ (t : NodeId × NodeId). (place_of t.0 < size) × (place_of t.1 < size))
pair_all size (Some x) None h k = All-nil (λ (t : NodeId × NodeId). (place_of t.0 < size) × (place_of t.1 < size))
pair_all size (Some x) (Some y) h k =
    All-cons (λ (t : NodeId × NodeId). (place_of t.0 < size) × (place_of t.1 < size)) (x, y) [] (h x refl, k y refl)
    (All-nil (λ (t : NodeId × NodeId). (place_of t.0 < size) × (place_of t.1 < size)))

pairs_all : (size : ℕ) (a b : List NodeId) (j n : ℕ) → All (λ x. place_of x < size) a → All (λ x. place_of x < size) b
    → All (λ t. (place_of t.0 < size) × (place_of t.1 < size)) (pairs_to a b j n)
pairs_all size a b j zero of_a of_b =
    All-nil (λ (t : NodeId × NodeId). (place_of t.0 < size) × (place_of t.1 < size))
pairs_all size a b j (suc n) of_a of_b =
    All-append (λ (t : NodeId × NodeId). (place_of t.0 < size) × (place_of t.1 < size)) (pairs_to a b j n)
    (pair_at (slice_get a n) (slice_get b (j - n))) (pairs_all size a b j n of_a of_b)
    (pair_all size (slice_get a n) (slice_get b (j - n)) (λ id at. slot_in size a n id of_a at)
    (λ id at. slot_in size b (j - n) id of_b at))

pub grown_in : (size grown : ℕ) (ids : List NodeId) → size ≤ grown → All (λ x. place_of x < size) ids
    → All (λ x. place_of x < grown) ids
grown_in size grown ids le within k d lt = let here = within k d lt in omega arith

pub pairs_ids : (size grown : ℕ) (a b : List NodeId) (j : ℕ) (given : List (NodeId × NodeId))
    → given ≡ pairs_to a b j (suc j) → size ≤ grown → All (λ x. place_of x < size) a → All (λ x. place_of x < size) b
    → All (λ t. (place_of t.0 < grown) × (place_of t.1 < grown)) given
pairs_ids size grown a b j given e le of_a of_b =
    subst (λ ts. All (λ (t : NodeId × NodeId). (place_of t.0 < grown) × (place_of t.1 < grown)) ts) (sym e)
    (pairs_all grown a b j (suc j) (grown_in size grown a le of_a) (grown_in size grown b le of_b))

-- one more node, from what a call answers
pub answered : (P : NodeId → Type 0) (r : Result NodeId GraphError) (id : NodeId) → IfOk r P → r ≡ Ok id → P id
answered P r id h e = subst (λ (r : Result NodeId GraphError). IfOk r P) e h

pub size_now : (formulas : List Formula) (old mid : GraphValue) (slots : List NodeId) → AddsEach formulas old mid slots
    → size_of mid ≡ size_of old + length formulas
size_now formulas old mid slots each = ap (λ (l : List Formula). length l) each.formulas_are
    ∙ length_both old.formulas formulas

each_long : (n : ℕ) (g : ℕ → Formula) → length (each_to n g) ≡ n
each_long zero g = refl
each_long (suc n) g =
    let h = length_both (each_to n g) (g n ∷ []) in
    let k = each_long n g in
    omega (arith, h, k)

pub each_size : (n : ℕ) (g : ℕ → Formula) (old mid : GraphValue) (slots : List NodeId)
    → AddsEach (each_to n g) old mid slots
    → size_of mid ≡ size_of old + n
each_size n g old mid slots each =
    let size = size_now (each_to n g) old mid slots each in
    let long = each_long n g in
    omega (arith, size, long)

pub each_room : (n count : ℕ) (g : ℕ → Formula) (old mid : GraphValue) (slots : List NodeId)
    → AddsEach (each_to n g) old mid slots → n < count → size_of old + count ≤ 65536 → size_of mid ≡ 65536 → ⊥
each_room n count g old mid slots each lt room full =
    let size = each_size n g old mid slots each in
    omega (arith, size)

pub each_next : (g : ℕ → Formula) (n : ℕ) (old mid new : GraphValue) (slots news : List NodeId) (formula : Formula)
    (id : NodeId) (r : Result NodeId GraphError) → AddsEach (each_to n g) old mid slots → formula ≡ g n
    → IfOk r (AddsNode formula mid new) → r ≡ Ok id → news ≡ slots ++ id ∷ []
    → AddsEach (each_to (n + 1) g) old new news
each_next g n old mid new slots news formula id r each is node e more =
    subst (λ (k : ℕ). AddsEach (each_to k g) old new news) (sym (add-one n))
    (subst (λ (ids : List NodeId). AddsEach (each_to (suc n) g) old new ids) (sym more)
    (adds_next (each_to n g) (g n) old mid new slots id each
    (subst (λ (f : Formula). AddsNode f mid new id) is (answered (AddsNode formula mid new) r id node e))))

pub quotients_next : (a : List NodeId) (b : NodeId) (i : ℕ) (old mid new : GraphValue) (slots news : List NodeId)
    (d id : NodeId) (r : Result NodeId GraphError) → AddsEach (quotients_of (take i a) b) old mid slots → i < length a
    → IfOk r (AddsNode (Quotient (get_or a i d) b) mid new) → r ≡ Ok id → news ≡ slots ++ id ∷ []
    → AddsEach (quotients_of (take (i + 1) a) b) old new news
quotients_next a b i old mid new slots news d id r each lt node e more =
    subst (λ (fs : List Formula). AddsEach fs old new news) (sym (map_more (λ (y : NodeId). Quotient y b) a i d lt))
    (subst (λ (ids : List NodeId).
    AddsEach (quotients_of (take i a) b ++ Quotient (get_or a i d) b ∷ []) old new ids) (sym more)
    (adds_next (quotients_of (take i a) b) (Quotient (get_or a i d) b) old mid new slots id each
    (answered (AddsNode (Quotient (get_or a i d) b) mid new) r id node e)))
