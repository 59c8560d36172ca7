-- Places in lists of names, and one more name.
use Rattle.std.proofs.Common.{◌≡◌, ◌≢◌, ℕ, suc, ◌+◌, ◌↔◌, ◌||◌, Bool, true, false, cond, if◌then◌else◌, List, [], ◌∷◌}
use Rattle.std.proofs.Common.{◌++◌, length, length-append, map, slice_get, Option, Some, None, refl, sym, ap, subst}
use Rattle.std.proofs.Common.{◌∙◌, zero, unwrap_or, arith}
use Rattle.std.specs.List.{position_from, position, list_any, list_all, IsDistinct, AllByRecursion}
use Rattle.std.specs.Option.{option_map}
use Rattle.std.specs.Str.{bytes_eq, IsUtf8}
use Rattle.std.specs.String.{string_bytes, string_eq}
use Rattle.std.specs.declared.string.String.{String}
use Rattle.std.proofs.lemmas.Bool.{and_from}
use Rattle.std.proofs.lemmas.Cmp.{nat_list_eq_equiv}
use Rattle.std.proofs.lemmas.Iterator.Adapters.{position_from-zero}
use Rattle.std.proofs.lemmas.List.{map-append}
use Rattle.std.proofs.lemmas.List.Folds.{list_all-append}
use Rattle.std.proofs.lemmas.List.Quantifiers.{position-Some}
use Rattle.std.proofs.lemmas.Map.Keys.{IsDistinct-head, IsDistinct-tail, IsDistinct-push}
use Rattle.std.proofs.lemmas.Option.{none-some, slice_get-get_or, slice_get-map}
use Rattle.std.proofs.lemmas.Slice.Eq.{bytes_eq-Decides}
use Rattle.std.proofs.lemmas.Str.{IsUtf8-string_bytes}
use Rattle.indexmap.specs.IndexSet.{insert_key}
use Rattle.ps_model.specs.Names.{is_name, AreNames}
use Rattle.expr_reader.specs.NameLists.{AreVariables, index_of}

module _ (name : List ℕ) where
  -- a name stands at the place that is found
  found : (names : List (List ℕ)) (i : ℕ) → index_of names name ≡ Some i → slice_get names i ≡ Some name
  found names i h =
      let p = position-Some (bytes_eq name) names i [] h in
      slice_get-get_or names i [] p.0 ∙ ap Some (sym ((bytes_eq-Decides name _).0 p.1))

  -- a name that is among those which differ from n differs from n
  differs : (n : List ℕ) (names : List (List ℕ)) (i : ℕ) → AllByRecursion (λ y. bytes_eq n y ≡ false) names
      → slice_get names i ≡ Some name → bytes_eq name n ≡ false
  differs n [] i all h = absurd (none-some name h)
  differs n (x ∷ xs) zero all h = nat_list_eq_equiv.symm name n
      ∙ subst (λ y. bytes_eq n y ≡ false) (some_same x h) all.0
    where
      some_same : (x : List ℕ) → Some x ≡ Some name → x ≡ name
      some_same x e = ap (λ o. unwrap_or o []) e
  differs n (x ∷ xs) (suc i) all h = differs n xs i all.1 h

  -- where no two are equal, a name is found where it stands
  at_place : (names : List (List ℕ)) (j i : ℕ) → IsDistinct bytes_eq names → slice_get names i ≡ Some name
      → position_from (bytes_eq name) j names ≡ Some (j + i)
  at_place [] j i d h = absurd (none-some name h)
  at_place (n ∷ ns) j zero d h =
      let same : bytes_eq name n ≡ true = (bytes_eq-Decides name n).1 (sym (ap (λ o. unwrap_or o []) h)) in
      ap (λ b. cond b (Some j) (position_from (bytes_eq name) (j + 1) ns)) same ∙ ap Some (omega arith)
  at_place (n ∷ ns) j (suc i) d h =
      let other : bytes_eq name n ≡ false = differs n ns i (IsDistinct-head bytes_eq n ns d) h in
      ap (λ b. cond b (Some j) (position_from (bytes_eq name) (j + 1) ns)) other
      ∙ at_place ns (j + 1) i (IsDistinct-tail bytes_eq n ns d) h ∙ ap Some (omega arith)

  -- the answer is a place exactly where the name stands there
  pub index_tells : (names : List (List ℕ)) → AreNames names → (r : Option ℕ) → r ≡ index_of names name
      → (i : ℕ) → (r ≡ Some i) ↔ (slice_get names i ≡ Some name)
  index_tells names are r is i =
      let zero_added : 0 + i ≡ i = omega arith in (
        λ e. found names i (sym is ∙ e),
        λ h. is ∙ position_from-zero (bytes_eq name) names ∙ at_place names 0 i are.distinct h ∙ ap Some zero_added,
      )

  -- where no place is found, no name is equal
  absent_from : (names : List (List ℕ)) (j : ℕ) → position_from (bytes_eq name) j names ≡ None
      → list_any (bytes_eq name) names ≡ false
  absent_from [] j h = refl
  absent_from (n ∷ ns) j h = by (bytes_eq name n) refl (absent_from ns (j + 1))
    where
      by : (b : Bool) → bytes_eq name n ≡ b
          → (position_from (bytes_eq name) (j + 1) ns ≡ None → list_any (bytes_eq name) ns ≡ false)
          → list_any (bytes_eq name) (n ∷ ns) ≡ false
      by true e rest = absurd (none-some j (sym h ∙ ap (λ b. cond b (Some j) (position_from (bytes_eq name)
          (j + 1) ns)) e))
      by false e rest =
          ap (λ b. b || list_any (bytes_eq name) ns) e
          ∙ rest (sym (ap (λ b. cond b (Some j) (position_from (bytes_eq name) (j + 1) ns)) e) ∙ h)

  absent : (names : List (List ℕ)) → index_of names name ≡ None → list_any (bytes_eq name) names ≡ false
  absent names h = absent_from names 0 (sym (position_from-zero (bytes_eq name) names) ∙ h)

  -- one more name
  pub AreVariables-push : (names : List (List ℕ)) → AreVariables names → length names ≢ 8 → is_name name ≡ true
      → index_of names name ≡ None → AreVariables (names ++ name ∷ [])
  AreVariables-push names are room valid none = record {
    valid = record {
      each = list_all-append is_name names (name ∷ []) ∙ and_from _ _ are.valid.each (and_from _ _ valid refl);
      distinct = IsDistinct-push nat_list_eq_equiv names name are.valid.distinct (absent names none);
    };
    few = omega (arith, are.few, room, length-append names (name ∷ []));
  }

module _ {Z : Type 0} where
  -- a list of texts, looked through by their bytes
  from_bytes : (name : List ℕ) (texts : List (String Z)) (j : ℕ)
      → position_from (λ t. bytes_eq name (string_bytes t)) j texts ≡ position_from (bytes_eq name) j
      (map string_bytes texts)
  from_bytes name [] j = refl
  from_bytes name (t ∷ ts) j = ap (cond (bytes_eq name (string_bytes t)) (Some j)) (from_bytes name ts (j + 1))

  pub index_of-texts : (name : List ℕ) (texts : List (String Z))
      → position (λ t. bytes_eq name (string_bytes t)) texts ≡ index_of (map string_bytes texts) name
  index_of-texts name texts =
      position_from-zero (λ t. bytes_eq name (string_bytes t)) texts ∙ from_bytes name texts 0
      ∙ sym (position_from-zero (bytes_eq name) (map string_bytes texts))

  -- what is found is UTF-8
  IsUtf8-found : (name : List ℕ) (texts : List (String Z)) (i : ℕ)
      → index_of (map string_bytes texts) name ≡ Some i → IsUtf8 name
  IsUtf8-found name texts i h =
      by (slice_get texts i) (sym (slice_get-map string_bytes texts i) ∙ found name (map string_bytes texts) i h)
    where
      by : (o : Option (String Z)) → option_map string_bytes o ≡ Some name → IsUtf8 name
      by None e = absurd (none-some name e)
      by (Some t) e = subst IsUtf8 (ap (λ o. unwrap_or o []) e) (IsUtf8-string_bytes t)

  pub none_unless_utf8 : (name : List ℕ) (texts : List (String Z)) → (IsUtf8 name → ⊥)
      → None ≡ index_of (map string_bytes texts) name
  none_unless_utf8 name texts bad = by (index_of (map string_bytes texts) name) refl
    where
      by : (o : Option ℕ) → index_of (map string_bytes texts) name ≡ o → None ≡ o
      by None e = refl
      by (Some i) e = absurd (bad (IsUtf8-found name texts i e))

  any_bytes : (text : String Z) (texts : List (String Z))
      → list_any (string_eq text) texts ≡ list_any (bytes_eq (string_bytes text)) (map string_bytes texts)
  any_bytes text [] = refl
  any_bytes text (t ∷ ts) = ap (λ b. string_eq text t || b) (any_bytes text ts)

  -- a text that is not there goes last
  pub texts-insert_key : (text : String Z) (texts : List (String Z))
      → index_of (map string_bytes texts) (string_bytes text) ≡ None
      → map string_bytes (insert_key string_eq texts text) ≡ map string_bytes texts ++ string_bytes text ∷ []
  texts-insert_key text texts none =
      let new = any_bytes text texts ∙ absent (string_bytes text) (map string_bytes texts) none in
      ap (λ b. map string_bytes (if b then texts else texts ++ text ∷ [])) new
      ∙ map-append string_bytes texts (text ∷ [])
