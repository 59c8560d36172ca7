-- Terms whose keys pass a test, in order, and the map of their entries.
use Rattle.std.proofs.Common.{◌≡◌, ℕ, ◌<◌, Bool, true, false, cond, T, List, [], ◌∷◌, map, refl, sym, ◌∙◌, ap, subst}
use Rattle.std.specs.Prelude.{filter, None}
use Rattle.std.specs.declared.cmp.Ordering.TheVariants.{Equal}
use Rattle.std.specs.FinMap.{FinMap, entries, get-entries, retain_keys, get-retain_keys, from_entries}
use Rattle.std.specs.FinMap.{get-from_entries, same_map, is_sorted}
use Rattle.std.specs.FinMap.Entries.{is_sorted-where_key, find-where_key}
use Rattle.std.proofs.lemmas.List.Elements.{All-filter}
use Rattle.ps_model.specs.Keys.{Key, key_compare}
use Rattle.ps_model.specs.KeyLaws.{key_compare_total, key_compare-IsAntisymmetric}
use Rattle.ps_model.specs.Plain.{key_of, entry_of, TermsInOrder}
use Rattle.ps_model.specs.PlainLists.{map_of}
use Rattle.ps_model.specs.declared.plain.PlainTerm.{PlainTerm}

module _ (p : Key 8 → Bool) where
  abbrev pub passing : List PlainTerm → List PlainTerm
  passing ts = filter (λ t. p (key_of t)) ts

  entries-passing : (ts : List PlainTerm) → map entry_of (passing ts) ≡ filter (λ e. p e.0) (map entry_of ts)
  entries-passing [] = refl
  entries-passing (t ∷ ts) = elim (p (key_of t)) as
      (λ b. map entry_of (cond b (t ∷ passing ts) (passing ts))
      ≡ cond b (entry_of t ∷ filter (λ e. p e.0) (map entry_of ts)) (filter (λ e. p e.0) (map entry_of ts))) [
        | true ↦ ap (λ l. entry_of t ∷ l) (entries-passing ts)
        | false ↦ entries-passing ts
      ]

  pub passing_in_order : (ts us : List PlainTerm) → TermsInOrder ts → us ≡ passing ts → TermsInOrder us
  passing_in_order ts us h e = subst TermsInOrder (sym e) (
    subst (λ es. T (is_sorted (key_compare 8) es)) (sym (entries-passing ts))
        (is_sorted-where_key (key_compare 8) p (map entry_of ts) h.0),
    All-filter (λ t. p (key_of t)) (λ t. 0 < t.coefficient) ts h.1,
  )

  map-passing : (ts : List PlainTerm) → map_of (passing ts) ≡ retain_keys (map_of ts) p
  map-passing ts = ap from_entries (entries-passing ts)
      ∙ same_map (key_compare_total 8) (key_compare-IsAntisymmetric 8) _ _
      (λ q. get-from_entries (key_compare_total 8) (filter (λ e. p e.0) (map entry_of ts)) q
      ∙ find-where_key (key_compare 8) p q (alike q) (map entry_of ts)
      ∙ ap (λ o. cond (p q) o None) (sym (get-from_entries (key_compare_total 8) (map entry_of ts) q))
      ∙ sym (get-retain_keys (map_of ts) p q (alike q)))
    where
      alike : (q x : Key 8) → key_compare 8 q x ≡ Equal → p x ≡ p q
      alike q x e = ap p (sym (key_compare-IsAntisymmetric 8 q x e))

  pub map_passing : (ts us : List PlainTerm) (a : FinMap (key_compare 8) ℕ) → map_of ts ≡ a → us ≡ passing ts
      → map_of us ≡ retain_keys a p
  map_passing ts us a is e = ap map_of e ∙ map-passing ts ∙ ap (λ q. retain_keys q p) is

-- the map of the terms that a polynomial lists
pub map_listed : (ts : List PlainTerm) (a : FinMap (key_compare 8) ℕ) → map entry_of ts ≡ entries a → map_of ts ≡ a
map_listed ts a e = ap from_entries e ∙ same_map (key_compare_total 8) (key_compare-IsAntisymmetric 8) _ a
    (λ q. get-from_entries (key_compare_total 8) (entries a) q ∙ sym (get-entries a q))
