-- Each step keeps the rule of a shared row.
use Rattle.std.proofs.Common.{◌≡◌, ℕ, ◌≤◌, ◌≢◌, ◌⊎◌, ◌++◌, ◌∷◌, [], List, length, fold, set, Option, Some, None}
use Rattle.std.proofs.Common.{refl, sym, ◌∙◌, ap, subst, inl, inr, ⊎_elim, append_assoc, zero-le, zero, suc}
use Rattle.std.proofs.Common.{unwrap_or, take, drop}
use mathlib.Core.Option.{some, some-injective, some-ne-none}
use lib.ListN.{get_elem?}
use Rattle.std.proofs.lemmas.List.{append-nil, take-append-drop}
use Rattle.std.specs.declared.sync.Arc.{Arc}
use Rattle.std.specs.declared.alloc.Global.{Global}
use Rattle.std.specs.Arc.{arc_value}
use Rattle.left_right.specs.Register.{Admits, TurnsAt, Forks, Merges}
use Rattle.atomic_table.proofs.Lists.{at_set, at_snoc}
use Rattle.rows.specs.Fits.{AllFit, values}
use Rattle.rows.specs.Prefixes.{IsPrefix}
use Rattle.rows.specs.Rule.{IsKept, Knows, Grows, Sees, published_row, with_item, blank, sees_all}
use Rattle.rows.specs.Rule.{title_note, with_title}
use Rattle.rows.specs.Pending.{with_items}
use Rattle.rows.specs.declared.copies.RowCopy.{RowCopy}
use Rattle.rows.specs.declared.copies.PublishedRow.{PublishedRow}
use Rattle.rows.specs.declared.copies.RowView.{RowView}

module _ {T : Type 0} where
  pub prefix_refl : (xs : List T) → IsPrefix xs xs
  prefix_refl xs = ([], sym (append-nil xs))

  pub prefix_nil : (xs : List T) → IsPrefix [] xs
  prefix_nil xs = (xs, refl)

  pub prefix_trans : (xs ys zs : List T) → IsPrefix xs ys → IsPrefix ys zs → IsPrefix xs zs
  prefix_trans xs ys zs p q =
      (p.0 ++ q.0, q.1 ∙ ap (λ (l : List T). l ++ q.0) p.1 ∙ append_assoc xs p.0 q.0)

  pub prefix_take_trans : (n : ℕ) (xs zs : List T) → IsPrefix xs zs → IsPrefix (take n xs) zs
  prefix_take_trans n xs zs p =
      prefix_trans (take n xs) xs zs (drop n xs, sym (take-append-drop n xs)) p

module _ {T H : Type 0} where
  -- all operations at once
  pub fold_with_item :
      (row : PublishedRow T H) (xs : List (Arc T Global)) → fold with_item row xs ≡ with_items row xs
  fold_with_item row [] =
      ap (λ (l : List T). let r : PublishedRow T H = record { title = row.title; items = l } in r)
      (sym (append-nil row.items))
  fold_with_item row (x ∷ xs) = fold_with_item (with_item row x) xs
      ∙ ap (λ (l : List T). let r : PublishedRow T H = record { title = row.title; items = l } in r)
      (append_assoc row.items (arc_value x ∷ []) (values xs))

  pub knows_blank : (row : PublishedRow T H) → Knows row blank
  knows_blank row = record { prefix = prefix_nil row.items; named = inl refl }

  pub knows_all : (row : PublishedRow T H) → Knows row (sees_all row)
  knows_all row = record { prefix = prefix_refl row.items; named = inr refl }

only_view : {A : Type 0} (a v : A) (place : ℕ) → get_elem? (a ∷ []) place ≡ some v → a ≡ v
only_view a v zero e = some-injective a v e
only_view a v (suc place) e = absurd (some-ne-none v (sym e))

nothing_fits : {T : Type 0} (fits : ℕ → T → Type 0) → AllFit fits []
nothing_fits fits r y at = let e : None ≡ Some y = at in cc

module _ {T H : Type 0} (fits : H → ℕ → T → Type 0) where
  abbrev Holds : RowCopy T H → List (RowView T H) → Type 0
  Holds copy views = IsKept fits (published_row copy) views

  -- an empty row, of which nobody knows anything
  pub begins : (copy : RowCopy T H) → (published_row copy).items ≡ [] → Holds copy (blank ∷ [])
  begins copy e = record {
    fit = subst (λ (l : List T). AllFit (fits (published_row copy).title) l) (sym e)
        (nothing_fits (fits (published_row copy).title));
    short = subst (λ (l : List T). length l ≤ 4096) (sym e) zero-le;
    each_view = λ place v at. subst (λ z. Knows (published_row copy) z) (only_view blank v place at)
        (knows_blank (published_row copy));
  }

  -- make a reader
  pub admits : Admits Holds blank
  admits copy views h = record {
    fit = h.fit;
    short = h.short;
    each_view = λ place v at. ⊎_elim (h.each_view place v)
        (λ (e : blank ≡ v). subst (λ z. Knows (published_row copy) z) e (knows_blank (published_row copy)))
        (at_snoc views blank v place at);
  }

  knows_longer : (old new : PublishedRow T H) (v : RowView T H) → Grows fits old new → Knows old v → Knows new v
  knows_longer old new v g k = record {
    prefix = prefix_trans v.seen old.items new.items k.prefix g.longer;
    named = ⊎_elim inl (λ e. inr (e ∙ ap Some (sym g.same_title))) k.named;
  }

  blank_title : (v : RowView T H) (h : H) → v ≡ blank → v.title ≡ Some h → ⊥
  blank_title v h e t = let n : v.title ≡ None = ap (λ (u : RowView T H). u.title) e in cc

  some_inj : (a b : H) → Some a ≡ Some b → a ≡ b
  some_inj a b e = ap (λ (o : Option H). unwrap_or o a) e

  -- the row grows, and who made it grow sees all of it
  pub sees :
      (place : ℕ) (v : RowView T H) (x y : RowCopy T H)
      → ((views : List (RowView T H)) → Holds x views → Grows fits (published_row x) (published_row y))
      → TurnsAt Holds place v x y (λ v x y w. Sees fits v (published_row y) w)
  sees place v x y more views h at =
      let new = published_row y in
      let g = more views h in
      let k = knows_longer (published_row x) new v g (h.each_view place v at) in (
        sees_all new,
        record {
          fit = g.fit;
          short = g.short;
          each_view = λ j u e. ⊎_elim
              (λ (t : (j ≡ place) × (sees_all new ≡ u)). subst (λ z. Knows new z) t.1 (knows_all new))
              (λ (t : (j ≢ place) × (get_elem? views j ≡ some u)).
              knows_longer (published_row x) new u g (h.each_view j u t.1))
              (at_set views place j (sees_all new) u e);
        },
        record {
          all_seen = refl;
          later = k.prefix;
          same_title = λ a e. ⊎_elim (λ n. absurd (blank_title v a n e))
              (λ (n : v.title ≡ Some new.title). some_inj new.title a (sym n ∙ e)) k.named;
          fit = g.fit;
          short = g.short;
        },
      )

  -- to enter is to see the row as it is
  pub enters : (place : ℕ) (v : RowView T H) (x : RowCopy T H)
      → TurnsAt Holds place v x x (λ v x y w. Sees fits v (published_row y) w)
  enters place v x = sees place v x x (λ views h. record {
    same_title = refl;
    longer = prefix_refl (published_row x).items;
    fit = h.fit;
    short = h.short;
  })

  set_knows :
      (row : PublishedRow T H) (views : List (RowView T H)) (place : ℕ) (v : RowView T H)
      → ((j : ℕ) (u : RowView T H) → get_elem? views j ≡ some u → Knows row u) → Knows row v
      → (j : ℕ) (u : RowView T H) → get_elem? (set views place v) j ≡ some u → Knows row u
  set_knows row views place v h k j u e = ⊎_elim
      (λ (t : (j ≡ place) × (v ≡ u)). subst (λ z. Knows row z) t.1 k)
      (λ (t : (j ≢ place) × (get_elem? views j ≡ some u)). h j u t.1)
      (at_set views place j v u e)

  knows_note : (row : PublishedRow T H) (v : RowView T H) → Knows row v → Knows row (title_note v)
  knows_note row v k = record {
    prefix = prefix_nil row.items;
    named = ⊎_elim (λ (e : v ≡ blank). inl (ap title_note e)) inr k.named;
  }

  -- the writer gives a note of the title
  pub forks : (place : ℕ) (v : RowView T H) → Forks Holds place v v (title_note v)
  forks place v x views h at =
      let row = published_row x in
      let k = h.each_view place v at in record {
        fit = h.fit;
        short = h.short;
        each_view = λ j u e. ⊎_elim
            (set_knows row views place v h.each_view k j u)
            (λ (same : title_note v ≡ u). subst (λ z. Knows row z) same (knows_note row v k))
            (at_snoc (set views place v) (title_note v) u j e);
      }

  -- a reader that saw nothing takes the title of a note
  pub merges :
      (place : ℕ) (v : RowView T H) (other : ℕ) (w : RowView T H) → v.seen ≡ []
      → Merges Holds place v other w (with_title v w) blank
  merges place v other w empty x views h at apart there =
      let row = published_row x in
      let k : Knows row w = ⊎_elim
      (λ (t : (other ≡ place) × (with_title v w ≡ w)). absurd (apart t.0))
      (λ (t : (other ≢ place) × (get_elem? views other ≡ some w)). h.each_view other w t.1)
      (at_set views place other (with_title v w) w there) in
      let n : Knows row (with_title v w) = record {
        prefix = (h.each_view place v at).prefix;
        named = ⊎_elim (λ (e : w ≡ blank). inl (λ i. record { title = (e i).title; seen = empty i })) inr k.named;
      } in
      record {
        fit = h.fit;
        short = h.short;
        each_view = set_knows row (set views place (with_title v w)) other blank
            (set_knows row views place (with_title v w) h.each_view n) (knows_blank row);
      }
