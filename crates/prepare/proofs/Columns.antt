-- Series that grow by a part each: the columns of rows with one more.
use Rattle.std.proofs.Common.{◌≡◌, ℕ, zero, suc, ◌+◌, ◌-◌, ◌<◌, ◌≤◌, true, false, cond, List, [], ◌∷◌, ◌++◌, length}
use Rattle.std.proofs.Common.{get_or, map, take, refl, sym, ◌∙◌, ap, subst, arith, inl, inr, length-take}
use Rattle.std.specs.Prelude.{nat_lt}
use Rattle.std.proofs.Math.ListN.{set, get_or-eq_default}
use Rattle.std.proofs.lemmas.Bool.{cases_eq, cases_lt, lt-ltb, le-ltb}
use Rattle.std.proofs.lemmas.Grind.{get_or-set_at}
use Rattle.std.proofs.lemmas.List.{get_or-set_other, length-set, length_push, length-map, get_or-map}
use Rattle.std.proofs.lemmas.List.{get_or-take, get_or_append_left, get_or_push, map_push, take-append-le, take_all}
use Rattle.std.specs.Arc.{arc_value}
use Rattle.std.specs.declared.alloc.Global.{Global}
use Rattle.std.specs.declared.sync.Arc.{Arc}
use Rattle.parts.specs.PartValue.{PartValue}
use Rattle.parts.specs.RowsOfParts.{parts_of, nothing, part_in, AreParts}
use Rattle.parts.specs.SeriesParts.{SeriesValue, AreOver, parts_at, with_part}
use Rattle.parts.specs.declared.rings.Ring.{Ring}
use Rattle.parts.proofs.RowsRead.{part_read}
use Rattle.parts.proofs.SeriesRead.{parts_read, parts_past}
use Rattle.prepare.specs.Columns.{column, AreColumns, AreBegun, cut_to}
use Rattle.prepare.proofs.Grown.{early, last_one}
use Rattle.prepare.proofs.Places.{IsPartAt}

-- a part of a column
pub column_at : (rows : List (List PartValue)) (j t : ℕ) → part_in (column rows j) t ≡ part_in (get_or rows t []) j
column_at [] j t = get_or-eq_default (column [] j) nothing {n = t} (omega arith) ∙
    sym (ap (λ (row : List PartValue). part_in row j) (get_or-eq_default rows [] {n = t} (omega arith)) ∙
    get_or-eq_default none nothing {n = j} (omega arith))
  where
    rows : List (List PartValue)
    rows = []

    none : List PartValue
    none = []
column_at (row ∷ rows) j zero = refl
column_at (row ∷ rows) j (suc t) = column_at rows j t

pub column_length : (rows : List (List PartValue)) (j : ℕ) → length (column rows j) ≡ length rows
column_length rows j = length-map rows (λ (row : List PartValue). part_in row j)

pub column_push : (rows : List (List PartValue)) (last : List PartValue) (j : ℕ) →
    column (rows ++ last ∷ []) j ≡ column rows j ++ part_in last j ∷ []
column_push rows last j = map_push (λ (row : List PartValue). part_in row j) rows last

-- the first series alone
pub parts_taken : (series : List SeriesValue) (n h : ℕ) → h < n → n ≤ length series →
    parts_at (take n series) h ≡ parts_at series h
parts_taken [] n h lt le = absurd (omega arith)
parts_taken (s ∷ series) zero h lt le = absurd (omega arith)
parts_taken (s ∷ series) (suc n) zero lt le = refl
parts_taken (s ∷ series) (suc n) (suc h) lt le = parts_taken series n h (omega arith) (omega arith)

pub over_taken : (ring : Ring) (series : List SeriesValue) (n : ℕ) → AreOver ring series → AreOver ring (take n series)
over_taken ring series n h i d lt =
    let k = length-take n series in
    subst (λ (s : SeriesValue). s.ring ≡ ring) (sym (get_or-take n series i d (omega arith))) (h i d (omega arith))

-- another series in place of one
module _ (series : List SeriesValue) (i : ℕ) (v : SeriesValue) (inside : i < length series) where
  pub parts_set : parts_at (set series i v) i ≡ v.parts
  parts_set = parts_read (set series i v) i v (omega (arith, length-set series i v))
      (sym (get_or-set_at series i i v v refl inside))

  pub parts_other : (h : ℕ) → (h ≡ i → ⊥) → parts_at (set series i v) h ≡ parts_at series h
  parts_other h ne = elim (cases_lt h (length series)) [
    | inl lt ↦ get_or-map (λ (s : SeriesValue). s.parts) (set series i v) h v []
        (omega (arith, length-set series i v)) ∙
        ap (λ (s : SeriesValue). s.parts) (get_or-set_other series i h v v ne) ∙
        sym (get_or-map (λ (s : SeriesValue). s.parts) series h v [] lt)
    | inr ge ↦ parts_past (set series i v) h (omega (arith, length-set series i v)) ∙ sym (parts_past series h ge)
  ]

  pub over_set : (ring : Ring) → v.ring ≡ ring → AreOver ring series → AreOver ring (set series i v)
  over_set ring is h j d lt = elim (cases_eq j i) [
    | inl e ↦ ap (λ (s : SeriesValue). s.ring) (get_or-set_at series i j v d e inside) ∙ is
    | inr ne ↦ ap (λ (s : SeriesValue). s.ring) (get_or-set_other series i j v d ne) ∙
        h j d (omega (arith, length-set series i v))
  ]

-- the series at the places below i have a part more already
pub record IsGrowing (ring : Ring) (n : ℕ) (rows : List (List PartValue)) (last : List PartValue) (i : ℕ)
    (series : List SeriesValue) : Type 0 where
  pub count : length series ≡ n
  pub rings : AreOver ring series
  pub earlier : (h : ℕ) → h < i → parts_at series h ≡ column (rows ++ last ∷ []) h
  pub later : (h : ℕ) → i ≤ h → h < n → parts_at series h ≡ column rows h

module _ (ring : Ring) (n : ℕ) (rows : List (List PartValue)) where
  pub growing_none : (last : List PartValue) (series : List SeriesValue) → AreColumns ring n rows series →
      IsGrowing ring n rows last 0 series
  growing_none last series is = record {
    count = is.count;
    rings = is.rings;
    earlier = λ h lt. absurd (omega arith);
    later = λ h _ lt. is.parts h lt;
  }

  module _ (last : List PartValue) (i : ℕ) (series : List SeriesValue) (is : IsGrowing ring n rows last i series) where
    -- the series that gets its part next has one for each row
    pub growing_length : (x : SeriesValue) → i < n → x ≡ get_or series i x → length x.parts ≡ length rows
    growing_length x lt at =
        let c = is.count in
        let e : length x.parts ≡ length (column rows i) = ap (length {A = PartValue})
        (sym (parts_read series i x (omega arith) at) ∙ is.later i (omega arith) lt) in
        omega (arith, e, column_length rows i)

    -- nothing was pushed
    pub growing_kept : (x v : SeriesValue) → i < n → x ≡ get_or series i x → v ≡ x →
        IsGrowing ring n rows last i (set series i v)
    growing_kept x v lt at same = record {
      count = length-set series i v ∙ is.count;
      rings = over_set series i v inside ring
          (ap (λ (s : SeriesValue). s.ring) (same ∙ at) ∙ is.rings i x inside) is.rings;
      earlier = λ h low. parts_other series i v inside h (λ e. omega arith) ∙ is.earlier h low;
      later = λ h le low. elim (cases_eq h i) [
        | inl e ↦ ap (parts_at (set series i v)) e ∙ parts_set series i v inside ∙
            ap (λ (s : SeriesValue). s.parts) same ∙ sym (parts_read series i x inside at) ∙
            ap (parts_at series) (sym e) ∙ is.later h le low
        | inr ne ↦ parts_other series i v inside h ne ∙ is.later h le low
      ];
    }
      where
        inside : i < length series
        inside = let c = is.count in omega arith

    -- a part was pushed
    pub growing_more : (x v : SeriesValue) (p : PartValue) → i < n → length last ≡ i → x ≡ get_or series i x →
        v ≡ with_part x p → IsGrowing ring n rows (last ++ p ∷ []) (i + 1) (set series i v)
    growing_more x v p lt long at more = record {
      count = length-set series i v ∙ is.count;
      rings = over_set series i v inside ring
          (ap (λ (s : SeriesValue). s.ring) more ∙ ap (λ (s : SeriesValue). s.ring) at ∙ is.rings i x inside) is.rings;
      earlier = λ h low. elim (cases_eq h i) [
        | inl e ↦ ap (parts_at (set series i v)) e ∙ parts_set series i v inside ∙
            ap (λ (s : SeriesValue). s.parts) more ∙
            ap (λ (ps : List PartValue). ps ++ p ∷ []) (sym (parts_read series i x inside at) ∙
            is.later i (omega arith) lt) ∙ sym (column_push rows (last ++ p ∷ []) h ∙
            (λ j. column rows (e j) ++ (ap (part_in (last ++ p ∷ [])) (e ∙ sym long) ∙ last_one last p) j ∷ []))
        | inr ne ↦ parts_other series i v inside h ne ∙ is.earlier h (omega arith) ∙ column_push rows last h ∙
            ap (λ (q : PartValue). column rows h ++ q ∷ []) (sym (early last p h (omega arith))) ∙
            sym (column_push rows (last ++ p ∷ []) h)
      ];
      later = λ h le low. parts_other series i v inside h (λ e. omega arith) ∙ is.later h (omega arith) low;
    }
      where
        inside : i < length series
        inside = let c = is.count in omega arith

    -- at most one part more
    pub growing_begun : i ≤ n → AreBegun ring n rows series
    growing_begun le = record {
      count = is.count;
      rings = is.rings;
      begin = λ h lt. elim (cases_lt h i) [
        | inl low ↦ ap (take (length rows)) (is.earlier h low ∙ column_push rows last h) ∙
            take-append-le (length rows) (column rows h) (part_in last h ∷ []) (omega (arith, column_length rows h)) ∙
            take_all (length rows) (column rows h) (omega (arith, column_length rows h))
        | inr high ↦ ap (take (length rows)) (is.later h high lt) ∙
            take_all (length rows) (column rows h) (omega (arith, column_length rows h))
      ];
      few = λ h lt. elim (cases_lt h i) [
        | inl low ↦ let e : length (parts_at series h) ≡ length (column (rows ++ last ∷ []) h) =
            ap (length {A = PartValue}) (is.earlier h low) in
            omega (arith, e, column_length (rows ++ last ∷ []) h, length_push rows last)
        | inr high ↦ let e : length (parts_at series h) ≡ length (column rows h) =
            ap (length {A = PartValue}) (is.later h high lt) in omega (arith, e, column_length rows h)
      ];
    }

    -- all have one part more; the last row may have another part at its end
    pub growing_done : (whole : List PartValue) → i ≡ n →
        ((h : ℕ) → h < n → part_in whole h ≡ part_in last h) → AreColumns ring n (rows ++ whole ∷ []) series
    growing_done whole end same = record {
      count = is.count;
      rings = is.rings;
      parts = λ h lt. is.earlier h (omega arith) ∙ column_push rows last h ∙
          ap (λ (q : PartValue). column rows h ++ q ∷ []) (sym (same h lt)) ∙ sym (column_push rows whole h);
    }

-- series of one part each, one after the other
module _ (ring : Ring) (row : List PartValue) (i : ℕ) (series : List SeriesValue) (s : SeriesValue) where
  parts_more : parts_at (series ++ s ∷ []) ≡ (λ h. get_or (map (λ (t : SeriesValue). t.parts) series ++ s.parts ∷ []) h [])
  parts_more = λ l h. get_or (map_push (λ (t : SeriesValue). t.parts) series s l) h []

  pub columns_first : (all : List SeriesValue) → AreColumns ring i (row ∷ []) series → all ≡ series ++ s ∷ [] →
      s ≡ with_part (record { ring = ring; parts = [] }) (part_in row i) → AreColumns ring (i + 1) (row ∷ []) all
  columns_first all before is own = subst (AreColumns ring (i + 1) (row ∷ [])) (sym is) (record {
    count = omega (arith, length_push series s, before.count);
    rings = λ h d lt. elim (cases_lt h (length series)) [
      | inl low ↦ ap (λ (t : SeriesValue). t.ring) (get_or_append_left series (s ∷ []) d h low) ∙ before.rings h d low
      | inr high ↦ ap (λ (t : SeriesValue). t.ring) (get_or_push series s d h (omega (arith, length_push series s))) ∙
          ap (λ (t : SeriesValue). t.ring) own
    ];
    parts = λ h lt. (λ l. parts_more l h) ∙ elim (cases_lt h i) [
      | inl low ↦ get_or_append_left (map (λ (t : SeriesValue). t.parts) series) (s.parts ∷ []) [] h
          (omega (arith, many, before.count)) ∙ before.parts h low
      | inr high ↦ get_or_push (map (λ (t : SeriesValue). t.parts) series) s.parts [] h
          (omega (arith, many, before.count)) ∙ ap (λ (t : SeriesValue). t.parts) own ∙
          ap (λ m. part_in row m ∷ []) (let e : i ≡ h = omega arith in e)
    ];
  })
    where
      many : length (map (λ (t : SeriesValue). t.parts) series) ≡ length series
      many = length-map series (λ (t : SeriesValue). t.parts)

-- the part of degree 0 at a place
pub first_part : (ring : Ring) (row : List (Arc PartValue Global)) (i : ℕ) (x : Arc PartValue Global) →
    AreParts ring 0 (parts_of row) → i < length row → x ≡ get_or row i x →
    IsPartAt ring 0 (arc_value x) × (arc_value x ≡ part_in (parts_of row) i)
first_part ring row i x are lt at =
    let here : arc_value x ≡ part_in (parts_of row) i = sym (part_read row i x lt at) in
    (subst (IsPartAt ring 0) (sym here) (are i nothing (omega (arith, length-map row arc_value))), here)

-- the same series
pub columns_begun : (ring : Ring) (n : ℕ) (rows : List (List PartValue)) (series : List SeriesValue) →
    AreColumns ring n rows series → AreBegun ring n rows series
columns_begun ring n rows series is =
    growing_begun ring n rows [] 0 series (growing_none ring n rows [] series is) (omega arith)

-- the same, cut back
module _ (ring : Ring) (n r : ℕ) (rows : List (List PartValue)) (old new : List SeriesValue)
    (count : length rows ≡ r) (same : length new ≡ length old)
    (cut : (i : ℕ) (x : SeriesValue) → i < length old → get_or new i x ≡ cut_to r (get_or old i x)) where
  cut_ring : (s : SeriesValue) → (cut_to r s).ring ≡ s.ring
  cut_ring s = elim (nat_lt r (length s.parts)) as
      (λ b. (cond b (record s { parts = take (length s.parts - 1) s.parts }) s).ring ≡ s.ring) [
        | true ↦ refl
        | false ↦ refl
      ]

  cut_parts : (s : SeriesValue) → length s.parts ≤ r + 1 → (cut_to r s).parts ≡ take r s.parts
  cut_parts s le = elim (cases_lt r (length s.parts)) [
    | inl lt ↦ ap (λ b. (cond b (record s { parts = take (length s.parts - 1) s.parts }) s).parts) (lt-ltb r (length s.parts) lt) ∙
        ap (λ m. take m s.parts) (let e : length s.parts - 1 ≡ r = omega arith in e)
    | inr ge ↦ ap (λ b. (cond b (record s { parts = take (length s.parts - 1) s.parts }) s).parts) (le-ltb r (length s.parts) ge) ∙
        sym (take_all r s.parts ge)
  ]

  pub cut_columns : AreBegun ring n rows old → AreColumns ring n rows new
  cut_columns is = record {
    count = same ∙ is.count;
    rings = λ i d lt. ap (λ (s : SeriesValue). s.ring) (cut i d (omega arith)) ∙ cut_ring (get_or old i d) ∙
        is.rings i d (omega arith);
    parts = λ i lt. let c = is.count in let none : SeriesValue = record { ring = ring; parts = [] } in
        let few : length (parts_at old i) ≤ length rows + 1 = is.few i lt in
        let read : parts_at old i ≡ (get_or old i none).parts =
        get_or-map (λ (s : SeriesValue). s.parts) old i none [] (omega arith) in
        get_or-map (λ (s : SeriesValue). s.parts) new i none [] (omega arith) ∙
        ap (λ (s : SeriesValue). s.parts) (cut i none (omega arith)) ∙
        cut_parts (get_or old i none) (omega (arith, ap (length {A = PartValue}) read)) ∙
        (λ j. take (sym count j) (sym read j)) ∙ is.begin i lt;
  }
