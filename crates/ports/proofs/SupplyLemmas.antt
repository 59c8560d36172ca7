-- What a pull takes from the pieces that are left.
use Rattle.std.proofs.Common.{◌≡◌, ℕ, ◌+◌, ◌<◌, ◌≤◌, List, [], ◌∷◌, length, take, drop, get_or, map, refl, ap, sym}
use Rattle.std.proofs.Common.{◌∙◌, subst, arith, length-append, length-drop}
use Rattle.std.specs.List.{All, concat}
use Rattle.std.proofs.lemmas.List.{drop_more, drop_at, drop-append-le, drop-drop, take-append-le, get_or-map}
use Rattle.std.proofs.lemmas.List.Elements.{All-drop, All-head}
use Rattle.std.proofs.lemmas.Bool.Decides.{nat_tests}
use Rattle.ports.specs.Bytes.{least_of}
use Rattle.ports.specs.Supply.{Supply, given_of, taken, from_place, pieces_from, IsIn, IsPlace}

-- from byte 0 of the first piece on, all pieces are there
from_place-zero : (ps : List (List ℕ)) → from_place 0 ps ≡ ps
from_place-zero [] = refl
from_place-zero (p ∷ ps) = refl

IsIn-zero : (ps : List (List ℕ)) → All (λ p. 0 < length p) ps → IsIn 0 ps
IsIn-zero [] all = refl
IsIn-zero (p ∷ ps) all = All-head (λ q. 0 < length q) p ps all

IsIn-at : (i q : ℕ) (ps : List (List ℕ)) (b : List ℕ) → i < length ps → b ≡ get_or ps i [] →
    drop i ps ≡ b ∷ drop (i + 1) ps
IsIn-at i q ps b lt is = rw is (drop_more ps i [] lt)

-- a piece that was read, as bytes
pub piece_read : {T : Type 0} (f : T → List ℕ) (xs : List T) (i : ℕ) (x : T) (b : List ℕ) →
    i < length xs → x ≡ get_or xs i x → b ≡ f x → b ≡ get_or (map f xs) i []
piece_read f xs i x b lt read is = is ∙ (ap f read ∙ sym (get_or-map f xs i x [] lt))

pub IsPlace-start : (ps : List (List ℕ)) → All (λ p. 0 < length p) ps → IsPlace 0 0 ps
IsPlace-start ps all = record { within = omega arith; stands = IsIn-zero ps all; nonempty = all }

module _ (i q : ℕ) (ps : List (List ℕ)) (b : List ℕ)
    (here : IsPlace i q ps) (lt : i < length ps) (is : b ≡ get_or ps i []) where
  pub place_in : q < length b
  place_in = subst (IsIn q) (IsIn-at i q ps b lt is) here.stands

  pub IsPlace-next : IsPlace (i + 1) 0 ps
  IsPlace-next = record {
    within = omega arith;
    stands = IsIn-zero (drop (i + 1) ps) (All-drop (λ p. 0 < length p) (i + 1) ps here.nonempty);
    nonempty = here.nonempty;
  }

  pub IsPlace-more : (n : ℕ) → q + n < length b → IsPlace i (q + n) ps
  IsPlace-more n below = record {
    within = here.within;
    stands = rw (IsIn-at i q ps b lt is) below;
    nonempty = here.nonempty;
  }

-- a pull of n bytes from the pieces `old` leaves the pieces `new`
pub record Gives (old new : List (List ℕ)) (n room : ℕ) (into : List ℕ) : Type 0 where
  pub some : 0 < n
  pub fits : n ≤ room
  pub left : n ≤ length (concat old)
  pub moved : concat new ≡ drop n (concat old)
  pub put : take n into ≡ take n (concat old)
  pub exact : n ≡ given_of old room
  pub after : new ≡ taken n old

-- the same, where the first piece is f and the others are r
gives_all : (f : List ℕ) (r : List (List ℕ)) (n room : ℕ) (into : List ℕ) →
    0 < length f → 0 < room → n ≡ least_of (length f) room → take n into ≡ take n f →
    n ≡ length f → Gives (f ∷ r) r n room into
gives_all f r n room into some free count copied all = record {
  some = omega arith;
  fits = omega arith;
  left = omega (arith, length-append f (concat r));
  moved = sym (drop_at f (concat r) n (sym all));
  put = copied ∙ sym (take-append-le n f (concat r) (omega arith));
  exact = count;
  after = grind (arith, nat_tests);
}

gives_part : (f : List ℕ) (r : List (List ℕ)) (n room : ℕ) (into : List ℕ) →
    0 < length f → 0 < room → n ≡ least_of (length f) room → take n into ≡ take n f →
    n < length f → Gives (f ∷ r) (drop n f ∷ r) n room into
gives_part f r n room into some free count copied part = record {
  some = omega arith;
  fits = omega arith;
  left = omega (arith, length-append f (concat r));
  moved = sym (drop-append-le n f (concat r) (omega arith));
  put = copied ∙ sym (take-append-le n f (concat r) (omega arith));
  exact = count;
  after = grind (arith, nat_tests);
}

module _ (i q : ℕ) (ps : List (List ℕ)) (b : List ℕ) (old : List (List ℕ)) (n room : ℕ) (into : List ℕ)
    (here : IsPlace i q ps) (lt : i < length ps) (is : b ≡ get_or ps i [])
    (was : old ≡ pieces_from i q ps) (free : 0 < room) (count : n ≡ least_of (length (drop q b)) room)
    (copied : take n into ≡ take n (drop q b)) where
  old_is : old ≡ drop q b ∷ drop (i + 1) ps
  old_is = was ∙ ap (from_place q) (IsIn-at i q ps b lt is)

  pub gives_end : q + n ≡ length b → Gives old (pieces_from (i + 1) 0 ps) n room into
  gives_end all =
      let q_in : q < length b = place_in i q ps b here lt is in
      let e : pieces_from (i + 1) 0 ps ≡ drop (i + 1) ps = from_place-zero (drop (i + 1) ps) in
      let some : 0 < length (drop q b) = omega (arith, length-drop q b) in
      let used : n ≡ length (drop q b) = omega (arith, length-drop q b) in
      rw (old_is, e) (gives_all (drop q b) (drop (i + 1) ps) n room into some free count copied used)

  pub gives_more : q + n < length b → Gives old (pieces_from i (q + n) ps) n room into
  gives_more part =
      let q_in : q < length b = place_in i q ps b here lt is in
      let e : pieces_from i (q + n) ps ≡ drop n (drop q b) ∷ drop (i + 1) ps =
      ap (from_place (q + n)) (IsIn-at i q ps b lt is) ∙
      ap (λ (x : List ℕ). x ∷ drop (i + 1) ps) (sym (drop-drop n q b)) in
      let some : 0 < length (drop q b) = omega (arith, length-drop q b) in
      let not_all : n < length (drop q b) = omega (arith, length-drop q b) in
      rw (old_is, e) (gives_part (drop q b) (drop (i + 1) ps) n room into some free count copied not_all)

-- two supplies with the same parts
abbrev supply : List (List ℕ) → List ℕ → ℕ → ℕ → Supply
supply pieces failing pulls faults = record { pieces = pieces; failing = failing; pulls = pulls; faults = faults }

pub same_supply : (a b : List (List ℕ)) (f g : List ℕ) (p q m n : ℕ) →
    a ≡ b → f ≡ g → p ≡ q → m ≡ n → supply a f p m ≡ supply b g q n
same_supply a b f g p q m n one two three four = rw (one, two, three, four) refl
