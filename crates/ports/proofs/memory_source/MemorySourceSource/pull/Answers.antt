-- Both ways, whether the piece is used up or not, follow from what a pull takes
-- from the pieces left.
use Rattle.std.proofs.Common.{◌<◌, ◌≡◌, ◌+◌, List, ℕ, [], Some, length, length-drop, get_or, map, arith, ap, sym, ◌∙◌}
use Rattle.std.proofs.lemmas.List.{length-map}
use Rattle.ports.specs.Supply.{Supply, pieces_from}
use Rattle.ports.specs.Faults.{raised}
use Rattle.ports.proofs.SupplyLemmas.{piece_read, place_in, IsPlace-next, IsPlace-more, Gives, gives_end, gives_more}
use Rattle.ports.proofs.SupplyLemmas.{same_supply}
use Rattle.ports.proofs.memory_source.MemorySourceSource.pull.Goals as goal
use Rattle.ports.proofs.memory_source.MemorySourceSource.pull.Goals.{After-as_slice-bytes, After-copy_front-count}

-- there is a piece
in_range : (c : After-as_slice-bytes) → c.self.inside.piece < length (map (λ p. p.items) c.self.inside.pieces.items)
in_range c =
    let size = length-map c.self.inside.pieces.items (λ p. p.items) in
    let within = c.self.invariant.within in
    rw size (omega (arith, c.self.inside.pieces.ok.0, rw size at within))

-- the bytes are those of that piece
read_is : (c : After-as_slice-bytes) →
    c.as_slice-bytes.result.now ≡ get_or (map (λ p. p.items) c.self.inside.pieces.items) c.self.inside.piece []
read_is c =
    let inside : c.self.inside.piece < length c.self.inside.pieces.items =
    omega (arith, in_range c, length-map c.self.inside.pieces.items (λ p. p.items)) in
    piece_read (λ p. p.items) c.self.inside.pieces.items c.self.inside.piece c.index.result.now
    c.as_slice-bytes.result.now inside c.index.ensures c.as_slice-bytes.ensures.value

-- its place has a byte
below : (c : After-as_slice-bytes) → c.self.inside.place < length c.as_slice-bytes.result.now
below c =
    place_in c.self.inside.piece c.self.inside.place _ c.as_slice-bytes.result.now
    c.self.invariant (in_range c) (read_is c)

-- all pieces, as lists of bytes
abbrev all_pieces : After-copy_front-count → List (List ℕ)
all_pieces c = map (λ p. p.items) c.self.inside.pieces.items

-- the place behind the bytes copied
abbrev end_of : After-copy_front-count → ℕ
end_of c = c.self.inside.place + c.copy_front-count.result

-- the pieces that were left
was : (c : After-copy_front-count) →
    c.args.self.now.pieces ≡ pieces_from c.self.inside.piece c.self.inside.place (all_pieces c)
was c = ap (λ (s : Supply). s.pieces) (sym c.self.view_is)

-- the slice lent has room
room : (c : After-copy_front-count) → 0 < length c.copy_front-count.new.into
room c = omega arith

-- where the piece is not used up, more of it is left
goes_on : (c : After-copy_front-count) → (end_of c ≡ length c.as_slice-bytes.result.now → ⊥) →
    end_of c < length c.as_slice-bytes.result.now
goes_on c not =
    let inside = below (goal.at.After-copy_front-count c).After-as_slice-bytes in
    let behind = length-drop c.self.inside.place c.as_slice-bytes.result.now in
    omega (arith, behind, ap length c.behind.ensures, c.copy_front-count.ensures.count, inside)

-- the copied bytes were taken from the pieces left, and the pieces `after` stay
abbrev GivesCopied : After-copy_front-count → List (List ℕ) → Type 0
GivesCopied c after =
    Gives c.args.self.now.pieces after c.copy_front-count.result
    (length c.copy_front-count.new.into) c.copy_front-count.new.into

-- what is left where the piece is used up
all_taken : (c : After-copy_front-count) → end_of c ≡ length c.as_slice-bytes.result.now →
    GivesCopied c (pieces_from (c.self.inside.piece + 1) 0 (all_pieces c))
all_taken c all =
    let d = (goal.at.After-copy_front-count c).After-as_slice-bytes in
    let into : List ℕ = c.copy_front-count.new.into in
    let count = rw c.behind.ensures at c.copy_front-count.ensures.count in
    let copied = rw c.behind.ensures at c.copy_front-count.ensures.copied in
    gives_end c.self.inside.piece c.self.inside.place _ c.as_slice-bytes.result.now c.args.self.now.pieces
    c.copy_front-count.result (length into) into
    c.self.invariant (in_range d) (read_is d) (was c) (room c) count copied all

-- what is left where it is not
part_taken : (c : After-copy_front-count) → end_of c < length c.as_slice-bytes.result.now →
    GivesCopied c (pieces_from c.self.inside.piece (end_of c) (all_pieces c))
part_taken c part =
    let d = (goal.at.After-copy_front-count c).After-as_slice-bytes in
    let into : List ℕ = c.copy_front-count.new.into in
    let count = rw c.behind.ensures at c.copy_front-count.ensures.count in
    let copied = rw c.behind.ensures at c.copy_front-count.ensures.copied in
    gives_more c.self.inside.piece c.self.inside.place _ c.as_slice-bytes.result.now c.args.self.now.pieces
    c.copy_front-count.result (length into) into
    c.self.invariant (in_range d) (read_is d) (was c) (room c) count copied part

pub behind-requires : goal.behind-requires
behind-requires c = omega (arith, below c)

pub invariant_of-self-then-self-bytes : goal.invariant_of-self-then-self-bytes
invariant_of-self-then-self-bytes c =
    let d = (goal.at.invariant_of-self-then-self-bytes c).After-as_slice-bytes in
    IsPlace-next _ _ _ d.as_slice-bytes.result.now d.self.invariant (in_range d) (read_is d)

pub invariant_of-self-else-self-bytes : goal.invariant_of-self-else-self-bytes
invariant_of-self-else-self-bytes c =
    let d = (goal.at.invariant_of-self-else-self-bytes c).After-as_slice-bytes in
    let more = goes_on (goal.at.invariant_of-self-else-self-bytes c).After-copy_front-count c.if-self-bytes.false in
    IsPlace-more _ _ _ d.as_slice-bytes.result.now d.self.invariant (in_range d) (read_is d)
    c.copy_front-count.result more

pub returns-then-self-bytes-clause-count : goal.returns-then-self-bytes-clause-count
returns-then-self-bytes-clause-count c =
    let d = (goal.at.returns-then-self-bytes-clause-count c).After-copy_front-count in
    let gives = all_taken d c.if-self-bytes.true in
    (gives.some, gives.fits)

pub returns-then-self-bytes-clause-moves : goal.returns-then-self-bytes-clause-moves
returns-then-self-bytes-clause-moves c =
    let d = (goal.at.returns-then-self-bytes-clause-moves c).After-copy_front-count in
    let gives = all_taken d c.if-self-bytes.true in
    (gives.left, ap (λ (xs : List ℕ). Some xs) gives.moved, gives.put)

pub returns-then-self-bytes-clause-exact : goal.returns-then-self-bytes-clause-exact
returns-then-self-bytes-clause-exact c =
    let d = (goal.at.returns-then-self-bytes-clause-exact c).After-copy_front-count in
    let gives = all_taken d c.if-self-bytes.true in
    let failing = ap (λ (s : Supply). s.failing) c.self.view_is in
    let pulls = c.saturating_add-self-inside.ensures ∙ ap (λ (s : Supply). raised s.pulls) c.self.view_is in
    let faults = ap (λ (s : Supply). s.faults) c.self.view_is in
    (gives.exact, same_supply _ _ _ _ _ _ _ _ gives.after failing pulls faults)

pub returns-else-self-bytes-clause-count : goal.returns-else-self-bytes-clause-count
returns-else-self-bytes-clause-count c =
    let d = (goal.at.returns-else-self-bytes-clause-count c).After-copy_front-count in
    let gives = part_taken d (goes_on d c.if-self-bytes.false) in
    (gives.some, gives.fits)

pub returns-else-self-bytes-clause-moves : goal.returns-else-self-bytes-clause-moves
returns-else-self-bytes-clause-moves c =
    let d = (goal.at.returns-else-self-bytes-clause-moves c).After-copy_front-count in
    let gives = part_taken d (goes_on d c.if-self-bytes.false) in
    (gives.left, ap (λ (xs : List ℕ). Some xs) gives.moved, gives.put)

pub returns-else-self-bytes-clause-exact : goal.returns-else-self-bytes-clause-exact
returns-else-self-bytes-clause-exact c =
    let d = (goal.at.returns-else-self-bytes-clause-exact c).After-copy_front-count in
    let gives = part_taken d (goes_on d c.if-self-bytes.false) in
    let failing = ap (λ (s : Supply). s.failing) c.self.view_is in
    let pulls = c.saturating_add-self-inside.ensures ∙ ap (λ (s : Supply). raised s.pulls) c.self.view_is in
    let faults = ap (λ (s : Supply). s.faults) c.self.view_is in
    (gives.exact, same_supply _ _ _ _ _ _ _ _ gives.after failing pulls faults)
