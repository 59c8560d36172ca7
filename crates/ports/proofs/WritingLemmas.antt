-- One push more: what was written goes on by what the push took.
use Rattle.std.proofs.Common.{◌≡◌, ℕ, ◌+◌, ◌-◌, List, ◌++◌, length, take, drop, Option, Some, None, ◌∙◌, append_assoc}
use Rattle.std.proofs.lemmas.List.{take_rest}
use Rattle.std.proofs.Math.Seq.{take-add}
use Rattle.ports.specs.Bytes.{AddsBytes, WritesAll}
use Rattle.ports.specs.declared.sink.Pushed.TheVariants.{Took}

-- the piece that a push was given is the text behind the bytes that were taken before
pub WritesAll-more : (w w1 w2 : Option (List ℕ)) (text piece : List ℕ) (done n : ℕ) →
    piece ≡ take (length text - done) (drop done text) → WritesAll w w1 (take done text) →
    AddsBytes w1 w2 piece (Took n) → WritesAll w w2 (take (done + n) text)
WritesAll-more None None w2 text piece done n is all adds = adds
WritesAll-more None (Some b) w2 text piece done n is all adds = cc
WritesAll-more (Some a) None w2 text piece done n is all adds = cc
WritesAll-more (Some a) (Some b) w2 text piece done n is all adds =
    let e : b ≡ a ++ take done text = cc in
    let p : piece ≡ drop done text = is ∙ take_rest text done in
    let more : List ℕ = take n (drop done text) in
    let t : take (done + n) text ≡ take done text ++ more = take-add done n text in
    let s : (a ++ take done text) ++ more ≡ a ++ (take done text ++ more) = append_assoc a (take done text) more in
    cc
