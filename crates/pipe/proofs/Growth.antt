-- How stages grow.
use Rattle.std.proofs.Common.{ℕ, ◌≤◌, arith}
use Rattle.stages.proofs.Growth.{kept_same, kept_twice}
use Rattle.pipe.specs.Works.{WorkState, Works}

pub works_same : (n : ℕ) (w : WorkState) → Works n w w
works_same n w = record { kept = kept_same w.stage; items = omega arith; prepared = omega arith }

pub works_twice : (n m : ℕ) → n ≤ m → (a b c : WorkState) → Works n a b → Works m b c → Works m a c
works_twice n m le a b c g h = record {
  kept = kept_twice a.stage b.stage c.stage g.kept h.kept;
  items = let p = g.items in let q = h.items in omega arith;
  prepared = let p = g.prepared in let q = h.prepared in omega arith;
}
