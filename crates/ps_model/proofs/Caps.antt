-- Counts that are cut at a limit.
use Rattle.ps_model.specs.Tree.{power_nodes, nodes_of_power}
use Rattle.std.proofs.Common.{refl, ◌≡◌, ℕ, zero, suc, ◌+◌, ◌*◌, ◌<◌, min, arith}

-- A cut factor gives the same cut product.
pub capped_mul : (d e m : ℕ) → min (min d m * e) m ≡ min (e * d) m
capped_mul d zero m = grind arith
capped_mul d (suc e) m = grind arith

pub nodes_of_power-positive : (n d e : ℕ) → 0 < e → nodes_of_power n d e ≡ n + power_nodes d e
nodes_of_power-positive n d zero h = absurd (omega arith)
nodes_of_power-positive n d (suc e) h = refl

-- Cut counts of a base give the same cut count of its power.
capped_steps : (d e m : ℕ) → min (power_nodes (min d m) e) m ≡ min (power_nodes d e) m
capped_steps d zero m = refl
capped_steps d (suc zero) m = refl
capped_steps d (suc (suc e)) m =
    let one : min (suc (suc e) * min d m) m ≡ min (suc (suc e) * d) m = capped_mul' d (suc (suc e)) m in
    omega (arith, capped_steps d (suc e) m)
  where
    capped_mul' : (d e m : ℕ) → min (e * min d m) m ≡ min (e * d) m
    capped_mul' d e m = let h = capped_mul d e m in omega (arith, h)

pub capped_power : (n d e m : ℕ) → min (nodes_of_power (min n m) (min d m) e) m ≡ min (nodes_of_power n d e) m
capped_power n d zero m = omega arith
capped_power n d (suc e) m = omega (arith, capped_steps d (suc e) m)
