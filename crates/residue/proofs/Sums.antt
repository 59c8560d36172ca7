-- Sums in two words, and their residues.
use Rattle.std.proofs.Common.{◌≡◌, ℕ, ◌+◌, ◌-◌, ◌*◌, ◌%◌, ◌^◌, ◌<◌, ◌≤◌, Bool, true, false, refl, ◌∙◌, ap, arith}
use Rattle.std.specs.Bool.{FalseIff}
use mir.Val.{bool_byte}
use Rattle.std.proofs.Math.Nat.{mul-le-mul_right}
use Rattle.std.proofs.lemmas.Nat.{mul-mod_second, mul-le}
use Rattle.residue.proofs.Arithmetic.{plus}

-- the residue by that of the high word
pub split_residue : (m low high : ℕ) → (high % m * 2 ^ 64 + low) % m ≡ (low + 2 ^ 64 * high) % m
split_residue m low high = plus m (high % m * 2 ^ 64) (2 ^ 64 * high) low low
    (ap (λ n. n % m) (let e : high % m * 2 ^ 64 ≡ 2 ^ 64 * (high % m) = omega arith in e) ∙
    mul-mod_second (2 ^ 64) high m) refl
    ∙ ap (λ n. n % m) (let e : 2 ^ 64 * high + low ≡ low + 2 ^ 64 * high = omega arith in e)

-- what is added takes at most its share of the room
pub room_left : (e d n left b limit : ℕ) → n ≤ left → d ≤ n * b → e + left * b < limit → e + d + (left - n) * b < limit
room_left e d n left b limit le most h = omega (arith, most, h, whole)
  where
    shared : n + (left - n) ≡ left
    shared = omega arith

    whole : n * b + (left - n) * b ≡ left * b
    whole = (let e : n * b + (left - n) * b ≡ (n + (left - n)) * b = omega arith in e) ∙ ap (λ k. k * b) shared

pub room_first : (e d n left b limit : ℕ) → n ≤ left → d ≤ n * b → e + left * b < limit → e + d < limit
room_first e d n left b limit le most h = omega (arith, most, h, mul-le-mul_right b le)

-- any list has room beside a residue
pub room_anew : (m n d r : ℕ) → m < 2 ^ 63 → n < 2 ^ 64 → r < m → d ≤ n * ((m - 1) * (m - 1)) → r + d < 2 ^ 192
room_anew m n d r small few low most =
    let b : (m - 1) * (m - 1) ≤ 2 ^ 63 * 2 ^ 63 =
    mul-le (m - 1) (m - 1) (2 ^ 63) (2 ^ 63) (omega arith) (omega arith) in
    let t : n * ((m - 1) * (m - 1)) ≤ 2 ^ 64 * (2 ^ 63 * 2 ^ 63) =
    mul-le n ((m - 1) * (m - 1)) (2 ^ 64) (2 ^ 63 * 2 ^ 63) (omega arith) b in omega arith

-- a sum of two words, with its carry
pub carried_is : (low more next n : ℕ) (over : Bool) → low < 2 ^ 128 → more < 2 ^ 128 → next ≡ (low + more) % 2 ^ 128 →
    FalseIff over (low + more < 2 ^ 128) → n ≡ bool_byte over → (next + 2 ^ 128 * n ≡ low + more) × (n ≤ 1)
carried_is low more next n true h k is over one = (omega arith, omega arith)
carried_is low more next n false h k is over one = (omega arith, omega arith)
