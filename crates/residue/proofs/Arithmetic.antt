-- Congruences modulo m.
use Rattle.std.proofs.Common.{◌≡◌, ℕ, zero, suc, ◌+◌, ◌-◌, ◌*◌, ◌/◌, ◌%◌, ◌^◌, ◌<◌, refl, sym, ◌∙◌, ap, arith}
use Rattle.std.proofs.Math.Nat.{add-mod, mod-mod, add-mul-mod_self_right, div-add-mod, pow-suc}
use Rattle.std.proofs.lemmas.Nat.{mul-mod_first, mul-mod_second, pow-mod, mul-pow, pow-add}

module _ (m : ℕ) where
  pub plus : (a b c d : ℕ) → a % m ≡ b % m → c % m ≡ d % m → (a + c) % m ≡ (b + d) % m
  plus a b c d p q = add-mod a c m ∙ (λ i. (p i + q i) % m) ∙ sym (add-mod b d m)

  pub times : (a c d : ℕ) → c % m ≡ d % m → (a * c) % m ≡ (a * d) % m
  times a c d q = sym (mul-mod_second a c m) ∙ ap (λ n. (a * n) % m) q ∙ mul-mod_second a d m

-- what is added on both sides cancels
pub cancelled : (m a b c : ℕ) → 0 < m → (a + c) % m ≡ (b + c) % m → a % m ≡ b % m
cancelled zero a b c some e = absurd (omega arith)
cancelled (suc p) a b c some e = sym (gone a) ∙ plus (suc p) (a + c) (b + c) (c * p) (c * p) e refl ∙ gone b
  where
    gone : (x : ℕ) → (x + c + c * p) % suc p ≡ x % suc p
    gone x = ap (λ n. n % suc p) (whole x) ∙ add-mul-mod_self_right x c (suc p)
      where
        whole : (x : ℕ) → x + c + c * p ≡ x + c * suc p
        whole x = omega arith

-- the squares' power
squared : (m r b k : ℕ) → (r * ((b * b) % m) ^ k) % m ≡ (r * b ^ (k + k)) % m
squared m r b k = times m r _ _ (pow-mod (b * b) k m) ∙ ap (λ n. (r * n) % m) (mul-pow b b k ∙ sym (pow-add b k k))

pub even_step : (m r b n : ℕ) → n % 2 ≡ 0 → (r * ((b * b) % m) ^ (n / 2)) % m ≡ (r * b ^ n) % m
even_step m r b n e = squared m r b (n / 2) ∙ ap (λ k. (r * b ^ k) % m) (omega arith)

pub odd_step : (m r b n : ℕ) → n % 2 ≡ 1 → ((r * b) % m * ((b * b) % m) ^ (n / 2)) % m ≡ (r * b ^ n) % m
odd_step m r b n e = mul-mod_first (r * b) _ m ∙ squared m (r * b) b (n / 2) ∙
    ap (λ k. k % m) (omega arith ∙ ap (λ k. r * k) (sym (pow-suc b (n / 2 + n / 2)) ∙ ap (λ k. b ^ k) whole))
  where
    whole : suc (n / 2 + n / 2) ≡ n
    whole = omega arith

-- one step of Euclid's algorithm on the multipliers of a
pub next_multiplier : (m a r n s t u : ℕ) → 0 < m → u < m → u ≡ ((r / n) % m * t) % m → (a * s) % m ≡ r % m →
    (a * t) % m ≡ n % m → (a * ((s + (m - u)) % m)) % m ≡ (r % n) % m
next_multiplier m a r n s t u some below is at_s at_t =
    cancelled m _ _ (n * (r / n)) some (plus m _ _ _ _ (mul-mod_second a (s + (m - u)) m) part ∙
    ap (λ k. k % m) whole ∙ add-mul-mod_self_right (a * s) a m ∙ at_s ∙
    ap (λ k. k % m) (sym (div-add-mod r n) ∙ omega arith))
  where
    part : (n * (r / n)) % m ≡ (a * u) % m
    part = ap (λ k. k % m) (omega arith) ∙ times m (r / n) n (a * t) (sym at_t) ∙ ap (λ k. k % m) (omega arith) ∙
        times m a ((r / n) * t) u (sym (ap (λ k. k % m) is ∙ mod-mod _ m ∙ mul-mod_first (r / n) t m))

    whole : a * (s + (m - u)) + a * u ≡ a * s + a * m
    whole = let e : s + (m - u) + u ≡ s + m = omega arith in
        (let f : a * (s + (m - u)) + a * u ≡ a * (s + (m - u) + u) = omega arith in f) ∙ ap (λ k. a * k) e ∙ omega arith
