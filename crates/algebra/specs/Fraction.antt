-- Exact fractions, of any size. Assumes nothing.
--     Q                  a fraction in lowest terms: num over den, den above 0 and without a divisor in common with num
--     normal n d h       n / d, brought to lowest terms
--     plus_q, times_q    sum and product
--     minus_q, over_q    negative and reciprocal; that of zero is zero
--     heavier_q p q      p lies further from zero than q
--     whole_q z          the whole number z as a fraction
--     ratio n d          the fraction n / d
use Rattle.std.specs.Prelude.{◌≡◌, ℕ, suc, ◌*◌, ◌/◌, ◌<◌, Bool, ℤ, pos, negsuc, ◌+ℤ◌, ◌*ℤ◌, neg_ℤ, nat_lt, unsigned_abs}
use Rattle.std.proofs.Common.{◌∙◌, ap, mul-pos}
use Rattle.std.proofs.Math.Nat.{zero-lt-suc}
use Prim.Native.Nat as Nat
use Rattle.integers.specs.Divisors.{gcd}
use Rattle.integers.proofs.GcdLaws.{gcd_right, quot_pos, gcd_quotients, gcd_one}
use Rattle.integers.specs.Signs.{quot}
use Rattle.integers.proofs.Sizes.{unsigned_abs_quot}

pub record Q : Type 0 where
  pub num : ℤ
  pub den : ℕ
  pub den_pos : 0 < den
  pub low : gcd (unsigned_abs num) den ≡ 1

-- both divided by what they have in common
unfoldable pub normal : ℤ → (d : ℕ) → 0 < d → Q
normal n d h = record {
  num = quot n (gcd (unsigned_abs n) d);
  den = d / gcd (unsigned_abs n) d;
  den_pos = quot_pos d (gcd (unsigned_abs n) d) (gcd_right (unsigned_abs n) d) h;
  low = ap (λ (x : ℕ). gcd x (d / gcd (unsigned_abs n) d)) (unsigned_abs_quot n (gcd (unsigned_abs n) d)) ∙ gcd_quotients (unsigned_abs n) d h;
}

unfoldable pub plus_q : Q → Q → Q
plus_q p q = normal (p.num *ℤ pos q.den +ℤ q.num *ℤ pos p.den) (p.den * q.den) (mul-pos p.den_pos q.den_pos)

unfoldable pub times_q : Q → Q → Q
times_q p q = normal (p.num *ℤ q.num) (p.den * q.den) (mul-pos p.den_pos q.den_pos)

unfoldable pub minus_q : Q → Q
minus_q p = normal (neg_ℤ p.num) p.den p.den_pos

abbrev pub whole_q : ℤ → Q
whole_q z = record { num = z; den = 1; den_pos = zero-lt-suc 0; low = gcd_one (unsigned_abs z) }

abbrev pub zero_q : Q
zero_q = whole_q (pos 0)

abbrev pub one_q : Q
one_q = whole_q (pos 1)

-- the reciprocal of n / d is d / n, with the sign above the line
unfoldable pub over_by : ℤ → (d : ℕ) → 0 < d → Q
over_by (pos Nat.zero) d h = zero_q
over_by (pos (suc n)) d h = normal (pos d) (suc n) (zero-lt-suc n)
over_by (negsuc n) d h = normal (neg_ℤ (pos d)) (suc n) (zero-lt-suc n)

unfoldable pub over_q : Q → Q
over_q p = over_by p.num p.den p.den_pos

abbrev pub heavier_q : Q → Q → Bool
heavier_q p q = nat_lt (unsigned_abs q.num * p.den) (unsigned_abs p.num * q.den)

-- n / d as a fraction, and 0 where d is 0
abbrev pub ratio : ℤ → ℕ → Q
ratio n Nat.zero = zero_q
ratio n (suc d) = normal n (suc d) (zero-lt-suc d)
