-- Divisors of whole numbers. Assumes nothing.
--     gcd a b           the greatest common divisor: it divides a and b, and whatever divides both divides it
--     Prime p           p is above 1, and only 1 and p divide it
use Rattle.std.specs.Prelude.{◌≡◌, ℕ, zero, suc, ◌%◌, ◌<◌, ◌⊎◌}
use Rattle.std.specs.Int.{◌∣◌}

-- by Euclid's rule; the second number falls with each step, so that one step more than it is enough
abbrev pub gcd_by : ℕ → ℕ → ℕ → ℕ
gcd_by zero a b = a
gcd_by (suc k) a zero = a
gcd_by (suc k) a (suc b) = gcd_by k (suc b) (a % suc b)

unfoldable pub gcd : ℕ → ℕ → ℕ
gcd a b = gcd_by (suc b) a b

abbrev pub Prime : ℕ → Type 0
Prime p = (1 < p) × ((d : ℕ) → d ∣ p → (d ≡ 1) ⊎ (d ≡ p))
