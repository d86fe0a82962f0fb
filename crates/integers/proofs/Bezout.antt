-- The greatest common divisor of two numbers is a combination of them. Assumes nothing.
use Rattle.std.proofs.Common.{◌≡◌, ℕ, zero, suc, ◌/◌, ◌%◌, ℤ, pos, ◌+ℤ◌, ◌*ℤ◌, neg_ℤ, sym, ap, ◌∙◌}
use native.Mathlib.Nat.{div-add-mod}
use Rattle.integers.specs.Divisors.{gcd, gcd_by}
use Rattle.integers.proofs.Equations.{parts, differences, naturals, adding}

-- x b + y r = y a + (x - y q) b, where a = q b + r
turned : (a b : ℕ) (x y : ℤ) → x *ℤ pos b +ℤ y *ℤ pos (a % b) ≡ y *ℤ pos a +ℤ (x +ℤ neg_ℤ (y *ℤ pos (a / b))) *ℤ pos b
turned a b x y = adding y (ap pos (sym (div-add-mod a b))) (rw (parts x, parts y) (simp differences (omega naturals)))

bezout_by : (k a b : ℕ) → (x : ℤ) × (y : ℤ) × (pos (gcd_by k a b) ≡ x *ℤ pos a +ℤ y *ℤ pos b)
bezout_by zero a b = (pos 1, pos 0, simp differences (omega naturals))
bezout_by (suc k) a zero = (pos 1, pos 0, simp differences (omega naturals))
bezout_by (suc k) a (suc b) =
    let r = bezout_by k (suc b) (a % suc b) in
    (r.1, r.0 +ℤ neg_ℤ (r.1 *ℤ pos (a / suc b)), r.2 ∙ turned a (suc b) r.0 r.1)

pub bezout : (a b : ℕ) → (x : ℤ) × (y : ℤ) × (pos (gcd a b) ≡ x *ℤ pos a +ℤ y *ℤ pos b)
unfolding gcd
bezout a b = bezout_by (suc b) a b
