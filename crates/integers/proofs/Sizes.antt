-- The size of an integer, its quotient by a number that divides it, and cancelling. Assumes nothing.
use Rattle.std.proofs.Common.{◌≡◌, ℕ, ◌+◌, ◌*◌, ◌/◌, ◌<◌, false, ◌==◌, ◌≢◌, ℤ, pos, negsuc, ◌*ℤ◌, neg_ℤ, nat_abs, refl, ap, arith}
use Prim.Native.Nat.{◌∣◌}
use native.Mathlib.Nat.{div-mul_cancel, eq_of_mul-eq-mul_right}
use Rattle.std.proofs.lemmas.Bool.{eqb-false}
use Rattle.std.proofs.lemmas.Int.{ints}
use borrow.Author.Differences.{up, down, same_in}
use Rattle.integers.specs.Signs.{quot, with_sign}
use Rattle.integers.proofs.Equations.{differences, naturals}

pub unsigned_abs-neg_ℤ : (z : ℤ) → nat_abs (neg_ℤ z) ≡ nat_abs z
unsigned_abs-neg_ℤ z = omega (arith, ints)

pub unsigned_abs_zero : (z : ℤ) → nat_abs z ≡ 0 → z ≡ pos 0
unsigned_abs_zero z h = omega (arith, ints)

pub quot_times : (z : ℤ) (g : ℕ) → g ∣ nat_abs z → quot z g *ℤ pos g ≡ z
quot_times (pos n) g d = ap pos (div-mul_cancel g d)
quot_times (negsuc n) g d = simp differences (omega (naturals, div-mul_cancel g d))

pub unsigned_abs_quot : (z : ℤ) (g : ℕ) → nat_abs (quot z g) ≡ nat_abs z / g
unsigned_abs_quot (pos n) g = refl
unsigned_abs_quot (negsuc n) g = omega (arith, ints)

pub cancel : (x y : ℤ) (k : ℕ) → 0 < k → x *ℤ pos k ≡ y *ℤ pos k → x ≡ y
cancel x y k h e = same_in x y (eq_of_mul-eq-mul_right k h (up x + down y) (up y + down x) (omega (arith, ints)))

pub unsigned_abs-with_sign : (z : ℤ) (k : ℕ) → nat_abs (with_sign z k) ≡ k
unsigned_abs-with_sign (pos n) k = refl
unsigned_abs-with_sign (negsuc n) k = omega (arith, ints)

-- a number times another with its sign
pub times_with_sign : (z : ℤ) (k : ℕ) → z *ℤ with_sign z k ≡ pos (k * nat_abs z)
times_with_sign (pos n) k = omega (arith, ints)
times_with_sign (negsuc n) k = simp differences (omega naturals)

pub none_zero : (z : ℤ) → (nat_abs z == 0) ≡ false → z ≢ pos 0
none_zero z h e = eqb-false (nat_abs z) 0 h (ap nat_abs e)
