-- Exact fractions are a field with a weight: heavier is what lies further from zero. Assumes nothing.
use Rattle.std.proofs.Common.{◌≡◌, ℕ, ◌*◌, ◌<◌, ◌≤◌, true, false, ℤ, ◌+ℤ◌, nat_abs, sym, ◌∙◌, mul-le-mul_right, lt_of_mul-lt-mul_right, mul-lt-mul_of_pos_right, le_of_mul-le-mul_right, arith}
use Rattle.std.proofs.lemmas.Bool.{ltb-false, le-ltb}
use Rattle.std.proofs.lemmas.Bool.Decides.{nat_tests}
use Rattle.integers.proofs.Sizes.{unsigned_abs_zero}
use Rattle.integers.proofs.Equations.{parts, differences, naturals}
use Rattle.algebra.specs.Field.{Field}
use Rattle.algebra.specs.Fraction.{Q, plus_q, times_q, minus_q, zero_q, one_q, whole_q, over_q, heavier_q}
use Rattle.algebra.proofs.FractionLaws.{plus_q_assoc, plus_q_comm, plus_q_zero, plus_q_minus, times_q_assoc, times_q_comm, times_q_one, times_q-plus_q, times_q_over, one_q_zero, Q_set, zero_num, normal_eq, normal_self}

-- sizes x / d, y / e and z / f, the first above the second and the second above the third
above_trans : (x d y e z f : ℕ) → 0 < d → 0 < f → y * d < x * e → z * e < y * f → z * d < x * f
above_trans x d y e z f hd hf h j = lt_of_mul-lt-mul_right e (omega (arith, mul-lt-mul_of_pos_right j hd, mul-lt-mul_of_pos_right h hf))

-- and none of them above the next
level_trans : (x d y e z f : ℕ) → 0 < e → x * e ≤ y * d → y * f ≤ z * e → x * f ≤ z * d
level_trans x d y e z f he h j = le_of_mul-le-mul_right {k = e} (omega (arith, mul-le-mul_right f h, mul-le-mul_right d j)) he

pub heavier_trans : (a b c : Q) → heavier_q a b ≡ true → heavier_q b c ≡ true → heavier_q a c ≡ true
heavier_trans a b c h j = let p = a.den_pos in let q = c.den_pos in grind (arith, nat_tests, above_trans)

pub heavier_neg : (a b c : Q) → heavier_q a b ≡ false → heavier_q b c ≡ false → heavier_q a c ≡ false
heavier_neg a b c h j =
    le-ltb _ _ (level_trans (nat_abs a.num) a.den (nat_abs b.num) b.den (nat_abs c.num) c.den b.den_pos (ltb-false _ _ h) (ltb-false _ _ j))

pub heavier_zero : (a : Q) → heavier_q a zero_q ≡ false → a ≡ zero_q
heavier_zero a h = zero_num a (unsigned_abs_zero a.num (omega (arith, ltb-false _ _ h)))

pub zero_heavier : (a : Q) → heavier_q zero_q a ≡ false
zero_heavier a = le-ltb (nat_abs a.num * 1) (0 * a.den) (omega arith)

abbrev pub field_q : Field Q
field_q = record {
  is_set = Q_set;
  zero = zero_q;
  one = one_q;
  plus = plus_q;
  times = times_q;
  minus = minus_q;
  over = over_q;
  heavier = heavier_q;
  plus_assoc = plus_q_assoc;
  plus_comm = plus_q_comm;
  plus_zero = plus_q_zero;
  plus_minus = plus_q_minus;
  times_assoc = times_q_assoc;
  times_comm = times_q_comm;
  times_one = times_q_one;
  times_plus = times_q-plus_q;
  times_over = times_q_over;
  one_zero = one_q_zero;
  heavier_irr = λ a. le-ltb (nat_abs a.num * a.den) (nat_abs a.num * a.den) (omega arith);
  heavier_trans = heavier_trans;
  heavier_neg = heavier_neg;
  heavier_zero = heavier_zero;
  zero_heavier = zero_heavier;
}

-- the whole numbers among them
pub whole_q_plus : (x y : ℤ) → whole_q (x +ℤ y) ≡ plus_q (whole_q x) (whole_q y)
unfolding plus_q
whole_q_plus x y =
    sym (normal_eq _ _ _ (x +ℤ y) 1 _ (rw (parts x, parts y) (simp differences (omega naturals))) ∙ normal_self (whole_q (x +ℤ y)))
