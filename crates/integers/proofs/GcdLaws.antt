-- What the greatest common divisor is: it divides both, and what divides both divides it. Assumes nothing.
use Rattle.std.proofs.Common.{◌≡◌, ℕ, zero, suc, ◌+◌, ◌*◌, ◌/◌, ◌%◌, ◌<◌, sym, refl, ap, ◌∙◌, subst, mod-lt, one-mul, mul-one, arith}
use Prim.Native.Nat.{◌∣◌}
use native.Mathlib.Nat.{dvd-add_iff_right, dvd-mul_right_of_dvd, div-add-mod, pos_of_dvd_of_pos, mul-div_cancel', div-mul_cancel, mul-dvd-mul_left, dvd-mul_right, dvd_of_mul-dvd-mul_left, eq-one_of_dvd-one}
use Rattle.std.specs.Int.{IsGcd}
use Rattle.std.proofs.lemmas.Nat.Gcd.{IsGcd-from_zero, IsGcd-from_mod, IsGcd-swap, same_from_IsGcd}
use Rattle.integers.specs.Divisors.{gcd, gcd_by}

-- ---- by Euclid's rule
by_rule : (k a b : ℕ) → b < k → IsGcd a b (gcd_by k a b)
by_rule zero a b h = absurd (omega arith)
by_rule (suc k) a zero h = IsGcd-from_zero a 0 refl
by_rule (suc k) a (suc b) h =
    let m : a % suc b < suc b = mod-lt a {m = suc b} (omega arith) in
    IsGcd-from_mod a (suc b) (gcd_by k (suc b) (a % suc b)) (by_rule k (suc b) (a % suc b) (omega arith))

pub gcd_is_greatest : (a b : ℕ) → IsGcd a b (gcd a b)
unfolding gcd
gcd_is_greatest a b = by_rule (suc b) a b (omega arith)

pub gcd_left : (a b : ℕ) → gcd a b ∣ a
gcd_left a b = (gcd_is_greatest a b).0

pub gcd_right : (a b : ℕ) → gcd a b ∣ b
gcd_right a b = (gcd_is_greatest a b).1

-- what divides both divides the greatest
pub gcd_dvd : (a b c : ℕ) → c ∣ a → c ∣ b → c ∣ gcd a b
gcd_dvd a b = (gcd_is_greatest a b).2

-- a number that divides both, and that all that divides both divides, is the greatest
pub gcd_unique : (a b g : ℕ) → IsGcd a b g → g ≡ gcd a b
gcd_unique a b g h = same_from_IsGcd a b g (gcd a b) h (gcd_is_greatest a b)

pub gcd_comm : (a b : ℕ) → gcd a b ≡ gcd b a
gcd_comm a b = gcd_unique b a (gcd a b) (IsGcd-swap a b (gcd a b) (gcd_is_greatest a b))

pub gcd_zero : (a : ℕ) → gcd a 0 ≡ a
unfolding gcd
gcd_zero a = refl

-- nothing but 1 divides 1
pub gcd_one : (a : ℕ) → gcd a 1 ≡ 1
gcd_one a = eq-one_of_dvd-one (gcd_right a 1)

-- the step of Euclid's rule
pub gcd-mod : (a b : ℕ) → gcd (a % b) b ≡ gcd a b
gcd-mod a b = gcd_unique a b (gcd (a % b) b) (IsGcd-from_mod a b (gcd (a % b) b) (IsGcd-swap (a % b) b (gcd (a % b) b) (gcd_is_greatest (a % b) b)))

pub gcd_pos : (a b : ℕ) → 0 < b → 0 < gcd a b
gcd_pos a b h = pos_of_dvd_of_pos (gcd_right a b) h

-- what the greatest is called by another name
pub divides_both : (g a b : ℕ) → g ≡ gcd a b → (g ∣ a) × (g ∣ b)
divides_both g a b e = rw e (gcd_left a b, gcd_right a b)

-- a common divisor with a number above 0 is above 0
pub divisor_pos : (g a b : ℕ) → g ≡ gcd a b → 0 < b → 0 < g
divisor_pos g a b e h = subst (λ (x : ℕ). 0 < x) (sym e) (gcd_pos a b h)

-- ---- multiples and quotients of both
-- what divides multiples of two numbers divides that multiple of their divisor
times_by : (k a b c m : ℕ) → c ∣ a * m → c ∣ b * m → c ∣ gcd_by k a b * m
times_by zero a b c m h j = h
times_by (suc k) a zero c m h j = h
times_by (suc k) a (suc b) c m h j = times_by k (suc b) (a % suc b) c m j
    ((dvd-add_iff_right c {m = suc b * m * (a / suc b)} {n = a % suc b * m} (dvd-mul_right_of_dvd c j (a / suc b))).1 (subst (λ (x : ℕ). c ∣ x) split h))
  where
    split : a * m ≡ suc b * m * (a / suc b) + a % suc b * m
    split = omega (arith, ap (λ (x : ℕ). x * m) (div-add-mod a (suc b)))

pub gcd_times : (a b c m : ℕ) → c ∣ a * m → c ∣ b * m → c ∣ gcd a b * m
unfolding gcd
gcd_times a b c m h j = times_by (suc b) a b c m h j

-- Euclid's lemma
pub coprime_dvd : (a b m : ℕ) → gcd a b ≡ 1 → b ∣ a * m → b ∣ m
coprime_dvd a b m e h = subst (λ (x : ℕ). b ∣ x) (ap (λ (x : ℕ). x * m) e ∙ one-mul m) (gcd_times a b b m h (dvd-mul_right b m))

-- a quotient divides what it is of
pub quot_dvd : (a g : ℕ) → g ∣ a → a / g ∣ a
quot_dvd a g d = subst (λ (x : ℕ). a / g ∣ x) (div-mul_cancel g d) (dvd-mul_right (a / g) g)

pub quot_pos : (b g : ℕ) → g ∣ b → 0 < b → 0 < b / g
quot_pos b g d h = pos_of_dvd_of_pos (quot_dvd b g d) h

-- the quotients by the divisor have no common divisor
pub gcd_quotients : (a b : ℕ) → 0 < b → gcd (a / gcd a b) (b / gcd a b) ≡ 1
gcd_quotients a b h = eq-one_of_dvd-one (dvd_of_mul-dvd-mul_left k (gcd_pos a b h) (subst (λ (x : ℕ). g * k ∣ x) (sym (mul-one g)) (gcd_dvd a b (g * k) (times (gcd_left a b) (gcd_left (a / g) (b / g))) (times (gcd_right a b) (gcd_right (a / g) (b / g))))))
  where
    g : ℕ
    g = gcd a b

    k : ℕ
    k = gcd (a / g) (b / g)

    times : {x : ℕ} → g ∣ x → k ∣ x / g → g * k ∣ x
    times {x} d h = subst (λ (y : ℕ). g * k ∣ y) (mul-div_cancel' g d) (mul-dvd-mul_left k g h)

pub coprime_quotients : (a b g : ℕ) → g ≡ gcd a b → 0 < b → gcd (a / g) (b / g) ≡ 1
coprime_quotients a b g e h = rw e (gcd_quotients a b h)
