-- Numbers without a divisor in common. Assumes nothing.
use Rattle.std.proofs.Common.{◌≡◌, ℕ, ◌*◌, ℤ, pos, ◌+ℤ◌, ◌*ℤ◌, neg_ℤ, nat_abs, sym, ap, ◌∙◌, subst}
use Prim.Native.Nat.{◌∣◌}
use native.Mathlib.Nat.{dvd_refl, dvd_trans, dvd-mul_left_of_dvd, eq-one_of_dvd-one, dvd-mul_left}
use Rattle.std.proofs.lemmas.Int.{unsigned_abs-mul}
use Rattle.integers.specs.Divisors.{gcd}
use Rattle.integers.proofs.GcdLaws.{gcd_left, gcd_right, gcd_dvd, gcd_unique, gcd_comm, coprime_dvd}
use Rattle.integers.specs.Signs.{quot}
use Rattle.integers.proofs.Sizes.{quot_times}
use Rattle.integers.proofs.Equations.{parts, differences, naturals, adding}

-- what divides both of two such numbers is 1
pub coprime_common : (a b k : ℕ) → gcd a b ≡ 1 → k ∣ a → k ∣ b → k ≡ 1
coprime_common a b k e h j = eq-one_of_dvd-one (subst (λ (x : ℕ). k ∣ x) e (gcd_dvd a b k h j))

-- what divides one of them has nothing in common with what divides the other
pub coprime_parts : (a b c d : ℕ) → gcd a b ≡ 1 → c ∣ a → d ∣ b → gcd c d ≡ 1
coprime_parts a b c d e h j = coprime_common a b (gcd c d) e (dvd_trans (gcd c d) (gcd_left c d) h) (dvd_trans (gcd c d) (gcd_right c d) j)

-- a factor that has nothing in common with a number adds nothing to what the other factor has in common with it
pub gcd_times_coprime : (a b c : ℕ) → gcd a b ≡ 1 → gcd a (b * c) ≡ gcd a c
gcd_times_coprime a b c e =
    gcd_unique a c k (
      gcd_left a (b * c),
      coprime_dvd b k c (coprime_parts b a b k (gcd_comm b a ∙ e) (dvd_refl b) (gcd_left a (b * c))) (gcd_right a (b * c)),
      λ d h j. gcd_dvd a (b * c) d h (dvd-mul_left_of_dvd d j b),
    )
  where
    k : ℕ
    k = gcd a (b * c)

-- nor has it anything in common with a product of two such
pub coprime_times : (a b c : ℕ) → gcd a b ≡ 1 → gcd a c ≡ 1 → gcd a (b * c) ≡ 1
coprime_times a b c e f = gcd_times_coprime a b c e ∙ f

pub coprime_four : (a b c d : ℕ) → gcd a c ≡ 1 → gcd a d ≡ 1 → gcd b c ≡ 1 → gcd b d ≡ 1 → gcd (a * b) (c * d) ≡ 1
coprime_four a b c d e f h j = gcd_comm _ _ ∙ coprime_times (c * d) a b (gcd_comm _ _ ∙ coprime_times a c d e f) (gcd_comm _ _ ∙ coprime_times b c d h j)

-- a number divides the size of each of its multiples
pub dvd_multiple : (d : ℕ) (z k : ℤ) → z ≡ k *ℤ pos d → d ∣ nat_abs z
dvd_multiple d z k e = subst (λ (x : ℕ). d ∣ x) (sym (ap nat_abs e ∙ unsigned_abs-mul k (pos d))) (dvd-mul_left d (nat_abs k))

-- what divides a sum and one part of it divides the other part
pub dvd_other : (d : ℕ) (x y : ℤ) → d ∣ nat_abs (x +ℤ y) → d ∣ nat_abs y → d ∣ nat_abs x
dvd_other d x y h j = dvd_multiple d x (q +ℤ neg_ℤ r)
    (adding (pos 1) (quot_times (x +ℤ y) d h) (adding (neg_ℤ (pos 1)) (quot_times y d j) (rw (parts q, parts r, parts x, parts y) (simp differences (omega naturals)))))
  where
    q : ℤ
    q = quot (x +ℤ y) d

    r : ℤ
    r = quot y d

-- a multiple of a number adds nothing to what a sum has in common with it
pub coprime_plus : (x y : ℤ) (b : ℕ) → gcd (nat_abs x) b ≡ 1 → b ∣ nat_abs y → gcd (nat_abs (x +ℤ y)) b ≡ 1
coprime_plus x y b e h = coprime_common (nat_abs x) b k e (dvd_other k x y (gcd_left (nat_abs (x +ℤ y)) b) (dvd_trans k right h)) right
  where
    k : ℕ
    k = gcd (nat_abs (x +ℤ y)) b

    right : k ∣ b
    right = gcd_right (nat_abs (x +ℤ y)) b
