-- The remainders by a prime are a field. Assumes nothing.
use Rattle.std.proofs.Common.{◌≡◌, ℕ, zero, suc, ◌+◌, ◌*◌, ◌%◌, ◌<◌, ◌≤◌, Bool, true, false, not, ◌&&◌, eqb, ◌≢◌, ℤ, pos, ◌+ℤ◌, ◌*ℤ◌, neg_ℤ, sym, refl, ap, ◌∙◌, arith}
use Rattle.std.proofs.lemmas.Bool.Decides.{nat_tests}
use Rattle.std.proofs.lemmas.Nat.{mul-mod_second}
use Rattle.integers.specs.Divisors.{gcd, Prime}
use Rattle.integers.proofs.Primes.{prime_coprime}
use Rattle.integers.proofs.Bezout.{bezout}
use Rattle.integers.proofs.Equations.{parts, differences, naturals, adding}
use Rattle.algebra.specs.Field.{Field}
use Rattle.algebra.specs.Remainder.{Rem, first_from, zero_r, one_r, plus_r, times_r, minus_r, over_r, whole_r, heavier_r}
use Rattle.algebra.proofs.FieldLaws.{over_unique}
use Rattle.algebra.proofs.RemainderLaws.{Rem_path, Rem_set, self_of, same_of, times_of, whole_of, plus_r_comm, plus_r_assoc, plus_r_zero, plus_r_minus, times_r_comm, times_r_assoc, times_r_one, times_r_plus, one_r_zero}

-- the search finds a number where there is one
first_found : (p a k b w : ℕ) → b ≤ w → w < b + k → a * w % p ≡ 1 → a * first_from p a k b % p ≡ 1
first_found p a zero b w l m e = absurd (omega arith)
first_found p a (suc k) b w l m e = grind (arith, nat_tests, first_found p a k (suc b) w)

-- ---- the weights, over the two tests whether a value is zero
pub weight_irr : (a : Bool) → (not a && a) ≡ false
weight_irr a = grind arith

pub weight_trans : (a b c : Bool) → (not a && b) ≡ true → (not b && c) ≡ true → (not a && c) ≡ true
weight_trans a b c e f = grind arith

pub weight_neg : (a b c : Bool) → (not a && b) ≡ false → (not b && c) ≡ false → (not a && c) ≡ false
weight_neg a b c e f = grind arith

module _ (p : ℕ) (P : Prime p) where
  -- the factor of a in the combination of a and p that is 1
  inverse : (a : Rem p) → a ≢ zero_r p P.0 → (b : Rem p) × (times_r p P.0 a b ≡ one_r p P.0)
  inverse a n = (whole_r p P.0 x, same_of p P.0 _ _ (one_r p P.0) (times_of p P.0 _ _ a (whole_r p P.0 x) (self_of p a.value) (whole_of p P.0 x)) (neg_ℤ y, one))
    where
      common : gcd a.value p ≡ 1
      common = let m : a.value ≢ 0 = λ e. n (Rem_path a (zero_r p P.0) e) in prime_coprime p a.value P (omega arith) a.below

      x : ℤ
      x = (bezout a.value p).0

      y : ℤ
      y = (bezout a.value p).1

      one : pos a.value *ℤ x ≡ pos 1 +ℤ pos p *ℤ neg_ℤ y
      one = adding (neg_ℤ (pos 1)) (sym (bezout a.value p).2 ∙ ap pos common) (rw (parts x, parts y) (simp differences (omega naturals)))

  pub times_r_over : (a : Rem p) → a ≢ zero_r p P.0 → times_r p P.0 a (over_r p P.0 a) ≡ one_r p P.0
  unfolding over_r
  times_r_over a n = Rem_path (times_r p P.0 a (over_r p P.0 a)) (one_r p P.0) (mul-mod_second a.value (first_from p a.value p 0) p ∙ found)
    where
      b : (b : Rem p) × (times_r p P.0 a b ≡ one_r p P.0)
      b = inverse a n

      found : a.value * first_from p a.value p 0 % p ≡ 1
      found = let l : b.0.value < p = b.0.below in first_found p a.value p 0 b.0.value (omega arith) (omega arith) (ap (λ (x : Rem p). x.value) b.1)

  pub heavier_r_zero : (a : Rem p) → heavier_r p P.0 a (zero_r p P.0) ≡ false → a ≡ zero_r p P.0
  heavier_r_zero a e = Rem_path a (zero_r p P.0) (grind (arith, nat_tests))

  abbrev pub field_r : Field (Rem p)
  field_r = record {
    is_set = Rem_set p;
    zero = zero_r p P.0;
    one = one_r p P.0;
    plus = plus_r p P.0;
    times = times_r p P.0;
    minus = minus_r p P.0;
    over = over_r p P.0;
    heavier = heavier_r p P.0;
    plus_assoc = plus_r_assoc p P.0;
    plus_comm = plus_r_comm p P.0;
    plus_zero = plus_r_zero p P.0;
    plus_minus = plus_r_minus p P.0;
    times_assoc = times_r_assoc p P.0;
    times_comm = times_r_comm p P.0;
    times_one = times_r_one p P.0;
    times_plus = times_r_plus p P.0;
    times_over = times_r_over;
    one_zero = one_r_zero p P.0;
    heavier_irr = λ a. weight_irr (eqb a.value 0);
    heavier_trans = λ a b c. weight_trans (eqb a.value 0) (eqb b.value 0) (eqb c.value 0);
    heavier_neg = λ a b c. weight_neg (eqb a.value 0) (eqb b.value 0) (eqb c.value 0);
    heavier_zero = heavier_r_zero;
    zero_heavier = λ a. refl;
  }

  -- the reciprocal is the only value that gives 1
  pub over_by_product : (a b : Rem p) → times_r p P.0 a b ≡ one_r p P.0 → b ≡ over_r p P.0 a
  over_by_product = over_unique field_r
