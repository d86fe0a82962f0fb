-- A prime has nothing in common with a number between 0 and it. Assumes nothing.
use Rattle.std.proofs.Common.{◌≡◌, ℕ, zero, suc, ◌+◌, ◌-◌, ◌%◌, ◌<◌, ◌≤◌, Bool, true, not, ◌&&◌, eqb, ◌⊎◌, refl, subst, inl, inr, ⊎_elim, arith}
use Prim.Native.Nat.{◌∣◌}
use native.Mathlib.Nat.{le_of_dvd, pos_of_dvd_of_pos, mod-eq-zero_of_dvd}
use native.Mathlib.Decide.{ℕ_discrete}
use Rattle.std.proofs.lemmas.Bool.Decides.{Decides-eqb, Decides-not, Decides-below_and}
use Rattle.integers.specs.Divisors.{gcd, Prime}
use Rattle.integers.proofs.GcdLaws.{gcd_left, gcd_right}

pub prime_coprime : (p a : ℕ) → Prime p → 0 < a → a < p → gcd a p ≡ 1
prime_coprime p a h l m = ⊎_elim (λ e. e) (λ e. let d : gcd a p ≤ a = le_of_dvd l (gcd_left a p) in absurd (omega arith)) (h.1 (gcd a p) (gcd_right a p))

-- none of the numbers from 2 to k + 1 divides p
abbrev pub none_divides : ℕ → ℕ → Bool
none_divides p zero = true
none_divides p (suc k) = not (eqb (p % (k + 2)) 0) && none_divides p k

-- the test finds each divisor
none_at : (p k : ℕ) → none_divides p k ≡ true → (j : ℕ) → j < k → ¬ (p % (j + 2) ≡ 0)
none_at p k = (Decides-below_and (λ j. not (eqb (p % (j + 2)) 0)) (λ j. ¬ (p % (j + 2) ≡ 0)) (none_divides p) (λ j. Decides-not (eqb (p % (j + 2)) 0) (Decides-eqb (p % (j + 2)) 0)) refl (λ _. refl) k).0

pub prime_by_test : (p : ℕ) → 1 < p → none_divides p (p - 2) ≡ true → Prime p
prime_by_test p l t = (l, λ d h. go d h (ℕ_discrete d 1) (ℕ_discrete d p))
  where
    go : (d : ℕ) → d ∣ p → Dec (d ≡ 1) → Dec (d ≡ p) → (d ≡ 1) ⊎ (d ≡ p)
    go d h (yes e) g = inl e
    go d h (no e) (yes f) = inr f
    go d h (no e) (no f) =
        let top : d ≤ p = le_of_dvd (omega arith) h in
        let low : 0 < d = pos_of_dvd_of_pos h (omega arith) in
        let same : d ≡ d - 2 + 2 = omega arith in
        absurd (none_at p (p - 2) t (d - 2) (omega arith) (subst (λ (x : ℕ). p % x ≡ 0) same (mod-eq-zero_of_dvd d h)))
